-- The points so far, and those of the rest of the walk, are those of the whole run.
use Rattle.std.proofs.Common.{◌≡◌, ◌<◌, ◌-◌, ◌++◌, length, map}
use Rattle.plant_model.specs.Rings.{point_at}
use Rattle.thrust_region.proofs.Runs.{begins_at, walk}
use Rattle.thrust_region.proofs.cutting.run_from.Given as goal

abbrev pub invariant-loop : goal.invariant-loop
invariant-loop l = record {
  place : l.place < length l.ring;
  counted : length l.run.items ≡ l.counter;
  whole : l.run.items ++ map (point_at l.ring)
      (walk (begins_at l.sectors) (length l.ring) (length l.ring - l.counter) l.place)
      ≡ map (point_at l.ring) (walk (begins_at l.sectors) (length l.ring) (length l.ring) l.start);
}
