use Rattle.std.proofs.Common.{◌≡◌, ◌∙◌, Some, ap, sym}
use Rattle.std.proofs.Common.{arith}
use Rattle.std.specs.Prelude.{option_map}
use Rattle.std.specs.Borrow.{Bor}
use Rattle.toml.specs.View.{view}
use Rattle.toml.specs.declared.value.Value.{Value}
use Rattle.plant_file.specs.declared.fault.Key.TheVariants as key
use Rattle.plant_model.specs.declared.limits.TheConstants.{MOST_THRUST}
use Rattle.plant_file.specs.Described.{held}
use Rattle.plant_file.specs.Keys.{optional, point, thruster_rows_of_1}
use Rattle.plant_file.proofs.KindLemmas.{point_within, right_at}
use Rattle.plant_file.proofs.thruster.frozen.Goals as goal

pub point-requires-clause-x : goal.point-requires-clause-x
point-requires-clause-x c =
    let d = view c.args.element.now in
    let found : held key.Frozen d ≡ Some (view c.in-Some.value.now) =
    sym c.held.ensures ∙ ap (option_map (λ (v : Bor Value). view v.now)) c.in-Some.is in
    let right =
    right_at thruster_rows_of_1 8 (optional key.Frozen (point MOST_THRUST)) d
    (omega arith) c.requires in
    let here = rw found at right in
    let within = point_within 2000 (view c.in-Some.value.now) 0 here in
    omega (arith, within)

pub point-requires-clause-y : goal.point-requires-clause-y
point-requires-clause-y c =
    let d = view c.args.element.now in
    let found : held key.Frozen d ≡ Some (view c.in-Some.value.now) =
    sym c.held.ensures ∙ ap (option_map (λ (v : Bor Value). view v.now)) c.in-Some.is in
    let right =
    right_at thruster_rows_of_1 8 (optional key.Frozen (point MOST_THRUST)) d
    (omega arith) c.requires in
    let here = rw found at right in
    let within = point_within 2000 (view c.in-Some.value.now) 1 here in
    omega (arith, within)
