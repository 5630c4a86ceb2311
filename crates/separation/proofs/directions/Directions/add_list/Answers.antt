use Rattle.std.proofs.Common.{◌≡◌, ℕ, zero, suc, ◌+◌, ◌≤◌, ap, sym, arith, length, List, map}
use Rattle.std.proofs.Common.{subst, true, false, refl}
use Rattle.wrench_geometry.specs.declared.vector.Vec3.{Vec3}
use Rattle.wrench_geometry.specs.Directions.{differences_of, directions_in, edges_of}
use Rattle.wrench_geometry.specs.Fans.{is_fan, thrust_of}
use Rattle.separation.specs.Directions.{SettlesDifferences, SettlesEdges}
use Rattle.separation.proofs.DirectionLists.{eight_differences, keeps_greatest}
use Rattle.separation.proofs.EdgeLists.{fan_keeps}
use Rattle.separation.proofs.directions.Directions.add_list.Goals as goal

marked : (list : List Vec3) → is_fan (map thrust_of list) ≡ true →
    directions_in list ≡ edges_of (length list)
marked list e = rw e refl

unmarked : (list : List Vec3) → is_fan (map thrust_of list) ≡ false →
    directions_in list ≡ differences_of (length list)
unmarked list e = rw e refl

few_edges : (m : ℕ) → m ≤ 8 → edges_of m ≤ 36
few_edges zero h = omega arith
few_edges (suc m) h = omega arith

as_many : (start k : ℕ) {after n m : ℕ} → after ≤ start + k → k ≡ n → n ≡ m → after ≤ start + m
as_many start k {after} {n} {m} h e f = omega arith

at_most : (start k : ℕ) {after : ℕ} → after ≤ start + k → k ≤ 36 → after ≤ start + 36
at_most start k {after} h f = omega arith

pub returns-then-is_fan-clause-greatest : goal.returns-then-is_fan-clause-greatest
returns-then-is_fan-clause-greatest c =
    let after = c.add_edges.new.self in
    let list = c.args.images.now in
    fan_keeps after list c.if-is_fan.ensures.one_lever (sym c.if-is_fan.ensures.fan)
    (subst (SettlesEdges after) c.as_slice.ensures.value c.add_edges.ensures.settled)

pub returns-then-is_fan-clause-few : goal.returns-then-is_fan-clause-few
returns-then-is_fan-clause-few c =
    as_many (length c.args.self.now) (edges_of (length c.as_slice.result.now)) c.add_edges.ensures.few
    (ap (λ (l : List Vec3). edges_of (length l)) c.as_slice.ensures.value)
    (sym (marked c.args.images.now (sym c.if-is_fan.ensures.fan)))

pub returns-then-is_fan-clause-few_at_all : goal.returns-then-is_fan-clause-few_at_all
returns-then-is_fan-clause-few_at_all c =
    at_most (length c.args.self.now) (edges_of (length c.as_slice.result.now)) c.add_edges.ensures.few
    (few_edges (length c.as_slice.result.now) c.as_slice.ensures.fits)

pub returns-else-is_fan-clause-greatest : goal.returns-else-is_fan-clause-greatest
returns-else-is_fan-clause-greatest c =
    let after = c.add_differences.new.self in
    let list = c.args.images.now in
    keeps_greatest after list
    (subst (SettlesDifferences after) c.as_slice-else-is_fan.ensures.value c.add_differences.ensures.settled)

pub returns-else-is_fan-clause-few : goal.returns-else-is_fan-clause-few
returns-else-is_fan-clause-few c =
    as_many (length c.args.self.now) (differences_of (length c.as_slice-else-is_fan.result.now)) c.add_differences.ensures.few
    (ap (λ (l : List Vec3). differences_of (length l)) c.as_slice-else-is_fan.ensures.value)
    (sym (unmarked c.args.images.now (sym c.if-is_fan.ensures.fan)))

pub returns-else-is_fan-clause-few_at_all : goal.returns-else-is_fan-clause-few_at_all
returns-else-is_fan-clause-few_at_all c =
    at_most (length c.args.self.now) (differences_of (length c.as_slice-else-is_fan.result.now)) c.add_differences.ensures.few
    (eight_differences (length c.as_slice-else-is_fan.result.now) c.as_slice-else-is_fan.ensures.fits)
