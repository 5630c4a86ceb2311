-- A clone of a plant's parts is those parts.
use Rattle.std.proofs.Common.{◌≡◌, Option, Some, None, refl, ap}
use Rattle.std.proofs.lemmas.List.Elements.{same_from_all_zip}
use Rattle.plant_model.specs.declared.parts.Tie.{Tie}
use Rattle.plant_model.specs.declared.parts.Generator.{Generator}
use Rattle.plant_model.specs.declared.parts.Thruster.{Thruster}
use Rattle.plant_model.specs.declared.parts.Group.{Group}
use Rattle.plant_model.specs.declared.plant.Parts.{Parts}
use Rattle.plant_model.specs.declared.thrust.Piece.{Piece}
use Rattle.plant_model.specs.declared.thrust.Point.{Point}
use Rattle.plant_model.specs.contracts.parts.TieClone.TheImpl.{is_clone-value as tie_clone}
use Rattle.plant_model.specs.contracts.parts.GeneratorClone.TheImpl.{is_clone-value as generator_clone}
use Rattle.plant_model.specs.contracts.parts.ThrusterClone.TheImpl.{is_clone-value as thruster_clone}
use Rattle.plant_model.specs.contracts.parts.GroupClone.TheImpl.{is_clone-value as group_clone}
use Rattle.plant_model.specs.contracts.plant.PartsClone.TheImpl.{is_clone-value as parts_clone}
use Rattle.plant_model.specs.contracts.thrust.PieceClone.TheImpl.{is_clone-value as piece_clone}

tie-is : (x y : Tie) → tie_clone.it x y → y ≡ x
tie-is x y is = λ i. record { name = is.0 i; first = is.1.0 i; second = is.1.1 i }

generator-is : (x y : Generator) → generator_clone.it x y → y ≡ x
generator-is x y is = λ i. record { name = is.0 i; section = is.1.0 i; power = is.1.1 i }

piece-is : (x y : Piece) → piece_clone.it x y → y ≡ x
piece-is x y is =
    let points = same_from_all_zip _ x.points.items y.points.items is (λ p q same. same) in
    λ i. record { points = record { items = points i } }

option-is : {A : Type 0} (Is : Option A → Option A → Type 0) → ((a : A) → Is None (Some a) → ⊥)
    → ((a : A) → Is (Some a) None → ⊥) → ((a b : A) → Is (Some a) (Some b) → b ≡ a)
    → (x y : Option A) → Is x y → y ≡ x
option-is Is none_some some_none same None None is = refl
option-is Is none_some some_none same None (Some a) is = absurd (none_some a is)
option-is Is none_some some_none same (Some a) None is = absurd (some_none a is)
option-is Is none_some some_none same (Some a) (Some b) is = ap Some (same a b is)

thruster-is : (x y : Thruster) → thruster_clone.it x y → y ≡ x
thruster-is x y is =
    let more = is.1.1.1.1 in
    let ring = same_from_all_zip _ x.ring.points.items y.ring.points.items more.1.0
    (λ p q same. same) in
    let sectors = same_from_all_zip _ x.sectors.items y.sectors.items more.1.1.0
    (λ p q same. same) in
    let pieces = same_from_all_zip _ x.pieces.list.items y.pieces.list.items more.1.1.1.0
    piece-is in
    let frozen = option-is
    (λ p q. thruster_clone.it (record x { frozen = p }) (record y { frozen = q }))
    (λ q other. other.1.1.1.1.1.1.1.1) (λ p other. other.1.1.1.1.1.1.1.1)
    (λ p q same. same.1.1.1.1.1.1.1.1) x.frozen y.frozen is in
    λ i. record {
      name = is.0 i;
      section = is.1.0 i;
      lever = is.1.1.0 i;
      rated = is.1.1.1.0 i;
      thresholds = more.0 i;
      ring = record { points = record { items = ring i } };
      sectors = record { items = sectors i };
      pieces = record { list = record { items = pieces i } };
      frozen = frozen i;
    }

group-is : (x y : Group) → group_clone.it x y → y ≡ x
group-is x y is =
    let members = same_from_all_zip _ x.members.items y.members.items is.1 (λ m n same. same) in
    λ i. record { name = is.0 i; members = record { items = members i } }

pub parts-is : (x y : Parts) → parts_clone.it x y → y ≡ x
parts-is x y is =
    let more = is.1.1.1.1 in
    let sections = same_from_all_zip _ x.sections.items y.sections.items more.0
    (λ m n same. same) in
    let ties = same_from_all_zip _ x.ties.items y.ties.items more.1.0 tie-is in
    let generators = same_from_all_zip _ x.generators.items y.generators.items more.1.1.0
    generator-is in
    let thrusters = same_from_all_zip _ x.thrusters.items y.thrusters.items more.1.1.1.0
    thruster-is in
    let groups = same_from_all_zip _ x.groups.items y.groups.items more.1.1.1.1.0 group-is in
    λ i. record {
      name = is.0 i;
      band = is.1.0 i;
      gains = is.1.1.0 i;
      wind = is.1.1.1.0 i;
      sections = record { items = sections i };
      ties = record { items = ties i };
      generators = record { items = generators i };
      thrusters = record { items = thrusters i };
      groups = record { items = groups i };
      opening = more.1.1.1.1.1 i;
    }
