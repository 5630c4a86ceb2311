use Rattle.std.proofs.Common.{[], ◌∷◌, ◌++◌, sym, subst, List}
use Rattle.std.specs.Prelude.{All, Contains}
use Rattle.std.proofs.lemmas.List.Elements.{All-contains_itself, Contains-append_left}
use Rattle.std.proofs.lemmas.List.Elements.{Contains-push}
use Rattle.wrench_geometry.specs.declared.vector.Vec3.{Vec3}
use Rattle.separation.specs.Directions.{Settles}
use Rattle.separation.proofs.DirectionLists.{all_within, settles_member}
use Rattle.separation.proofs.directions.Directions.add.Goals as goal

pub returns-then-is_along_any-clause-kept : goal.returns-then-is_along_any-clause-kept
returns-then-is_along_any-clause-kept c = All-contains_itself c.args.self.now

pub returns-clause-kept : goal.returns-clause-kept
returns-clause-kept c =
    let P : List Vec3 → Type 0 = λ after. All (Contains after) c.args.self.now in
    subst P (sym c.push.ensures)
    (all_within c.args.self.now (c.args.self.now ++ c.args.direction ∷ [])
    (λ e. Contains-append_left c.args.self.now (c.args.direction ∷ []) e))

pub returns-clause-settled : goal.returns-clause-settled
returns-clause-settled c =
    let P : List Vec3 → Type 0 = λ after. Settles after c.args.direction in
    subst P (sym c.push.ensures)
    (settles_member (c.args.self.now ++ c.args.direction ∷ []) c.args.direction
    (Contains-push c.args.self.now c.args.direction))
