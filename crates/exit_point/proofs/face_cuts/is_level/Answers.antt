use Rattle.std.proofs.Common.{◌∙◌, inr, ap, sym, rules, of_z}
use Rattle.std.specs.Int.{w128}
use Rattle.std.proofs.lemmas.Bool.{eq-eqb, eqb-true}
use Rattle.exit_point.proofs.Compared.{same_of_bits}
use Rattle.exit_point.proofs.Tilts.{plain_of_image}
use Rattle.exit_point.proofs.face_cuts.is_level.Goals as goal

pub dot-requires : goal.dot-requires
dot-requires c = inr (plain_of_image c.requires.second)

pub dot-requires-2 : goal.dot-requires-2
dot-requires-2 c = inr (plain_of_image c.requires.first)

pub returns : goal.returns
returns c = (
  λ t. same_of_bits c.dot.ensures c.dot-2.ensures (search rules) (search rules)
      (eqb-true (of_z w128 c.dot.result) (of_z w128 c.dot-2.result) (search rules)),
  λ e. search (
    rules,
    eq-eqb (of_z w128 c.dot.result) (of_z w128 c.dot-2.result)
        (ap (of_z w128) (c.dot.ensures ∙ e ∙ sym c.dot-2.ensures)),
  ),
)
