use Rattle.std.proofs.Common.{◌≡◌, ◌∙◌, length, map, true, ap, sym, arith, rules}
use Rattle.std.proofs.lemmas.List.{length-map}
use Rattle.std.specs.List.{list_all}
use Rattle.toml.specs.View.{view}
use Rattle.plant_model.specs.declared.limits.TheConstants.{THRESHOLDS}
use Rattle.plant_file.specs.declared.fault.Key.TheVariants as key
use Rattle.plant_file.specs.declared.kind.Kind.TheVariants as kind
use Rattle.plant_file.specs.Described.{held, list_at}
use Rattle.plant_file.specs.Documents.{is_small}
use Rattle.plant_file.specs.Keys.{needed, thruster_rows_of_1}
use Rattle.plant_file.proofs.KindLemmas.{right_at, thresholds_right}
use Rattle.plant_file.proofs.SmallLemmas.{thresholds_small}
use Rattle.plant_file.proofs.thruster.thresholds.Goals as goal

pub numbers-requires : goal.numbers-requires
numbers-requires c =
    let d = view c.args.element.now in
    let values = c.list_at.result.now in
    let row = needed key.Thresholds kind.Thresholds in
    let right = right_at thruster_rows_of_1 4 row d (omega arith) c.requires in
    let whole = thresholds_right key.Thresholds (held key.Thresholds d) right in
    let long : length values ≡ THRESHOLDS =
    sym (length-map values view) ∙ ap length c.list_at.ensures ∙ whole.0 in
    let small : list_all is_small (map view values) ≡ true =
    ap (list_all is_small) c.list_at.ensures
    ∙ thresholds_small 1 (list_at key.Thresholds d) whole.1 in
    (search rules, (long, small))
