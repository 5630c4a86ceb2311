-- A key stands behind its table.
use Rattle.std.proofs.Common.{ap, arith, append_assoc, codes, length, ◌++◌, ◌∙◌}
use Rattle.std.proofs.lemmas.List.{length-append}
use Rattle.plant_file.specs.Texts.{key_text, table_text}
use Rattle.dp_words.proofs.Places.{key_in_table}
use Rattle.dp_words.proofs.line.Line.path.Goals as goal

pub returns-in_default : goal.returns-in_default
returns-in_default c =
    let path = c.args.path in
    let table = table_text path.part path.index in
    let key = key_text path.key in
    let is = key_in_table path.part path.index path.key c.in_default.not-Top-0
    c.in_default.not-Whole-1 in
    let in_all = ap length c.text-in_default-3.ensures
    ∙ length-append c.text-in_default.result c.text-in_default-2.result.now in
    let to_dot = ap length c.text-in_default.ensures
    ∙ length-append c.table-in_default.result (codes ".") in
    let to_table = c.table-in_default.ensures.short in
    let of_key = c.text-in_default-2.ensures.short in
    record {
      text = rw (
        c.text-in_default-3.ensures,
        c.text-in_default.ensures,
        c.table-in_default.ensures.text,
        c.text-in_default-2.ensures.text,
        is,
      )
          (ap (λ text. text ++ key) (append_assoc c.args.self table (codes "."))
          ∙ append_assoc c.args.self (table ++ codes ".") key);
      short = omega (arith, in_all, to_dot, to_table, of_key);
    }
