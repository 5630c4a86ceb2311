use Rattle.std.proofs.Common.{Err, ap, sym, ◌∙◌, inl, inr}
use Rattle.std.proofs.lemmas.Bool.{false≢true}
use Rattle.plant_file.proofs.TextLemmas.{document_of-found, document_of-refused}
use Rattle.plant_file.proofs.reading.parse.Goals as goal
use Rattle.plant_file.proofs.reading.parse.Goals.{then-is_memory, else-is_memory}

pub returns-in-Ok : goal.returns-in-Ok
returns-in-Ok c =
    document_of-found c.args.bytes.now _ c.if-bytes-gt-MOST_PLANT_BYTES.false c.in-Ok.ensures.ok.0
    c.in-Ok.ensures.ok.1

pub returns-after-is_memory : goal.returns-after-is_memory
returns-after-is_memory c =
    elim c.if-is_memory.branch [
      | then-is_memory w ↦ inl w.result-is
      | else-is_memory w ↦
          inr
          (document_of-refused c.args.bytes.now c.if-bytes-gt-MOST_PLANT_BYTES.false
          (c.in-Err.ensures.refused
          (λ memory. false≢true (sym w.if-is_memory.false ∙ c.is_memory.ensures.1 memory)))
          ∙ ap Err (sym w.result-is))
    ]
