-- How calls end that write a text to a sink: at a fault, and after one text and then another.
use Rattle.std.proofs.Common.{◌≡◌, ℕ, ◌≤◌, List, ◌++◌, Option, Result, Ok, Err, inl, inr, refl}
use Rattle.std.proofs.Common.{arith, ◌∙◌}
use Rattle.dp_io.specs.Streams.{Grew}
use Rattle.dp_io.proofs.Grown.{Grew-append}
use Rattle.dp_words.specs.declared.status.RunStatus.{RunStatus}
use Rattle.dp_words.specs.declared.status.RunStatus.TheVariants.{NoMemory, WriteFault}
use Rattle.dp_io.specs.Shown.{HasRisen, Shown, TookPart}
use Rattle.dp_words.specs.Writing.{EndsText}
use Rattle.dp_words.proofs.Parts.{part-front, part-back}

-- a sink that showed this
abbrev pub showed : Option (List ℕ) → Option (List ℕ) → ℕ → ℕ → Shown
showed before after faults_before faults_after = record {
  before = before;
  after = after;
  faults_before = faults_before;
  faults_after = faults_after;
}

-- a write failed
pub text-failed : (result : Result (Unit {0}) RunStatus) (sink : Shown) (text : List ℕ)
    → result ≡ Err WriteFault
    → TookPart sink text → HasRisen sink → sink.faults_before ≤ sink.faults_after
    → EndsText result sink text
text-failed result sink text is part risen counted =
    rw is (record {
      whole = tt;
      part = part;
      writing = record {
        failed = λ e. risen;
        errors = inl refl;
        no_fault = tt;
        counted = counted;
      };
    })

-- memory ran out
pub text-starved : (result : Result (Unit {0}) RunStatus) (sink : Shown) (text : List ℕ)
    → result ≡ Err NoMemory
    → TookPart sink text → sink.faults_before ≤ sink.faults_after → EndsText result sink text
text-starved result sink text is part counted =
    rw is (record {
      whole = tt;
      part = part;
      writing = record { failed = λ e. cc; errors = inr refl; no_fault = tt; counted = counted };
    })

-- the first of two texts was stopped
pub text-front : (status : RunStatus) (sink : Shown) (first second : List ℕ)
    → EndsText (Err status) sink first
    → EndsText (Err status) sink (first ++ second)
text-front status sink first second ends = record {
  whole = tt;
  part = part-front sink.before sink.after first second ends.part;
  writing = ends.writing;
}

-- the first was taken whole, and then the second was written
pub text-back : (result : Result (Unit {0}) RunStatus) (before middle after : Option (List ℕ))
    (n m k : ℕ)
    (first second : List ℕ) → Grew before middle first → m ≡ n
    → EndsText result (showed middle after m k) second
    → EndsText result (showed before after n k) (first ++ second)
text-back (Ok done) before middle after n m k first second took same ends = record {
  whole = Grew-append before middle after first second took ends.whole;
  part = tt;
  writing = record {
    failed = λ e. cc;
    errors = tt;
    no_fault = ends.writing.no_fault ∙ same;
    counted = omega (arith, same, ends.writing.counted);
  };
}
text-back (Err status) before middle after n m k first second took same ends = record {
  whole = tt;
  part = part-back before middle after first second took ends.part;
  writing = record {
    failed = λ fault. omega (arith, same, ends.writing.failed fault);
    errors = ends.writing.errors;
    no_fault = tt;
    counted = omega (arith, same, ends.writing.counted);
  };
}
