-- How calls end that write one text after another to a sink.
use Rattle.std.proofs.Common.{◌≡◌, ℕ, ◌+◌, ◌<◌, List, [], ◌++◌, length, take, Option, Some, None}
use Rattle.std.proofs.Common.{Result, Ok, Err, refl, sym, ap, subst, ◌∙◌, arith}
use Rattle.std.proofs.Math.Seq.{take-append-add}
use Rattle.std.proofs.lemmas.List.{append-nil, length-append, take-append-le}
use Rattle.std.specs.Prelude.{OnErr, OnOk}
use Rattle.dp_io.specs.Shown.{HasRisen, NoneFailed, Shown, Took}
use Rattle.dp_io.specs.Streams.{Grew}
use Rattle.dp_io.specs.declared.stream.Failed.{Failed}
use Rattle.dp_io.proofs.Grown.{Grew-append}
use Rattle.sensor_vote.specs.Steps.{EndsSending, TookFront}

-- a sink that showed this
abbrev pub showed : Option (List ℕ) → Option (List ℕ) → ℕ → ℕ → Shown
showed before after faults_before faults_after = record {
  before = before;
  after = after;
  faults_before = faults_before;
  faults_after = faults_after;
}

pub grew-none : (taken : Option (List ℕ)) → Grew taken taken []
grew-none (Some bytes) = ap Some (sym (append-nil bytes))
grew-none None = refl

-- one piece was handed over
pub sent-all : (result : Result (Unit {0}) Failed) (sink : Shown) (text : List ℕ)
    → OnOk result (Took sink text)
    → OnErr result ((n : ℕ) × (n < length text) × Grew sink.before sink.after (take n text))
    → OnErr result (HasRisen sink) → OnOk result (NoneFailed sink)
    → EndsSending result sink text
sent-all (Ok done) sink text whole part failed same =
    record { whole = (whole, same); part = tt }
sent-all (Err fault) sink text whole part failed same = record {
  whole = tt;
  part = (record { count = part.0; part = part.1; took = part.2 }, failed);
}

-- what such a call counts
pub sent-fine : (result : Result (Unit {0}) Failed) (sink : Shown) (text : List ℕ)
    → EndsSending result sink text → OnOk result (NoneFailed sink)
sent-fine (Ok done) sink text ends = ends.whole.1
sent-fine (Err fault) sink text ends = tt

pub sent-risen : (result : Result (Unit {0}) Failed) (sink : Shown) (text : List ℕ)
    → EndsSending result sink text → OnErr result (HasRisen sink)
sent-risen (Ok done) sink text ends = tt
sent-risen (Err fault) sink text ends = ends.part.1

-- nothing was to be written
pub sent-none : (taken : Option (List ℕ)) (faults : ℕ)
    → EndsSending (Ok tt) (showed taken taken faults faults) []
sent-none taken faults = record { whole = (grew-none taken, refl); part = tt }

-- of the first of two texts some was taken
front-first : (sink : Shown) (x y : List ℕ) → TookFront sink x → TookFront sink (x ++ y)
front-first sink x y front = record {
  count = front.count;
  part = omega (arith, front.part, length-append x y);
  took = subst (λ (t : List ℕ). Grew sink.before sink.after t)
      (sym (take-append-le front.count x y (omega (arith, front.part)))) front.took;
}

-- the first was taken whole, and some of the second
front-second : (before middle after : Option (List ℕ)) (n m k : ℕ) (x y : List ℕ)
    → Grew before middle x → TookFront (showed middle after m k) y
    → TookFront (showed before after n k) (x ++ y)
front-second before middle after n m k x y first front = record {
  count = length x + front.count;
  part = omega (arith, front.part, length-append x y);
  took = subst (λ (t : List ℕ). Grew before after t) (sym (take-append-add x y front.count))
      (Grew-append before middle after x (take front.count y) first front.took);
}

-- the first text failed
pub sent-first : (fault other : Failed) (sink : Shown) (x y : List ℕ)
    → EndsSending (Err other) sink x → EndsSending (Err fault) sink (x ++ y)
sent-first fault other sink x y ends = record {
  whole = tt;
  part = (front-first sink x y ends.part.0, ends.part.1);
}

-- the first was written, and then the second
pub sent-both : (result : Result (Unit {0}) Failed) (done : Unit {0})
    (before middle after : Option (List ℕ)) (n m k : ℕ) (x y : List ℕ)
    → EndsSending (Ok done) (showed before middle n m) x
    → EndsSending result (showed middle after m k) y
    → EndsSending result (showed before after n k) (x ++ y)
sent-both (Ok all) done before middle after n m k x y first second = record {
  whole = (
    Grew-append before middle after x y first.whole.0 second.whole.0,
    second.whole.1 ∙ first.whole.1,
  );
  part = tt;
}
sent-both (Err fault) done before middle after n m k x y first second = record {
  whole = tt;
  part = (
    front-second before middle after n m k x y first.whole.0 second.part.0,
    omega (arith, first.whole.1, second.part.1),
  );
}

-- the same text, spelled otherwise
pub sent-as : (result : Result (Unit {0}) Failed) (sink : Shown) (text other : List ℕ)
    → text ≡ other → EndsSending result sink text → EndsSending result sink other
sent-as result sink text other is sent =
    subst (λ (t : List ℕ). EndsSending result sink t) is sent
