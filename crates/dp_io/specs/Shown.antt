-- What sources and sinks showed in a call.
use Rattle.std.specs.Prelude.{◌≡◌, ℕ, List, [], Option, take, IfSome}
use Rattle.dp_io.specs.Streams.{Rose, Grew}
use Rattle.dp_io.specs.declared.stream.Source as Sources
use Rattle.dp_io.specs.declared.stream.Sink as Sinks

-- what a source or a sink showed of its bytes and its faults, before a call and after it
pub record Shown : Type 0 where
  pub before : Option (List ℕ)
  pub after : Option (List ℕ)
  pub faults_before : ℕ
  pub faults_after : ℕ

-- what a source shows from one moment to another
abbrev pub reading : {S : Type 0} → Sources.Ghosts S → S → S → Shown
reading source old new = record {
  before = source.left old;
  after = source.left new;
  faults_before = source.faults old;
  faults_after = source.faults new;
}

-- what a sink shows from one moment to another
abbrev pub writing : {S : Type 0} → Sinks.Ghosts S → S → S → Shown
writing sink old new = record {
  before = sink.taken old;
  after = sink.taken new;
  faults_before = sink.faults old;
  faults_after = sink.faults new;
}

-- its count of faults rose
abbrev pub HasRisen : Shown → Type 0
HasRisen shown = Rose shown.faults_before shown.faults_after

-- its count of faults is what it was
abbrev pub NoneFailed : Shown → Type 0
NoneFailed shown = shown.faults_after ≡ shown.faults_before

-- the source has no byte left, if it tells its bytes
abbrev pub IsEmptied : Shown → Type 0
IsEmptied source = IfSome source.after (λ left. left ≡ [])

-- what was taken grew by the first bytes of the text
abbrev pub GrewInPart : Option (List ℕ) → Option (List ℕ) → List ℕ → Type 0
GrewInPart before after text = (count : ℕ) × Grew before after (take count text)

-- a sink took the text
abbrev pub Took : Shown → List ℕ → Type 0
Took sink text = Grew sink.before sink.after text

-- a sink took the first bytes of the text
abbrev pub TookPart : Shown → List ℕ → Type 0
TookPart sink text = GrewInPart sink.before sink.after text
