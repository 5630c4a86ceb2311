-- Words that name a drill ask for one, or have no form.
use Rattle.std.proofs.Common.{◌≡◌, ℕ, List, [], ◌∷◌, ◌⊎◌, true, Result, Ok, Err, refl, sym, ◌∙◌, ap}
use Rattle.std.proofs.Common.{codes, inl, inr}
use Rattle.dp_io.specs.Shown.{NoneFailed, Shown}
use Rattle.dp_words.specs.Words.{form_of}
use Rattle.dp_words.specs.declared.form.Form.{Form}
use Rattle.dp_words.specs.declared.form.Form.TheVariants.{Capability, Check, Drill, Replay, Run}
use Rattle.dp_words.specs.declared.form.Form.TheVariants.{Vote}
use Rattle.dp_words.specs.declared.status.RunStatus.{RunStatus}
use Rattle.dp_words.specs.declared.status.RunStatus.TheVariants.{Clear, NoMemory, Usage, WriteFault}
use Rattle.dp_words.proofs.Commands.{differ, drill-other, no-other}
use Rattle.drill_session.specs.Calls.{Drills, HasNoForm, names_drill}
use Rattle.drill_session.specs.Drills.{WritesSummary}

-- words that name a drill and have another form have none, for the words after the first
pub other-words : (words : List (List ℕ)) (read : Result Form ℕ) → names_drill words ≡ true
    → read ≡ form_of words → ((seed size : ℕ) → read ≡ Ok (Drill seed size) → ⊥)
    → form_of words ≡ Err 3
other-words [] read named is other = absurd (cc)
other-words (command ∷ words) (Ok (Drill seed size)) named is other =
    absurd (other seed size refl)
other-words (command ∷ words) (Ok (Run plant sensors operators workers)) named is other =
    absurd (no-other command words (codes "drill") (Run plant sensors operators workers) named
    (differ (codes "drill") (codes "run") refl) (sym is))
other-words (command ∷ words) (Ok (Replay plant telegrams)) named is other =
    absurd (no-other command words (codes "drill") (Replay plant telegrams) named
    (differ (codes "drill") (codes "replay") refl) (sym is))
other-words (command ∷ words) (Ok (Check plant demand json)) named is other =
    absurd (no-other command words (codes "drill") (Check plant demand json) named
    (differ (codes "drill") (codes "check") refl) (sym is))
other-words (command ∷ words) (Ok (Vote telegrams report)) named is other =
    absurd (no-other command words (codes "drill") (Vote telegrams report) named
    (differ (codes "drill") (codes "vote") refl) (sym is))
other-words (command ∷ words) (Ok (Capability plant demand)) named is other =
    absurd (no-other command words (codes "drill") (Capability plant demand) named
    (differ (codes "drill") (codes "capability") refl) (sym is))
other-words (command ∷ words) (Err kind) named is other =
    sym is ∙ ap Err (drill-other command words kind named (sym is))

-- nothing is written where they have none
pub no-form : (words : List (List ℕ)) (kind : ℕ) (out : Shown) → form_of words ≡ Err kind
    → out.after ≡ out.before → NoneFailed out → HasNoForm words (Usage kind) out
no-form words kind out none unwritten no_fault = record {
  kind = kind;
  none = none;
  usage = refl;
  unwritten = unwritten;
  no_fault = no_fault;
}

-- a drill doesn't end as faulty words do
not-usage : (status : RunStatus) (seed size : ℕ) (out : Shown) (kind : ℕ)
    → WritesSummary status seed size out → status ≡ Usage kind → ⊥
not-usage Clear seed size out kind wrote is = cc
not-usage WriteFault seed size out kind wrote is = cc
not-usage NoMemory seed size out kind wrote is = cc
not-usage status seed size out kind wrote is = wrote

usage-is : (one other : ℕ) → Usage one ≡ Usage other → one ≡ other
usage-is one other is = cc

-- the words are told to be faulty exactly where they have no form
pub usage-where : (words : List (List ℕ)) (status : RunStatus) (out : Shown) (kind : ℕ)
    → Drills words status out ⊎ HasNoForm words status out
    → (status ≡ Usage kind → form_of words ≡ Err kind)
    × (form_of words ≡ Err kind → status ≡ Usage kind)
usage-where words status out kind (inl drills) = (
  λ is. absurd (not-usage status drills.seed drills.size out kind drills.ends.wrote is),
  λ is. absurd (cc (drills.asked, is)),
)
usage-where words status out kind (inr none) = (
  λ is. none.none ∙ ap Err (usage-is none.kind kind (sym none.usage ∙ is)),
  λ is. cc (none.usage, none.none, is),
)
