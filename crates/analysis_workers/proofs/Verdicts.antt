-- What a worker adds are verdicts.
use Rattle.std.proofs.Common.{ℕ, ◌+◌, List, [], ◌∷◌, inl, inr, sym, subst}
use Rattle.std.proofs.lemmas.List.Elements.{All-cons, All-head, All-nil, All-tail}
use Rattle.plant_model.specs.declared.plant.Parts.{Parts}
use Rattle.plant_core.specs.declared.call.Entry.{Entry}
use Rattle.analysis_jobs.specs.declared.job.Job.{Job}
use Rattle.analysis_jobs.specs.declared.job.Job.TheVariants.{Analyse, Stop}
use Rattle.analysis_workers.specs.Sweeps.{AreShownBetween}
use Rattle.analysis_workers.specs.Verdicts.{ArePublished, AreVerdicts, IsPublish, IsVerdict}
use Rattle.analysis_workers.specs.Works.{AreWorked, IsVerdictFor}

verdict-for : (plant : Parts) (caller : ℕ) (job : Job) (entry : Entry)
    → IsVerdictFor plant caller job entry → IsVerdict plant caller entry
verdict-for plant caller (Analyse version group) entry is =
    record { version = version; group = group; is = is }
verdict-for plant caller Stop entry is = absurd is

-- the entries of jobs are verdicts
pub worked-verdicts : (may : Job → Type 0) (plant : Parts) (caller : ℕ) (jobs : List Job)
    (entries : List Entry) → AreWorked may plant caller jobs entries
    → AreVerdicts plant caller entries
worked-verdicts may plant caller [] entries none =
    subst (AreVerdicts plant caller) (sym none) (All-nil (IsVerdict plant caller))
worked-verdicts may plant caller (job ∷ jobs) entries (inl skipped) =
    worked-verdicts may plant caller jobs entries skipped.1
worked-verdicts may plant caller (job ∷ jobs) entries (inr one) =
    subst (AreVerdicts plant caller) (sym one.2)
    (All-cons (IsVerdict plant caller) one.0 one.1 (verdict-for plant caller job one.0 one.3)
    (worked-verdicts may plant caller jobs one.1 one.4))

-- and each verdict is a Publish
pub verdicts-published : (plant : Parts) (caller : ℕ) (entries : List Entry)
    → AreVerdicts plant caller entries → ArePublished entries
verdicts-published plant caller [] are = All-nil (λ (e : Entry). IsPublish e.call)
verdicts-published plant caller (entry ∷ entries) are =
    All-cons (λ (e : Entry). IsPublish e.call) entry entries
    (subst IsPublish (sym (All-head (IsVerdict plant caller) entry entries are).is.call) tt)
    (verdicts-published plant caller entries
    (All-tail (IsVerdict plant caller) entry entries are))

-- the session's verdicts that are shown are too
pub shown-published : (version first last : ℕ) (entries : List Entry)
    → AreShownBetween version first last entries → ArePublished entries
shown-published version first last [] are = All-nil (λ (e : Entry). IsPublish e.call)
shown-published version first last (entry ∷ entries) are =
    All-cons (λ (e : Entry). IsPublish e.call) entry entries
    (subst IsPublish (sym are.2.call) tt)
    (shown-published version (are.0 + 1) last entries are.3)
