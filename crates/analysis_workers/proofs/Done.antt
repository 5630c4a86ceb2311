-- Jobs with their verdicts, one job after another.
use Rattle.std.proofs.Common.{◌≡◌, ◌≢◌, ℕ, List, [], ◌∷◌, ◌++◌, length}
use Rattle.std.proofs.Common.{refl, sym, ap, ◌∙◌, arith, append_assoc, inl, inr}
use Rattle.std.proofs.Common.{All}
use Rattle.std.proofs.lemmas.List.{append-nil, length-append}
use Rattle.std.proofs.lemmas.List.Elements.{All-nil, All-push}
use mathlib.Core.List.{IsPrefix}
use Rattle.plant_model.specs.declared.plant.Parts.{Parts}
use Rattle.plant_core.specs.Machine.{IsLegal}
use Rattle.plant_core.specs.declared.call.Entry.{Entry}
use Rattle.analysis_jobs.specs.declared.job.Job.{Job}
use Rattle.analysis_jobs.specs.declared.job.Job.TheVariants.{Analyse, Stop}
use Rattle.analysis_workers.specs.Works.{AreDone, AreWorked, IsAnalyse, IsClosed, IsVerdictFor}
use Rattle.analysis_workers.specs.Works.{MaySkip}
use Rattle.analysis_workers.proofs.Numbers.{closed_ends, closed_kept, number_kept}

-- ---- entries and jobs

-- what may be skipped more
worked-more : (may may' : Job → Type 0) (plant : Parts) (caller : ℕ) (jobs : List Job)
    (entries : List Entry) → ((job : Job) → may job → may' job)
    → AreWorked may plant caller jobs entries → AreWorked may' plant caller jobs entries
worked-more may may' plant caller [] entries more are = are
worked-more may may' plant caller (job ∷ jobs) entries more (inl skipped) =
    inl (more job skipped.0, worked-more may may' plant caller jobs entries more skipped.1)
worked-more may may' plant caller (job ∷ jobs) entries more (inr one) =
    inr (one.0, one.1, one.2, one.3, worked-more may may' plant caller jobs one.1 more one.4)

-- one more job, which is skipped
worked-skip : (may : Job → Type 0) (plant : Parts) (caller : ℕ) (jobs : List Job)
    (entries : List Entry) (last : Job) → may last → AreWorked may plant caller jobs entries
    → AreWorked may plant caller (jobs ++ last ∷ []) entries
worked-skip may plant caller [] entries last skipped are = inl (skipped, are)
worked-skip may plant caller (job ∷ jobs) entries last skipped (inl first) =
    inl (first.0, worked-skip may plant caller jobs entries last skipped first.1)
worked-skip may plant caller (job ∷ jobs) entries last skipped (inr first) = inr (
  first.0,
  first.1,
  first.2,
  first.3,
  worked-skip may plant caller jobs first.1 last skipped first.4,
)

-- one more job, with its verdict
worked-one : (may : Job → Type 0) (plant : Parts) (caller : ℕ) (jobs : List Job)
    (entries : List Entry) (last : Job) (entry : Entry) → IsVerdictFor plant caller last entry
    → AreWorked may plant caller jobs entries
    → AreWorked may plant caller (jobs ++ last ∷ []) (entries ++ entry ∷ [])
worked-one may plant caller [] entries last entry verdict are =
    inr (entry, [], ap (λ (es : List Entry). es ++ entry ∷ []) are, verdict, refl)
worked-one may plant caller (job ∷ jobs) entries last entry verdict (inl first) =
    inl (first.0, worked-one may plant caller jobs entries last entry verdict first.1)
worked-one may plant caller (job ∷ jobs) entries last entry verdict (inr first) = inr (
  first.0,
  first.1 ++ entry ∷ [],
  ap (λ (es : List Entry). es ++ entry ∷ []) first.2,
  first.3,
  worked-one may plant caller jobs first.1 last entry verdict first.4,
)

-- ---- what was done so far

-- where a display has seen more, no fewer jobs may be skipped
skip-later : (plant : Parts) (limit : ℕ) (shown later : List Entry) → IsPrefix shown later
    → IsLegal plant limit later → (job : Job) → MaySkip plant shown job → MaySkip plant later job
skip-later plant limit shown later front legal (Analyse version group) (inl past) = inl past
skip-later plant limit shown later front legal (Analyse version group) (inr older) =
    inr (omega (arith, older, number_kept plant limit shown later front legal))
skip-later plant limit shown later front legal Stop skipped = skipped

pub done-none : (plant : Parts) (caller : ℕ) (shown seen : List Entry)
    → AreDone plant caller shown seen [] []
done-none plant caller shown seen = record {
  done = [];
  left = [];
  split = refl;
  worked = refl;
  analyses = All-nil IsAnalyse;
  closed = λ some. absurd (some refl);
}

-- a display has seen more, and the caller
pub done-shown : (plant : Parts) (caller limit : ℕ) (shown later seen : List Entry)
    (jobs : List Job) (entries : List Entry) → IsPrefix shown later → IsLegal plant limit later
    → AreDone plant caller shown seen jobs entries → AreDone plant caller later seen jobs entries
done-shown plant caller limit shown later seen jobs entries front legal are = record {
  done = are.done;
  left = are.left;
  split = are.split;
  analyses = are.analyses;
  closed = are.closed;
  worked = worked-more (MaySkip plant shown) (MaySkip plant later) plant caller are.done entries
      (skip-later plant limit shown later front legal) are.worked;
}

pub done-seen : (plant : Parts) (caller limit : ℕ) (shown seen later : List Entry)
    (jobs : List Job) (entries : List Entry) → IsPrefix seen later → IsLegal plant limit later
    → AreDone plant caller shown seen jobs entries → AreDone plant caller shown later jobs entries
done-seen plant caller limit shown seen later jobs entries front legal are = record {
  done = are.done;
  left = are.left;
  split = are.split;
  worked = are.worked;
  analyses = are.analyses;
  closed = λ some. closed_kept plant limit seen later front legal (are.closed some);
}

-- one more job, of which nothing is left to do
pub done-left : (plant : Parts) (caller : ℕ) (shown seen : List Entry) (jobs : List Job)
    (entries : List Entry) (job : Job) → IsAnalyse job → IsClosed plant seen
    → AreDone plant caller shown seen jobs entries
    → AreDone plant caller shown seen (jobs ++ job ∷ []) entries
done-left plant caller shown seen jobs entries job analyse closed are = record {
  done = are.done;
  left = are.left ++ job ∷ [];
  split = ap (λ (js : List Job). js ++ job ∷ []) are.split
      ∙ append_assoc are.done are.left (job ∷ []);
  worked = are.worked;
  analyses = All-push IsAnalyse are.left job are.analyses analyse;
  closed = λ some. closed;
}

done-skip_where : (plant : Parts) (caller : ℕ) (shown seen : List Entry) (jobs done left : List Job)
    (entries : List Entry) (job : Job) → IsAnalyse job → MaySkip plant shown job
    → jobs ≡ done ++ left → AreWorked (MaySkip plant shown) plant caller done entries
    → All IsAnalyse left → (left ≢ [] → IsClosed plant seen)
    → AreDone plant caller shown seen (jobs ++ job ∷ []) entries
done-skip_where plant caller shown seen jobs done [] entries job analyse may split worked analyses
    closed = record {
      done = done ++ job ∷ [];
      left = [];
      split = ap (λ (js : List Job). js ++ job ∷ []) (split ∙ append-nil done)
          ∙ sym (append-nil (done ++ job ∷ []));
      worked = worked-skip (MaySkip plant shown) plant caller done entries job may worked;
      analyses = All-nil IsAnalyse;
      closed = λ some. absurd (some refl);
    }
done-skip_where plant caller shown seen jobs done (other ∷ left) entries job analyse may split
    worked analyses closed = done-left plant caller shown seen jobs entries job analyse
    (closed (λ none. absurd (cc))) (record {
      done = done;
      left = other ∷ left;
      split = split;
      worked = worked;
      analyses = analyses;
      closed = closed;
    })

-- one more job, which may be skipped
pub done-skip : (plant : Parts) (caller : ℕ) (shown seen : List Entry) (jobs : List Job)
    (entries : List Entry) (job : Job) → IsAnalyse job → MaySkip plant shown job
    → AreDone plant caller shown seen jobs entries
    → AreDone plant caller shown seen (jobs ++ job ∷ []) entries
done-skip plant caller shown seen jobs entries job analyse may are =
    done-skip_where plant caller shown seen jobs are.done are.left entries job analyse may are.split
    are.worked are.analyses are.closed

done-one_where : (plant : Parts) (caller : ℕ) (shown seen later : List Entry)
    (jobs done left : List Job) (entries : List Entry) (job : Job) (entry : Entry)
    → IsVerdictFor plant caller job entry → (IsClosed plant seen → ⊥)
    → jobs ≡ done ++ left → AreWorked (MaySkip plant shown) plant caller done entries
    → (left ≢ [] → IsClosed plant seen)
    → AreDone plant caller shown later (jobs ++ job ∷ []) (entries ++ entry ∷ [])
done-one_where plant caller shown seen later jobs done [] entries job entry verdict is_open split
    worked closed = record {
      done = done ++ job ∷ [];
      left = [];
      split = ap (λ (js : List Job). js ++ job ∷ []) (split ∙ append-nil done)
          ∙ sym (append-nil (done ++ job ∷ []));
      worked = worked-one (MaySkip plant shown) plant caller done entries job entry verdict worked;
      analyses = All-nil IsAnalyse;
      closed = λ some. absurd (some refl);
    }
done-one_where plant caller shown seen later jobs done (other ∷ left) entries job entry verdict
    is_open split worked closed = absurd (is_open (closed (λ none. absurd (cc))))

-- a history with one entry more than its front
longer-front : (before seen : List Entry) (entry : Entry) → IsPrefix seen before
    → seen ≡ before ++ entry ∷ [] → ⊥
longer-front before seen entry front same = omega (
  arith,
  ap (λ (h : List Entry). length h) same,
  length-append before (entry ∷ []),
  ap (λ (h : List Entry). length h) front.1,
  length-append seen front.0,
)

-- one more job, with its verdict as the last entry that was seen
pub done-one : (plant : Parts) (caller limit : ℕ) (shown seen before : List Entry)
    (jobs : List Job) (entries : List Entry) (job : Job) (entry : Entry) → IsPrefix seen before
    → IsLegal plant limit (before ++ entry ∷ []) → IsVerdictFor plant caller job entry
    → AreDone plant caller shown seen jobs entries
    → AreDone plant caller shown (before ++ entry ∷ []) (jobs ++ job ∷ []) (entries ++ entry ∷ [])
done-one plant caller limit shown seen before jobs entries job entry front legal verdict are =
    let later = before ++ entry ∷ [] in
    done-one_where plant caller shown seen later jobs are.done are.left entries job entry verdict
    (λ closed. longer-front before seen entry front (closed_ends plant limit seen later (
      front.0 ++ entry ∷ [],
      sym (append_assoc seen front.0 (entry ∷ []))
          ∙ ap (λ (h : List Entry). h ++ entry ∷ []) front.1,
    ) legal closed))
    are.split are.worked are.closed
