-- What was written so far, and what each stop of writing says.
use Rattle.std.proofs.Common.{◌≡◌, ℕ, ◌+◌, ◌*◌, ◌<◌, ◌≤◌, List, [], ◌∷◌, ◌++◌, length, Bool, Option}
use Rattle.std.proofs.Common.{Some, None, Result, Ok, Err, refl, sym, ◌∙◌, ap, subst, inl, inr, arith}
use Rattle.std.proofs.lemmas.List.{append-nil, length-append}
use Rattle.dp_io.specs.Streams.{Grew, Rose}
use Rattle.dp_io.specs.Shown.{GrewInPart, Shown}
use Rattle.dp_io.proofs.Grown.{Grew-append}
use Rattle.plant_model.specs.declared.limits.TheConstants.{WIND_ROWS}
use Rattle.plant_model.specs.declared.plant.Parts.{Parts}
use Rattle.plant_model.specs.declared.wrench.Wrench.{Wrench}
use Rattle.dp_words.specs.Writing.{EndsText, EndsWriting}
use Rattle.dp_words.specs.declared.status.RunStatus.{RunStatus}
use Rattle.dp_words.specs.declared.status.RunStatus.TheVariants.{WriteFault}
use Rattle.dp_words.proofs.Parts.{part-back, part-front}
use Rattle.dp_words.proofs.Texted.{showed}
use Rattle.capability.specs.declared.limit.WindLimit.{WindLimit}
use Rattle.capability.specs.Limits.{IsWindLimit}
use Rattle.capability_report.specs.Found.{EachLimit, EndsIn, Found, IsSo, WritesFound, WritesLimit}
use Rattle.capability_report.specs.Found.{WritesLimits, WritesMargins, weather}
use Rattle.capability_report.specs.Texts.{capability_text, end_line, limit_lines, limits_lines}
use Rattle.capability_report.specs.Texts.{margin_lines, text_so_far}
use Rattle.capability_report.proofs.Limits.{limits-more, lines-more}

grew-none : (before : Option (List ℕ)) → Grew before before []
grew-none (Some bytes) = ap Some (sym (append-nil bytes))
grew-none None = refl

-- nothing of a text is the beginning of it
pub part-none : (before after : Option (List ℕ)) (text : List ℕ) → after ≡ before
    → GrewInPart before after text
part-none before after text same =
    (0, subst (λ (a : Option (List ℕ)). Grew before a []) (sym same) (grew-none before))

-- ---- faults

same-error : {T S : Type 0} (status : RunStatus)
    → ◌≡◌ {A = Result T RunStatus} (Err status) (Err WriteFault)
    → ◌≡◌ {A = Result S RunStatus} (Err status) (Err WriteFault)
same-error {T} {S} status e =
    let same : status ≡ WriteFault = cc in
    subst (λ (s : RunStatus). ◌≡◌ {A = Result S RunStatus} (Err status) (Err s)) same refl

-- writing was stopped, after some that wasn't
pub err-on : {T S : Type 0} (status : RunStatus) (before middle after : Option (List ℕ))
    (n m k : ℕ) → m ≡ n
    → EndsWriting {T = S} (Err status) (showed middle after m k)
    → EndsWriting {T = T} (Err status) (showed before after n k)
err-on {T} {S} status before middle after n m k same ends = record {
  failed = λ e. subst (λ (f : ℕ). Rose f k) same (ends.failed (same-error {T = T} {S = S} status e));
  errors = ends.errors;
  no_fault = tt;
  counted = omega (arith, same, ends.counted);
}

pub ok-on : {T : Type 0} (value : T) (before after : Option (List ℕ)) (n m : ℕ) → m ≡ n
    → EndsWriting (Ok value) (showed before after n m)
ok-on value before after n m same = record {
  failed = λ e. cc;
  errors = tt;
  no_fault = same;
  counted = omega (arith, same);
}

-- ---- angle by angle

-- the limits of the angles below this number of tens of degrees were written
pub record SoFar (plant : Parts) (demand : Wrench) (tens : ℕ) (lost : Bool)
    (before after : Option (List ℕ)) : Type 0 where
  pub limits : List WindLimit
  pub count : length limits ≡ tens
  pub are : EachLimit plant demand 0 limits
  pub so : 1 ≤ tens → IsSo lost plant demand
  pub took : Grew before after (limits_lines plant 0 limits)

pub none-so-far : (plant : Parts) (demand : Wrench) (lost : Bool) (before : Option (List ℕ))
    → SoFar plant demand 0 lost before before
none-so-far plant demand lost before = record {
  limits = [];
  count = refl;
  are = tt;
  so = λ some. absurd (omega (arith, some));
  took = grew-none before;
}

module _ (plant : Parts) (demand : Wrench) (limits : List WindLimit) (limit : WindLimit) (tens : ℕ)
    (count : length limits ≡ tens) where
  place : 0 + length limits ≡ tens
  place = omega (arith, count)

  lines : limits_lines plant 0 (limits ++ limit ∷ [])
      ≡ limits_lines plant 0 limits ++ limit_lines plant (tens * 1000) limit
  lines = lines-more plant 0 limits limit
      ∙ ap (λ (n : ℕ). limits_lines plant 0 limits ++ limit_lines plant (n * 1000) limit) place

  each : EachLimit plant demand 0 limits → IsWindLimit (weather plant demand tens) limit
      → EachLimit plant demand 0 (limits ++ limit ∷ [])
  each are is = limits-more plant demand 0 limits limit are
      (subst (λ (n : ℕ). IsWindLimit (weather plant demand n) limit) (sym place) is)

  counted : length (limits ++ limit ∷ []) ≡ tens + 1
  counted = omega (arith, count, length-append limits (limit ∷ []))

pub one-more : (plant : Parts) (demand : Wrench) (tens : ℕ) (lost more : Bool)
    (before middle after : Option (List ℕ)) (n m : ℕ)
    → SoFar plant demand tens lost before middle
    → WritesLimit plant demand tens (Ok more) (showed middle after n m)
    → SoFar plant demand (tens + 1) more before after
one-more plant demand tens lost more before middle after n m so_far writes = record {
  limits = so_far.limits ++ writes.limit ∷ [];
  count = counted plant demand so_far.limits writes.limit tens so_far.count;
  are = each plant demand so_far.limits writes.limit tens so_far.count so_far.are writes.is;
  so = λ some. writes.so;
  took = subst (λ (t : List ℕ). Grew before after t)
      (sym (lines plant demand so_far.limits writes.limit tens so_far.count))
      (Grew-append before middle after _ _ so_far.took writes.ends.whole);
}

-- the limits of an angle were written in part
pub limits-stopped : (plant : Parts) (demand : Wrench) (tens : ℕ) (lost : Bool) (status : RunStatus)
    (before middle after : Option (List ℕ)) (n m k : ℕ) → tens < WIND_ROWS → m ≡ n
    → SoFar plant demand tens lost before middle
    → WritesLimit plant demand tens (Err status) (showed middle after m k)
    → WritesLimits plant demand (Err status) (showed before after n k)
limits-stopped plant demand tens lost status before middle after n m k below same so_far writes =
    record {
      limits = so_far.limits ++ writes.limit ∷ [];
      few = omega (arith, below, counted plant demand so_far.limits writes.limit tens so_far.count);
      all = tt;
      are = each plant demand so_far.limits writes.limit tens so_far.count so_far.are writes.is;
      so = tt;
      ends = record {
        whole = tt;
        part = subst (λ (t : List ℕ). GrewInPart before after t)
            (sym (lines plant demand so_far.limits writes.limit tens so_far.count))
            (part-back before middle after _ _ so_far.took writes.ends.part);
        writing = err-on status before middle after n m k same writes.ends.writing;
      };
    }

-- all limits were written
pub limits-written : (plant : Parts) (demand : Wrench) (lost : Bool)
    (before after : Option (List ℕ)) (n m : ℕ) → m ≡ n
    → SoFar plant demand WIND_ROWS lost before after
    → WritesLimits plant demand (Ok lost) (showed before after n m)
limits-written plant demand lost before after n m same so_far = record {
  limits = so_far.limits;
  few = let count = so_far.count in omega (arith, count);
  all = so_far.count;
  are = so_far.are;
  so = so_far.so (omega arith);
  ends = record {
    whole = so_far.took;
    part = tt;
    writing = ok-on lost before after n m same;
  };
}

-- ---- all of it

-- the margins were written in part
pub margins-stopped : (plant : Parts) (demand : Wrench) (status : RunStatus) (out : Shown)
    → WritesMargins plant demand (Err status) out → WritesFound plant demand (Err status) out
margins-stopped plant demand status out writes = record {
  found = record {
    margins = writes.margins;
    limits = [];
    few = omega arith;
    are_margins = writes.are;
    are_limits = tt;
  };
  text = text_so_far plant demand writes.margins [];
  tells = inl refl;
  all = tt;
  so = tt;
  ends = record {
    whole = tt;
    part = part-front out.before out.after (margin_lines plant demand writes.margins) []
        writes.ends.part;
    writing = record {
      failed = λ e. writes.ends.writing.failed (same-error status e);
      errors = writes.ends.writing.errors;
      no_fault = tt;
      counted = writes.ends.writing.counted;
    };
  };
}

abbrev found-of : {plant : Parts} {demand : Wrench} {a : Result (Unit {0}) RunStatus}
    {b : Result Bool RunStatus} {first second : Shown} → WritesMargins plant demand a first
    → WritesLimits plant demand b second → Found plant demand
found-of margins limits = record {
  margins = margins.margins;
  limits = limits.limits;
  few = limits.few;
  are_margins = margins.are;
  are_limits = limits.are;
}

-- the limits were written in part
pub angles-stopped : (plant : Parts) (demand : Wrench) (status : RunStatus)
    (before middle after : Option (List ℕ)) (n m k : ℕ) → m ≡ n
    → WritesMargins plant demand (Ok tt) (showed before middle n m)
    → WritesLimits plant demand (Err status) (showed middle after m k)
    → WritesFound plant demand (Err status) (showed before after n k)
angles-stopped plant demand status before middle after n m k same margins limits = record {
  found = found-of margins limits;
  text = text_so_far plant demand margins.margins limits.limits;
  tells = inl refl;
  all = tt;
  so = tt;
  ends = record {
    whole = tt;
    part = part-back before middle after _ _ margins.ends.whole limits.ends.part;
    writing = err-on status before middle after n m k same limits.ends.writing;
  };
}

-- the last line was written in part
pub end-stopped : (plant : Parts) (demand : Wrench) (lost : Bool)
    (before first second after : Option (List ℕ)) (n m k j : ℕ) → k ≡ n
    → WritesMargins plant demand (Ok tt) (showed before first n m)
    → WritesLimits plant demand (Ok lost) (showed first second m k)
    → GrewInPart second after end_line → Rose k j → k ≤ j
    → WritesFound plant demand (Err WriteFault) (showed before after n j)
end-stopped plant demand lost before first second after n m k j same margins limits part risen more =
    record {
      found = found-of margins limits;
      text = capability_text plant demand margins.margins limits.limits;
      tells = inr (limits.all, refl);
      all = tt;
      so = tt;
      ends = record {
        whole = tt;
        part = part-back before second after _ end_line
            (Grew-append before first second _ _ margins.ends.whole limits.ends.whole) part;
        writing = record {
          failed = λ e. subst (λ (f : ℕ). Rose f j) same risen;
          errors = inl refl;
          no_fault = tt;
          counted = omega (arith, same, more);
        };
      };
    }

-- all was written
pub all-written : (plant : Parts) (demand : Wrench) (lost : Bool)
    (before first second after : Option (List ℕ)) (n m k j : ℕ) → j ≡ n
    → WritesMargins plant demand (Ok tt) (showed before first n m)
    → WritesLimits plant demand (Ok lost) (showed first second m k)
    → Grew second after end_line
    → WritesFound plant demand (Ok lost) (showed before after n j)
all-written plant demand lost before first second after n m k j same margins limits took = record {
  found = found-of margins limits;
  text = capability_text plant demand margins.margins limits.limits;
  tells = inr (limits.all, refl);
  all = (limits.all, refl);
  so = limits.so;
  ends = record {
    whole = Grew-append before second after _ end_line
        (Grew-append before first second _ _ margins.ends.whole limits.ends.whole) took;
    part = tt;
    writing = ok-on lost before after n j same;
  };
}

-- ---- one text

pub text-whole : (lost : Bool) (out : Shown) (text : List ℕ) → EndsText (Ok tt) out text
    → EndsIn (Ok lost) out text
text-whole lost out text ends = record {
  whole = ends.whole;
  part = tt;
  writing = record {
    failed = λ e. cc;
    errors = tt;
    no_fault = ends.writing.no_fault;
    counted = ends.writing.counted;
  };
}

pub text-stopped : (status : RunStatus) (out : Shown) (text : List ℕ) → EndsText (Err status) out text
    → EndsIn {T = Bool} (Err status) out text
text-stopped status out text ends = record {
  whole = tt;
  part = ends.part;
  writing = record {
    failed = λ e. ends.writing.failed (same-error status e);
    errors = ends.writing.errors;
    no_fault = tt;
    counted = ends.writing.counted;
  };
}
