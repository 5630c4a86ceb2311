-- What was done of a job, and of the jobs so far.
use Rattle.std.proofs.Common.{◌≡◌, ℕ, List, [], ◌∷◌, ◌++◌, Bool, true, false, cond}
use Rattle.std.proofs.Common.{refl, sym, ap, subst, ◌∙◌, append_assoc}
use Rattle.std.proofs.lemmas.List.{append-nil}
use Rattle.std.specs.Prelude.{Result, Ok, Err, IfOk}
use mathlib.Core.List.{IsPrefix}
use Rattle.no_memory.specs.declared.NoMemory.{NoMemory}
use Rattle.certificate.specs.declared.outcome.Outcome.{Outcome}
use Rattle.glance.specs.Shown.{Seeing}
use Rattle.plant_model.specs.Versions.{Version}
use Rattle.plant_model.specs.declared.plant.Parts.{Parts}
use Rattle.plant_core.specs.Machine.{IsAllowed, IsLegal, is_answer, stand_after}
use Rattle.plant_core.specs.declared.call.Call.{Call}
use Rattle.plant_core.specs.declared.call.Call.TheVariants.{Publish}
use Rattle.plant_core.specs.declared.call.Entry.{Entry}
use Rattle.plant_core.specs.declared.call.Reply.{Reply}
use Rattle.plant_book.specs.Books.{BookShown, BookView, IsAtRest, IsOf}
use Rattle.plant_book.specs.Calls.{Passes, Serves, entry_for}
use Rattle.plant_book.specs.declared.base.BookBase.{BookBase}
use Rattle.plant_book.specs.declared.board.BoardBase.{BoardBase}
use Rattle.plant_book.specs.declared.served.Served.{Served}
use Rattle.analysis_jobs.specs.Hands.{with_taken}
use Rattle.analysis_jobs.specs.Passes.{JobHand, with_hand}
use Rattle.analysis_jobs.specs.declared.job.Job.{Job}
use Rattle.analysis_jobs.specs.declared.job.Job.TheVariants.{Analyse}
use Rattle.analysis_workers.specs.Verdicts.{IsValidFor, PublishesVerdict}
use Rattle.analysis_workers.specs.Works.{AreDone, GoesOn, IsAnalyse, IsClosed, IsSkipped, LooksOn}
use Rattle.analysis_workers.specs.Works.{Worker, Works, WorksOn}
use Rattle.analysis_workers.proofs.Done.{done-left, done-none, done-one, done-seen, done-shown}
use Rattle.analysis_workers.proofs.Done.{done-skip}
use Rattle.analysis_workers.proofs.Going.{base-on, caller-on, goes-further, goes-nowhere}
use Rattle.analysis_workers.proofs.Going.{goes-passing, goes-serving, looks-further, looks-nowhere}
use Rattle.analysis_workers.proofs.Going.{unanswered-closed}

-- ---- the call

-- a call of the book with an outcome that is valid for the version is a verdict on it
pub publishes : (answer : Result Served NoMemory) (old new : BookShown) (version seen : Version)
    (group : ℕ) (outcome : Outcome) → seen ≡ version
    → IsValidFor old.shown.base.plant seen group outcome
    → IfOk answer (Serves old new (Publish seen.number group outcome))
    → IfOk answer (PublishesVerdict old new version group)
publishes (Ok served) old new version seen group outcome same valid serves =
    subst (λ (v : Version). PublishesVerdict old new v group served) same
    (record { outcome = outcome; valid = valid; serves = serves })
publishes (Err no_memory) old new version seen group outcome same valid serves = tt

-- ---- one job

-- what a pass has seen is legal for the base that it had
legal-on : (old new : BookShown) (entries : List Entry) → GoesOn old new entries
    → IsLegal old.shown.base.plant old.shown.base.limit new.shown.seen
legal-on old new entries on = subst
    (λ (b : BookBase). IsLegal b.plant b.limit new.shown.seen) (base-on old new entries on)
    on.rest.legal

-- what the display has seen more takes nothing away
shown-more : (book : BookView) (old : BookShown) (eyes later : Seeing Entry BoardBase)
    (of : IsOf book old) (looked : LooksOn eyes later)
    → IsLegal book.base.plant book.base.limit later.seen
    → (jobs : List Job) (before : List Entry)
    → AreDone old.shown.base.plant old.shown.caller eyes.seen old.shown.seen jobs before
    → AreDone old.shown.base.plant old.shown.caller later.seen old.shown.seen jobs before
shown-more book old eyes later of looked legal jobs before are =
    done-shown old.shown.base.plant old.shown.caller old.shown.base.limit eyes.seen later.seen
    old.shown.seen jobs before looked.seen
    (subst (λ (b : BookBase). IsLegal b.plant b.limit later.seen) (sym of.base) legal) are

-- the job is skipped
pub works-skip : {A E : Type 0} (book : BookView) (old : BookShown)
    (eyes later : Seeing Entry BoardBase) (version : Version) (group : ℕ) (done : A)
    → IsOf book old → LooksOn eyes later
    → IsLegal book.base.plant book.base.limit later.seen → IsAtRest old.shown
    → IsSkipped book.base.plant later.seen version.number group
    → WorksOn {A = A} {E = E} old old eyes later (Analyse version group) (Ok done)
works-skip book old eyes later version group done of looked legal rest skipped =
    let plant = old.shown.base.plant in
    let caller = old.shown.caller in
    let job : Job = Analyse version group in
    record {
      entries = [];
      went_on = goes-nowhere old rest;
      looked = looked;
      adds = λ jobs before are. subst
          (λ (es : List Entry).
          AreDone plant caller later.seen old.shown.seen (jobs ++ job ∷ []) es)
          (sym (append-nil before))
          (done-skip plant caller later.seen old.shown.seen jobs before job tt
          (subst (λ (b : BookBase). IsSkipped b.plant later.seen version.number group)
          (sym of.base) skipped)
          (shown-more book old eyes later of looked legal jobs before are));
    }

-- there is no memory for its verdict
pub works-fail : {A E : Type 0} (book : BookView) (old new : BookShown)
    (eyes later : Seeing Entry BoardBase) (job : Job) (error : E) → IsOf book old
    → LooksOn eyes later → IsLegal book.base.plant book.base.limit later.seen → Passes old new
    → WorksOn {A = A} {E = E} old new eyes later job (Err error)
works-fail book old new eyes later job error of looked legal passes =
    let plant = old.shown.base.plant in
    let caller = old.shown.caller in
    let on = goes-passing old new passes in
    record {
      entries = [];
      went_on = on;
      looked = looked;
      adds = λ jobs before are. subst
          (λ (js : List Job). AreDone plant caller later.seen new.shown.seen js (before ++ []))
          (sym (append-nil jobs))
          (subst (λ (es : List Entry). AreDone plant caller later.seen new.shown.seen jobs es)
          (sym (append-nil before))
          (done-seen plant caller old.shown.base.limit later.seen old.shown.seen new.shown.seen
          jobs before on.seen (legal-on old new [] on)
          (shown-more book old eyes later of looked legal jobs before are)));
    }

-- the job's verdict is the last entry, or nothing is answered any more
verdict-where : (plant : Parts) (caller limit : ℕ) (shown seen before after : List Entry)
    (version : Version) (group : ℕ) (outcome : Outcome) (reply : Reply) (answered : Bool)
    (jobs : List Job) (so_far : List Entry) → is_answer reply ≡ answered → IsPrefix seen before
    → IsPrefix seen after → IsLegal plant limit after
    → after ≡ before ++ cond answered (record {
      caller = caller;
      call = Publish version.number group outcome;
      reply = reply;
    } ∷ []) []
    → IsValidFor plant version group outcome
    → IsAllowed plant limit (stand_after plant before) (Publish version.number group outcome) reply
    → AreDone plant caller shown seen jobs so_far
    → AreDone plant caller shown after (jobs ++ Analyse version group ∷ [])
    (so_far ++ cond answered (record {
      caller = caller;
      call = Publish version.number group outcome;
      reply = reply;
    } ∷ []) [])
verdict-where plant caller limit shown seen before after version group outcome reply true jobs
    so_far is front on legal after_is valid allowed are =
    let job : Job = Analyse version group in
    let entry : Entry = record {
      caller = caller;
      call = Publish version.number group outcome;
      reply = reply;
    } in
    subst (λ (h : List Entry). AreDone plant caller shown h (jobs ++ job ∷ []) (so_far ++ entry ∷ []))
    (sym after_is)
    (done-one plant caller limit shown seen before jobs so_far job entry front
    (subst (IsLegal plant limit) after_is legal)
    (record { outcome = outcome; own = refl; call = refl; valid = valid }) are)
verdict-where plant caller limit shown seen before after version group outcome reply false jobs
    so_far is front on legal after_is valid allowed are =
    let job : Job = Analyse version group in
    let closed : IsClosed plant before = unanswered-closed plant limit (stand_after plant before)
    version.number group outcome reply allowed is in
    subst (λ (es : List Entry). AreDone plant caller shown after (jobs ++ job ∷ []) es)
    (sym (append-nil so_far))
    (done-left plant caller shown after jobs so_far job tt
    (subst (IsClosed plant) (sym (append-nil before) ∙ sym after_is) closed)
    (done-seen plant caller limit shown seen after jobs so_far on legal are))

-- so the job has a verdict, or nothing is answered any more
pub works-verdict : {A E : Type 0} (book : BookView) (old new : BookShown)
    (eyes later : Seeing Entry BoardBase) (version : Version) (group : ℕ) (served : Served)
    (done : A) → IsOf book old → LooksOn eyes later
    → IsLegal book.base.plant book.base.limit later.seen
    → PublishesVerdict old new version group served
    → WorksOn {A = A} {E = E} old new eyes later (Analyse version group) (Ok done)
works-verdict book old new eyes later version group served done of looked legal publishes =
    let plant = old.shown.base.plant in
    let caller = old.shown.caller in
    let serves = publishes.serves in
    let call : Call = Publish version.number group publishes.outcome in
    let on = goes-serving old new call served serves in
    record {
      entries = entry_for caller call served.reply;
      went_on = on;
      looked = looked;
      adds = λ jobs before are. verdict-where plant caller old.shown.base.limit later.seen
          old.shown.seen serves.before new.shown.seen version group publishes.outcome served.reply
          (is_answer served.reply) jobs before refl serves.turn.front on.seen
          (legal-on old new (entry_for caller call served.reply) on)
          (ap (λ (p : BookShown). p.shown.seen) serves.pass) publishes.valid serves.allowed
          (shown-more book old eyes later of looked legal jobs before are);
    }

-- ---- the jobs so far

-- what a worker did that goes on
pub record WorkedSoFar (old now : Worker) : Type 0 where
  pub jobs : List Job
  pub taken : now.own ≡ record old.own {
    hand = record old.own.hand { taken = old.own.hand.taken ++ jobs };
  }
  pub entries : List Entry
  pub went_on : GoesOn old.pass now.pass entries
  pub looked : LooksOn old.eyes now.eyes
  pub are_done : AreDone old.pass.shown.base.plant old.pass.shown.caller now.eyes.seen
      now.pass.shown.seen jobs entries

pub worked-none : (worker : Worker) → IsAtRest worker.pass.shown → WorkedSoFar worker worker
worked-none worker rest = record {
  jobs = [];
  taken = λ i. record worker.own {
    hand = record worker.own.hand { taken = sym (append-nil worker.own.hand.taken) i };
  };
  entries = [];
  went_on = goes-nowhere worker.pass rest;
  looked = looks-nowhere worker.eyes;
  are_done = done-none worker.pass.shown.base.plant worker.pass.shown.caller worker.eyes.seen
      worker.pass.shown.seen;
}

-- one job more was taken
taken-more : (old now new : JobHand) (jobs : List Job) (job : Job)
    → now ≡ record old { hand = record old.hand { taken = old.hand.taken ++ jobs } }
    → new ≡ with_hand now (with_taken now.hand job)
    → new ≡ record old { hand = record old.hand { taken = old.hand.taken ++ jobs ++ job ∷ [] } }
taken-more old now new jobs job so_far more =
    more ∙ λ i. with_hand (so_far i) (with_taken (so_far i).hand job)

-- what was done before stands for what the worker's pass and display were at first
again : (old mid : Worker) (so_far : WorkedSoFar old mid) (new : BookShown)
    (later : Seeing Entry BoardBase) (jobs : List Job) (entries : List Entry)
    → AreDone mid.pass.shown.base.plant mid.pass.shown.caller later.seen new.shown.seen jobs entries
    → AreDone old.pass.shown.base.plant old.pass.shown.caller later.seen new.shown.seen jobs entries
again old mid so_far new later jobs entries are =
    let on = so_far.went_on in
    subst (λ (c : ℕ). AreDone old.pass.shown.base.plant c later.seen new.shown.seen jobs entries)
    (caller-on old.pass mid.pass so_far.entries on)
    (subst (λ (b : BookBase).
    AreDone b.plant mid.pass.shown.caller later.seen new.shown.seen jobs entries)
    (base-on old.pass mid.pass so_far.entries on) are)

so_far-again : (old mid : Worker) (so_far : WorkedSoFar old mid)
    → AreDone mid.pass.shown.base.plant mid.pass.shown.caller mid.eyes.seen mid.pass.shown.seen
    so_far.jobs so_far.entries
so_far-again old mid so_far =
    let on = so_far.went_on in
    subst (λ (c : ℕ).
    AreDone mid.pass.shown.base.plant c mid.eyes.seen mid.pass.shown.seen so_far.jobs so_far.entries)
    (sym (caller-on old.pass mid.pass so_far.entries on))
    (subst (λ (b : BookBase).
    AreDone b.plant old.pass.shown.caller mid.eyes.seen mid.pass.shown.seen so_far.jobs so_far.entries)
    (sym (base-on old.pass mid.pass so_far.entries on)) so_far.are_done)

-- one job more was done
pub worked-more : {A E : Type 0} (old mid new : Worker) (job : Job) (done : A)
    → WorkedSoFar old mid → new.own ≡ with_hand mid.own (with_taken mid.own.hand job)
    → WorksOn {A = A} {E = E} mid.pass new.pass mid.eyes new.eyes job (Ok done)
    → WorkedSoFar old new
worked-more old mid new job done so_far taken on = record {
  jobs = so_far.jobs ++ job ∷ [];
  taken = taken-more old.own mid.own new.own so_far.jobs job so_far.taken taken
      ∙ λ i. record old.own {
        hand = record old.own.hand {
          taken = append_assoc old.own.hand.taken so_far.jobs (job ∷ []) i;
        };
      };
  entries = so_far.entries ++ on.entries;
  went_on = goes-further old.pass mid.pass new.pass so_far.entries on.entries so_far.went_on
      on.went_on;
  looked = looks-further old.eyes mid.eyes new.eyes so_far.looked on.looked;
  are_done = again old mid so_far new.pass new.eyes (so_far.jobs ++ job ∷ [])
      (so_far.entries ++ on.entries)
      (on.adds so_far.jobs so_far.entries (so_far-again old mid so_far));
}

-- there was no memory for the verdict on the last job
pub worked-fail : {A E : Type 0} (old mid new : Worker) (job : Job) (error last : E)
    → IsAnalyse job
    → WorkedSoFar old mid → new.own ≡ with_hand mid.own (with_taken mid.own.hand job)
    → WorksOn {A = A} {E = E} mid.pass new.pass mid.eyes new.eyes job (Err error)
    → Works {A = A} {E = E} old new (Err last)
worked-fail old mid new job error last analyse so_far taken on = record {
  jobs = so_far.jobs;
  last = job;
  taken = taken-more old.own mid.own new.own so_far.jobs job so_far.taken taken;
  ends = analyse;
  entries = so_far.entries ++ on.entries;
  went_on = goes-further old.pass mid.pass new.pass so_far.entries on.entries so_far.went_on
      on.went_on;
  looked = looks-further old.eyes mid.eyes new.eyes so_far.looked on.looked;
  are_done = again old mid so_far new.pass new.eyes so_far.jobs (so_far.entries ++ on.entries)
      (subst (λ (js : List Job). AreDone mid.pass.shown.base.plant mid.pass.shown.caller
      new.eyes.seen new.pass.shown.seen js (so_far.entries ++ on.entries))
      (append-nil so_far.jobs)
      (on.adds so_far.jobs so_far.entries (so_far-again old mid so_far)));
}
