-- Passes that go on with published verdicts.
use Rattle.std.proofs.Common.{ℕ, [], ◌∷◌, ◌++◌, Bool, true, false, if◌then◌else◌}
use Rattle.std.proofs.Common.{Result, Ok, Err, IfOk, OnErr}
use Rattle.std.proofs.lemmas.List.Elements.{All-append, All-cons, All-nil}
use Rattle.no_memory.specs.declared.NoMemory.{NoMemory}
use Rattle.certificate.specs.declared.outcome.Outcome.{Outcome}
use Rattle.plant_model.specs.Versions.{Version}
use Rattle.plant_core.specs.Machine.{is_answer}
use Rattle.plant_core.specs.declared.call.Call.TheVariants.{Publish}
use Rattle.plant_core.specs.declared.call.Entry.{Entry}
use Rattle.plant_core.specs.declared.call.Reply.{Reply}
use Rattle.plant_book.specs.Books.{BookShown, IsAtRest}
use Rattle.plant_book.specs.Calls.{Passes, entry_for}
use Rattle.plant_book.specs.declared.served.Served.{Served}
use Rattle.analysis_workers.specs.Verdicts.{ArePublished, IsPublish, PublishesVerdict}
use Rattle.analysis_workers.specs.Works.{MaySkip, Worker, Works}
use Rattle.analysis_workers.proofs.Going.{goes-further, goes-nowhere, goes-passing, goes-serving}
use Rattle.analysis_workers.proofs.Verdicts.{verdicts-published, worked-verdicts}
use Rattle.watch_session.specs.Crews.{Publishes}

-- nothing happened
pub publishes-none : (pass : BookShown) → IsAtRest pass.shown → Publishes pass pass
publishes-none pass rest = record {
  entries = [];
  went_on = goes-nowhere pass rest;
  published = All-nil (λ (e : Entry). IsPublish e.call);
}

-- a turn passed with no entry
pub publishes-passing : (old new : BookShown) → Passes old new → Publishes old new
publishes-passing old new passes = record {
  entries = [];
  went_on = goes-passing old new passes;
  published = All-nil (λ (e : Entry). IsPublish e.call);
}

-- and then more were published
pub publishes-further : (old mid new : BookShown) → Publishes old mid → Publishes mid new
    → Publishes old new
publishes-further old mid new one two = record {
  entries = one.entries ++ two.entries;
  went_on = goes-further old mid new one.entries two.entries one.went_on two.went_on;
  published = All-append (λ (e : Entry). IsPublish e.call) one.entries two.entries one.published
      two.published;
}

where-published : (caller version group : ℕ) (outcome : Outcome) (reply : Reply) (answered : Bool)
    → ArePublished (if answered then record {
      caller = caller;
      call = Publish version group outcome;
      reply = reply;
    } ∷ [] else [])
where-published caller version group outcome reply true =
    All-cons (λ (e : Entry). IsPublish e.call) _ [] tt (All-nil (λ (e : Entry). IsPublish e.call))
where-published caller version group outcome reply false =
    All-nil (λ (e : Entry). IsPublish e.call)

-- a verdict was published
pub publishes-verdict : (old new : BookShown) (version : Version) (group : ℕ) (served : Served)
    → PublishesVerdict old new version group served → Publishes old new
publishes-verdict old new version group served verdict = record {
  entries = entry_for old.shown.caller (Publish version.number group verdict.outcome) served.reply;
  went_on = goes-serving old new (Publish version.number group verdict.outcome) served
      verdict.serves;
  published = where-published old.shown.caller version.number group verdict.outcome served.reply
      (is_answer served.reply);
}

-- a verdict was published, or there was no memory for it
pub publishes-answer : (answer : Result Served NoMemory) (old new : BookShown) (version : Version)
    (group : ℕ) → IfOk answer (PublishesVerdict old new version group)
    → OnErr answer (Passes old new) → Publishes old new
publishes-answer (Ok served) old new version group verdict passes =
    publishes-verdict old new version group served verdict
publishes-answer (Err error) old new version group verdict passes =
    publishes-passing old new passes

-- a worker did its work
pub publishes-works : {A E : Type 0} (old new : Worker) (answer : Result A E)
    → Works old new answer → Publishes old.pass new.pass
publishes-works old new answer works =
    let plant = old.pass.shown.base.plant in
    let caller = old.pass.shown.caller in record {
      entries = works.entries;
      went_on = works.went_on;
      published = verdicts-published plant caller works.entries
          (worked-verdicts (MaySkip plant new.eyes.seen) plant caller works.are_done.done
          works.entries works.are_done.worked);
    }
