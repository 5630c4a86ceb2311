-- What the machine behind the lock and its writer keep through a call.
use Rattle.std.proofs.Common.{◌≡◌, ℕ, List, [], ◌∷◌, ◌++◌, Bool, true, false, refl, ap, sym, ◌∙◌}
use Rattle.std.proofs.lemmas.List.{append-nil}
use Rattle.std.specs.Prelude.{if◌then◌else◌}
use Rattle.glance.specs.Shown.{Writing}
use Rattle.plant_core.specs.Machine.{CoreView, after_reply, is_answer}
use Rattle.plant_core.specs.declared.call.Call.{Call}
use Rattle.plant_core.specs.declared.call.Entry.{Entry}
use Rattle.plant_core.specs.declared.call.Reply.{Reply}
use Rattle.turn_lock.proofs.Lists.{prefix_trans}
use Rattle.plant_book.specs.Boards.{board_base}
use Rattle.plant_book.specs.Calls.{entry_for}
use Rattle.plant_book.specs.Values.{IsWritten}
use Rattle.plant_book.specs.declared.board.BoardBase.{BoardBase}

-- the machine with these entries more
abbrev pub with_more : CoreView → List Entry → CoreView
with_more core more = record core { history = core.history ++ more }

pub with_none : (core : CoreView) → core ≡ with_more core []
with_none core = λ i. record core { history = sym (append-nil core.history) i }

if_more : (has : Bool) (core : CoreView) (entry : Entry)
    → (if has then with_more core (entry ∷ []) else core)
    ≡ with_more core (if has then entry ∷ [] else [])
if_more true core entry = refl
if_more false core entry = with_none core

-- a reply adds the call's entry, where it has one
pub more_for : (core : CoreView) (caller : ℕ) (call : Call) (reply : Reply)
    → after_reply core (record { caller = caller; call = call; reply = reply })
    ≡ with_more core (entry_for caller call reply)
more_for core caller call reply = if_more (is_answer reply) core
    (record { caller = caller; call = call; reply = reply })

-- the writer stays behind a history that goes on
pub written_more : (writer : Writing Entry BoardBase) (core new : CoreView) (more : List Entry)
    → new ≡ with_more core more → IsWritten writer core → IsWritten writer new
written_more writer core new more is w = record {
  base = w.base ∙ sym (ap board_base is);
  list = prefix_trans writer.list core.history new.history w.list
      (more, sym (ap (λ (c : CoreView). c.history) is));
}
