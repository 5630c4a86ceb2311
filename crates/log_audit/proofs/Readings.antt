-- What lines make of an auditor.
use Rattle.std.proofs.Common.{◌≡◌, ◌∙◌, ℕ, ◌+◌, ◌<◌, List, [], ◌∷◌, ◌++◌, length, refl, ap, sym, subst}
use Rattle.std.proofs.Common.{arith, append_assoc, append-nil, codes, IsTrue, length-append}
use Rattle.std.proofs.lemmas.List.{append_cancel_right, length-map}
use Rattle.std.proofs.lemmas.List.Elements.{All-append, All-cons, All-nil, recursion_from_All}
use Rattle.frame.specs.Frames.{line_feed}
use Rattle.plant_model.specs.Names.{is_name}
use Rattle.plant_model.specs.declared.limits.TheConstants.{MOST_ENTRIES}
use Rattle.plant_model.specs.declared.plant.Parts.{Parts}
use Rattle.plant_core.specs.Machine.{CoreView, IsEntry, Stand, stand_after}
use Rattle.plant_core.specs.declared.call.Entry.{Entry}
use Rattle.plant_core.proofs.Histories.{legal-push}
use Rattle.log_text.specs.Fits.{FitsEntry}
use Rattle.log_text.proofs.CommandBodies.{part-append, part-known, part-name}
use Rattle.log_text.proofs.ToldGroups.{AreNamed}
use Rattle.log_reading.specs.Lines.{IsLineOf}
use Rattle.log_audit.specs.Audits.{CanRead, IsBadOn, IsRead, IsUnread, StandsAt}
use Rattle.log_audit.specs.declared.stage.Stage.{Stage}
use Rattle.log_audit.specs.FirstBad.{text_of}
use Rattle.log_audit.specs.Lines.{HasNames, HasNoFeed, entry_line, head_line, log_lines}
use Rattle.log_audit.specs.Steps.{HasTold, NoneMayFollow, StaysBehind}
use Rattle.log_audit.specs.Twins.{AreTwins, Twins}
use Rattle.log_audit.specs.Verdicts.{HasEntries, IsBadAt}
use Rattle.log_audit.proofs.Logs.{NoneFollows, bad_after, bad_cut, bad_empty, bad_head, bad_piece}
use Rattle.log_audit.proofs.Logs.{log-of_lines, log_lines-push, no_feed-body}
use Rattle.log_audit.proofs.Streams.{text-append}
use Rattle.log_audit.proofs.Twins.{twins_alike}

-- ---- names

pub named : (plant : Parts) → HasNames plant → AreNamed plant.groups.items
named plant names =
    recursion_from_All (λ group. IsTrue (is_name group.name)) plant.groups.items names.groups

pub head-good : (plant : Parts) → HasNames plant → HasNoFeed (head_line plant)
head-good plant names =
    no_feed-body (head_line plant)
    (part-append (part-known (codes "LOG,1,") refl) (part-name plant.name names.own)).each

-- ---- the first line

-- it is that of a log with no entry
pub opens_log : (core : CoreView) (own : List ℕ) → own ≡ head_line core.plant
    → (lines : List (List ℕ)) → IsUnread core lines → IsRead core (lines ++ own ∷ []) 0
opens_log core own same lines unread = record {
  history = [];
  logged = record { legal = tt; held = All-nil FitsEntry };
  is = ap (λ (all : List (List ℕ)). all ++ own ∷ []) unread.none
      ∙ ap (λ (first : List ℕ). first ∷ []) same;
  count = refl;
  twins = subst (λ (history : List Entry). Twins history []) (sym unread.fresh) tt;
}

-- or no log begins so
pub opens_bad : (core : CoreView) → CanRead core → (own : List ℕ) → HasNoFeed own
    → (own ≡ head_line core.plant → ⊥) → (lines : List (List ℕ)) → IsUnread core lines
    → IsBadOn core (lines ++ own ∷ []) 1
opens_bad core can own good other lines unread more =
    let plant = core.plant in
    subst (λ (all : List (List ℕ)). IsBadAt plant (text_of (all ++ own ∷ []) ++ more) 1)
    (sym unread.none)
    (bad_head plant (named plant can.names) can.names.distinct (head-good plant can.names) own more
    good other)

-- ---- a line more

pub twins-push : (history other : List Entry) (entry twin : Entry) → Twins history other
    → AreTwins entry twin → Twins (history ++ entry ∷ []) (other ++ twin ∷ [])
twins-push [] [] entry twin twins last = (last, tt)
twins-push [] (f ∷ fs) entry twin twins last = absurd twins
twins-push (e ∷ es) [] entry twin twins last = absurd twins
twins-push (e ∷ es) (f ∷ fs) entry twin twins last =
    (twins.0, twins-push es fs entry twin twins.1 last)

-- a line spells its entry
pub spells : (plant : Parts) (own : List ℕ) (entry : Entry) → IsLineOf plant own entry
    → own ≡ entry_line plant entry
spells plant own entry told =
    sym (append_cancel_right (entry_line plant entry) own (line_feed ∷ []) told.is)

-- where the machine stands, a history stands of which it has taken twins
pub stands_so : (core : CoreView) (lines : List (List ℕ)) (entries : ℕ) (read : IsRead core lines entries)
    → CanRead core → (entry : Entry)
    → IsEntry core.plant core.limit (stand_after core.plant core.history) entry
    → IsEntry core.plant MOST_ENTRIES (stand_after core.plant read.history) entry
stands_so core lines entries read can entry stands =
    subst (λ (stand : Stand). IsEntry core.plant MOST_ENTRIES stand entry)
    (twins_alike core.plant core.history read.history read.twins)
    (subst (λ (limit : ℕ). IsEntry core.plant limit (stand_after core.plant core.history) entry)
    can.limit stands)

pub stands_back : (core : CoreView) (lines : List (List ℕ)) (entries : ℕ)
    (read : IsRead core lines entries) → CanRead core → (entry : Entry)
    → IsEntry core.plant MOST_ENTRIES (stand_after core.plant read.history) entry
    → IsEntry core.plant core.limit (stand_after core.plant core.history) entry
stands_back core lines entries read can entry stands =
    subst (λ (limit : ℕ). IsEntry core.plant limit (stand_after core.plant core.history) entry)
    (sym can.limit)
    (subst (λ (stand : Stand). IsEntry core.plant MOST_ENTRIES stand entry)
    (sym (twins_alike core.plant core.history read.history read.twins)) stands)

pub length-log : (plant : Parts) (history : List Entry)
    → length (log_lines plant history) ≡ length history + 1
length-log plant history = omega (arith, length-map history (entry_line plant))

-- with the line of an entry that may stand next, it is a log again
module _ (before : CoreView) (can : CanRead before) (own : List ℕ) (lines : List (List ℕ))
    (entries : ℕ) (read : IsRead before lines entries) (count : ℕ) (is : count ≡ length lines) where
  abbrev pub read_more : (entry twin : Entry) → IsLineOf before.plant own entry
      → IsEntry before.plant before.limit (stand_after before.plant before.history) entry
      → AreTwins twin entry
      → IsRead (record before { history = before.history ++ twin ∷ [] }) (lines ++ own ∷ []) count
  read_more entry twin told stands twins = record {
    history = read.history ++ entry ∷ [];
    logged = record {
      legal = legal-push before.plant MOST_ENTRIES read.history entry read.logged.legal
          (stands_so before lines entries read can entry stands);
      held = All-append FitsEntry read.history (entry ∷ []) read.logged.held
          (All-cons FitsEntry entry [] told.has.held (All-nil FitsEntry));
    };
    is = ap (λ (all : List (List ℕ)). all ++ own ∷ []) read.is
        ∙ ap (λ (last : List ℕ). log_lines before.plant read.history ++ last ∷ [])
        (spells before.plant own entry told)
        ∙ sym (log_lines-push before.plant (named before.plant can.names) can.names.distinct
        (head-good before.plant can.names) read.history entry);
    count = omega (
      arith,
      is,
      ap length read.is,
      length-log before.plant read.history,
      length-append read.history (entry ∷ []),
    );
    twins = twins-push before.history read.history twin entry read.twins twins;
  }

  pub reads_on : (after : CoreView) → HasTold before after own
      → IsRead after (lines ++ own ∷ []) count
  reads_on after told =
      subst (λ (core : CoreView). IsRead core (lines ++ own ∷ []) count) (sym told.taken.history)
      (read_more told.entry told.taken.twin told.told told.taken.stands told.taken.twins)

  -- and with another line it is bad for good
  pub stops : (after : CoreView) → HasNoFeed own → NoneMayFollow before own
      → StaysBehind before after → IsBadOn after (lines ++ own ∷ []) (count + 1)
  stops after good none behind more =
      let plant = before.plant in
      let none_follows : NoneFollows plant (named plant can.names) can.names.distinct
      (head-good plant can.names) read.history own = λ entry told stands.
      none entry told (stands_back before lines entries read can entry stands) in
      let bad = bad_after plant (named plant can.names) can.names.distinct (head-good plant can.names)
      read.history own more read.logged good none_follows in
      let number : length (log_lines plant read.history) + 1 ≡ count + 1 =
      omega (arith, is, ap length read.is) in
      subst (λ (p : Parts). IsBadAt p (text_of (lines ++ own ∷ []) ++ more) (count + 1))
      (sym behind.plant)
      (subst (λ (n : ℕ). IsBadAt plant (text_of (lines ++ own ∷ []) ++ more) n) number
      (subst (λ (all : List (List ℕ)). IsBadAt plant (text_of (all ++ own ∷ []) ++ more)
      (length (log_lines plant read.history) + 1)) (sym read.is) bad))

-- a text that is bad stays so
pub stays_bad : (before after : CoreView) (own : List ℕ) (lines : List (List ℕ)) (number : ℕ)
    → before ≡ after → IsBadOn before lines number → IsBadOn after (lines ++ own ∷ []) number
stays_bad before after own lines number same bad more =
    let joined : text_of lines ++ (text_of (own ∷ []) ++ more) ≡ text_of (lines ++ own ∷ []) ++ more =
    sym (append_assoc (text_of lines) (text_of (own ∷ [])) more)
    ∙ ap (λ (text : List ℕ). text ++ more) (sym (text-append lines (own ∷ []))) in
    subst (λ (core : CoreView). IsBadAt core.plant (text_of (lines ++ own ∷ []) ++ more) number)
    same
    (subst (λ (text : List ℕ). IsBadAt before.plant text number) joined
    (bad (text_of (own ∷ []) ++ more)))

-- ---- the end

pub at_stage : {stage own : Stage} → stage ≡ own → (core : CoreView) (lines : List (List ℕ))
    → StandsAt stage core lines → StandsAt own core lines
at_stage is core lines at = subst (λ (s : Stage). StandsAt s core lines) is at

module _ (core : CoreView) (can : CanRead core) (lines : List (List ℕ)) where
  pub ends_unread : IsUnread core lines → IsBadAt core.plant (text_of lines) 1
  ends_unread unread =
      let plant = core.plant in
      subst (λ (all : List (List ℕ)). IsBadAt plant (text_of all) 1) (sym unread.none)
      (bad_empty plant (named plant can.names) can.names.distinct (head-good plant can.names))

  pub ends_log : (entries : ℕ) → IsRead core lines entries
      → HasEntries core.plant (text_of lines) entries
  ends_log entries read =
      let plant = core.plant in
      subst (λ (all : List (List ℕ)). HasEntries plant (text_of all) entries) (sym read.is) (
        record {
          history = read.history;
          logged = read.logged;
          is = sym (log-of_lines plant read.history);
        },
        read.count,
      )

  pub ends_bad : (number : ℕ) → IsBadOn core lines number
      → IsBadAt core.plant (text_of lines) number
  ends_bad number bad =
      subst (λ (text : List ℕ). IsBadAt core.plant text number) (append-nil (text_of lines))
      (bad [])

  module _ (piece : List ℕ) (good : HasNoFeed piece) (some : 0 < length piece) where
    pub cut_unread : IsUnread core lines → IsBadAt core.plant (text_of lines ++ piece) 1
    cut_unread unread =
        let plant = core.plant in
        subst (λ (all : List (List ℕ)). IsBadAt plant (text_of all ++ piece) 1)
        (sym unread.none)
        (bad_piece plant (named plant can.names) can.names.distinct (head-good plant can.names)
        piece good some)

    pub cut_log : (entries count : ℕ) → count ≡ length lines → IsRead core lines entries
        → IsBadAt core.plant (text_of lines ++ piece) (count + 1)
    cut_log entries count is read =
        let plant = core.plant in
        let number : length (log_lines plant read.history) + 1 ≡ count + 1 =
        omega (arith, is, ap length read.is) in
        subst (λ (n : ℕ). IsBadAt plant (text_of lines ++ piece) n) number
        (subst (λ (all : List (List ℕ)). IsBadAt plant (text_of all ++ piece)
        (length (log_lines plant read.history) + 1)) (sym read.is)
        (bad_cut plant (named plant can.names) can.names.distinct (head-good plant can.names)
        read.history piece read.logged good some))
