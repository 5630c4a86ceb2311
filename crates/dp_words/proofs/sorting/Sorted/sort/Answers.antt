-- A word is kept among the options or the places where there is room.
use Rattle.std.proofs.Common.{ap, append-nil, false, sym, take, true, ◌∙◌}
use Rattle.dp_words.specs.Sorting.{pair}
use Rattle.dp_words.specs.Words.{options, places}
use Rattle.dp_words.specs.declared.sorting.TheConstants.{KEPT_OPTIONS, KEPT_PLACES}
use Rattle.dp_words.proofs.WordLemmas.{dashes_after, dashes_at, options_after, options_at}
use Rattle.dp_words.proofs.WordLemmas.{options_before, places_after, places_at}
use Rattle.dp_words.proofs.WordLemmas.{places_before, pushed}
use Rattle.dp_words.proofs.sorting.Sorted.sort.Goals as goal

pub returns-then-self : goal.returns-then-self
returns-then-self c words has =
    let word = pair c.args.word in
    let push = c.try_push in
    let had = sym has.dashes ∙ c.if-self.true in
    record {
      dashes = has.dashes ∙ sym has.dashes ∙ c.if-self.true ∙ sym (dashes_after words word had);
      options_first = has.options_first
          ∙ ap (take KEPT_OPTIONS) (sym (options_after words word had));
      places_first =
          pushed pair KEPT_PLACES push.result c.args.self.now.places push.new.self c.args.word
          (places words) push.ensures.ok push.ensures.err push.ensures.variant push.ensures.full
          has.places_first
          ∙ ap (take KEPT_PLACES) (sym (places_after words word had));
    }

pub returns-then-is_dashes : goal.returns-then-is_dashes
returns-then-is_dashes c words has =
    let word = pair c.args.word in
    let none = sym has.dashes ∙ c.if-self.false in
    let is = sym c.is_dashes.ensures ∙ c.if-is_dashes.true in
    record {
      dashes = sym (dashes_at words word true none is);
      options_first = has.options_first
          ∙ ap (take KEPT_OPTIONS) (sym (options_at words word none is));
      places_first = has.places_first
          ∙ ap (take KEPT_PLACES) (sym (places_at words word none is));
    }

pub returns-then-is_option : goal.returns-then-is_option
returns-then-is_option c words has =
    let word = pair c.args.word in
    let push = c.try_push-then-is_option in
    let none = sym has.dashes ∙ c.if-self.false in
    let other = sym c.is_dashes.ensures ∙ c.if-is_dashes.false in
    let is = sym c.is_option.ensures ∙ c.if-is_option.true in
    record {
      dashes = c.if-self.false ∙ sym (dashes_at words word false none other);
      options_first =
          pushed pair KEPT_OPTIONS push.result c.args.self.now.options push.new.self c.args.word
          (options words) push.ensures.ok push.ensures.err push.ensures.variant push.ensures.full
          has.options_first
          ∙ ap (take KEPT_OPTIONS) (sym (options_before words word true none other is));
      places_first = has.places_first
          ∙ ap (take KEPT_PLACES)
          (sym (places_before words word true none other is ∙ append-nil (places words)));
    }

pub returns-else-is_option : goal.returns-else-is_option
returns-else-is_option c words has =
    let word = pair c.args.word in
    let push = c.try_push-else-is_option in
    let none = sym has.dashes ∙ c.if-self.false in
    let other = sym c.is_dashes.ensures ∙ c.if-is_dashes.false in
    let is = sym c.is_option.ensures ∙ c.if-is_option.false in
    record {
      dashes = c.if-self.false ∙ sym (dashes_at words word false none other);
      options_first = has.options_first
          ∙ ap (take KEPT_OPTIONS)
          (sym (options_before words word false none other is ∙ append-nil (options words)));
      places_first =
          pushed pair KEPT_PLACES push.result c.args.self.now.places push.new.self c.args.word
          (places words) push.ensures.ok push.ensures.err push.ensures.variant push.ensures.full
          has.places_first
          ∙ ap (take KEPT_PLACES) (sym (places_before words word false none other is));
    }
