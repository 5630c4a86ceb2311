-- Each word is sorted with its place.
use Rattle.std.proofs.Common.{map, string_bytes, subst, sym, take, ◌∙◌, ap}
use Rattle.dp_words.specs.Sorting.{HasSorted}
use Rattle.dp_words.specs.Words.{options, placed, places}
use Rattle.dp_words.specs.declared.sorting.TheConstants.{KEPT_OPTIONS, KEPT_PLACES}
use Rattle.dp_words.proofs.WordLemmas.{next_word, all_words}
use Rattle.dp_words.proofs.sorting.sort_words.Goals as goal

pub loop-index-preserved : goal.loop-index-preserved
loop-index-preserved c =
    let words = c.args.words.now in
    let i = c.loop-index.index in
    subst (HasSorted c.sort.new.self)
    (sym (next_word string_bytes words i c.index-words-index.result c.as_str.result.now
    c.loop-index-test.true c.index-words-index.is c.as_str.ensures.value))
    (c.sort.ensures (take i (placed (map string_bytes words))) c.loop-index.invariant)

pub returns-clause-options : goal.returns-clause-options
returns-clause-options c =
    c.loop-index.invariant.options_first
    ∙ ap (λ words. take KEPT_OPTIONS (options words))
    (all_words string_bytes c.args.words.now c.loop-index.index c.loop-index-test.false)

pub returns-clause-places : goal.returns-clause-places
returns-clause-places c =
    c.loop-index.invariant.places_first
    ∙ ap (λ words. take KEPT_PLACES (places words))
    (all_words string_bytes c.args.words.now c.loop-index.index c.loop-index-test.false)
