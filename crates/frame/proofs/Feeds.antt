-- What the bytes up to the first line feed complete.
use Rattle.std.proofs.Common.{◌≡◌, ℕ, ◌+◌, ◌<◌, List, [], ◌∷◌, ◌++◌, length, take, drop, get_or}
use Rattle.std.proofs.Common.{Option, Some, None, ap, sym, subst, ◌∙◌, arith, append_assoc}
use Rattle.std.proofs.Common.{append-nil, length-take}
use Rattle.std.proofs.lemmas.Bool.Decides.{nat_tests}
use Rattle.std.proofs.lemmas.List.{get_or-take, take_all, take_more, take-append-drop}
use Rattle.std.specs.Option.{option_to_list}
use Rattle.memchr.specs.Find.{Nowhere, Passes, is_byte}
use Rattle.frame.specs.declared.item.Item.{Item}
use Rattle.frame.specs.Frames.{FeedsFront, StandsFor, items, kept_with, line_feed}
use Rattle.frame.proofs.StreamItems.{HasNoFeed, StandsFor-feed, StandsFor-with, items-others}

-- the test passes at no byte of the front
no_feed-front : (bytes : List ℕ) (end : ℕ) → Nowhere (Passes (is_byte line_feed) bytes) 0 end
    → HasNoFeed (take end bytes)
no_feed-front bytes end nowhere k below feed =
    let less : k < end = omega (arith, below, length-take end bytes) in
    let same : get_or bytes k 0 ≡ line_feed = sym (get_or-take end bytes k 0 less) ∙ feed in
    nowhere k (omega arith) less (grind (arith, nat_tests))

-- no line feed has come
pub feeds-all : (old : Option (List ℕ)) (bytes : List ℕ)
    → Nowhere (Passes (is_byte line_feed) bytes) 0 (length bytes)
    → FeedsFront old (kept_with old bytes) bytes None []
feeds-all old bytes nowhere =
    let none : HasNoFeed bytes = subst HasNoFeed (take_all (length bytes) bytes (omega arith))
    (no_feed-front bytes (length bytes) nowhere) in
    record {
      front = bytes;
      split = sym (append-nil bytes);
      gives = λ fed stands. items-others fed bytes none ∙ sym (append-nil (items fed));
      stands = λ fed stands. StandsFor-with old fed bytes none stands;
    }

-- the bytes up to a line feed, which completes the item of the line
pub feeds-line : (old new : Option (List ℕ)) (bytes : List ℕ) (end : ℕ) (item : Option Item)
    → end < length bytes → Nowhere (Passes (is_byte line_feed) bytes) 0 end
    → Passes (is_byte line_feed) bytes end
    → ((fed : List ℕ) → StandsFor (kept_with old (take end bytes)) fed
    → items (fed ++ line_feed ∷ []) ≡ items fed ++ option_to_list item)
    → new ≡ Some [] → FeedsFront old new bytes item (drop (end + 1) bytes)
feeds-line old new bytes end item there nowhere passes ends start =
    let none = no_feed-front bytes end nowhere in
    let feed : get_or bytes end 0 ≡ line_feed = grind (arith, nat_tests) in
    let front : List ℕ = take end bytes in
    let more : (fed : List ℕ) → fed ++ take (end + 1) bytes ≡ (fed ++ front) ++ line_feed ∷ [] =
    λ fed. ap (λ (t : List ℕ). fed ++ t) (take_more bytes end 0 there
    ∙ ap (λ (byte : ℕ). front ++ byte ∷ []) feed)
    ∙ sym (append_assoc fed front (line_feed ∷ [])) in
    record {
      front = take (end + 1) bytes;
      split = sym (take-append-drop (end + 1) bytes);
      gives = λ fed stands.
          ap items (more fed) ∙ ends (fed ++ front) (StandsFor-with old fed front none stands)
          ∙ ap (λ (xs : List Item). xs ++ option_to_list item) (items-others fed front none);
      stands = λ fed stands.
          subst (λ (t : List ℕ). StandsFor new t) (sym (more fed))
          (start ∙ StandsFor-feed (fed ++ front));
    }
