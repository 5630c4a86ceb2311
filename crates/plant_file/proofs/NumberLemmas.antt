-- Where a name stands in lists of names, one after the other.
use Rattle.std.proofs.Common.{◌≡◌, ℕ, zero, suc, ◌+◌, ◌-◌, ◌<◌, ◌≤◌, List, [], ◌∷◌, ◌++◌, length}
use Rattle.std.proofs.Common.{map, Bool, true, false, not, cond, Some, None, refl}
use Rattle.std.proofs.Common.{ap, ◌∙◌, arith}
use Rattle.std.proofs.Math.Dec.{ltb}
use Rattle.std.proofs.lemmas.Bool.Decides.{nat_tests}
use Rattle.std.proofs.lemmas.List.{length-append}
use Rattle.std.proofs.lemmas.List.Folds.{prefix_len-append}
use Rattle.std.proofs.lemmas.List.Sums.{prefix_len-le-length}
use Rattle.std.specs.Prelude.{nat_lt, unwrap_or, option_map, slice_get}
use Rattle.std.specs.Str.{bytes_eq}
use Rattle.std.specs.List.{position_or_len, prefix_len}
use Rattle.plant_model.specs.declared.parts.Member.{Member}
use Rattle.plant_model.specs.declared.parts.Member.TheVariants as member
use Rattle.plant_file.specs.Described.{member_at, number_of}

prefix-map : {A B : Type 0} (p : B → Bool) (f : A → B) (xs : List A)
    → prefix_len p (map f xs) ≡ prefix_len (λ x. p (f x)) xs
prefix-map p f [] = refl
prefix-map p f (x ∷ xs) = ap (λ n. cond (p (f x)) (1 + n) 0) (prefix-map p f xs)

pub position-map : {A B : Type 0} (p : B → Bool) (f : A → B) (xs : List A)
    → position_or_len p (map f xs) ≡ position_or_len (λ x. p (f x)) xs
position-map p f xs = prefix-map (λ y. not (p y)) f xs

found_if : (n p : ℕ) (b : Bool) → ltb p n ≡ b → p ≤ n → unwrap_or (cond b (Some p) None) n ≡ p
found_if n p true is within = refl
found_if n p false is within = grind (arith, nat_tests)

-- the first place that passes, or how many there are
pub found_or : {A : Type 0} (p : A → Bool) (xs : List A)
    → unwrap_or (cond (ltb (position_or_len p xs) (length xs)) (Some (position_or_len p xs)) None)
    (length xs) ≡ position_or_len p xs
found_or p xs =
    found_if (length xs) (position_or_len p xs) (ltb (position_or_len p xs) (length xs)) refl
    (prefix_len-le-length (λ x. not (p x)) xs)

module _ (name : List ℕ) (a b : List (List ℕ)) where
  pub number_left : number_of name a < length a → number_of name (a ++ b) ≡ number_of name a
  number_left within =
      let both = prefix_len-append (λ y. not (bytes_eq name y)) a b in
      grind (arith, nat_tests)

  pub number_right : length a ≤ number_of name a
      → number_of name (a ++ b) ≡ length a + number_of name b
  number_right past =
      let both = prefix_len-append (λ y. not (bytes_eq name y)) a b in
      let most = prefix_len-le-length (λ y. not (bytes_eq name y)) a in
      grind (arith, nat_tests)

-- the element at a place of a list of others
pub slice_get-map : {A B : Type 0} (f : A → B) (xs : List A) (i : ℕ)
    → slice_get (map f xs) i ≡ option_map f (slice_get xs i)
slice_get-map f [] i = refl
slice_get-map f (x ∷ xs) zero = refl
slice_get-map f (x ∷ xs) (suc i) = slice_get-map f xs i

-- the part that a name is, where names of sections, ties, generators and thrusters follow one
-- another
module _ (name : List ℕ) (a b c d : List (List ℕ)) where
  abbrev pub member_of : Member
  member_of = member_at (length a) (length b) (length c) (number_of name (a ++ b ++ c ++ d))

  pub in_first : number_of name a < length a → member_of ≡ member.Section (number_of name a)
  in_first one =
      let two = number_left name a b one in
      let three = number_left name (a ++ b) c (omega (arith, two, length-append a b)) in
      let four =
      number_left name (a ++ b ++ c) d
      (omega (arith, two, three, length-append a b, length-append (a ++ b) c)) in
      let is : number_of name (a ++ b ++ c ++ d) ≡ number_of name a = four ∙ three ∙ two in
      let first : nat_lt (number_of name a) (length a) ≡ true = grind (arith, nat_tests) in
      ap (member_at (length a) (length b) (length c)) is ∙ rw first refl

  module _ (past : length a ≤ number_of name a) where
    pub in_second : number_of name b < length b → member_of ≡ member.Tie (number_of name b)
    in_second one =
        let two = number_right name a b past in
        let three = number_left name (a ++ b) c (omega (arith, two, length-append a b)) in
        let four =
        number_left name (a ++ b ++ c) d
        (omega (arith, two, three, length-append a b, length-append (a ++ b) c)) in
        let is : number_of name (a ++ b ++ c ++ d) ≡ length a + number_of name b =
        four ∙ three ∙ two in
        let first : nat_lt (length a + number_of name b) (length a) ≡ false =
        grind (arith, nat_tests) in
        let second : nat_lt (length a + number_of name b) (length a + length b) ≡ true =
        grind (arith, nat_tests) in
        let less : length a + number_of name b - length a ≡ number_of name b = omega arith in
        ap (member_at (length a) (length b) (length c)) is ∙ rw (first, second, less) refl

    module _ (past_ties : length b ≤ number_of name b) where
      number_of_third : number_of name (a ++ b ++ c) ≡ length a + length b + number_of name c
      number_of_third =
          let two = number_right name a b past in
          number_right name (a ++ b) c (omega (arith, two, length-append a b))
          ∙ ap (λ n. n + number_of name c) (length-append a b)

      pub in_third : number_of name c < length c → member_of ≡ member.Generator (number_of name c)
      in_third one =
          let three = number_of_third in
          let four =
          number_left name (a ++ b ++ c) d
          (omega (arith, three, length-append a b, length-append (a ++ b) c)) in
          let is : number_of name (a ++ b ++ c ++ d) ≡ length a + length b + number_of name c =
          four ∙ three in
          let place = length a + length b + number_of name c in
          let first : nat_lt place (length a) ≡ false = grind (arith, nat_tests) in
          let second : nat_lt place (length a + length b) ≡ false = grind (arith, nat_tests) in
          let third : nat_lt place (length a + length b + length c) ≡ true =
          grind (arith, nat_tests) in
          let less : place - (length a + length b) ≡ number_of name c = omega arith in
          ap (member_at (length a) (length b) (length c)) is ∙ rw (first, second, third, less) refl

      pub in_last : length c ≤ number_of name c → member_of ≡ member.Thruster (number_of name d)
      in_last past_generators =
          let three = number_of_third in
          let four =
          number_right name (a ++ b ++ c) d
          (omega (arith, three, length-append a b, length-append (a ++ b) c)) in
          let place = length a + length b + length c + number_of name d in
          let is : number_of name (a ++ b ++ c ++ d) ≡ place =
          four ∙ ap (λ n. n + number_of name d) (length-append (a ++ b) c
          ∙ ap (λ n. n + length c) (length-append a b)) in
          let first : nat_lt place (length a) ≡ false = grind (arith, nat_tests) in
          let second : nat_lt place (length a + length b) ≡ false = grind (arith, nat_tests) in
          let third : nat_lt place (length a + length b + length c) ≡ false =
          grind (arith, nat_tests) in
          let less : place - (length a + length b + length c) ≡ number_of name d = omega arith in
          ap (member_at (length a) (length b) (length c)) is ∙ rw (first, second, third, less) refl
