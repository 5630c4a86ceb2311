-- Thrusts in some piece of each region, and the choices of these pieces.
use Rattle.std.proofs.Common.{◌≡◌, ℕ, zero, suc, ◌+◌, ◌*◌, ◌/◌, ◌%◌, ◌<◌, ℤ, List, [], ◌∷◌, ◌++◌}
use Rattle.std.proofs.Common.{length, get_or, refl, sym, ap, subst, ◌∙◌, arith}
use Rattle.std.specs.Prelude.{Some, slice_get, slice_index_or}
use Rattle.std.specs.Option.{option_to_list}
use Rattle.std.proofs.Math.Nat.{mul-le-mul_right}
use Rattle.std.proofs.lemmas.Nat.{div-mul-add, mod-mul-add, div_below, mod_below}
use Rattle.std.proofs.lemmas.Option.{slice_get-get_or}
use Rattle.plant_model.specs.Lies.{LiesIn}
use Rattle.plant_model.specs.Rings.{origin}
use Rattle.plant_model.specs.declared.thrust.Point.{Point}
use Rattle.plant_model.specs.declared.thrust.Thrust.{Thrust}
use Rattle.thrust_region.specs.Choices.{choice_of, choices_of}
use Rattle.certificate.specs.Outcomes.{EachStands, LiesInSome, no_thrust, without}
use Rattle.certificate.proofs.Among.{any_at}

-- the choices of the later lists, where there is a choice
some_later : (a c k : ℕ) → k < a * c → 0 < c
some_later a zero k below = absurd (omega arith)
some_later a (suc c) k below = omega arith

first_of : {A : Type 0} (list : List A) (lists : List (List A)) (k i : ℕ) (x : A) →
    slice_get list (k / choices_of lists) ≡ Some x → k % choices_of lists ≡ i →
    choice_of (list ∷ lists) k ≡ x ∷ choice_of lists i
first_of list lists k i x e f =
    ap (λ o. option_to_list o ++ choice_of lists (k % choices_of lists)) e
    ∙ ap (λ (n : ℕ). x ∷ choice_of lists n) f

-- a choice has one element of each list
pub length-choice : {A : Type 0} (lists : List (List A)) (k : ℕ) → k < choices_of lists →
    length (choice_of lists k) ≡ length lists
length-choice [] k below = refl
length-choice {A} (list ∷ lists) k below =
    let some = some_later (length list) (choices_of lists) k below in
    counted (div_below k (choices_of lists) (length list) some below)
    (length-choice lists (k % choices_of lists) (mod_below k (choices_of lists) some)) list refl
  where
    counted : k / choices_of lists < length list → length (choice_of lists (k % choices_of lists))
        ≡ length lists → (all : List A) → all ≡ list → length (choice_of (list ∷ lists) k)
        ≡ length (list ∷ lists)
    counted there later [] e = let f = ap length e in absurd (omega (arith, f))
    counted there later (d ∷ all) e =
        ap length (first_of list lists k (k % choices_of lists) (get_or list (k / choices_of lists)
        d) (slice_get-get_or list (k / choices_of lists) d there) refl)
        ∙ omega (arith, later)

-- thrusts that lie in the pieces of a choice lie in some pieces of the regions
pub stands_in_some : (q : ℤ) (regions : List (List (List Point))) (fixed : List Point)
    (thrusts : List Thrust) (k : ℕ) → k < choices_of regions → length fixed ≡ length regions →
    length thrusts ≡ length regions →
    ((i : ℕ) → i < length regions →
    LiesIn (slice_index_or (choice_of regions k) i []) (without q (slice_index_or fixed i origin)
    (slice_index_or thrusts i no_thrust)) q) → EachStands (LiesInSome q) q regions fixed thrusts
stands_in_some q [] [] [] k below f t each = tt
stands_in_some q [] (p ∷ fixed) thrusts k below f t each = absurd (omega arith)
stands_in_some q [] [] (a ∷ thrusts) k below f t each = absurd (omega arith)
stands_in_some q (region ∷ regions) [] thrusts k below f t each = absurd (omega arith)
stands_in_some q (region ∷ regions) (p ∷ fixed) [] k below f t each = absurd (omega arith)
stands_in_some q (region ∷ regions) (p ∷ fixed) (a ∷ thrusts) k below f t each =
    let some = some_later (length region) (choices_of regions) k below in
    let there = div_below k (choices_of regions) (length region) some below in
    let e =
    first_of region regions k (k % choices_of regions) (get_or region (k / choices_of regions) [])
    (slice_get-get_or region (k / choices_of regions) [] there) refl in
    let stands : (i : ℕ) → i < suc (length regions) →
    LiesIn (slice_index_or (get_or region (k / choices_of regions) [] ∷ choice_of regions
    (k % choices_of regions)) i []) (without q (slice_index_or (p ∷ fixed) i origin)
    (slice_index_or (a ∷ thrusts) i no_thrust)) q
    = λ i h. subst (λ (pieces : List (List Point)). LiesIn (slice_index_or pieces i [])
    (without q (slice_index_or (p ∷ fixed) i origin) (slice_index_or (a ∷ thrusts) i no_thrust)) q)
    e (each i h) in (
      any_at (λ piece. LiesIn piece (without q p a) q) region (k / choices_of regions) [] there
          (stands 0 (omega arith)),
      stands_in_some q regions fixed thrusts (k % choices_of regions)
          (mod_below k (choices_of regions) some) (omega arith) (omega arith)
          (λ i h. stands (suc i) (omega arith)),
    )

-- thrusts that lie in some pieces of the regions lie in the pieces of a choice
pub stands_in_choice : (q : ℤ) (regions : List (List (List Point))) (fixed : List Point)
    (thrusts : List Thrust) → EachStands (LiesInSome q) q regions fixed thrusts →
    (k : ℕ) × (k < choices_of regions)
    × EachStands (λ piece a. LiesIn piece a q) q (choice_of regions k) fixed thrusts
stands_in_choice q [] [] [] each = (0, omega arith, tt)
stands_in_choice q [] (p ∷ fixed) thrusts each = absurd each
stands_in_choice q [] [] (a ∷ thrusts) each = absurd each
stands_in_choice q (region ∷ regions) [] thrusts each = absurd each
stands_in_choice q (region ∷ regions) (p ∷ fixed) [] each = absurd each
stands_in_choice q (region ∷ regions) (p ∷ fixed) (a ∷ thrusts) each =
    chosen each.0 (stands_in_choice q regions fixed thrusts each.1)
  where
    fits : (i n c k : ℕ) → i < n → k < c → i * c + k < n * c
    fits i n c k h l = omega (arith, mul-le-mul_right c h)

    chosen : LiesInSome q region (without q p a) → (k : ℕ) × (k < choices_of regions)
        × EachStands (λ piece a. LiesIn piece a q) q (choice_of regions k) fixed thrusts →
        (k : ℕ) × (k < choices_of (region ∷ regions))
        × EachStands (λ piece a. LiesIn piece a q) q (choice_of (region ∷ regions) k) (p ∷ fixed)
        (a ∷ thrusts)
    chosen here later =
        let i = here.0 in
        let k = later.0 in
        let number = i * choices_of regions + k in
        let got : slice_get region (number / choices_of regions) ≡ Some here.1 =
        ap (slice_get region) (div-mul-add i (choices_of regions) k later.1)
        ∙ slice_get-get_or region i here.1 here.2 ∙ ap Some here.3 in (
          number,
          fits i (length region) (choices_of regions) k here.2 later.1,
          subst (λ (pieces : List (List Point)). EachStands (λ piece a. LiesIn piece a q) q pieces
              (p ∷ fixed) (a ∷ thrusts))
              (sym (first_of region regions number k here.1 got (mod-mul-add i (choices_of regions)
              k later.1))) (here.4, later.2),
        )
