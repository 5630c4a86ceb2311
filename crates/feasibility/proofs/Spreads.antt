-- What bounds the supports of many choices.
use Rattle.std.proofs.Common.{◌≡◌, ◌∙◌, ℕ, zero, suc, ◌+◌, ◌*◌, ◌/◌, ◌%◌, ◌^◌, ◌<◌, ◌≤◌, ℤ, pos, ◌+ℤ◌}
use Rattle.std.proofs.Common.{◌≤ℤ◌, List, [], ◌∷◌, ◌++◌, length, map, drop, take, get_or, refl, sym, ap, ap₂}
use Rattle.std.proofs.Common.{◌-ℤ◌, ◌<ℤ◌, ◌⊎◌, inl, inr, neg_ℤ, Bool, true, false, SFits, to_z, of_z, subst, arith}
use Rattle.std.specs.Prelude.{fold, slice_get}
use Rattle.std.specs.Int.{int_max, w128}
use Rattle.std.specs.List.{Contains}
use Rattle.std.specs.Option.{option_to_list}
use Rattle.std.proofs.Math.Dec.{ltb}
use Rattle.std.proofs.Math.ListN.{drop_of_length-le, get_or-map}
use Rattle.std.proofs.Math.Nat.{div-add-mod, mul_comm}
use Rattle.std.proofs.lemmas.Bool.{ltb-true}
use Rattle.std.proofs.lemmas.Bool.Decides.{nat_tests}
use Rattle.std.proofs.lemmas.Int.{fold-int_max_bounds, fold-int_max_reached, int_max_is, to_z-of_z}
use Rattle.std.proofs.lemmas.List.Sums.{fold_more}
use Rattle.std.proofs.lemmas.List.{get_or_default, length-map}
use Rattle.std.proofs.lemmas.Nat.{div-mul-add, div_below, mod-mul-add, mod_below, row_fits}
use Rattle.std.proofs.lemmas.Option.{slice_get-get_or}
use Rattle.int_ring.proofs.Intervals.{known_fits}
use Rattle.int_ring.proofs.Laws.{linear}
use Rattle.plant_model.specs.declared.thrust.Point.{Point}
use Rattle.plant_model.specs.Rings.{origin}
use Rattle.thrust_region.specs.Choices.{choice_of, choices_of}
use Rattle.thrust_region.proofs.Digits.{digit, quotient, remainder}
use Rattle.thrust_region.proofs.Lists.{left_from}
use Rattle.wrench_geometry.specs.declared.vector.Vec3.{Vec3}
use Rattle.wrench_geometry.specs.Chosen.{images_of}
use Rattle.wrench_geometry.specs.Vectors.{support_of}
use Rattle.wrench_geometry.specs.Wrenches.{image_of}
use Rattle.certificate.proofs.Supports.{greatest_from_0, support_cons}
use Rattle.feasibility.specs.Spreads.{AreNumbers, BeginsWith, IsSpread, farthest_of, reach_of}
use Rattle.feasibility.specs.Spreads.{spread_of}

-- ---- one choice

some_later : (a c k : ℕ) → k < a * c → 0 < c
some_later a zero k below = absurd (omega arith)
some_later a (suc c) k below = omega arith

-- the piece of the first thruster, and those of the others
chosen_first : {A : Type 0} (list : List A) (lists : List (List A)) (k n m : ℕ) (d : A) →
    k / choices_of lists ≡ n → k % choices_of lists ≡ m → n < length list →
    choice_of (list ∷ lists) k ≡ get_or list n d ∷ choice_of lists m
chosen_first list lists k n m d first others there =
    ap (λ (i : ℕ). option_to_list (slice_get list i) ++ choice_of lists (k % choices_of lists)) first
    ∙ ap (λ o. option_to_list o ++ choice_of lists (k % choices_of lists))
    (slice_get-get_or list n d there)
    ∙ ap (λ (i : ℕ). get_or list n d ∷ choice_of lists i) others

-- a piece reaches no farther than the farthest
farthest_at_least : (w : Vec3) (lever : Point) (region : List (List Point)) (n : ℕ) →
    n < length region → reach_of w lever (get_or region n []) ≤ℤ farthest_of w lever region
farthest_at_least w lever region n there =
    let numbers = map (reach_of w lever) region in
    let bounds = fold-int_max_bounds (pos 0) numbers (farthest_of w lever region) refl in
    subst (λ (z : ℤ). z ≤ℤ farthest_of w lever region)
    (get_or-map (reach_of w lever) region n [])
    (bounds.1 n (reach_of w lever []) (omega (arith, length-map region (reach_of w lever))))

added : (a b c d : ℤ) {e f : ℤ} → e ≡ a +ℤ c → f ≡ b +ℤ d → a ≤ℤ b → c ≤ℤ d → e ≤ℤ f
added a b c d {e} {f} p q h k = omega (arith, linear)

-- no choice has a greater support
pub free_at_most : (w : Vec3) (levers : List Point) (regions : List (List (List Point))) (k : ℕ) →
    k < choices_of regions →
    support_of (images_of levers (choice_of regions k)) w ≤ℤ spread_of w levers regions []
free_at_most w [] regions k there = omega (arith, linear)
free_at_most w (lever ∷ levers) [] k there = omega (arith, linear)
free_at_most w (lever ∷ levers) (region ∷ regions) k there =
    let c = choices_of regions in
    let some = some_later (length region) c k there in
    let n = k / c in
    let below = div_below k c (length region) some there in
    let pieces = chosen_first region regions k n (k % c) [] refl refl below in
    added (reach_of w lever (get_or region n [])) (farthest_of w lever region)
    (support_of (images_of levers (choice_of regions (k % c))) w) (spread_of w levers regions [])
    (ap (λ (l : List (List Point)). support_of (images_of (lever ∷ levers) l) w) pieces
    ∙ support_cons w (map (image_of lever) (get_or region n []))
    (images_of levers (choice_of regions (k % c))))
    refl (farthest_at_least w lever region n below)
    (free_at_most w levers regions (k % c) (mod_below k c some))

-- ---- the choices with the same first pieces as a choice

module _ (w : Vec3) (levers : List Point) (regions : List (List (List Point))) where
  abbrev pub support_at : ℕ → ℤ
  support_at k = support_of (images_of levers (choice_of regions k)) w

  -- the choices from a first one on, of which the pieces of so many thrusters are those of the choice
  -- k and have the support base together
  pub record IsBlock (k taken first size rest : ℕ) (base : ℤ) : Type 0 where
    pub reached : first + rest ≡ k
    pub inside : rest < size
    pub sized : size ≡ choices_of (drop taken regions)
    pub there : first + size ≤ choices_of regions
    pub splits : (m : ℕ) → m < size → support_at (first + m) ≡ base +ℤ support_of
        (images_of (drop taken levers) (choice_of (drop taken regions) m)) w

  pub whole_block : (k : ℕ) → k < choices_of regions → IsBlock k 0 0 (choices_of regions) k (pos 0)
  whole_block k there = record {
    reached = omega arith;
    inside = there;
    sized = refl;
    there = omega arith;
    splits = λ m below.
        (let none : 0 + m ≡ m = omega arith in ap support_at none ∙ plus_none (support_at m));
  }
    where
      plus_none : (z : ℤ) → z ≡ pos 0 +ℤ z
      plus_none z = omega (arith, linear)

  -- where the spread of the rest isn't greater, no choice of the block has a greater support
  pub block_at_most : (k taken first size rest : ℕ) (base reach : ℤ) →
      reach ≡ base +ℤ spread_of w (drop taken levers) (drop taken regions) [] →
      IsBlock k taken first size rest base → (m : ℕ) → m < size → support_at (first + m) ≤ℤ reach
  block_at_most k taken first size rest base reach is block m below =
      more (support_at (first + m)) base
      (support_of (images_of (drop taken levers) (choice_of (drop taken regions) m)) w) reach
      (spread_of w (drop taken levers) (drop taken regions) []) (block.splits m below) is
      (free_at_most w (drop taken levers) (drop taken regions) m
      (subst (λ (n : ℕ). m < n) block.sized below))
    where
      more : (a b c d e : ℤ) → a ≡ b +ℤ c → d ≡ b +ℤ e → c ≤ℤ e → a ≤ℤ d
      more a b c d e p q h = omega (arith, linear)

  -- one thruster's piece more
  pub block_next : (k taken first size rest count : ℕ) (base : ℤ) (lever : Point)
      (region : List (List Point)) → drop taken levers ≡ lever ∷ drop (taken + 1) levers →
      drop taken regions ≡ region ∷ drop (taken + 1) regions → count ≡ length region →
      IsBlock k taken first size rest base →
      IsBlock k (taken + 1) (first + rest / (size / count) * (size / count)) (size / count)
      (rest % (size / count)) (base +ℤ reach_of w lever (get_or region (rest / (size / count)) []))
  block_next k taken first size rest count base lever region is_lever is_region is_count block =
      let lists = drop (taken + 1) regions in
      let sized : size ≡ length region * choices_of lists =
      block.sized ∙ ap choices_of is_region in
      let below = block.inside in
      let less : size / count ≡ choices_of lists =
      quotient region lists size rest count sized is_count below in
      let n : ℕ = rest / (size / count) in
      let there : n < count = digit region lists size rest count sized is_count below in
      let follows : rest % (size / count) < size / count =
      remainder region lists size rest count sized is_count below in
      let split = divided rest (size / count) (omega arith) in
      let fits : n * choices_of lists + choices_of lists ≤ length region * choices_of lists =
      row n (length region) (choices_of lists) (omega arith) in
      record {
        reached = omega (arith, block.reached, split);
        inside = follows;
        sized = less;
        there =
            (let all = block.there in
            let same : n * (size / count) ≡ n * choices_of lists = ap (λ (c : ℕ). n * c) less in
            omega (arith, all, same, less, fits, sized));
        splits = λ m small.
            (let within : m < choices_of lists = subst (λ (c : ℕ). m < c) less small in
            let here : n * choices_of lists + m < size =
            omega (arith, fits, sized, within) in
            let pieces : choice_of (drop taken regions) (n * choices_of lists + m)
            ≡ get_or region n [] ∷ choice_of lists m =
            ap (λ (l : List (List (List Point))). choice_of l (n * choices_of lists + m)) is_region
            ∙ chosen_first region lists (n * choices_of lists + m) n m []
            (div-mul-add n (choices_of lists) m within) (mod-mul-add n (choices_of lists) m within)
            (omega arith) in
            let place : first + n * (size / count) + m ≡ first + (n * choices_of lists + m) =
            (let same : n * (size / count) ≡ n * choices_of lists =
            ap (λ (c : ℕ). n * c) less in omega (arith, same)) in
            ap support_at place
            ∙ block.splits (n * choices_of lists + m) here
            ∙ ap (λ (l : List Point). base +ℤ support_of (images_of l
            (choice_of (drop taken regions) (n * choices_of lists + m))) w) is_lever
            ∙ ap (λ (p : List (List Point)). base +ℤ support_of
            (images_of (lever ∷ drop (taken + 1) levers) p) w) pieces
            ∙ ap (λ (z : ℤ). base +ℤ z) (support_cons w (map (image_of lever) (get_or region n []))
            (images_of (drop (taken + 1) levers) (choice_of lists m)))
            ∙ grouped base (reach_of w lever (get_or region n [])) (support_of
            (images_of (drop (taken + 1) levers) (choice_of lists m)) w));
      }
    where
      divided : (a b : ℕ) → 0 < b → a / b * b + a % b ≡ a
      divided a b some = ap (λ (n : ℕ). n + a % b) (mul_comm (a / b) b) ∙ div-add-mod a b

      row : (n m c : ℕ) → n < m → n * c + c ≤ m * c
      row n m c below = row_fits n c m c below (omega arith)

      grouped : (a b c : ℤ) → a +ℤ (b +ℤ c) ≡ a +ℤ b +ℤ c
      grouped a b c = omega (arith, linear)

-- ---- one number more

-- the farthest so far, with one piece more
pub next_farthest : (numbers : List ℤ) (i : ℕ) (d g z m : ℤ) → i < length numbers →
    (g ≡ fold int_max (pos 0) (take i numbers)) × (pos 0 ≤ℤ g) × (g ≤ℤ pos (2 ^ 87)) →
    z ≡ get_or numbers i d → pos 0 ≤ℤ z → z ≤ℤ pos (2 ^ 87) → m ≡ int_max g z →
    (m ≡ fold int_max (pos 0) (take (i + 1) numbers)) × (pos 0 ≤ℤ m) × (m ≤ℤ pos (2 ^ 87))
next_farthest numbers i d g z m h k is low high e =
    let from = k.1 in
    let to = k.2 in (
      e ∙ ap₂ int_max k.0 is ∙ sym (fold_more int_max (pos 0) numbers i d h),
      omega (arith, linear, int_max_is),
      omega (arith, linear, int_max_is),
    )

-- the spread of what is left, with one thruster taken off
pub spread_left : (w : Vec3) (levers : List Point) (regions : List (List (List Point))) (i : ℕ) →
    i < length levers → i < length regions → spread_of w (drop i levers) (drop i regions) []
    ≡ farthest_of w (get_or levers i origin) (get_or regions i [])
    +ℤ spread_of w (drop (i + 1) levers) (drop (i + 1) regions) []
spread_left w levers regions i there here =
    ap₂ (λ (l : List Point) (r : List (List (List Point))). spread_of w l r [])
    (left_from levers i origin there) (left_from regions i [] here)

-- the sum so far, with one thruster more
pub next_total : (i : ℕ) (t z m rest next whole : ℤ) → m ≡ t +ℤ z → rest ≡ z +ℤ next →
    (t +ℤ rest ≡ whole) × (pos 0 ≤ℤ t) × (t ≤ℤ pos (i * 2 ^ 87)) → pos 0 ≤ℤ z →
    z ≤ℤ pos (2 ^ 87) →
    (m +ℤ next ≡ whole) × (pos 0 ≤ℤ m) × (m ≤ℤ pos ((i + 1) * 2 ^ 87))
next_total i t z m rest next whole is split k low high =
    let sum = k.0 in
    let from = k.1 in
    let to = k.2 in (
      omega (arith, linear, sum),
      omega (arith, linear),
      omega (arith, linear),
    )

-- ---- the choices that one direction cuts off

under : (a b c : ℤ) → a ≤ℤ b → b <ℤ c → a <ℤ c
under a b c h k = omega (arith, linear)

module _ (w : Vec3) (levers : List Point) (regions : List (List (List Point))) where
  -- a block that begins at the choice, whose spread is below a bound
  pub block_falls_short : (k taken first size rest : ℕ) (base reach along : ℤ) → rest ≡ 0 →
      reach ≡ base +ℤ spread_of w (drop taken levers) (drop taken regions) [] → reach <ℤ along →
      IsBlock w levers regions k taken first size rest base → (m : ℕ) → m < size →
      support_of (images_of levers (choice_of regions (k + m))) w <ℤ along
  block_falls_short k taken first size rest base reach along begins is short block m below =
      let same : first + m ≡ k + m = omega (arith, block.reached, begins) in
      under (support_of (images_of levers (choice_of regions (k + m))) w) reach along
      (subst (λ (n : ℕ). support_of (images_of levers (choice_of regions n)) w ≤ℤ reach) same
      (block_at_most w levers regions k taken first size rest base reach is block m below)) short

  pub block_within : (k taken first size rest : ℕ) (base : ℤ) → rest ≡ 0 →
      IsBlock w levers regions k taken first size rest base → k + size ≤ choices_of regions
  block_within k taken first size rest base begins block =
      omega (arith, block.reached, begins, block.there)

  pub next_some : (k taken first size rest count : ℕ) (base : ℤ) (region : List (List Point)) →
      drop taken regions ≡ region ∷ drop (taken + 1) regions → count ≡ length region →
      IsBlock w levers regions k taken first size rest base → 0 < size / count
  next_some k taken first size rest count base region is_region is_count block =
      omega (
        arith,
        remainder region (drop (taken + 1) regions) size rest count
            (block.sized ∙ ap choices_of is_region) is_count block.inside,
      )

  -- past the last thruster the block is one choice
  pub last_begins : (k taken first size rest : ℕ) (base : ℤ) → length regions ≤ taken →
      IsBlock w levers regions k taken first size rest base → rest ≡ 0
  last_begins k taken first size rest base past block =
      let one : size ≡ 1 = block.sized ∙ ap choices_of (drop_of_length-le regions past) in
      omega (arith, block.inside, one)

-- the reach with one piece in the place of the farthest
pub next_reach : (i : ℕ) (base f r s reach m : ℤ) → reach ≡ base +ℤ (f +ℤ s) → m ≡ reach -ℤ f +ℤ r →
    pos 0 ≤ℤ f → f ≤ℤ pos (2 ^ 87) → pos 0 ≤ℤ r → r ≤ℤ pos (2 ^ 87) →
    neg_ℤ (pos (i * 2 ^ 87)) ≤ℤ reach → reach ≤ℤ pos ((12 + i) * 2 ^ 87) →
    (m ≡ base +ℤ r +ℤ s) × (neg_ℤ (pos ((i + 1) * 2 ^ 87)) ≤ℤ m) ×
    (m ≤ℤ pos ((12 + (i + 1)) * 2 ^ 87))
next_reach i base f r s reach m is e f_low f_high r_low r_high low high = (
  omega (arith, linear),
  omega (arith, linear),
  omega (arith, linear),
)

between_fits : (z : ℤ) → neg_ℤ (pos (13 * 2 ^ 87)) ≤ℤ z → z ≤ℤ pos (25 * 2 ^ 87) → SFits w128 z
between_fits z low high =
    known_fits w128 z z (neg_ℤ (pos (13 * 2 ^ 87))) (pos (25 * 2 ^ 87))
    (record { is = refl; from_low = low; to_high = high }) tt

-- while it is taken, the reach fits 128 bits
pub reach_fits : (i : ℕ) (reach f r : ℤ) → i ≤ 12 → pos 0 ≤ℤ f → f ≤ℤ pos (2 ^ 87) → pos 0 ≤ℤ r →
    r ≤ℤ pos (2 ^ 87) → neg_ℤ (pos (i * 2 ^ 87)) ≤ℤ reach → reach ≤ℤ pos ((12 + i) * 2 ^ 87) →
    SFits w128 (reach -ℤ f) × SFits w128 (reach -ℤ f +ℤ r)
reach_fits i reach f r few f_low f_high r_low r_high low high = (
  between_fits (reach -ℤ f) (omega (arith, linear)) (omega (arith, linear)),
  between_fits (reach -ℤ f +ℤ r) (omega (arith, linear)) (omega (arith, linear)),
)

-- so do its machine numbers
pub taken_is : (i : ℕ) (reach f r f' r' : ℤ) → f' ≡ f → r' ≡ r → i ≤ 12 → pos 0 ≤ℤ f →
    f ≤ℤ pos (2 ^ 87) → pos 0 ≤ℤ r → r ≤ℤ pos (2 ^ 87) → neg_ℤ (pos (i * 2 ^ 87)) ≤ℤ reach →
    reach ≤ℤ pos ((12 + i) * 2 ^ 87) → (to_z w128 (of_z w128 (reach -ℤ f')) +ℤ r'
    ≡ reach -ℤ f +ℤ r) × SFits w128 (reach -ℤ f +ℤ r)
taken_is i reach f r f' r' is_f is_r few f_low f_high r_low r_high low high =
    let fit = reach_fits i reach f r few f_low f_high r_low r_high low high in (
      ap₂ (λ a b. a +ℤ b) (ap (λ z. to_z w128 (of_z w128 (reach -ℤ z))) is_f
          ∙ to_z-of_z w128 (reach -ℤ f) fit.0) is_r,
      fit.1,
    )

-- ---- the spread, with some pieces fixed

-- what a thruster adds
pub part_left : (w : Vec3) (levers : List Point) (regions : List (List (List Point)))
    (fixed : List ℕ) (i : ℕ) (z : ℤ) → i < length levers → i < length regions →
    (i < length fixed → z
    ≡ reach_of w (get_or levers i origin) (get_or (get_or regions i []) (get_or fixed i 0) [])) →
    (length fixed ≤ i → z ≡ farthest_of w (get_or levers i origin) (get_or regions i [])) →
    spread_of w (drop i levers) (drop i regions) (drop i fixed)
    ≡ z +ℤ spread_of w (drop (i + 1) levers) (drop (i + 1) regions) (drop (i + 1) fixed)
part_left w levers regions fixed i z there here some none = by_test (ltb i (length fixed)) refl
  where
    lever : Point
    lever = get_or levers i origin

    region : List (List Point)
    region = get_or regions i []

    split : (rest : List ℕ) → drop i fixed ≡ rest →
        spread_of w (drop i levers) (drop i regions) (drop i fixed)
        ≡ spread_of w (lever ∷ drop (i + 1) levers) (region ∷ drop (i + 1) regions) rest
    split rest is =
        ap (λ (l : List Point). spread_of w l (drop i regions) (drop i fixed))
        (left_from levers i origin there)
        ∙ ap₂ (λ (r : List (List (List Point))) (f : List ℕ).
        spread_of w (lever ∷ drop (i + 1) levers) r f) (left_from regions i [] here) is

    by_test : (b : Bool) → ltb i (length fixed) ≡ b →
        spread_of w (drop i levers) (drop i regions) (drop i fixed)
        ≡ z +ℤ spread_of w (drop (i + 1) levers) (drop (i + 1) regions) (drop (i + 1) fixed)
    by_test true test =
        let below = ltb-true i (length fixed) test in
        split (get_or fixed i 0 ∷ drop (i + 1) fixed) (left_from fixed i 0 below)
        ∙ ap (λ (y : ℤ). y +ℤ spread_of w (drop (i + 1) levers) (drop (i + 1) regions)
        (drop (i + 1) fixed)) (sym (some below))
    by_test false test =
        let past : length fixed ≤ i = grind (arith, nat_tests) in
        split [] (drop_of_length-le fixed past)
        ∙ ap₂ (λ (y : ℤ) (f : List ℕ). y +ℤ spread_of w (drop (i + 1) levers)
        (drop (i + 1) regions) f) (sym (none past))
        (sym (drop_of_length-le fixed (further past)))
      where
        further : length fixed ≤ i → length fixed ≤ i + 1
        further h = omega (arith, h)

no_regions : (w : Vec3) (levers : List Point) (fixed : List ℕ) → spread_of w levers [] fixed ≡ pos 0
no_regions w [] fixed = refl
no_regions w (lever ∷ levers) fixed = refl

pub total_when_taken : (t : ℤ) (w : Vec3) (levers : List Point) (regions : List (List (List Point)))
    (fixed : List ℕ) (i : ℕ) → length regions ≤ i →
    t +ℤ spread_of w (drop i levers) (drop i regions) (drop i fixed)
    ≡ spread_of w levers regions fixed → t ≡ spread_of w levers regions fixed
total_when_taken t w levers regions fixed i past sum =
    let none : spread_of w (drop i levers) (drop i regions) (drop i fixed) ≡ pos 0 =
    ap (λ (r : List (List (List Point))). spread_of w (drop i levers) r (drop i fixed))
    (drop_of_length-le regions past) ∙ no_regions w (drop i levers) (drop i fixed) in
    omega (arith, linear, sum, none)

pub spread_at_most : (w : Vec3) (levers : List Point) (regions : List (List (List Point)))
    (fixed : List ℕ) (k : ℕ) → k < choices_of regions → BeginsWith regions fixed k →
    support_of (images_of levers (choice_of regions k)) w ≤ℤ spread_of w levers regions fixed
spread_at_most w levers regions [] k there begins = free_at_most w levers regions k there
spread_at_most w [] regions (n ∷ fixed) k there begins = omega (arith, linear)
spread_at_most w (lever ∷ levers) [] (n ∷ fixed) k there begins = omega (arith, linear)
spread_at_most w (lever ∷ levers) (region ∷ regions) (n ∷ fixed) k there begins =
    let c = choices_of regions in
    let some = some_later (length region) c k there in
    let below = div_below k c (length region) some there in
    let pieces = chosen_first region regions k n (k % c) [] begins.0 refl
    (subst (λ (i : ℕ). i < length region) begins.0 below) in
    added (reach_of w lever (get_or region n [])) (reach_of w lever (get_or region n []))
    (support_of (images_of levers (choice_of regions (k % c))) w) (spread_of w levers regions fixed)
    (ap (λ (l : List (List Point)). support_of (images_of (lever ∷ levers) l) w) pieces
    ∙ support_cons w (map (image_of lever) (get_or region n []))
    (images_of levers (choice_of regions (k % c))))
    refl (omega (arith, linear))
    (spread_at_most w levers regions fixed (k % c) (mod_below k c some) begins.1)

-- a choice that begins so and has that support
record IsFarthest (w : Vec3) (levers : List Point) (regions : List (List (List Point)))
    (fixed : List ℕ) : Type 0 where
  choice : ℕ
  there : choice < choices_of regions
  begins : BeginsWith regions fixed choice
  reached : support_of (images_of levers (choice_of regions choice)) w
      ≡ spread_of w levers regions fixed

-- some piece reaches farthest
farthest_is : (w : Vec3) (lever : Point) (region : List (List Point)) → 0 < length region →
    (n : ℕ) × (n < length region)
    × (reach_of w lever (get_or region n []) ≡ farthest_of w lever region)
farthest_is w lever region some =
    by_case (fold-int_max_reached (pos 0) numbers (farthest_of w lever region) refl)
  where
    numbers : List ℤ
    numbers = map (reach_of w lever) region

    by_case : (farthest_of w lever region ≡ pos 0) ⊎ Contains numbers (farthest_of w lever region) →
        (n : ℕ) × (n < length region)
        × (reach_of w lever (get_or region n []) ≡ farthest_of w lever region)
    by_case (inl none) = (
      0,
      some,
      omega (
        arith,
        linear,
        none,
        greatest_from_0 w (map (image_of lever) (get_or region 0 [])),
        farthest_at_least w lever region 0 some,
      ),
    )
    by_case (inr one) =
        let below : one.0 < length region =
        omega (arith, one.1, length-map region (reach_of w lever)) in (
          one.0,
          below,
          sym (get_or-map (reach_of w lever) region one.0 [])
              ∙ get_or_default numbers one.0 (reach_of w lever []) (farthest_of w lever region)
              one.1 ∙ one.2,
        )

some_first : (a c : ℕ) → 0 < a * c → (0 < a) × (0 < c)
some_first zero c h = absurd (omega arith)
some_first (suc a) zero h = absurd (omega arith)
some_first (suc a) (suc c) h = (omega arith, omega arith)

one_more : (w : Vec3) (lever : Point) (levers : List Point) (region : List (List Point))
    (regions : List (List (List Point))) (n : ℕ) (fixed : List ℕ) → n < length region →
    (rest : IsFarthest w levers regions fixed) →
    (number : ℕ) × (number < choices_of (region ∷ regions)) × (number / choices_of regions ≡ n)
    × (number % choices_of regions ≡ rest.choice)
    × (support_of (images_of (lever ∷ levers) (choice_of (region ∷ regions) number)) w
    ≡ reach_of w lever (get_or region n []) +ℤ spread_of w levers regions fixed)
one_more w lever levers region regions n fixed there rest =
    let c = choices_of regions in
    let m = rest.choice in
    let below = rest.there in
    let first = div-mul-add n c m below in
    let others = mod-mul-add n c m below in
    let fits = row_fits n c (length region) c there (omega arith) in (
      n * c + m,
      omega (arith, fits, below),
      first,
      others,
      ap (λ (l : List (List Point)). support_of (images_of (lever ∷ levers) l) w)
          (chosen_first region regions (n * c + m) n m [] first others there)
          ∙ support_cons w (map (image_of lever) (get_or region n []))
          (images_of levers (choice_of regions m))
          ∙ ap (λ (z : ℤ). reach_of w lever (get_or region n []) +ℤ z) rest.reached,
    )

farthest_choice : (w : Vec3) (levers : List Point) (regions : List (List (List Point)))
    (fixed : List ℕ) → length levers ≡ length regions → 0 < choices_of regions →
    AreNumbers regions fixed → IsFarthest w levers regions fixed
farthest_choice w [] [] [] same some are = record {
  choice = 0;
  there = omega arith;
  begins = tt;
  reached = refl;
}
farthest_choice w [] [] (n ∷ fixed) same some are = absurd are
farthest_choice w [] (region ∷ regions) fixed same some are = absurd (omega arith)
farthest_choice w (lever ∷ levers) [] fixed same some are = absurd (omega arith)
farthest_choice w (lever ∷ levers) (region ∷ regions) [] same some are =
    let both = some_first (length region) (choices_of regions) some in
    let rest = farthest_choice w levers regions [] (omega arith) both.1 tt in
    let far = farthest_is w lever region both.0 in
    let more = one_more w lever levers region regions far.0 [] far.1 rest in
    record {
      choice = more.0;
      there = more.1;
      begins = tt;
      reached = more.4 ∙ ap (λ (z : ℤ). z +ℤ spread_of w levers regions []) far.2;
    }
farthest_choice w (lever ∷ levers) (region ∷ regions) (n ∷ fixed) same some are =
    let both = some_first (length region) (choices_of regions) some in
    let rest = farthest_choice w levers regions fixed (omega arith) both.1 are.1 in
    let more = one_more w lever levers region regions n fixed are.0 rest in
    record {
      choice = more.0;
      there = more.1;
      begins = (more.2, subst (λ (m : ℕ). BeginsWith regions fixed m) (sym more.3) rest.begins);
      reached = more.4;
    }

pub is_spread : (w : Vec3) (levers : List Point) (regions : List (List (List Point)))
    (fixed : List ℕ) → length levers ≡ length regions → 1 ≤ choices_of regions →
    AreNumbers regions fixed → IsSpread w levers regions fixed (spread_of w levers regions fixed)
is_spread w levers regions fixed same some are =
    let far = farthest_choice w levers regions fixed same (omega arith) are in
    record {
      at_most = spread_at_most w levers regions fixed;
      choice = far.choice;
      there = far.there;
      begins = far.begins;
      reached = far.reached;
    }
