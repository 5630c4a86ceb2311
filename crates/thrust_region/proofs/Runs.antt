-- Runs as walks round a ring.
use Rattle.std.proofs.Common.{◌≡◌, ◌∙◌, ap, ap₂, sym, refl, ℕ, zero, suc, ◌+◌, ◌-◌, ◌<◌, ◌≤◌, ◌++◌}
use Rattle.std.proofs.Common.{List, [], ◌∷◌, length, take, drop, get_or, map, Bool, true, false}
use Rattle.std.proofs.Common.{cond, ◌==◌, arith}
use Rattle.std.proofs.Math.Seq.{take-nil}
use Rattle.std.specs.List.{list_any, position_or_len, range_with_len}
use Rattle.plant_model.specs.declared.thrust.Point.{Point}
use Rattle.plant_model.specs.declared.thrust.Sector.{Sector}
use Rattle.plant_model.specs.Rings.{place_after, places, places_from, point_at}

-- some sector begins at the place
abbrev pub begins_at : List Sector → ℕ → Bool
begins_at sectors place = list_any (λ s. s.from == place) sectors

-- some sector ends at the place
abbrev pub ends_at : List Sector → ℕ → Bool
ends_at sectors place = list_any (λ s. s.to == place) sectors

-- so many places from one on, round a ring of n points
abbrev pub round : ℕ → ℕ → ℕ → List ℕ
round n zero place = []
round n (suc more) place = place ∷ round n more (place_after n place)

-- these places up to the first that passes
abbrev pub walk : (ℕ → Bool) → ℕ → ℕ → ℕ → List ℕ
walk stops n zero place = []
walk stops n (suc more) place =
    place ∷ cond (stops place) [] (walk stops n more (place_after n place))

-- ---- the place after one

pub after_inner : (n place : ℕ) → place + 1 < n → place_after n place ≡ place + 1
after_inner n place inner = grind arith

pub after_last : (n place : ℕ) → place + 1 ≡ n → place_after n place ≡ 0
after_last n place last = grind arith

-- ---- places round a ring are those from one on

round-range : (n k place : ℕ) → place + k ≤ n → round n k place ≡ range_with_len place k
round-range n zero place fits = refl
round-range n (suc zero) place fits = refl
round-range n (suc (suc k)) place fits =
    let next : place_after n place ≡ place + 1 = after_inner n place (omega arith) in
    ap (λ (l : List ℕ). place ∷ l) (rw next (round-range n (suc k) (place + 1) (omega arith)))

pub round-split : (n a b place : ℕ) → place + suc a ≡ n → round n (suc a + b) place
    ≡ range_with_len place (suc a) ++ round n b 0
round-split n zero b place last =
    let next : place_after n place ≡ 0 = after_last n place (omega arith) in
    let sum : 1 + b ≡ suc b = omega arith in
    rw (sum, next) refl
round-split n (suc a) b place last =
    let next : place_after n place ≡ place + 1 = after_inner n place (omega arith) in
    let sum : suc (suc a) + b ≡ suc (suc a + b) = omega arith in
    rw (sum, next) (ap (λ (l : List ℕ). place ∷ l) (round-split n a b (place + 1) (omega arith)))

drop-range : (k a n c m : ℕ) → a + k ≡ c → k + m ≡ n → drop k (range_with_len a n)
    ≡ range_with_len c m
drop-range zero a n c m from count =
    let f : a ≡ c = omega arith in
    let g : n ≡ m = omega arith in
    rw (f, g) refl
drop-range (suc k) a zero c m from count = absurd (omega arith)
drop-range (suc k) a (suc n) c m from count = drop-range k (a + 1) n c m (omega arith) (omega arith)

take-range : (k a n : ℕ) → k ≤ n → take k (range_with_len a n) ≡ range_with_len a k
take-range zero a n fits = refl
take-range (suc k) a zero fits = absurd (omega arith)
take-range (suc k) a (suc n) fits =
    ap (λ (l : List ℕ). a ∷ l) (take-range k (a + 1) n (omega arith))

pub places_from-round : (n place : ℕ) → place < n → places_from n place ≡ round n n place
places_from-round n place there =
    let a : ℕ = n - place - 1 in
    let sum : suc a + place ≡ n = omega arith in
    let front : drop place (places n)
    ≡ range_with_len place (suc a) =
    drop-range place 0 n place (suc a) (omega arith) (omega arith) in
    let back : take place (places n) ≡ round n place 0 = take-range place 0 n (omega arith)
    ∙ sym (round-range n place 0 (omega arith)) in
    ap₂ (λ (l : List ℕ) (r : List ℕ). l ++ r) front back
    ∙ sym (round-split n a place place (omega arith))
    ∙ ap (λ (k : ℕ). round n k place) sum

-- ---- the run from a place is a walk

take_round : (stops : ℕ → Bool) (n k place : ℕ)
    → take (position_or_len stops (round n k place) + 1) (round n k place) ≡ walk stops n k place
take_round stops n zero place = take-nil (position_or_len stops (round n 0 place) + 1)
take_round stops n (suc k) place =
    by_test (stops place) refl (take_round stops n k (place_after n place))
  where
    by_test : (b : Bool) → stops place ≡ b →
        take (position_or_len stops (round n k (place_after n place)) + 1)
        (round n k (place_after n place)) ≡ walk stops n k (place_after n place) →
        take (position_or_len stops (round n (suc k) place) + 1) (round n (suc k) place)
        ≡ place ∷ cond b [] (walk stops n k (place_after n place))
    by_test true e others = rw e refl
    by_test false e others =
        let count : 1 + position_or_len stops (round n k (place_after n place)) + 1
        ≡ suc (position_or_len stops (round n k (place_after n place)) + 1) = omega arith in
        rw (e, count) (ap (λ (l : List ℕ). place ∷ l) others)

pub run-walk : (stops : ℕ → Bool) (n place : ℕ) → place < n
    → take (position_or_len stops (places_from n place) + 1) (places_from n place)
    ≡ walk stops n n place
run-walk stops n place there = rw (places_from-round n place there) (take_round stops n n place)

-- ---- a walk, one place more

pub walk_goes_on : (stops : ℕ → Bool) (n i place : ℕ) → i < n → stops place ≡ false
    → walk stops n (n - i) place ≡ place ∷ walk stops n (n - (i + 1)) (place_after n place)
walk_goes_on stops n i place more e =
    let m : n - i ≡ suc (n - (i + 1)) = omega arith in
    rw (m, e) refl

pub walk_ends : (stops : ℕ → Bool) (n i place : ℕ) → i < n → stops place ≡ true
    → walk stops n (n - i) place ≡ place ∷ []
walk_ends stops n i place more e =
    let m : n - i ≡ suc (n - (i + 1)) = omega arith in
    rw (m, e) refl

-- ---- points at places

pub point_at-get_or : (ring : List Point) (place : ℕ) (d : Point) → place < length ring
    → get_or ring place d ≡ point_at ring place
point_at-get_or [] place d there = absurd (omega arith)
point_at-get_or (p ∷ ps) zero d there = refl
point_at-get_or (p ∷ ps) (suc place) d there = point_at-get_or ps place d (omega arith)

module _ (ring : List Point) (stops : ℕ → Bool) (i place : ℕ) (d : Point) where
  pub points_go_on : i < length ring → place < length ring → stops place ≡ false →
      map (point_at ring) (walk stops (length ring) (length ring - i) place)
      ≡ get_or ring place d ∷ map (point_at ring)
      (walk stops (length ring) (length ring - (i + 1)) (place_after (length ring) place))
  points_go_on more there goes =
      ap (map (point_at ring)) (walk_goes_on stops (length ring) i place more goes)
      ∙ ap (λ (p : Point). p ∷ map (point_at ring)
      (walk stops (length ring) (length ring - (i + 1)) (place_after (length ring) place)))
      (sym (point_at-get_or ring place d there))

  pub points_end : i < length ring → place < length ring → stops place ≡ true →
      map (point_at ring) (walk stops (length ring) (length ring - i) place)
      ≡ get_or ring place d ∷ []
  points_end more there ends =
      ap (map (point_at ring)) (walk_ends stops (length ring) i place more ends)
      ∙ ap (λ (p : Point). p ∷ []) (sym (point_at-get_or ring place d there))

pub walk_has_some : (stops : ℕ → Bool) (n more place : ℕ) → 0 < more
    → 0 < length (walk stops n more place)
walk_has_some stops n zero place some = absurd (omega arith)
walk_has_some stops n (suc more) place some = omega arith

pub walk-round : (n more place : ℕ) → walk (λ p. false) n more place ≡ round n more place
walk-round n zero place = refl
walk-round n (suc more) place =
    ap (λ (l : List ℕ). place ∷ l) (walk-round n more (place_after n place))
