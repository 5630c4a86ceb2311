-- A thrust that lies in a part of a piece lies in the piece.
use Rattle.std.proofs.Common.{◌≡◌, ◌∙◌, ap, ap₂, sym, refl, ℕ, zero, suc, ◌+◌, ℤ, pos, ◌+ℤ◌, ◌*ℤ◌}
use Rattle.std.proofs.Common.{List, [], ◌∷◌, length, take, drop, arith}
use Rattle.std.specs.Prelude.{sum}
use Rattle.std.proofs.lemmas.List.Sums.{sum_by-cons}
use Rattle.int_ring.proofs.Laws.{linear, zero_mul}
use Rattle.plant_model.specs.declared.thrust.Point.{Point}
use Rattle.plant_model.specs.declared.thrust.Thrust.{Thrust}
use Rattle.plant_model.specs.Lies.{weighted_x, weighted_y, LiesIn}
use Rattle.thrust_region.proofs.Lists.{HasPart}

sum-cons : (w : ℕ) (ws : List ℕ) → sum (w ∷ ws) ≡ w + sum ws
sum-cons w ws = sum_by-cons (λ (x : ℕ). x) w ws

-- weights of a piece's points, with the sums that they make
record Weights (piece : List Point) (total : ℕ) (x y : ℤ) : Type 0 where
  weights : List ℕ
  one_each : length weights ≡ length piece
  sums : sum weights ≡ total
  along : weighted_x weights piece ≡ x
  across : weighted_y weights piece ≡ y

no_more : (x r : ℤ) → r ≡ pos 0 → pos 0 *ℤ x +ℤ r ≡ pos 0
no_more x r e = rw e (omega (arith, linear, zero_mul x))

skip : (x r s : ℤ) → r ≡ s → pos 0 *ℤ x +ℤ r ≡ s
skip x r s e = rw e (omega (arith, linear, zero_mul x))

no_weights : (piece : List Point) → Weights piece 0 (pos 0) (pos 0)
no_weights [] = record { weights = []; one_each = refl; sums = refl; along = refl; across = refl }
no_weights (p ∷ ps) =
    let others = no_weights ps in
    let total = others.sums in
    record {
      weights = 0 ∷ others.weights;
      one_each = ap suc others.one_each;
      sums = sum-cons 0 others.weights ∙ omega arith;
      along = no_more p.x (weighted_x others.weights ps) others.along;
      across = no_more p.y (weighted_y others.weights ps) others.across;
    }

at_front : (part piece : List Point) (us : List ℕ) → length us ≡ length part
    → take (length part) piece ≡ part
    → Weights piece (sum us) (weighted_x us part) (weighted_y us part)
at_front [] piece [] same is = no_weights piece
at_front [] piece (u ∷ us) same is = absurd (omega arith)
at_front (q ∷ qs) piece [] same is = absurd (omega arith)
at_front (q ∷ qs) [] (u ∷ us) same is = cc
at_front (q ∷ qs) (p ∷ ps) (u ∷ us) same is =
    let head : p ≡ q = cc in
    let tail : take (length qs) ps ≡ qs = cc in
    let others = at_front qs ps us (omega arith) tail in
    let total = others.sums in
    record {
      weights = u ∷ others.weights;
      one_each = ap suc others.one_each;
      sums = sum-cons u others.weights ∙ ap (λ (n : ℕ). u + n) others.sums ∙ sym (sum-cons u us);
      along = ap₂ (λ (r : Point) (z : ℤ). pos u *ℤ r.x +ℤ z) head others.along;
      across = ap₂ (λ (r : Point) (z : ℤ). pos u *ℤ r.y +ℤ z) head others.across;
    }

at_place : (part piece : List Point) (from : ℕ) (us : List ℕ) → length us ≡ length part
    → take (length part) (drop from piece) ≡ part
    → Weights piece (sum us) (weighted_x us part) (weighted_y us part)
at_place part piece zero us same is = at_front part piece us same is
at_place part [] (suc from) us same is = at_front part [] us same is
at_place part (p ∷ ps) (suc from) us same is =
    let others = at_place part ps from us same is in
    let total = others.sums in
    record {
      weights = 0 ∷ others.weights;
      one_each = ap suc others.one_each;
      sums = sum-cons 0 others.weights ∙ omega arith;
      along = skip p.x (weighted_x others.weights ps) (weighted_x us part) others.along;
      across = skip p.y (weighted_y others.weights ps) (weighted_y us part) others.across;
    }

pub lies_in_whole : (part piece : List Point) (thrust : Thrust) (q : ℤ) → LiesIn part thrust q
    → HasPart part piece → LiesIn piece thrust q
lies_in_whole part piece thrust q lies has =
    let w = at_place part piece has.from lies.weights lies.one_each has.is in
    record {
      k = lies.k;
      at_least_one = lies.at_least_one;
      weights = w.weights;
      origin_weight = lies.origin_weight;
      one_each = w.one_each;
      whole = ap (λ (n : ℕ). pos (n + lies.origin_weight)) w.sums ∙ lies.whole;
      x = w.along ∙ lies.x;
      y = w.across ∙ lies.y;
    }
