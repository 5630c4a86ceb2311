-- A bound of a machine number, by the interval that is computed for it.
use Rattle.std.proofs.Common.{ℤ, neg_ℤ, ◌&&◌, T, int_le, arith}
use Rattle.std.proofs.lemmas.Int.{ints}
use Rattle.int_ring.proofs.Intervals.{Known, under_both}
use Rattle.int_ring.proofs.Machine.{Strips}
use Rattle.plant_model.specs.Numbers.{IsWithin}

known_within : (most z value low high : ℤ) → Known z value low high
    → T (int_le (neg_ℤ most) low && int_le high most) → IsWithin most z
known_within most z value low high k =
    under_both (int_le (neg_ℤ most) low) (int_le high most) (λ t. t) (λ t. t) both
  where
    both : T (int_le (neg_ℤ most) low) → T (int_le high most) → IsWithin most z
    both s t =
        let is = k.is in
        let from_low = k.from_low in
        let to_high = k.to_high in
        record { low = omega (arith, ints); high = omega (arith, ints) }

pub within : {z : ℤ} (most : ℤ) (s : Strips z)
    → T (s.ok && (int_le (neg_ℤ most) s.low && int_le s.high most)) → IsWithin most z
within {z = z} most s =
    under_both s.ok (int_le (neg_ℤ most) s.low && int_le s.high most) s.known (λ t. t)
    (known_within most z s.value s.low s.high)
