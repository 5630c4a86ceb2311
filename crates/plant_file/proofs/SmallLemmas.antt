-- Numbers within limits that fit 32 bits.
use Rattle.std.proofs.Common.{◌≡◌, ℕ, ◌^◌, List, [], ◌∷◌, map, true, ◌&&◌}
use Rattle.std.proofs.Common.{ℤ, pos, negsuc, int_le, ◌<ℤ◌, refl, arith}
use Rattle.std.specs.Prelude.{nat_le, nat_lt}
use Rattle.std.specs.List.{list_all}
use Rattle.std.proofs.lemmas.Bool.{and_from, and_parts}
use Rattle.std.proofs.lemmas.Bool.Decides.{nat_tests}
use Rattle.std.proofs.lemmas.Int.{ints}
use Rattle.plant_model.specs.Plants.{are_thresholds_from}
use Rattle.plant_model.specs.declared.limits.TheConstants.{MOST_THRESHOLD}
use Rattle.toml.specs.Data.{Data}
use Rattle.plant_file.specs.Documents.{is_small, natural, number_in}
use Rattle.plant_file.specs.Kinds.{is_in, span}

small_in : (most z : ℤ) → most <ℤ pos (2 ^ 32) → (int_le (pos 0) z && int_le z most) ≡ true
    → nat_lt (natural z) (2 ^ 32) ≡ true
small_in most (pos n) small is = grind (arith, ints, nat_tests)
small_in most (negsuc n) small is = refl

-- numbers from 0 to a limit
pub wholes_small : (most : ℤ) (ds : List Data) → most <ℤ pos (2 ^ 32)
    → list_all (is_in (span (pos 0) most)) ds ≡ true → list_all is_small ds ≡ true
wholes_small most [] small all = refl
wholes_small most (d ∷ ds) small all =
    let limits = span (pos 0) most in
    let both = and_parts (is_in limits d) (list_all (is_in limits) ds) all in
    and_from _ _ (small_in most (number_in d) small both.0) (wholes_small most ds small both.1)

threshold_small : (least t : ℕ) → (nat_le least t && nat_le t MOST_THRESHOLD) ≡ true
    → nat_lt t (2 ^ 32) ≡ true
threshold_small least t is = grind (arith, nat_tests)

-- thresholds
pub thresholds_small : (least : ℕ) (ds : List Data)
    → are_thresholds_from least (map (λ e. natural (number_in e)) ds) ≡ true
    → list_all is_small ds ≡ true
thresholds_small least [] are = refl
thresholds_small least (d ∷ ds) are =
    let t = natural (number_in d) in
    let both = and_parts (nat_le least t && nat_le t MOST_THRESHOLD)
    (are_thresholds_from t (map (λ e. natural (number_in e)) ds)) are in
    and_from _ _ (threshold_small least t both.0) (thresholds_small t ds both.1)
