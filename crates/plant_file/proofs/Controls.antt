-- Band, gains, wind and powers of a document without faults in its keys are within their limits.
use Rattle.std.proofs.Common.{◌≡◌, ℕ, ◌≤◌, List, [], ◌∷◌, map, Bool, true, pos, nat_abs}
use Rattle.std.proofs.Common.{refl, arith}
use Rattle.std.specs.Prelude.{nat_le, IsTrue}
use Rattle.std.specs.List.{list_all}
use Rattle.std.proofs.lemmas.Bool.{and_from, and_parts}
use Rattle.std.proofs.lemmas.Bool.Decides.{nat_tests}
use Rattle.toml.specs.Data.{Data, Members, table}
use Rattle.plant_model.specs.declared.limits.TheConstants.{AXES, MOST_GAIN, MOST_MOMENT}
use Rattle.plant_model.specs.declared.limits.TheConstants.{MOST_POWER, MOST_SUM_LIMIT}
use Rattle.plant_model.specs.Plants.{are_gains, is_control, is_from_one_to, is_wind_row}
use Rattle.plant_file.specs.declared.fault.Key.TheVariants as key
use Rattle.plant_file.specs.declared.fault.Part.TheVariants as part
use Rattle.plant_file.specs.declared.kind.Kind.TheVariants as kind
use Rattle.plant_file.specs.Described.{axis_in, gains_in, generator_in, held, list_at}
use Rattle.plant_file.specs.Described.{natural_at, naturals_at, parts_in}
use Rattle.plant_file.specs.Documents.{natural, number_in}
use Rattle.plant_file.specs.Faults.{elements_at}
use Rattle.plant_file.specs.Keys.{axes, axis_rows, gain, generator_rows, needed, power, top_rows}
use Rattle.plant_file.specs.Kinds.{exactly, is_in, span, wind_row_in}
use Rattle.plant_file.specs.RightKeys.{has_right_keys, HasRightKeys}
use Rattle.plant_file.proofs.KindLemmas.{natural_at_place, right_at, whole_right, wholes_right}
use Rattle.plant_file.proofs.KindLemmas.{wind_right}
use Rattle.plant_file.proofs.RightLemmas.{axes_right, generators_right, top_right}

pub at_most : (a b : ℕ) → a ≤ b → nat_le a b ≡ true
at_most a b is = grind (arith, nat_tests)

pub one_to : (n most : ℕ) → (1 ≤ n) × (n ≤ most) → is_from_one_to most n ≡ true
one_to n most is = and_from _ _ (at_most 1 n is.0) (at_most n most is.1)

-- a test of what elements become, where each passes another one
pub all_become : {A B : Type 0} (p : B → Bool) (f : A → B) (q : A → Bool)
    → ((x : A) → q x ≡ true → p (f x) ≡ true)
    → (xs : List A) → list_all q xs ≡ true → list_all p (map f xs) ≡ true
all_become p f q each [] all = refl
all_become p f q each (x ∷ xs) all =
    let both = and_parts (q x) (list_all q xs) all in
    and_from _ _ (each x both.0) (all_become p f q each xs both.1)

natural_within : (most : ℕ) (d : Data) → is_in (span (pos 0) (pos most)) d ≡ true
    → nat_le (natural (number_in d)) most ≡ true
natural_within most d is =
    at_most _ most (natural_at_place most (d ∷ []) 0 (and_from _ true is refl))

wholes_within : (most : ℕ) (ds : List Data) → list_all (is_in (span (pos 0) (pos most))) ds ≡ true
    → list_all (λ b. nat_le b most) (map (λ e. natural (number_in e)) ds) ≡ true
wholes_within most ds all =
    all_become (λ b. nat_le b most) (λ e. natural (number_in e)) (is_in (span (pos 0) (pos most)))
    (natural_within most) ds all

-- the gains of one axis
gains_right : (d : Data) → has_right_keys axis_rows d ≡ true → are_gains (gains_in d) ≡ true
gains_right d right =
    let row = needed key.Kp gain in
    let kp = right_at axis_rows 0 row d (omega arith) right in
    let ki = right_at axis_rows 1 row d (omega arith) right in
    let kd = right_at axis_rows 2 row d (omega arith) right in
    let limit = right_at axis_rows 3 row d (omega arith) right in
    and_from _ _
    (and_from _ _
    (and_from _ _
    (at_most _ _ (whole_right key.Kp 0 MOST_GAIN (held key.Kp d) kp).1)
    (at_most _ _ (whole_right key.Ki 0 MOST_GAIN (held key.Ki d) ki).1))
    (at_most _ _ (whole_right key.Kd 0 MOST_GAIN (held key.Kd d) kd).1))
    (at_most _ _ (whole_right key.Limit 0 MOST_SUM_LIMIT (held key.Limit d) limit).1)

power_right : (doc : Members) (d : Data) → has_right_keys generator_rows d ≡ true
    → is_from_one_to MOST_POWER (natural_at key.Power d) ≡ true
power_right doc d right =
    let is = right_at generator_rows 2 (needed key.Power power) d (omega arith) right in
    one_to (natural_at key.Power d) MOST_POWER
    (whole_right key.Power 1 MOST_POWER (held key.Power d) is)

module _ (doc : Members) (right : HasRightKeys doc) where
  band_right :
      list_all (λ b. nat_le b (nat_abs MOST_MOMENT)) (naturals_at key.Band (table doc)) ≡ true
  band_right =
      let limits = span (pos 0) MOST_MOMENT in
      let row = needed key.Band (kind.Wholes (exactly AXES) limits) in
      let is = right_at top_rows 2 row (table doc) (omega arith) (top_right doc right) in
      wholes_within (nat_abs MOST_MOMENT) (list_at key.Band (table doc))
      (wholes_right key.Band AXES limits (held key.Band (table doc)) is).1

  wind_within : list_all is_wind_row (map wind_row_in (list_at key.Wind (table doc))) ≡ true
  wind_within =
      let row = needed key.Wind kind.Wind in
      let is = right_at top_rows 3 row (table doc) (omega arith) (top_right doc right) in
      all_become is_wind_row wind_row_in (λ e. is_wind_row (wind_row_in e)) (λ e passes. passes)
      (list_at key.Wind (table doc)) (wind_right key.Wind (held key.Wind (table doc)) is).1

  gains_within : list_all are_gains (map (λ index. gains_in (axis_in doc index)) axes) ≡ true
  gains_within =
      all_become are_gains (λ index. gains_in (axis_in doc index))
      (λ index. has_right_keys axis_rows (axis_in doc index))
      (λ index is. gains_right (axis_in doc index) is) axes (axes_right doc right)

  -- band, gains and wind
  pub control : IsTrue (is_control (parts_in doc))
  control = and_from _ _ (and_from _ _ band_right gains_within) wind_within

  -- what the generators give
  pub powers :
      IsTrue (list_all (λ g. is_from_one_to MOST_POWER g.power) (parts_in doc).generators.items)
  powers =
      all_become (λ g. is_from_one_to MOST_POWER g.power) (generator_in doc)
      (has_right_keys generator_rows) (power_right doc) (elements_at part.Generator doc)
      (generators_right doc right)
