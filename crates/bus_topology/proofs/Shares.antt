-- Two live sections are connected where the map has one number for both, so its numbers tell the
-- share.
use Rattle.std.proofs.Common.{◌≡◌, ◌≢◌, ◌∙◌, ℕ, ◌*◌, ◌/◌, ◌<◌, ◌==◌, List, length, get_or}
use Rattle.std.proofs.Common.{if◌then◌else◌, inl, inr, ap₂, sym, subst, arith}
use Rattle.std.specs.Prelude.{slice_index_or}
use Rattle.std.proofs.lemmas.Bool.{cases_lt}
use Rattle.std.proofs.lemmas.Bool.Decides.{Decides-eqb, nat_tests}
use Rattle.std.proofs.lemmas.List.{get_or_default, get_or_past}
use Rattle.plant_model.specs.declared.limits.TheConstants.{MOST_SECTIONS}
use Rattle.plant_model.specs.declared.plant.Parts.{Parts}
use Rattle.plant_model.specs.declared.status.Standing.{Standing}
use Rattle.bus_topology.specs.Islands.{AreConnected, IsIslandMap, IsLive, has_number}
use Rattle.bus_topology.specs.Shares.{IsShare, TestsConnection, power_on, rated_on}
use Rattle.bus_topology.proofs.Connections.{connected_with_itself, AreConnected-sym}
use Rattle.bus_topology.proofs.Connections.{AreConnected-trans, live_from_connected}
use Rattle.bus_topology.proofs.Maps.{live_or_not}

no_quotient : (r q : ℕ) → r ≡ 0 → 0 ≡ (if r == 0 then 0 else q)
no_quotient r q none = grind (arith, nat_tests)

some_quotient : (r q : ℕ) → r ≢ 0 → q ≡ (if r == 0 then 0 else q)
some_quotient r q some = grind (arith, nat_tests)

module _ (p : Parts) (s : Standing) (of : List ℕ) (long : length of ≡ MOST_SECTIONS)
    (map : IsIslandMap p s of) (section : ℕ) (live : IsLive p s section) where
  number_is : (n : ℕ) → IsLive p s n → slice_index_or of n MOST_SECTIONS ≡ get_or of n 0
  number_is n kept = get_or_default of n MOST_SECTIONS 0 (map.place n kept)

  number_within : get_or of section 0 < MOST_SECTIONS
  number_within =
      let low = (map.live section live).least section (connected_with_itself p s section live) in
      let within = map.place section live in
      omega arith

  -- a place with the section's number has a live section
  live_from_number : (n : ℕ) →
      slice_index_or of n MOST_SECTIONS ≡ slice_index_or of section MOST_SECTIONS → IsLive p s n
  live_from_number n same =
      let number = number_is section live in
      let small = number_within in
      elim (cases_lt n MOST_SECTIONS) [
        | inl within ↦
            (elim (live_or_not p s n) [
              | inl kept ↦ kept
              | inr dead ↦
                  (let none : get_or of n 0 ≡ MOST_SECTIONS = map.other n within dead in
                  let here = get_or_default of n MOST_SECTIONS 0 (omega arith) in
                  absurd (omega arith))
            ])
        | inr past ↦
            (let none = get_or_past of n MOST_SECTIONS (omega arith) in absurd (omega arith))
      ]

  connected_from_number : (n : ℕ) →
      slice_index_or of n MOST_SECTIONS ≡ slice_index_or of section MOST_SECTIONS →
      AreConnected p s section n
  connected_from_number n same =
      let kept = live_from_number n same in
      let one : get_or of section 0 ≡ get_or of n 0 = sym (number_is section live) ∙ sym same
      ∙ number_is n kept in
      AreConnected-trans p s section _ n (map.live section live).connected
      (AreConnected-sym p s n _ (subst (AreConnected p s n) (sym one) (map.live n kept).connected))

  number_from_connected : (n : ℕ) → AreConnected p s section n →
      slice_index_or of n MOST_SECTIONS ≡ slice_index_or of section MOST_SECTIONS
  number_from_connected n h =
      let back = AreConnected-sym p s section n h in
      let kept = live_from_connected p s n section back in
      let low =
      (map.live section live).least _
      (AreConnected-trans p s section n _ h (map.live n kept).connected) in
      let high =
      (map.live n kept).least _
      (AreConnected-trans p s n section _ back (map.live section live).connected) in
      let same : get_or of n 0 ≡ get_or of section 0 = omega arith in
      number_is n kept ∙ same ∙ sym (number_is section live)

  -- the numbers test connection with the section
  numbers_test : TestsConnection p s section
      (has_number of (slice_index_or of section MOST_SECTIONS))
  numbers_test n =
      let decides =
      Decides-eqb (slice_index_or of n MOST_SECTIONS)
      (slice_index_or of section MOST_SECTIONS) in (
        λ passes. connected_from_number n (decides.0 passes),
        λ h. decides.1 (number_from_connected n h),
      )

  -- the share, from what the parts with the section's number give and take
  module _ (parts : Parts) (number rated : ℕ) (are_parts : parts ≡ p)
      (is_number : number ≡ slice_index_or of section MOST_SECTIONS)
      (is_rated : rated ≡ rated_on parts s (has_number of number)) where
    rated_is : rated ≡ rated_on p s (has_number of (slice_index_or of section MOST_SECTIONS))
    rated_is = is_rated ∙ ap₂ (λ q m. rated_on q s (has_number of m)) are_parts is_number

    pub no_share : rated ≡ 0 → IsShare p s section 0
    no_share none = (_, numbers_test, no_quotient _ _ (sym rated_is ∙ none))

    pub some_share : (power : ℕ) → power ≡ power_on parts s (has_number of number) → rated ≢ 0 →
        IsShare p s section (100 * power / rated)
    some_share power is_power some =
        let power_is =
        is_power ∙ ap₂ (λ q m. power_on q s (has_number of m)) are_parts is_number in
        let quotient = ap₂ (λ given taken. 100 * given / taken) power_is rated_is in
        (_, numbers_test, quotient ∙ some_quotient _ _ (λ none. some (rated_is ∙ none)))
