-- The map in which each live section is an island of its own, while sections are taken in turn.
use Rattle.std.proofs.Common.{◌≡◌, ◌≢◌, ◌∙◌, ℕ, ◌+◌, ◌<◌, ◌≤◌, Bool, true, List, length, get_or}
use Rattle.std.proofs.Common.{set, slice_get, Some, inl, inr, arith, subst, sym, ap}
use Rattle.std.proofs.lemmas.Bool.{cases_eq, cases_lt}
use Rattle.std.proofs.lemmas.List.{length-set, get_or-set_same, get_or-set_other}
use Rattle.plant_model.specs.declared.limits.TheConstants.{MOST_SECTIONS}
use Rattle.plant_model.specs.declared.plant.Parts.{Parts}
use Rattle.plant_model.specs.declared.status.Standing.{Standing}
use Rattle.bus_topology.specs.Islands.{AreConnected, IsMapSoFar}
use Rattle.bus_topology.proofs.Connections.{connected_with_itself}

-- the first so many places have their own number where they are kept, and all others the number of
-- none
pub record IsApart (live : List Bool) (taken : ℕ) (of : List ℕ) : Type 0 where
  pub long : length of ≡ MOST_SECTIONS
  pub kept : (n : ℕ) → n < taken → slice_get live n ≡ Some true → get_or of n 0 ≡ n
  pub lost : (n : ℕ) → n < taken → slice_get live n ≢ Some true → get_or of n 0 ≡ MOST_SECTIONS
  pub later : (n : ℕ) → taken ≤ n → n < MOST_SECTIONS → get_or of n 0 ≡ MOST_SECTIONS

-- a place that is kept
pub kept_more : (live : List Bool) (i : ℕ) (of : List ℕ) → i < MOST_SECTIONS →
    slice_get live i ≡ Some true → IsApart live i of → IsApart live (i + 1) (set of i i)
kept_more live i of within is_kept a = record {
  long = length-set of i i ∙ a.long;
  kept = λ n below kept. elim (cases_eq n i) [
    | inl is ↦ subst (λ m. get_or (set of i i) m 0 ≡ m) (sym is) (let long = a.long in
        get_or-set_same of i i 0 (omega arith))
    | inr is ↦ get_or-set_other of i n i 0 is ∙ a.kept n (omega arith) kept
  ];
  lost = λ n below lost. elim (cases_eq n i) [
    | inl is ↦ absurd (lost (ap (slice_get live) is ∙ is_kept))
    | inr is ↦ get_or-set_other of i n i 0 is ∙ a.lost n (omega arith) lost
  ];
  later = λ n above below. (let is : n ≢ i = omega arith in
      get_or-set_other of i n i 0 is ∙ a.later n (omega arith) below);
}

-- a place that is lost
pub lost_more : (live : List Bool) (i : ℕ) (of : List ℕ) → i < MOST_SECTIONS →
    slice_get live i ≢ Some true → IsApart live i of → IsApart live (i + 1) of
lost_more live i of within is_lost a = record {
  long = a.long;
  kept = λ n below kept. elim (cases_eq n i) [
    | inl is ↦ absurd (is_lost (ap (slice_get live) (sym is) ∙ kept))
    | inr is ↦ a.kept n (omega arith) kept
  ];
  lost = λ n below lost. elim (cases_eq n i) [
    | inl is ↦ subst (λ m. get_or of m 0 ≡ MOST_SECTIONS) (sym is) (a.later i (omega arith) within)
    | inr is ↦ a.lost n (omega arith) lost
  ];
  later = λ n above below. a.later n (omega arith) below;
}

-- before any tie is taken, the map is the one of sections apart
pub map_apart : (p : Parts) (s : Standing) (of : List ℕ) → length p.sections.items ≤ MOST_SECTIONS →
    IsApart s.live (length p.sections.items) of → IsMapSoFar p s 0 of
map_apart p s of few a = record {
  place = λ n live. (let there = live.there in let long = a.long in omega arith);
  connected =
      λ n live. subst (AreConnected p s n) (sym (a.kept n live.there live.kept))
      (connected_with_itself p s n live);
  low = λ n live. (let own = a.kept n live.there live.kept in omega arith);
  other = λ n within dead. elim (cases_lt n (length p.sections.items)) [
    | inl there ↦ a.lost n there (λ kept. dead (record { there = there; kept = kept }))
    | inr past ↦ a.later n past within
  ];
  merged = λ place a b below j. absurd (omega arith);
}
