-- Which sections of a switchboard are connected, as a plant stands.
use Rattle.std.specs.Prelude.{◌≡◌, ℕ, ◌+◌, ◌-◌, ◌<◌, ◌≤◌, ◌⊎◌, ◌==◌, List, length, slice_get}
use Rattle.std.specs.Prelude.{slice_index, slice_index_or, Some, Bool, true, All, IsSomeAnd}
use Rattle.std.specs.Prelude.{if◌then◌else◌}
use Rattle.plant_model.specs.declared.limits.TheConstants.{MOST_SECTIONS}
use Rattle.plant_model.specs.declared.parts.Tie.{Tie}
use Rattle.plant_model.specs.declared.plant.Parts.{Parts}
use Rattle.plant_model.specs.declared.status.Standing.{Standing}

-- the section is there, and isn't lost
pub record IsLive (p : Parts) (s : Standing) (section : ℕ) : Type 0 where
  pub there : section < length p.sections.items
  pub kept : slice_get s.live section ≡ Some true

-- the tie has these two ends
abbrev pub HasEnds : ℕ → ℕ → Tie → Type 0
HasEnds a b tie = ((tie.first ≡ a) × (tie.second ≡ b)) ⊎ ((tie.first ≡ b) × (tie.second ≡ a))

-- the tie at this place joins two sections: they are its ends, it is closed, and both are live
pub record Joins (p : Parts) (s : Standing) (place a b : ℕ) : Type 0 where
  pub ends : IsSomeAnd (slice_get p.ties.items place) (HasEnds a b)
  pub closed : slice_get s.closed place ≡ Some true
  pub first : IsLive p s a
  pub second : IsLive p s b

-- some tie joins the two sections
abbrev pub AreJoined : Parts → Standing → ℕ → ℕ → Type 0
AreJoined p s a b = (place : ℕ) × Joins p s place a b

-- a list of live sections that begins with the one and ends with the other, where a tie joins each
-- two neighbours
pub record IsChain (p : Parts) (s : Standing) (a b : ℕ) (chain : List ℕ) : Type 0 where
  pub live : All (IsLive p s) chain
  pub begins : slice_get chain 0 ≡ Some a
  pub ends : slice_get chain (length chain - 1) ≡ Some b
  pub joined : (k : ℕ) → k + 1 < length chain
      → AreJoined p s (slice_index chain k) (slice_index chain (k + 1))

-- a chain goes from the one section to the other
abbrev pub AreConnected : Parts → Standing → ℕ → ℕ → Type 0
AreConnected p s a b = (chain : List ℕ) × IsChain p s a b chain

-- the least of the sections that are connected with this one
pub record IsIsland (p : Parts) (s : Standing) (section island : ℕ) : Type 0 where
  pub connected : AreConnected p s section island
  pub least : (other : ℕ) → AreConnected p s section other → island ≤ other

-- a live section has a place with its island's number, and any other place the number of none
pub record IsIslandMap (p : Parts) (s : Standing) (of : List ℕ) : Type 0 where
  pub place : (section : ℕ) → IsLive p s section → section < length of
  pub live : (section : ℕ) → IsLive p s section → IsIsland p s section (slice_index of section)
  pub other : (place : ℕ) → place < MOST_SECTIONS → ¬ IsLive p s place
      → slice_index of place ≡ MOST_SECTIONS

-- the place has this number in the map
abbrev pub has_number : List ℕ → ℕ → ℕ → Bool
has_number of number place = slice_index_or of place MOST_SECTIONS == number

-- the number, or the new one for the old one
abbrev pub exchanged : ℕ → ℕ → ℕ → ℕ
exchanged old new n = if n == old then new else n

-- a map while ties are taken in turn: a live section has the number of one that is connected with
-- it and not above it, and two sections that one of the first so many ties joins have one number
pub record IsMapSoFar (p : Parts) (s : Standing) (taken : ℕ) (of : List ℕ) : Type 0 where
  pub place : (section : ℕ) → IsLive p s section → section < length of
  pub connected : (section : ℕ) → IsLive p s section
      → AreConnected p s section (slice_index of section)
  pub low : (section : ℕ) → IsLive p s section → slice_index of section ≤ section
  pub other : (place : ℕ) → place < MOST_SECTIONS → ¬ IsLive p s place
      → slice_index of place ≡ MOST_SECTIONS
  pub merged : (place a b : ℕ) → place < taken → Joins p s place a b
      → slice_index of a ≡ slice_index of b
