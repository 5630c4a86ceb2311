-- How much of a demand a loss leaves.
use Rattle.std.specs.Prelude.{◌≡◌, ◌≢◌, ℕ, ◌<◌, ℤ, pos, ◌*ℤ◌, ◌≤ℤ◌, ◌<ℤ◌, List, [], ◌∷◌, ◌⊎◌, ⊤}
use Rattle.std.specs.Prelude.{Bool, ◌&&◌}
use Rattle.std.specs.Ordering.{int_eq}
use Rattle.dp_num.specs.Fractions.{IsInLowestTerms}
use Rattle.dp_num.specs.declared.fractions.Fraction.{Fraction}
use Rattle.plant_model.specs.Rings.{origin}
use Rattle.plant_model.specs.declared.thrust.Point.{Point}
use Rattle.thrust_region.specs.Choices.{choices_of}
use Rattle.wrench_geometry.specs.Vectors.{zero_vector}
use Rattle.certificate.specs.Outcomes.{Question}
use Rattle.thrust_allocation.specs.Allocations.{CanGive}
use Rattle.capability.specs.declared.parts.Margin.{Margin}
use Rattle.capability.specs.declared.parts.Margin.TheVariants.{Any, Frozen, Least}

-- no fixed thrust is any but zero
abbrev pub AreAtRest : List Point → Type 0
AreAtRest [] = ⊤
AreAtRest (p ∷ fixed) = (p ≡ origin) × AreAtRest fixed

abbrev pub is_at_rest : Point → Bool
is_at_rest p = int_eq p.x (pos 0) && int_eq p.y (pos 0)

-- no part of the demand that is greater than top/bottom can be given in the choice; a part may be
-- more than the whole
abbrev pub IsMostIn : Question → ℕ → ℤ → ℤ → Type 0
IsMostIn question choice top bottom = (more rest : ℤ) → pos 1 ≤ℤ rest →
    (top *ℤ rest) <ℤ (more *ℤ bottom) → ¬ CanGive question choice more rest

-- the part, in lowest terms, is the greatest that can be given in the choice
pub record IsGreatestOf (question : Question) (choice : ℕ) (part : Fraction) : Type 0 where
  pub lowest : IsInLowestTerms part.top part.bottom
  pub gives : CanGive question choice part.top part.bottom
  pub most : IsMostIn question choice part.top part.bottom

-- the part, in lowest terms, can be given in a choice below k, and no greater one in any of these
pub record IsGreatestBelow (question : Question) (k : ℕ) (part : Fraction) : Type 0 where
  pub lowest : IsInLowestTerms part.top part.bottom
  pub choice : ℕ
  pub below : choice < k
  pub gives : CanGive question choice part.top part.bottom
  pub most : (other : ℕ) → other < k → IsMostIn question other part.top part.bottom

-- of all choices: the greatest part of the demand that can be given, in lowest terms
abbrev pub IsReserve : Question → Fraction → Type 0
IsReserve question part = IsGreatestBelow question (choices_of question.regions) part

-- Any exactly where nothing is demanded, else Frozen exactly where some fixed thrust isn't zero, and
-- else the greatest part of the demand that can be given
abbrev pub IsMargin : Question → Margin → Type 0
IsMargin question Any = question.demand ≡ zero_vector
IsMargin question Frozen = (question.demand ≢ zero_vector) × (¬ AreAtRest question.fixed)
IsMargin question (Least part) =
    (question.demand ≢ zero_vector) × AreAtRest question.fixed × IsReserve question part

-- the second of two parts where it is greater, and else the first
abbrev pub IsGreater : Fraction → Fraction → Fraction → Type 0
IsGreater first second greater =
    ((greater ≡ second) × ((first.top *ℤ second.bottom) <ℤ (second.top *ℤ first.bottom)))
    ⊎ ((greater ≡ first) × ((second.top *ℤ first.bottom) ≤ℤ (first.top *ℤ second.bottom)))
