-- Choices that are judged in turn.
use Rattle.std.proofs.Common.{◌≡◌, ◌∙◌, ℕ, ◌+◌, ◌<◌, ◌++◌, List, [], ◌∷◌, length}
use Rattle.std.proofs.Common.{length-append, map, get_or, refl, sym, ap, subst, below_more, arith}
use Rattle.std.specs.Prelude.{All}
use Rattle.plant_model.specs.declared.plant.Parts.{Parts}
use Rattle.plant_model.specs.declared.parts.Thruster.{Thruster}
use Rattle.std.proofs.Math.ListN.{get_or-append}
use Rattle.std.proofs.Math.Seq.{get_or-append_seam}
use Rattle.std.proofs.lemmas.List.{get_or_default, length-map}
use Rattle.thrust_region.specs.Choices.{choices_of}
use Rattle.thrust_region.specs.Pieces.{all_points}
use Rattle.thrust_region.specs.declared.regions.Regions.{Regions}
use Rattle.wrench_geometry.specs.declared.vector.Vec3.{Vec3}
use Rattle.wrench_geometry.specs.Vectors.{zero_vector}
use Rattle.certificate.specs.declared.outcome.Cuts.{Cuts}
use Rattle.certificate.specs.declared.outcome.Outcome.TheVariants.{Lost}
use Rattle.certificate.specs.Outcomes.{IsOneEach, question_of}
use Rattle.certificate.proofs.Places.{lost_valid, separate_below}
use Rattle.feasibility.specs.Lowest.{IsPrimitive}
use Rattle.feasibility.specs.Steps.{AreCutOff, CutOffBelow, FallsShort, IsValidAhead}

pub none_cut_off : (plant : Parts) (regions : Regions) (ahead : Vec3) →
    CutOffBelow plant regions ahead 0 []
none_cut_off plant regions ahead = record {
  counted = refl;
  short = λ i below. absurd (omega arith);
  primitive = λ i below. absurd (omega arith);
}

pub one_more_cut_off : (plant : Parts) (regions : Regions) (ahead : Vec3) (k : ℕ)
    (list more : List Vec3) (w : Vec3) →
    more ≡ list ++ w ∷ [] → FallsShort plant regions ahead k w → IsPrimitive w →
    CutOffBelow plant regions ahead k list → CutOffBelow plant regions ahead (k + 1) more
one_more_cut_off plant regions ahead k list more w is short primitive so_far =
    let counted = so_far.counted in
    let last : get_or more k zero_vector ≡ w =
    ap (λ (l : List Vec3). get_or l k zero_vector) is
    ∙ subst (λ (n : ℕ). get_or (list ++ w ∷ []) n zero_vector ≡ w) counted
    (get_or-append_seam list w [] zero_vector) in
    let old : (i : ℕ) → i < k → get_or more i zero_vector ≡ get_or list i zero_vector =
    λ i below. ap (λ (l : List Vec3). get_or l i zero_vector) is
    ∙ get_or-append list (w ∷ []) zero_vector i (omega (arith, below)) in
    record {
      counted = omega (arith, ap length is, length-append list (w ∷ []));
      short = below_more (λ i. FallsShort plant regions ahead i (get_or more i zero_vector)) k
          (λ i below. subst (FallsShort plant regions ahead i) (sym (old i below))
          (so_far.short i below))
          (subst (FallsShort plant regions ahead k) (sym last) short);
      primitive = below_more (λ i. IsPrimitive (get_or more i zero_vector)) k
          (λ i below. subst IsPrimitive (sym (old i below)) (so_far.primitive i below))
          (subst IsPrimitive (sym last) primitive);
    }

pub one_more_are : (plant : Parts) (regions : Regions) (ahead : Vec3) (list more : List Vec3)
    (w : Vec3) → AreCutOff plant regions ahead list →
    length list < choices_of (map all_points regions.list.items) →
    FallsShort plant regions ahead (length list) w → IsPrimitive w → more ≡ list ++ w ∷ [] →
    AreCutOff plant regions ahead more
one_more_are plant regions ahead list more w are there short primitive is =
    let same : length list + 1 ≡ length more =
    omega (arith, ap length is, length-append list (w ∷ [])) in
    record {
      cut = subst (λ (n : ℕ). CutOffBelow plant regions ahead n more) same
          (one_more_cut_off plant regions ahead (length list) list more w is short primitive
          are.cut);
      there = omega (arith, same, there);
    }

pub all_cut_off : (plant : Parts) (regions : Regions) (ahead : Vec3) (k : ℕ) (cuts : Cuts) →
    k ≡ choices_of (map all_points regions.list.items) →
    CutOffBelow plant regions ahead k cuts.list.items →
    IsValidAhead plant regions ahead (Lost cuts)
all_cut_off plant regions ahead k cuts all so_far demand is_ahead =
    let question = question_of plant regions demand in
    let count = choices_of (map all_points regions.list.items) in
    lost_valid question cuts (so_far.counted ∙ all)
    (separate_below question cuts ahead count is_ahead
    (λ i below. so_far.short i (omega (arith, all, below))))

pub all_primitive : (plant : Parts) (regions : Regions) (ahead : Vec3) (k : ℕ) (list : List Vec3) →
    CutOffBelow plant regions ahead k list → All IsPrimitive list
all_primitive plant regions ahead k list so_far i d below =
    let counted = so_far.counted in
    subst IsPrimitive (get_or_default list i zero_vector d below)
    (so_far.primitive i (omega (arith, counted, below)))

pub one_each : (plant : Parts) (regions : Regions) (demand : Vec3) →
    length regions.list.items ≡ length plant.thrusters.items →
    length regions.fixed.items ≡ length plant.thrusters.items →
    IsOneEach (question_of plant regions demand)
one_each plant regions demand e f = record {
  regions = length-map regions.list.items all_points ∙ e
      ∙ sym (length-map plant.thrusters.items (λ (t : Thruster). t.lever));
  fixed = f ∙ sym (length-map plant.thrusters.items (λ (t : Thruster). t.lever));
}
