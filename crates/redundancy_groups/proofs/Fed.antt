-- A thruster that is still selected after a loss stands on a live section.
use Rattle.std.proofs.Common.{◌≡◌, ◌∙◌, ℕ, ◌<◌, ◌≤◌, length, map, get_or, slice_get}
use Rattle.std.proofs.Common.{true, false}
use Rattle.std.proofs.Common.{not, ◌&&◌, Some, refl, sym, ap, arith}
use Rattle.std.specs.Prelude.{nat_lt}
use Rattle.std.proofs.lemmas.Bool.{and_parts, ltb-true}
use Rattle.std.proofs.lemmas.List.{length-map}
use Rattle.std.proofs.lemmas.List.FromFn.{get_or-map-range_with_len, length-map-range_with_len}
use Rattle.std.proofs.lemmas.Option.{slice_get-get_or, slice_get_read}
use Rattle.std.proofs.Math.ListN.{get_or-map}
use Rattle.plant_model.specs.declared.limits.TheConstants.{MOST_SECTIONS, MOST_THRUSTERS}
use Rattle.plant_model.specs.declared.parts.Member.TheVariants.{Section, Thruster as ThrusterMember}
use Rattle.plant_model.specs.declared.parts.Thruster.{Thruster}
use Rattle.plant_model.specs.declared.plant.Parts.{Parts}
use Rattle.plant_model.specs.declared.status.Loss.{Loss}
use Rattle.plant_model.specs.declared.status.Status.{Status}
use Rattle.bus_topology.specs.Islands.{IsLive}
use Rattle.redundancy_groups.specs.Standing.{is_fed_after, is_live_after, is_lost}
use Rattle.redundancy_groups.specs.Standing.{is_selected_after}
use Rattle.redundancy_groups.specs.Standing.{standing_of}

module _ (p : Parts) (status : Status) (loss : Loss) (few : length p.sections.items ≤ MOST_SECTIONS)
  where
    live_after : (section : ℕ) → is_live_after p loss section ≡ true →
        IsLive p (standing_of p status loss) section
    live_after section h =
        let both =
        and_parts (nat_lt section (length p.sections.items))
        (not (is_lost p loss (Section section))) h in
        let there = ltb-true section (length p.sections.items) both.0 in
        let live = (standing_of p status loss).live in
        let long = length-map-range_with_len (is_live_after p loss) 0 MOST_SECTIONS in
        record {
          there = there;
          kept = slice_get-get_or live section false (omega arith)
              ∙ ap Some
              (get_or-map-range_with_len (is_live_after p loss) 0 MOST_SECTIONS
              section section false (omega arith) (omega arith)
              ∙ h);
        }

    pub fed : (place : ℕ) (t : Thruster) → place < MOST_THRUSTERS →
        place < length p.thrusters.items → t ≡ get_or p.thrusters.items place t →
        get_or (standing_of p status loss).selected place false ≡ true →
        IsLive p (standing_of p status loss) t.section
    fed place t within there is selected =
        let test : is_selected_after p status loss place ≡ true =
        sym (get_or-map-range_with_len (is_selected_after p status loss) 0 MOST_THRUSTERS
        place place false within (omega arith)) ∙ selected in
        let sections = map (λ (x : Thruster). x.section) p.thrusters.items in
        let kept = get_or status.selected place false
        && not (is_lost p loss (ThrusterMember place)) in
        let both = and_parts kept (is_fed_after p loss (slice_get sections place)) test in
        let section : slice_get sections place ≡ Some t.section =
        slice_get_read sections (length sections) place t.section refl
        (omega (arith, length-map p.thrusters.items (λ (x : Thruster). x.section)))
        (ap (λ (x : Thruster). x.section) is
        ∙ sym (get_or-map (λ (x : Thruster). x.section) p.thrusters.items place t)) in
        live_after t.section (sym (ap (is_fed_after p loss) section) ∙ both.1)
