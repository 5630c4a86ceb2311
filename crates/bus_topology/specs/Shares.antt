-- What share of the full power there is on a section's island.
use Rattle.std.specs.Prelude.{◌≡◌, ℕ, ◌*◌, ◌/◌, ◌==◌, ◌↔◌, ◌&&◌, nat_le, Bool, IsTrue, List, sum_by}
use Rattle.std.specs.Prelude.{count_by, if◌then◌else◌}
use Rattle.std.specs.List.{zip}
use Rattle.plant_model.specs.declared.plant.Parts.{Parts}
use Rattle.plant_model.specs.declared.status.Standing.{Standing}
use Rattle.bus_topology.specs.Islands.{AreConnected}

-- what a part adds to a total: its value, where it stands and passes the test
abbrev pub counted : {A : Type 0} → (A → Bool) → (A → ℕ) → A × Bool → ℕ
counted passes value (part, stands) = if stands && passes part then value part else 0

-- the values of those parts that stand and pass the test, taken together
abbrev pub total_of : {A : Type 0} → (A → Bool) → (A → ℕ) → List A → List Bool → ℕ
total_of passes value parts standing = sum_by (counted passes value) (zip parts standing)

-- what the running generators give on the sections that pass the test, in kW
abbrev pub power_on : Parts → Standing → (ℕ → Bool) → ℕ
power_on p s is_on = total_of (λ g. is_on g.section) (λ g. g.power) p.generators.items s.running

-- what the selected thrusters on those sections take at full thrust, in kW
abbrev pub rated_on : Parts → Standing → (ℕ → Bool) → ℕ
rated_on p s is_on = total_of (λ t. is_on t.section) (λ t. t.rated) p.thrusters.items s.selected

-- how much the generators give of what the thrusters take, in percent and rounded down; 0 where the
-- thrusters take nothing
abbrev pub share_on : Parts → Standing → (ℕ → Bool) → ℕ
share_on p s is_on =
    let rated = rated_on p s is_on in
    if rated == 0 then 0 else 100 * power_on p s is_on / rated

-- the test passes exactly the sections that are connected with this one
abbrev pub TestsConnection : Parts → Standing → ℕ → (ℕ → Bool) → Type 0
TestsConnection p s section is_on =
    (other : ℕ) → IsTrue (is_on other) ↔ AreConnected p s section other

-- the share on the sections that are connected with this one
abbrev pub IsShare : Parts → Standing → ℕ → ℕ → Type 0
IsShare p s section share =
    (is_on : ℕ → Bool) × TestsConnection p s section is_on × (share ≡ share_on p s is_on)

-- how many of the thresholds are at most the share
abbrev pub quarter_of : ℕ → List ℕ → ℕ
quarter_of share thresholds = count_by (λ threshold. nat_le threshold share) thresholds
