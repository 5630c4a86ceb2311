-- What a document without faults describes is a plant.
use Rattle.std.proofs.Common.{◌≡◌, ◌++◌, Ok, IsTrue}
use Rattle.std.specs.List.{flat_map}
use Rattle.toml.specs.Data.{Members}
use Rattle.plant_model.specs.Plants.{is_plant}
use Rattle.plant_model.specs.declared.plant.Parts.{Parts}
use Rattle.plant_file.specs.declared.fault.Part.TheVariants.{Thruster}
use Rattle.plant_file.specs.Described.{parts_in}
use Rattle.plant_file.specs.Faults.{judged}
use Rattle.plant_file.specs.PlantText.{faults_of_names, faults_of_references, faults_of_thrusters}
use Rattle.plant_file.specs.PlantText.{other_faults_of, placed, thruster_faults}
use Rattle.plant_file.specs.RightKeys.{HasRightKeys}
use Rattle.plant_file.proofs.Connected.{connected, groups_right}
use Rattle.plant_file.proofs.JudgedLemmas.{judged_both}
use Rattle.plant_file.proofs.NamedApart.{named_apart}
use Rattle.plant_file.proofs.StatusRight.{whole}

-- the faults behind those of the keys are those of names, of references and of thrusters
front : (doc : Members) → judged (other_faults_of doc) ≡ Ok tt
    → (judged (faults_of_names doc) ≡ Ok tt) × (judged (faults_of_references doc) ≡ Ok tt)
front doc none =
    let both =
    judged_both (faults_of_names doc ++ faults_of_references doc) (faults_of_thrusters doc) none in
    judged_both (faults_of_names doc) (faults_of_references doc) both.0

pub plant_described : (doc : Members) → HasRightKeys doc → judged (other_faults_of doc) ≡ Ok tt
    → IsTrue (is_plant (parts_in doc))
plant_described doc right none =
    let faults = front doc none in
    whole doc right none (named_apart doc right faults.0)
    (connected doc right faults.0 faults.1) (groups_right doc right faults.0 faults.1)

-- no thruster has a fault
pub thrusters_judged : (doc : Members) → judged (other_faults_of doc) ≡ Ok tt
    → judged (flat_map thruster_faults (placed Thruster doc)) ≡ Ok tt
thrusters_judged doc none =
    let both =
    judged_both (faults_of_names doc ++ faults_of_references doc) (faults_of_thrusters doc) none in
    (judged_both (flat_map thruster_faults (placed Thruster doc)) _ both.1).0

-- parts that are those of the document, one by one
pub same_parts : (doc : Members) (p : Parts) → p.name ≡ (parts_in doc).name
    → p.band ≡ (parts_in doc).band → p.gains ≡ (parts_in doc).gains
    → p.wind ≡ (parts_in doc).wind → p.sections.items ≡ (parts_in doc).sections.items
    → p.ties.items ≡ (parts_in doc).ties.items
    → p.generators.items ≡ (parts_in doc).generators.items
    → p.thrusters.items ≡ (parts_in doc).thrusters.items
    → p.groups.items ≡ (parts_in doc).groups.items → p.opening ≡ (parts_in doc).opening
    → p ≡ parts_in doc
same_parts doc p name band gains wind sections ties generators thrusters groups opening = λ i.
    record {
      name = name i;
      band = band i;
      gains = gains i;
      wind = wind i;
      sections = record { items = sections i };
      ties = record { items = ties i };
      generators = record { items = generators i };
      thrusters = record { items = thrusters i };
      groups = record { items = groups i };
      opening = opening i;
    }
