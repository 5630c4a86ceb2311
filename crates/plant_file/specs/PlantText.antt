-- The plant that bytes describe, or their first fault.
use Rattle.std.specs.Prelude.{ℕ, List, [], ◌∷◌, ◌++◌, length, map, Bool, ◌&&◌, ◌==◌, nat_le, nat_lt}
use Rattle.std.specs.Prelude.{if◌then◌else◌, Option, Some, None, Result, Ok, Err}
use Rattle.std.specs.List.{enumerate_from, flat_map, list_all, list_any}
use Rattle.std.specs.Str.{bytes_eq, is_utf8}
use Rattle.plant_model.specs.Plants.{are_distinct, choices_of}
use Rattle.plant_model.specs.Rings.{is_ring, are_sectors}
use Rattle.plant_model.specs.declared.limits.TheConstants.{MOST_CHOICES, MOST_PLANT_BYTES}
use Rattle.plant_model.specs.declared.plant.Parts.{Parts}
use Rattle.toml.specs.Data.{Data, Members}
use Rattle.toml.specs.Parse.{parse_document}
use Rattle.plant_file.specs.Described.{all_names, names_of, naturals_at, parts_in, pieces_in}
use Rattle.plant_file.specs.Described.{points_at, sectors_at, text_at, texts_at}
use Rattle.plant_file.specs.Faults.{elements_at, faults_of_keys, faults_of_unknown_keys, format_of}
use Rattle.plant_file.specs.Faults.{path_to}
use Rattle.plant_file.specs.declared.fault.Key.{Key}
use Rattle.plant_file.specs.declared.fault.Key.TheVariants.{Name, Section as FedBy, Ends}
use Rattle.plant_file.specs.declared.fault.Key.TheVariants.{Members as MembersKey, Ring, Forbid}
use Rattle.plant_file.specs.declared.fault.Key.TheVariants.{Barred}
use Rattle.plant_file.specs.declared.fault.Part.{Part}
use Rattle.plant_file.specs.declared.fault.Part.TheVariants.{Section, Tie, Generator, Thruster}
use Rattle.plant_file.specs.declared.fault.Part.TheVariants.{Group}
use Rattle.plant_file.specs.declared.fault.Path.{Path}
use Rattle.plant_file.specs.declared.fault.PlantFault.{PlantFault}
use Rattle.plant_file.specs.declared.fault.PlantFault.TheVariants.{NotToml, NameTwice, UnknownName}
use Rattle.plant_file.specs.declared.fault.PlantFault.TheVariants.{RingNotConvex, SectorBad}
use Rattle.plant_file.specs.declared.fault.PlantFault.TheVariants.{TooManyChoices, TooLong}
use Rattle.plant_file.specs.declared.fault.PlantFault.TheVariants.{PieceBad}

-- the elements of a part, each with its place
abbrev pub placed : Part → Members → List (ℕ × Data)
placed part doc = enumerate_from 0 (elements_at part doc)

-- the names of elements of a part, of which the first has this place, each with its path
abbrev pub named_from : Part → ℕ → List Data → List (Path × List ℕ)
named_from part first ds =
    map (λ e. (path_to part e.0 Name, text_at Name e.1)) (enumerate_from first ds)

-- the names of a part's elements, each with its path
abbrev pub named : Part → Members → List (Path × List ℕ)
named part doc = named_from part 0 (elements_at part doc)

abbrev pub unless : Bool → PlantFault → List PlantFault
unless good fault = if good then [] else fault ∷ []

-- names that equal an earlier one, where these are earlier than all
abbrev pub twice_after : List (List ℕ) → List (Path × List ℕ) → List PlantFault
twice_after earlier [] = []
twice_after earlier (n ∷ ns) =
    (if list_any (bytes_eq n.1) earlier then NameTwice n.0 ∷ [] else [])
    ++ twice_after (earlier ++ n.1 ∷ []) ns

-- a list of texts of which two are equal
abbrev pub repeated : Part → Key → ℕ × Data → List PlantFault
repeated part key e =
    unless (are_distinct bytes_eq (texts_at key e.1)) (NameTwice (path_to part e.0 key))

-- names of sections, ties, generators and thrusters that stand twice
abbrev pub faults_of_part_names : Members → List PlantFault
faults_of_part_names doc =
    twice_after [] (named Section doc ++ named Tie doc ++ named Generator doc ++ named Thruster doc)

-- names that stand twice, ties with two equal ends, and groups that have a member twice
abbrev pub faults_of_names : Members → List PlantFault
faults_of_names doc =
    faults_of_part_names doc
    ++ twice_after [] (named Group doc)
    ++ flat_map (repeated Tie Ends) (placed Tie doc)
    ++ flat_map (repeated Group MembersKey) (placed Group doc)

abbrev pub are_known : List (List ℕ) → List (List ℕ) → Bool
are_known names texts = list_all (λ text. list_any (bytes_eq text) names) texts

-- a list of texts of which one is none of the names
abbrev pub unknown : List (List ℕ) → Part → Key → ℕ × Data → List PlantFault
unknown names part key e =
    unless (are_known names (texts_at key e.1)) (UnknownName (path_to part e.0 key))

-- a section that is none
abbrev pub unfed : List (List ℕ) → Part → ℕ × Data → List PlantFault
unfed names part e =
    unless (are_known names (text_at FedBy e.1 ∷ [])) (UnknownName (path_to part e.0 FedBy))

-- ends of ties, sections and members that are no part's names
abbrev pub faults_of_references : Members → List PlantFault
faults_of_references doc =
    let sections = names_of Section doc in
    flat_map (unknown sections Tie Ends) (placed Tie doc)
    ++ flat_map (unfed sections Generator) (placed Generator doc)
    ++ flat_map (unfed sections Thruster) (placed Thruster doc)
    ++ flat_map (unknown (all_names doc) Group MembersKey) (placed Group doc)

-- the barred pieces are there, and none stands twice
abbrev pub are_barred : ℕ → List ℕ → Bool
are_barred pieces places =
    list_all (λ place. nat_lt place pieces) places && are_distinct (λ a b. a == b) places

-- a thruster's ring, its sectors and its barred pieces
abbrev pub thruster_faults : ℕ × Data → List PlantFault
thruster_faults e =
    let ring = points_at Ring e.1 in
    unless (is_ring ring) (RingNotConvex e.0)
    ++ unless (are_sectors (length ring) (sectors_at Forbid e.1)) (SectorBad e.0)
    ++ unless (are_barred (length (pieces_in e.1)) (naturals_at Barred e.1)) (PieceBad e.0)

abbrev pub faults_of_thrusters : Members → List PlantFault
faults_of_thrusters doc =
    flat_map thruster_faults (placed Thruster doc)
    ++ unless (nat_le (choices_of (parts_in doc).thrusters.items) MOST_CHOICES) TooManyChoices

-- the faults of a document's keys, and then the others, in the order in which they are judged
abbrev pub key_faults_of : Members → List PlantFault
key_faults_of doc = faults_of_keys (format_of doc) doc ++ faults_of_unknown_keys (format_of doc) doc

abbrev pub other_faults_of : Members → List PlantFault
other_faults_of doc = faults_of_names doc ++ faults_of_references doc ++ faults_of_thrusters doc

-- what is there where there are no faults, or the first of these
abbrev pub unless_faulty : {A : Type 0} → List PlantFault → A → Result A PlantFault
unless_faulty [] x = Ok x
unless_faulty (fault ∷ faults) x = Err fault

abbrev pub then_judged : {A B : Type 0} → Result A PlantFault → (A → Result B PlantFault)
    → Result B PlantFault
then_judged (Ok x) f = f x
then_judged (Err fault) f = Err fault

abbrev pub toml_or_fault : Option Members → Result Members PlantFault
toml_or_fault None = Err NotToml
toml_or_fault (Some doc) = Ok doc

-- the document that bytes are, which are text
abbrev pub parsed : List ℕ → Option Members
parsed bytes = if is_utf8 bytes then parse_document bytes else None

abbrev pub document_of : List ℕ → Result Members PlantFault
document_of bytes =
    if nat_lt MOST_PLANT_BYTES (length bytes) then Err TooLong else toml_or_fault (parsed bytes)

-- the document with its keys judged
abbrev pub right_document : List ℕ → Result Members PlantFault
right_document bytes =
    then_judged (document_of bytes) (λ doc. unless_faulty (key_faults_of doc) doc)

-- the plant, or the first fault
abbrev pub plant_of : List ℕ → Result Parts PlantFault
plant_of bytes =
    then_judged (right_document bytes) (λ doc. unless_faulty (other_faults_of doc) (parts_in doc))
