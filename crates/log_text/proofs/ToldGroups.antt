-- Groups by their names.
use Rattle.std.proofs.Common.{◌≡◌, ℕ, zero, suc, ◌<◌, List, [], ◌∷◌, length, map, Bool, true, false}
use Rattle.std.proofs.Common.{not, ◌&&◌, ◌||◌, if◌then◌else◌, IsTrue, slice_get, nat_le, refl, ap, arith}
use Rattle.std.proofs.lemmas.Bool.Decides.{nat_tests}
use Rattle.std.proofs.lemmas.Slice.Eq.{bytes_eq-Decides}
use Rattle.std.specs.List.{AllByRecursion, list_all, list_any}
use Rattle.std.specs.Option.{option_map_or}
use Rattle.std.specs.Str.{bytes_eq}
use Rattle.plant_model.specs.Names.{is_name, is_name_byte}
use Rattle.plant_model.specs.Plants.{are_connected, are_distinct, are_named_apart, choices_of}
use Rattle.plant_model.specs.Plants.{is_control, is_from_one_to, is_group, is_plant, is_status}
use Rattle.plant_model.specs.Plants.{is_thruster, part_names}
use Rattle.plant_model.specs.declared.limits.TheConstants.{MOST_CHOICES, MOST_POWER}
use Rattle.plant_model.specs.declared.parts.Group.{Group}
use Rattle.plant_model.specs.declared.plant.Parts.{Parts}
use Rattle.log_text.proofs.ToldFields.{all_good-cons, all_good-head, all_good-tail, both_true}
use Rattle.log_text.proofs.ToldFields.{is_field, is_field_byte}

-- ---- names

field_byte-from_name_byte : (b : ℕ) → is_name_byte b ≡ true → is_field_byte b ≡ true
field_byte-from_name_byte b good = grind (arith, nat_tests)

field-name_bytes : (name : List ℕ) → list_all is_name_byte name ≡ true → is_field name ≡ true
field-name_bytes [] good = refl
field-name_bytes (b ∷ bs) good =
    all_good-cons is_field_byte b bs
    (field_byte-from_name_byte b (all_good-head is_name_byte b bs good))
    (field-name_bytes bs (all_good-tail is_name_byte b bs good))

-- a name is a field
pub field-name : (name : List ℕ) → is_name name ≡ true → is_field name ≡ true
field-name name good =
    let each : list_all is_name_byte name ≡ true = grind (arith, nat_tests) in
    field-name_bytes name each

-- ---- places

-- the name of the group at this place
abbrev pub name_at : List Group → ℕ → List ℕ
name_at groups place = option_map_or (λ g. g.name) (slice_get groups place) []

abbrev pub AreNamed : List Group → Type 0
AreNamed groups = AllByRecursion (λ g. IsTrue (is_name g.name)) groups

pub field-name_at : (groups : List Group) (place : ℕ) → AreNamed groups
    → is_field (name_at groups place) ≡ true
field-name_at [] place named = refl
field-name_at (g ∷ gs) zero named = field-name g.name named.0
field-name_at (g ∷ gs) (suc place) named = field-name_at gs place named.1

-- the place of the group with this name, where there is one
abbrev pub place_in : List Group → List ℕ → ℕ
place_in [] name = 0
place_in (g ∷ gs) name = if bytes_eq g.name name then 0 else suc (place_in gs name)

abbrev pub names_of : List Group → List (List ℕ)
names_of groups = map (λ g. g.name) groups

neither : (a b : Bool) → (a || b) ≡ false → (a ≡ false) × (b ≡ false)
neither true b none = absurd (cc)
neither false b none = (refl, none)

from_not : (a : Bool) → not a ≡ true → a ≡ false
from_not true is = absurd (cc)
from_not false is = refl

other_name : (name : List ℕ) (groups : List Group) (place : ℕ)
    → list_any (bytes_eq name) (names_of groups) ≡ false → place < length groups
    → bytes_eq name (name_at groups place) ≡ false
other_name name [] place none there = absurd (omega arith)
other_name name (g ∷ gs) zero none there =
    (neither (bytes_eq name g.name) (list_any (bytes_eq name) (names_of gs)) none).0
other_name name (g ∷ gs) (suc place) none there =
    other_name name gs place
    (neither (bytes_eq name g.name) (list_any (bytes_eq name) (names_of gs)) none).1 (omega arith)

pub place-told : (groups : List Group) (place : ℕ)
    → are_distinct bytes_eq (names_of groups) ≡ true → place < length groups
    → place_in groups (name_at groups place) ≡ place
place-told [] place distinct there = absurd (omega arith)
place-told (g ∷ gs) zero distinct there = rw ((bytes_eq-Decides g.name g.name).1 refl) refl
place-told (g ∷ gs) (suc place) distinct there =
    let parts = both_true (not (list_any (bytes_eq g.name) (names_of gs)))
    (are_distinct bytes_eq (names_of gs)) distinct in
    let apart = from_not (list_any (bytes_eq g.name) (names_of gs)) parts.0 in
    rw (other_name g.name gs place apart (omega arith))
    (ap suc (place-told gs place parts.1 (omega arith)))

-- ---- plants

fifth_of : (a b c d e : Bool) → (a && b && c && d && e) ≡ true → e ≡ true
fifth_of a b c d e each = (both_true (a && b && c && d) e each).1

second_of : (a b c d e f g h : Bool) → (a && b && c && d && e && f && g && h) ≡ true → b ≡ true
second_of a b c d e f g h each =
    let to_g = (both_true (a && b && c && d && e && f && g) h each).0 in
    let to_f = (both_true (a && b && c && d && e && f) g to_g).0 in
    let to_e = (both_true (a && b && c && d && e) f to_f).0 in
    let to_d = (both_true (a && b && c && d) e to_e).0 in
    let to_c = (both_true (a && b && c) d to_d).0 in
    let to_b = (both_true (a && b) c to_c).0 in
    (both_true a b to_b).1

-- no two groups of a plant have one name
pub names-distinct : (p : Parts) → IsTrue (is_plant p)
    → are_distinct bytes_eq (names_of p.groups.items) ≡ true
names-distinct p fit =
    let apart : are_named_apart p ≡ true = second_of (is_control p) (are_named_apart p)
    (are_connected p)
    (list_all (λ g. is_from_one_to MOST_POWER g.power) p.generators.items)
    (list_all is_thruster p.thrusters.items)
    (nat_le (choices_of p.thrusters.items) MOST_CHOICES)
    (list_all (is_group p) p.groups.items) (is_status p p.opening) fit in
    fifth_of (nat_le 1 (length p.sections.items)) (nat_le 1 (length p.thrusters.items))
    (nat_le 1 (length p.groups.items)) (are_distinct bytes_eq (part_names p))
    (are_distinct bytes_eq (names_of p.groups.items)) apart
