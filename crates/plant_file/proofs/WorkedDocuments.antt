-- Worked documents: the demo's, and what one change each makes of it.
use Rattle.std.proofs.Common.{◌≡◌, ℤ, List, [], ◌∷◌, ◌++◌, map, true, false, pos, negsuc, Ok, Err}
use Rattle.std.proofs.Common.{refl, codes}
use Rattle.toml.specs.Data.{Data, string, integer, boolean, array, table, Items, no_items, item}
use Rattle.toml.specs.Data.{Members, no_members, member}
use Rattle.plant_model.specs.Demo.{demo_parts}
use Rattle.plant_file.specs.Described.{parts_in}
use Rattle.plant_file.specs.Faults.{judged, path_to}
use Rattle.plant_file.specs.PlantText.{key_faults_of, other_faults_of}
use Rattle.plant_file.specs.declared.fault.Key.TheVariants as key
use Rattle.plant_file.specs.declared.fault.Part.TheVariants as part
use Rattle.plant_file.specs.declared.fault.PlantFault.{PlantFault}
use Rattle.plant_file.specs.declared.fault.PlantFault.TheVariants.{MissingKey, WrongKind}
use Rattle.plant_file.specs.declared.fault.PlantFault.TheVariants.{OutOfLimit, NameTwice}
use Rattle.plant_file.specs.declared.fault.PlantFault.TheVariants.{UnknownName, RingNotConvex}
use Rattle.plant_file.specs.declared.fault.PlantFault.TheVariants.{SectorBad, TooManyChoices}
use Rattle.plant_file.specs.declared.fault.PlantFault.TheVariants.{UnknownKey, PieceBad}

abbrev items_of : List Data → Items
items_of [] = no_items
items_of (d ∷ ds) = item d (items_of ds)

abbrev listed : List Data → Data
listed ds = array (items_of ds)

abbrev numbers : List ℤ → Data
numbers zs = listed (map integer zs)

abbrev all_faults : Members → List PlantFault
all_faults doc = key_faults_of doc ++ other_faults_of doc

abbrev demo_band : Data
demo_band = numbers ((pos 15) ∷ (pos 15) ∷ (pos 10000) ∷ [])

abbrev demo_controller : Data
demo_controller = table (member (codes "surge") (table (member (codes "kd") (integer (pos 500))
    (member (codes "ki") (integer (pos 10)) (member (codes "kp") (integer (pos 200)) (member
    (codes "limit") (integer (pos 1000000000)) (no_members)))))) (member (codes "sway") (table
    (member (codes "kd") (integer (pos 500)) (member (codes "ki") (integer (pos 10)) (member
    (codes "kp") (integer (pos 200)) (member (codes "limit") (integer (pos 1000000000))
    (no_members)))))) (member (codes "yaw") (table (member (codes "kd") (integer (pos 500000))
    (member (codes "ki") (integer (pos 1000)) (member (codes "kp") (integer (pos 200000)) (member
    (codes "limit") (integer (pos 1000000000)) (no_members)))))) (no_members))))

abbrev demo_format : Data
demo_format = integer (pos 1)

abbrev demo_generator : Data
demo_generator = listed ((table (member (codes "name") (string (codes "G1")) (member (codes
    "power") (integer (pos 4000)) (member (codes "running") (boolean true) (member (codes
    "section") (string (codes "A")) (no_members)))))) ∷ (table (member (codes "name") (string
    (codes "G2")) (member (codes "power") (integer (pos 4000)) (member (codes "running") (boolean
    true) (member (codes "section") (string (codes "B")) (no_members)))))) ∷ [])

abbrev demo_group : Data
demo_group = listed ((table (member (codes "members") (listed ((string (codes "A")) ∷ [])) (member
    (codes "name") (string (codes "GA")) (no_members)))) ∷ (table (member (codes "members")
    (listed ((string (codes "B")) ∷ [])) (member (codes "name") (string (codes "GB"))
    (no_members)))) ∷ [])

abbrev demo_name : Data
demo_name = string (codes "DEMO")

abbrev demo_section : Data
demo_section = listed ((table (member (codes "name") (string (codes "A")) (no_members))) ∷ (table
    (member (codes "name") (string (codes "B")) (no_members))) ∷ [])

abbrev demo_thruster : Data
demo_thruster = listed ((table (member (codes "at") (numbers ((pos 400) ∷ (pos 0) ∷ [])) (member
    (codes "name") (string (codes "BOW1")) (member (codes "rated") (integer (pos 2000)) (member
    (codes "ring") (listed ((numbers ((pos 0) ∷ (negsuc 199) ∷ [])) ∷ (numbers ((pos 0) ∷ (pos
    200) ∷ [])) ∷ [])) (member (codes "section") (string (codes "A")) (member (codes "selected")
    (boolean true) (member (codes "thresholds") (numbers ((pos 25) ∷ (pos 50) ∷ (pos 75) ∷ (pos
    100) ∷ [])) (no_members))))))))) ∷ (table (member (codes "at") (numbers ((pos 360) ∷ (pos 0) ∷
    [])) (member (codes "name") (string (codes "BOW2")) (member (codes "rated") (integer (pos
    2000)) (member (codes "ring") (listed ((numbers ((pos 0) ∷ (negsuc 199) ∷ [])) ∷ (numbers
    ((pos 0) ∷ (pos 200) ∷ [])) ∷ [])) (member (codes "section") (string (codes "B")) (member
    (codes "selected") (boolean true) (member (codes "thresholds") (numbers ((pos 25) ∷ (pos 50) ∷
    (pos 75) ∷ (pos 100) ∷ [])) (no_members))))))))) ∷ (table (member (codes "at") (numbers
    ((negsuc 399) ∷ (negsuc 99) ∷ [])) (member (codes "name") (string (codes "PORT")) (member
    (codes "rated") (integer (pos 2000)) (member (codes "ring") (listed ((numbers ((pos 400) ∷
    (pos 0) ∷ [])) ∷ (numbers ((pos 0) ∷ (pos 400) ∷ [])) ∷ (numbers ((negsuc 399) ∷ (pos 0) ∷
    [])) ∷ (numbers ((pos 0) ∷ (negsuc 399) ∷ [])) ∷ [])) (member (codes "section") (string (codes
    "A")) (member (codes "selected") (boolean true) (member (codes "thresholds") (numbers ((pos
    25) ∷ (pos 50) ∷ (pos 75) ∷ (pos 100) ∷ [])) (no_members))))))))) ∷ (table (member (codes
    "at") (numbers ((negsuc 399) ∷ (pos 100) ∷ [])) (member (codes "name") (string (codes "STBD"))
    (member (codes "rated") (integer (pos 2000)) (member (codes "ring") (listed ((numbers ((pos
    400) ∷ (pos 0) ∷ [])) ∷ (numbers ((pos 0) ∷ (pos 400) ∷ [])) ∷ (numbers ((negsuc 399) ∷ (pos
    0) ∷ [])) ∷ (numbers ((pos 0) ∷ (negsuc 399) ∷ [])) ∷ [])) (member (codes "section") (string
    (codes "B")) (member (codes "selected") (boolean true) (member (codes "thresholds") (numbers
    ((pos 25) ∷ (pos 50) ∷ (pos 75) ∷ (pos 100) ∷ [])) (no_members))))))))) ∷ [])

abbrev demo_tie : Data
demo_tie = listed ((table (member (codes "closed") (boolean false) (member (codes "ends") (listed
    ((string (codes "A")) ∷ (string (codes "B")) ∷ [])) (member (codes "name") (string (codes
    "T1")) (no_members))))) ∷ [])

abbrev demo_wind : Data
demo_wind = listed ((numbers ((negsuc 2499) ∷ (pos 0) ∷ (pos 0) ∷ [])) ∷ (numbers ((negsuc 2461) ∷
    (negsuc 875) ∷ (pos 0) ∷ [])) ∷ (numbers ((negsuc 2347) ∷ (negsuc 1715) ∷ (pos 0) ∷ [])) ∷
    (numbers ((negsuc 2161) ∷ (negsuc 2499) ∷ (pos 0) ∷ [])) ∷ (numbers ((negsuc 1911) ∷ (negsuc
    3208) ∷ (pos 0) ∷ [])) ∷ (numbers ((negsuc 1604) ∷ (negsuc 3823) ∷ (pos 0) ∷ [])) ∷ (numbers
    ((negsuc 1249) ∷ (negsuc 4323) ∷ (pos 0) ∷ [])) ∷ (numbers ((negsuc 857) ∷ (negsuc 4694) ∷
    (pos 0) ∷ [])) ∷ (numbers ((negsuc 437) ∷ (negsuc 4922) ∷ (pos 0) ∷ [])) ∷ (numbers ((pos 0) ∷
    (negsuc 4999) ∷ (pos 0) ∷ [])) ∷ (numbers ((pos 438) ∷ (negsuc 4922) ∷ (pos 0) ∷ [])) ∷
    (numbers ((pos 857) ∷ (negsuc 4694) ∷ (pos 0) ∷ [])) ∷ (numbers ((pos 1250) ∷ (negsuc 4323) ∷
    (pos 0) ∷ [])) ∷ (numbers ((pos 1604) ∷ (negsuc 3823) ∷ (pos 0) ∷ [])) ∷ (numbers ((pos 1911)
    ∷ (negsuc 3208) ∷ (pos 0) ∷ [])) ∷ (numbers ((pos 2162) ∷ (negsuc 2499) ∷ (pos 0) ∷ [])) ∷
    (numbers ((pos 2347) ∷ (negsuc 1715) ∷ (pos 0) ∷ [])) ∷ (numbers ((pos 2461) ∷ (negsuc 875) ∷
    (pos 0) ∷ [])) ∷ (numbers ((pos 2500) ∷ (pos 0) ∷ (pos 0) ∷ [])) ∷ (numbers ((pos 2461) ∷ (pos
    876) ∷ (pos 0) ∷ [])) ∷ (numbers ((pos 2347) ∷ (pos 1715) ∷ (pos 0) ∷ [])) ∷ (numbers ((pos
    2162) ∷ (pos 2500) ∷ (pos 0) ∷ [])) ∷ (numbers ((pos 1911) ∷ (pos 3209) ∷ (pos 0) ∷ [])) ∷
    (numbers ((pos 1604) ∷ (pos 3823) ∷ (pos 0) ∷ [])) ∷ (numbers ((pos 1250) ∷ (pos 4324) ∷ (pos
    0) ∷ [])) ∷ (numbers ((pos 857) ∷ (pos 4695) ∷ (pos 0) ∷ [])) ∷ (numbers ((pos 438) ∷ (pos
    4923) ∷ (pos 0) ∷ [])) ∷ (numbers ((pos 0) ∷ (pos 5000) ∷ (pos 0) ∷ [])) ∷ (numbers ((negsuc
    437) ∷ (pos 4923) ∷ (pos 0) ∷ [])) ∷ (numbers ((negsuc 857) ∷ (pos 4695) ∷ (pos 0) ∷ [])) ∷
    (numbers ((negsuc 1249) ∷ (pos 4324) ∷ (pos 0) ∷ [])) ∷ (numbers ((negsuc 1604) ∷ (pos 3823) ∷
    (pos 0) ∷ [])) ∷ (numbers ((negsuc 1911) ∷ (pos 3209) ∷ (pos 0) ∷ [])) ∷ (numbers ((negsuc
    2161) ∷ (pos 2500) ∷ (pos 0) ∷ [])) ∷ (numbers ((negsuc 2347) ∷ (pos 1715) ∷ (pos 0) ∷ [])) ∷
    (numbers ((negsuc 2461) ∷ (pos 876) ∷ (pos 0) ∷ [])) ∷ [])

abbrev demo_document : Members
demo_document = member (codes "band") demo_band (member (codes "controller") demo_controller
    (member (codes "format") demo_format (member (codes "generator") demo_generator (member (codes
    "group") demo_group (member (codes "name") demo_name (member (codes "section") demo_section
    (member (codes "thruster") demo_thruster (member (codes "tie") demo_tie (member (codes "wind")
    demo_wind (no_members))))))))))

demo_is_right : judged (all_faults demo_document) ≡ Ok tt
demo_is_right = refl

demo_is_the_demo : parts_in demo_document ≡ demo_parts
demo_is_the_demo = refl

a_section_twice : judged (all_faults (member (codes "band") demo_band (member (codes "controller")
    demo_controller (member (codes "format") demo_format (member (codes "generator")
    demo_generator (member (codes "group") demo_group (member (codes "name") demo_name (member
    (codes "section") (listed ((table (member (codes "name") (string (codes "A")) (no_members))) ∷
    (table (member (codes "name") (string (codes "A")) (no_members))) ∷ [])) (member (codes
    "thruster") demo_thruster (member (codes "tie") demo_tie (member (codes "wind") demo_wind
    (no_members)))))))))))) ≡ Err (NameTwice (path_to part.Section 1 key.Name))
a_section_twice = refl

an_end_that_is_no_section : judged (all_faults (member (codes "band") demo_band (member (codes
    "controller") demo_controller (member (codes "format") demo_format (member (codes "generator")
    demo_generator (member (codes "group") demo_group (member (codes "name") demo_name (member
    (codes "section") demo_section (member (codes "thruster") demo_thruster (member (codes "tie")
    (listed ((table (member (codes "closed") (boolean false) (member (codes "ends") (listed
    ((string (codes "A")) ∷ (string (codes "C")) ∷ [])) (member (codes "name") (string (codes
    "T1")) (no_members))))) ∷ [])) (member (codes "wind") demo_wind (no_members)))))))))))) ≡ Err
    (UnknownName (path_to part.Tie 0 key.Ends))
an_end_that_is_no_section = refl

a_tie_of_equal_ends : judged (all_faults (member (codes "band") demo_band (member (codes
    "controller") demo_controller (member (codes "format") demo_format (member (codes "generator")
    demo_generator (member (codes "group") demo_group (member (codes "name") demo_name (member
    (codes "section") demo_section (member (codes "thruster") demo_thruster (member (codes "tie")
    (listed ((table (member (codes "closed") (boolean false) (member (codes "ends") (listed
    ((string (codes "C")) ∷ (string (codes "C")) ∷ [])) (member (codes "name") (string (codes
    "T1")) (no_members))))) ∷ [])) (member (codes "wind") demo_wind (no_members)))))))))))) ≡ Err
    (NameTwice (path_to part.Tie 0 key.Ends))
a_tie_of_equal_ends = refl

a_member_twice : judged (all_faults (member (codes "band") demo_band (member (codes "controller")
    demo_controller (member (codes "format") demo_format (member (codes "generator")
    demo_generator (member (codes "group") (listed ((table (member (codes "members") (listed
    ((string (codes "A")) ∷ [])) (member (codes "name") (string (codes "GA")) (no_members)))) ∷
    (table (member (codes "members") (listed ((string (codes "B")) ∷ (string (codes "G1")) ∷
    (string (codes "B")) ∷ [])) (member (codes "name") (string (codes "GB")) (no_members)))) ∷
    [])) (member (codes "name") demo_name (member (codes "section") demo_section (member (codes
    "thruster") demo_thruster (member (codes "tie") demo_tie (member (codes "wind") demo_wind
    (no_members)))))))))))) ≡ Err (NameTwice (path_to part.Group 1 key.Members))
a_member_twice = refl

a_colour : judged (all_faults (member (codes "band") demo_band (member (codes "controller")
    demo_controller (member (codes "format") demo_format (member (codes "generator")
    demo_generator (member (codes "group") (listed ((table (member (codes "colour") (integer (pos
    1)) (member (codes "members") (listed ((string (codes "A")) ∷ [])) (member (codes "name")
    (string (codes "GA")) (no_members))))) ∷ (table (member (codes "members") (listed ((string
    (codes "B")) ∷ [])) (member (codes "name") (string (codes "GB")) (no_members)))) ∷ []))
    (member (codes "name") demo_name (member (codes "section") demo_section (member (codes
    "thruster") demo_thruster (member (codes "tie") demo_tie (member (codes "wind") demo_wind
    (no_members)))))))))))) ≡ Err (UnknownKey (path_to part.Group 0 key.Whole))
a_colour = refl

no_gain : judged (all_faults (member (codes "band") demo_band (member (codes "controller") (table
    (member (codes "surge") (table (member (codes "kd") (integer (pos 500)) (member (codes "ki")
    (integer (pos 10)) (member (codes "kp") (integer (pos 200)) (member (codes "limit") (integer
    (pos 1000000000)) (no_members)))))) (member (codes "sway") (table (member (codes "kd")
    (integer (pos 500)) (member (codes "ki") (integer (pos 10)) (member (codes "kp") (integer (pos
    200)) (member (codes "limit") (integer (pos 1000000000)) (no_members)))))) (member (codes
    "yaw") (table (member (codes "kd") (integer (pos 500000)) (member (codes "ki") (integer (pos
    1000)) (member (codes "limit") (integer (pos 1000000000)) (no_members))))) (no_members)))))
    (member (codes "format") demo_format (member (codes "generator") demo_generator (member (codes
    "group") demo_group (member (codes "name") demo_name (member (codes "section") demo_section
    (member (codes "thruster") demo_thruster (member (codes "tie") demo_tie (member (codes "wind")
    demo_wind (no_members)))))))))))) ≡ Err (MissingKey (path_to part.Controller 2 key.Kp))
no_gain = refl

a_text_for_a_number : judged (all_faults (member (codes "band") demo_band (member (codes
    "controller") demo_controller (member (codes "format") demo_format (member (codes "generator")
    demo_generator (member (codes "group") demo_group (member (codes "name") demo_name (member
    (codes "section") demo_section (member (codes "thruster") (listed ((table (member (codes "at")
    (numbers ((pos 400) ∷ (pos 0) ∷ [])) (member (codes "name") (string (codes "BOW1")) (member
    (codes "rated") (string (codes "x")) (member (codes "ring") (listed ((numbers ((pos 0) ∷
    (negsuc 199) ∷ [])) ∷ (numbers ((pos 0) ∷ (pos 200) ∷ [])) ∷ [])) (member (codes "section")
    (string (codes "A")) (member (codes "selected") (boolean true) (member (codes "thresholds")
    (numbers ((pos 25) ∷ (pos 50) ∷ (pos 75) ∷ (pos 100) ∷ [])) (no_members))))))))) ∷ (table
    (member (codes "at") (numbers ((pos 360) ∷ (pos 0) ∷ [])) (member (codes "name") (string
    (codes "BOW2")) (member (codes "rated") (integer (pos 2000)) (member (codes "ring") (listed
    ((numbers ((pos 0) ∷ (negsuc 199) ∷ [])) ∷ (numbers ((pos 0) ∷ (pos 200) ∷ [])) ∷ [])) (member
    (codes "section") (string (codes "B")) (member (codes "selected") (boolean true) (member
    (codes "thresholds") (numbers ((pos 25) ∷ (pos 50) ∷ (pos 75) ∷ (pos 100) ∷ []))
    (no_members))))))))) ∷ (table (member (codes "at") (numbers ((negsuc 399) ∷ (negsuc 99) ∷ []))
    (member (codes "name") (string (codes "PORT")) (member (codes "rated") (integer (pos 2000))
    (member (codes "ring") (listed ((numbers ((pos 400) ∷ (pos 0) ∷ [])) ∷ (numbers ((pos 0) ∷
    (pos 400) ∷ [])) ∷ (numbers ((negsuc 399) ∷ (pos 0) ∷ [])) ∷ (numbers ((pos 0) ∷ (negsuc 399)
    ∷ [])) ∷ [])) (member (codes "section") (string (codes "A")) (member (codes "selected")
    (boolean true) (member (codes "thresholds") (numbers ((pos 25) ∷ (pos 50) ∷ (pos 75) ∷ (pos
    100) ∷ [])) (no_members))))))))) ∷ (table (member (codes "at") (numbers ((negsuc 399) ∷ (pos
    100) ∷ [])) (member (codes "name") (string (codes "STBD")) (member (codes "rated") (integer
    (pos 2000)) (member (codes "ring") (listed ((numbers ((pos 400) ∷ (pos 0) ∷ [])) ∷ (numbers
    ((pos 0) ∷ (pos 400) ∷ [])) ∷ (numbers ((negsuc 399) ∷ (pos 0) ∷ [])) ∷ (numbers ((pos 0) ∷
    (negsuc 399) ∷ [])) ∷ [])) (member (codes "section") (string (codes "B")) (member (codes
    "selected") (boolean true) (member (codes "thresholds") (numbers ((pos 25) ∷ (pos 50) ∷ (pos
    75) ∷ (pos 100) ∷ [])) (no_members))))))))) ∷ [])) (member (codes "tie") demo_tie (member
    (codes "wind") demo_wind (no_members)))))))))))) ≡ Err (WrongKind (path_to part.Thruster 0
    key.Rated))
a_text_for_a_number = refl

a_thrust_too_great : judged (all_faults (member (codes "band") demo_band (member (codes
    "controller") demo_controller (member (codes "format") demo_format (member (codes "generator")
    demo_generator (member (codes "group") demo_group (member (codes "name") demo_name (member
    (codes "section") demo_section (member (codes "thruster") (listed ((table (member (codes "at")
    (numbers ((pos 400) ∷ (pos 0) ∷ [])) (member (codes "frozen") (numbers ((pos 2001) ∷ (pos 0) ∷
    [])) (member (codes "name") (string (codes "BOW1")) (member (codes "rated") (integer (pos
    2000)) (member (codes "ring") (listed ((numbers ((pos 0) ∷ (negsuc 199) ∷ [])) ∷ (numbers
    ((pos 0) ∷ (pos 200) ∷ [])) ∷ [])) (member (codes "section") (string (codes "A")) (member
    (codes "selected") (boolean true) (member (codes "thresholds") (numbers ((pos 25) ∷ (pos 50) ∷
    (pos 75) ∷ (pos 100) ∷ [])) (no_members)))))))))) ∷ (table (member (codes "at") (numbers ((pos
    360) ∷ (pos 0) ∷ [])) (member (codes "name") (string (codes "BOW2")) (member (codes "rated")
    (integer (pos 2000)) (member (codes "ring") (listed ((numbers ((pos 0) ∷ (negsuc 199) ∷ [])) ∷
    (numbers ((pos 0) ∷ (pos 200) ∷ [])) ∷ [])) (member (codes "section") (string (codes "B"))
    (member (codes "selected") (boolean true) (member (codes "thresholds") (numbers ((pos 25) ∷
    (pos 50) ∷ (pos 75) ∷ (pos 100) ∷ [])) (no_members))))))))) ∷ (table (member (codes "at")
    (numbers ((negsuc 399) ∷ (negsuc 99) ∷ [])) (member (codes "name") (string (codes "PORT"))
    (member (codes "rated") (integer (pos 2000)) (member (codes "ring") (listed ((numbers ((pos
    400) ∷ (pos 0) ∷ [])) ∷ (numbers ((pos 0) ∷ (pos 400) ∷ [])) ∷ (numbers ((negsuc 399) ∷ (pos
    0) ∷ [])) ∷ (numbers ((pos 0) ∷ (negsuc 399) ∷ [])) ∷ [])) (member (codes "section") (string
    (codes "A")) (member (codes "selected") (boolean true) (member (codes "thresholds") (numbers
    ((pos 25) ∷ (pos 50) ∷ (pos 75) ∷ (pos 100) ∷ [])) (no_members))))))))) ∷ (table (member
    (codes "at") (numbers ((negsuc 399) ∷ (pos 100) ∷ [])) (member (codes "name") (string (codes
    "STBD")) (member (codes "rated") (integer (pos 2000)) (member (codes "ring") (listed ((numbers
    ((pos 400) ∷ (pos 0) ∷ [])) ∷ (numbers ((pos 0) ∷ (pos 400) ∷ [])) ∷ (numbers ((negsuc 399) ∷
    (pos 0) ∷ [])) ∷ (numbers ((pos 0) ∷ (negsuc 399) ∷ [])) ∷ [])) (member (codes "section")
    (string (codes "B")) (member (codes "selected") (boolean true) (member (codes "thresholds")
    (numbers ((pos 25) ∷ (pos 50) ∷ (pos 75) ∷ (pos 100) ∷ [])) (no_members))))))))) ∷ []))
    (member (codes "tie") demo_tie (member (codes "wind") demo_wind (no_members)))))))))))) ≡ Err
    (OutOfLimit (path_to part.Thruster 0 key.Frozen))
a_thrust_too_great = refl

a_ring_the_other_way_round : judged (all_faults (member (codes "band") demo_band (member (codes
    "controller") demo_controller (member (codes "format") demo_format (member (codes "generator")
    demo_generator (member (codes "group") demo_group (member (codes "name") demo_name (member
    (codes "section") demo_section (member (codes "thruster") (listed ((table (member (codes "at")
    (numbers ((pos 400) ∷ (pos 0) ∷ [])) (member (codes "name") (string (codes "BOW1")) (member
    (codes "rated") (integer (pos 2000)) (member (codes "ring") (listed ((numbers ((pos 0) ∷
    (negsuc 199) ∷ [])) ∷ (numbers ((pos 0) ∷ (pos 200) ∷ [])) ∷ [])) (member (codes "section")
    (string (codes "A")) (member (codes "selected") (boolean true) (member (codes "thresholds")
    (numbers ((pos 25) ∷ (pos 50) ∷ (pos 75) ∷ (pos 100) ∷ [])) (no_members))))))))) ∷ (table
    (member (codes "at") (numbers ((pos 360) ∷ (pos 0) ∷ [])) (member (codes "name") (string
    (codes "BOW2")) (member (codes "rated") (integer (pos 2000)) (member (codes "ring") (listed
    ((numbers ((pos 0) ∷ (negsuc 199) ∷ [])) ∷ (numbers ((pos 0) ∷ (pos 200) ∷ [])) ∷ [])) (member
    (codes "section") (string (codes "B")) (member (codes "selected") (boolean true) (member
    (codes "thresholds") (numbers ((pos 25) ∷ (pos 50) ∷ (pos 75) ∷ (pos 100) ∷ []))
    (no_members))))))))) ∷ (table (member (codes "at") (numbers ((negsuc 399) ∷ (negsuc 99) ∷ []))
    (member (codes "name") (string (codes "PORT")) (member (codes "rated") (integer (pos 2000))
    (member (codes "ring") (listed ((numbers ((pos 400) ∷ (pos 0) ∷ [])) ∷ (numbers ((pos 0) ∷
    (negsuc 399) ∷ [])) ∷ (numbers ((negsuc 399) ∷ (pos 0) ∷ [])) ∷ (numbers ((pos 0) ∷ (pos 400)
    ∷ [])) ∷ [])) (member (codes "section") (string (codes "A")) (member (codes "selected")
    (boolean true) (member (codes "thresholds") (numbers ((pos 25) ∷ (pos 50) ∷ (pos 75) ∷ (pos
    100) ∷ [])) (no_members))))))))) ∷ (table (member (codes "at") (numbers ((negsuc 399) ∷ (pos
    100) ∷ [])) (member (codes "name") (string (codes "STBD")) (member (codes "rated") (integer
    (pos 2000)) (member (codes "ring") (listed ((numbers ((pos 400) ∷ (pos 0) ∷ [])) ∷ (numbers
    ((pos 0) ∷ (pos 400) ∷ [])) ∷ (numbers ((negsuc 399) ∷ (pos 0) ∷ [])) ∷ (numbers ((pos 0) ∷
    (negsuc 399) ∷ [])) ∷ [])) (member (codes "section") (string (codes "B")) (member (codes
    "selected") (boolean true) (member (codes "thresholds") (numbers ((pos 25) ∷ (pos 50) ∷ (pos
    75) ∷ (pos 100) ∷ [])) (no_members))))))))) ∷ [])) (member (codes "tie") demo_tie (member
    (codes "wind") demo_wind (no_members)))))))))))) ≡ Err (RingNotConvex 2)
a_ring_the_other_way_round = refl

a_tunnel_with_a_sector : judged (all_faults (member (codes "band") demo_band (member (codes
    "controller") demo_controller (member (codes "format") demo_format (member (codes "generator")
    demo_generator (member (codes "group") demo_group (member (codes "name") demo_name (member
    (codes "section") demo_section (member (codes "thruster") (listed ((table (member (codes "at")
    (numbers ((pos 400) ∷ (pos 0) ∷ [])) (member (codes "forbid") (listed ((numbers ((pos 0) ∷
    (pos 1) ∷ [])) ∷ [])) (member (codes "name") (string (codes "BOW1")) (member (codes "rated")
    (integer (pos 2000)) (member (codes "ring") (listed ((numbers ((pos 0) ∷ (negsuc 199) ∷ [])) ∷
    (numbers ((pos 0) ∷ (pos 200) ∷ [])) ∷ [])) (member (codes "section") (string (codes "A"))
    (member (codes "selected") (boolean true) (member (codes "thresholds") (numbers ((pos 25) ∷
    (pos 50) ∷ (pos 75) ∷ (pos 100) ∷ [])) (no_members)))))))))) ∷ (table (member (codes "at")
    (numbers ((pos 360) ∷ (pos 0) ∷ [])) (member (codes "name") (string (codes "BOW2")) (member
    (codes "rated") (integer (pos 2000)) (member (codes "ring") (listed ((numbers ((pos 0) ∷
    (negsuc 199) ∷ [])) ∷ (numbers ((pos 0) ∷ (pos 200) ∷ [])) ∷ [])) (member (codes "section")
    (string (codes "B")) (member (codes "selected") (boolean true) (member (codes "thresholds")
    (numbers ((pos 25) ∷ (pos 50) ∷ (pos 75) ∷ (pos 100) ∷ [])) (no_members))))))))) ∷ (table
    (member (codes "at") (numbers ((negsuc 399) ∷ (negsuc 99) ∷ [])) (member (codes "name")
    (string (codes "PORT")) (member (codes "rated") (integer (pos 2000)) (member (codes "ring")
    (listed ((numbers ((pos 400) ∷ (pos 0) ∷ [])) ∷ (numbers ((pos 0) ∷ (pos 400) ∷ [])) ∷
    (numbers ((negsuc 399) ∷ (pos 0) ∷ [])) ∷ (numbers ((pos 0) ∷ (negsuc 399) ∷ [])) ∷ []))
    (member (codes "section") (string (codes "A")) (member (codes "selected") (boolean true)
    (member (codes "thresholds") (numbers ((pos 25) ∷ (pos 50) ∷ (pos 75) ∷ (pos 100) ∷ []))
    (no_members))))))))) ∷ (table (member (codes "at") (numbers ((negsuc 399) ∷ (pos 100) ∷ []))
    (member (codes "name") (string (codes "STBD")) (member (codes "rated") (integer (pos 2000))
    (member (codes "ring") (listed ((numbers ((pos 400) ∷ (pos 0) ∷ [])) ∷ (numbers ((pos 0) ∷
    (pos 400) ∷ [])) ∷ (numbers ((negsuc 399) ∷ (pos 0) ∷ [])) ∷ (numbers ((pos 0) ∷ (negsuc 399)
    ∷ [])) ∷ [])) (member (codes "section") (string (codes "B")) (member (codes "selected")
    (boolean true) (member (codes "thresholds") (numbers ((pos 25) ∷ (pos 50) ∷ (pos 75) ∷ (pos
    100) ∷ [])) (no_members))))))))) ∷ [])) (member (codes "tie") demo_tie (member (codes "wind")
    demo_wind (no_members)))))))))))) ≡ Err (SectorBad 0)
a_tunnel_with_a_sector = refl

a_barred_piece_that_is_not_there : judged (all_faults (member (codes "band") demo_band (member
    (codes "controller") demo_controller (member (codes "format") (integer (pos 2)) (member (codes
    "generator") demo_generator (member (codes "group") demo_group (member (codes "name")
    demo_name (member (codes "section") demo_section (member (codes "thruster") (listed ((table
    (member (codes "at") (numbers ((pos 400) ∷ (pos 0) ∷ [])) (member (codes "name") (string
    (codes "BOW1")) (member (codes "rated") (integer (pos 2000)) (member (codes "ring") (listed
    ((numbers ((pos 0) ∷ (negsuc 199) ∷ [])) ∷ (numbers ((pos 0) ∷ (pos 200) ∷ [])) ∷ [])) (member
    (codes "section") (string (codes "A")) (member (codes "selected") (boolean true) (member
    (codes "thresholds") (numbers ((pos 25) ∷ (pos 50) ∷ (pos 75) ∷ (pos 100) ∷ []))
    (no_members))))))))) ∷ (table (member (codes "at") (numbers ((pos 360) ∷ (pos 0) ∷ []))
    (member (codes "name") (string (codes "BOW2")) (member (codes "rated") (integer (pos 2000))
    (member (codes "ring") (listed ((numbers ((pos 0) ∷ (negsuc 199) ∷ [])) ∷ (numbers ((pos 0) ∷
    (pos 200) ∷ [])) ∷ [])) (member (codes "section") (string (codes "B")) (member (codes
    "selected") (boolean true) (member (codes "thresholds") (numbers ((pos 25) ∷ (pos 50) ∷ (pos
    75) ∷ (pos 100) ∷ [])) (no_members))))))))) ∷ (table (member (codes "at") (numbers ((negsuc
    399) ∷ (negsuc 99) ∷ [])) (member (codes "barred") (numbers ((pos 2) ∷ [])) (member (codes
    "name") (string (codes "PORT")) (member (codes "rated") (integer (pos 2000)) (member (codes
    "ring") (listed ((numbers ((pos 400) ∷ (pos 0) ∷ [])) ∷ (numbers ((pos 0) ∷ (pos 400) ∷ [])) ∷
    (numbers ((negsuc 399) ∷ (pos 0) ∷ [])) ∷ (numbers ((pos 0) ∷ (negsuc 399) ∷ [])) ∷ []))
    (member (codes "section") (string (codes "A")) (member (codes "selected") (boolean true)
    (member (codes "thresholds") (numbers ((pos 25) ∷ (pos 50) ∷ (pos 75) ∷ (pos 100) ∷ []))
    (no_members)))))))))) ∷ (table (member (codes "at") (numbers ((negsuc 399) ∷ (pos 100) ∷ []))
    (member (codes "name") (string (codes "STBD")) (member (codes "rated") (integer (pos 2000))
    (member (codes "ring") (listed ((numbers ((pos 400) ∷ (pos 0) ∷ [])) ∷ (numbers ((pos 0) ∷
    (pos 400) ∷ [])) ∷ (numbers ((negsuc 399) ∷ (pos 0) ∷ [])) ∷ (numbers ((pos 0) ∷ (negsuc 399)
    ∷ [])) ∷ [])) (member (codes "section") (string (codes "B")) (member (codes "selected")
    (boolean true) (member (codes "thresholds") (numbers ((pos 25) ∷ (pos 50) ∷ (pos 75) ∷ (pos
    100) ∷ [])) (no_members))))))))) ∷ [])) (member (codes "tie") demo_tie (member (codes "wind")
    demo_wind (no_members)))))))))))) ≡ Err (PieceBad 2)
a_barred_piece_that_is_not_there = refl

a_barred_piece : judged (all_faults (member (codes "band") demo_band (member (codes "controller")
    demo_controller (member (codes "format") (integer (pos 2)) (member (codes "generator")
    demo_generator (member (codes "group") demo_group (member (codes "name") demo_name (member
    (codes "section") demo_section (member (codes "thruster") (listed ((table (member (codes "at")
    (numbers ((pos 400) ∷ (pos 0) ∷ [])) (member (codes "name") (string (codes "BOW1")) (member
    (codes "rated") (integer (pos 2000)) (member (codes "ring") (listed ((numbers ((pos 0) ∷
    (negsuc 199) ∷ [])) ∷ (numbers ((pos 0) ∷ (pos 200) ∷ [])) ∷ [])) (member (codes "section")
    (string (codes "A")) (member (codes "selected") (boolean true) (member (codes "thresholds")
    (numbers ((pos 25) ∷ (pos 50) ∷ (pos 75) ∷ (pos 100) ∷ [])) (no_members))))))))) ∷ (table
    (member (codes "at") (numbers ((pos 360) ∷ (pos 0) ∷ [])) (member (codes "name") (string
    (codes "BOW2")) (member (codes "rated") (integer (pos 2000)) (member (codes "ring") (listed
    ((numbers ((pos 0) ∷ (negsuc 199) ∷ [])) ∷ (numbers ((pos 0) ∷ (pos 200) ∷ [])) ∷ [])) (member
    (codes "section") (string (codes "B")) (member (codes "selected") (boolean true) (member
    (codes "thresholds") (numbers ((pos 25) ∷ (pos 50) ∷ (pos 75) ∷ (pos 100) ∷ []))
    (no_members))))))))) ∷ (table (member (codes "at") (numbers ((negsuc 399) ∷ (negsuc 99) ∷ []))
    (member (codes "barred") (numbers ((pos 1) ∷ [])) (member (codes "name") (string (codes
    "PORT")) (member (codes "rated") (integer (pos 2000)) (member (codes "ring") (listed ((numbers
    ((pos 400) ∷ (pos 0) ∷ [])) ∷ (numbers ((pos 0) ∷ (pos 400) ∷ [])) ∷ (numbers ((negsuc 399) ∷
    (pos 0) ∷ [])) ∷ (numbers ((pos 0) ∷ (negsuc 399) ∷ [])) ∷ [])) (member (codes "section")
    (string (codes "A")) (member (codes "selected") (boolean true) (member (codes "thresholds")
    (numbers ((pos 25) ∷ (pos 50) ∷ (pos 75) ∷ (pos 100) ∷ [])) (no_members)))))))))) ∷ (table
    (member (codes "at") (numbers ((negsuc 399) ∷ (pos 100) ∷ [])) (member (codes "name") (string
    (codes "STBD")) (member (codes "rated") (integer (pos 2000)) (member (codes "ring") (listed
    ((numbers ((pos 400) ∷ (pos 0) ∷ [])) ∷ (numbers ((pos 0) ∷ (pos 400) ∷ [])) ∷ (numbers
    ((negsuc 399) ∷ (pos 0) ∷ [])) ∷ (numbers ((pos 0) ∷ (negsuc 399) ∷ [])) ∷ [])) (member (codes
    "section") (string (codes "B")) (member (codes "selected") (boolean true) (member (codes
    "thresholds") (numbers ((pos 25) ∷ (pos 50) ∷ (pos 75) ∷ (pos 100) ∷ [])) (no_members)))))))))
    ∷ [])) (member (codes "tie") demo_tie (member (codes "wind") demo_wind (no_members))))))))))))
    ≡ Ok tt
a_barred_piece = refl

a_barred_piece_in_format_1 : judged (all_faults (member (codes "band") demo_band (member (codes
    "controller") demo_controller (member (codes "format") demo_format (member (codes "generator")
    demo_generator (member (codes "group") demo_group (member (codes "name") demo_name (member
    (codes "section") demo_section (member (codes "thruster") (listed ((table (member (codes "at")
    (numbers ((pos 400) ∷ (pos 0) ∷ [])) (member (codes "name") (string (codes "BOW1")) (member
    (codes "rated") (integer (pos 2000)) (member (codes "ring") (listed ((numbers ((pos 0) ∷
    (negsuc 199) ∷ [])) ∷ (numbers ((pos 0) ∷ (pos 200) ∷ [])) ∷ [])) (member (codes "section")
    (string (codes "A")) (member (codes "selected") (boolean true) (member (codes "thresholds")
    (numbers ((pos 25) ∷ (pos 50) ∷ (pos 75) ∷ (pos 100) ∷ [])) (no_members))))))))) ∷ (table
    (member (codes "at") (numbers ((pos 360) ∷ (pos 0) ∷ [])) (member (codes "name") (string
    (codes "BOW2")) (member (codes "rated") (integer (pos 2000)) (member (codes "ring") (listed
    ((numbers ((pos 0) ∷ (negsuc 199) ∷ [])) ∷ (numbers ((pos 0) ∷ (pos 200) ∷ [])) ∷ [])) (member
    (codes "section") (string (codes "B")) (member (codes "selected") (boolean true) (member
    (codes "thresholds") (numbers ((pos 25) ∷ (pos 50) ∷ (pos 75) ∷ (pos 100) ∷ []))
    (no_members))))))))) ∷ (table (member (codes "at") (numbers ((negsuc 399) ∷ (negsuc 99) ∷ []))
    (member (codes "barred") (numbers ((pos 1) ∷ [])) (member (codes "name") (string (codes
    "PORT")) (member (codes "rated") (integer (pos 2000)) (member (codes "ring") (listed ((numbers
    ((pos 400) ∷ (pos 0) ∷ [])) ∷ (numbers ((pos 0) ∷ (pos 400) ∷ [])) ∷ (numbers ((negsuc 399) ∷
    (pos 0) ∷ [])) ∷ (numbers ((pos 0) ∷ (negsuc 399) ∷ [])) ∷ [])) (member (codes "section")
    (string (codes "A")) (member (codes "selected") (boolean true) (member (codes "thresholds")
    (numbers ((pos 25) ∷ (pos 50) ∷ (pos 75) ∷ (pos 100) ∷ [])) (no_members)))))))))) ∷ (table
    (member (codes "at") (numbers ((negsuc 399) ∷ (pos 100) ∷ [])) (member (codes "name") (string
    (codes "STBD")) (member (codes "rated") (integer (pos 2000)) (member (codes "ring") (listed
    ((numbers ((pos 400) ∷ (pos 0) ∷ [])) ∷ (numbers ((pos 0) ∷ (pos 400) ∷ [])) ∷ (numbers
    ((negsuc 399) ∷ (pos 0) ∷ [])) ∷ (numbers ((pos 0) ∷ (negsuc 399) ∷ [])) ∷ [])) (member (codes
    "section") (string (codes "B")) (member (codes "selected") (boolean true) (member (codes
    "thresholds") (numbers ((pos 25) ∷ (pos 50) ∷ (pos 75) ∷ (pos 100) ∷ [])) (no_members)))))))))
    ∷ [])) (member (codes "tie") demo_tie (member (codes "wind") demo_wind (no_members))))))))))))
    ≡ Err (UnknownKey (path_to part.Thruster 2 key.Whole))
a_barred_piece_in_format_1 = refl

six_azimuths : judged (all_faults (member (codes "band") demo_band (member (codes "controller")
    demo_controller (member (codes "format") demo_format (member (codes "generator")
    demo_generator (member (codes "group") demo_group (member (codes "name") demo_name (member
    (codes "section") demo_section (member (codes "thruster") (listed ((table (member (codes "at")
    (numbers ((negsuc 399) ∷ (negsuc 99) ∷ [])) (member (codes "name") (string (codes "AZ0"))
    (member (codes "rated") (integer (pos 2000)) (member (codes "ring") (listed ((numbers ((pos
    400) ∷ (pos 0) ∷ [])) ∷ (numbers ((pos 0) ∷ (pos 400) ∷ [])) ∷ (numbers ((negsuc 399) ∷ (pos
    0) ∷ [])) ∷ (numbers ((pos 0) ∷ (negsuc 399) ∷ [])) ∷ [])) (member (codes "section") (string
    (codes "A")) (member (codes "selected") (boolean true) (member (codes "thresholds") (numbers
    ((pos 25) ∷ (pos 50) ∷ (pos 75) ∷ (pos 100) ∷ [])) (no_members))))))))) ∷ (table (member
    (codes "at") (numbers ((negsuc 399) ∷ (negsuc 99) ∷ [])) (member (codes "name") (string (codes
    "AZ1")) (member (codes "rated") (integer (pos 2000)) (member (codes "ring") (listed ((numbers
    ((pos 400) ∷ (pos 0) ∷ [])) ∷ (numbers ((pos 0) ∷ (pos 400) ∷ [])) ∷ (numbers ((negsuc 399) ∷
    (pos 0) ∷ [])) ∷ (numbers ((pos 0) ∷ (negsuc 399) ∷ [])) ∷ [])) (member (codes "section")
    (string (codes "A")) (member (codes "selected") (boolean true) (member (codes "thresholds")
    (numbers ((pos 25) ∷ (pos 50) ∷ (pos 75) ∷ (pos 100) ∷ [])) (no_members))))))))) ∷ (table
    (member (codes "at") (numbers ((negsuc 399) ∷ (negsuc 99) ∷ [])) (member (codes "name")
    (string (codes "AZ2")) (member (codes "rated") (integer (pos 2000)) (member (codes "ring")
    (listed ((numbers ((pos 400) ∷ (pos 0) ∷ [])) ∷ (numbers ((pos 0) ∷ (pos 400) ∷ [])) ∷
    (numbers ((negsuc 399) ∷ (pos 0) ∷ [])) ∷ (numbers ((pos 0) ∷ (negsuc 399) ∷ [])) ∷ []))
    (member (codes "section") (string (codes "A")) (member (codes "selected") (boolean true)
    (member (codes "thresholds") (numbers ((pos 25) ∷ (pos 50) ∷ (pos 75) ∷ (pos 100) ∷ []))
    (no_members))))))))) ∷ (table (member (codes "at") (numbers ((negsuc 399) ∷ (negsuc 99) ∷ []))
    (member (codes "name") (string (codes "AZ3")) (member (codes "rated") (integer (pos 2000))
    (member (codes "ring") (listed ((numbers ((pos 400) ∷ (pos 0) ∷ [])) ∷ (numbers ((pos 0) ∷
    (pos 400) ∷ [])) ∷ (numbers ((negsuc 399) ∷ (pos 0) ∷ [])) ∷ (numbers ((pos 0) ∷ (negsuc 399)
    ∷ [])) ∷ [])) (member (codes "section") (string (codes "A")) (member (codes "selected")
    (boolean true) (member (codes "thresholds") (numbers ((pos 25) ∷ (pos 50) ∷ (pos 75) ∷ (pos
    100) ∷ [])) (no_members))))))))) ∷ (table (member (codes "at") (numbers ((negsuc 399) ∷
    (negsuc 99) ∷ [])) (member (codes "name") (string (codes "AZ4")) (member (codes "rated")
    (integer (pos 2000)) (member (codes "ring") (listed ((numbers ((pos 400) ∷ (pos 0) ∷ [])) ∷
    (numbers ((pos 0) ∷ (pos 400) ∷ [])) ∷ (numbers ((negsuc 399) ∷ (pos 0) ∷ [])) ∷ (numbers
    ((pos 0) ∷ (negsuc 399) ∷ [])) ∷ [])) (member (codes "section") (string (codes "A")) (member
    (codes "selected") (boolean true) (member (codes "thresholds") (numbers ((pos 25) ∷ (pos 50) ∷
    (pos 75) ∷ (pos 100) ∷ [])) (no_members))))))))) ∷ (table (member (codes "at") (numbers
    ((negsuc 399) ∷ (negsuc 99) ∷ [])) (member (codes "name") (string (codes "AZ5")) (member
    (codes "rated") (integer (pos 2000)) (member (codes "ring") (listed ((numbers ((pos 400) ∷
    (pos 0) ∷ [])) ∷ (numbers ((pos 0) ∷ (pos 400) ∷ [])) ∷ (numbers ((negsuc 399) ∷ (pos 0) ∷
    [])) ∷ (numbers ((pos 0) ∷ (negsuc 399) ∷ [])) ∷ [])) (member (codes "section") (string (codes
    "A")) (member (codes "selected") (boolean true) (member (codes "thresholds") (numbers ((pos
    25) ∷ (pos 50) ∷ (pos 75) ∷ (pos 100) ∷ [])) (no_members))))))))) ∷ [])) (member (codes "tie")
    demo_tie (member (codes "wind") demo_wind (no_members)))))))))))) ≡ Ok tt
six_azimuths = refl

seven_azimuths : judged (all_faults (member (codes "band") demo_band (member (codes "controller")
    demo_controller (member (codes "format") demo_format (member (codes "generator")
    demo_generator (member (codes "group") demo_group (member (codes "name") demo_name (member
    (codes "section") demo_section (member (codes "thruster") (listed ((table (member (codes "at")
    (numbers ((negsuc 399) ∷ (negsuc 99) ∷ [])) (member (codes "name") (string (codes "AZ0"))
    (member (codes "rated") (integer (pos 2000)) (member (codes "ring") (listed ((numbers ((pos
    400) ∷ (pos 0) ∷ [])) ∷ (numbers ((pos 0) ∷ (pos 400) ∷ [])) ∷ (numbers ((negsuc 399) ∷ (pos
    0) ∷ [])) ∷ (numbers ((pos 0) ∷ (negsuc 399) ∷ [])) ∷ [])) (member (codes "section") (string
    (codes "A")) (member (codes "selected") (boolean true) (member (codes "thresholds") (numbers
    ((pos 25) ∷ (pos 50) ∷ (pos 75) ∷ (pos 100) ∷ [])) (no_members))))))))) ∷ (table (member
    (codes "at") (numbers ((negsuc 399) ∷ (negsuc 99) ∷ [])) (member (codes "name") (string (codes
    "AZ1")) (member (codes "rated") (integer (pos 2000)) (member (codes "ring") (listed ((numbers
    ((pos 400) ∷ (pos 0) ∷ [])) ∷ (numbers ((pos 0) ∷ (pos 400) ∷ [])) ∷ (numbers ((negsuc 399) ∷
    (pos 0) ∷ [])) ∷ (numbers ((pos 0) ∷ (negsuc 399) ∷ [])) ∷ [])) (member (codes "section")
    (string (codes "A")) (member (codes "selected") (boolean true) (member (codes "thresholds")
    (numbers ((pos 25) ∷ (pos 50) ∷ (pos 75) ∷ (pos 100) ∷ [])) (no_members))))))))) ∷ (table
    (member (codes "at") (numbers ((negsuc 399) ∷ (negsuc 99) ∷ [])) (member (codes "name")
    (string (codes "AZ2")) (member (codes "rated") (integer (pos 2000)) (member (codes "ring")
    (listed ((numbers ((pos 400) ∷ (pos 0) ∷ [])) ∷ (numbers ((pos 0) ∷ (pos 400) ∷ [])) ∷
    (numbers ((negsuc 399) ∷ (pos 0) ∷ [])) ∷ (numbers ((pos 0) ∷ (negsuc 399) ∷ [])) ∷ []))
    (member (codes "section") (string (codes "A")) (member (codes "selected") (boolean true)
    (member (codes "thresholds") (numbers ((pos 25) ∷ (pos 50) ∷ (pos 75) ∷ (pos 100) ∷ []))
    (no_members))))))))) ∷ (table (member (codes "at") (numbers ((negsuc 399) ∷ (negsuc 99) ∷ []))
    (member (codes "name") (string (codes "AZ3")) (member (codes "rated") (integer (pos 2000))
    (member (codes "ring") (listed ((numbers ((pos 400) ∷ (pos 0) ∷ [])) ∷ (numbers ((pos 0) ∷
    (pos 400) ∷ [])) ∷ (numbers ((negsuc 399) ∷ (pos 0) ∷ [])) ∷ (numbers ((pos 0) ∷ (negsuc 399)
    ∷ [])) ∷ [])) (member (codes "section") (string (codes "A")) (member (codes "selected")
    (boolean true) (member (codes "thresholds") (numbers ((pos 25) ∷ (pos 50) ∷ (pos 75) ∷ (pos
    100) ∷ [])) (no_members))))))))) ∷ (table (member (codes "at") (numbers ((negsuc 399) ∷
    (negsuc 99) ∷ [])) (member (codes "name") (string (codes "AZ4")) (member (codes "rated")
    (integer (pos 2000)) (member (codes "ring") (listed ((numbers ((pos 400) ∷ (pos 0) ∷ [])) ∷
    (numbers ((pos 0) ∷ (pos 400) ∷ [])) ∷ (numbers ((negsuc 399) ∷ (pos 0) ∷ [])) ∷ (numbers
    ((pos 0) ∷ (negsuc 399) ∷ [])) ∷ [])) (member (codes "section") (string (codes "A")) (member
    (codes "selected") (boolean true) (member (codes "thresholds") (numbers ((pos 25) ∷ (pos 50) ∷
    (pos 75) ∷ (pos 100) ∷ [])) (no_members))))))))) ∷ (table (member (codes "at") (numbers
    ((negsuc 399) ∷ (negsuc 99) ∷ [])) (member (codes "name") (string (codes "AZ5")) (member
    (codes "rated") (integer (pos 2000)) (member (codes "ring") (listed ((numbers ((pos 400) ∷
    (pos 0) ∷ [])) ∷ (numbers ((pos 0) ∷ (pos 400) ∷ [])) ∷ (numbers ((negsuc 399) ∷ (pos 0) ∷
    [])) ∷ (numbers ((pos 0) ∷ (negsuc 399) ∷ [])) ∷ [])) (member (codes "section") (string (codes
    "A")) (member (codes "selected") (boolean true) (member (codes "thresholds") (numbers ((pos
    25) ∷ (pos 50) ∷ (pos 75) ∷ (pos 100) ∷ [])) (no_members))))))))) ∷ (table (member (codes
    "at") (numbers ((negsuc 399) ∷ (negsuc 99) ∷ [])) (member (codes "name") (string (codes
    "AZ6")) (member (codes "rated") (integer (pos 2000)) (member (codes "ring") (listed ((numbers
    ((pos 400) ∷ (pos 0) ∷ [])) ∷ (numbers ((pos 0) ∷ (pos 400) ∷ [])) ∷ (numbers ((negsuc 399) ∷
    (pos 0) ∷ [])) ∷ (numbers ((pos 0) ∷ (negsuc 399) ∷ [])) ∷ [])) (member (codes "section")
    (string (codes "A")) (member (codes "selected") (boolean true) (member (codes "thresholds")
    (numbers ((pos 25) ∷ (pos 50) ∷ (pos 75) ∷ (pos 100) ∷ [])) (no_members))))))))) ∷ []))
    (member (codes "tie") demo_tie (member (codes "wind") demo_wind (no_members)))))))))))) ≡ Err
    (TooManyChoices)
seven_azimuths = refl

sixteen_groups_in_format_1 : judged (all_faults (member (codes "band") demo_band (member (codes
    "controller") demo_controller (member (codes "format") demo_format (member (codes "generator")
    demo_generator (member (codes "group") (listed ((table (member (codes "members") (listed
    ((string (codes "A")) ∷ [])) (member (codes "name") (string (codes "G0")) (no_members)))) ∷
    (table (member (codes "members") (listed ((string (codes "A")) ∷ [])) (member (codes "name")
    (string (codes "G1")) (no_members)))) ∷ (table (member (codes "members") (listed ((string
    (codes "A")) ∷ [])) (member (codes "name") (string (codes "G2")) (no_members)))) ∷ (table
    (member (codes "members") (listed ((string (codes "A")) ∷ [])) (member (codes "name") (string
    (codes "G3")) (no_members)))) ∷ (table (member (codes "members") (listed ((string (codes "A"))
    ∷ [])) (member (codes "name") (string (codes "G4")) (no_members)))) ∷ (table (member (codes
    "members") (listed ((string (codes "A")) ∷ [])) (member (codes "name") (string (codes "G5"))
    (no_members)))) ∷ (table (member (codes "members") (listed ((string (codes "A")) ∷ []))
    (member (codes "name") (string (codes "G6")) (no_members)))) ∷ (table (member (codes
    "members") (listed ((string (codes "A")) ∷ [])) (member (codes "name") (string (codes "G7"))
    (no_members)))) ∷ (table (member (codes "members") (listed ((string (codes "A")) ∷ []))
    (member (codes "name") (string (codes "G8")) (no_members)))) ∷ (table (member (codes
    "members") (listed ((string (codes "A")) ∷ [])) (member (codes "name") (string (codes "G9"))
    (no_members)))) ∷ (table (member (codes "members") (listed ((string (codes "A")) ∷ []))
    (member (codes "name") (string (codes "G10")) (no_members)))) ∷ (table (member (codes
    "members") (listed ((string (codes "A")) ∷ [])) (member (codes "name") (string (codes "G11"))
    (no_members)))) ∷ (table (member (codes "members") (listed ((string (codes "A")) ∷ []))
    (member (codes "name") (string (codes "G12")) (no_members)))) ∷ (table (member (codes
    "members") (listed ((string (codes "A")) ∷ [])) (member (codes "name") (string (codes "G13"))
    (no_members)))) ∷ (table (member (codes "members") (listed ((string (codes "A")) ∷ []))
    (member (codes "name") (string (codes "G14")) (no_members)))) ∷ (table (member (codes
    "members") (listed ((string (codes "A")) ∷ [])) (member (codes "name") (string (codes "G15"))
    (no_members)))) ∷ [])) (member (codes "name") demo_name (member (codes "section") demo_section
    (member (codes "thruster") demo_thruster (member (codes "tie") demo_tie (member (codes "wind")
    demo_wind (no_members)))))))))))) ≡ Err (OutOfLimit (path_to part.Group 8 key.Whole))
sixteen_groups_in_format_1 = refl

sixteen_groups : judged (all_faults (member (codes "band") demo_band (member (codes "controller")
    demo_controller (member (codes "format") (integer (pos 2)) (member (codes "generator")
    demo_generator (member (codes "group") (listed ((table (member (codes "members") (listed
    ((string (codes "A")) ∷ [])) (member (codes "name") (string (codes "G0")) (no_members)))) ∷
    (table (member (codes "members") (listed ((string (codes "A")) ∷ [])) (member (codes "name")
    (string (codes "G1")) (no_members)))) ∷ (table (member (codes "members") (listed ((string
    (codes "A")) ∷ [])) (member (codes "name") (string (codes "G2")) (no_members)))) ∷ (table
    (member (codes "members") (listed ((string (codes "A")) ∷ [])) (member (codes "name") (string
    (codes "G3")) (no_members)))) ∷ (table (member (codes "members") (listed ((string (codes "A"))
    ∷ [])) (member (codes "name") (string (codes "G4")) (no_members)))) ∷ (table (member (codes
    "members") (listed ((string (codes "A")) ∷ [])) (member (codes "name") (string (codes "G5"))
    (no_members)))) ∷ (table (member (codes "members") (listed ((string (codes "A")) ∷ []))
    (member (codes "name") (string (codes "G6")) (no_members)))) ∷ (table (member (codes
    "members") (listed ((string (codes "A")) ∷ [])) (member (codes "name") (string (codes "G7"))
    (no_members)))) ∷ (table (member (codes "members") (listed ((string (codes "A")) ∷ []))
    (member (codes "name") (string (codes "G8")) (no_members)))) ∷ (table (member (codes
    "members") (listed ((string (codes "A")) ∷ [])) (member (codes "name") (string (codes "G9"))
    (no_members)))) ∷ (table (member (codes "members") (listed ((string (codes "A")) ∷ []))
    (member (codes "name") (string (codes "G10")) (no_members)))) ∷ (table (member (codes
    "members") (listed ((string (codes "A")) ∷ [])) (member (codes "name") (string (codes "G11"))
    (no_members)))) ∷ (table (member (codes "members") (listed ((string (codes "A")) ∷ []))
    (member (codes "name") (string (codes "G12")) (no_members)))) ∷ (table (member (codes
    "members") (listed ((string (codes "A")) ∷ [])) (member (codes "name") (string (codes "G13"))
    (no_members)))) ∷ (table (member (codes "members") (listed ((string (codes "A")) ∷ []))
    (member (codes "name") (string (codes "G14")) (no_members)))) ∷ (table (member (codes
    "members") (listed ((string (codes "A")) ∷ [])) (member (codes "name") (string (codes "G15"))
    (no_members)))) ∷ [])) (member (codes "name") demo_name (member (codes "section") demo_section
    (member (codes "thruster") demo_thruster (member (codes "tie") demo_tie (member (codes "wind")
    demo_wind (no_members)))))))))))) ≡ Ok tt
sixteen_groups = refl
