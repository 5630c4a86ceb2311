-- The plant that a document without faults describes.
use Rattle.std.specs.Prelude.{ℕ, ◌+◌, ◌-◌, ◌^◌, pos, List, [], ◌++◌, length, map, replicate, Bool}
use Rattle.std.specs.Prelude.{false, nat_lt, if◌then◌else◌, Option, option_map, option_and_then}
use Rattle.std.specs.Prelude.{unwrap_or, slice_get, sum}
use Rattle.std.specs.List.{flat_map, position_or_len}
use Rattle.std.specs.Str.{bytes_eq}
use Rattle.plant_model.specs.Rings.{cut}
use Rattle.plant_model.specs.declared.controller.Gains.{Gains}
use Rattle.plant_model.specs.declared.limits.TheConstants.{MOST_GENERATORS, MOST_THRUSTERS}
use Rattle.plant_model.specs.declared.limits.TheConstants.{MOST_TIES}
use Rattle.plant_model.specs.declared.parts.Generator.{Generator}
use Rattle.plant_model.specs.declared.parts.Group.{Group}
use Rattle.plant_model.specs.declared.parts.Member.{Member}
use Rattle.plant_model.specs.declared.parts.Member.TheVariants as member
use Rattle.plant_model.specs.declared.parts.Thruster.{Thruster}
use Rattle.plant_model.specs.declared.parts.Tie.{Tie}
use Rattle.plant_model.specs.declared.plant.Parts.{Parts}
use Rattle.plant_model.specs.declared.status.Status.{Status}
use Rattle.plant_model.specs.declared.thrust.Piece.{Piece}
use Rattle.plant_model.specs.declared.thrust.Point.{Point}
use Rattle.plant_model.specs.declared.thrust.Sector.{Sector}
use Rattle.toml.specs.Data.{Data, table, Members, no_members, as_table, get_member}
use Rattle.plant_file.specs.Documents.{list_in, natural, number_at, number_in, text_in, truth_in}
use Rattle.plant_file.specs.Faults.{elements_at}
use Rattle.plant_file.specs.Keys.{axes}
use Rattle.plant_file.specs.Kinds.{point_in, wind_row_in}
use Rattle.plant_file.specs.Texts.{axis_text, key_text, part_text}
use Rattle.plant_file.specs.declared.fault.Key.{Key}
use Rattle.plant_file.specs.declared.fault.Key.TheVariants as key
use Rattle.plant_file.specs.declared.fault.Part.{Part}
use Rattle.plant_file.specs.declared.fault.Part.TheVariants as part

-- what a key of a value holds, where the value is a table that has the key
abbrev pub held : Key → Data → Option Data
held key d = option_and_then (get_member (key_text key)) (as_table d)

abbrev pub text_at : Key → Data → List ℕ
text_at key d = unwrap_or (option_map text_in (held key d)) []

abbrev pub natural_at : Key → Data → ℕ
natural_at key d = unwrap_or (option_map (λ e. natural (number_in e)) (held key d)) 0

abbrev pub truth_at : Key → Data → Bool
truth_at key d = unwrap_or (option_map truth_in (held key d)) false

-- the elements of the list that a key holds; none where it is missing
abbrev pub list_at : Key → Data → List Data
list_at key d = unwrap_or (option_map list_in (held key d)) []

abbrev pub texts_at : Key → Data → List (List ℕ)
texts_at key d = map text_in (list_at key d)

abbrev pub naturals_at : Key → Data → List ℕ
naturals_at key d = map (λ e. natural (number_in e)) (list_at key d)

abbrev pub points_at : Key → Data → List Point
points_at key d = map point_in (list_at key d)

abbrev pub sector_in : Data → Sector
sector_in d = record { from = natural (number_at 0 d); to = natural (number_at 1 d) }

abbrev pub sectors_at : Key → Data → List Sector
sectors_at key d = map sector_in (list_at key d)

-- the names of the elements of a part
abbrev pub names_of : Part → Members → List (List ℕ)
names_of part doc = map (text_at key.Name) (elements_at part doc)

-- the names of the elements of some parts
abbrev pub names_of_parts : List Part → Members → List (List ℕ)
names_of_parts parts doc = flat_map (λ part. names_of part doc) parts

-- the names of all sections, ties, generators and thrusters
abbrev pub all_names : Members → List (List ℕ)
all_names doc =
    names_of part.Section doc ++ names_of part.Tie doc ++ names_of part.Generator doc
    ++ names_of part.Thruster doc

-- where a name stands in a list of names
abbrev pub number_of : List ℕ → List (List ℕ) → ℕ
number_of name names = position_or_len (bytes_eq name) names

abbrev pub section_of : Members → Data → ℕ
section_of doc d = number_of (text_at key.Section d) (names_of part.Section doc)

-- the part that a place among all names is, where there are so many sections, ties and generators
abbrev pub member_at : ℕ → ℕ → ℕ → ℕ → Member
member_at sections ties generators place =
    if nat_lt place sections then member.Section place
    else (if nat_lt place (sections + ties) then member.Tie (place - sections)
    else (if nat_lt place (sections + ties + generators)
    then member.Generator (place - (sections + ties))
    else member.Thruster (place - (sections + ties + generators))))

abbrev pub member_named : Members → List ℕ → Member
member_named doc name =
    member_at (length (names_of part.Section doc)) (length (names_of part.Tie doc))
    (length (names_of part.Generator doc)) (number_of name (all_names doc))

abbrev pub end_at : ℕ → Members → Data → ℕ
end_at place doc d =
    unwrap_or
    (option_map (λ text. number_of text (names_of part.Section doc))
    (slice_get (texts_at key.Ends d) place)) 0

abbrev pub tie_in : Members → Data → Tie
tie_in doc d = record { name = text_at key.Name d; first = end_at 0 doc d; second = end_at 1 doc d }

abbrev pub generator_in : Members → Data → Generator
generator_in doc d =
    record { name = text_at key.Name d; section = section_of doc d; power = natural_at key.Power d }

abbrev pub piece_of : List Point → Piece
piece_of points = record { points = record { items = points } }

-- the pieces of a thruster, each as its points
abbrev pub pieces_in : Data → List (List Point)
pieces_in d = cut (points_at key.Ring d) (sectors_at key.Forbid d)

-- a thruster with its name and the section that feeds it
abbrev pub thruster_from : List ℕ → ℕ → Data → Thruster
thruster_from name section d = record {
  name = name;
  section = section;
  lever = unwrap_or (option_map point_in (held key.At d)) (record { x = pos 0; y = pos 0 });
  rated = natural_at key.Rated d;
  thresholds = naturals_at key.Thresholds d;
  ring = record { points = record { items = points_at key.Ring d } };
  sectors = record { items = sectors_at key.Forbid d };
  pieces = record { list = record { items = map piece_of (pieces_in d) } };
  frozen = option_map point_in (held key.Frozen d);
}

abbrev pub thruster_in : Members → Data → Thruster
thruster_in doc d = thruster_from (text_at key.Name d) (section_of doc d) d

abbrev pub group_in : Members → Data → Group
group_in doc d =
    record {
      name = text_at key.Name d;
      members = record { items = map (member_named doc) (texts_at key.Members d) };
    }

-- a list made as long as n by elements at its end
abbrev pub filled : {A : Type 0} → ℕ → A → List A → List A
filled n x xs = xs ++ replicate (n - length xs) x

-- the mask whose bits stand at these places
abbrev pub mask_of : List ℕ → ℕ
mask_of places = sum (map (λ place. 2 ^ place) places)

-- how the parts stand when a session opens
abbrev pub opening_in : Members → Status
opening_in doc = record {
  selected =
      filled MOST_THRUSTERS false (map (truth_at key.Selected) (elements_at part.Thruster doc));
  running =
      filled MOST_GENERATORS false (map (truth_at key.Running) (elements_at part.Generator doc));
  closed = filled MOST_TIES false (map (truth_at key.Closed) (elements_at part.Tie doc));
  barred = filled MOST_THRUSTERS 0
      (map (λ d. mask_of (naturals_at key.Barred d)) (elements_at part.Thruster doc));
}

abbrev pub gains_in : Data → Gains
gains_in d =
    record {
      kp = natural_at key.Kp d;
      ki = natural_at key.Ki d;
      kd = natural_at key.Kd d;
      limit = natural_at key.Limit d;
    }

-- one of the controller's three tables
abbrev pub axis_in : Members → ℕ → Data
axis_in doc index =
    unwrap_or
    (option_and_then (λ d. option_and_then (get_member (axis_text index)) (as_table d))
    (get_member (part_text part.Controller) doc)) (table no_members)

abbrev pub parts_in : Members → Parts
parts_in doc =
    let top = table doc in
    record {
      name = text_at key.Name top;
      band = naturals_at key.Band top;
      gains = map (λ index. gains_in (axis_in doc index)) axes;
      wind = map wind_row_in (list_at key.Wind top);
      sections = record { items = names_of part.Section doc };
      ties = record { items = map (tie_in doc) (elements_at part.Tie doc) };
      generators = record { items = map (generator_in doc) (elements_at part.Generator doc) };
      thrusters = record { items = map (thruster_in doc) (elements_at part.Thruster doc) };
      groups = record { items = map (group_in doc) (elements_at part.Group doc) };
      opening = opening_in doc;
    }
