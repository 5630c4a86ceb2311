-- What a key may hold: its kind, and the limits of its numbers, counts and names.
use Rattle.std.specs.Prelude.{ℕ, ℤ, pos, int_le, List, length, map, Bool, true, false, not, ◌&&◌}
use Rattle.std.specs.Prelude.{◌||◌, ◌==◌, nat_le, neg_ℤ, ◌-◌}
use Rattle.std.specs.List.{list_all}
use Rattle.plant_model.specs.Names.{is_name}
use Rattle.plant_model.specs.Plants.{is_wind_row, are_thresholds_from}
use Rattle.plant_model.specs.Rings.{is_ring_point}
use Rattle.plant_model.specs.declared.controller.WindRow.{WindRow}
use Rattle.plant_model.specs.declared.limits.TheConstants.{AXES, FEWEST_RING_POINTS}
use Rattle.plant_model.specs.declared.limits.TheConstants.{MOST_RING_POINTS, MOST_SECTORS}
use Rattle.plant_model.specs.declared.limits.TheConstants.{THRESHOLDS, WIND_ROWS}
use Rattle.plant_model.specs.declared.thrust.Point.{Point}
use Rattle.toml.specs.Data.{Data, array}
use Rattle.plant_file.specs.Documents.{elements, list_in, is_whole, is_text, is_truth, number_in}
use Rattle.plant_file.specs.Documents.{number_at, text_in, natural}
use Rattle.plant_file.specs.declared.kind.Count.{Count}
use Rattle.plant_file.specs.declared.kind.Span.{Span}
use Rattle.plant_file.specs.declared.kind.Kind.{Kind}
use Rattle.plant_file.specs.declared.kind.Kind.TheVariants.{Whole, Name, Truth, Texts, Wholes}
use Rattle.plant_file.specs.declared.kind.Kind.TheVariants.{Thresholds, Wind, Ring, Sectors}

abbrev pub exactly : ℕ → Count
exactly n = record { fewest = n; most = n }

abbrev pub from_to : ℕ → ℕ → Count
from_to fewest most = record { fewest = fewest; most = most }

abbrev pub span : ℤ → ℤ → Span
span least most = record { least = least; most = most }

-- at most so far from 0, either way
abbrev pub within : ℤ → Span
within most = span (neg_ℤ most) most

-- as many as the count says, where that is one number
abbrev pub has_fixed_length : Count → List Data → Bool
has_fixed_length count ds = not (count.fewest == count.most) || length ds == count.most

-- a list, of the right length where that is fixed
abbrev pub is_list : Count → Data → Bool
is_list count (array ds) = has_fixed_length count (elements ds)
is_list count _ = false

-- a list whose elements are whole numbers
abbrev pub is_list_of_wholes : Count → Data → Bool
is_list_of_wholes count d = is_list count d && list_all is_whole (list_in d)

-- the same of lists whose elements are whole numbers, so many in each
abbrev pub is_list_of_rows : Count → Count → Data → Bool
is_list_of_rows count width d = is_list count d && list_all (is_list_of_wholes width) (list_in d)

abbrev pub pair : Count
pair = exactly 2

abbrev pub ring_count : Count
ring_count = from_to FEWEST_RING_POINTS MOST_RING_POINTS

abbrev pub sectors_count : Count
sectors_count = from_to 0 MOST_SECTORS

-- a point and a sector are lists of two numbers
abbrev pub has_kind : Kind → Data → Bool
has_kind (Whole limits) d = is_whole d
has_kind Name d = is_text d
has_kind Truth d = is_truth d
has_kind (Texts count) d = is_list count d && list_all is_text (list_in d)
has_kind (Wholes count limits) d = is_list_of_wholes count d
has_kind Thresholds d = is_list_of_wholes (exactly THRESHOLDS) d
has_kind Wind d = is_list_of_rows (exactly WIND_ROWS) (exactly AXES) d
has_kind Ring d = is_list_of_rows ring_count pair d
has_kind Sectors d = is_list_of_rows sectors_count pair d

abbrev pub is_count : Count → List Data → Bool
is_count count ds = nat_le count.fewest (length ds) && nat_le (length ds) count.most

abbrev pub is_in : Span → Data → Bool
is_in limits d = int_le limits.least (number_in d) && int_le (number_in d) limits.most

abbrev pub point_in : Data → Point
point_in d = record { x = number_at 0 d; y = number_at 1 d }

abbrev pub wind_row_in : Data → WindRow
wind_row_in d = record { x = number_at 0 d; y = number_at 1 d; n = number_at 2 d }

-- a list of places that the longest ring has
abbrev pub are_places : Data → Bool
are_places d = list_all (is_in (span (pos 0) (pos (MOST_RING_POINTS - 1)))) (list_in d)

-- of a value of the kind: its numbers, counts and names keep their limits
abbrev pub keeps_limit : Kind → Data → Bool
keeps_limit (Whole limits) d = is_in limits d
keeps_limit Name d = is_name (text_in d)
keeps_limit Truth d = true
keeps_limit (Texts count) d = is_count count (list_in d)
keeps_limit (Wholes count limits) d =
    is_count count (list_in d) && list_all (is_in limits) (list_in d)
keeps_limit Thresholds d = are_thresholds_from 1 (map (λ e. natural (number_in e)) (list_in d))
keeps_limit Wind d = list_all (λ e. is_wind_row (wind_row_in e)) (list_in d)
keeps_limit Ring d =
    is_count ring_count (list_in d) && list_all (λ e. is_ring_point (point_in e)) (list_in d)
keeps_limit Sectors d = is_count sectors_count (list_in d) && list_all are_places (list_in d)
