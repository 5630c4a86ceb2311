-- The summary as a text of six lines.
use Rattle.std.specs.Prelude.{ℕ, List, [], ◌∷◌, ◌++◌, length, take, Bool, if◌then◌else◌, codes}
use Rattle.std.specs.Prelude.{decimal}
use Rattle.std.specs.Fmt.{signed_decimal}
use Rattle.std.specs.List.{flat_map}
use Rattle.frame.specs.Frames.{line_feed}
use Rattle.plant_model.specs.declared.plant.Parts.{Parts}
use Rattle.plant_model.specs.declared.status.Status.{Status}
use Rattle.plant_model.specs.declared.wrench.Wrench.{Wrench}
use Rattle.plant_core.specs.declared.call.Entry.{Entry}
use Rattle.drill_summary.specs.Summaries.{Summary, summary_of}

-- a text with the line feed that ends its line
abbrev pub line : List ℕ → List ℕ
line text = text ++ line_feed ∷ []

-- a word and three numbers
abbrev pub counts_line : List ℕ → ℕ → ℕ → ℕ → List ℕ
counts_line word one two three = line (word ++ codes "," ++ decimal one ++ codes ","
    ++ decimal two ++ codes "," ++ decimal three)

-- a digit for each of the first switches: 1 where it is on
abbrev pub digit_of : Bool → List ℕ
digit_of on = if on then codes "1" else codes "0"

abbrev pub digits_of : ℕ → List Bool → List ℕ
digits_of count switches = flat_map digit_of (take count switches)

-- the switches of the thrusters, the generators and the ties
abbrev pub status_line : Parts → Status → List ℕ
status_line plant status = line (codes "STATUS,"
    ++ digits_of (length plant.thrusters.items) status.selected ++ codes ","
    ++ digits_of (length plant.generators.items) status.running ++ codes ","
    ++ digits_of (length plant.ties.items) status.closed)

-- a demand along x, along y and in yaw
abbrev pub wrench_text : Wrench → List ℕ
wrench_text demand = signed_decimal demand.x ++ codes "," ++ signed_decimal demand.y
    ++ codes "," ++ signed_decimal demand.n

abbrev pub demand_line : Wrench → List ℕ
demand_line demand = line (codes "DEMAND," ++ wrench_text demand)

abbrev pub lines_of : Parts → Summary → List ℕ
lines_of plant summary =
    counts_line (codes "SENSORS") summary.sensors summary.commanded summary.late
    ++ counts_line (codes "OPERATORS") summary.operators summary.versions summary.same
    ++ status_line plant summary.status ++ demand_line summary.demand ++ line (codes "END")

-- the summary of a history of a drill of this seed and size
abbrev pub drill_text : ℕ → ℕ → Parts → List Entry → List ℕ
drill_text seed size plant history =
    line (codes "DRILL," ++ decimal seed ++ codes "," ++ decimal size)
    ++ lines_of plant (summary_of plant history)
