-- The text of how much of a demand, and how much wind, each loss leaves.
use Rattle.std.specs.Prelude.{ℕ, ◌+◌, ◌*◌, List, [], ◌∷◌, ◌++◌, Option, None, Some, codes}
use Rattle.std.specs.List.{flat_map, zip}
use Rattle.std.specs.Fmt.{decimal, signed_decimal}
use Rattle.std.specs.declared.cmp.Ordering.{Ordering}
use Rattle.std.specs.declared.cmp.Ordering.TheVariants.{Less}
use Rattle.dp_num.specs.Fractions.{order_of_quotients}
use Rattle.plant_model.specs.declared.parts.Group.{Group as Redundancy}
use Rattle.plant_model.specs.declared.plant.Parts.{Parts}
use Rattle.plant_model.specs.declared.status.Loss.{Loss}
use Rattle.plant_model.specs.declared.status.Loss.TheVariants.{Intact, Group}
use Rattle.plant_model.specs.declared.wrench.Wrench.{Wrench}
use Rattle.certificate.specs.declared.outcome.Outcome.{Outcome}
use Rattle.log_text.specs.Lines.{line}
use Rattle.log_text.specs.Outcomes.{outcome_text, wrench_text}
use Rattle.log_text.specs.Texts.{group_name}
use Rattle.capability.specs.declared.limit.Next.{Next}
use Rattle.capability.specs.declared.limit.Step.{Step}
use Rattle.capability.specs.declared.limit.Step.TheVariants.{Beyond, Lost}
use Rattle.capability.specs.declared.limit.WindLimit.{WindLimit}
use Rattle.capability.specs.declared.parts.Margin.{Margin}
use Rattle.capability.specs.declared.parts.Margin.TheVariants.{Any, Frozen, Least}
use Rattle.capability_report.specs.declared.margins.Left.{Left}
use Rattle.capability_report.specs.declared.margins.Margins.{Margins}
use Rattle.capability_report.specs.declared.margins.Worst.{Worst}

-- ---- the parts of a demand

abbrev pub margin_text : Margin → List ℕ
margin_text Any = codes "ANY"
margin_text Frozen = codes "FROZEN"
margin_text (Least part) = signed_decimal part.top ++ codes "," ++ signed_decimal part.bottom

abbrev pub head_line : Wrench → List ℕ
head_line demand = line (codes "CAPABILITY," ++ wrench_text demand)

abbrev pub intact_line : Margin → List ℕ
intact_line margin = line (codes "INTACT," ++ margin_text margin)

-- a group with what its loss leaves
abbrev pub reserve_line : Redundancy × Left → List ℕ
reserve_line of = line (codes "RESERVE," ++ of.0.name ++ codes "," ++ margin_text of.1.margin)

-- the second of two where it is the one that leaves less, and else the first
abbrev pub by_order : Ordering → Worst → Worst → Worst
by_order Less first second = second
by_order _ first second = first

-- the one that leaves less, and the first where neither does
abbrev pub lesser : Worst → Worst → Worst
lesser first second =
    by_order (order_of_quotients second.part.top second.part.bottom first.part.top first.part.bottom)
    first second

abbrev pub lesser_of : Worst → Option Worst → Worst
lesser_of first None = first
lesser_of first (Some second) = lesser first second

-- the worst of the groups after one, with this one before them
abbrev pub worst_with : ℕ → Margin → Option Worst → Option Worst
worst_with group Any rest = rest
worst_with group Frozen rest = rest
worst_with group (Least part) rest =
    Some (lesser_of (record { group = group; part = part }) rest)

-- of the groups from this one on, of whose losses these margins are left, the first that is left the
-- least part; none where no part is told
abbrev pub worst_from : ℕ → List Left → Option Worst
worst_from group [] = None
worst_from group (left ∷ others) = worst_with group left.margin (worst_from (group + 1) others)

abbrev pub worst_text : Parts → Option Worst → List ℕ
worst_text plant None = codes "NONE"
worst_text plant (Some worst) = group_name plant worst.group

abbrev pub worst_line : Parts → List Left → List ℕ
worst_line plant margins = line (codes "WORST," ++ worst_text plant (worst_from 0 margins))

-- the demand, what is left of it with nothing lost and after the loss of each group, and the worst
-- group
abbrev pub margin_lines : Parts → Wrench → Margins → List ℕ
margin_lines plant demand margins = head_line demand ++ intact_line margins.intact
    ++ flat_map reserve_line (zip plant.groups.items margins.groups.items)
    ++ worst_line plant margins.groups.items

-- ---- the wind

abbrev pub loss_text : Parts → Loss → List ℕ
loss_text plant Intact = codes "INTACT"
loss_text plant (Group group) = codes "GROUP," ++ group_name plant group

abbrev pub speed_text : Option ℕ → List ℕ
speed_text None = codes "NONE"
speed_text (Some speed) = decimal speed

abbrev pub next_loss_text : Parts → Option Next → List ℕ
next_loss_text plant None = codes "NONE"
next_loss_text plant (Some next) = loss_text plant next.loss

abbrev pub wind_line : Parts → ℕ → WindLimit → List ℕ
wind_line plant angle limit = line (codes "WIND," ++ decimal angle ++ codes ","
    ++ speed_text limit.speed ++ codes "," ++ next_loss_text plant limit.next)

-- what shows that the speed is held with nothing lost
abbrev pub at_intact_line : Outcome → List ℕ
at_intact_line outcome = line (codes "AT,INTACT," ++ outcome_text outcome)

-- and after a group's loss
abbrev pub at_group_line : Redundancy × Outcome → List ℕ
at_group_line held =
    line (codes "AT,GROUP," ++ held.0.name ++ codes "," ++ outcome_text held.1)

-- with nothing lost, and after the loss of each group
abbrev pub at_lines : Parts → List Outcome → List ℕ
at_lines plant [] = []
at_lines plant (intact ∷ groups) =
    at_intact_line intact ++ flat_map at_group_line (zip plant.groups.items groups)

abbrev pub step_text : Step → List ℕ
step_text Beyond = codes "BEYOND"
step_text (Lost outcome) = outcome_text outcome

abbrev pub next_line : Parts → Option Next → List ℕ
next_line plant None = []
next_line plant (Some next) =
    line (codes "NEXT," ++ loss_text plant next.loss ++ codes "," ++ step_text next.step)

-- what the wind from an angle leaves
abbrev pub limit_lines : Parts → ℕ → WindLimit → List ℕ
limit_lines plant angle limit =
    wind_line plant angle limit ++ at_lines plant limit.at.items ++ next_line plant limit.next

-- the limits of the angles from this number of tens of degrees on
abbrev pub limits_lines : Parts → ℕ → List WindLimit → List ℕ
limits_lines plant tens [] = []
limits_lines plant tens (limit ∷ limits) =
    limit_lines plant (tens * 1000) limit ++ limits_lines plant (tens + 1) limits

-- ---- all of it

-- the text up to the last of these limits, which are those of the first angles
abbrev pub text_so_far : Parts → Wrench → Margins → List WindLimit → List ℕ
text_so_far plant demand margins limits =
    margin_lines plant demand margins ++ limits_lines plant 0 limits

abbrev pub end_line : List ℕ
end_line = line (codes "END")

-- the whole text, with a limit for each angle
abbrev pub capability_text : Parts → Wrench → Margins → List WindLimit → List ℕ
capability_text plant demand margins limits =
    text_so_far plant demand margins limits ++ end_line
