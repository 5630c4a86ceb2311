-- A line feed completes the item of the open line.
use Rattle.std.proofs.Common.{◌≡◌, List, ◌++◌, Option, Some, None, sym, ◌∙◌, ap}
use Rattle.std.specs.Option.{option_to_list}
use Rattle.frame.specs.declared.item.Item.{Item}
use Rattle.frame.specs.Frames.{StandsFor, item_of_line, items}
use Rattle.frame.proofs.StreamItems.{items-kept, items-overlong}
use Rattle.frame.proofs.framer.Framer.end_line.Goals as goal
use Rattle.frame.proofs.framer.Framer.end_line.Goals.{then-self, else-self}

pub returns-clause-item : goal.returns-clause-item
returns-clause-item c fed stands =
    let more : Option Item → List Item = λ item. items fed ++ option_to_list item in
    elim c.if-self.branch [
      | then-self w ↦
          let none : StandsFor None fed = cc in
          items-overlong fed none ∙ ap more (sym w.item-is)
      | else-self w ↦
          let kept : StandsFor (Some w.as_slice.result.now) fed = cc in
          let item : item_of_line w.as_slice.result.now ≡ c.if-self.item = cc in
          items-kept w.as_slice.result.now fed kept ∙ ap more item
    ]
