use Rattle.std.proofs.Common.{List, ap, sym, ◌∙◌}
use Rattle.alarm_log.specs.declared.alarm.Alarm.{Alarm}
use Rattle.alarm_log.proofs.Rings.{all_stay}
use Rattle.alarm_log.proofs.alarms.Alarms.acknowledge.Goals as goal

pub returns-then-not-is_unacknowledged-clause-book :
    goal.returns-then-not-is_unacknowledged-clause-book
returns-then-not-is_unacknowledged-clause-book c =
    let book = c.args.self.now in
    let none = sym c.is_unacknowledged.ensures ∙ c.if-not-is_unacknowledged.true in
    ap (λ (ring : List Alarm). record book { ring = ring })
    (sym (all_stay c.args.number book.ring none))
