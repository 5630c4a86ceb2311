-- The round of a later moment is empty.
use Rattle.std.proofs.Common.{◌≡◌, ◌∙◌, ◌<◌, ap, sym, arith}
use Rattle.sensor_vote.specs.Rounds.{Kept, last_moment}
use Rattle.sensor_vote.proofs.Rounds.{round_at-later}
use Rattle.sensor_vote.proofs.vote.Vote.round_from.Goals as goal

pub returns-then-self-moment-clause-round : goal.returns-then-self-moment-clause-round
returns-then-self-moment-clause-round c = λ taken stands.
    let last : c.self.inside.last ≡ last_moment taken =
    ap (λ (k : Kept). k.last) (c.self.view_is ∙ stands) in
    let later : last_moment taken < c.args.moment = omega arith in
    sym (round_at-later c.args.moment taken later)
