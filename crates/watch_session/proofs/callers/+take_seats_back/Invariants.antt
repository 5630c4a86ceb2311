-- Each round has one seat less.
use Rattle.std.proofs.Common.{vec_len}
use Rattle.watch_session.proofs.callers.+take_seats_back.Given as goal

abbrev pub decreases-take_seats_back : goal.decreases-take_seats_back
decreases-take_seats_back g l = vec_len l.seats
