-- Each round has one seat less.
use Rattle.std.proofs.Common.{vec_len}
use Rattle.watch_session.proofs.crew.+employ.Given as goal

abbrev pub decreases-employ : goal.decreases-employ
decreases-employ g l = vec_len l.seats
