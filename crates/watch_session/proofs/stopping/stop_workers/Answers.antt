-- What was published so far, and then what the job that was taken has.
use Rattle.watch_session.proofs.Publishing.{publishes-none}
use Rattle.watch_session.proofs.stopping.stop_workers.Goals as goal

pub loop-init : goal.loop-init
loop-init g c = record {
  of = c.requires.of;
  own = c.requires.own;
  published = publishes-none c.args.root.now c.caller-number.ensures.rest;
}
