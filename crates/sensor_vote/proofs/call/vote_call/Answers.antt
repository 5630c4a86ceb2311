-- The vote, and its status told.
use Rattle.sensor_vote.proofs.call.vote_call.Goals as goal

pub returns : goal.returns
returns g c = record {
  vote = c.vote-status.ensures.ends;
  told = c.tell.ensures.told;
  unread = c.vote-status.ensures.unread;
}
