-- What the words ask for, or that they are refused, and the status told.
use Rattle.dp_sessions.proofs.replay.replay_call.Goals as goal

pub returns : goal.returns
returns g c = record {
  session = λ none. record {
    session = c.replay_words-status.ensures.session none;
    told = c.tell.ensures.told;
    unread = c.replay_words-status.ensures.unread;
  };
  refused = c.replay_words-status.ensures.refused;
  told = c.tell.ensures.told;
}
