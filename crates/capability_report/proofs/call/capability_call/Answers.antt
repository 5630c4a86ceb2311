-- The capability, and its status told.
use Rattle.capability_report.proofs.call.capability_call.Goals as goal

pub returns : goal.returns
returns g c = record {
  ends = c.capability_of_words-status.ensures.ends;
  told = c.tell.ensures.told;
  unread = c.capability_of_words-status.ensures.unread;
}
