-- By the variants of replies.
use Rattle.std.proofs.Common.{◌∙◌, sym}
use Rattle.log_audit.proofs.SameReplies.{reply_same, same_reply}
use Rattle.log_audit.proofs.beside.are_same.Goals as goal

pub returns : goal.returns
returns c = (
  λ t. reply_same c.args.own.now c.args.other.now c.requires (sym c.eq.ensures ∙ t),
  λ same. c.eq.ensures ∙ same_reply c.args.own.now c.args.other.now c.requires same,
)
