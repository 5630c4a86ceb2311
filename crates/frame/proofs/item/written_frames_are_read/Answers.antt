use Rattle.std.proofs.Common.{[], ◌∙◌, ap, append-nil, sym}
use Rattle.frame.specs.Frames.{frame_text, items}
use Rattle.frame.proofs.Written.{items-frame_text}
use Rattle.frame.proofs.item.written_frames_are_read.Goals as goal

pub returns-clause-alone : goal.returns-clause-alone
returns-clause-alone c body good =
    ap items (sym (append-nil (frame_text body))) ∙ items-frame_text body [] good

pub returns-clause-before : goal.returns-clause-before
returns-clause-before c = items-frame_text
