use Rattle.frame.proofs.Exact.{Body-exact, TooLong-exact, Shape-exact, Checksum-exact}
use Rattle.frame.proofs.item.frames_are_exact.Goals as goal

pub returns : goal.returns
returns c =
    record {
      body = Body-exact;
      too_long = TooLong-exact;
      shape = Shape-exact;
      checksum = Checksum-exact;
    }
