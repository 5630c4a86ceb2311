use Rattle.wrench_geometry.proofs.WedgeFans.{law}
use Rattle.wrench_geometry.proofs.fans.pieces_are_fans.Goals as goal

pub returns : goal.returns
returns c = λ ring sectors piece quarter is valid one few.
    law ring sectors piece quarter is valid one
