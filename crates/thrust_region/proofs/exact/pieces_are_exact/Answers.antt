use Rattle.thrust_region.proofs.Avoid.{avoid_sectors}
use Rattle.thrust_region.proofs.Cover.{cover_the_rest}
use Rattle.thrust_region.proofs.exact.pieces_are_exact.Goals as goal

pub returns : goal.returns
returns c = record { avoid = avoid_sectors; cover = cover_the_rest }
