use Rattle.glance.proofs.Places.{reads}
use Rattle.glance.proofs.display.look.Goals as goal

pub enter_as-requires : goal.enter_as-requires
enter_as-requires g c = reads _ _
