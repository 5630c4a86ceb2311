use Rattle.glance_tests.proofs.Units.{prefix_units}
use Rattle.glance_tests.proofs.count.publish.Goals as goal

pub publish-requires-clause-list : goal.publish-requires-clause-list
publish-requires-clause-list g c = prefix_units _ _ c.requires
