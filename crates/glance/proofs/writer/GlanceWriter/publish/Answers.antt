use Rattle.glance.proofs.Shots.{published_list}
use Rattle.glance.proofs.writer.GlanceWriter.publish.Goals as goal

pub returns-clause-published : goal.returns-clause-published
returns-clause-published g c =
    published_list g.T.Shows.any_base c.self.inside.last c.in-Some.shot _ _ _
    c.args.self.now c.self.view_is c.requires.base c.in-Some.ensures
