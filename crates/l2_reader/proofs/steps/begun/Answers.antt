use Rattle.l2_reader.proofs.Stepping.{begins_step}
use Rattle.l2_reader.proofs.steps.begun.Goals as goal

pub returns-in-Ok-over-clause-ok : goal.returns-in-Ok-over-clause-ok
returns-in-Ok-over-clause-ok c =
    begins_step c.args.run c.in-Ok.inner c.args.stack c.in-Ok-over.stack c.args.token c.opens-sort.result c.on_token-next.result c.requires.sound c.requires.takes c.requires.begins c.opens-sort.ensures c.on_token-next.ensures
    c.in-Ok.ensures.tree c.in-Ok.ensures.state c.in-Ok.ensures.sort c.in-Ok.ensures.size c.in-Ok-over.ensures.ok c.in-Ok-over.ensures.sound
