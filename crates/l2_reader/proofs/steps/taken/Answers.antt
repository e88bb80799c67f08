use Rattle.l2_reader.proofs.Stepping.{takes_step}
use Rattle.l2_reader.proofs.steps.taken.Goals as goal

pub returns-in-Ok-clause-ok : goal.returns-in-Ok-clause-ok
returns-in-Ok-clause-ok c = takes_step c.args.run c.in-Ok.run' c.args.stack c.args.token c.on_token-next.result c.requires.sound c.requires.takes c.on_token-next.ensures c.in-Ok.ensures.tree c.in-Ok.ensures.state c.in-Ok.ensures.sort c.in-Ok.ensures.size
