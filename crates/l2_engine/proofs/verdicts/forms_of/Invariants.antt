use Rattle.std.proofs.Common.{◌≡◌, ◌++◌, drop, map}
use Rattle.l2_templates.specs.Domains.{row_list}
use Rattle.l2_verdicts.specs.Verdicts.{forms_of}
use Rattle.l2_engine.proofs.verdicts.forms_of.Given as goal

abbrev pub invariant-loop-info : goal.invariant-loop-info
invariant-loop-info g l = map (λ f. f.items) l.all.items ++ map (λ loop. row_list (g.D.Domain.family l.domain) loop.vars loop.mods) (drop l.info-index l.loops) ≡ forms_of (g.D.Domain.family l.domain) l.loops
