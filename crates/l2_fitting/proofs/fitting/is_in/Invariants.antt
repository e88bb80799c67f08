use Rattle.std.proofs.Common.{◌≡◌, drop}
use Rattle.l2_templates.specs.Domains.{is_in}
use Rattle.l2_fitting.proofs.fitting.is_in.Given as goal

abbrev pub invariant-loop-n : goal.invariant-loop-n
invariant-loop-n l = is_in (drop l.n-index l.numbers) l.number ≡ is_in l.numbers l.number
