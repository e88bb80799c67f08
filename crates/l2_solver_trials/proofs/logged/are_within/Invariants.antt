use Rattle.std.proofs.Common.{ℕ, ◌<◌, get_or, []}
use Rattle.l2_cnf.specs.Logic.{IsWithin}
use Rattle.l2_solver_trials.proofs.logged.are_within.Given as goal

abbrev pub invariant-loop-i : goal.invariant-loop-i
invariant-loop-i l = (k : ℕ) → k < l.i → IsWithin l.variables (get_or l.list k [])
