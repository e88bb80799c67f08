use Rattle.std.proofs.Common.{◌≡◌, length}
use Rattle.l2_cnf.specs.Logic.{AllWithin}
use Rattle.l2_cert_trials.proofs.steps.empty.Given as goal

-- so many clauses, and no literal in them
abbrev pub invariant-loop : goal.invariant-loop
invariant-loop l = record {
  within : AllWithin 1 l.list;
  counted : length l.list ≡ l.counter;
}
