use Rattle.std.proofs.Common.{inl, inr, refl, rules}
use Rattle.l2_outside.proofs.memory.MemSinkSink.write.Goals as goal
use Rattle.l2_outside.proofs.memory.MemSinkSink.write.Goals.{then-contains-via-then-contains, then-contains-via-else-contains+then-not-is_empty}

pub returns-then-contains-clause-exactly : goal.returns-then-contains-clause-exactly
returns-then-contains-clause-exactly c = (
  λ _. elim c.then-contains.branch [
    | then-contains-via-then-contains w ↦ inl (search rules)
    | then-contains-via-else-contains+then-not-is_empty w ↦ inr (search rules)
  ],
  λ _. refl,
)
