use Rattle.std.proofs.Common.{◌≡◌, ◌++◌, map, drop}
use Rattle.std.specs.List.{concat}
use Rattle.l2_derivation_file.specs.File.{step_text}
use Rattle.l2_derivation_file.proofs.writer.push_steps.Given as goal

-- what is written and what is to come
abbrev pub invariant-loop-i : goal.invariant-loop-i
invariant-loop-i l = l.initial.bytes.items ++ concat (map step_text l.steps) ≡ l.bytes.items ++ concat (map step_text (drop l.i l.steps))
