use Rattle.std.proofs.Common.{◌≡◌, ◌++◌, map, take}
use Rattle.std.specs.List.{concat}
use Rattle.l2_witness.specs.ValuesFile.{choice_line, header, turns_line}
use Rattle.l2_witness.proofs.write.write_values.Given as goal

-- the lines of the choices so far
abbrev pub invariant-loop-choice : goal.invariant-loop-choice
invariant-loop-choice l = l.bytes.items ≡ (header ++ turns_line l.values.turns) ++ concat (map choice_line (take l.choice-index l.values.choices))
