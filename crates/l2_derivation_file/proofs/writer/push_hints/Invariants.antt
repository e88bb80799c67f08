use Rattle.std.proofs.Common.{◌≡◌, ◌++◌, ◌∷◌, map, drop}
use Rattle.std.specs.List.{concat}
use Rattle.std.specs.Fmt.{decimal}
use Rattle.l2_derivation_file.proofs.writer.push_hints.Given as goal

-- what is written and what is to come
abbrev pub invariant-loop-hint : goal.invariant-loop-hint
invariant-loop-hint l = l.initial.bytes.items ++ concat (map (λ n. 32 ∷ decimal n) l.hints) ≡ l.bytes.items ++ concat (map (λ n. 32 ∷ decimal n) (drop l.hint-index l.hints))
