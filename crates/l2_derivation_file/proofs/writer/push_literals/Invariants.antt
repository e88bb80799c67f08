use Rattle.std.proofs.Common.{◌≡◌, ◌++◌, ◌∷◌, map, drop}
use Rattle.std.specs.List.{concat}
use Rattle.std.specs.Fmt.{signed_decimal}
use Rattle.l2_derivation_file.proofs.writer.push_literals.Given as goal

-- what is written and what is to come
abbrev pub invariant-loop-literal : goal.invariant-loop-literal
invariant-loop-literal l = l.initial.bytes.items ++ concat (map (λ z. 32 ∷ signed_decimal z) l.clause) ≡ l.bytes.items ++ concat (map (λ z. 32 ∷ signed_decimal z) (drop l.literal-index l.clause))
