use Rattle.std.proofs.Common.{rules, ◌≡◌, ◌++◌, ◌∷◌, [], ◌∙◌, length, map, codes, ap}
use Rattle.std.specs.List.{concat}
use Rattle.std.specs.Fmt.{decimal}
use Rattle.l2_derivation_file.specs.File.{step_text}
use Rattle.l2_derivation_file.proofs.Files.{written_all}
use Rattle.l2_derivation_file.proofs.writer.write.Goals as goal

pub returns-clause-spelt : goal.returns-clause-spelt
returns-clause-spelt c =
    let steps = c.args.steps.now in
    let head : c.push_head.new.bytes.items ≡ codes "2ls derivation 1\nlines " ++ (decimal (length steps) ++ codes "\n") = search rules in
    let all : c.push_steps.new.bytes.items ≡ (codes "2ls derivation 1\nlines " ++ (decimal (length steps) ++ codes "\n")) ++ concat (map step_text steps) = search rules in
    let last : c.extend_from_slice.new.self.items ≡ c.push_steps.new.bytes.items ++ 101 ∷ 110 ∷ 100 ∷ 10 ∷ [] = search rules in
    last ∙ ap (λ b. b ++ 101 ∷ 110 ∷ 100 ∷ 10 ∷ []) all ∙ written_all steps
