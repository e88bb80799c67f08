use Rattle.std.proofs.Common.{◌≡◌, ◌++◌, ◌∷◌, [], ◌∙◌, codes, ap, rules}
use Rattle.std.specs.Fmt.{decimal}
use Rattle.l2_cnf.specs.Lines.{step_at}
use Rattle.l2_cert.proofs.Written.{hints_text, literals_text, step_written}
use Rattle.l2_derivation_file.proofs.writer.push_step.Goals as goal

pub returns : goal.returns
returns c =
    let old = c.args.bytes.now.items in
    let s = step_at c.args.steps.now c.args.i in
    let number : c.extend_from_slice.new.self.items ≡ old ++ decimal s.number = search rules in
    let clause : c.push_literals.new.bytes.items ≡ (old ++ decimal s.number) ++ literals_text s.clause = search rules in
    let zero : c.extend_from_slice-2.new.self.items ≡ ((old ++ decimal s.number) ++ literals_text s.clause) ++ codes " 0" = search rules in
    let hints : c.push_hints.new.bytes.items ≡ (((old ++ decimal s.number) ++ literals_text s.clause) ++ codes " 0") ++ hints_text s.hints = search rules in
    let last : c.extend_from_slice-3.new.self.items ≡ c.push_hints.new.bytes.items ++ 32 ∷ 48 ∷ 10 ∷ [] = search rules in
    last ∙ ap (λ t. t ++ 32 ∷ 48 ∷ 10 ∷ []) hints ∙ step_written old s
