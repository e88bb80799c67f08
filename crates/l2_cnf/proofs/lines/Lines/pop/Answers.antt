use Rattle.std.proofs.Common.{◌≡◌, ◌-◌, ◌∙◌, ℕ, length, take, sym, ap, arith}
use Rattle.l2_cnf.specs.Lines.{steps_of}
use Rattle.l2_cnf.proofs.Parts.{length-steps_of, steps_of-take}
use Rattle.l2_cnf.proofs.lines.Lines.pop.Goals as goal

pub returns : goal.returns
returns c =
    let n : ℕ = length c.args.self.now - 1 in
    let numbers = c.self.inside.numbers.items in
    let clauses = c.self.inside.clauses in
    let hints = c.self.inside.hints in
    let same : length (steps_of numbers clauses hints) ≡ length numbers = length-steps_of numbers clauses hints c.self.invariant.0 c.self.invariant.1 in
    let count : length c.args.self.now ≡ length numbers = sym (ap length c.self.view_is) ∙ same in
    let first : c.pop.new.self.items ≡ take n numbers = c.pop.ensures.rest ∙ ap (λ k. take k numbers) (omega (arith, count)) in
    let second : c.pop-2.new.self ≡ take n clauses = c.pop-2.ensures ∙ ap (λ k. take k clauses) (omega (arith, count, c.self.invariant.0)) in
    let third : c.pop-3.new.self ≡ take n hints = c.pop-3.ensures ∙ ap (λ k. take k hints) (omega (arith, count, c.self.invariant.1)) in
    (λ i. steps_of (first i) (second i) (third i)) ∙ steps_of-take n numbers clauses hints c.self.invariant.0 c.self.invariant.1 ∙ ap (take n) c.self.view_is
