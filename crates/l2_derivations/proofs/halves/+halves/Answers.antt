use Rattle.std.proofs.Common.{rules, ◌+◌, ◌-◌, ◌/◌, ℕ, IsErrOf, OnOk, arith}
use Rattle.std.proofs.lemmas.Result.{on_ok_weaker}
use Rattle.l2_derivations.specs.declared.goal.GoalError.TheVariants.{BadStep, Unclosed}
use Rattle.l2_derivations.specs.Goals.{AllHold, BreaksAt, FailsAt, IsOpen, StaysOpen, formula_at, steps_at}
use Rattle.l2_derivations.specs.Problems.{goals_of}
use Rattle.l2_derivations.proofs.Joined.{behind_front, both_hold}
use Rattle.l2_derivations.proofs.halves.+halves.Goals as goal

pub returns-in-Ok-clause-ok : goal.returns-in-Ok-clause-ok
returns-in-Ok-clause-ok g k c =
    let all = goals_of c.args.all in
    let middle = c.args.from + (c.args.to - c.args.from) / 2 in
    let front : AllHold all c.args.from middle = search rules in
    let back : OnOk c.join-first.result.1 (AllHold all middle c.args.to) = search rules in
    on_ok_weaker c.join-first.result.1 (λ held. both_hold all c.args.from middle c.args.to front held) back

pub returns-in-Ok-clause-bad_step : goal.returns-in-Ok-clause-bad_step
returns-in-Ok-clause-bad_step g k c = λ n s is.
    let all = goals_of c.args.all in
    let middle = c.args.from + (c.args.to - c.args.from) / 2 in
    let front : AllHold all c.args.from middle = search rules in
    let back : (n s : ℕ) → IsErrOf c.join-first.result.1 (BadStep n s) → BreaksAt all middle c.args.to n s = c.join-first.ensures.second.1.0 in
    behind_front all c.args.from middle c.args.to n (λ i. FailsAt (formula_at all i) all.variables (steps_at all i) s) (omega arith) front (back n s is)

pub returns-in-Ok-clause-unclosed : goal.returns-in-Ok-clause-unclosed
returns-in-Ok-clause-unclosed g k c = λ n is.
    let all = goals_of c.args.all in
    let middle = c.args.from + (c.args.to - c.args.from) / 2 in
    let front : AllHold all c.args.from middle = search rules in
    let back : (n : ℕ) → IsErrOf c.join-first.result.1 (Unclosed n) → StaysOpen all middle c.args.to n = c.join-first.ensures.second.1.1 in
    behind_front all c.args.from middle c.args.to n (λ i. IsOpen (formula_at all i) all.variables (steps_at all i)) (omega arith) front (back n is)
