use Rattle.std.proofs.Common.{◌≡◌, ◌<◌, length, get_or, [], sym, ap, ◌∙◌, arith}
use Rattle.std.proofs.lemmas.List.{get_or_default}
use Rattle.l2_cnf.specs.Lines.{step_at, steps_of, step_of}
use Rattle.l2_cnf.proofs.Parts.{length-steps_of, step_at-steps_of}
use Rattle.l2_cnf.proofs.lines.Lines.number.Goals as goal

pub index-requires : goal.index-requires
index-requires c = omega (arith, c.requires, ap length c.self.view_is, c.self.invariant.0, c.self.invariant.1, length-steps_of c.self.inside.numbers.items c.self.inside.clauses c.self.inside.hints c.self.invariant.0 c.self.invariant.1)

pub returns : goal.returns
returns c =
    let within : c.args.i < length c.self.inside.numbers.items = omega (arith, c.requires, ap length c.self.view_is, length-steps_of c.self.inside.numbers.items c.self.inside.clauses c.self.inside.hints c.self.invariant.0 c.self.invariant.1) in
    let at : step_at (steps_of c.self.inside.numbers.items c.self.inside.clauses c.self.inside.hints) c.args.i ≡ step_of (get_or c.self.inside.numbers.items c.args.i 0) (get_or c.self.inside.clauses c.args.i []) (get_or c.self.inside.hints c.args.i []) = step_at-steps_of c.self.inside.numbers.items c.self.inside.clauses c.self.inside.hints c.args.i c.self.invariant.0 c.self.invariant.1 within in
    c.index.ensures ∙ get_or_default c.self.inside.numbers.items c.args.i c.index.result.now 0 within ∙ ap (λ x. x.number) (sym at ∙ ap (λ x. step_at x c.args.i) c.self.view_is)
