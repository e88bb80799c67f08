use Rattle.std.proofs.Common.{drop, get_or, ap, ◌∙◌, ◌+◌, sym}
use Rattle.std.proofs.lemmas.List.{drop_more}
use Rattle.l2_meaning.specs.Meaning.{declare}
use Rattle.l2_meaning.specs.Execution.{declare_all}
use Rattle.l2_replay.specs.Reach.{setting}
use Rattle.l2_replay.proofs.Results.{does_err, does_residual}
use Rattle.l2_replay.proofs.replay_program.declare_all.Goals as goal

pub returns-in_err-declare-clause-does : goal.returns-in_err-declare-clause-does
returns-in_err-declare-clause-does c =
    let g = setting c.args.p.now in
    let n = get_or c.args.ns.now c.loop-i.i 0 in
    does_residual (λ u. tt) (declare_all g c.args.ns.now) c.args.m.now c.declare.new.m c.from_residual.result c.in_err-declare.field-0.0 c.from_residual.ensures.0 c.from_residual.ensures.1
    (does_err {A = Unit {0}} {C = Unit {0}} (λ u. tt) (λ u. tt) (declare_all g c.args.ns.now) (declare g n) (λ u. declare_all g (drop (c.loop-i.i + 1) c.args.ns.now)) c.args.m.now c.loop-i.m c.declare.new.m c.in_err-declare.field-0.0
    (sym c.loop-i.invariant.0 ∙ ap (λ ns. declare_all g ns c.loop-i.m) (drop_more c.args.ns.now c.loop-i.i 0 c.loop-i-test.true)) c.in_err-declare.ensures.does)
