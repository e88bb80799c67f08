use Rattle.std.proofs.Common.{◌-◌, ◌∙◌, arith, ap, take, drop, length}
use Rattle.std.proofs.lemmas.List.{length-drop}
use Rattle.l2_outside.specs.Outside.{grown}
use Rattle.l2_outside.proofs.Growing.{grown_twice}
use Rattle.l2_outside.proofs.write.write_text.Goals as goal

pub loop-done-preserved : goal.loop-done-preserved
loop-done-preserved g c = record {
  within = omega (arith, c.in_ok-done.ensures.bound, length-drop c.loop-done.done c.args.text.now);
  wrote = c.in_ok-done.ensures.ok
      ∙ ap (λ w. grown w (take c.in_ok-done.field-0 (take (length c.args.text.now - c.loop-done.done) (drop c.loop-done.done c.args.text.now)))) c.loop-done.invariant.wrote
      ∙ grown_twice (g.K.Sink.written c.args.out.now) c.args.text.now c.loop-done.done c.in_ok-done.field-0;
  later = omega (arith, c.in_ok-done.ensures.faults);
}
