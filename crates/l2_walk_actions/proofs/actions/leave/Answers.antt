use Rattle.std.proofs.Common.{rules, ◌≡◌, ◌∙◌, ap, sym, [], ◌∷◌}
use Rattle.l2_ssa.specs.Walks.{leave_steps, leave_path}
use Rattle.l2_walker.specs.Made.{state_of, extended, frame_of, frames_of}
use Rattle.l2_walker.proofs.Framing.{last_frame}
use Rattle.l2_walk_actions.proofs.actions.leave.Goals as goal

pub returns-then-left-eq0-clause-steps : goal.returns-then-left-eq0-clause-steps
returns-then-left-eq0-clause-steps c =
    let s = state_of c.loop-frame.walker in
    let fs = frames_of c.pop.new.self.items in
    let at = ap frames_of c.in-Some.ensures.items ∙ last_frame c.pop.new.self.items c.in-Some.frame ∙ (λ i. frame_of (c.in-Block.is i) ∷ fs) in
    (λ i. extended s (leave_steps (sym at i) (sym c.if-left-eq0.true i) c.loop-frame.path s.names)) ∙ c.loop-frame.invariant.1

pub loop-frame-preserved : goal.loop-frame-preserved
loop-frame-preserved c =
    let s = state_of c.loop-frame.walker in
    let fs = frames_of c.pop.new.self.items in
    let left = c.loop-frame.left in
    let at = ap frames_of c.in-Some.ensures.items ∙ last_frame c.pop.new.self.items c.in-Some.frame ∙ (λ i. frame_of (c.in-Early.is i) ∷ fs) in
    let name = c.in_ok-path-in-Early.ensures.name in
    let k = c.in_ok-path-in-Early.ensures.steps in (
      (λ i. leave_path fs left (name i) ((k i).names)) ∙ (λ i. leave_path (sym at i) left c.loop-frame.path s.names) ∙ c.loop-frame.invariant.0,
      (λ i. extended (k i) (leave_steps fs left (name i) ((k i).names))) ∙ (λ i. extended s (leave_steps (sym at i) left c.loop-frame.path s.names)) ∙ c.loop-frame.invariant.1,
    )

pub returns-clause-steps : goal.returns-clause-steps
returns-clause-steps c =
    let s = state_of c.loop-frame.walker in
    let none : c.loop-frame.frames.items ≡ [] = search rules in
    (λ i. extended s (leave_steps (frames_of (sym none i)) c.loop-frame.left c.loop-frame.path s.names)) ∙ c.loop-frame.invariant.1
