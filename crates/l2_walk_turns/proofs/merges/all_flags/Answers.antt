use Rattle.std.proofs.Common.{arith, ◌≡◌, ◌∙◌, ap, sym, ◌++◌, ◌+◌, ◌∷◌, [], drop}
use Rattle.std.proofs.lemmas.List.{append-nil, drop_all, drop_more}
use Rattle.l2_ssa.specs.Walks.{merge_flags}
use Rattle.l2_walk_turns.specs.Labels.{flags_merged}
use Rattle.l2_walker.specs.Made.{state_of, extended}
use Rattle.l2_walk_turns.proofs.Stepping.{flag_step, no_flags, no_flag_steps}
use Rattle.l2_walk_turns.proofs.merges.all_flags.Goals as goal
use Rattle.l2_walk_turns.proofs.merges.all_flags.Goals.{then-loop-i-test+else-i-own, else-loop-i-test}

pub loop-i-preserved : goal.loop-i-preserved
loop-i-preserved c =
    let inv = c.loop-i.invariant in
    let s = state_of c.loop-i.walker in
    let i = c.loop-i.i in
    let xs = c.args.brought.now in
    let ys = c.args.own.now in
    let dx = drop_more xs i c.index-brought-i.result (omega arith) ∙ (λ j. sym c.index-brought-i.is j ∷ drop (i + 1) xs) in
    let dy = drop_more ys i c.index-own-i.result (omega arith) ∙ (λ j. sym c.index-own-i.is j ∷ drop (i + 1) ys) in
    let r = flag_step s (state_of c.merged.new.walker) c.loop-i.flags.items _ _ _ c.in_ok-flag.flag (state_of c.args.walker.now).walk.path s.walk.path c.args.entry c.live.result c.live-in-loop-i.result
    c.index-brought-i.result c.index-own-i.result (drop (i + 1) xs) (drop (i + 1) ys) (drop i xs) (drop i ys) inv dx dy c.live.ensures c.live-in-loop-i.ensures (ap (λ w. w.path) inv.2) c.in_ok-flag.ensures.value c.in_ok-flag.ensures.steps in
    (ap (λ t. t ++ flags_merged (state_of c.merged.new.walker).names (drop (i + 1) xs) (drop (i + 1) ys)) c.in_ok-push.ensures.items ∙ r.0, r.1, r.2)

pub returns-clause-flags : goal.returns-clause-flags
returns-clause-flags c =
    let n = (state_of c.loop-i.walker).names in
    let i = c.loop-i.i in
    let none : flags_merged n (drop i c.args.brought.now) (drop i c.args.own.now) ≡ [] = elim c.loop-i-test.branch [
      | then-loop-i-test+else-i-own w ↦ ap (λ ys. flags_merged n (drop i c.args.brought.now) ys) (drop_all i c.args.own.now (omega arith)) ∙ no_flags n (drop i c.args.brought.now)
      | else-loop-i-test w ↦ ap (λ xs. flags_merged n xs (drop i c.args.own.now)) (drop_all i c.args.brought.now (omega arith))
    ] in
    sym (append-nil c.loop-i.flags.items) ∙ ap (λ t. c.loop-i.flags.items ++ t) (sym none) ∙ c.loop-i.invariant.0

pub returns-clause-steps : goal.returns-clause-steps
returns-clause-steps c =
    let p = (state_of c.args.walker.now).walk.path in
    let i = c.loop-i.i in
    let none : merge_flags p c.args.entry (drop i c.args.brought.now) (drop i c.args.own.now) ≡ [] = elim c.loop-i-test.branch [
      | then-loop-i-test+else-i-own w ↦ ap (λ ys. merge_flags p c.args.entry (drop i c.args.brought.now) ys) (drop_all i c.args.own.now (omega arith)) ∙ no_flag_steps p c.args.entry (drop i c.args.brought.now)
      | else-loop-i-test w ↦ ap (λ xs. merge_flags p c.args.entry xs (drop i c.args.own.now)) (drop_all i c.args.brought.now (omega arith))
    ] in
    ap (λ t. extended (state_of c.loop-i.walker) t) (sym none) ∙ c.loop-i.invariant.1
