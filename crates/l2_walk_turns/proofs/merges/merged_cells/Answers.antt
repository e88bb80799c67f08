use Rattle.std.proofs.Common.{arith, ◌≡◌, ◌∙◌, ap, sym, ◌++◌, ◌+◌, ◌∷◌, [], drop}
use Rattle.std.proofs.lemmas.List.{append-nil, drop_all, drop_more}
use Rattle.std.specs.Prelude.{slice_index_or}
use Rattle.l2_ssa.specs.Walks.{F, merge_cells, merged_cells}
use Rattle.l2_walker.specs.Made.{state_of, extended}
use Rattle.l2_walk_turns.proofs.Stepping.{cell_step, none_brought, none_brought_steps, none_own, none_own_steps}
use Rattle.l2_walk_turns.proofs.merges.merged_cells.Goals as goal
use Rattle.l2_walk_turns.proofs.merges.merged_cells.Goals.{then-loop-i-test+then-i-brought+else-i-own, then-loop-i-test+else-i-brought, else-loop-i-test}

pub loop-i-preserved : goal.loop-i-preserved
loop-i-preserved c =
    let inv = c.loop-i.invariant in
    let s = state_of c.loop-i.walker in
    let i = c.loop-i.i in
    let ts = c.args.types.now in
    let xs = c.args.brought.now in
    let ys = c.args.own.now in
    let dt = drop_more ts i c.index-types-i.result (omega arith) ∙ (λ j. sym c.index-types-i.is j ∷ drop (i + 1) ts) in
    let dx = drop_more xs i F (omega arith) in
    let dy = drop_more ys i F (omega arith) in
    let r = cell_step s (state_of c.merged.new.walker) c.loop-i.cells.items _ _ _ c.in_ok-value.value (state_of c.args.walker.now).walk.path s.walk.path c.args.entry (slice_index_or xs i F) (slice_index_or ys i F)
    c.index-types-i.result (drop (i + 1) ts) (drop i ts) (drop (i + 1) xs) (drop (i + 1) ys) (drop i xs) (drop i ys) inv dt dx dy (ap (λ w. w.path) inv.2) c.in_ok-value.ensures.value c.in_ok-value.ensures.steps in
    (ap (λ t. t ++ merged_cells (state_of c.merged.new.walker).names (drop (i + 1) ts) (drop (i + 1) xs) (drop (i + 1) ys)) c.in_ok-push.ensures.items ∙ r.0, r.1, r.2)

pub returns-clause-cells : goal.returns-clause-cells
returns-clause-cells c =
    let n = (state_of c.loop-i.walker).names in
    let i = c.loop-i.i in
    let ts = c.args.types.now in
    let xs = c.args.brought.now in
    let ys = c.args.own.now in
    let none : merged_cells n (drop i ts) (drop i xs) (drop i ys) ≡ [] = elim c.loop-i-test.branch [
      | then-loop-i-test+then-i-brought+else-i-own w ↦ ap (λ t. merged_cells n (drop i ts) (drop i xs) t) (drop_all i ys (omega arith)) ∙ none_own n (drop i ts) (drop i xs)
      | then-loop-i-test+else-i-brought w ↦ ap (λ t. merged_cells n (drop i ts) t (drop i ys)) (drop_all i xs (omega arith)) ∙ none_brought n (drop i ts) (drop i ys)
      | else-loop-i-test w ↦ ap (λ t. merged_cells n t (drop i xs) (drop i ys)) (drop_all i ts (omega arith))
    ] in
    sym (append-nil c.loop-i.cells.items) ∙ ap (λ t. c.loop-i.cells.items ++ t) (sym none) ∙ c.loop-i.invariant.0

pub returns-clause-steps : goal.returns-clause-steps
returns-clause-steps c =
    let p = (state_of c.args.walker.now).walk.path in
    let h = c.args.entry in
    let i = c.loop-i.i in
    let ts = c.args.types.now in
    let xs = c.args.brought.now in
    let ys = c.args.own.now in
    let none : merge_cells p h (drop i ts) (drop i xs) (drop i ys) ≡ [] = elim c.loop-i-test.branch [
      | then-loop-i-test+then-i-brought+else-i-own w ↦ ap (λ t. merge_cells p h (drop i ts) (drop i xs) t) (drop_all i ys (omega arith)) ∙ none_own_steps p h (drop i ts) (drop i xs)
      | then-loop-i-test+else-i-brought w ↦ ap (λ t. merge_cells p h (drop i ts) t (drop i ys)) (drop_all i xs (omega arith)) ∙ none_brought_steps p h (drop i ts) (drop i ys)
      | else-loop-i-test w ↦ ap (λ t. merge_cells p h t (drop i xs) (drop i ys)) (drop_all i ts (omega arith))
    ] in
    ap (λ t. extended (state_of c.loop-i.walker) t) (sym none) ∙ c.loop-i.invariant.1
