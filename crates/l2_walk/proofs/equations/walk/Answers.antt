use Rattle.std.proofs.Common.{◌≡◌, ◌∙◌, ap, sym, length, [], ◌++◌}
use Rattle.std.proofs.lemmas.List.{append-nil}
use Rattle.l2_code.specs.Trees.{code_of, items_of}
use Rattle.l2_code.specs.Sets.{family}
use Rattle.l2_ssa.specs.Walks.{T}
use Rattle.l2_ssa.specs.Law.{ssa, first_slots}
use Rattle.l2_ssa.specs.Views.{steps_of, events_of, kinds_of}
use Rattle.l2_walker.specs.Made.{state_of, put, frames_of, temps_of}
use Rattle.l2_walk.specs.Nodes.{after_nodes}
use Rattle.l2_walk.proofs.Beginning.{begun, no_temps}
use Rattle.l2_walk.proofs.equations.walk.Goals as goal

pub returns-clause-steps : goal.returns-clause-steps
unfolding state_of
returns-clause-steps c =
    let code = c.args.code.now in
    let sets = c.args.sets.now in
    let out = ssa (code_of code) (family sets) c.args.copies (kinds_of c.args.kinds.now) c.args.ranks in
    let e : state_of c.nodes.new.walker ≡ put (begun code sets c.args.kinds.now c.args.copies c.args.ranks) out =
    c.in_ok-nodes.ensures
    ∙ (λ i. after_nodes (record {
      code = code;
      sets = sets;
      kinds = c.args.kinds.now;
      copies = c.args.copies;
      ranks = c.args.ranks;
      names = length (c.new.ensures.items i);
      steps = λ rest. steps_of (family sets) (c.new.ensures.items i) ++ rest;
      events = λ rest. events_of (c.new-2.ensures.items i) ++ rest;
      heads = λ rest. c.new-3.ensures.items i ++ rest;
      entries = λ rest. c.new-4.ensures.items i ++ rest;
      frames = frames_of (c.new-5.ensures.items i);
      walk = record { path = T; temps = (ap temps_of c.new-6.ensures.items ∙ no_temps) i; slots = (c.in_ok-slots.ensures ∙ ap first_slots c.as_slice.ensures) i };
    }) T (items_of (c.deref.ensures.value i))) in
    let items = c.nodes.new.walker.steps.items in
    let kept = ap (λ t. t.sets) e in
    sym (append-nil (steps_of (family sets) items)) ∙ ap (λ f. steps_of (family f) items ++ []) (sym kept) ∙ ap (λ t. t.steps []) e ∙ append-nil out.steps

pub returns-clause-events : goal.returns-clause-events
unfolding state_of
returns-clause-events c =
    let code = c.args.code.now in
    let sets = c.args.sets.now in
    let out = ssa (code_of code) (family sets) c.args.copies (kinds_of c.args.kinds.now) c.args.ranks in
    let e : state_of c.nodes.new.walker ≡ put (begun code sets c.args.kinds.now c.args.copies c.args.ranks) out =
    c.in_ok-nodes.ensures
    ∙ (λ i. after_nodes (record {
      code = code;
      sets = sets;
      kinds = c.args.kinds.now;
      copies = c.args.copies;
      ranks = c.args.ranks;
      names = length (c.new.ensures.items i);
      steps = λ rest. steps_of (family sets) (c.new.ensures.items i) ++ rest;
      events = λ rest. events_of (c.new-2.ensures.items i) ++ rest;
      heads = λ rest. c.new-3.ensures.items i ++ rest;
      entries = λ rest. c.new-4.ensures.items i ++ rest;
      frames = frames_of (c.new-5.ensures.items i);
      walk = record { path = T; temps = (ap temps_of c.new-6.ensures.items ∙ no_temps) i; slots = (c.in_ok-slots.ensures ∙ ap first_slots c.as_slice.ensures) i };
    }) T (items_of (c.deref.ensures.value i))) in
    sym (append-nil (events_of c.nodes.new.walker.events.items)) ∙ ap (λ t. t.events []) e ∙ append-nil out.events

pub returns-clause-heads : goal.returns-clause-heads
unfolding state_of
returns-clause-heads c =
    let code = c.args.code.now in
    let sets = c.args.sets.now in
    let out = ssa (code_of code) (family sets) c.args.copies (kinds_of c.args.kinds.now) c.args.ranks in
    let e : state_of c.nodes.new.walker ≡ put (begun code sets c.args.kinds.now c.args.copies c.args.ranks) out =
    c.in_ok-nodes.ensures
    ∙ (λ i. after_nodes (record {
      code = code;
      sets = sets;
      kinds = c.args.kinds.now;
      copies = c.args.copies;
      ranks = c.args.ranks;
      names = length (c.new.ensures.items i);
      steps = λ rest. steps_of (family sets) (c.new.ensures.items i) ++ rest;
      events = λ rest. events_of (c.new-2.ensures.items i) ++ rest;
      heads = λ rest. c.new-3.ensures.items i ++ rest;
      entries = λ rest. c.new-4.ensures.items i ++ rest;
      frames = frames_of (c.new-5.ensures.items i);
      walk = record { path = T; temps = (ap temps_of c.new-6.ensures.items ∙ no_temps) i; slots = (c.in_ok-slots.ensures ∙ ap first_slots c.as_slice.ensures) i };
    }) T (items_of (c.deref.ensures.value i))) in
    sym (append-nil c.nodes.new.walker.heads.items) ∙ ap (λ t. t.heads []) e ∙ append-nil out.heads

pub returns-clause-sets : goal.returns-clause-sets
unfolding state_of
returns-clause-sets c =
    let code = c.args.code.now in
    let sets = c.args.sets.now in
    let out = ssa (code_of code) (family sets) c.args.copies (kinds_of c.args.kinds.now) c.args.ranks in
    let e : state_of c.nodes.new.walker ≡ put (begun code sets c.args.kinds.now c.args.copies c.args.ranks) out =
    c.in_ok-nodes.ensures
    ∙ (λ i. after_nodes (record {
      code = code;
      sets = sets;
      kinds = c.args.kinds.now;
      copies = c.args.copies;
      ranks = c.args.ranks;
      names = length (c.new.ensures.items i);
      steps = λ rest. steps_of (family sets) (c.new.ensures.items i) ++ rest;
      events = λ rest. events_of (c.new-2.ensures.items i) ++ rest;
      heads = λ rest. c.new-3.ensures.items i ++ rest;
      entries = λ rest. c.new-4.ensures.items i ++ rest;
      frames = frames_of (c.new-5.ensures.items i);
      walk = record { path = T; temps = (ap temps_of c.new-6.ensures.items ∙ no_temps) i; slots = (c.in_ok-slots.ensures ∙ ap first_slots c.as_slice.ensures) i };
    }) T (items_of (c.deref.ensures.value i))) in
    ap (λ t. t.sets) e
