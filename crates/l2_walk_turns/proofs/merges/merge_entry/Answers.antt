use Rattle.std.proofs.Common.{◌∙◌, ap, sym, [], ◌∷◌, ◌++◌}
use Rattle.std.proofs.lemmas.List.{append_assoc}
use Rattle.l2_code.specs.declared.action.Operand.TheVariants.{Temp}
use Rattle.l2_ssa.specs.Steps.{Either}
use Rattle.l2_ssa.specs.Walks.{merge_slots, merge_flags, merged_slots, past, with_path}
use Rattle.l2_walk_turns.specs.Labels.{cells_merged, flags_merged, zipped}
use Rattle.l2_walker.specs.Made.{state_of, setting, emitted, extended, standing}
use Rattle.l2_walker.proofs.States.{past_app}
use Rattle.l2_walk_turns.proofs.Merging.{slots_are}
use Rattle.l2_walk_turns.proofs.merges.merge_entry.Goals as goal

pub returns : goal.returns
returns c =
    let s = state_of c.args.walker.now in
    let e = c.args.entry.now in
    let own = c.deref.ensures.value ∙ c.take_slots-own.ensures.slots in
    let own2 = c.deref-2.ensures.value ∙ c.take_slots-own.ensures.slots in
    let bs = c.slots-brought.ensures in
    let k1 = c.take_slots-own.ensures.rest in
    let k2 = c.in_ok-cells.ensures.steps ∙ (λ i. extended (k1 i) (merge_slots (setting (k1 i)) ((k1 i).walk.path) (c.path.ensures i) 1 (bs i) (own i))) in
    let cells = c.in_ok-cells.ensures.cells ∙ (λ i. cells_merged (setting (k1 i)) ((k1 i).walk.path) (c.path.ensures i) ((k1 i).names) 1 (bs i) (own i)) in
    let k3 = c.in_ok-flags.ensures.steps ∙ (λ i. extended (k2 i) (merge_flags ((k2 i).walk.path) (c.path-2.ensures i) (bs i) (own2 i))) in
    let flags = c.deref-3.ensures.value ∙ c.in_ok-flags.ensures.flags ∙ (λ i. flags_merged ((k2 i).names) (bs i) (own2 i)) in
    let cs = merge_slots (setting s) s.walk.path e.path 1 e.slots s.walk.slots in
    let fl = merge_flags s.walk.path e.path e.slots s.walk.slots in
    let slots = c.in_ok-zipped.ensures ∙ (λ i. zipped (cells i) (flags i)) ∙ slots_are (setting s) s.walk.path e.path s.names (past s.names cs) 1 e.slots s.walk.slots in
    let k4 = c.put_slots.ensures ∙ (λ i. standing (k3 i) (record (k3 i).walk { slots = slots i })) in
    let k5 = c.in_ok-on.ensures.steps ∙ (λ i. emitted (k4 i) (Either (c.path-path.ensures i) (c.path-3.ensures i))) in
    let a5 = c.in_ok-on.ensures.name ∙ (λ i. Temp ((k4 i).names)) in
    let k6 = c.set_path.ensures ∙ (λ i. standing (k5 i) (with_path ((k5 i).walk) (a5 i))) in
    k6 ∙ (λ i. record s {
      names = sym (past_app s.names cs (fl ++ Either s.walk.path e.path ∷ []) ∙ past_app (past s.names cs) fl (Either s.walk.path e.path ∷ [])) i;
      steps = λ rest. s.steps ((ap (λ t. cs ++ t) (sym (append_assoc fl (Either s.walk.path e.path ∷ []) rest)) ∙ sym (append_assoc cs (fl ++ Either s.walk.path e.path ∷ []) rest)) i);
      walk = record s.walk {
        path = Temp (past (past s.names cs) fl);
        slots = merged_slots (setting s) s.walk.path e.path s.names (past s.names cs) 1 e.slots s.walk.slots;
      };
    })
