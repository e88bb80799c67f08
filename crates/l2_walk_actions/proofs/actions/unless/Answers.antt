use Rattle.std.proofs.Common.{◌≡◌, ◌∙◌, sym, subst, suc, [], ◌∷◌}
use Rattle.std.proofs.lemmas.List.{append_assoc}
use Rattle.std.specs.Result.{OnOk}
use Rattle.l2_code.specs.declared.action.Operand.TheVariants.{Temp}
use Rattle.l2_ssa.specs.Steps.{Both, But}
use Rattle.l2_ssa.specs.Walks.{leave_steps, leave_path, entry, stepped, with_path, past}
use Rattle.l2_walker.specs.Made.{state_of, emitted, extended, with_entry, put}
use Rattle.l2_walker.proofs.States.{past_app}
use Rattle.l2_walk_actions.proofs.actions.unless.Goals as goal

pub returns : goal.returns
returns c =
    let s = state_of c.args.walker.now in
    let d = c.args.blocks in
    let k1 = c.in_ok-off.ensures.steps ∙ (λ i. emitted s (But (c.path-path.ensures i) c.args.holds)) in
    let k2 = c.in_ok-out.ensures.steps ∙ (λ i. extended (k1 i) (leave_steps ((k1 i).frames) d (c.in_ok-off.ensures.name i) ((k1 i).names))) in
    let a2 = c.in_ok-out.ensures.path ∙ (λ i. leave_path ((k1 i).frames) d (c.in_ok-off.ensures.name i) ((k1 i).names)) in
    let k3 = c.in_ok-add_entry.ensures ∙ (λ i. with_entry (k2 i) (entry d (a2 i) ((k2 i).walk))) in
    let gone = leave_steps s.frames d (Temp s.names) (suc s.names) in
    subst (λ t. OnOk c.assume.result (state_of c.assume.new.walker ≡ t))
    ((λ i. put (k3 i) (stepped (Both ((k3 i).walk.path) c.args.holds ∷ []) (with_path ((k3 i).walk) (Temp ((k3 i).names)))))
    ∙ (λ i. record s {
      names = sym (past_app (suc s.names) gone (Both s.walk.path c.args.holds ∷ [])) i;
      steps = λ rest. s.steps (But s.walk.path c.args.holds ∷ sym (append_assoc gone (Both s.walk.path c.args.holds ∷ []) rest) i);
      entries = λ rest. s.entries (entry d (leave_path s.frames d (Temp s.names) (suc s.names)) s.walk ∷ rest);
      walk = with_path s.walk (Temp (past (suc s.names) gone));
    }))
    c.assume.ensures
