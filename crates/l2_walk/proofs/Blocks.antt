-- Blocks: the entries that arrive at their labels.
use Rattle.std.proofs.Common.{◌≡◌, ℕ, sym, ap, ◌∙◌, List, [], ◌∷◌, ◌++◌}
use Rattle.std.proofs.lemmas.List.{append_assoc, append-nil}
use Rattle.l2_code.specs.declared.action.Operand.{Operand}
use Rattle.l2_code.specs.Trees.{Nodes}
use Rattle.l2_code.specs.Trees as code
use Rattle.l2_ssa.specs.Walks.{Frame, Entry, Out, Written, Block, merge_all, outer, past, walk}
use Rattle.l2_walker.specs.Made.{State, setting, put, within, standing}
use Rattle.l2_walk.specs.Nodes.{after_node, after_nodes}
use Rattle.l2_walk_turns.specs.Labels.{landed}
use Rattle.l2_walker.proofs.States.{past_app}

-- behind a block whose label all its entries have reached
pub block_is : (s : State) (c : Operand) (all : Nodes) (outside : List Entry) → ((rest : List Entry) → s.entries rest ≡ outside ++ rest) → (temps : ℕ → Operand) → temps ≡ s.walk.temps
    → (let o = walk (setting s) all (Block ∷ s.frames) c s.names s.walk in
    let b = landed (record (put s o) { entries = λ rest. outside ++ rest }) o.entries in
    standing b (record b.walk { temps = temps }) ≡ after_node s c (code.Block all))
block_is s c all outside e temps q = λ i. record s {
  names = sym (past_app s.names o.steps m.steps) i;
  steps = λ rest. s.steps (sym (append_assoc o.steps m.steps rest) i);
  events = λ rest. s.events (o.events ++ rest);
  heads = λ rest. s.heads (o.heads ++ rest);
  entries = λ rest. sym (e (outer o.entries ++ rest)) i;
  walk = record m.walk { temps = q i };
}
  where
    o : Out
    o = walk (setting s) all (Block ∷ s.frames) c s.names s.walk

    m : Written
    m = merge_all (setting s) o.entries (past s.names o.steps) o.after

-- from a block's start to behind its end
pub block_steps : (s s1 s2 s3 s4 s5 s6 s7 : State) (c : Operand) (all : Nodes) (outside inside : List Entry) (temps : ℕ → Operand)
    → s1 ≡ record s { entries = λ rest. rest } → ((rest : List Entry) → s.entries rest ≡ outside ++ rest) → temps ≡ s1.walk.temps → s2 ≡ within s1 Block → s3 ≡ after_nodes s2 c all
    → ((f : Frame) (fs : List Frame) → s3.frames ≡ f ∷ fs → s4 ≡ record s3 { frames = fs })
    → ((rest : List Entry) → s4.entries rest ≡ inside ++ rest) → s5 ≡ record s4 { entries = λ rest. outside ++ rest } → s6 ≡ landed s5 inside
    → s7 ≡ standing s6 (record s6.walk { temps = temps })
    → s7 ≡ after_node s c (code.Block all)
block_steps s s1 s2 s3 s4 s5 s6 s7 c all outside inside temps e1 eo et e2 e3 e4 ei e5 e6 e7 =
    e7 ∙ (λ i. standing (closed6 i) (record (closed6 i).walk { temps = temps })) ∙ block_is s c all outside eo temps (et ∙ ap (λ t. t.walk.temps) e1)
  where
    o : Out
    o = walk (setting s) all (Block ∷ s.frames) c s.names s.walk

    closed3 : s3 ≡ after_nodes (within (record s { entries = λ rest. rest }) Block) c all
    closed3 = e3 ∙ (λ i. after_nodes ((e2 ∙ ap (λ t. within t Block) e1) i) c all)

    closed4 : s4 ≡ record (put s o) { entries = λ rest. o.entries ++ rest }
    closed4 = e4 Block s.frames (ap (λ t. t.frames) closed3) ∙ (λ i. record (closed3 i) { frames = s.frames })

    in_is : inside ≡ o.entries
    in_is = sym (append-nil inside) ∙ sym (ei []) ∙ ap (λ t. t.entries []) closed4 ∙ append-nil o.entries

    closed6 : s6 ≡ landed (record (put s o) { entries = λ rest. outside ++ rest }) o.entries
    closed6 = e6 ∙ (λ i. landed ((e5 ∙ (λ j. record (closed4 j) { entries = λ rest. outside ++ rest })) i) (in_is i))
