-- Loops: their heads, their copies one by one, and what is behind them.
use Rattle.std.proofs.Common.{arith, ◌≡◌, ℕ, zero, suc, ◌-◌, ◌<◌, Bool, refl, sym, ap, ◌∙◌, subst, List, ◌∷◌, ◌++◌}
use Rattle.std.specs.Prelude.{◌==◌}
use Rattle.std.proofs.lemmas.List.{append_assoc}
use Rattle.l2_code.specs.declared.action.Operand.{Operand}
use Rattle.l2_code.specs.declared.action.Operand.TheVariants.{Temp}
use Rattle.l2_code.specs.Trees.{Loop, Nodes}
use Rattle.l2_ssa.specs.Steps.{Step, Choose}
use Rattle.l2_ssa.specs.Walks.{Kind, Bottom, Plain, Rows, nothing, Slot, Frame, Out, past, joined, is_last, copy_frame, count_steps, count_name, end_turn, scatter, head_rows, walk, walk_copies, walk_loop}
use Rattle.l2_walker.specs.Made.{State, setting, put, extended}
use Rattle.l2_walk.specs.Nodes.{after_node, after_nodes, back_of, entered, entered_turn, left_turn, turns_left}
use Rattle.l2_walker.proofs.States.{past_app, put_joined}

-- one copy more
pub turn_more : (s : State) (l : ℕ) (all : Nodes) (kind : Kind) (b c : Operand) (temps : ℕ → Operand) (k : ℕ)
    → turns_left s l all kind b c temps (suc k)
    ≡ turns_left
    (left_turn (after_nodes (entered_turn s (is_last k) b c temps) (count_name (is_last k) c s.names) all) s.frames kind (count_name (is_last k) c s.names) l s.walk.slots)
    l all kind b c temps k
turn_more s l all kind b c temps k =
    (λ i. record s {
      names = past_app s.names x (o.steps ++ (p.steps ++ q.steps)) i;
      steps = λ rest. s.steps (append_assoc x (o.steps ++ (p.steps ++ q.steps)) rest i);
      events = λ rest. s.events ((o.events ++ (p.events ++ q.events)) ++ rest);
      heads = λ rest. s.heads (s.walk.path ∷ ((o.heads ++ (p.heads ++ q.heads)) ++ rest));
      entries = λ rest. s.entries ((o.entries ++ (p.entries ++ q.entries)) ++ rest);
      walk = q.after;
    })
    ∙ put_joined s1 nothing o (joined nothing p q)
    ∙ put_joined (put s1 o) nothing p q
  where
    x : List Step
    x = count_steps (is_last k) s.walk.path b c

    d : Operand
    d = count_name (is_last k) c s.names

    s1 : State
    s1 = record (extended s x) { heads = λ rest. s.heads (s.walk.path ∷ rest) }

    o : Out
    o = walk (setting s) all (copy_frame (is_last k) b ∷ s.frames) d (past s.names x) (record s.walk { temps = temps })

    p : Out
    p = end_turn (setting s) kind d l s.walk.slots (past (past s.names x) o.steps) o.after

    q : Out
    q = walk_copies (setting s) (λ f d m v. walk (setting s) all (f ∷ s.frames) d m v) l kind b c temps k (past (past (past s.names x) o.steps) p.steps) p.after

-- from the head of a loop on
pub loop_is : (s : State) (l : ℕ) (all : Nodes) (c : Operand) (kind : Kind) → (setting s).kind l ≡ kind
    → turns_left (entered s kind l) l all kind (back_of kind s.names) c s.walk.temps (setting s).copies ≡ after_node s c (Loop l all)
loop_is s l all c kind e = by kind ∙ ap (λ kd. put s (walk_loop (setting s) kd (λ f d m v. walk (setting s) all (f ∷ s.frames) d m v) l c s.names s.walk)) (sym e)
  where
    by : (kd : Kind) → turns_left (entered s kd l) l all kd (back_of kd s.names) c s.walk.temps (setting s).copies
        ≡ put s (walk_loop (setting s) kd (λ f d m v. walk (setting s) all (f ∷ s.frames) d m v) l c s.names s.walk)
    by Bottom = refl
    by Plain = refl
    by (Rows rows) =
        let sc = scatter (setting s) s.walk.path (Temp s.names) ((setting s).mods l) (suc s.names) s.walk in
        let n1 = past (suc s.names) sc.steps in
        let h = head_rows (setting s) s.walk.path (Temp s.names) l 1 rows n1 sc.after in
        let o = walk_copies (setting s) (λ f d m v. walk (setting s) all (f ∷ s.frames) d m v) l (Rows rows) (Temp s.names) c s.walk.temps (setting s).copies (past n1 h.steps) h.walk in
        λ i. record s {
          names = (sym (past_app (suc s.names) sc.steps (h.steps ++ o.steps) ∙ past_app n1 h.steps o.steps)) i;
          steps = λ rest. s.steps (Choose s.walk.path ∷ (ap (λ t. sc.steps ++ t) (sym (append_assoc h.steps o.steps rest)) ∙ sym (append_assoc sc.steps (h.steps ++ o.steps) rest)) i);
          events = λ rest. s.events (o.events ++ rest);
          heads = λ rest. s.heads (o.heads ++ rest);
          entries = λ rest. s.entries (o.entries ++ rest);
          walk = o.after;
        }

last_is : (k : ℕ) (last : Bool) → (k == 0) ≡ last → is_last k ≡ last
last_is zero last e = e
last_is (suc k) last e = grind (arith, e)

-- the same, where the copies are counted down
pub turn_less : (s : State) (l : ℕ) (all : Nodes) (kind : Kind) (b c : Operand) (temps : ℕ → Operand) (n : ℕ) → 0 < n → (last : Bool) → (n - 1 == 0) ≡ last
    → turns_left s l all kind b c temps n
    ≡ turns_left
    (left_turn (after_nodes (entered_turn s last b c temps) (count_name last c s.names) all) s.frames kind (count_name last c s.names) l s.walk.slots)
    l all kind b c temps (n - 1)
turn_less s l all kind b c temps zero h last e = absurd (omega (arith, h))
turn_less s l all kind b c temps (suc k) h last e =
    subst (λ j. turns_left s l all kind b c temps (suc k) ≡ behind_copy last j) (omega arith)
    (turn_more s l all kind b c temps k ∙ ap (λ x. behind_copy x k) (last_is k last (subst (λ j. (j == 0) ≡ last) (omega arith) e)))
  where
    behind_copy : Bool → ℕ → State
    behind_copy x j =
        turns_left
        (left_turn (after_nodes (entered_turn s x b c temps) (count_name x c s.names) all) s.frames kind (count_name x c s.names) l s.walk.slots)
        l all kind b c temps j

-- from one copy's head to its end
pub copy_step : (s s1 s2 s3 : State) (l : ℕ) (all : Nodes) (kind : Kind) (b c d : Operand) (temps : ℕ → Operand) (old : List Slot) (n : ℕ) (last : Bool)
    → 0 < n → (n - 1 == 0) ≡ last → s1 ≡ entered_turn s last b c temps → d ≡ count_name last c s.names → old ≡ s.walk.slots → s2 ≡ after_nodes s1 d all
    → ((f : Frame) (fs : List Frame) → s2.frames ≡ f ∷ fs → s3 ≡ left_turn s2 fs kind d l old)
    → turns_left s3 l all kind b c temps (n - 1) ≡ turns_left s l all kind b c temps n
copy_step s s1 s2 s3 l all kind b c d temps old n last some e e1 ed eo e2 e3 =
    (λ i. turns_left (closed i) l all kind b c temps (n - 1)) ∙ sym (turn_less s l all kind b c temps n some last e)
  where
    inside : s2 ≡ after_nodes (entered_turn s last b c temps) (count_name last c s.names) all
    inside = e2 ∙ (λ i. after_nodes (e1 i) (ed i) all)

    closed : s3 ≡ left_turn (after_nodes (entered_turn s last b c temps) (count_name last c s.names) all) s.frames kind (count_name last c s.names) l s.walk.slots
    closed = e3 (copy_frame last b) s.frames (ap (λ t. t.frames) inside) ∙ (λ i. left_turn (inside i) s.frames kind (ed i) l (eo i))

pub entered_copies : (s : State) (kind : Kind) (l : ℕ) → (entered s kind l).copies ≡ s.copies
entered_copies s Bottom l = refl
entered_copies s Plain l = refl
entered_copies s (Rows rows) l = refl
