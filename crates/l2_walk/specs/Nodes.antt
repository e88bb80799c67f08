-- What has been made behind code.
use Rattle.std.specs.Prelude.{◌≡◌, ℕ, Bool, List, ◌∷◌, Some}
use Rattle.l2_code.specs.declared.action.Operand.{Operand}
use Rattle.l2_code.specs.declared.action.Operand.TheVariants.{Temp}
use Rattle.l2_code.specs.Trees.{Node, Nodes}
use Rattle.l2_ssa.specs.Steps.{Choose}
use Rattle.l2_ssa.specs.Walks.{Kind, Bottom, Plain, Rows, Slot, Frame, F, walk_node, walk, walk_copies, copy_frame, count_steps, end_turn}
use Rattle.l2_ssa.specs.Views.{kind_of}
use Rattle.l2_walk.specs.declared.nodes.Turns.{Turns}
use Rattle.l2_walker.specs.Made.{State, setting, emitted, extended, put, started, temps_of}

abbrev pub after_node : State → Operand → Node → State
after_node s c x = put s (walk_node (setting s) x s.frames c s.names s.walk)

abbrev pub after_nodes : State → Operand → Nodes → State
after_nodes s c xs = put s (walk (setting s) xs s.frames c s.names s.walk)

-- whether a loop starts back, where the next name is this one
abbrev pub back_of : Kind → ℕ → Operand
back_of Bottom n = F
back_of Plain n = F
back_of (Rows rows) n = Temp n

-- behind the head of a loop of this kind
abbrev pub entered : State → Kind → ℕ → State
entered s Bottom l = s
entered s Plain l = s
entered s (Rows rows) l = started (emitted s (Choose s.walk.path)) s.walk.path (Temp s.names) l rows

-- a loop whose copies are walked from here
pub record IsLoop (s : State) (l : ℕ) (c : Operand) (t : Turns) : Type 0 where
  pub number : t.number ≡ l
  pub kind : kind_of (Some t.kind) ≡ (setting s).kind l
  pub back : t.back ≡ back_of ((setting s).kind l) s.names
  pub counting : t.counting ≡ c
  pub temps : temps_of t.temps.items ≡ s.walk.temps

-- in a copy, the last one or an earlier one, of a loop that starts back or doesn't, and counts there
abbrev pub entered_turn : State → Bool → Operand → Operand → (ℕ → Operand) → State
entered_turn s last b c temps = record (extended s (count_steps last s.walk.path b c)) {
  heads = λ rest. s.heads (s.walk.path ∷ rest);
  frames = copy_frame last b ∷ s.frames;
  walk = record s.walk { temps = temps };
}

-- behind a copy, in these frames
abbrev pub left_turn : State → List Frame → Kind → Operand → ℕ → List Slot → State
left_turn s fs kind c l old = put (record s { frames = fs }) (end_turn (setting s) kind c l old s.names s.walk)

-- behind so many copies
abbrev pub turns_left : State → ℕ → Nodes → Kind → Operand → Operand → (ℕ → Operand) → ℕ → State
turns_left s l all kind b c temps k = put s (walk_copies (setting s) (λ f d m v. walk (setting s) all (f ∷ s.frames) d m v) l kind b c temps k s.names s.walk)
