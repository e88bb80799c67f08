-- What a walk has made so far, and what it is behind a walk.
use Rattle.std.specs.Prelude.{ℕ, suc, Bool, List, [], ◌∷◌, ◌++◌, length, slice_index_or}
use Rattle.l2_code.specs.declared.action.Operand.{Operand}
use Rattle.l2_code.specs.declared.code.Code.{Code}
use Rattle.l2_code.specs.declared.sets.Sets.{Sets}
use Rattle.l2_code.specs.Trees.{code_of}
use Rattle.l2_code.specs.Sets.{family}
use Rattle.l2_ssa.specs.declared.goal.Kind.{Kind}
use Rattle.l2_walker.specs.declared.walker.Walker.{Walker}
use Rattle.l2_walker.specs.declared.walker.Frame as rust
use Rattle.l2_walker.specs.declared.walker.Frame.TheVariants as frame
use Rattle.l2_ssa.specs.Steps.{Step}
use Rattle.l2_ssa.specs.Walks.{Setting, Walk, Entry, Event, Out, Written, Frame, Block, Last, Early, F, past, scatter, head_rows}
use Rattle.l2_ssa.specs.Views.{steps_of, events_of, kinds_of}
use Rattle.l2_ssa.specs.Law.{setting_of}

-- what is walked and with what, how many names there are, the lists made so far as what they are in front of a rest, the frames
-- round the place, and where the walk stands
pub record State : Type 0 where
  pub code : Code
  pub sets : Sets
  pub kinds : List Kind
  pub copies : ℕ
  pub ranks : Bool
  pub names : ℕ
  pub steps : List Step → List Step
  pub events : List Event → List Event
  pub heads : List Operand → List Operand
  pub entries : List Entry → List Entry
  pub frames : List Frame
  pub walk : Walk

abbrev pub frame_of : rust.Frame → Frame
frame_of frame.Block = Block
frame_of frame.Last = Last
frame_of (frame.Early b) = Early b

-- the innermost frame stands last in the code's list, and first here
abbrev pub frames_onto : List rust.Frame → List Frame → List Frame
frames_onto [] fs = fs
frames_onto (x ∷ xs) fs = frames_onto xs (frame_of x ∷ fs)

abbrev pub frames_of : List rust.Frame → List Frame
frames_of xs = frames_onto xs []

abbrev pub temps_of : List Operand → ℕ → Operand
temps_of xs n = slice_index_or xs n F

unfoldable pub state_of : Walker → State
state_of w = record {
  code = w.code.now;
  sets = w.sets.now;
  kinds = w.kinds.now;
  copies = w.copies;
  ranks = w.ranks;
  names = length w.steps.items;
  steps = λ rest. steps_of (family w.sets.now) w.steps.items ++ rest;
  events = λ rest. events_of w.events.items ++ rest;
  heads = λ rest. w.heads.items ++ rest;
  entries = λ rest. w.entries.items ++ rest;
  frames = frames_of w.frames.items;
  walk = record { path = w.path; temps = temps_of w.temps.items; slots = w.slots.items };
}

abbrev pub setting : State → Setting
setting s = setting_of (code_of s.code) (family s.sets) s.copies (kinds_of s.kinds) s.ranks

-- with one more step
abbrev pub emitted : State → Step → State
emitted s x = record s { names = suc s.names; steps = λ rest. s.steps (x ∷ rest) }

-- with more steps
abbrev pub extended : State → List Step → State
extended s xs = record s { names = past s.names xs; steps = λ rest. s.steps (xs ++ rest) }

-- where the walk stands so
abbrev pub standing : State → Walk → State
standing s w = record s { walk = w }

abbrev pub with_event : State → Event → State
with_event s e = record s { events = λ rest. s.events (e ∷ rest) }

abbrev pub with_entry : State → Entry → State
with_entry s e = record s { entries = λ rest. s.entries (e ∷ rest) }

abbrev pub with_head : State → Operand → State
with_head s p = record s { heads = λ rest. s.heads (p ∷ rest) }

abbrev pub within : State → Frame → State
within s f = record s { frames = f ∷ s.frames }

-- behind a walk from here
abbrev pub put : State → Out → State
put s o = record s {
  names = past s.names o.steps;
  steps = λ rest. s.steps (o.steps ++ rest);
  events = λ rest. s.events (o.events ++ rest);
  heads = λ rest. s.heads (o.heads ++ rest);
  entries = λ rest. s.entries (o.entries ++ rest);
  walk = o.after;
}

-- behind a walk that makes steps alone
abbrev pub moved : State → Out → State
moved s o = record s { names = past s.names o.steps; steps = λ rest. s.steps (o.steps ++ rest); walk = o.after }

abbrev pub written : State → Written → State
written s r = record s { names = past s.names r.steps; steps = λ rest. s.steps (r.steps ++ rest); walk = r.walk }

-- behind the head of a loop with so many rows, where it may start back
abbrev pub started : State → Operand → Operand → ℕ → ℕ → State
started s p b l rows =
    let x = moved s (scatter (setting s) p b ((setting s).mods l) s.names s.walk) in
    written x (head_rows (setting s) p b l 1 rows x.names x.walk)
