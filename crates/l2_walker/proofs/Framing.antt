-- Frames as the code keeps them: the innermost last.
use Rattle.std.proofs.Common.{◌≡◌, refl, List, [], ◌∷◌, ◌++◌}
use Rattle.l2_ssa.specs.Walks.{Frame}
use Rattle.l2_walker.specs.declared.walker.Frame as rust
use Rattle.l2_walker.specs.Made.{frame_of, frames_onto, frames_of}

pub onto_last : (xs : List rust.Frame) (f : rust.Frame) (fs : List Frame) → frames_onto (xs ++ f ∷ []) fs ≡ frame_of f ∷ frames_onto xs fs
onto_last [] f fs = refl
onto_last (x ∷ xs) f fs = onto_last xs f (frame_of x ∷ fs)

pub last_frame : (xs : List rust.Frame) (f : rust.Frame) → frames_of (xs ++ f ∷ []) ≡ frame_of f ∷ frames_of xs
last_frame xs f = onto_last xs f []
