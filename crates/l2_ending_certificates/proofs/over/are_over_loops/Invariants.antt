use Rattle.std.proofs.Common.{◌≡◌, ℕ, ◌<◌, Some, []}
use Rattle.std.specs.Prelude.{slice_get, slice_index_or}
use Rattle.l2_code.specs.declared.code.CodeLoop.{CodeLoop}
use Rattle.l2_ending_certificates.specs.Over.{AreOver}
use Rattle.l2_ending_certificates.proofs.over.are_over_loops.Given as goal

abbrev pub invariant-loop-i : goal.invariant-loop-i
invariant-loop-i l = (j : ℕ) (info : CodeLoop) → j < l.i → slice_get l.loops j ≡ Some info → AreOver info.vars (slice_index_or l.ranks j [])
