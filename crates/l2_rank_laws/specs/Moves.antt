-- What the turns of a program's loops do to forms, as an engine is asked about it.
use Rattle.std.specs.Prelude.{ℕ, Bool, true, false, ◌&&◌, List}
use Rattle.l2_runs.specs.declared.member.Member.{Member}
use Rattle.l2_runs.specs.Store.{Store}
use Rattle.l2_program.specs.Programs.{ProgramTree}
use Rattle.l2_templates.specs.declared.form.Form.{Form}
use Rattle.l2_templates.specs.declared.point.LoopPoint.{LoopPoint}
use Rattle.l2_cuts.specs.Rankings.{rises, falls, keep_all, SomeTurn}

-- the form rises on a turn, or falls
abbrev pub moves : Bool → Form → Store → Store → Bool
moves true f old new = rises f old new
moves false f old new = falls f old new

-- on some turn of the loop, one that counts, these forms keep their values and one more rises, or falls
abbrev pub SomeMove : ProgramTree → (ℕ → Member → Bool) → ℕ → List LoopPoint → ℕ → List Form → Form → Bool → Type 0
SomeMove p sets k q l fs f up = SomeTurn p sets k q l (λ old new. keep_all fs old new && moves up f old new)

-- on some turn of the loop, one that counts, these forms keep their values
abbrev pub SomeStay : ProgramTree → (ℕ → Member → Bool) → ℕ → List LoopPoint → ℕ → List Form → Type 0
SomeStay p sets k q l fs = SomeTurn p sets k q l (keep_all fs)
