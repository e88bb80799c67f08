-- Going through lines, one after another.
use Rattle.std.specs.Prelude.{◌≡◌, ℕ, suc, if◌then◌else◌, List, [], ◌∷◌, Result, Ok, Err}
use Rattle.l2_program.specs.Programs.{ProgramTree}
use Rattle.l2_fitting.specs.declared.passing.NameError.{NameError}
use Rattle.l2_fitting.specs.declared.passing.NameError.TheVariants.{BadName, NoMemory}
use Rattle.l2_fitting.specs.Said.{Said}
use Rattle.l2_fitting.specs.Fitting.{fits}

-- from line n on: the number behind the last line, or that of the first that doesn't fit
abbrev pub pass : ProgramTree → ℕ → List Said → Result ℕ ℕ
pass p n [] = Ok n
pass p n (s ∷ rest) = if fits p s then pass p (suc n) rest else Err n

-- an answer that tells this, or that memory is wanting
abbrev pub Tells : Result ℕ NameError → Result ℕ ℕ → Type 0
Tells (Ok n) x = x ≡ Ok n
Tells (Err (BadName line)) x = x ≡ Err line
Tells (Err NoMemory) x = Unit {0}
