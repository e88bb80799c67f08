-- How an answer is printed: the rows of its point, its rankings, the values of an execution, and last a line with the verdict.
use Rattle.std.specs.Prelude.{◌≡◌, ℕ, suc, ◌==◌, Bool, true, false, if◌then◌else◌, ℤ, List, [], ◌∷◌, ◌++◌, codes, decimal, Option, Some, None}
use Rattle.std.specs.Fmt.{signed_decimal}
use Rattle.l2_syntax.specs.Places.{place_text}
use Rattle.l2_runs.specs.Kinds.{kind_text}
use Rattle.l2_runs.specs.Numbers.{at_number}
use Rattle.l2_program.specs.declared.program.CheckInfo.{CheckInfo}
use Rattle.l2_program.specs.Programs.{ProgramTree}
use Rattle.l2_templates.specs.declared.form.Form.{Form}
use Rattle.l2_templates.specs.declared.form.Row.{Row}
use Rattle.l2_templates.specs.declared.infer.Found.{Found}
use Rattle.l2_templates.specs.declared.point.LoopPoint.{LoopPoint}
use Rattle.l2_templates.specs.declared.point.LoopPoint.TheVariants.{Bottom, Rows}
use Rattle.l2_show.specs.Loops.{object_text}
use Rattle.l2_witness.specs.ValuesFile.{spelling}
use Rattle.l2_kiki.specs.declared.decision.Decision.{Decision}
use Rattle.l2_kiki.specs.declared.decision.Decision.TheVariants.{Safe, Unsafe, Terminating, Unwind, Size}
use Rattle.l2_status.specs.declared.status.Status.{Status}
use Rattle.l2_status.specs.declared.status.Status.TheVariants as status

-- ---- forms

abbrev pub first_sign : Bool → List ℕ
first_sign true = []
first_sign false = codes "-"

abbrev pub second_sign : Bool → List ℕ
second_sign true = codes "+"
second_sign false = codes "-"

-- the second variable with its sign, where there is one
abbrev pub second_text : ProgramTree → Form → List ℕ
second_text p f = if f.second == 0 then [] else second_sign f.second_plus ++ object_text p f.second

-- `x#1-y#2`
abbrev pub form_text : ProgramTree → Form → List ℕ
form_text p f = first_sign f.plus ++ (object_text p f.first ++ second_text p f)

-- ---- points

-- `KEYWORD NUMBER `, what a line of a loop begins with
abbrev pub loop_start : List ℕ → ℕ → List ℕ
loop_start keyword l = keyword ++ (codes " " ++ (decimal l ++ codes " "))

-- `invariant NUMBER FORM <= BOUND`, where the row has a bound
abbrev pub bound_text : ProgramTree → ℕ → Form → Option ℤ → List ℕ
bound_text p l f None = []
bound_text p l f (Some b) = loop_start (codes "invariant") l ++ (form_text p f ++ (codes " <= " ++ (signed_decimal b ++ codes "\n")))

abbrev pub rows_text : ProgramTree → ℕ → List Row → List ℕ
rows_text p l [] = []
rows_text p l (row ∷ rows) = bound_text p l row.form row.bound ++ rows_text p l rows

-- the lines of a loop: its rows, or that it isn't reached
abbrev pub loop_text : ProgramTree → ℕ → LoopPoint → List ℕ
loop_text p l Bottom = loop_start (codes "invariant") l ++ codes "false\n"
loop_text p l (Rows rows) = rows_text p l rows

-- the lines of all loops, where the first has this number
abbrev pub point_text : ProgramTree → ℕ → List LoopPoint → List ℕ
point_text p l [] = []
point_text p l (at ∷ rest) = loop_text p l at ++ point_text p (suc l) rest

-- ---- rankings

-- `rank NUMBER FORM` for each component
abbrev pub rank_text : ProgramTree → ℕ → List Form → List ℕ
rank_text p l [] = []
rank_text p l (f ∷ fs) = (loop_start (codes "rank") l ++ (form_text p f ++ codes "\n")) ++ rank_text p l fs

abbrev pub ranks_text : ProgramTree → ℕ → List (List Form) → List ℕ
ranks_text p l [] = []
ranks_text p l (fs ∷ rest) = rank_text p l fs ++ ranks_text p (suc l) rest

-- ---- verdicts

-- `VERDICT k=K`
abbrev pub verdict_line : List ℕ → ℕ → List ℕ
verdict_line verdict k = verdict ++ (codes " k=" ++ (decimal k ++ codes "\n"))

-- `UNSAFE k=K KIND LINE:COL`
abbrev pub unsafe_line : ℕ → CheckInfo → List ℕ
unsafe_line k c = codes "UNSAFE k=" ++ (decimal k ++ (codes " " ++ (kind_text c.kind ++ (codes " " ++ (place_text c.place ++ codes "\n")))))

-- the values of an execution, and the check that it breaks
pub record IsUnsafeText (p : ProgramTree) (k : ℕ) (found : Found) (output : List ℕ) : Type 0 where
  pub check : CheckInfo
  pub is_check : at_number p.checks found.check ≡ Some check
  pub said : output ≡ spelling found.turns found.choices ++ unsafe_line k check

-- how an answer ends a run, and what is printed of it
abbrev pub Says : ProgramTree → Decision → Status → List ℕ → Type 0
Says p (Safe k q) s output = (s ≡ status.Fine) × (output ≡ point_text p 1 q ++ verdict_line (codes "SAFE") k)
Says p (Unsafe k found) s output = (s ≡ status.Unsafe) × IsUnsafeText p k found output
Says p (Terminating k q ranks) s output = (s ≡ status.Fine) × (output ≡ point_text p 1 q ++ (ranks_text p 1 ranks ++ verdict_line (codes "TERMINATING") k))
Says p (Unwind k) s output = (s ≡ status.Unknown) × (output ≡ verdict_line (codes "UNKNOWN unwind") k)
Says p (Size k) s output = (s ≡ status.Unknown) × (output ≡ verdict_line (codes "UNKNOWN size") k)
