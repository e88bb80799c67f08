-- Which certificates are accepted for a program, and why others aren't.
use Rattle.std.specs.Prelude.{◌≡◌, ◌≢◌, ℕ, ◌<◌, ◌≤◌, List, length, Option, Some, None}
use Rattle.l2_program.specs.Programs.{ProgramTree}
use Rattle.l2_templates.specs.declared.form.Form.{Form}
use Rattle.l2_code.specs.Trees.{CodeTree}
use Rattle.l2_code.specs.Sets.{Family, IsResolved, IsClosed, IsInside}
use Rattle.l2_code.specs.Sizes.{instructions, size}
use Rattle.l2_unwind.specs.Refused.{most_weight}
use Rattle.l2_lower.specs.Output.{most_instructions}
use Rattle.l2_lower.specs.Code.{code}
use Rattle.l2_cert.specs.declared.cert.Cert.{Cert}
use Rattle.l2_cert.specs.declared.cert.CertKind.{CertKind}
use Rattle.l2_cert.specs.declared.cert.CertKind.TheVariants.{Safe, Terminating}
use Rattle.l2_fitting.specs.Fitting.{NamesFit, IsBadName}
use Rattle.l2_goals.specs.Formulas.{Formulas, formulas}
use Rattle.l2_goals.specs.Numbers.{all_numbers, row_counts}
use Rattle.l2_derivations.specs.Goals.{Goals, AllHold, BreaksAt, StaysOpen}
use Rattle.l2_check.specs.declared.checking.CheckError.{CheckError}
use Rattle.l2_check.specs.declared.checking.CheckError.TheVariants.{BadName, Size, WrongGoals, BadStep, Unclosed, NoMemory}

-- the least family of sets that is closed over a code
pub record IsLeast (c : CodeTree) (f : Family) : Type 0 where
  pub resolved : IsResolved c f
  pub least : (g : Family) → IsClosed c g → IsInside f g

-- a program's code, which isn't too large by itself, with its least sets
pub record Basis (p : ProgramTree) : Type 0 where
  pub tree : CodeTree
  pub is_code : tree ≡ code p
  pub few : instructions tree.body ≤ most_instructions
  pub sets : Family
  pub least : IsLeast tree sets

-- rankings, where the certificate is one of termination
abbrev pub ranks_of_kind : CertKind → List (List Form) → Option (List (List Form))
ranks_of_kind Safe ranks = None
ranks_of_kind Terminating ranks = Some ranks

abbrev pub ranks_of : Cert → Option (List (List Form))
ranks_of c = ranks_of_kind c.kind c.ranks

-- ---- over a code and its sets

-- the formulas of the goals at a certificate's point
unfoldable pub formulas_at : CodeTree → Family → Cert → Formulas
formulas_at t f c = formulas t f c.k c.point (ranks_of c)

-- what the code weighs with the certificate's copies and rows
unfoldable pub weight_at : CodeTree → Family → Cert → ℕ
weight_at t f c = size t f c.k (row_counts c.point)

-- the formulas with the certificate's steps
abbrev pub problem_of : Formulas → Cert → Goals
problem_of fs c = record { base = all_numbers fs.base; variables = fs.variables; last = all_numbers fs.last; steps = c.goals }

abbrev pub problem_at : CodeTree → Family → Cert → Goals
problem_at t f c = problem_of (formulas_at t f c) c

abbrev pub goals_wanted : CodeTree → Family → Cert → ℕ
goals_wanted t f c = length (formulas_at t f c).last

-- there are as many goals as are wanted, of a code that isn't too large
pub record IsCounted (t : CodeTree) (f : Family) (c : Cert) : Type 0 where
  pub small : weight_at t f c ≤ most_weight
  pub counted : length c.goals ≡ goals_wanted t f c

-- and each is refuted by its steps
pub record IsPassed (t : CodeTree) (f : Family) (c : Cert) : Type 0 where
  pub is_counted : IsCounted t f c
  pub refuted : AllHold (problem_at t f c) 0 (length c.goals)

-- so many goals where so many are wanted
pub record IsMiscounted (t : CodeTree) (f : Family) (c : Cert) (have want : ℕ) : Type 0 where
  pub small : weight_at t f c ≤ most_weight
  pub have_is : have ≡ length c.goals
  pub want_is : want ≡ goals_wanted t f c
  pub differ : have ≢ want

-- the first thing that fails; want of memory is free
abbrev pub IsFailed : CodeTree → Family → Cert → CheckError → Type 0
IsFailed t f c (BadName line) = ⊥
IsFailed t f c Size = most_weight < weight_at t f c
IsFailed t f c (WrongGoals have want) = IsMiscounted t f c have want
IsFailed t f c (BadStep goal step) = IsCounted t f c × BreaksAt (problem_at t f c) 0 (length c.goals) goal step
IsFailed t f c (Unclosed goal) = IsCounted t f c × StaysOpen (problem_at t f c) 0 (length c.goals) goal
IsFailed t f c NoMemory = Unit {0}

-- ---- of a program

-- the lines fit the program, its code isn't too large, there are as many goals as it has at the point, and each is refuted
pub record Accepts (p : ProgramTree) (c : Cert) : Type 0 where
  pub names : NamesFit p c
  pub basis : Basis p
  pub passed : IsPassed basis.tree basis.sets c

-- the lines fit the program, and then this fails first
pub record IsFailedBy (p : ProgramTree) (c : Cert) (e : CheckError) : Type 0 where
  pub names : NamesFit p c
  pub basis : Basis p
  pub failed : IsFailed basis.tree basis.sets c e

-- the lines fit the program, whose code is too large by itself or with the copies and rows
pub data IsTooLarge (p : ProgramTree) (c : Cert) : Type 0 where
  alone : NamesFit p c → most_instructions < instructions (code p).body → IsTooLarge p c
  unwound : IsFailedBy p c Size → IsTooLarge p c

-- when each refusal comes; want of memory is free
abbrev pub IsRefusal : ProgramTree → Cert → CheckError → Type 0
IsRefusal p c (BadName line) = IsBadName p c line
IsRefusal p c Size = IsTooLarge p c
IsRefusal p c (WrongGoals have want) = IsFailedBy p c (WrongGoals have want)
IsRefusal p c (BadStep goal step) = IsFailedBy p c (BadStep goal step)
IsRefusal p c (Unclosed goal) = IsFailedBy p c (Unclosed goal)
IsRefusal p c NoMemory = Unit {0}
