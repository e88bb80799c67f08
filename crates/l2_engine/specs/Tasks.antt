-- What the engine is asked about: a program with its code, and points of given forms and bounds.
use Rattle.std.specs.Prelude.{ℕ, ◌<◌, ℤ, List, length, map, Option}
use Rattle.l2_program.specs.declared.program.Program.{Program}
use Rattle.l2_program.specs.Programs.{program_tree}
use Rattle.l2_templates.specs.declared.form.Form.{Form}
use Rattle.l2_templates.specs.declared.infer.Found.{Found}
use Rattle.l2_templates.specs.declared.point.LoopPoint.{LoopPoint}
use Rattle.l2_templates.specs.Domains.{Rises}
use Rattle.l2_code.specs.declared.code.Code.{Code}
use Rattle.l2_code.specs.declared.sets.Sets.{Sets}
use Rattle.l2_code.specs.Trees.{code_of}
use Rattle.l2_code.specs.Sets.{family}
use Rattle.l2_code.specs.Sizes.{size}
use Rattle.l2_unwind.specs.Refused.{most_weight}
use Rattle.l2_cuts.specs.Cuts.{Infers, Proves}
use Rattle.l2_cuts.specs.Rankings.{RanksAre}
use Rattle.l2_strategy.specs.Places.{IsStrongestOf}
use Rattle.l2_row_engine.specs.Cutting.{Belongs}
use Rattle.l2_verdicts.specs.Verdicts.{Breaks, IsBreak}

-- a program with its code and sets, the forms of each loop's rows, and the bounds that rows may take
pub record Query : Type 0 where
  pub program : Program
  pub code : Code
  pub sets : Sets
  pub forms : List (List Form)
  pub bounds : List ℤ

-- the program is lawful, this is its code with sets that are closed over it, and the bounds rise
pub record IsQuery (x : Query) : Type 0 where
  pub belongs : Belongs (program_tree x.program) (code_of x.code) x.sets
  pub rising : Rises x.bounds

-- with so many copies of each turn, and a row of each form, the code weighs more than is looked at
abbrev pub WeighsTooMuch : Query → ℕ → Type 0
WeighsTooMuch x k = most_weight < size (code_of x.code) (family x.sets) k (map length x.forms)

-- some short run breaks a check
abbrev pub SomeBreak : Query → ℕ → Type 0
SomeBreak x k = Breaks (program_tree x.program) k

-- this execution does
abbrev pub IsSomeBreak : Query → ℕ → Found → Type 0
IsSomeBreak x k found = IsBreak (program_tree x.program) k found

-- of these forms and bounds the strongest point that infers
abbrev pub IsStrongestIn : Query → ℕ → List LoopPoint → Type 0
IsStrongestIn x k q = IsStrongestOf (Infers (program_tree x.program) (family x.sets).object k) x.bounds x.forms q

abbrev pub ProvesAt : Query → ℕ → List LoopPoint → Type 0
ProvesAt x k q = Proves (program_tree x.program) (family x.sets).object k q

abbrev pub AreRanksOf : Query → ℕ → List LoopPoint → Option (List (List Form)) → Type 0
AreRanksOf x k q ranks = RanksAre (program_tree x.program) (family x.sets).object k q ranks
