-- What a lawful program gives for its lowering.
use Rattle.std.proofs.Common.{◌≡◌, ℕ, zero, suc, ◌≤◌, List, [], ◌∷◌, length, Some, sym, subst, ◌∙◌, arith}
use Rattle.std.specs.Prelude.{slice_get}
use Rattle.l2_program.specs.declared.program.ObjectInfo.{ObjectInfo}
use Rattle.l2_program.specs.declared.program.Program.{Program}
use Rattle.l2_program.specs.declared.program.FunctionInfo.{FunctionInfo}
use Rattle.l2_program.specs.Checked.{checked_tree}
use Rattle.l2_program.specs.Programs.{ProgramTree, FunctionTree, function_tree, program_tree}
use Rattle.l2_meaning.specs.Execution.{cells_of, known_cells, main_among}
use Rattle.l2_meaning.specs.Lawful.{IsLawful, IsTypedStatement, main_result, cell_count}
use Rattle.l2_lower.specs.Statements.{HaveFewCells}

some_same : {A : Type 0} (a b : A) → Some a ≡ Some b → a ≡ b
some_same a b e = cc

pub main_typed : (p : Program) (f : FunctionInfo) → IsLawful (program_tree p) → Some (function_tree f) ≡ main_among (program_tree p).names (program_tree p).functions → IsTypedStatement (cells_of (program_tree p)) main_result (checked_tree f.body)
main_typed p f h e =
    let main = h.functions h.main h.main_function h.has_main in
    let same : h.main_function ≡ function_tree f = some_same h.main_function (function_tree f) (sym h.is_main ∙ sym e) in
    subst (λ (x : FunctionTree). IsTypedStatement (cells_of (program_tree p)) main_result x.body) same
    (subst (λ result. IsTypedStatement (cells_of (program_tree p)) result h.main_function.body) h.main_form.0 main.typed)

some_cells : (os : List ObjectInfo) (i : ℕ) → length (known_cells (slice_get os i)) ≤ cell_count os
some_cells [] i = omega arith
some_cells (o ∷ os) zero = omega arith
some_cells (o ∷ os) (suc i) = let h = some_cells os i in omega arith

pub few_cells : (p : ProgramTree) → IsLawful p → HaveFewCells p
few_cells p h zero = omega arith
few_cells p h (suc n) = let k = some_cells p.objects n in let l = h.few_cells in omega arith
