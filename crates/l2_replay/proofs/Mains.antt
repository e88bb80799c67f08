-- The body of `main` is typed.
use Rattle.std.proofs.Common.{◌≡◌, Some, sym, subst, ◌∙◌}
use Rattle.l2_program.specs.declared.program.Program.{Program}
use Rattle.l2_program.specs.declared.program.FunctionInfo.{FunctionInfo}
use Rattle.l2_program.specs.Checked.{checked_tree}
use Rattle.l2_program.specs.Programs.{FunctionTree, function_tree, program_tree}
use Rattle.l2_meaning.specs.Execution.{main_among}
use Rattle.l2_meaning.specs.Lawful.{IsLawful, IsTypedStatement}
use Rattle.l2_replay.specs.Reach.{IsTypedIn, layout}

pub main_typed : (p : Program) (f : FunctionInfo) → IsLawful (program_tree p) → Some (function_tree f) ≡ main_among (program_tree p).names (program_tree p).functions → IsTypedIn p (checked_tree f.body)
main_typed p f h e =
    let main = h.functions h.main h.main_function h.has_main in
    let same : h.main_function ≡ function_tree f = some_same h.main_function (function_tree f) (sym h.is_main ∙ sym e) in
    subst (λ (x : FunctionTree). IsTypedIn p x.body) same
    (subst (λ result. IsTypedStatement (layout p) result h.main_function.body) h.main_form.0 main.typed) where
      some_same : (a b : FunctionTree) → Some a ≡ Some b → a ≡ b
      some_same a b e = cc
