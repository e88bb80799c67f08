-- What expressions and statements emit is direct.
use Rattle.std.proofs.Common.{◌≡◌, ℕ, zero, suc, Bool, true, false, cond, List, [], ◌∷◌, Option, Some, refl, sym, ap, ◌∙◌, subst, slice_get}
use Rattle.l2_bits.specs.declared.types.Ty.{Ty}
use Rattle.l2_bits.specs.declared.operators.Op.{Op}
use Rattle.l2_bits.specs.declared.operators.Op.TheVariants as arithmetic
use Rattle.l2_runs.specs.declared.cells.CellType.{CellType}
use Rattle.l2_runs.specs.declared.cells.CellType.TheVariants.{Integer, Pointer}
use Rattle.l2_program.specs.Checked as tree
use Rattle.l2_program.specs.Checked.{LvalueTree, TypedTree, CheckedTree, CheckedTrees}
use Rattle.l2_program.specs.Types.{type_of}
use Rattle.l2_program.specs.Programs.{FunctionTree}
use Rattle.l2_runs.specs.declared.operators.UnaryOperator.{UnaryOperator}
use Rattle.l2_runs.specs.declared.operators.UnaryOperator.TheVariants.{Negate, Not}
use Rattle.l2_runs.specs.declared.operators.BinaryOperator.{BinaryOperator}
use Rattle.l2_runs.specs.declared.operators.BinaryOperator.TheVariants as binary
use Rattle.l2_meaning.specs.Execution.{cells_of}
use Rattle.l2_meaning.specs.Meaning.{declared}
use Rattle.l2_meaning.specs.Scopes as scopes
use Rattle.l2_meaning.specs.Lawful.{IsTyped, IsTypedLvalue, IsTypedStatement, AreTyped}
use Rattle.l2_code.specs.declared.action.Operand.{Operand}
use Rattle.l2_code.specs.declared.action.Operand.TheVariants.{Constant}
use Rattle.l2_code.specs.declared.action.Test.TheVariants as test
use Rattle.l2_code.specs.declared.action.Computation.{Computation}
use Rattle.l2_code.specs.declared.action.Computation.TheVariants.{Numbers, Convert, Pointers, Passes}
use Rattle.l2_code.specs.declared.action.Action.TheVariants.{Compute, Read, Write, Goto, Unless, End}
use Rattle.l2_code.specs.Trees.{Do, Nodes, none, more, join}
use Rattle.l2_code.specs.Values.{begins_with, compute, no_temps}
use Rattle.l2_code.specs.declared.action.Operator.{Operator}
use Rattle.l2_code.specs.declared.action.Operator.TheVariants as operator
use Rattle.l2_code.specs.declared.action.PointerOperator.TheVariants as pointers
use Rattle.l2_runs.specs.declared.cells.CellValue.TheVariants.{Null}
use Rattle.l2_code.specs.WellFormed.{is_left_shift}
use Rattle.l2_lower.specs.Emitting as emitting
use Rattle.l2_lower.specs.Emitting.{Emitted, Part, part, only, nothing, result, checked, computed, overflow_check, unary_code, binary_code, conversion, truth_code, expression, condition, address, are_constant, operands_of}
use Rattle.l2_lower.specs.Statements as statements
use Rattle.l2_lower.specs.Statements.{filled, declaration, initialised, deads, statement}
use Rattle.l2_lower.specs.Code.{code, declarations, body_code, main_code}
use Rattle.l2_lower.proofs.ProgramRuns.{program_types}
use Rattle.l2_typed_steps.specs.Direct.{AreDirect, IsDirectComputation}
use Rattle.l2_direct_code.specs.Law as law

module _ (cells : ℕ → List CellType) where
  abbrev Fine : Nodes → Type 0
  Fine xs = AreDirect cells xs

  join_fine : (xs ys : Nodes) → Fine xs → Fine ys → Fine (join xs ys)
  join_fine none ys h k = k
  join_fine (more x rest) ys h k = (h.0, join_fine rest ys h.1 k)

  checked_fine : (c : ℕ) (a : Operand) → Fine (checked c a)
  checked_fine zero a = tt
  checked_fine (suc c) a = (tt, tt)

  if_fine : (b : Bool) (n : ℕ) (a : Operand) (x : Computation) → IsDirectComputation x → Fine (cond b (nothing n a) (result n (Compute n x))).nodes
  if_fine true n a x h = tt
  if_fine false n a x h = (h, tt)

  computed_fine : (n : ℕ) (x : Computation) → IsDirectComputation x → Fine (computed n x).nodes
  computed_fine n x h = if_fine (are_constant (operands_of x)) n (Constant (emitting.or_zero (compute emitting.no_types [] no_temps x))) x h

  overflow_fine : (n c : ℕ) (op : Op) (ty : Ty) (a b : Operand) → is_left_shift op ≡ false → Fine (overflow_check n c op ty a b).nodes
  overflow_fine n zero op ty a b h = tt
  overflow_fine n (suc c) op ty a b h =
      join_fine (computed n (Passes (test.Overflow op ty a b))).nodes (checked (suc c) (computed n (Passes (test.Overflow op ty a b))).operand) (computed_fine n (Passes (test.Overflow op ty a b)) h) (tt, tt)

  after_fine : (p : Part) (f : ℕ → Emitted) → Fine p.nodes → Fine (f p.next).nodes → Fine (emitting.after p f).nodes
  after_fine p f h k = join_fine p.nodes (f p.next).nodes h k

  behind_fine : (x : Emitted) (f : ℕ → Operand → Emitted) → Fine x.nodes → Fine (f x.next x.operand).nodes → Fine (emitting.behind x f).nodes
  behind_fine x f h k = join_fine x.nodes (f x.next x.operand).nodes h k

  arithmetic_fine : (n c : ℕ) (op : Op) (o : Operator) (ty : Ty) (a b : Operand) → is_left_shift op ≡ false → Fine (emitting.after (overflow_check n c op ty a b) (λ m. computed m (Numbers o ty a b))).nodes
  arithmetic_fine n c op o ty a b h =
      after_fine (overflow_check n c op ty a b) (λ m. computed m (Numbers o ty a b)) (overflow_fine n c op ty a b h) (computed_fine (overflow_check n c op ty a b).next (Numbers o ty a b) tt)

  unary_fine : (n : ℕ) (op : UnaryOperator) (ty : Ty) (c : ℕ) (a : Operand) → Fine (unary_code n op ty c a).nodes
  unary_fine n Negate ty c a = arithmetic_fine n c arithmetic.Sub operator.Sub ty emitting.zero_number a refl
  unary_fine n Not ty c a = computed_fine n (Numbers operator.Eq ty a emitting.zero_number) tt

  binary_fine : (n : ℕ) (op : BinaryOperator) (ty : Ty) (c : ℕ) (a b : Operand) → Fine (binary_code n op ty c a b).nodes
  binary_fine n binary.Multiply ty c a b = arithmetic_fine n c arithmetic.Mul operator.Mul ty a b refl
  binary_fine n binary.Add ty c a b = arithmetic_fine n c arithmetic.Add operator.Add ty a b refl
  binary_fine n binary.Subtract ty c a b = arithmetic_fine n c arithmetic.Sub operator.Sub ty a b refl
  binary_fine n binary.Less ty c a b = computed_fine n (Numbers operator.Lt ty a b) tt
  binary_fine n binary.LessEqual ty c a b = computed_fine n (Numbers operator.Le ty a b) tt
  binary_fine n binary.Greater ty c a b = computed_fine n (Numbers operator.Lt ty b a) tt
  binary_fine n binary.GreaterEqual ty c a b = computed_fine n (Numbers operator.Le ty b a) tt
  binary_fine n binary.Equal ty c a b = computed_fine n (Numbers operator.Eq ty a b) tt
  binary_fine n binary.NotEqual ty c a b = computed_fine n (Numbers operator.Ne ty a b) tt

  convert_if : (b : Bool) (n : ℕ) (to : Ty) (a : Operand) → Fine (cond b (nothing n a) (computed n (Convert to a))).nodes
  convert_if true n to a = tt
  convert_if false n to a = computed_fine n (Convert to a) tt

  conversion_fine : (n : ℕ) (from : List CellType) (to : Ty) (a : Operand) → Fine (conversion n from to a).nodes
  conversion_fine n from to a = convert_if (begins_with (Integer to ∷ []) from) n to a

  truth_fine : (n : ℕ) (ts : List CellType) (a : Operand) → Fine (truth_code n ts a).nodes
  truth_fine n [] a = tt
  truth_fine n (Integer ty ∷ rest) a = computed_fine n (Numbers operator.Ne ty a emitting.zero_number) tt
  truth_fine n (Pointer ∷ rest) a = computed_fine n (Pointers pointers.Ne a (Constant Null)) tt

  first_is : (ts : List CellType) (ty : CellType) (rest : List CellType) → ts ≡ ty ∷ rest → slice_get ts 0 ≡ Some ty
  first_is ts ty rest e = ap (λ us. slice_get us 0) e

  read_fine : (n : ℕ) (ty : CellType) (l : LvalueTree) → IsTypedLvalue cells (ty ∷ []) l → Fine (result n (Read n ty (address l))).nodes
  read_fine n ty (tree.Object o) h = (first_is (cells o) ty [] h, tt)

  write_fine : (ty : CellType) (l : LvalueTree) (a : Operand) → IsTypedLvalue cells (ty ∷ []) l → Fine (only (Write ty (address l) a))
  write_fine ty (tree.Object o) a h = (first_is (cells o) ty [] h, tt)

  expression_fine : (n : ℕ) (e : TypedTree) → IsTyped cells e → Fine (expression n e).nodes
  expression_fine n (tree.Constant ty v) h = tt
  expression_fine n (tree.Choice ty) h = (tt, tt)
  expression_fine n (tree.Read ty l) h = read_fine n ty l h
  expression_fine n (tree.Unary op ty c e) h = behind_fine (expression n e) (λ m a. unary_code m op ty c a) (expression_fine n e h.0) (unary_fine (expression n e).next op ty c (expression n e).operand)
  expression_fine n (tree.Binary op ty c x y) h =
      let a = expression n x in
      let b = expression a.next y in
      behind_fine a (λ m u. emitting.behind (expression m y) (λ k w. binary_code k op ty c u w)) (expression_fine n x h.0) (behind_fine b (λ k w. binary_code k op ty c a.operand w) (expression_fine a.next y h.2) (binary_fine b.next op ty c a.operand b.operand))
  expression_fine n (tree.Convert ty e) h = behind_fine (expression n e) (λ m a. conversion m (type_of e) ty a) (expression_fine n e h.0) (conversion_fine (expression n e).next (type_of e) ty (expression n e).operand)
  expression_fine n (tree.Assign ty l e) h = behind_fine (expression n e) (λ m a. record { nodes = only (Write ty (address l) a); operand = a; next = m }) (expression_fine n e h.1) (write_fine ty l (expression n e).operand h.0)
  expression_fine n (tree.Assert c e) h =
      let x = emitting.behind (expression n e) (λ m a. truth_code m (type_of e) a) in
      behind_fine x (λ m a. record { nodes = checked c a; operand = a; next = m }) (behind_fine (expression n e) (λ m a. truth_code m (type_of e) a) (expression_fine n e h.0) (truth_fine (expression n e).next (type_of e) (expression n e).operand)) (checked_fine c x.operand)

  condition_fine : (n : ℕ) (e : TypedTree) → IsTyped cells e → Fine (condition n e).nodes
  condition_fine n e h = behind_fine (expression n e) (λ m a. truth_code m (type_of e) a) (expression_fine n e h) (truth_fine (expression n e).next (type_of e) (expression n e).operand)

  -- ---- statements

  abbrev plus : ℕ → ℕ → ℕ
  plus o zero = o
  plus o (suc i) = plus (suc o) i

  filled_fine : (n o f : ℕ) (ts : List CellType) → ((i : ℕ) → slice_get ts i ≡ slice_get (cells o) (plus f i)) → Fine (filled n o f ts).nodes
  filled_fine n o f [] h = tt
  filled_fine n o f (Integer ty ∷ ts) h = (tt, (sym (h 0), filled_fine (suc n) o (suc f) ts (λ i. h (suc i))))
  filled_fine n o f (Pointer ∷ ts) h = (sym (h 0), filled_fine n o (suc f) ts (λ i. h (suc i)))

  plus_suc : (o i : ℕ) → plus (suc o) i ≡ suc (plus o i)
  plus_suc o zero = refl
  plus_suc o (suc i) = plus_suc (suc o) i

  plus_zero : (i : ℕ) → plus 0 i ≡ i
  plus_zero zero = refl
  plus_zero (suc i) = plus_suc 0 i ∙ ap suc (plus_zero i)

  declaration_fine : (n o : ℕ) → Fine (declaration cells n o).nodes
  declaration_fine n o = (tt, filled_fine n o 0 (cells o) (λ i. ap (slice_get (cells o)) (sym (plus_zero i))))

  initialised_fine : (o : ℕ) (ts : List CellType) (a : Operand) → cells o ≡ ts → Fine (initialised o ts a)
  initialised_fine o [] a e = tt
  initialised_fine o (ty ∷ rest) a e = (first_is (cells o) ty rest e, tt)

  deads_fine : (os : List ℕ) → Fine (deads os)
  deads_fine [] = tt
  deads_fine (o ∷ os) = (tt, deads_fine os)

  behind_part : (xs : Nodes) (p : Part) → Fine xs → Fine p.nodes → Fine (statements.behind xs p).nodes
  behind_part xs p h k = join_fine xs p.nodes h k

  using_fine : (x : Emitted) (f : ℕ → Operand → Part) → Fine x.nodes → Fine (f x.next x.operand).nodes → Fine (statements.using x f).nodes
  using_fine x f h k = join_fine x.nodes (f x.next x.operand).nodes h k

  followed_fine : (p : Part) (f : ℕ → Part) → Fine p.nodes → Fine (f p.next).nodes → Fine (statements.followed p f).nodes
  followed_fine p f h k = join_fine p.nodes (f p.next).nodes h k

  guard_fine : (x : Emitted) (f : ℕ → Part) → Fine x.nodes → Fine (f x.next).nodes → Fine (statements.guard x f).nodes
  guard_fine x f h k = join_fine x.nodes (more (Do (Unless x.operand 0)) (f x.next).nodes) h (tt, k)

  mutual
    statement_fine : (result : List CellType) (scope : List ℕ) (n : ℕ) (s : CheckedTree) → IsTypedStatement cells result s → Fine (statement cells scope n s).nodes
    statement_fine result scope n (tree.Block all) h = followed_fine (statements.statements cells scope n all) (λ m. part m (deads (declared all))) (statements_fine result scope n all h) (deads_fine (declared all))
    statement_fine result scope n (tree.Declare o) h = declaration_fine n o
    statement_fine result scope n (tree.Static o) h = tt
    statement_fine result scope n (tree.Initialise o e) h = (tt, using_fine (expression n e) (λ m a. part m (initialised o (type_of e) a)) (expression_fine n e h.0) (initialised_fine o (type_of e) (expression n e).operand h.1))
    statement_fine result scope n (tree.Label l) h = tt
    statement_fine result scope n (tree.Evaluate e) h = using_fine (expression n e) (λ m a. part m none) (expression_fine n e h) tt
    statement_fine result scope n (tree.If e s) h = (guard_fine (condition n e) (λ m. statement cells scope m s) (condition_fine n e h.0) (statement_fine result scope (condition n e).next s h.2), tt)
    statement_fine result scope n (tree.IfElse e s t) h =
        let g = statements.guard (condition n e) (λ m. statement cells scope m s) in
        let first = statements.first_side g in (
          followed_fine first (λ m. statement cells scope m t)
              (followed_fine g (λ k. part k (only (Goto 1))) (guard_fine (condition n e) (λ m. statement cells scope m s) (condition_fine n e h.0) (statement_fine result scope (condition n e).next s h.2)) (tt, tt), tt)
              (statement_fine result scope first.next t h.3),
          tt,
        )
    statement_fine result scope n (tree.While l named e s) h = ((guard_fine (condition n e) (λ m. statement cells scope m s) (condition_fine n e h.0) (statement_fine result scope (condition n e).next s h.2), tt), tt)
    statement_fine result scope n (tree.Return e) h = using_fine (expression n e) (λ m a. part m (join (deads scope) (only End))) (expression_fine n e h.0) (join_fine (deads scope) (only End) (deads_fine scope) (tt, tt))

    statements_fine : (result : List CellType) (scope : List ℕ) (n : ℕ) (all : CheckedTrees) → AreTyped cells result all → Fine (statements.statements cells scope n all).nodes
    statements_fine result scope n tree.none h = tt
    statements_fine result scope n (tree.more s rest) h =
        followed_fine (statement cells scope n s) (λ m. statements.statements cells (scopes.behind scope s) m rest) (statement_fine result scope n s h.0) (statements_fine result (scopes.behind scope s) (statement cells scope n s).next rest h.1)

  declarations_fine : (n : ℕ) (os : List ℕ) → Fine (declarations cells n os).nodes
  declarations_fine n [] = tt
  declarations_fine n (o ∷ os) = followed_fine (declaration cells n o) (λ m. declarations cells m os) (declaration_fine n o) (declarations_fine (declaration cells n o).next os)

  body_fine : (n : ℕ) (f : FunctionTree) → IsTypedStatement cells f.result f.body → Fine (body_code cells n f).nodes
  body_fine n f h = followed_fine (statement cells f.parameters n f.body) (λ m. part m (join (deads f.parameters) (only End))) (statement_fine f.result f.parameters n f.body h) (join_fine (deads f.parameters) (only End) (deads_fine f.parameters) (tt, tt))

  main_fine : (n : ℕ) (f : FunctionTree) → IsTypedStatement cells f.result f.body → Fine (main_code cells n (Some f)).nodes
  main_fine n f h = followed_fine (declarations cells n f.parameters) (λ m. body_code cells m f) (declarations_fine n f.parameters) (body_fine (declarations cells n f.parameters).next f h)

pub code_is_direct : law.CodeIsDirect
code_is_direct p lawful =
    let cells = cells_of p in
    let f = lawful.main_function in
    let typed = (lawful.functions lawful.main f lawful.has_main).typed in
    subst (λ (layout : ℕ → List CellType). AreDirect layout (code p).body) (sym (ap (λ t. t.objects) (program_types p)))
    (subst (λ (o : Option FunctionTree). AreDirect cells (main_code cells 1 o).nodes) (sym lawful.is_main) (main_fine cells 1 f typed))
