-- Sets that are closed over the code of a program are closed over the program.
use Rattle.std.proofs.Common.{◌≡◌, ℕ, Bool, true, false, List, [], ◌∷◌, refl, subst, arith}
use Rattle.std.specs.Prelude.{◌==◌, ◌&&◌, not, if◌then◌else◌}
use Rattle.std.proofs.lemmas.Bool.{eqb-true}
use Rattle.l2_bits.specs.declared.types.Ty.{Ty}
use Rattle.l2_bits.proofs.TypeLaws as types
use Rattle.l2_runs.specs.declared.cells.CellType.{CellType}
use Rattle.l2_runs.specs.declared.cells.CellType.TheVariants.{Integer, Pointer}
use Rattle.l2_runs.specs.declared.member.Member.{Member}
use Rattle.l2_runs.specs.declared.member.Member.TheVariants as member
use Rattle.l2_runs.specs.Members.{Within}
use Rattle.l2_runs.specs.Fits.{Layout}
use Rattle.l2_program.specs.Checked as tree
use Rattle.l2_program.specs.Checked.{TypedTree, CheckedTree, CheckedTrees}
use Rattle.l2_program.specs.Types.{type_of}
use Rattle.l2_meaning.specs.Lawful.{IsTyped, IsInteger, IsTypedStatement, AreTyped}
use Rattle.l2_meaning.specs.Pointing.{is_same, IsTakenIn, TakeIn, StatementIsTakenIn, AreTakenIn}
use Rattle.l2_meaning.specs.Pointing as pointing
use Rattle.l2_meaning.specs.Meaning.{declared}
use Rattle.l2_code.specs.declared.action.Operand.{Operand}
use Rattle.l2_code.specs.declared.action.Computation.TheVariants.{Convert}
use Rattle.l2_code.specs.declared.action.Action.TheVariants as action
use Rattle.l2_code.specs.Trees.{Do, Nodes, none, more, join}
use Rattle.l2_code.specs.Values.{same_type}
use Rattle.l2_code.specs.Sets.{Family, may_be, AreClosed}
use Rattle.l2_lower.specs.Emitting.{only, cell, nothing, computed, unary_code, binary_code, conversion, truth_code, checked, expression, condition}
use Rattle.l2_lower.specs.Statements.{initialised, deads, statement, statements}
use Rattle.l2_lower.proofs.Converted.{same_type_self}

same_number : (n : ℕ) → (n == n) ≡ true
same_number n = grind arith

both : (x y : Bool) → (x && y) ≡ true → (x ≡ true) × (y ≡ true)
both true true e = (refl, refl)
both true false e = cc
both false y e = cc

sign_same : (x y : Bool) → (if x then y else not y) ≡ true → x ≡ y
sign_same true true e = refl
sign_same true false e = cc
sign_same false true e = cc
sign_same false false e = refl

-- types that are the same by one test are the same by the other
same_too : (to from : Ty) → is_same to (Integer from ∷ []) ≡ true → same_type (Integer to) (Integer from) ≡ true
same_too to from e =
    let p = both (from.width == to.width) (if from.signed then to.signed else not to.signed) e in
    let same : from ≡ to = types.same_type from to (eqb-true from.width to.width p.0) (sign_same from.signed to.signed p.1) in
    subst (λ t. same_type (Integer t) (Integer from) ≡ true) same (same_type_self (Integer from))

module _ (f : Family) where
  pub closed_join : (xs ys : Nodes) → AreClosed f (join xs ys) → AreClosed f xs × AreClosed f ys
  closed_join none ys h = (tt, h)
  closed_join (more x xs) ys (p, q) = let r = closed_join xs ys q in ((p, r.0), r.1)

  at_cell : (o : ℕ) → may_be f (cell o 0) (member.Object o) ≡ true
  at_cell o = same_number o

  module _ (cells : Layout) where
    converted_taken : (n : ℕ) (types : List CellType) (to : Ty) (a : Operand) (set : Member → Bool) → IsInteger types → Within set (may_be f a) → Within (λ m. is_same to types && set m) (may_be f (conversion n types to a).operand)
    converted_taken n [] to a set p h = absurd p
    converted_taken n (Integer from ∷ []) to a set p h = λ m e. go m (same_type (Integer to) (Integer from)) refl (both (is_same to (Integer from ∷ [])) (set m) e) where
      go : (m : Member) (x : Bool) → same_type (Integer to) (Integer from) ≡ x → (is_same to (Integer from ∷ []) ≡ true) × (set m ≡ true) → may_be f (if x && true then nothing n a else computed n (Convert to a)).operand m ≡ true
      go m true q (r, s) = h m s
      go m false q (r, s) = let z = same_too to from r in cc
    converted_taken n (Pointer ∷ []) to a set p h = absurd p
    converted_taken n (t ∷ u ∷ types) to a set p h = absurd p

    expression_taken : (e : TypedTree) → IsTyped cells e → (n : ℕ) → AreClosed f (expression n e).nodes → IsTakenIn f.object e × Within (pointing.may_be f.object e) (may_be f (expression n e).operand)
    expression_taken (tree.Constant ty v) h n c = (tt, λ m e. e)
    expression_taken (tree.Choice ty) h n c = (tt, λ m e. cc)
    expression_taken (tree.Read ty (tree.Object o)) h n (c, z) = (tt, λ m e. c o (at_cell o) m e)
    expression_taken (tree.Unary op ty k e) (h, is) n c = ((expression_taken e h n (closed_join (expression n e).nodes (unary_code (expression n e).next op ty k (expression n e).operand).nodes c).0).0, λ m q. cc)
    expression_taken (tree.Binary op ty k x y) (h, is, h', is') n c =
        let p = closed_join (expression n x).nodes (join (expression (expression n x).next y).nodes (binary_code (expression (expression n x).next y).next op ty k (expression n x).operand (expression (expression n x).next y).operand).nodes) c in
        let q = closed_join (expression (expression n x).next y).nodes (binary_code (expression (expression n x).next y).next op ty k (expression n x).operand (expression (expression n x).next y).operand).nodes p.1 in
        (((expression_taken x h n p.0).0, (expression_taken y h' (expression n x).next q.0).0), λ m z. cc)
    expression_taken (tree.Convert ty e) (h, is) n c =
        let r = expression_taken e h n (closed_join (expression n e).nodes (conversion (expression n e).next (type_of e) ty (expression n e).operand).nodes c).0 in
        (r.0, converted_taken (expression n e).next (type_of e) ty (expression n e).operand (pointing.may_be f.object e) is r.1)
    expression_taken (tree.Assign ty (tree.Object o) e) (is, h, is') n c =
        let p = closed_join (expression n e).nodes (only (action.Write ty (cell o 0) (expression n e).operand)) c in
        let r = expression_taken e h n p.0 in
        ((r.0, λ m z. p.1.0 o (at_cell o) m (r.1 m z)), r.1)
    expression_taken (tree.Assert k e) (h, is) n c =
        let p = closed_join (condition n e).nodes (checked k (condition n e).operand) c in
        let q = closed_join (expression n e).nodes (truth_code (expression n e).next (type_of e) (expression n e).operand).nodes p.0 in
        ((expression_taken e h n q.0).0, λ m z. cc)

    condition_taken : (e : TypedTree) → IsTyped cells e → (n : ℕ) → AreClosed f (condition n e).nodes → IsTakenIn f.object e
    condition_taken e h n c = (expression_taken e h n (closed_join (expression n e).nodes (truth_code (expression n e).next (type_of e) (expression n e).operand).nodes c).0).0

    void_points_nowhere : (sets : pointing.Sets) (e : TypedTree) → type_of e ≡ [] → (set : Member → Bool) → Within (pointing.may_be sets e) set
    void_points_nowhere sets (tree.Constant ty v) q set = cc
    void_points_nowhere sets (tree.Choice ty) q set = cc
    void_points_nowhere sets (tree.Read ty l) q set = cc
    void_points_nowhere sets (tree.Unary op ty k e) q set = cc
    void_points_nowhere sets (tree.Binary op ty k x y) q set = cc
    void_points_nowhere sets (tree.Convert ty e) q set = cc
    void_points_nowhere sets (tree.Assign ty l e) q set = cc
    void_points_nowhere sets (tree.Assert k e) q set = λ m z. cc

    initialised_taken : (o : ℕ) (e : TypedTree) (types : List CellType) (a : Operand) → type_of e ≡ types → Within (pointing.may_be f.object e) (may_be f a) → AreClosed f (initialised o types a) → TakeIn f.object (tree.Object o) (pointing.may_be f.object e)
    initialised_taken o e [] a q h c = void_points_nowhere f.object e q (f.object o)
    initialised_taken o e (ty ∷ rest) a q h (c, z) = λ m p. c o (at_cell o) m (h m p)

    guard_closed : (e : TypedTree) (n : ℕ) (xs : Nodes) → IsTyped cells e → AreClosed f (join (condition n e).nodes (more (Do (action.Unless (condition n e).operand 0)) xs)) → IsTakenIn f.object e × AreClosed f xs
    guard_closed e n xs h c = let p = closed_join (condition n e).nodes (more (Do (action.Unless (condition n e).operand 0)) xs) c in (condition_taken e h n p.0, p.1.1)

    module _ (result : List CellType) where
      mutual
        pub statement_taken : (s : CheckedTree) → IsTypedStatement cells result s → (scope : List ℕ) (n : ℕ) → AreClosed f (statement cells scope n s).nodes → StatementIsTakenIn f.object s
        statement_taken (tree.Block all) h scope n c = statements_taken all h scope n (closed_join (statements cells scope n all).nodes (deads (declared all)) c).0
        statement_taken (tree.Declare o) h scope n c = tt
        statement_taken (tree.Static o) h scope n c = tt
        statement_taken (tree.Initialise o e) (h, is) scope n (z, c) =
            let p = closed_join (expression n e).nodes (initialised o (type_of e) (expression n e).operand) c in
            let r = expression_taken e h n p.0 in
            (r.0, initialised_taken o e (type_of e) (expression n e).operand refl r.1 p.1)
        statement_taken (tree.Label l) h scope n c = tt
        statement_taken (tree.Evaluate e) h scope n c = (expression_taken e h n (closed_join (expression n e).nodes none c).0).0
        statement_taken (tree.If e s) (h, is, k) scope n (c, z) = let p = guard_closed e n (statement cells scope (condition n e).next s).nodes h c in (p.0, statement_taken s k scope (condition n e).next p.1)
        statement_taken (tree.IfElse e s t) (h, is, k, k') scope n ((c, d), z) =
            let x = statement cells scope (condition n e).next s in
            let w = closed_join (join (condition n e).nodes (more (Do (action.Unless (condition n e).operand 0)) x.nodes)) (only (action.Goto 1)) c in
            let p = guard_closed e n x.nodes h w.0 in
            (p.0, statement_taken s k scope (condition n e).next p.1, statement_taken t k' scope x.next d)
        statement_taken (tree.While l named e s) (h, is, k) scope n ((c, w), z) = let p = guard_closed e n (statement cells scope (condition n e).next s).nodes h c in (p.0, statement_taken s k scope (condition n e).next p.1)
        statement_taken (tree.Return e) (h, is) scope n c = (expression_taken e h n (closed_join (expression n e).nodes _ c).0).0

        pub statements_taken : (all : CheckedTrees) → AreTyped cells result all → (scope : List ℕ) (n : ℕ) → AreClosed f (statements cells scope n all).nodes → AreTakenIn f.object all
        statements_taken tree.none h scope n c = tt
        statements_taken (tree.more s rest) (h, k) scope n c = let p = closed_join (statement cells scope n s).nodes _ c in (statement_taken s h scope n p.0, statements_taken rest k _ (statement cells scope n s).next p.1)
