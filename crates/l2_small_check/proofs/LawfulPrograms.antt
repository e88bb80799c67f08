-- The programs of units are lawful.
use Rattle.std.proofs.Common.{◌≡◌, ℕ, zero, suc, ◌+◌, ◌<◌, ◌≤◌, Bool, true, false, if◌then◌else◌, ℤ, List, [], ◌∷◌, ◌++◌, length, map, Option, Some, None, inl, inr, refl, ap, sym, ◌∙◌, subst, arith, append-nil, append_assoc}
use Rattle.std.specs.Prelude.{Result, Ok, Err, IfOk, codes, option_map, ◌==◌, ◌||◌, nat_lt, slice_get}
use Rattle.std.proofs.Math.Seq.{get_or-append_seam, take-append_seam, take-length}
use Rattle.std.specs.Str.{bytes_eq}
use Rattle.l2_syntax.specs.declared.place.Place.{Place}
use Rattle.l2_syntax.specs.declared.token.Name.{Name}
use Rattle.l2_bits.specs.Types.{int_type}
use Rattle.l2_bits.specs.Values.{is_value}
use Rattle.l2_bits.proofs.Bounds.{value_from_test}
use Rattle.l2_runs.specs.declared.cells.CellType.{CellType}
use Rattle.l2_runs.specs.declared.cells.CellType.TheVariants.{Integer}
use Rattle.l2_runs.specs.declared.cells.CellValue.TheVariants as cell
use Rattle.l2_runs.specs.declared.operators.UnaryOperator.{UnaryOperator}
use Rattle.l2_runs.specs.declared.operators.BinaryOperator.{BinaryOperator}
use Rattle.l2_runs.specs.Numbers.{at_number, numbers_where}
use Rattle.l2_runs.specs.declared.kind.Kind.TheVariants.{Assertion}
use Rattle.l2_program.specs.declared.program.ObjectInfo.{ObjectInfo}
use Rattle.l2_program.specs.declared.program.LoopInfo.{LoopInfo}
use Rattle.l2_program.specs.declared.program.CheckInfo.{CheckInfo}
use Rattle.l2_program.specs.Checked as checked
use Rattle.l2_program.specs.Checked.{TypedTree, CheckedTree, CheckedTrees}
use Rattle.l2_program.specs.Types.{type_of, given, is_computing, is_arithmetic}
use Rattle.l2_program.specs.Names.{checks_of, unless_none, declared_in, all_declared_in, loops_in, all_loops_in, checks_in, all_checks_in}
use Rattle.l2_program.specs.declared.program.Program.{Program}
use Rattle.l2_program.specs.Programs.{ProgramTree, FunctionTree, program_tree}
use Rattle.l2_meaning.specs.Execution.{known_cells, cells_of, main_among}
use Rattle.l2_meaning.specs.Scopes.{behind, is_static_object, statics_of}
use Rattle.l2_meaning.specs.Pointing.{has_pointer, first_member, StatementIsTakenIn, ArePointsTo}
use Rattle.l2_meaning.specs.Changes.{function_loop_sets, functions_loop_sets, with_loop_sets}
use Rattle.l2_meaning.proofs.Loops.{loop_numbers}
use Rattle.l2_meaning.proofs.Nowhere.{nowhere, statement_nowhere}
use Rattle.l2_meaning.specs.Lawful.{IsIn, IsInteger, IsTyped, IsTypedStatement, AreTyped, Listing, IsOfKind, HasChecks, StatementHasChecks, HaveChecks, IsScoped, IsNoDeclaration, IsScopedStatement, AreScoped, main_result, IsSome, IsLawfulFunction, IsLawful, HoldObject, HoldStatics, HaveCells, cell_count}
use Rattle.l2_small.specs.SmallForm.{and_then}
use Rattle.l2_small.specs.SmallTrees as small
use Rattle.l2_small.specs.SmallTrees.{SmallExprTree, SmallStmtTree, SmallStmtTrees, SmallUnitTree}
use Rattle.l2_small_check.specs.declared.entry.Entry.{Entry}
use Rattle.l2_small_check.specs.Elaboration.{Scope, Found, Elaborated, lookup, int_cell, variable, read_of, assignment, assertion, loop, stays, made, within, typed, declare, is_declared, most_cells, object_number, loop_number, check_number, with_loop, with_check, chain, block, is_declaration, body_of, item, items, nothing_found, main_name, main_function, program_with, program_of}
use Rattle.l2_small_check.specs.Spelling.{bare, plain_items, spelt_item, spelt_bodies}
use Rattle.l2_small_check.proofs.Spelt.{at_last, Grows, grows_not, grows_trans, few_objects, whole_says}
use Rattle.l2_small_check.proofs.Taken.{AreMains, is_mains_loop, taken_numbers, taken_function, sets_taken, bare_taken}

-- ---- numbers of the items of lists

numbers_more : {A : Type 0} (f : A → Bool) (n : ℕ) (xs : List A) (x : A) → f x ≡ true → numbers_where f n (xs ++ x ∷ []) ≡ numbers_where f n xs ++ (length xs + n) ∷ []
numbers_more f n [] x e = let z : n ≡ 0 + n = omega arith in ap (λ b. if b then n ∷ [] else []) e ∙ ap (λ k. k ∷ []) z
numbers_more f n (y ∷ xs) x e = go (f y) (numbers_more f (suc n) xs x e) where
  go : (b : Bool) → numbers_where f (suc n) (xs ++ x ∷ []) ≡ numbers_where f (suc n) xs ++ (length xs + suc n) ∷ [] →
      (if b then n ∷ numbers_where f (suc n) (xs ++ x ∷ []) else numbers_where f (suc n) (xs ++ x ∷ [])) ≡ (if b then n ∷ numbers_where f (suc n) xs else numbers_where f (suc n) xs) ++ (length (y ∷ xs) + n) ∷ []
  go true h = let s : length xs + suc n ≡ length (y ∷ xs) + n = omega arith in ap (λ ns. n ∷ ns) (h ∙ ap (λ k. numbers_where f (suc n) xs ++ k ∷ []) s)
  go false h = let s : length xs + suc n ≡ length (y ∷ xs) + n = omega arith in h ∙ ap (λ k. numbers_where f (suc n) xs ++ k ∷ []) s

abbrev is_mains : ObjectInfo → Bool
is_mains o = o.function == 1

abbrev is_any : CheckInfo → Bool
is_any c = true

-- what an item adds to the lists
record Adds (found later : Found) (d l k : List ℕ) : Type 0 where
  objects : numbers_where is_mains 1 later.objects ≡ numbers_where is_mains 1 found.objects ++ d
  loops : numbers_where is_mains_loop 1 later.loops ≡ numbers_where is_mains_loop 1 found.loops ++ l
  checks : numbers_where is_any 1 later.checks ≡ numbers_where is_any 1 found.checks ++ k

adds_nothing : (a : Found) → Adds a a [] [] []
adds_nothing a = record { objects = sym (append-nil _); loops = sym (append-nil _); checks = sym (append-nil _) }

chained : (a b c d e : List ℕ) → b ≡ a ++ d → c ≡ b ++ e → c ≡ a ++ (d ++ e)
chained a b c d e p q = q ∙ ap (λ x. x ++ e) p ∙ append_assoc a d e

adds_both : (a b c : Found) (d l k e m n : List ℕ) → Adds a b d l k → Adds b c e m n → Adds a c (d ++ e) (l ++ m) (k ++ n)
adds_both a b c d l k e m n p q = record {
  objects = chained _ _ _ d e p.objects q.objects;
  loops = chained _ _ _ l m p.loops q.loops;
  checks = chained _ _ _ k n p.checks q.checks;
}

-- ---- objects are variables of `main`

abbrev AreInts : List ObjectInfo → Type 0
AreInts [] = Unit {0}
AreInts (o ∷ rest) = (o.cells ≡ int_cell ∷ []) × (o.is_static ≡ false) × (o.function ≡ 1) × AreInts rest

ints_more : (os : List ObjectInfo) (n : ℕ) (p : Place) → AreInts os → AreInts (os ++ variable n p ∷ [])
ints_more [] n p h = (refl, refl, refl, tt)
ints_more (o ∷ os) n p (a, b, c, r) = (a, b, c, ints_more os n p r)

mains_more : (ls : List LoopInfo) (l : LoopInfo) → l.function ≡ 1 → bare l ≡ l → AreMains ls → AreMains (ls ++ l ∷ [])
mains_more [] l e f h = (e, f, tt)
mains_more (x ∷ ls) l e f (a, b, r) = (a, b, mains_more ls l e f r)

known_int : (os : List ObjectInfo) (i : ℕ) → AreInts os → IsSome (slice_get os i) → known_cells (slice_get os i) ≡ int_cell ∷ []
known_int [] i h k = absurd k
known_int (o ∷ os) zero (a, b, c, r) k = a
known_int (o ∷ os) (suc i) (a, b, c, r) k = known_int os i r k

not_static : (os : List ObjectInfo) (i : ℕ) → AreInts os → is_static_object (slice_get os i) ≡ false
not_static [] i h = refl
not_static (o ∷ os) zero (a, b, c, r) = b
not_static (o ∷ os) (suc i) (a, b, c, r) = not_static os i r

known_main : (os : List ObjectInfo) (i : ℕ) (o : ObjectInfo) → AreInts os → slice_get os i ≡ Some o → o.function ≡ 1
known_main [] i o h e = cc
known_main (x ∷ os) zero o (a, b, c, r) e = let q : x ≡ o = cc in ap (λ y. y.function) (sym q) ∙ c
known_main (x ∷ os) (suc i) o (a, b, c, r) e = known_main os i o r e

given_int : (b : Bool) → given b int_type ≡ int_type
given_int true = refl
given_int false = refl

in_end : (n : ℕ) (ns ms : List ℕ) → IsIn n ms → IsIn n (ns ++ ms)
in_end n [] ms h = h
in_end n (m ∷ ns) ms h = inr (in_end n ns ms h)

-- ---- expressions of the small form have no checks

abbrev NoChecks : Option TypedTree → Type 0
NoChecks None = Unit {0}
NoChecks (Some t) = checks_of t ≡ []

no_checks : (scope : Scope) (e : SmallExprTree) → NoChecks (typed scope e)
no_checks scope (small.Name n q) = go (lookup scope n) where
  go : (x : Option ℕ) → NoChecks (option_map read_of x)
  go None = tt
  go (Some o) = refl
no_checks scope (small.Number z) = go (is_value int_type z) where
  go : (b : Bool) → NoChecks (if b then Some (checked.Constant int_cell (cell.Number z)) else None)
  go true = refl
  go false = tt
no_checks scope (small.Choice q) = refl
no_checks scope (small.Parenthesised e) = no_checks scope e
no_checks scope (small.Unary op e) = go (typed scope e) (no_checks scope e) where
  go : (x : Option TypedTree) → NoChecks x → NoChecks (option_map (checked.Unary op int_type 0) x)
  go None h = tt
  go (Some t) h = ap (λ ns. ns ++ []) h
no_checks scope (small.Binary op e d) = go (typed scope e) (typed scope d) (no_checks scope e) (no_checks scope d) where
  go : (x y : Option TypedTree) → NoChecks x → NoChecks y → NoChecks (and_then x (λ a. option_map (checked.Binary op int_type 0 a) y))
  go None y h k = tt
  go (Some t) None h k = tt
  go (Some t) (Some u) h k = ap (λ ns. ns ++ checks_of u ++ []) h ∙ ap (λ ns. ns ++ []) k

some_number : (n : ℕ) → (n + 1) ∷ [] ≡ unless_none (n + 1)
some_number n = let e : suc n ≡ n + 1 = omega arith in subst (λ k. k ∷ [] ≡ unless_none k) e refl

-- ---- items at the end of a list

all_declared_end : (ts : List CheckedTree) (t : CheckedTree) → all_declared_in (chain ts) ++ declared_in t ≡ all_declared_in (chain (ts ++ t ∷ []))
all_declared_end [] t = sym (append-nil (declared_in t))
all_declared_end (s ∷ ts) t = append_assoc (declared_in s) (all_declared_in (chain ts)) (declared_in t) ∙ ap (λ ns. declared_in s ++ ns) (all_declared_end ts t)

all_loops_end : (ts : List CheckedTree) (t : CheckedTree) → all_loops_in (chain ts) ++ loops_in t ≡ all_loops_in (chain (ts ++ t ∷ []))
all_loops_end [] t = sym (append-nil (loops_in t))
all_loops_end (s ∷ ts) t = append_assoc (loops_in s) (all_loops_in (chain ts)) (loops_in t) ∙ ap (λ ns. loops_in s ++ ns) (all_loops_end ts t)

all_checks_end : (ts : List CheckedTree) (t : CheckedTree) → all_checks_in (chain ts) ++ checks_in t ≡ all_checks_in (chain (ts ++ t ∷ []))
all_checks_end [] t = sym (append-nil (checks_in t))
all_checks_end (s ∷ ts) t = append_assoc (checks_in s) (all_checks_in (chain ts)) (checks_in t) ∙ ap (λ ns. checks_in s ++ ns) (all_checks_end ts t)

abbrev behind_all : List ℕ → CheckedTrees → List ℕ
behind_all scope checked.none = scope
behind_all scope (checked.more s rest) = behind_all (behind scope s) rest

behind_end : (scope : List ℕ) (ts : List CheckedTree) (t : CheckedTree) → behind_all scope (chain (ts ++ t ∷ [])) ≡ behind (behind_all scope (chain ts)) t
behind_end scope [] t = refl
behind_end scope (s ∷ ts) t = behind_end (behind scope s) ts t

as_adds : (a b : Found) (d l k e m n : List ℕ) → d ≡ e → l ≡ m → k ≡ n → Adds a b d l k → Adds a b e m n
as_adds a b d l k e m n p q r h = record { objects = h.objects ∙ ap (λ x. numbers_where is_mains 1 a.objects ++ x) p; loops = h.loops ∙ ap (λ x. numbers_where is_mains_loop 1 a.loops ++ x) q; checks = h.checks ∙ ap (λ x. numbers_where is_any 1 a.checks ++ x) r }

-- ---- what declares nothing

abbrev NoDeclaration : Option (Elaborated CheckedTree) → Type 0
NoDeclaration None = Unit {0}
NoDeclaration (Some r) = IsNoDeclaration r.tree

none_in : {A : Type 0} (f : A → Elaborated CheckedTree) → ((a : A) → IsNoDeclaration (f a).tree) → (x : Option A) → NoDeclaration (option_map f x)
none_in f h None = tt
none_in f h (Some a) = h a

none_behind : {A : Type 0} (f : A → Option (Elaborated CheckedTree)) → ((a : A) → NoDeclaration (f a)) → (x : Option A) → NoDeclaration (and_then x f)
none_behind f h None = tt
none_behind f h (Some a) = h a

no_declaration : (scope : Scope) (found : Found) (s : SmallStmtTree) → is_declaration s ≡ false → NoDeclaration (item scope found s)
no_declaration scope found (small.Block all) e = none_in (made block) (λ r. tt) (within scope (items scope found all))
no_declaration scope found (small.Declare n q) e = cc
no_declaration scope found (small.Initialise n q x) e = cc
no_declaration scope found (small.Assign n q x) e = none_behind _ (λ o. none_in (λ t. stays scope found (assignment o t)) (λ t. tt) (typed scope x)) (lookup scope n)
no_declaration scope found (small.If x s) e = none_behind _ (λ t. none_in (made (checked.If t)) (λ r. tt) (body_of s (within scope (item scope found s)))) (typed scope x)
no_declaration scope found (small.IfElse x s z) e =
    none_behind _ (λ t. none_behind _ (λ (r : Elaborated CheckedTree). none_in (made (checked.IfElse t r.tree)) (λ q. tt) (body_of z (within scope (item scope r.found z)))) (body_of s (within scope (item scope found s)))) (typed scope x)
no_declaration scope found (small.While q x s) e = none_behind _ (λ t. none_in (made (loop (loop_number found) t)) (λ r. tt) (body_of s (within scope (item scope (with_loop found q) s)))) (typed scope x)
no_declaration scope found (small.Assert q x) e = none_in (λ t. stays scope (with_check found q) (assertion (check_number found) t)) (λ t. tt) (typed scope x)
no_declaration scope found (small.Return x) e = none_in (λ t. stays scope found (checked.Return t)) (λ t. tt) (typed scope x)

abbrev found_of_program : ProgramTree → Found
found_of_program p = record { objects = p.objects; loops = p.loops; checks = p.checks }

module _ (p : ProgramTree) (ints : AreInts p.objects) where
  abbrev listing : Listing
  listing = record { checks = p.checks; is_reached = true; overflow = false }

  cells_known : (n : ℕ) → IsSome (at_number p.objects n) → cells_of p n ≡ int_cell ∷ []
  cells_known zero k = absurd k
  cells_known (suc i) k = known_int p.objects i ints k

  statics_known : (n : ℕ) → statics_of p n ≡ false
  statics_known zero = refl
  statics_known (suc i) = not_static p.objects i ints

  abbrev objects_in : Scope → List ℕ
  objects_in scope = map (λ (e : Entry). e.object) scope

  objects_in-end : (scope : Scope) (e : Entry) → objects_in (scope ++ e ∷ []) ≡ objects_in scope ++ e.object ∷ []
  objects_in-end [] e = refl
  objects_in-end (x ∷ scope) e = ap (λ ns. x.object ∷ ns) (objects_in-end scope e)

  abbrev Known : Scope → Type 0
  Known [] = Unit {0}
  Known (e ∷ rest) = IsSome (at_number p.objects e.object) × Known rest

  known_more : (scope : Scope) (e : Entry) → Known scope → IsSome (at_number p.objects e.object) → Known (scope ++ e ∷ [])
  known_more [] e k h = (h, tt)
  known_more (x ∷ scope) e (a, k) h = (a, known_more scope e k h)

  abbrev Looks : Scope → Option ℕ → Type 0
  Looks scope None = Unit {0}
  Looks scope (Some o) = Known scope → IsSome (at_number p.objects o) × IsIn o (objects_in scope)

  looks : (scope : Scope) (n : ℕ) → Looks scope (lookup scope n)
  looks [] n = tt
  looks (e ∷ rest) n = go (e.name == n) (lookup rest n) (looks rest n) where
    go : (b : Bool) (x : Option ℕ) → Looks rest x → Looks (e ∷ rest) (if b then Some e.object else x)
    go true x h = λ k. (k.0, inl refl)
    go false None h = tt
    go false (Some o) h = λ k. let r = h k.1 in (r.0, inr r.1)

  -- ---- expressions

  record IsIntTree (scope : Scope) (t : TypedTree) : Type 0 where
    typed : IsTyped (cells_of p) t
    int : type_of t ≡ int_cell ∷ []
    checks : HasChecks listing t
    scoped : IsScoped (statics_of p) (objects_in scope) t

  abbrev ValueFits : Scope → Option TypedTree → Type 0
  ValueFits scope None = Unit {0}
  ValueFits scope (Some t) = Known scope → IsIntTree scope t

  name_fits : (scope : Scope) (x : Option ℕ) → Looks scope x → ValueFits scope (option_map read_of x)
  name_fits scope None h = tt
  name_fits scope (Some o) h = λ k. record { typed = cells_known o (h k).0; int = refl; checks = tt; scoped = inr (h k).1 }

  number_fits : (scope : Scope) (z : ℤ) (b : Bool) → is_value int_type z ≡ b → ValueFits scope (if b then Some (checked.Constant int_cell (cell.Number z)) else None)
  number_fits scope z true e = λ k. record { typed = value_from_test int_type z e; int = refl; checks = tt; scoped = tt }
  number_fits scope z false e = tt

  unary_fits : (scope : Scope) (op : UnaryOperator) (x : Option TypedTree) → ValueFits scope x → ValueFits scope (option_map (checked.Unary op int_type 0) x)
  unary_fits scope op None h = tt
  unary_fits scope op (Some t) h = λ k. let r = h k in record {
    typed = (r.typed, r.int);
    int = ap (λ ty. Integer ty ∷ []) (given_int (is_computing op));
    checks = (r.checks, refl);
    scoped = r.scoped;
  }

  binary_fits : (scope : Scope) (op : BinaryOperator) (x y : Option TypedTree) → ValueFits scope x → ValueFits scope y → ValueFits scope (and_then x (λ a. option_map (checked.Binary op int_type 0 a) y))
  binary_fits scope op None y h j = tt
  binary_fits scope op (Some t) None h j = tt
  binary_fits scope op (Some t) (Some u) h j = λ k. let r = h k in let s = j k in record {
    typed = (r.typed, r.int, s.typed, s.int);
    int = ap (λ ty. Integer ty ∷ []) (given_int (is_arithmetic op));
    checks = (r.checks, s.checks, refl);
    scoped = (r.scoped, s.scoped);
  }

  value_fits : (scope : Scope) (e : SmallExprTree) → ValueFits scope (typed scope e)
  value_fits scope (small.Name n q) = name_fits scope (lookup scope n) (looks scope n)
  value_fits scope (small.Number z) = number_fits scope z (is_value int_type z) refl
  value_fits scope (small.Choice q) = λ k. record { typed = tt; int = refl; checks = tt; scoped = tt }
  value_fits scope (small.Parenthesised e) = value_fits scope e
  value_fits scope (small.Unary op e) = unary_fits scope op (typed scope e) (value_fits scope e)
  value_fits scope (small.Binary op e d) = binary_fits scope op (typed scope e) (typed scope d) (value_fits scope e) (value_fits scope d)

  -- ---- statements

  record Fine (scope : Scope) (found later : Found) (d l k : List ℕ) (Good : Type 0) : Type 0 where
    grows : Grows found later
    adds : Adds found later d l k
    more_ints : AreInts found.objects → AreInts later.objects
    more_mains : AreMains found.loops → AreMains later.loops
    good : Grows later (found_of_program p) → Known scope → Good

  abbrev Good : Scope → CheckedTree → Scope → Type 0
  Good scope t later =
      Known later × IsTypedStatement (cells_of p) main_result t × StatementHasChecks listing t × IsScopedStatement (statics_of p) (objects_in scope) t ×
      (behind (objects_in scope) t ≡ objects_in later)

  abbrev AllGood : Scope → List CheckedTree → Scope → Type 0
  AllGood scope ts later =
      Known later × AreTyped (cells_of p) main_result (chain ts) × HaveChecks listing (chain ts) × AreScoped (statics_of p) (objects_in scope) (chain ts) ×
      (behind_all (objects_in scope) (chain ts) ≡ objects_in later)

  abbrev FitsDeclared : Scope → Found → Option (Elaborated ℕ) → Type 0
  FitsDeclared scope found None = Unit {0}
  FitsDeclared scope found (Some d) =
      Fine scope found d.found (d.tree ∷ []) [] [] (Known d.scope × IsSome (at_number p.objects d.tree) × (objects_in d.scope ≡ objects_in scope ++ d.tree ∷ []))

  abbrev FitsItem : Scope → Found → Option (Elaborated CheckedTree) → Type 0
  FitsItem scope found None = Unit {0}
  FitsItem scope found (Some r) = Fine scope found r.found (declared_in r.tree) (loops_in r.tree) (checks_in r.tree) (Good scope r.tree r.scope)

  abbrev FitsAll : Scope → Found → Option (Elaborated (List CheckedTree)) → Type 0
  FitsAll scope found None = Unit {0}
  FitsAll scope found (Some r) = Fine scope found r.found (all_declared_in (chain r.tree)) (all_loops_in (chain r.tree)) (all_checks_in (chain r.tree)) (AllGood scope r.tree r.scope)

  declared_fits : (scope : Scope) (found : Found) (n : ℕ) (q : Place) → FitsDeclared scope found (declare scope found n q)
  declared_fits scope found n q = go (is_declared found.objects n || nat_lt most_cells (object_number found)) where
    entry : Entry
    entry = record { name = n; object = object_number found }

    with_object : Found
    with_object = record found { objects = found.objects ++ variable n q ∷ [] }

    go : (b : Bool) → FitsDeclared scope found (if b then None else Some (record { tree = object_number found; scope = scope ++ record { name = n; object = object_number found } ∷ []; found = record found { objects = found.objects ++ variable n q ∷ [] } }))
    go true = tt
    go false = record {
      grows = record { objects = take-append_seam found.objects (variable n q ∷ []); loops = take-length found.loops; checks = take-length found.checks };
      adds = record { objects = numbers_more is_mains 1 found.objects (variable n q) refl; loops = sym (append-nil _); checks = sym (append-nil _) };
      more_ints = ints_more found.objects n q;
      more_mains = λ h. h;
      good = λ g k.
          let some : IsSome (at_number p.objects (object_number found)) = subst (λ (x : Option ObjectInfo). IsSome x) (sym (at_last found.objects (variable n q) p.objects g.objects)) tt in
          (known_more scope (record { name = n; object = object_number found }) k some, some, objects_in-end scope (record { name = n; object = object_number found }));
    }

  block_fits : (scope : Scope) (found : Found) (x : Option (Elaborated (List CheckedTree))) → FitsAll scope found x → FitsItem scope found (option_map (made block) (within scope x))
  block_fits scope found None h = tt
  block_fits scope found (Some r) h = record {
    grows = h.grows;
    adds = h.adds;
    more_ints = h.more_ints;
    more_mains = h.more_mains;
    good = λ g k. let (kn, ty, ch, sc, be) = h.good g k in (k, ty, ch, sc, refl);
  }

  declaration_fits : (scope : Scope) (found : Found) (x : Option (Elaborated ℕ)) → FitsDeclared scope found x → FitsItem scope found (option_map (made checked.Declare) x)
  declaration_fits scope found None h = tt
  declaration_fits scope found (Some d) h = record {
    grows = h.grows;
    adds = h.adds;
    more_ints = h.more_ints;
    more_mains = h.more_mains;
    good = λ g k. let (kn, some, seam) = h.good g k in (kn, tt, tt, statics_known d.tree, sym seam);
  }

  initialise_fits : (e : SmallExprTree) (scope : Scope) (found : Found) (x : Option (Elaborated ℕ)) → FitsDeclared scope found x →
      FitsItem scope found (and_then x (λ d. option_map (λ t. stays d.scope d.found (checked.Initialise d.tree t)) (typed d.scope e)))
  initialise_fits e scope found None h = tt
  initialise_fits e scope found (Some d) h = go (typed d.scope e) (value_fits d.scope e) (no_checks d.scope e) where
    go : (y : Option TypedTree) → ValueFits d.scope y → NoChecks y → FitsItem scope found (option_map (λ t. stays d.scope d.found (checked.Initialise d.tree t)) y)
    go None v none = tt
    go (Some t) v none = record {
      grows = h.grows;
      adds = subst (λ ks. Adds found d.found (d.tree ∷ []) [] ks) (sym none) h.adds;
      more_ints = h.more_ints;
      more_mains = h.more_mains;
      good = λ g k.
          let (kn, some, seam) = h.good g k in
          let w = v kn in
          (kn, (w.typed, cells_known d.tree some ∙ sym w.int), w.checks, (statics_known d.tree, subst (λ ns. IsScoped (statics_of p) ns t) seam w.scoped), sym seam);
    }

  assign_fits : (scope : Scope) (found : Found) (x : Option ℕ) (y : Option TypedTree) → Looks scope x → ValueFits scope y → NoChecks y →
      FitsItem scope found (and_then x (λ o. option_map (λ t. stays scope found (assignment o t)) y))
  assign_fits scope found None y l v none = tt
  assign_fits scope found (Some o) None l v none = tt
  assign_fits scope found (Some o) (Some t) l v none = record {
    grows = grows_not found;
    adds = subst (λ ks. Adds found found [] [] ks) (sym none) (adds_nothing found);
    more_ints = λ h. h;
    more_mains = λ h. h;
    good = λ g k. let w = v k in (k, (cells_known o (l k).0, w.typed, w.int), w.checks, (inr (l k).1, w.scoped), refl);
  }

  scalar : (scope : Scope) (t : TypedTree) → IsIntTree scope t → IsInteger (type_of t)
  scalar scope t w = subst (λ types. IsInteger types) (sym w.int) tt

  -- what a loop or a branch does declares nothing around it
  abbrev FitsBody : Scope → Found → Option (Elaborated CheckedTree) → Type 0
  FitsBody scope found None = Unit {0}
  FitsBody scope found (Some r) = Fine scope found r.found (declared_in r.tree) (loops_in r.tree) (checks_in r.tree) (
      Known r.scope × IsTypedStatement (cells_of p) main_result r.tree × StatementHasChecks listing r.tree × IsScopedStatement (statics_of p) (objects_in scope) r.tree × IsNoDeclaration r.tree ×
      (objects_in scope ≡ objects_in r.scope))

  within_fits : (scope : Scope) (found : Found) (x : Option (Elaborated CheckedTree)) → FitsItem scope found x → NoDeclaration x → FitsBody scope found (within scope x)
  within_fits scope found None h d = tt
  within_fits scope found (Some r) h d = record {
    grows = h.grows;
    adds = h.adds;
    more_ints = h.more_ints;
    more_mains = h.more_mains;
    good = λ g k. let (kn, ty, ch, sc, be) = h.good g k in (k, ty, ch, sc, d, refl);
  }

  body_fits : (s : SmallStmtTree) (scope : Scope) (found : Found) → FitsItem scope found (item scope found s) → FitsBody scope found (body_of s (within scope (item scope found s)))
  body_fits s scope found h = go (is_declaration s) refl where
    go : (b : Bool) → is_declaration s ≡ b → FitsBody scope found (if b then None else within scope (item scope found s))
    go true e = tt
    go false e = within_fits scope found (item scope found s) h (no_declaration scope found s e)

  if_fits : (scope : Scope) (found : Found) (x : Option TypedTree) (y : Option (Elaborated CheckedTree)) → ValueFits scope x → NoChecks x → FitsBody scope found y →
      FitsItem scope found (and_then x (λ t. option_map (made (checked.If t)) y))
  if_fits scope found None y v none h = tt
  if_fits scope found (Some t) None v none h = tt
  if_fits scope found (Some t) (Some r) v none h = record {
    grows = h.grows;
    adds = subst (λ ks. Adds found r.found (declared_in r.tree) (loops_in r.tree) (ks ++ checks_in r.tree)) (sym none) h.adds;
    more_ints = h.more_ints;
    more_mains = h.more_mains;
    good = λ g k. let (kn, ty, ch, sc, nd, be) = h.good g k in let w = v k in (kn, (w.typed, scalar scope t w, ty), (w.checks, ch), (w.scoped, nd, sc), be);
  }

  if_else_fits : (z : SmallStmtTree) (scope : Scope) (found : Found) (x : Option TypedTree) (y : Option (Elaborated CheckedTree)) → ValueFits scope x → NoChecks x → FitsBody scope found y →
      ((later : Found) → FitsItem scope later (item scope later z)) →
      FitsItem scope found (and_then x (λ t. and_then y (λ r. option_map (made (checked.IfElse t r.tree)) (body_of z (within scope (item scope r.found z))))))
  if_else_fits z scope found None y v none h next = tt
  if_else_fits z scope found (Some t) None v none h next = tt
  if_else_fits z scope found (Some t) (Some r) v none h next = go (body_of z (within scope (item scope r.found z))) (body_fits z scope r.found (next r.found)) where
    go : (w : Option (Elaborated CheckedTree)) → FitsBody scope r.found w → FitsItem scope found (option_map (made (checked.IfElse t r.tree)) w)
    go None j = tt
    go (Some q) j = record {
      grows = grows_trans found r.found q.found h.grows j.grows;
      adds = subst (λ ks. Adds found q.found (declared_in r.tree ++ declared_in q.tree) (loops_in r.tree ++ loops_in q.tree) (ks ++ checks_in r.tree ++ checks_in q.tree)) (sym none)
          (adds_both found r.found q.found (declared_in r.tree) (loops_in r.tree) (checks_in r.tree) (declared_in q.tree) (loops_in q.tree) (checks_in q.tree) h.adds j.adds);
      more_ints = λ a. j.more_ints (h.more_ints a);
      more_mains = λ a. j.more_mains (h.more_mains a);
      good = λ g k.
          let (kn, ty, ch, sc, nd, be) = h.good (grows_trans r.found q.found (found_of_program p) j.grows g) k in
          let (kn2, ty2, ch2, sc2, nd2, be2) = j.good g k in
          let w = v k in
          (kn2, (w.typed, scalar scope t w, ty, ty2), (w.checks, ch, ch2), (w.scoped, nd, sc, nd2, sc2), be2);
    }

  while_fits : (q : Place) (scope : Scope) (found : Found) (x : Option TypedTree) (y : Option (Elaborated CheckedTree)) → ValueFits scope x → NoChecks x → FitsBody scope (with_loop found q) y →
      FitsItem scope found (and_then x (λ t. option_map (made (loop (loop_number found) t)) y))
  while_fits q scope found None y v none h = tt
  while_fits q scope found (Some t) None v none h = tt
  while_fits q scope found (Some t) (Some r) v none h =
      let info : LoopInfo = record { place = q; function = 1; mods = []; vars = [] } in
      let more : Grows found (with_loop found q) = record { objects = take-length found.objects; loops = take-append_seam found.loops _; checks = take-length found.checks } in
      let first : Adds found (with_loop found q) [] (loop_number found ∷ []) [] = record { objects = sym (append-nil _); loops = numbers_more is_mains_loop 1 found.loops info refl; checks = sym (append-nil _) } in
      record {
        grows = grows_trans found (with_loop found q) r.found more h.grows;
        adds = subst (λ ks. Adds found r.found (declared_in r.tree) (loop_number found ∷ loops_in r.tree) (ks ++ checks_in r.tree)) (sym none)
            (adds_both found (with_loop found q) r.found [] (loop_number found ∷ []) [] (declared_in r.tree) (loops_in r.tree) (checks_in r.tree) first h.adds);
        more_ints = h.more_ints;
        more_mains = λ a. h.more_mains (mains_more found.loops info refl refl a);
        good = λ g k. let (kn, ty, ch, sc, nd, be) = h.good g k in let w = v k in (kn, (w.typed, scalar scope t w, ty), (w.checks, ch), (w.scoped, nd, sc), be);
      }

  assert_fits : (q : Place) (scope : Scope) (found : Found) (x : Option TypedTree) → ValueFits scope x → NoChecks x →
      FitsItem scope found (option_map (λ t. stays scope (with_check found q) (assertion (check_number found) t)) x)
  assert_fits q scope found None v none = tt
  assert_fits q scope found (Some t) v none =
      let info : CheckInfo = record { place = q; kind = Assertion } in
      let numbered : check_number found ∷ [] ≡ unless_none (check_number found) = some_number (length found.checks) in
      record {
        grows = record { objects = take-length found.objects; loops = take-length found.loops; checks = take-append_seam found.checks _ };
        adds = record { objects = sym (append-nil _); loops = sym (append-nil _); checks = numbers_more is_any 1 found.checks info refl ∙ ap (λ ks. numbers_where is_any 1 found.checks ++ ks) (numbered ∙ ap (λ ks. ks ++ unless_none (check_number found)) (sym none)) };
        more_ints = λ a. a;
        more_mains = λ a. a;
        good = λ g k.
            let w = v k in
            (k, (w.typed, scalar scope t w), (w.checks, subst (λ (x : Option CheckInfo). IsOfKind Assertion x) (sym (at_last found.checks info p.checks g.checks)) refl), w.scoped, refl);
      }

  return_fits : (scope : Scope) (found : Found) (x : Option TypedTree) → ValueFits scope x → NoChecks x → FitsItem scope found (option_map (λ t. stays scope found (checked.Return t)) x)
  return_fits scope found None v none = tt
  return_fits scope found (Some t) v none = record {
    grows = grows_not found;
    adds = subst (λ ks. Adds found found [] [] ks) (sym none) (adds_nothing found);
    more_ints = λ h. h;
    more_mains = λ h. h;
    good = λ g k. let w = v k in (k, (w.typed, w.int), w.checks, w.scoped, refl);
  }

  typed_end : (ts : List CheckedTree) (t : CheckedTree) → AreTyped (cells_of p) main_result (chain ts) → IsTypedStatement (cells_of p) main_result t → AreTyped (cells_of p) main_result (chain (ts ++ t ∷ []))
  typed_end [] t h k = (k, tt)
  typed_end (s ∷ ts) t (h, r) k = (h, typed_end ts t r k)

  checks_end : (ts : List CheckedTree) (t : CheckedTree) → HaveChecks listing (chain ts) → StatementHasChecks listing t → HaveChecks listing (chain (ts ++ t ∷ []))
  checks_end [] t h k = (k, tt)
  checks_end (s ∷ ts) t (h, r) k = (h, checks_end ts t r k)

  scoped_end : (scope : List ℕ) (ts : List CheckedTree) (t : CheckedTree) → AreScoped (statics_of p) scope (chain ts) → IsScopedStatement (statics_of p) (behind_all scope (chain ts)) t → AreScoped (statics_of p) scope (chain (ts ++ t ∷ []))
  scoped_end scope [] t h k = (k, tt)
  scoped_end scope (s ∷ ts) t (h, r) k = (h, scoped_end (behind scope s) ts t r k)

  also_fits : (s : SmallStmtTree) (scope : Scope) (found : Found) (x : Option (Elaborated (List CheckedTree))) → FitsAll scope found x →
      ((there : Scope) (later : Found) → FitsItem there later (item there later s)) →
      FitsAll scope found (and_then x (λ r. option_map (made (λ t. r.tree ++ t ∷ [])) (item r.scope r.found s)))
  also_fits s scope found None h next = tt
  also_fits s scope found (Some r) h next = go (item r.scope r.found s) (next r.scope r.found) where
    go : (w : Option (Elaborated CheckedTree)) → FitsItem r.scope r.found w → FitsAll scope found (option_map (made (λ t. r.tree ++ t ∷ [])) w)
    go None j = tt
    go (Some q) j = record {
      grows = grows_trans found r.found q.found h.grows j.grows;
      adds = as_adds found q.found _ _ _ _ _ _ (all_declared_end r.tree q.tree) (all_loops_end r.tree q.tree) (all_checks_end r.tree q.tree)
          (adds_both found r.found q.found (all_declared_in (chain r.tree)) (all_loops_in (chain r.tree)) (all_checks_in (chain r.tree)) (declared_in q.tree) (loops_in q.tree) (checks_in q.tree) h.adds j.adds);
      more_ints = λ a. j.more_ints (h.more_ints a);
      more_mains = λ a. j.more_mains (h.more_mains a);
      good = λ g k.
          let (kn, ty, ch, sc, be) = h.good (grows_trans r.found q.found (found_of_program p) j.grows g) k in
          let (kn2, ty2, ch2, sc2, be2) = j.good g kn in (
            kn2,
            typed_end r.tree q.tree ty ty2,
            checks_end r.tree q.tree ch ch2,
            scoped_end (objects_in scope) r.tree q.tree sc (subst (λ ns. IsScopedStatement (statics_of p) ns q.tree) (sym be) sc2),
            behind_end (objects_in scope) r.tree q.tree ∙ ap (λ ns. behind ns q.tree) be ∙ be2,
          );
    }

  mutual
    item_fits : (scope : Scope) (found : Found) (s : SmallStmtTree) → FitsItem scope found (item scope found s)
    item_fits scope found (small.Block all) = block_fits scope found (items scope found all) (items_fit scope found all)
    item_fits scope found (small.Declare n q) = declaration_fits scope found (declare scope found n q) (declared_fits scope found n q)
    item_fits scope found (small.Initialise n q e) = initialise_fits e scope found (declare scope found n q) (declared_fits scope found n q)
    item_fits scope found (small.Assign n q e) = assign_fits scope found (lookup scope n) (typed scope e) (looks scope n) (value_fits scope e) (no_checks scope e)
    item_fits scope found (small.If e s) = if_fits scope found (typed scope e) (body_of s (within scope (item scope found s))) (value_fits scope e) (no_checks scope e) (body_fits s scope found (item_fits scope found s))
    item_fits scope found (small.IfElse e s z) =
        if_else_fits z scope found (typed scope e) (body_of s (within scope (item scope found s))) (value_fits scope e) (no_checks scope e) (body_fits s scope found (item_fits scope found s)) (λ later. item_fits scope later z)
    item_fits scope found (small.While q e s) =
        while_fits q scope found (typed scope e) (body_of s (within scope (item scope (with_loop found q) s))) (value_fits scope e) (no_checks scope e) (body_fits s scope (with_loop found q) (item_fits scope (with_loop found q) s))
    item_fits scope found (small.Assert q e) = assert_fits q scope found (typed scope e) (value_fits scope e) (no_checks scope e)
    item_fits scope found (small.Return e) = return_fits scope found (typed scope e) (value_fits scope e) (no_checks scope e)

    items_fit : (scope : Scope) (found : Found) (all : SmallStmtTrees) → FitsAll scope found (items scope found all)
    items_fit scope found small.none = record { grows = grows_not found; adds = adds_nothing found; more_ints = λ h. h; more_mains = λ h. h; good = λ g k. (k, tt, tt, tt, refl) }
    items_fit scope found (small.also all s) = also_fits s scope found (items scope found all) (items_fit scope found all) (λ there later. item_fits there later s)

-- ---- programs

statics_none : (cells : ℕ → List CellType) (n : ℕ) (os : List ObjectInfo) → AreInts os → HoldStatics cells n os []
statics_none cells n [] h = refl
statics_none cells n (o ∷ os) (a, b, c, r) = subst (λ s. HoldObject s cells n o.cells [] (HoldStatics cells (suc n) os)) (sym b) (statics_none cells (suc n) os r)

have_cells : (os : List ObjectInfo) → AreInts os → HaveCells os
have_cells [] h = tt
have_cells (o ∷ os) (a, b, c, r) = (subst (λ (types : List CellType). 0 < length types) (sym a) (omega arith), have_cells os r)

cells_counted : (os : List ObjectInfo) → AreInts os → cell_count os ≡ length os
cells_counted [] h = refl
cells_counted (o ∷ os) (a, b, c, r) =
    let first : length o.cells ≡ 1 = ap (λ (types : List CellType). length types) a in
    let rest = cells_counted os r in
    omega arith

in_numbers : (xs : List CheckInfo) (n i : ℕ) → IsSome (slice_get xs i) → IsIn (i + n) (numbers_where is_any n xs)
in_numbers [] n i h = absurd h
in_numbers (x ∷ xs) n zero h = inl (omega arith)
in_numbers (x ∷ xs) n (suc i) h =
    let e : i + suc n ≡ suc i + n = omega arith in
    inr (subst (λ k. IsIn k (numbers_where is_any (suc n) xs)) e (in_numbers xs (suc n) i h))

abbrev nothing : ProgramTree
nothing = record { objects = []; functions = []; loops = []; checks = []; names = []; static_values = []; thresholds = [] }

-- the objects of programs hold no pointers
known_cells_of : (os : List ObjectInfo) (i : ℕ) (o : ObjectInfo) → AreInts os → slice_get os i ≡ Some o → has_pointer o.cells ≡ false
known_cells_of [] i o h e = cc
known_cells_of (x ∷ os) zero o (a, b, c, r) e = let q : x ≡ o = cc in ap (λ (y : ObjectInfo). has_pointer y.cells) (sym q) ∙ ap has_pointer a
known_cells_of (x ∷ os) (suc i) o (a, b, c, r) e = known_cells_of os i o r e

no_pointer_at : (os : List ObjectInfo) (i : ℕ) → AreInts os → has_pointer (known_cells (slice_get os i)) ≡ false
no_pointer_at [] i h = refl
no_pointer_at (o ∷ os) zero (a, b, c, r) = ap has_pointer a
no_pointer_at (o ∷ os) (suc i) (a, b, c, r) = no_pointer_at os i r

module _ (u : SmallUnitTree) (r : Elaborated (List CheckedTree)) where
  abbrev before : ProgramTree
  before = program_with u r

  abbrev whole : ProgramTree
  whole = with_loop_sets before

  abbrev main : FunctionTree
  main = main_function u (block r.tree)

  abbrev listed : Listing
  listed = record { checks = r.found.checks; is_reached = true; overflow = false }

  points_nowhere : AreInts r.found.objects → IsTypedStatement (cells_of whole) main_result (block r.tree) → main_among whole.names whole.functions ≡ Some main → ArePointsTo whole nowhere
  points_nowhere ints ty is = record {
    closed = record { first = first; statics = tt; body = λ f e. let q : main ≡ f = cc in subst (λ (f : FunctionTree). StatementIsTakenIn nowhere f.body) q (statement_nowhere (cells_of whole) no_pointers main_result (block r.tree) ty) };
    least = λ other c n m e. cc;
  } where
    no_pointers : (n : ℕ) → has_pointer (cells_of whole n) ≡ false
    no_pointers zero = refl
    no_pointers (suc i) = no_pointer_at r.found.objects i ints

    first : (n : ℕ) (o : ObjectInfo) → at_number r.found.objects n ≡ Some o → has_pointer o.cells ≡ true → nowhere n (first_member o.is_static) ≡ true
    first zero o e h = cc
    first (suc i) o e h = let f = known_cells_of r.found.objects i o ints e in cc

  function_lawful : IsLawfulFunction whole listed 1 main → (k : ℕ) (f : FunctionTree) → at_number (main ∷ []) k ≡ Some f → IsLawfulFunction whole (record { checks = r.found.checks; is_reached = k == 1; overflow = false }) k f
  function_lawful h zero f e = cc
  function_lawful h (suc zero) f e = let q : main ≡ f = cc in subst (λ f. IsLawfulFunction whole listed 1 f) q h
  function_lawful h (suc (suc k)) f e = cc

  some_function : (k : ℕ) → k ≡ 1 → IsSome (at_number (main ∷ []) k)
  some_function k e = subst (λ k. IsSome (at_number (main ∷ []) k)) (sym e) tt

  object_function : (n : ℕ) (o : ObjectInfo) → AreInts r.found.objects → at_number r.found.objects n ≡ Some o → IsSome (at_number (main ∷ []) o.function)
  object_function zero o ints e = cc
  object_function (suc i) o ints e = some_function o.function (known_main r.found.objects i o ints e)

  loop_function : (l : ℕ) (i : LoopInfo) → AreMains r.found.loops → at_number whole.loops l ≡ Some i → IsSome (at_number (main ∷ []) i.function)
  loop_function zero i mains e = cc
  loop_function (suc j) i mains e = some_function i.function (taken_function r.found.loops (functions_loop_sets before before.functions) j i mains e)

  check_in : (c : ℕ) → IsSome (at_number r.found.checks c) → IsIn c (numbers_where is_any 1 r.found.checks)
  check_in zero h = absurd h
  check_in (suc i) h = let s : i + 1 ≡ suc i = omega arith in subst (λ k. IsIn k (numbers_where is_any 1 r.found.checks)) s (in_numbers r.found.checks 1 i h)

  pub lawful_with : items [] nothing_found u.items ≡ Some r → length r.found.objects ≤ most_cells → IsLawful whole
  lawful_with e few = made_lawful (subst (λ x. FitsAll nothing tt [] nothing_found x) e (items_fit nothing tt [] nothing_found u.items)) where
    made_lawful : FitsAll nothing tt [] nothing_found (Some r) → IsLawful whole
    made_lawful first =
        let ints = first.more_ints tt in
        let mains = first.more_mains tt in
        let fine : FitsAll before ints [] nothing_found (Some r) = subst (λ x. FitsAll before ints [] nothing_found x) e (items_fit before ints [] nothing_found u.items) in
        let (kn, ty, ch, sc, be) = fine.good (grows_not r.found) tt in
        let counted = cells_counted r.found.objects ints in
        let is : main_among whole.names whole.functions ≡ Some main = ap (λ (m : Name). if bytes_eq m.bytes (codes "main") then Some main else None) (get_or-append_seam u.names main_name [] (record { bytes = [] })) in
        record {
          main = 1;
          main_function = main;
          has_main = refl;
          is_main = is;
          main_form = (refl, inl refl);
          overflow = false;
          functions = function_lawful (record {
            objects = fine.adds.objects;
            parameters = tt;
            loops = taken_numbers 1 r.found.loops (functions_loop_sets before before.functions) ∙ fine.adds.loops;
            typed = ty;
            scoped = sc;
            checks = ch;
            loop_sets = sets_taken r.found.loops (function_loop_sets before main) (loops_in (block r.tree)) mains (loop_numbers (cells_of before) (statics_of before) [] (block r.tree)) fine.adds.loops;
          });
          objects = λ n o h. inr (object_function n o ints h);
          loops = λ l i h. loop_function l i mains h;
          checks = λ c h. subst (λ ks. IsIn c ks) fine.adds.checks (check_in c h);
          have_cells = have_cells r.found.objects ints;
          few_cells = omega arith;
          statics = statics_none (cells_of whole) 1 r.found.objects ints;
          sets = nowhere;
          are_sets = points_nowhere ints ty is;
        }

  -- loops without their sets are those that were found
  pub bare_whole : items [] nothing_found u.items ≡ Some r → map bare whole.loops ≡ r.found.loops
  bare_whole e =
      let first : FitsAll nothing tt [] nothing_found (Some r) = subst (λ x. FitsAll nothing tt [] nothing_found x) e (items_fit nothing tt [] nothing_found u.items) in
      bare_taken r.found.loops (functions_loop_sets before before.functions) (first.more_mains tt)

pub program_lawful : (u : SmallUnitTree) (p : ProgramTree) → program_of u ≡ Some p → IsLawful p
program_lawful u p e = go (items [] nothing_found u.items) refl e where
  go : (x : Option (Elaborated (List CheckedTree))) → items [] nothing_found u.items ≡ x → option_map with_loop_sets (option_map (program_with u) x) ≡ Some p → IsLawful p
  go None is e = cc
  go (Some r) is e =
      let q : with_loop_sets (program_with u r) ≡ p = cc in
      subst IsLawful q (lawful_with u r is (few_objects u (with_loop_sets (program_with u r)) (ap (λ x. option_map with_loop_sets (option_map (program_with u) x)) is)))

pub unit_says : (u : SmallUnitTree) (p : ProgramTree) → program_of u ≡ Some p → spelt_bodies p ≡ small.Block (plain_items u.items) ∷ []
unit_says u p e = go (items [] nothing_found u.items) refl e where
  go : (x : Option (Elaborated (List CheckedTree))) → items [] nothing_found u.items ≡ x → option_map with_loop_sets (option_map (program_with u) x) ≡ Some p → spelt_bodies p ≡ small.Block (plain_items u.items) ∷ []
  go None is e = cc
  go (Some r) is e =
      let q : with_loop_sets (program_with u r) ≡ p = cc in
      subst (λ p. spelt_bodies p ≡ small.Block (plain_items u.items) ∷ []) q
      (ap (λ ls. spelt_item (record { objects = r.found.objects; loops = ls; checks = r.found.checks }) (block r.tree) ∷ []) (bare_whole u r is) ∙ ap (λ s. s ∷ []) (whole_says u r is))

pub lawful_ok : {E : Type 0} (u : SmallUnitTree) (r : Result Program E) → IfOk r (λ p. program_of u ≡ Some (program_tree p)) → IfOk r (λ p. IsLawful (program_tree p))
lawful_ok u (Ok p) h = program_lawful u (program_tree p) h
lawful_ok u (Err e) h = tt
