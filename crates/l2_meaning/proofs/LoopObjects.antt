-- Loops of lawful programs change objects that have cells, and their variables are integers.
use Rattle.std.proofs.Common.{◌≡◌, ℕ, zero, suc, ◌+◌, ◌<◌, Bool, true, false, if◌then◌else◌, List, [], ◌∷◌, ◌++◌, length, Option, Some, None, inl, inr, refl, ap, sym, ◌∙◌, subst, arith}
use Rattle.std.specs.Prelude.{◌==◌, ◌&&◌, ◌||◌, cond, filter, slice_get, All}
use Rattle.std.specs.List.{AllByRecursion}
use Rattle.std.specs.List.Sorted.{IsStrictlySortedBy}
use Rattle.std.specs.Cmp.{nat_cmp_total, ranks}
use Rattle.std.specs.Ordering.{nat_cmp, MatchOrdering}
use Rattle.std.proofs.lemmas.List.Elements.{All-from_recursion}
use Rattle.l2_runs.specs.Numbers.{at_number, numbers_where}
use Rattle.l2_runs.specs.Fits.{Layout}
use Rattle.l2_program.specs.declared.program.ObjectInfo.{ObjectInfo}
use Rattle.l2_program.specs.declared.program.LoopInfo.{LoopInfo}
use Rattle.l2_program.specs.Checked.{Object, TypedTree, Constant, Choice, Read, Unary, Binary, Convert, Assign, Assert, CheckedTree, Block, Declare, Static, Initialise, Label, Evaluate, If, IfElse, While, Return, CheckedTrees, none, more}
use Rattle.l2_program.specs.Names.{declared_in, all_declared_in}
use Rattle.l2_program.specs.Programs.{ProgramTree, FunctionTree}
use Rattle.l2_meaning.specs.declared.sets.LoopSets.{LoopSets}
use Rattle.l2_meaning.specs.Execution.{known_cells, cells_of}
use Rattle.l2_meaning.specs.Rising.{rising, Rise}
use Rattle.l2_meaning.specs.Scopes.{behind, is_static_object, statics_of}
use Rattle.l2_meaning.specs.Changes.{changes_of, changes_in, all_changes_in, is_integer, is_one_of, is_variable, sets_of_loop, loop_sets, all_loop_sets, function_loop_sets, HasSets, HaveSets}
use Rattle.l2_meaning.specs.Lawful.{IsIn, IsNameable, IsScoped, IsScopedStatement, AreScoped, HaveCells, IsSome, loops_of, IsLawful, AreOfObjects}
use Rattle.l2_meaning.proofs.Orders.{all_with, strict_in_order, equal_numbers}
use Rattle.l2_meaning.proofs.Loops.{numbers_of, loop_numbers}

-- ---- lists

all_both : {A : Type 0} (P : A → Type 0) (xs ys : List A) → AllByRecursion P xs → AllByRecursion P ys → AllByRecursion P (xs ++ ys)
all_both P [] ys h k = k
all_both P (x ∷ xs) ys (a, r) k = (a, all_both P xs ys r k)

all_left : {A : Type 0} (P : A → Type 0) (xs ys : List A) → AllByRecursion P (xs ++ ys) → AllByRecursion P xs
all_left P [] ys h = tt
all_left P (x ∷ xs) ys (a, r) = (a, all_left P xs ys r)

all_right : {A : Type 0} (P : A → Type 0) (xs ys : List A) → AllByRecursion P (xs ++ ys) → AllByRecursion P ys
all_right P [] ys h = h
all_right P (x ∷ xs) ys (a, r) = all_right P xs ys r

all_in : (P : ℕ → Type 0) (n : ℕ) (ns : List ℕ) → AllByRecursion P ns → IsIn n ns → P n
all_in P n [] h i = absurd i
all_in P n (m ∷ ns) (a, r) (inl e) = subst P (sym e) a
all_in P n (m ∷ ns) (a, r) (inr i) = all_in P n ns r i

all_rising : (P : ℕ → Type 0) (ns : List ℕ) → AllByRecursion P ns → AllByRecursion P (rising ns)
all_rising P [] h = tt
all_rising P (n ∷ ns) (a, r) = all_with nat_cmp nat_cmp_total equal_numbers P n (rising ns) a (all_rising P ns r)

all_passed : (P : ℕ → Type 0) (test : ℕ → Bool) → ((n : ℕ) → test n ≡ true → P n) → (ns : List ℕ) → AllByRecursion P (filter test ns)
all_passed P test h [] = tt
all_passed P test h (n ∷ ns) = go (test n) refl (all_passed P test h ns) where
  go : (b : Bool) → test n ≡ b → AllByRecursion P (filter test ns) → AllByRecursion P (cond b (n ∷ filter test ns) (filter test ns))
  go true e r = (h n e, r)
  go false e r = r

rise_from_strict : (ns : List ℕ) → IsStrictlySortedBy nat_cmp ns → Rise ns
unfolding IsStrictlySortedBy
rise_from_strict [] h = tt
rise_from_strict (n ∷ []) h = tt
rise_from_strict (n ∷ m ∷ ns) h = (subst (λ r. MatchOrdering r (n < m) (n ≡ m) (m < n)) h.0.0 (ranks n m), rise_from_strict (m ∷ ns) h.1)

pub rising_rises : (ns : List ℕ) → Rise (rising ns)
rising_rises ns = rise_from_strict (rising ns) (strict_in_order nat_cmp nat_cmp_total equal_numbers ns)

left_true : (a b : Bool) → (a && b) ≡ true → a ≡ true
left_true true b e = refl
left_true false b e = e

-- ---- trees

record AreGood (cells : Layout) (s : LoopSets) : Type 0 where
  mods_rise : Rise s.mods
  vars_rise : Rise s.vars
  changed : AllByRecursion (λ n. 0 < length (cells n)) s.mods
  variables : AllByRecursion (λ n. is_integer (cells n) ≡ true) s.vars

module _ (cells : Layout) (is_static : ℕ → Bool) (static_there : (n : ℕ) → is_static n ≡ true → 0 < length (cells n)) where
  abbrev There : List ℕ → Type 0
  There ns = AllByRecursion (λ n. 0 < length (cells n)) ns

  named_there : (scope : List ℕ) (n : ℕ) → There scope → IsNameable is_static scope n → 0 < length (cells n)
  named_there scope n h (inl e) = static_there n e
  named_there scope n h (inr i) = all_in (λ n. 0 < length (cells n)) n scope h i

  value_changes : (scope : List ℕ) (e : TypedTree) → There scope → IsScoped is_static scope e → There (changes_of e)
  value_changes scope (Constant ty v) h s = tt
  value_changes scope (Choice ty) h s = tt
  value_changes scope (Read ty l) h s = tt
  value_changes scope (Unary op ty c e) h s = value_changes scope e h s
  value_changes scope (Binary op ty c x y) h (s, t) = all_both (λ n. 0 < length (cells n)) (changes_of x) (changes_of y) (value_changes scope x h s) (value_changes scope y h t)
  value_changes scope (Convert ty e) h s = value_changes scope e h s
  value_changes scope (Assign ty (Object n) e) h (s, t) = (named_there scope n h s, value_changes scope e h t)
  value_changes scope (Assert c e) h s = value_changes scope e h s

  behind_there : (scope : List ℕ) (s : CheckedTree) → There scope → There (declared_in s) → There (behind scope s)
  behind_there scope (Block all) h d = h
  behind_there scope (Declare n) h d = all_both (λ n. 0 < length (cells n)) scope (n ∷ []) h d
  behind_there scope (Static n) h d = h
  behind_there scope (Initialise n e) h d = all_both (λ n. 0 < length (cells n)) scope (n ∷ []) h d
  behind_there scope (Label n) h d = h
  behind_there scope (Evaluate e) h d = h
  behind_there scope (If e s) h d = h
  behind_there scope (IfElse e s t) h d = h
  behind_there scope (While l named e s) h d = h
  behind_there scope (Return e) h d = h

  mutual
    changes_there : (scope : List ℕ) (s : CheckedTree) → There scope → There (declared_in s) → IsScopedStatement is_static scope s → There (changes_in s)
    changes_there scope (Block all) h d k = all_changes_there scope all h d k
    changes_there scope (Declare n) h d k = d
    changes_there scope (Static n) h d k = d
    changes_there scope (Initialise n e) h d (k, m) = (d.0, value_changes (scope ++ n ∷ []) e (all_both (λ n. 0 < length (cells n)) scope (n ∷ []) h d) m)
    changes_there scope (Label n) h d k = tt
    changes_there scope (Evaluate e) h d k = value_changes scope e h k
    changes_there scope (If e s) h d (k, nd, m) = all_both (λ n. 0 < length (cells n)) (changes_of e) (changes_in s) (value_changes scope e h k) (changes_there scope s h d m)
    changes_there scope (IfElse e s t) h d (k, nd, m, ne, o) =
        let left = all_left (λ n. 0 < length (cells n)) (declared_in s) (declared_in t) d in
        let right = all_right (λ n. 0 < length (cells n)) (declared_in s) (declared_in t) d in
        all_both (λ n. 0 < length (cells n)) (changes_of e ++ changes_in s) (changes_in t)
        (all_both (λ n. 0 < length (cells n)) (changes_of e) (changes_in s) (value_changes scope e h k) (changes_there scope s h left m)) (changes_there scope t h right o)
    changes_there scope (While l named e s) h d (k, nd, m) = all_both (λ n. 0 < length (cells n)) (changes_of e) (changes_in s) (value_changes scope e h k) (changes_there scope s h d m)
    changes_there scope (Return e) h d k = value_changes scope e h k

    all_changes_there : (scope : List ℕ) (all : CheckedTrees) → There scope → There (all_declared_in all) → AreScoped is_static scope all → There (all_changes_in all)
    all_changes_there scope none h d k = tt
    all_changes_there scope (more s rest) h d (k, m) =
        let left = all_left (λ n. 0 < length (cells n)) (declared_in s) (all_declared_in rest) d in
        let right = all_right (λ n. 0 < length (cells n)) (declared_in s) (all_declared_in rest) d in
        all_both (λ n. 0 < length (cells n)) (changes_in s) (all_changes_in rest) (changes_there scope s h left k) (all_changes_there (behind scope s) rest (behind_there scope s h left) right m)

  loop_good : (scope : List ℕ) (l : ℕ) (changed named : List ℕ) → There changed → AreGood cells (sets_of_loop cells is_static scope l changed named)
  loop_good scope l changed named h = record {
    mods_rise = rising_rises changed;
    vars_rise = rising_rises (filter (is_variable cells is_static scope) (changed ++ named));
    changed = all_rising (λ n. 0 < length (cells n)) changed h;
    variables = all_rising (λ n. is_integer (cells n) ≡ true) (filter (is_variable cells is_static scope) (changed ++ named))
        (all_passed (λ n. is_integer (cells n) ≡ true) (is_variable cells is_static scope) (λ n e. left_true (is_integer (cells n)) (is_static n || is_one_of scope n) e) (changed ++ named));
  }

  mutual
    sets_good : (scope : List ℕ) (s : CheckedTree) → There scope → There (declared_in s) → IsScopedStatement is_static scope s → AllByRecursion (AreGood cells) (loop_sets cells is_static scope s)
    sets_good scope (Block all) h d k = all_sets_good scope all h d k
    sets_good scope (Declare n) h d k = tt
    sets_good scope (Static n) h d k = tt
    sets_good scope (Initialise n e) h d k = tt
    sets_good scope (Label n) h d k = tt
    sets_good scope (Evaluate e) h d k = tt
    sets_good scope (If e s) h d (k, nd, m) = sets_good scope s h d m
    sets_good scope (IfElse e s t) h d (k, nd, m, ne, o) =
        let left = all_left (λ n. 0 < length (cells n)) (declared_in s) (declared_in t) d in
        let right = all_right (λ n. 0 < length (cells n)) (declared_in s) (declared_in t) d in
        all_both (AreGood cells) (loop_sets cells is_static scope s) (loop_sets cells is_static scope t) (sets_good scope s h left m) (sets_good scope t h right o)
    sets_good scope (While l named e s) h d (k, nd, m) =
        (loop_good scope l (changes_of e ++ changes_in s) named (changes_there scope (While l named e s) h d (k, nd, m)), sets_good scope s h d m)
    sets_good scope (Return e) h d k = tt

    all_sets_good : (scope : List ℕ) (all : CheckedTrees) → There scope → There (all_declared_in all) → AreScoped is_static scope all → AllByRecursion (AreGood cells) (all_loop_sets cells is_static scope all)
    all_sets_good scope none h d k = tt
    all_sets_good scope (more s rest) h d (k, m) =
        let left = all_left (λ n. 0 < length (cells n)) (declared_in s) (all_declared_in rest) d in
        let right = all_right (λ n. 0 < length (cells n)) (declared_in s) (all_declared_in rest) d in
        all_both (AreGood cells) (loop_sets cells is_static scope s) (all_loop_sets cells is_static (behind scope s) rest) (sets_good scope s h left k) (all_sets_good (behind scope s) rest (behind_there scope s h left) right m)

-- ---- numbers

some_cells : (os : List ObjectInfo) (i : ℕ) → HaveCells os → IsSome (slice_get os i) → 0 < length (known_cells (slice_get os i))
some_cells [] i h k = absurd k
some_cells (o ∷ os) zero (a, r) k = a
some_cells (o ∷ os) (suc i) (a, r) k = some_cells os i r k

static_cells : (os : List ObjectInfo) (i : ℕ) → HaveCells os → is_static_object (slice_get os i) ≡ true → 0 < length (known_cells (slice_get os i))
static_cells [] i h k = cc
static_cells (o ∷ os) zero (a, r) k = a
static_cells (o ∷ os) (suc i) (a, r) k = static_cells os i r k

-- numbers of items from the number suc k on, where the items before are known
numbers_there : (P : ℕ → Type 0) (f : ObjectInfo → Bool) (os : List ObjectInfo) (n : ℕ) → ((i : ℕ) → IsSome (slice_get os i) → P (i + n)) → AllByRecursion P (numbers_where f n os)
numbers_there P f [] n h = tt
numbers_there P f (o ∷ os) n h = go (f o) (numbers_there P f os (suc n) (λ i k. let e : suc i + n ≡ i + suc n = omega arith in subst P e (h (suc i) k))) where
  go : (b : Bool) → AllByRecursion P (numbers_where f (suc n) os) → AllByRecursion P (if b then n ∷ numbers_where f (suc n) os else numbers_where f (suc n) os)
  go true r = let z : 0 + n ≡ n = omega arith in (subst P z (h zero tt), r)
  go false r = r

in_numbers_where : (f : LoopInfo → Bool) (ls : List LoopInfo) (n i : ℕ) (l : LoopInfo) → slice_get ls i ≡ Some l → f l ≡ true → IsIn (i + n) (numbers_where f n ls)
in_numbers_where f [] n i l e t = cc
in_numbers_where f (x ∷ ls) n zero l e t =
    let q : x ≡ l = cc in
    let b : f x ≡ true = ap f q ∙ t in
    subst (λ c. IsIn (zero + n) (if c then n ∷ numbers_where f (suc n) ls else numbers_where f (suc n) ls)) (sym b) (inl (omega arith))
in_numbers_where f (x ∷ ls) n (suc i) l e t = let s : i + suc n ≡ suc i + n = omega arith in go (f x) (subst (λ k. IsIn k (numbers_where f (suc n) ls)) s (in_numbers_where f ls (suc n) i l e t)) where
  go : (b : Bool) → IsIn (suc i + n) (numbers_where f (suc n) ls) → IsIn (suc i + n) (if b then n ∷ numbers_where f (suc n) ls else numbers_where f (suc n) ls)
  go true r = inr r
  go false r = r

-- ---- programs

has_good : (cells : Layout) (loops : List LoopInfo) (sets : List LoopSets) (l : ℕ) (info : LoopInfo) → at_number loops l ≡ Some info → HaveSets loops sets → AllByRecursion (AreGood cells) sets → IsIn l (numbers_of sets) → AreOfObjects cells info
has_good cells loops [] l info e h g i = absurd i
has_good cells loops (s ∷ sets) l info e (a, r) (good, rest) (inr i) = has_good cells loops sets l info e r rest i
has_good cells loops (s ∷ sets) l info e (a, r) (good, rest) (inl i) =
    let (m, v) = subst (λ x. HasSets x s) (ap (at_number loops) (sym i) ∙ e) a in
    record {
      mods_rise = subst Rise (sym m) good.mods_rise;
      vars_rise = subst Rise (sym v) good.vars_rise;
      changed = subst (λ ns. All (λ n. 0 < length (cells n)) ns) (sym m) (All-from_recursion (λ n. 0 < length (cells n)) s.mods good.changed);
      variables = subst (λ ns. All (λ n. is_integer (cells n) ≡ true) ns) (sym v) (All-from_recursion (λ n. is_integer (cells n) ≡ true) s.vars good.variables);
    }

same_number : (n : ℕ) → (n == n) ≡ true
same_number n = grind arith

pub loop_objects : (p : ProgramTree) → IsLawful p → (l : ℕ) (info : LoopInfo) → at_number p.loops l ≡ Some info → AreOfObjects (cells_of p) info
loop_objects p h zero info e = cc
loop_objects p h (suc i) info e = go (at_number p.functions info.function) refl (h.loops (suc i) info e) where
  static_there : (n : ℕ) → statics_of p n ≡ true → 0 < length (cells_of p n)
  static_there zero k = cc
  static_there (suc j) k = static_cells p.objects j h.have_cells k

  numbered_there : (j : ℕ) → IsSome (slice_get p.objects j) → 0 < length (cells_of p (j + 1))
  numbered_there j k = let e : suc j ≡ j + 1 = omega arith in subst (λ n. 0 < length (cells_of p n)) e (some_cells p.objects j h.have_cells k)

  of_function : (f : FunctionTree) → at_number p.functions info.function ≡ Some f → AreOfObjects (cells_of p) info
  of_function f is =
      let hf = h.functions info.function f is in
      let there : AllByRecursion (λ n. 0 < length (cells_of p n)) (f.parameters ++ declared_in f.body) =
      subst (λ ns. AllByRecursion (λ n. 0 < length (cells_of p n)) ns) hf.objects (numbers_there (λ n. 0 < length (cells_of p n)) (λ (o : ObjectInfo). o.function == info.function) p.objects 1 numbered_there) in
      let parameters = all_left (λ n. 0 < length (cells_of p n)) f.parameters (declared_in f.body) there in
      let declared = all_right (λ n. 0 < length (cells_of p n)) f.parameters (declared_in f.body) there in
      let at : i + 1 ≡ suc i = omega arith in
      let inside : IsIn (suc i) (loops_of p info.function) = subst (λ k. IsIn k (loops_of p info.function)) at (in_numbers_where (λ (x : LoopInfo). x.function == info.function) p.loops 1 i info e (same_number info.function)) in
      has_good (cells_of p) p.loops (function_loop_sets p f) (suc i) info e hf.loop_sets
      (sets_good (cells_of p) (statics_of p) static_there f.parameters f.body parameters declared hf.scoped)
      (subst (λ ns. IsIn (suc i) ns) (hf.loops ∙ sym (loop_numbers (cells_of p) (statics_of p) f.parameters f.body)) inside)

  go : (x : Option FunctionTree) → at_number p.functions info.function ≡ x → IsSome x → AreOfObjects (cells_of p) info
  go None is k = absurd k
  go (Some f) is k = of_function f is
