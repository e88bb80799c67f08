-- The trees of lawful programs are tidy, and their loops have what they change.
use Rattle.std.proofs.Common.{◌≡◌, ℕ, suc, ◌≤◌, Bool, true, false, List, [], ◌∷◌, ◌++◌, Option, Some, None, inl, inr, sym, ap, ◌∙◌, subst, if◌then◌else◌, arith}
use Rattle.l2_runs.specs.Numbers.{at_number, numbers_where}
use Rattle.l2_runs.specs.Fits.{Layout}
use Rattle.l2_run_laws.proofs.LoopFrames.{Among}
use Rattle.l2_program.specs.declared.program.LoopInfo.{LoopInfo}
use Rattle.l2_program.specs.Checked.{CheckedTree, Block, Declare, Static, Initialise, Label, Evaluate, If, IfElse, While, Return, CheckedTrees, none, more}
use Rattle.l2_program.specs.Names.{declared_in, all_declared_in}
use Rattle.l2_program.specs.Programs.{ProgramTree}
use Rattle.l2_meaning.specs.declared.sets.LoopSets.{LoopSets}
use Rattle.l2_meaning.specs.Rising.{rising}
use Rattle.l2_meaning.specs.Scopes.{behind}
use Rattle.l2_meaning.specs.Changes.{changes_of, changes_in, loop_sets, all_loop_sets, HasSets, HaveSets}
use Rattle.l2_meaning.specs.Lawful.{IsIn, IsNoDeclaration, IsScopedStatement, AreScoped}
use Rattle.l2_meaning.proofs.Orders.{in_rising}
use Rattle.l2_cuts.specs.Cuts.{known_mods, mods_of}
use Rattle.l2_cut_laws.proofs.Tidy.{opened, dying, all_dying, IsBare, IsTidy, AreTidy, HasMods, HaveMods}
use Rattle.l2_cut_laws.proofs.TreeFrames.{among_left, among_right}

in_among : (ns : List ℕ) (n : ℕ) → IsIn n ns → Among ns n
in_among [] n h = absurd h
in_among (m ∷ ms) n (inl e) = inl e
in_among (m ∷ ms) n (inr h) = inr (in_among ms n h)

among_in : (ns : List ℕ) (n : ℕ) → Among ns n → IsIn n ns
among_in [] n h = absurd h
among_in (m ∷ ms) n (inl e) = inl e
among_in (m ∷ ms) n (inr h) = inr (among_in ms n h)

-- ---- lists without repeats

abbrev pub AreDistinct : List ℕ → Type 0
AreDistinct [] = Unit {0}
AreDistinct (n ∷ ns) = (Among ns n → ⊥) × AreDistinct ns

pub distinct_left : (ms ns : List ℕ) → AreDistinct (ms ++ ns) → AreDistinct ms
distinct_left [] ns h = tt
distinct_left (m ∷ ms) ns h = (λ a. h.0 (among_left ms ns m a), distinct_left ms ns h.1)

pub distinct_right : (ms ns : List ℕ) → AreDistinct (ms ++ ns) → AreDistinct ns
distinct_right [] ns h = h
distinct_right (m ∷ ms) ns h = distinct_right ms ns h.1

pub distinct_apart : (ms ns : List ℕ) → AreDistinct (ms ++ ns) → (n : ℕ) → Among ms n → Among ns n → ⊥
distinct_apart [] ns h n a b = a
distinct_apart (m ∷ ms) ns h n (inl e) b = h.0 (among_right ms ns m (subst (λ k. Among ns k) e b))
distinct_apart (m ∷ ms) ns h n (inr a) b = distinct_apart ms ns h.1 n a b

module _ {A : Type 0} (f : A → Bool) where
  at_least : (n : ℕ) (xs : List A) (m : ℕ) → Among (numbers_where f n xs) m → n ≤ m
  at_least n [] m a = absurd a
  at_least n (x ∷ xs) m a = go (f x) a (at_least (suc n) xs m)
    where
      go : (b : Bool) → Among (if b then n ∷ numbers_where f (suc n) xs else numbers_where f (suc n) xs) m → (Among (numbers_where f (suc n) xs) m → suc n ≤ m) → n ≤ m
      go true (inl e) later = omega (arith, e)
      go true (inr r) later = let h = later r in omega (arith, h)
      go false r later = let h = later r in omega (arith, h)

  pub numbers_distinct : (n : ℕ) (xs : List A) → AreDistinct (numbers_where f n xs)
  numbers_distinct n [] = tt
  numbers_distinct n (x ∷ xs) = go (f x) (numbers_distinct (suc n) xs)
    where
      go : (b : Bool) → AreDistinct (numbers_where f (suc n) xs) → AreDistinct (if b then n ∷ numbers_where f (suc n) xs else numbers_where f (suc n) xs)
      go true d = (λ a. let h = at_least (suc n) xs n a in omega (arith, h), d)
      go false d = d

-- ---- tidy trees

opened_declared : (s : CheckedTree) (n : ℕ) → Among (opened s) n → Among (declared_in s) n
opened_declared (Declare m) n a = a
opened_declared (Initialise m e) n a = a
opened_declared (Block all) n a = absurd a
opened_declared (Static m) n a = absurd a
opened_declared (Label m) n a = absurd a
opened_declared (Evaluate e) n a = absurd a
opened_declared (If e s) n a = absurd a
opened_declared (IfElse e s t) n a = absurd a
opened_declared (While l named e s) n a = absurd a
opened_declared (Return e) n a = absurd a

split : {P : Type 0} (a b : List ℕ) (n : ℕ) → (Among a n → P) → (Among b n → P) → Among (a ++ b) n → P
split [] b n f g h = g h
split (m ∷ a) b n f g (inl e) = f (inl e)
split (m ∷ a) b n f g (inr h) = split a b n (λ x. f (inr x)) g h

pub widen : (a b c d : List ℕ) (n : ℕ) → (Among a n → Among c n) → (Among b n → Among d n) → Among (a ++ b) n → Among (c ++ d) n
widen [] b c d n f g h = among_right c d n (g h)
widen (m ∷ a) b c d n f g (inl e) = among_left c d n (f (inl e))
widen (m ∷ a) b c d n f g (inr h) = widen a b c d n (λ x. f (inr x)) g h

mutual
  pub dying_declared : (x : CheckedTree) (n : ℕ) → Among (dying x) n → Among (declared_in x) n
  dying_declared (Block all) n a = all_dying_declared all n a
  dying_declared (Declare m) n a = a
  dying_declared (Static m) n a = absurd a
  dying_declared (Initialise m e) n a = a
  dying_declared (Label m) n a = absurd a
  dying_declared (Evaluate e) n a = absurd a
  dying_declared (If e s) n a = dying_declared s n a
  dying_declared (IfElse e s t) n a = widen (dying s) (dying t) (declared_in s) (declared_in t) n (dying_declared s n) (dying_declared t n) a
  dying_declared (While l named e s) n a = dying_declared s n a
  dying_declared (Return e) n a = absurd a

  all_dying_declared : (all : CheckedTrees) (n : ℕ) → Among (all_dying all) n → Among (all_declared_in all) n
  all_dying_declared none n a = absurd a
  all_dying_declared (more s rest) n a = widen (dying s) (all_dying rest) (declared_in s) (all_declared_in rest) n (dying_declared s n) (all_dying_declared rest n) a

bare : (s : CheckedTree) → IsNoDeclaration s → IsBare s
bare (Declare m) h = h
bare (Initialise m e) h = h
bare (Block all) h = tt
bare (Static m) h = tt
bare (Label m) h = tt
bare (Evaluate e) h = tt
bare (If e s) h = tt
bare (IfElse e s t) h = tt
bare (While l named e s) h = tt
bare (Return e) h = tt

module _ (is_static : ℕ → Bool) where
  mutual
    pub tidy : (scope : List ℕ) (x : CheckedTree) → IsScopedStatement is_static scope x → AreDistinct (declared_in x) → IsTidy is_static x
    tidy scope (Block all) h d = all_tidy scope all h d
    tidy scope (Declare n) h d = h
    tidy scope (Static n) h d = tt
    tidy scope (Initialise n e) h d = h.0
    tidy scope (Label n) h d = tt
    tidy scope (Evaluate e) h d = tt
    tidy scope (If e s) h d = (bare s h.1, tidy scope s h.2 d)
    tidy scope (IfElse e s t) h d = (bare s h.1, tidy scope s h.2 (distinct_left (declared_in s) (declared_in t) d), bare t h.3, tidy scope t h.4 (distinct_right (declared_in s) (declared_in t) d))
    tidy scope (While l named e s) h d = (bare s h.1, tidy scope s h.2 d)
    tidy scope (Return e) h d = tt

    all_tidy : (scope : List ℕ) (all : CheckedTrees) → AreScoped is_static scope all → AreDistinct (all_declared_in all) → AreTidy is_static all
    all_tidy scope none h d = tt
    all_tidy scope (more s rest) h d = (
      tidy scope s h.0 (distinct_left (declared_in s) (all_declared_in rest) d),
      λ n a b. distinct_apart (declared_in s) (all_declared_in rest) d n (opened_declared s n b) (all_dying_declared rest n a),
      all_tidy (behind scope s) rest h.1 (distinct_right (declared_in s) (all_declared_in rest) d),
    )

  mutual
    -- objects that die aren't static
    pub dying_local : (x : CheckedTree) → IsTidy is_static x → (n : ℕ) → Among (dying x) n → is_static n ≡ false
    dying_local (Block all) h n a = all_dying_local all h n a
    dying_local (Declare m) h n (inl e) = ap is_static e ∙ h
    dying_local (Declare m) h n (inr a) = absurd a
    dying_local (Static m) h n a = absurd a
    dying_local (Initialise m e) h n (inl e') = ap is_static e' ∙ h
    dying_local (Initialise m e) h n (inr a) = absurd a
    dying_local (Label m) h n a = absurd a
    dying_local (Evaluate e) h n a = absurd a
    dying_local (If e s) h n a = dying_local s h.1 n a
    dying_local (IfElse e s t) h n a = split (dying s) (dying t) n (dying_local s h.1 n) (dying_local t h.3 n) a
    dying_local (While l named e s) h n a = dying_local s h.1 n a
    dying_local (Return e) h n a = absurd a

    all_dying_local : (all : CheckedTrees) → AreTidy is_static all → (n : ℕ) → Among (all_dying all) n → is_static n ≡ false
    all_dying_local none h n a = absurd a
    all_dying_local (more s rest) h n a = split (dying s) (all_dying rest) n (dying_local s h.0 n) (all_dying_local rest h.2 n) a

-- ---- loops

have_both : (loops : List LoopInfo) (a b : List LoopSets) → HaveSets loops (a ++ b) → HaveSets loops a × HaveSets loops b
have_both loops [] b h = (tt, h)
have_both loops (s ∷ a) b h = let r = have_both loops a b h.1 in ((h.0, r.0), r.1)

known : (x : Option LoopInfo) (s : LoopSets) → HasSets x s → known_mods x ≡ s.mods
known None s h = absurd h
known (Some info) s h = h.0

module _ (p : ProgramTree) (cells : Layout) (is_static : ℕ → Bool) where
  mutual
    pub has_mods : (scope : List ℕ) (x : CheckedTree) → HaveSets p.loops (loop_sets cells is_static scope x) → HasMods (mods_of p) x
    has_mods scope (Block all) h = have_mods scope all h
    has_mods scope (Declare n) h = tt
    has_mods scope (Static n) h = tt
    has_mods scope (Initialise n e) h = tt
    has_mods scope (Label n) h = tt
    has_mods scope (Evaluate e) h = tt
    has_mods scope (If e s) h = has_mods scope s h
    has_mods scope (IfElse e s t) h = let r = have_both p.loops (loop_sets cells is_static scope s) (loop_sets cells is_static scope t) h in (has_mods scope s r.0, has_mods scope t r.1)
    has_mods scope (While l named e s) h = (λ n a. changed n a (known (at_number p.loops l) _ h.0), has_mods scope s h.1)
      where
        changed : (n : ℕ) → Among (changes_of e ++ changes_in s) n → mods_of p l ≡ rising (changes_of e ++ changes_in s) → Among (mods_of p l) n
        changed n a is = subst (λ ms. Among ms n) (sym is) (in_among (rising (changes_of e ++ changes_in s)) n (in_rising n (changes_of e ++ changes_in s) (among_in (changes_of e ++ changes_in s) n a)))
    has_mods scope (Return e) h = tt

    have_mods : (scope : List ℕ) (all : CheckedTrees) → HaveSets p.loops (all_loop_sets cells is_static scope all) → HaveMods (mods_of p) all
    have_mods scope none h = tt
    have_mods scope (more s rest) h =
        let r = have_both p.loops (loop_sets cells is_static scope s) (all_loop_sets cells is_static (behind scope s) rest) h in
        (has_mods scope s r.0, have_mods (behind scope s) rest r.1)
