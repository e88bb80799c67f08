-- Declarators by how many suffixes they have.
use Rattle.std.proofs.Common.{◌≡◌, ℕ, ◌≢◌, List, [], ◌∷◌, length, Bool, true, false, refl, ap, ◌∙◌, arith}
use Rattle.std.specs.Prelude.{◌==◌, ◌&&◌, ◌||◌}
use Rattle.std.specs.declared.boxed.Box.{Box}
use Rattle.std.specs.declared.alloc.Global.{Global}
use Rattle.l2_syntax.specs.declared.place.Place.{Place}
use Rattle.l2_tree.specs.declared.expression.Core as core
use Rattle.l2_tree.specs.declared.expression.Core.{Core}
use Rattle.l2_tree.specs.declared.expression.Declarator.{Declarator}
use Rattle.l2_tree.proofs.Declarations.{core_tree-Group}
use Rattle.l2_tree.specs.declared.expression.Suffix.{Suffix}
use Rattle.l2_tree.specs.Trees.{SuffixTrees, no_suffixes, and_suffix}
use Rattle.l2_tree.specs.Units.{suffix_tree, suffixes_onto, core_tree, declarator_tree}
use Rattle.l2_types_declarations.specs.Forms.{no_suffix, one_suffix, is_bare, is_bare_core, is_lone, is_lone_core}

some_suffix : (front : SuffixTrees) (xs : List Suffix) → no_suffix front ≡ false → no_suffix (suffixes_onto front xs) ≡ false
some_suffix front [] e = e
some_suffix front (x ∷ xs) e = some_suffix (and_suffix front (suffix_tree x)) xs refl

more_suffixes : (front : SuffixTrees) (xs : List Suffix) → no_suffix front ≡ false → one_suffix front ≡ false → one_suffix (suffixes_onto front xs) ≡ false
more_suffixes front [] e f = f
more_suffixes front (x ∷ xs) e f = more_suffixes (and_suffix front (suffix_tree x)) xs refl e

pub no_suffix-length : (xs : List Suffix) → no_suffix (suffixes_onto no_suffixes xs) ≡ (length xs == 0)
no_suffix-length [] = refl
no_suffix-length (x ∷ xs) = some_suffix (and_suffix no_suffixes (suffix_tree x)) xs refl ∙ grind (arith)

pub one_suffix-length : (xs : List Suffix) → one_suffix (suffixes_onto no_suffixes xs) ≡ (length xs == 1)
one_suffix-length [] = refl
one_suffix-length (x ∷ []) = refl
one_suffix-length (x ∷ y ∷ xs) = more_suffixes (and_suffix (and_suffix no_suffixes (suffix_tree x)) (suffix_tree y)) xs refl refl ∙ grind (arith)

-- ---- numbers

is_same : (n k : ℕ) → n ≡ k → (n == k) ≡ true
is_same n k h = grind (arith)

differs : (n k : ℕ) → n ≢ k → (n == k) ≡ false
differs n k h = grind (arith)

none : (d : Declarator) → length d.suffixes.items ≡ 0 → no_suffix (suffixes_onto no_suffixes d.suffixes.items) ≡ true
none d h = no_suffix-length d.suffixes.items ∙ is_same (length d.suffixes.items) 0 h

some : (d : Declarator) → length d.suffixes.items ≢ 0 → no_suffix (suffixes_onto no_suffixes d.suffixes.items) ≡ false
some d h = no_suffix-length d.suffixes.items ∙ differs (length d.suffixes.items) 0 h

one : (d : Declarator) → length d.suffixes.items ≡ 1 → one_suffix (suffixes_onto no_suffixes d.suffixes.items) ≡ true
one d h = one_suffix-length d.suffixes.items ∙ is_same (length d.suffixes.items) 1 h

not_one : (d : Declarator) → length d.suffixes.items ≢ 1 → one_suffix (suffixes_onto no_suffixes d.suffixes.items) ≡ false
not_one d h = one_suffix-length d.suffixes.items ∙ differs (length d.suffixes.items) 1 h

-- ---- declarators

and_false : (a : Bool) → (a && false) ≡ false
and_false true = refl
and_false false = refl

or_false : (a : Bool) → (a || false) ≡ a
or_false true = refl
or_false false = refl

pub bare_core : (d : Declarator) → length d.pointers.items ≡ 0 → length d.suffixes.items ≡ 0 → is_bare (declarator_tree d) ≡ is_bare_core (core_tree d.core)
bare_core d p x =
    ap (λ z. z && no_suffix (suffixes_onto no_suffixes d.suffixes.items) && is_bare_core (core_tree d.core)) (is_same (length d.pointers.items) 0 p)
    ∙ ap (λ z. z && is_bare_core (core_tree d.core)) (none d x)

pub bare_pointers : (d : Declarator) → length d.pointers.items ≢ 0 → is_bare (declarator_tree d) ≡ false
bare_pointers d p = ap (λ z. z && no_suffix (suffixes_onto no_suffixes d.suffixes.items) && is_bare_core (core_tree d.core)) (differs (length d.pointers.items) 0 p)

pub bare_suffixes : (d : Declarator) → length d.suffixes.items ≢ 0 → is_bare (declarator_tree d) ≡ false
bare_suffixes d x =
    ap (λ z. (length d.pointers.items == 0) && z && is_bare_core (core_tree d.core)) (some d x)
    ∙ ap (λ z. z && is_bare_core (core_tree d.core)) (and_false (length d.pointers.items == 0))

pub ruleset bare = (bare_core, bare_pointers, bare_suffixes)

lone_is : (d : Declarator) (o n : Bool) → length d.pointers.items ≡ 0 → one_suffix (suffixes_onto no_suffixes d.suffixes.items) ≡ o → no_suffix (suffixes_onto no_suffixes d.suffixes.items) ≡ n →
    is_lone (declarator_tree d) ≡ (o && is_bare_core (core_tree d.core) || n && is_lone_core (core_tree d.core))
lone_is d o n p e f =
    ap (λ z. z && (one_suffix (suffixes_onto no_suffixes d.suffixes.items) && is_bare_core (core_tree d.core) || no_suffix (suffixes_onto no_suffixes d.suffixes.items) && is_lone_core (core_tree d.core))) (is_same (length d.pointers.items) 0 p)
    ∙ ap (λ z. z && is_bare_core (core_tree d.core) || no_suffix (suffixes_onto no_suffixes d.suffixes.items) && is_lone_core (core_tree d.core)) e
    ∙ ap (λ z. o && is_bare_core (core_tree d.core) || z && is_lone_core (core_tree d.core)) f

pub lone_pointers : (d : Declarator) → length d.pointers.items ≢ 0 → is_lone (declarator_tree d) ≡ false
lone_pointers d p =
    ap (λ z. z && (one_suffix (suffixes_onto no_suffixes d.suffixes.items) && is_bare_core (core_tree d.core) || no_suffix (suffixes_onto no_suffixes d.suffixes.items) && is_lone_core (core_tree d.core))) (differs (length d.pointers.items) 0 p)

pub lone_core : (d : Declarator) → length d.pointers.items ≡ 0 → length d.suffixes.items ≡ 0 → is_lone (declarator_tree d) ≡ is_lone_core (core_tree d.core)
lone_core d p x = let h : length d.suffixes.items ≢ 1 = omega arith in lone_is d false true p (not_one d h) (none d x)

pub lone_one : (d : Declarator) → length d.pointers.items ≡ 0 → length d.suffixes.items ≡ 1 → is_lone (declarator_tree d) ≡ is_bare_core (core_tree d.core)
lone_one d p x = let h : length d.suffixes.items ≢ 0 = omega arith in lone_is d true false p (one d x) (some d h) ∙ or_false (is_bare_core (core_tree d.core))

pub lone_more : (d : Declarator) → length d.pointers.items ≡ 0 → length d.suffixes.items ≢ 0 → length d.suffixes.items ≢ 1 → is_lone (declarator_tree d) ≡ false
lone_more d p x y = lone_is d false false p (not_one d y) (some d x)

pub ruleset lone = (lone_pointers, lone_core, lone_one, lone_more)

pub bare_group : (c : Core) (p : Place) (b : Box Declarator Global) → c ≡ core.Group p b → is_bare_core (core_tree c) ≡ is_bare (declarator_tree b.value)
bare_group c p b h = ap (λ z. is_bare_core (core_tree z)) h ∙ ap is_bare_core (core_tree-Group p b)

pub lone_group : (c : Core) (p : Place) (b : Box Declarator Global) → c ≡ core.Group p b → is_lone_core (core_tree c) ≡ is_lone (declarator_tree b.value)
lone_group c p b h = ap (λ z. is_lone_core (core_tree z)) h ∙ ap is_lone_core (core_tree-Group p b)

pub ruleset cores = (bare_group, lone_group)
