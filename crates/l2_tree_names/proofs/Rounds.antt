-- The first suffix and the last pointer of a declarator, as the first and the last of a list.
use Rattle.std.proofs.Common.{◌≡◌, List, [], ◌∷◌, Option, None, Some, refl, ap, sym, ◌∙◌, get_or, length, nat_eq, Bool, false}
use Rattle.std.specs.Prelude.{option_map}
use Rattle.l2_tree.specs.declared.expression.Suffix.{Suffix}
use Rattle.l2_tree.specs.declared.expression.Pointer.{Pointer}
use Rattle.l2_tree.specs.Trees.{SuffixTree, SuffixTrees, no_suffixes, and_suffix, DeclaratorTree}
use Rattle.l2_tree.specs.Build.{some_or}
use Rattle.l2_tree.specs.Units.{suffix_tree, suffixes_onto}
use Rattle.l2_tree_names.specs.Declarators.{Round, before, behind, round_of, first_suffix, last_pointer, nearest, parameters_in, parameters_of}
use Rattle.l2_tree_names.specs.Rounds.{round_tree}
use Rattle.l2_tree_names.specs.declared.declarators.Round.{Round as RoundCode}

first_kept : (x : SuffixTree) (front : SuffixTrees) (ys : List Suffix) → first_suffix front ≡ Some x → first_suffix (suffixes_onto front ys) ≡ Some x
first_kept x front [] e = e
first_kept x front (y ∷ ys) e = first_kept x (and_suffix front (suffix_tree y)) ys (ap (λ o. some_or o (λ z. Some z) (Some (suffix_tree y))) e)

pub first_suffix-Cons : (x : Suffix) (xs : List Suffix) → first_suffix (suffixes_onto no_suffixes (x ∷ xs)) ≡ Some (suffix_tree x)
first_suffix-Cons x xs = first_kept (suffix_tree x) (and_suffix no_suffixes (suffix_tree x)) xs refl

pub by_suffix : (o : Option RoundCode) (x : Suffix) (xs : List Suffix) (ps : List Pointer) → o ≡ None → Some (suffix_tree x) ≡ first_suffix (suffixes_onto no_suffixes xs) → Some (behind (suffix_tree x)) ≡ round_of (option_map round_tree o) (first_suffix (suffixes_onto no_suffixes xs)) (last_pointer ps)
by_suffix o x xs ps e f = go (first_suffix (suffixes_onto no_suffixes xs)) f ∙ ap (λ z. round_of (option_map round_tree z) (first_suffix (suffixes_onto no_suffixes xs)) (last_pointer ps)) (sym e)
  where
    go : (y : Option SuffixTree) → Some (suffix_tree x) ≡ y → Some (behind (suffix_tree x)) ≡ round_of None y (last_pointer ps)
    go y g = ap (λ z. round_of None z (last_pointer ps)) g

pub by_pointer : (o : Option RoundCode) (p : Pointer) (xs : List Suffix) (ps : List Pointer) → o ≡ None → None ≡ first_suffix (suffixes_onto no_suffixes xs) → Some p ≡ last_pointer ps → Some (before p) ≡ round_of (option_map round_tree o) (first_suffix (suffixes_onto no_suffixes xs)) (last_pointer ps)
by_pointer o p xs ps e f g =
    ap (λ z. round_of None None z) g ∙ ap (λ z. round_of None z (last_pointer ps)) f ∙ ap (λ z. round_of (option_map round_tree z) (first_suffix (suffixes_onto no_suffixes xs)) (last_pointer ps)) (sym e)

pub by_around : (o p : Option Round) (xs ys : List Suffix) (ps qs : List Pointer) → o ≡ p → xs ≡ ys → ps ≡ qs → round_of o (first_suffix (suffixes_onto no_suffixes xs)) (last_pointer ps) ≡ round_of p (first_suffix (suffixes_onto no_suffixes ys)) (last_pointer qs)
by_around o p xs ys ps qs e f g =
    ap (λ z. round_of z (first_suffix (suffixes_onto no_suffixes xs)) (last_pointer ps)) e ∙ ap (λ z. round_of p (first_suffix (suffixes_onto no_suffixes z)) (last_pointer ps)) f
    ∙ ap (λ z. round_of p (first_suffix (suffixes_onto no_suffixes ys)) (last_pointer z)) g

pub first_at : (xs : List Suffix) (x : Suffix) (b : Bool) → b ≡ false → b ≡ nat_eq (length xs) 0 → x ≡ get_or xs 0 x → Some (suffix_tree x) ≡ first_suffix (suffixes_onto no_suffixes xs)
first_at [] x b e f g = absurd (cc)
first_at (y ∷ xs) x b e f g = ap (λ z. Some (suffix_tree z)) g ∙ sym (first_suffix-Cons y xs)

pub by_round : (o : Option RoundCode) (r : RoundCode) (d : DeclaratorTree) → o ≡ Some r → option_map round_tree o ≡ nearest d → parameters_in (Some (round_tree r)) ≡ parameters_of d
by_round o r d e f = ap (λ z. parameters_in (option_map round_tree z)) (sym e) ∙ ap parameters_in f

pub ruleset rounds = (first_suffix-Cons)
