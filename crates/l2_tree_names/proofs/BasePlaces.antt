-- Where the type of a declaration begins.
use Rattle.std.proofs.Common.{◌≡◌, refl, ap, sym, ◌∙◌, ℕ, suc, Bool, true, false, ◌&&◌, leb, Option, None, Some}
use Rattle.l2_syntax.specs.declared.place.Place.{Place}
use Rattle.l2_grammar.specs.declared.states.Sort.{Sort}
use Rattle.l2_grammar.specs.Trees.{Fits}
use Rattle.l2_tree.specs.declared.operators.SpecifierWord.TheVariants as word
use Rattle.l2_tree.specs.Trees.{SpecifierTree, Word, SpecifierTrees, first_specifier, and_specifier, DeclaredTrees, Declaration}
use Rattle.l2_tree.specs.Build.{some_or}
use Rattle.l2_tree.specs.Spelling.{run_declaration}
use Rattle.l2_tree_laws.specs.Specifiers.{Tally, with_specifier, tally, names_type, DeclarationTypeLaw}
use Rattle.l2_tree_names.specs.Specifiers.{own_place, base_place}

abbrev stored : ℕ → Tally
stored n = record { storage = n; signs = 0; shorts = 0; longs = 0; ints = 0; chars = 0; others = 0 }

own_none : (x : SpecifierTree) (n : ℕ) → own_place x ≡ None → with_specifier x (stored n) ≡ stored (suc n)
own_none (Word word.Static p) n e = refl
own_none (Word word.Extern p) n e = refl
own_none (Word w p) n e = absurd (cc)
own_none x n e = absurd (cc)

base_none : (xs : SpecifierTrees) → base_place xs ≡ None → (n : ℕ) × (tally xs ≡ stored n)
base_none (first_specifier x) e = (1, own_none x 0 e)
base_none (and_specifier xs x) e = go (λ f. base_none xs f) (base_place xs) refl e
  where
    go : (base_place xs ≡ None → (n : ℕ) × (tally xs ≡ stored n)) → (o : Option Place) → base_place xs ≡ o → some_or o (λ p. Some p) (own_place x) ≡ None → (n : ℕ) × (tally (and_specifier xs x) ≡ stored n)
    go h (Some p) f g = absurd (cc)
    go h None f g = let i = h f in (suc i.0, ap (with_specifier x) i.1 ∙ own_none x i.0 g)

nothing_named : (n : ℕ) → names_type (stored n) ≡ true → ⊥
nothing_named n e = go (leb n 1) e
  where
    go : (b : Bool) → (b && false) ≡ true → ⊥
    go true f = absurd (cc)
    go false f = absurd (cc)

pub base_some : DeclarationTypeLaw → (s : Sort) (xs : SpecifierTrees) (ds : DeclaredTrees) → Fits (run_declaration s (Declaration xs ds)) → base_place xs ≡ None → ⊥
base_some law s xs ds f e = let i = base_none xs e in nothing_named i.0 (sym (ap names_type i.1) ∙ law s xs ds f)
