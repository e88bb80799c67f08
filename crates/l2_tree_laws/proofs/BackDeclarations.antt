-- Declarations behind specifiers, whoever reads them: declarators with commas between them, up to the semicolon.
use Rattle.std.proofs.Common.{◌≡◌, refl, ◌∙◌, ap, false, List, ◌∷◌, Option, Some}
use Rattle.l2_syntax.specs.declared.place.Place.{Place}
use Rattle.l2_syntax.specs.declared.token.Mark.TheVariants as mark
use Rattle.l2_syntax.specs.declared.token.TokenKind.{TokenKind}
use Rattle.l2_syntax.specs.declared.token.TokenKind.TheVariants as kind
use Rattle.l2_grammar.specs.Marks.{is}
use Rattle.l2_grammar.specs.Trees.{Tree, token, child}
use Rattle.l2_tree.specs.Trees.{SpecifierTrees, DeclaratorTree, InitialiserTree, Uninitialised, Initialised, DeclaredTrees, no_declarators, and_declarator, DeclarationTree, Declaration}
use Rattle.l2_tree.specs.Spelling.{nowhere, closed, comma_if, has_declarators, declarators_onto}
use Rattle.l2_tree.specs.Build.{Built, Part, leaf, node, built, parts_of, parts_before, and_then, only, heads, specifiers, declared, declarator_of, initialiser_of, declarators, declared_end}
use Rattle.l2_tree_laws.proofs.Runs.{Runs, RunsIf, as_runs, if_token}
use Rattle.l2_tree_laws.proofs.BackSteps.{Whole}

uninitialised_goes : {r : Tree} {d : DeclaratorTree} (xs : SpecifierTrees) (ds : DeclaredTrees) (k : TokenKind) (p : Place) → is mark.Equal k ≡ false → Whole declarator_of r d → (m : List Part) →
    declarators xs ds (node (built (parts_of r)) ∷ leaf k p ∷ m) ≡ declared_end xs (and_declarator ds (Uninitialised d)) k m (declarators xs (and_declarator ds (Uninitialised d)) m)
uninitialised_goes xs ds k p e j m = rw j.is_whole rw e refl

initialised_goes : {r v : Tree} {d : DeclaratorTree} {n : InitialiserTree} (xs : SpecifierTrees) (ds : DeclaredTrees) (q : Place) (k : TokenKind) (p : Place) → Whole declarator_of r d → Whole initialiser_of v n → (m : List Part) →
    declarators xs ds (node (built (parts_of r)) ∷ leaf (kind.Mark mark.Equal) q ∷ node (built (parts_of v)) ∷ leaf k p ∷ m)
    ≡ declared_end xs (and_declarator ds (Initialised d q n)) k m (declarators xs (and_declarator ds (Initialised d q n)) m)
unfolding is
initialised_goes xs ds q k p j i m = rw j.is_whole rw i.is_whole refl

-- reading goes on with a declarator behind these, but at the body of a function
pub record At {X : Type 0} (g : List Part → Option X) (r : Tree) (f : Option DeclarationTree → Option X) (xs : SpecifierTrees) (ds : DeclaredTrees) : Type 0 where
  pub goes : (c : Built) (k : TokenKind) (p : Place) (m : List Part) → is mark.OpenBrace k ≡ false → g (parts_before r (node c ∷ leaf k p ∷ m)) ≡ f (declarators xs ds (node c ∷ leaf k p ∷ m))

-- reading goes on behind these and the token that separates them from what follows
pub record Ends {X : Type 0} (g : List Part → Option X) (r : Tree) (f : Option DeclarationTree → Option X) (xs : SpecifierTrees) (ds : DeclaredTrees) : Type 0 where
  pub goes : (k : TokenKind) (p : Place) (m : List Part) → is mark.Equal k ≡ false → is mark.OpenBrace k ≡ false → g (parts_before r (leaf k p ∷ m)) ≡ f (declared_end xs ds k m (declarators xs ds m))

pub uninitialised_ends : {X : Type 0} {g : List Part → Option X} {r v : Tree} {f : Option DeclarationTree → Option X} {xs : SpecifierTrees} {ds : DeclaredTrees} {d : DeclaratorTree} →
    At g r f xs ds → Whole declarator_of v d → Ends g (child r v) f xs (and_declarator ds (Uninitialised d))
uninitialised_ends {v = v} {f = f} {xs = xs} {ds = ds} i j = record { goes = λ k p m e b. i.goes (built (parts_of v)) k p m b ∙ ap f (uninitialised_goes xs ds k p e j m) }

pub initialised_ends : {X : Type 0} {g : List Part → Option X} {r v w : Tree} {f : Option DeclarationTree → Option X} {xs : SpecifierTrees} {ds : DeclaredTrees} {d : DeclaratorTree} {q : Place} {n : InitialiserTree} →
    At g r f xs ds → Whole declarator_of v d → Whole initialiser_of w n → Ends g (child (token (child r v) (record { kind = kind.Mark mark.Equal; at = q })) w) f xs (and_declarator ds (Initialised d q n))
unfolding is
initialised_ends {v = v} {w = w} {f = f} {xs = xs} {ds = ds} {q = q} i j h =
    record { goes = λ k p m e b. i.goes (built (parts_of v)) (kind.Mark mark.Equal) q (node (built (parts_of w)) ∷ leaf k p ∷ m) refl ∙ ap f (initialised_goes xs ds q k p j h m) }

-- behind these declarators, if any
abbrev pub Listed : {X : Type 0} → (List Part → Option X) → Tree → (Option DeclarationTree → Option X) → SpecifierTrees → DeclaredTrees → Type 0
Listed g r f xs no_declarators = At g r f xs no_declarators
Listed g r f xs (and_declarator ds d) = Ends g (declarators_onto r (and_declarator ds d)) f xs (and_declarator ds d)

pub at_next : {X : Type 0} (g : List Part → Option X) (r : Tree) (f : Option DeclarationTree → Option X) (xs : SpecifierTrees) (ds : DeclaredTrees) →
    Listed g r f xs ds → At g (comma_if (has_declarators ds) (declarators_onto r ds)) f xs ds
unfolding is
at_next g r f xs no_declarators i = i
at_next g r f xs (and_declarator ds d) i = record { goes = λ c k p m b. i.goes (kind.Mark mark.Comma) nowhere (node c ∷ leaf k p ∷ m) refl refl }

-- ---- behind the specifiers

-- behind specifiers this reads a declaration, but at the body of a function
pub record Declares {X : Type 0} (b : SpecifierTrees → List Part → Option X) (f : Option DeclarationTree → Option X) : Type 0 where
  pub opens : (xs : SpecifierTrees) (c : Built) (k : TokenKind) (p : Place) (m : List Part) → is mark.OpenBrace k ≡ false → b xs (node c ∷ leaf k p ∷ m) ≡ f (declarators xs no_declarators (node c ∷ leaf k p ∷ m))
  pub ends : (xs : SpecifierTrees) (m : List Part) → b xs (leaf (kind.Mark mark.Semicolon) nowhere ∷ m) ≡ f (only m (Declaration xs no_declarators))

abbrev pub behind_specifiers : {X : Type 0} → (SpecifierTrees → List Part → Option X) → Option (SpecifierTrees × List Part) → Option X
behind_specifiers b x = and_then x (λ y. b y.0 y.1)

pub at_first : {X : Type 0} {g : List Part → Option X} {r : Tree} (b : SpecifierTrees → List Part → Option X) (f : Option DeclarationTree → Option X) (xs : SpecifierTrees) → Declares b f →
    RunsIf (heads mark.OpenBrace) g r (λ m. behind_specifiers b (specifiers (Some xs) m)) → At g r f xs no_declarators
at_first b f xs o i = record { goes = λ c k p m d. i.goes (node c ∷ leaf k p ∷ m) refl ∙ o.opens xs c k p m d }

pub closes : {X : Type 0} {g : List Part → Option X} {r : Tree} (b : SpecifierTrees → List Part → Option X) (f : Option DeclarationTree → Option X) (xs : SpecifierTrees) → Declares b f →
    RunsIf (heads mark.OpenBrace) g r (λ m. behind_specifiers b (specifiers (Some xs) m)) → (ds : DeclaredTrees) → Listed g r f xs ds →
    Runs g (closed (declarators_onto r ds) mark.Semicolon) (λ m. f (only m (Declaration xs ds)))
unfolding is
closes b f xs o i no_declarators l = as_runs (if_token i (λ m. refl)) (λ m. o.ends xs m)
closes b f xs o i (and_declarator ds d) l = record { goes = λ m. l.goes (kind.Mark mark.Semicolon) nowhere m refl refl }

abbrev pub itself : Option DeclarationTree → Option DeclarationTree
itself x = x

pub declares : Declares declared itself
unfolding is
declares = record { opens = λ xs c k p m d. refl; ends = λ xs m. refl }
