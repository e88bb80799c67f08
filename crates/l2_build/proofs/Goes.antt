-- What definitions come to where their parts are such.
use Rattle.std.proofs.Common.{◌≡◌, ℕ, Bool, true, false, cond, List, [], ◌∷◌, Option, Some, None, refl, ap, sym, ◌∙◌}
use Rattle.l2_syntax.specs.declared.place.Place.{Place}
use Rattle.l2_syntax.specs.declared.token.Mark.TheVariants as mark
use Rattle.l2_syntax.specs.declared.token.TokenKind.{TokenKind}
use Rattle.l2_grammar.specs.Marks.{is}
use Rattle.l2_tree.specs.declared.starts.Continuation.TheVariants as continuation
use Rattle.l2_tree.specs.Trees as tree
use Rattle.l2_tree.specs.Trees.{ExprTree, SpecifierTrees, EnumeratorTree, EnumeratorTrees, SuffixTrees, DeclaratorTree, InitialiserTree, DeclaredTree, DeclaredTrees, and_suffix, and_declarator, no_declarators}
use Rattle.l2_tree.specs.Build.{Part, Built, leaf, node, built, and_then, tail, continued, expr_of, array, suffixes, add_enumerator, enumerator_value, behind_enumerator, initialised, declared, declared_end, declarators, declarator_of, initialiser_of}

pub index_goes : (a i v : ExprTree) (p q : Place) (c : List Part) (k : TokenKind) (ps rest : List Part) →
    ps ≡ leaf k q ∷ rest → is mark.CloseBracket k ≡ true → expr_of c ≡ Some i → v ≡ tree.Index a p i → continued (Some continuation.Index) a p (node (built c) ∷ ps) ≡ tail v rest
index_goes a i v p q c k ps rest s m e h =
    ap (λ x. continued (Some continuation.Index) a p (node (built c) ∷ x)) s
    ∙ ap (λ b. cond b (and_then (expr_of c) (λ j. tail (tree.Index a p j) rest)) None) m
    ∙ ap (λ o. and_then o (λ j. tail (tree.Index a p j) rest)) e
    ∙ ap (λ x. tail x rest) (sym h)

pub choice_goes : (a b d v : ExprTree) (p q : Place) (c e : List Part) (k : TokenKind) (ps behind rest : List Part) →
    ps ≡ leaf k q ∷ behind → behind ≡ node (built e) ∷ rest → is mark.Colon k ≡ true → expr_of c ≡ Some b → expr_of e ≡ Some d → v ≡ tree.Conditional a p b d →
    continued (Some continuation.Conditional) a p (node (built c) ∷ ps) ≡ tail v rest
choice_goes a b d v p q c e k ps behind rest s t m f g h =
    ap (λ x. continued (Some continuation.Conditional) a p (node (built c) ∷ x)) (s ∙ ap (λ x. leaf k q ∷ x) t)
    ∙ ap (λ z. cond z (and_then (expr_of c) (λ y. and_then (expr_of e) (λ n. tail (tree.Conditional a p y n) rest))) None) m
    ∙ ap (λ o. and_then o (λ y. and_then (expr_of e) (λ n. tail (tree.Conditional a p y n) rest))) f
    ∙ ap (λ o. and_then o (λ n. tail (tree.Conditional a p b n) rest)) g
    ∙ ap (λ x. tail x rest) (sym h)

pub array_goes : (xs : SuffixTrees) (i : ExprTree) (p q : Place) (c : List Part) (k : TokenKind) (ps rest : List Part) →
    ps ≡ leaf k q ∷ rest → is mark.CloseBracket k ≡ true → expr_of c ≡ Some i → array xs p (node (built c) ∷ ps) ≡ suffixes (and_suffix xs (tree.ArrayOf p i)) rest
array_goes xs i p q c k ps rest s m e =
    ap (λ x. array xs p (node (built c) ∷ x)) s
    ∙ ap (λ b. cond b (and_then (expr_of c) (λ j. suffixes (and_suffix xs (tree.ArrayOf p j)) rest)) None) m
    ∙ ap (λ o. and_then o (λ j. suffixes (and_suffix xs (tree.ArrayOf p j)) rest)) e

pub valued_goes : (f : EnumeratorTrees → Bool → SpecifierTrees) (es : Option EnumeratorTrees) (n : ℕ) (p q : Place) (i : ExprTree) (v : EnumeratorTree) (c : List Part) (k : TokenKind) (ps behind rest : List Part) →
    ps ≡ leaf k q ∷ behind → behind ≡ node (built c) ∷ rest → expr_of c ≡ Some i → v ≡ tree.Valued n p q i → enumerator_value f es n p ps ≡ behind_enumerator f (add_enumerator es v) rest
valued_goes f es n p q i v c k ps behind rest s t e h =
    ap (enumerator_value f es n p) (s ∙ ap (λ x. leaf k q ∷ x) t)
    ∙ ap (λ o. and_then o (λ j. behind_enumerator f (add_enumerator es (tree.Valued n p q j)) rest)) e
    ∙ ap (λ x. behind_enumerator f (add_enumerator es x) rest) (sym h)

-- behind a declarator
abbrev pub ends_so : SpecifierTrees → DeclaredTrees → TokenKind → List Part → DeclaredTree → Option tree.DeclarationTree
ends_so xs ds k rest v = declared_end xs (and_declarator ds v) k rest (declarators xs (and_declarator ds v) rest)

pub initialised_goes : (xs : SpecifierTrees) (ds : DeclaredTrees) (d : DeclaratorTree) (p q : Place) (i : InitialiserTree) (v : DeclaredTree) (c : List Part) (k : TokenKind) (ps behind rest : List Part) →
    ps ≡ node (built c) ∷ behind → behind ≡ leaf k q ∷ rest → initialiser_of c ≡ Some i → v ≡ tree.Initialised d p i → initialised xs ds d p ps ≡ ends_so xs ds k rest v
initialised_goes xs ds d p q i v c k ps behind rest s t e h =
    ap (initialised xs ds d p) (s ∙ ap (λ x. node (built c) ∷ x) t)
    ∙ ap (λ o. and_then o (λ j. ends_so xs ds k rest (tree.Initialised d p j))) e
    ∙ ap (ends_so xs ds k rest) (sym h)

-- a declarator, behind which a token stands
abbrev pub at_token : SpecifierTrees → DeclaredTrees → TokenKind → Place → List Part → Bool → DeclaratorTree → Option tree.DeclarationTree
at_token xs ds k q rest b d = cond b (initialised xs ds d q rest) (ends_so xs ds k rest (tree.Uninitialised d))

declarator_goes : (xs : SpecifierTrees) (ds : DeclaredTrees) (d : DeclaratorTree) (q : Place) (c : List Part) (k : TokenKind) (b : Bool) (ps behind rest : List Part) →
    ps ≡ node (built c) ∷ behind → behind ≡ leaf k q ∷ rest → declarator_of c ≡ Some d → is mark.Equal k ≡ b → declarators xs ds ps ≡ at_token xs ds k q rest b d
declarator_goes xs ds d q c k b ps behind rest s t e m =
    ap (declarators xs ds) (s ∙ ap (λ x. node (built c) ∷ x) t)
    ∙ ap (λ o. and_then o (at_token xs ds k q rest (is mark.Equal k))) e
    ∙ ap (λ z. at_token xs ds k q rest z d) m

pub equal_goes : (xs : SpecifierTrees) (ds : DeclaredTrees) (d : DeclaratorTree) (q : Place) (c : List Part) (k : TokenKind) (ps behind rest : List Part) →
    ps ≡ node (built c) ∷ behind → behind ≡ leaf k q ∷ rest → declarator_of c ≡ Some d → is mark.Equal k ≡ true → declarators xs ds ps ≡ initialised xs ds d q rest
equal_goes xs ds d q c k ps behind rest s t e m = declarator_goes xs ds d q c k true ps behind rest s t e m

pub plain_goes : (xs : SpecifierTrees) (ds : DeclaredTrees) (d : DeclaratorTree) (v : DeclaredTree) (q : Place) (c : List Part) (k : TokenKind) (ps behind rest : List Part) →
    ps ≡ node (built c) ∷ behind → behind ≡ leaf k q ∷ rest → declarator_of c ≡ Some d → is mark.Equal k ≡ false → v ≡ tree.Uninitialised d → declarators xs ds ps ≡ ends_so xs ds k rest v
plain_goes xs ds d v q c k ps behind rest s t e m h = declarator_goes xs ds d q c k false ps behind rest s t e m ∙ ap (ends_so xs ds k rest) (sym h)

pub declarators_go : (xs : SpecifierTrees) (c : Built) (ps rest : List Part) → ps ≡ node c ∷ rest → declared xs ps ≡ declarators xs no_declarators ps
declarators_go xs c ps rest s = ap (declared xs) s ∙ sym (ap (declarators xs no_declarators) s)
