-- Lists of the whole grammar that the small form wants to have no element, or one alone.
use Rattle.std.proofs.Common.{◌≡◌, ◌≢◌, ℕ, List, [], ◌∷◌, length, get_or, Some, None, refl, ap, sym, ◌∙◌, arith}
use Rattle.std.specs.Prelude.{option_map}
use Rattle.l2_syntax.specs.declared.place.Place.{Place}
use Rattle.l2_syntax.specs.declared.token.Name.{Name as NameText}
use Rattle.std.specs.declared.vec.Vec.{Vec}
use Rattle.std.specs.declared.boxed.Box.{Box}
use Rattle.std.specs.declared.alloc.Global.{Global}
use Rattle.l2_tree.specs.declared.expression.Expr as expr
use Rattle.l2_tree.specs.declared.expression.Expr.{Expr}
use Rattle.l2_tree.specs.declared.expression.Specifier.{Specifier}
use Rattle.l2_tree.specs.declared.expression.Pointer.{Pointer}
use Rattle.l2_tree.specs.declared.expression.Suffix.{Suffix}
use Rattle.l2_tree.specs.declared.expression.Declarator as declarator
use Rattle.l2_tree.specs.declared.expression.Declared as declared
use Rattle.l2_tree.specs.declared.expression.Declared.{Declared}
use Rattle.l2_tree.specs.declared.expression.Initialiser.{Initialiser}
use Rattle.l2_tree.specs.declared.statement.Stmt as stmt
use Rattle.l2_tree.specs.declared.statement.Stmt.{Stmt}
use Rattle.l2_tree.specs.declared.statement.Branch.{Branch}
use Rattle.l2_tree.specs.Trees.{ExprTree, ExprTrees, no_exprs, and_expr, SpecifierTree, SpecifierTrees, first_specifier, and_specifier, DeclaratorTree, Declarator, CoreTree, Absent, Named, Group, SuffixTree, SuffixTrees, no_suffixes, and_suffix, DeclaredTree, DeclaredTrees, no_declarators, and_declarator, Declaration, no_stmts, BranchTree, BranchTrees, first_branch, and_branch}
use Rattle.l2_tree.specs.Units.{expr_tree, exprs_onto, specifier_tree, specifiers_onto, suffix_tree, suffixes_onto, declared_tree, declarators_onto, declarator_tree, initialiser_tree, stmt_tree, stmts_onto, branch_tree, branches_onto, branches_tree}
use Rattle.l2_tree.proofs.Expressions.{expr_tree-Call}
use Rattle.l2_tree.proofs.Statements.{stmt_tree-Block, stmt_tree-If, stmt_tree-IfElse}
use Rattle.l2_tree.proofs.Declarations.{core_tree-Group, declared_tree-Plain, declared_tree-Initialised}
use Rattle.l2_small.specs.declared.words.Word.{Word}
use Rattle.l2_small.specs.SmallForm.{word_of, small_choice, small_expr, word_alone, name_alone, small_declare, small_initialise, small_declared, small_declaration, small_assert, small_effect, small_stmt, branch_with, small_branch, small_block, small_stmts, and_then}
use Rattle.l2_small.specs.SmallTrees as small
use Rattle.l2_small.proofs.SmallTrees.{small_stmt_tree-Block}

-- ---- arguments

choice_later : (names : List NameText) (w : Word) (es : ExprTrees) (e : ExprTree) (xs : List Expr) → small_choice names (Some w) (exprs_onto (and_expr es e) xs) ≡ None
choice_later names w es e [] = refl
choice_later names w es e (x ∷ xs) = choice_later names w (and_expr es e) (expr_tree x) xs

pub choice_given : (names : List NameText) (w : Word) (xs : List Expr) → length xs ≢ 0 → small_choice names (Some w) (exprs_onto no_exprs xs) ≡ None
choice_given names w [] h = absurd (h refl)
choice_given names w (x ∷ xs) h = choice_later names w no_exprs (expr_tree x) xs

pub no_arguments : (es : ExprTrees) (xs : List Expr) → length xs ≡ 0 → exprs_onto es xs ≡ es
no_arguments es [] h = refl
no_arguments es (x ∷ xs) h = absurd (omega arith)

-- a call's small tree, by the list of its arguments
pub small_expr-Call : (names : List NameText) (e : Expr) (f : Box Expr Global) (p : Place) (all : Vec Expr Global) →
    e ≡ expr.Call f p all → small_expr names (expr_tree e) ≡ small_choice names (word_of (expr_tree f.value)) (exprs_onto no_exprs all.items)
small_expr-Call names e f p all h = ap (λ x. small_expr names (expr_tree x)) h ∙ ap (small_expr names) (expr_tree-Call f p all)

pub ruleset arguments = (choice_given, no_arguments)

pub ruleset calls = (small_expr-Call)

-- ---- specifiers

alone_later : (xs : SpecifierTrees) (x : SpecifierTree) (more : List Specifier) → word_alone (specifiers_onto (and_specifier xs x) more) ≡ None
alone_later xs x [] = refl
alone_later xs x (z ∷ more) = alone_later (and_specifier xs x) (specifier_tree z) more

pub word_alone-one : (x : SpecifierTree) (xs : List Specifier) → length xs ≡ 0 → word_alone (specifiers_onto (first_specifier x) xs) ≡ word_alone (first_specifier x)
word_alone-one x [] h = refl
word_alone-one x (y ∷ more) h = absurd (omega arith)

pub word_alone-other : (x : SpecifierTree) (xs : List Specifier) → length xs ≢ 0 → word_alone (specifiers_onto (first_specifier x) xs) ≡ None
word_alone-other x [] h = absurd (h refl)
word_alone-other x (y ∷ more) h = alone_later (first_specifier x) (specifier_tree y) more

pub ruleset specifiers = (word_alone-one, word_alone-other)

-- ---- declarators

suffixed : (n : ℕ) (p : Place) (xs : SuffixTrees) (x : SuffixTree) (more : List Suffix) → name_alone (Declarator [] (Named n p) (suffixes_onto (and_suffix xs x) more)) ≡ None
suffixed n p xs x [] = refl
suffixed n p xs x (y ∷ more) = suffixed n p (and_suffix xs x) (suffix_tree y) more

pub name_alone-pointed : (ps : List Pointer) (c : CoreTree) (xs : SuffixTrees) → length ps ≢ 0 → name_alone (Declarator ps c xs) ≡ None
name_alone-pointed [] c xs h = absurd (h refl)
name_alone-pointed (p ∷ ps) c xs h = refl

pub name_alone-suffixed : (ps : List Pointer) (n : ℕ) (p : Place) (xs : List Suffix) → length xs ≢ 0 → name_alone (Declarator ps (Named n p) (suffixes_onto no_suffixes xs)) ≡ None
name_alone-suffixed ps n p [] h = absurd (h refl)
name_alone-suffixed [] n p (x ∷ xs) h = suffixed n p no_suffixes (suffix_tree x) xs
name_alone-suffixed (q ∷ ps) n p (x ∷ xs) h = refl

pub name_alone-none : (ps : List Pointer) (n : ℕ) (p : Place) (xs : List Suffix) → length ps ≡ 0 → length xs ≡ 0 → name_alone (Declarator ps (Named n p) (suffixes_onto no_suffixes xs)) ≡ Some (record { name = n; place = p })
name_alone-none [] n p [] g h = refl
name_alone-none [] n p (x ∷ xs) g h = absurd (omega arith)
name_alone-none (q ∷ ps) n p xs g h = absurd (omega arith)

pub name_alone-absent : (ps : List Pointer) (xs : SuffixTrees) → name_alone (Declarator ps Absent xs) ≡ None
name_alone-absent [] xs = refl
name_alone-absent (p ∷ ps) xs = refl

pub name_alone-group : (ps : List Pointer) (p : Place) (d : DeclaratorTree) (xs : SuffixTrees) → name_alone (Declarator ps (Group p d) xs) ≡ None
name_alone-group [] p d xs = refl
name_alone-group (q ∷ ps) p d xs = refl

pub ruleset names = (name_alone-pointed, name_alone-suffixed, name_alone-none, name_alone-absent, name_alone-group, core_tree-Group)

-- ---- declarations

pub small_declared-Plain : (names : List NameText) (x : Declared) (d : declarator.Declarator) → x ≡ declared.Plain d → small_declared names (declared_tree x) ≡ small_declare names (name_alone (declarator_tree d))
small_declared-Plain names x d h = ap (λ z. small_declared names (declared_tree z)) h ∙ ap (small_declared names) (declared_tree-Plain d)

pub small_declared-Initialised : (names : List NameText) (x : Declared) (d : declarator.Declarator) (p : Place) (i : Initialiser) →
    x ≡ declared.Initialised d p i → small_declared names (declared_tree x) ≡ small_initialise names (name_alone (declarator_tree d)) (initialiser_tree i)
small_declared-Initialised names x d p i h = ap (λ z. small_declared names (declared_tree z)) h ∙ ap (small_declared names) (declared_tree-Initialised d p i)

pub ruleset declarators = (small_declared-Plain, small_declared-Initialised)

two_declared : (names : List NameText) (xs : SpecifierTrees) (ds : DeclaredTrees) (d e : DeclaredTree) (more : List Declared) → small_declaration names (Declaration xs (declarators_onto (and_declarator (and_declarator ds d) e) more)) ≡ None
two_declared names xs ds d e [] = refl
two_declared names xs ds d e (x ∷ more) = two_declared names xs (and_declarator ds d) e (declared_tree x) more

pub declaration-one : (names : List NameText) (xs : SpecifierTrees) (ds : List Declared) (d : Declared) → length ds ≡ 1 → d ≡ get_or ds 0 d →
    small_declaration names (Declaration xs (declarators_onto no_declarators ds)) ≡ small_declaration names (Declaration xs (and_declarator no_declarators (declared_tree d)))
declaration-one names xs [] d h e = absurd (omega arith)
declaration-one names xs (y ∷ []) d h e = ap (λ z. small_declaration names (Declaration xs (and_declarator no_declarators (declared_tree z)))) (sym e)
declaration-one names xs (y ∷ z ∷ more) d h e = absurd (omega arith)

pub declaration-other : (names : List NameText) (xs : SpecifierTrees) (ds : List Declared) → length ds ≢ 1 → small_declaration names (Declaration xs (declarators_onto no_declarators ds)) ≡ None
declaration-other names xs [] h = refl
declaration-other names xs (y ∷ []) h = absurd (h refl)
declaration-other names xs (y ∷ z ∷ more) h = two_declared names xs no_declarators (declared_tree y) (declared_tree z) more

pub ruleset declarations = (declaration-one, declaration-other)

-- ---- statements

asserted_later : (names : List NameText) (w : Word) (es : ExprTrees) (d e : ExprTree) (xs : List Expr) → small_assert names (Some w) (exprs_onto (and_expr (and_expr es d) e) xs) ≡ None
asserted_later names w es d e [] = refl
asserted_later names w es d e (x ∷ xs) = asserted_later names w (and_expr es d) e (expr_tree x) xs

pub small_assert-one : (names : List NameText) (w : Word) (xs : List Expr) (x : Expr) → length xs ≡ 1 → x ≡ get_or xs 0 x →
    small_assert names (Some w) (exprs_onto no_exprs xs) ≡ small_assert names (Some w) (and_expr no_exprs (expr_tree x))
small_assert-one names w [] x h e = absurd (omega arith)
small_assert-one names w (y ∷ []) x h e = ap (λ z. small_assert names (Some w) (and_expr no_exprs (expr_tree z))) (sym e)
small_assert-one names w (y ∷ z ∷ more) x h e = absurd (omega arith)

pub small_assert-other : (names : List NameText) (w : Word) (xs : List Expr) → length xs ≢ 1 → small_assert names (Some w) (exprs_onto no_exprs xs) ≡ None
small_assert-other names w [] h = refl
small_assert-other names w (y ∷ []) h = absurd (h refl)
small_assert-other names w (y ∷ z ∷ more) h = asserted_later names w no_exprs (expr_tree y) (expr_tree z) more

pub ruleset asserted = (small_assert-one, small_assert-other)

pub small_effect-Call : (names : List NameText) (e : Expr) (f : Box Expr Global) (p : Place) (all : Vec Expr Global) →
    e ≡ expr.Call f p all → small_effect names (expr_tree e) ≡ small_assert names (word_of (expr_tree f.value)) (exprs_onto no_exprs all.items)
small_effect-Call names e f p all h = ap (λ x. small_effect names (expr_tree x)) h ∙ ap (small_effect names) (expr_tree-Call f p all)

pub ruleset effects = (small_effect-Call)

-- ---- branches and blocks

pub small_stmt-If : (names : List NameText) (s : Stmt) (a : Branch) (bs : Vec Branch Global) →
    s ≡ stmt.If a bs → small_stmt names (stmt_tree s) ≡ option_map (λ b. small.If b.test b.body) (small_branch names (branches_tree a bs.items))
small_stmt-If names s a bs h = ap (λ x. small_stmt names (stmt_tree x)) h ∙ ap (small_stmt names) (stmt_tree-If a bs)

pub small_stmt-IfElse : (names : List NameText) (s : Stmt) (a : Branch) (bs : Vec Branch Global) (t : Box Stmt Global) →
    s ≡ stmt.IfElse a bs t →
    small_stmt names (stmt_tree s) ≡ and_then (small_branch names (branches_tree a bs.items)) (λ b. option_map (small.IfElse b.test b.body) (small_block names (stmt_tree t.value)))
small_stmt-IfElse names s a bs t h = ap (λ x. small_stmt names (stmt_tree x)) h ∙ ap (small_stmt names) (stmt_tree-IfElse a bs t)

pub ruleset ifs = (small_stmt-If, small_stmt-IfElse)

branch_later : (names : List NameText) (bs : BranchTrees) (a : BranchTree) (all : List Branch) → small_branch names (branches_onto (and_branch bs a) all) ≡ None
branch_later names bs a [] = refl
branch_later names bs a (x ∷ all) = branch_later names (and_branch bs a) (branch_tree x) all

pub small_branch-one : (names : List NameText) (b : Branch) (others : List Branch) → length others ≡ 0 →
    small_branch names (branches_tree b others) ≡ and_then (small_expr names (expr_tree b.condition.value)) (λ x. option_map (branch_with x) (small_block names (stmt_tree b.body.value)))
small_branch-one names b [] h = refl
small_branch-one names b (x ∷ others) h = absurd (omega arith)

pub small_branch-other : (names : List NameText) (b : Branch) (others : List Branch) → length others ≢ 0 → small_branch names (branches_tree b others) ≡ None
small_branch-other names b [] h = absurd (h refl)
small_branch-other names b (x ∷ others) h = branch_later names (first_branch (branch_tree b)) (branch_tree x) others

pub ruleset branches = (small_branch-one, small_branch-other)

pub small_block-Block : (names : List NameText) (s : Stmt) (p : Place) (all : Vec Stmt Global) →
    s ≡ stmt.Block p all → small_block names (stmt_tree s) ≡ option_map small.Block (small_stmts names (stmts_onto no_stmts all.items))
small_block-Block names s p all h = ap (λ x. small_block names (stmt_tree x)) h ∙ ap (small_block names) (stmt_tree-Block p all)

pub ruleset blocks = (small_block-Block, small_stmt_tree-Block)
