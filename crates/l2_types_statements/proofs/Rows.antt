-- Statements and branches, as the lists that code goes over, and the statements that are made of lists.
use Rattle.std.proofs.Common.{◌≡◌, ℕ, ◌<◌, ◌+◌, List, [], ◌∷◌, ◌++◌, length, take, drop, get_or, refl, ap, sym, ◌∙◌}
use Rattle.std.proofs.lemmas.List.{drop_more}
use Rattle.std.specs.declared.vec.Vec.{Vec}
use Rattle.std.specs.declared.boxed.Box.{Box}
use Rattle.std.specs.declared.alloc.Global.{Global}
use Rattle.l2_syntax.specs.declared.place.Place.{Place}
use Rattle.l2_tree.specs.declared.statement.Stmt as stmt
use Rattle.l2_tree.specs.declared.statement.Stmt.{Stmt}
use Rattle.l2_tree.specs.declared.statement.Branch.{Branch}
use Rattle.l2_tree.specs.Trees as tree
use Rattle.l2_tree.specs.Trees.{StmtTrees, no_stmts, and_stmt, BranchTrees, first_branch, and_branch}
use Rattle.l2_tree.specs.Units.{stmt_tree, stmts_onto, branch_tree, branches_onto, branches_tree}
use Rattle.l2_tree.proofs.Statements.{stmt_tree-Block, stmt_tree-If, stmt_tree-IfElse}
use Rattle.l2_types.specs.States.{State, Seen, saw, next}
use Rattle.l2_types.specs.Scopes.{entered, left}
use Rattle.l2_types.specs.Trees.{typed_tree}
use Rattle.l2_types_statements.specs.declared.checked.Setting.{Setting}
use Rattle.l2_types_statements.specs.declared.checked.Checked as code
use Rattle.l2_types_statements.specs.declared.checked.Checked.{Checked, Row_of-Checked, end_of-Checked, more_of-Checked, items-the_row-Checked, items_hidden-the_row-Checked-0, Row_of-Arm, end_of-Arm, more_of-Arm, items-the_row-Arm, items_hidden-the_row-Arm-1}
use Rattle.l2_types_statements.specs.declared.checked.Checked.TheBlock as all_of
use Rattle.l2_types_statements.specs.declared.checked.Arm.{Arm as ArmCode}
use Rattle.l2_types_statements.specs.Trees as checked
use Rattle.l2_types_statements.specs.Trees.{CheckedTree, CheckedTrees, no_statements, and_statement, ArmTrees, no_arms, and_arm, Block, If, IfElse, checked_tree, checked_row, checked_onto, arm_tree, arms_row, arms_onto}
use Rattle.l2_types_statements.specs.Parts.{inside}
use Rattle.l2_types_statements.specs.Statements.{statement, items, branch, branches}

-- ---- what is made of lists

checked_row_is : {m : _} (xs : CheckedTrees) (row : Row_of-Checked m) → checked_row xs row ≡ checked_onto xs (items-the_row-Checked m row)
checked_row_is xs end_of-Checked = refl
checked_row_is xs (more_of-Checked x rest) = checked_row_is (and_statement xs (checked_tree x)) rest

arms_row_is : {m : _} (xs : ArmTrees) (row : Row_of-Arm m) → arms_row xs row ≡ arms_onto xs (items-the_row-Arm m row)
arms_row_is xs end_of-Arm = refl
arms_row_is xs (more_of-Arm c a x rest) = arms_row_is (and_arm xs (checked.Arm (typed_tree c.value) (checked_tree x))) rest

arms_are : (all : Vec ArmCode Global) → arms_row no_arms (all_of.hidden-the_row-Arm-1 all) ≡ arms_onto no_arms all.items
arms_are all = arms_row_is no_arms (all_of.hidden-the_row-Arm-1 all) ∙ ap (arms_onto no_arms) (items_hidden-the_row-Arm-1 all)

pub checked_tree-Block : (all : Vec Checked Global) → checked_tree (code.Block all) ≡ Block (checked_onto no_statements all.items)
checked_tree-Block all = ap Block (checked_row_is no_statements (all_of.hidden-the_row-Checked-0 all) ∙ ap (checked_onto no_statements) (items_hidden-the_row-Checked-0 all))

pub checked_tree-If : (all : Vec ArmCode Global) → checked_tree (code.If all) ≡ If (arms_onto no_arms all.items)
checked_tree-If all = ap If (arms_are all)

pub checked_tree-IfElse : (all : Vec ArmCode Global) (x : Box Checked Global) → checked_tree (code.IfElse all x) ≡ IfElse (arms_onto no_arms all.items) (checked_tree x.value)
checked_tree-IfElse all x = ap (λ z. IfElse z (checked_tree x.value)) (arms_are all)

pub ruleset made = (checked_tree-Block, checked_tree-If, checked_tree-IfElse)

-- ---- lists that code makes

pub checked_onto-end : (xs : CheckedTrees) (all : List Checked) (x : Checked) → checked_onto xs (all ++ x ∷ []) ≡ and_statement (checked_onto xs all) (checked_tree x)
checked_onto-end xs [] x = refl
checked_onto-end xs (y ∷ all) x = checked_onto-end (and_statement xs (checked_tree y)) all x

pub arms_onto-end : (xs : ArmTrees) (all : List ArmCode) (x : ArmCode) → arms_onto xs (all ++ x ∷ []) ≡ and_arm (arms_onto xs all) (arm_tree x)
arms_onto-end xs [] x = refl
arms_onto-end xs (y ∷ all) x = arms_onto-end (and_arm xs (arm_tree y)) all x

-- ---- lists that code goes over

-- these statements more
abbrev pub items_from : Setting → List Stmt → Seen CheckedTrees → Seen CheckedTrees
items_from w [] r = r
items_from w (x ∷ rest) r = items_from w rest (next r (λ xs t. next (statement w (stmt_tree x) t) (λ y u. saw (and_statement xs y) u)))

items_are : (w : Setting) (ss : StmtTrees) (all : List Stmt) (s : State) → items w (stmts_onto ss all) s ≡ items_from w all (items w ss s)
items_are w ss [] s = refl
items_are w ss (x ∷ rest) s = items_are w (and_stmt ss (stmt_tree x)) rest s

pub all_items : (w : Setting) (all : List Stmt) (s : State) → items w (stmts_onto no_stmts all) s ≡ items_from w all (saw no_statements s)
all_items w all s = items_are w no_stmts all s

-- these branches more
abbrev pub branches_from : Setting → List Branch → Seen ArmTrees → Seen ArmTrees
branches_from w [] r = r
branches_from w (b ∷ rest) r = branches_from w rest (next r (λ xs t. next (branch w (branch_tree b) t) (λ y u. saw (and_arm xs y) u)))

branches_are : (w : Setting) (bs : BranchTrees) (all : List Branch) (s : State) → branches w (branches_onto bs all) s ≡ branches_from w all (branches w bs s)
branches_are w bs [] s = refl
branches_are w bs (b ∷ rest) s = branches_are w (and_branch bs (branch_tree b)) rest s

pub all_branches : (w : Setting) (b : Branch) (all : List Branch) (s : State) →
    branches w (branches_tree b all) s ≡ branches_from w all (next (branch w (branch_tree b) s) (λ y t. saw (and_arm no_arms y) t))
all_branches w b all s = branches_are w (first_branch (branch_tree b)) all s

pub ruleset rows = (checked_onto-end, arms_onto-end, all_items, all_branches)

-- ---- statements with lists in them

pub statement-Block : (w : Setting) (x : Stmt) (p : Place) (all : Vec Stmt Global) (s : State) → x ≡ stmt.Block p all →
    statement w (stmt_tree x) s ≡ next (items (inside w) (stmts_onto no_stmts all.items) (entered s)) (λ xs t. saw (Block xs) (left s t))
statement-Block w x p all s h = ap (λ y. statement w (stmt_tree y) s) h ∙ ap (λ y. statement w y s) (stmt_tree-Block p all)

pub statement-If : (w : Setting) (x : Stmt) (b : Branch) (bs : Vec Branch Global) (s : State) → x ≡ stmt.If b bs →
    statement w (stmt_tree x) s ≡ statement w (tree.If (branches_tree b bs.items)) s
statement-If w x b bs s h = ap (λ y. statement w (stmt_tree y) s) h ∙ ap (λ y. statement w y s) (stmt_tree-If b bs)

pub statement-IfElse : (w : Setting) (x : Stmt) (b : Branch) (bs : Vec Branch Global) (z : Box Stmt Global) (s : State) → x ≡ stmt.IfElse b bs z →
    statement w (stmt_tree x) s ≡ statement w (tree.IfElse (branches_tree b bs.items) (stmt_tree z.value)) s
statement-IfElse w x b bs z s h = ap (λ y. statement w (stmt_tree y) s) h ∙ ap (λ y. statement w y s) (stmt_tree-IfElse b bs z)

pub ruleset kinds = (statement-Block, statement-If, statement-IfElse)

-- ---- one of a list more

pub more_items : (w : Setting) (j : ℕ) (all : List Stmt) (x : Stmt) (ys : List Checked) (y : Checked) (s t : State) (whole : Seen CheckedTrees) →
    j < length all → x ≡ get_or all j x → statement w (stmt_tree x) s ≡ saw (checked_tree y) t →
    items_from w (drop j all) (saw (checked_onto no_statements ys) s) ≡ whole → items_from w (drop (j + 1) all) (saw (checked_onto no_statements (ys ++ y ∷ [])) t) ≡ whole
more_items w j all x ys y s t whole h at e so_far =
    let split : drop j all ≡ x ∷ drop (j + 1) all = drop_more all j x h ∙ ap (λ z. z ∷ drop (j + 1) all) (sym at) in
    let step : next (statement w (stmt_tree x) s) (λ z u. saw (and_statement (checked_onto no_statements ys) z) u) ≡ saw (and_statement (checked_onto no_statements ys) (checked_tree y)) t
    = ap (λ r. next r (λ z u. saw (and_statement (checked_onto no_statements ys) z) u)) e in
    ap (λ zs. items_from w (drop (j + 1) all) (saw zs t)) (checked_onto-end no_statements ys y)
    ∙ ap (λ r. items_from w (drop (j + 1) all) r) (sym step)
    ∙ ap (λ l. items_from w l (saw (checked_onto no_statements ys) s)) (sym split)
    ∙ so_far

pub more_branches : (w : Setting) (j : ℕ) (all : List Branch) (b : Branch) (ys : List ArmCode) (y : ArmCode) (s t : State) (whole : Seen ArmTrees) →
    j < length all → b ≡ get_or all j b → branch w (branch_tree b) s ≡ saw (arm_tree y) t →
    branches_from w (drop j all) (saw (arms_onto no_arms ys) s) ≡ whole → branches_from w (drop (j + 1) all) (saw (arms_onto no_arms (ys ++ y ∷ [])) t) ≡ whole
more_branches w j all b ys y s t whole h at e so_far =
    let split : drop j all ≡ b ∷ drop (j + 1) all = drop_more all j b h ∙ ap (λ z. z ∷ drop (j + 1) all) (sym at) in
    let step : next (branch w (branch_tree b) s) (λ z u. saw (and_arm (arms_onto no_arms ys) z) u) ≡ saw (and_arm (arms_onto no_arms ys) (arm_tree y)) t
    = ap (λ r. next r (λ z u. saw (and_arm (arms_onto no_arms ys) z) u)) e in
    ap (λ zs. branches_from w (drop (j + 1) all) (saw zs t)) (arms_onto-end no_arms ys y)
    ∙ ap (λ r. branches_from w (drop (j + 1) all) r) (sym step)
    ∙ ap (λ l. branches_from w l (saw (arms_onto no_arms ys) s)) (sym split)
    ∙ so_far

-- ---- a block, by what its parts came to

pub block_seen : (w v : Setting) (x : Stmt) (p : Place) (all : Vec Stmt Global) (xs : List Stmt) (s t u a : State) (ys : CheckedTrees) (y : CheckedTree) (names tags level : ℕ) →
    x ≡ stmt.Block p all → v ≡ inside w → xs ≡ all.items → t ≡ entered s → items v (stmts_onto no_stmts xs) t ≡ saw ys u → y ≡ Block ys →
    names ≡ length s.scope → tags ≡ length s.tags → level ≡ s.level → a ≡ record u { scope = take names u.scope; tags = take tags u.tags; level = level } →
    statement w (stmt_tree x) s ≡ saw y a
block_seen w v x p all xs s t u a ys y names tags level h i j k e b n m l d =
    let o : a ≡ left s u = d
    ∙ ap (λ z. record u { scope = take z u.scope; tags = take tags u.tags; level = level }) n
    ∙ ap (λ z. record u { scope = take (length s.scope) u.scope; tags = take z u.tags; level = level }) m
    ∙ ap (λ z. record u { scope = take (length s.scope) u.scope; tags = take (length s.tags) u.tags; level = z }) l in
    statement-Block w x p all s h
    ∙ ap (λ z. next (items z (stmts_onto no_stmts all.items) (entered s)) (λ r q. saw (Block r) (left s q))) (sym i)
    ∙ ap (λ z. next (items v (stmts_onto no_stmts z) (entered s)) (λ r q. saw (Block r) (left s q))) (sym j)
    ∙ ap (λ z. next (items v (stmts_onto no_stmts xs) z) (λ r q. saw (Block r) (left s q))) (sym k)
    ∙ ap (λ (z : Seen _). next z (λ r q. saw (Block r) (left s q))) e
    ∙ ap (λ z. saw z (left s u)) (sym b)
    ∙ ap (λ z. saw y z) (sym o)
