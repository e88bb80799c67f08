-- What stands in a unit is formed: statements.
use Rattle.std.proofs.Common.{◌≡◌, ◌⊎◌, inl, inr, refl, ap, ◌∙◌, subst, Bool, true, false, Option, None, Some}
use Rattle.l2_syntax.specs.declared.place.Place.{Place}
use Rattle.l2_syntax.specs.declared.token.Mark.{Mark}
use Rattle.l2_syntax.specs.declared.token.Mark.TheVariants as mark
use Rattle.l2_syntax.specs.declared.token.TokenKind.TheVariants as kind
use Rattle.l2_grammar.specs.declared.states.Items.TheVariants as items
use Rattle.l2_grammar.specs.declared.states.Sort.{Sort}
use Rattle.l2_grammar.specs.declared.states.Sort.TheVariants as sort
use Rattle.l2_grammar.specs.declared.states.State.{State}
use Rattle.l2_grammar.specs.declared.states.State.TheVariants as st
use Rattle.l2_grammar.specs.declared.states.Outcome.{Outcome}
use Rattle.l2_grammar.specs.declared.states.Outcome.TheVariants as outcome
use Rattle.l2_grammar.specs.Marks.{is}
use Rattle.l2_grammar.specs.Networks.{on_token}
use Rattle.l2_grammar.specs.Nesting as nesting
use Rattle.l2_grammar.specs.Nesting.{is_item, behind_statement, behind_item, stands, on_child, opens, outcome as outcome_of}
use Rattle.l2_grammar.specs.Trees.{Tree, begin, child, sort as sort_of, state as state_of, Fits}
use Rattle.l2_tree.specs.Trees.{ExprTree, FirstTree, NoFirst, FirstExpression, FirstDeclaration, StmtTree, Declare, Block, Evaluate, Empty, If, IfElse, While, Switch, Do, For, Case, Default, Label, Break, Continue, Return, ReturnValue, StmtTrees, no_stmts, and_stmt, Branch, BranchTree, BranchTrees, first_branch, and_branch}
use Rattle.l2_tree.specs.Spelling.{nowhere, behind, mark_at, closed, within, run_expr, run_declaration, perhaps, first_onto, head_onto, run_stmt, stmts_onto, branch_onto, branches_onto}
use Rattle.l2_well_formed.specs.Expressions.{level, is_declaration, is_if, is_shut, shut_branch, last_shut}
use Rattle.l2_well_formed.specs.WellFormed.{FormedExpr, FormedPerhaps, FormedFirst, FormedStmt, FormedItems, FormedBranch, FormedBranches}
use Rattle.l2_well_formed.proofs.Steps.{no_none, then_state, operands, operand}
use Rattle.l2_well_formed.proofs.Counts.{fresh_ready}
use Rattle.l2_well_formed.proofs.Formed.{expr_formed}
use Rattle.l2_well_formed.proofs.Starts.{follow}
use Rattle.l2_well_formed.proofs.Items.{block_state, while_state, switch_state, do_state, for_state, case_state, default_state, break_state, continue_state, return_state, empty_state, label_state, if_state, no_if, item_values, item_naming, semicolon_follows, declaration_formed, stored_once}

-- ---- a statement in a construct

-- what a statement is to the construct round it
abbrev Stated : StmtTree → Outcome → Type 0
Stated t o = (o ≡ outcome.Declaration) ⊎ ((b : Bool) × (o ≡ outcome.Stated b) × (is_declaration t ≡ false) × (b ≡ true → is_shut t ≡ true))

pub record StmtDone (t : StmtTree) (r : Tree) : Type 0 where
  pub formed : FormedStmt t
  pub stated : Stated t (outcome_of (state_of r))

pub record BodyPut (t : StmtTree) (g : Bool → State) (r : Tree) : Type 0 where
  pub formed : FormedStmt t
  pub plain : is_declaration t ≡ false
  pub ends : Bool
  pub state : state_of r ≡ g ends
  pub shut : ends ≡ true → is_shut t ≡ true

body : (a : Tree) (q : State) (t : StmtTree) (g : Bool → State) → ((z : Sort) → is_item z ≡ true → Fits (run_stmt z t) → StmtDone t (run_stmt z t)) → state_of a ≡ q → is_item (opens (sort_of a) q) ≡ true →
    ((o : Outcome) → on_child (sort_of a) q o ≡ behind_statement g o) → Fits (child a (run_stmt (opens (sort_of a) (state_of a)) t)) → BodyPut t g (child a (run_stmt (opens (sort_of a) (state_of a)) t))
body a q t g h j k c f = go i.stated
  where
    z : Sort
    z = opens (sort_of a) (state_of a)

    r : Tree
    r = run_stmt z t

    i : StmtDone t r
    i = h z (ap (λ y. is_item (opens (sort_of a) y)) j ∙ k) f.1

    made : state_of (child a r) ≡ behind_statement g (outcome_of (state_of r))
    made = ap (λ y. on_child (sort_of a) y (outcome_of (state_of r))) j ∙ c (outcome_of (state_of r))

    go : Stated t (outcome_of (state_of r)) → BodyPut t g (child a r)
    go (inl e) = absurd (no_none (sort_of a) (subst (λ y. stands (sort_of a) y ≡ true) (made ∙ ap (behind_statement g) e) f.3))
    go (inr e) = record { formed = i.formed; plain = e.2; ends = e.0; state = made ∙ ap (behind_statement g) e.1; shut = e.3 }

-- a whole statement, by its last state
statement : (t : StmtTree) (q : State) (b : Bool) → q ≡ st.Statement b → is_declaration t ≡ false → (b ≡ true → is_shut t ≡ true) → Stated t (outcome_of q)
unfolding outcome_of
statement t q b e d s = inr (b, ap outcome_of e, d, s)

then_done : (t : StmtTree) (q : State) (b : Bool) → q ≡ st.ThenDone b → is_declaration t ≡ false → Stated t (outcome_of q)
unfolding outcome_of
then_done t q b e d = inr (false, ap outcome_of e, d, λ h. absurd (cc))

-- an item of a block
item_state : (s : Sort) (q : State) (o : Outcome) → stands s (behind_item q o) ≡ true → behind_item q o ≡ q
item_state s q (outcome.Stated b) h = refl
item_state s q outcome.Declaration h = refl
item_state s q o h = absurd (no_none s h)

-- `( e )` behind a word
pub record Headed (e : ExprTree) (r : Tree) (q : State) : Type 0 where
  pub formed : FormedExpr e
  pub state : state_of r ≡ q

head : (r : Tree) (p : Place) (e : ExprTree) (first test close last : State) → state_of r ≡ first → ((s : Sort) → on_token s first (kind.Mark mark.OpenParenthesis) ≡ test) → ((s : Sort) → operands (opens s test) ≡ true) →
    ((s : Sort) → on_child s test outcome.Value ≡ close) → ((s : Sort) → on_token s close (kind.Mark mark.CloseParenthesis) ≡ last) → Fits (head_onto r p e) → Headed e (head_onto r p e) last
head r p e first test close last j a b c d f =
    let x = mark_at r mark.OpenParenthesis p in
    let y = operand x test e (λ z w g. expr_formed z e w g) (then_state r (kind.Mark mark.OpenParenthesis) p test j (a (sort_of r))) (b (sort_of r)) f.0 in
    record { formed = y.formed; state = then_state (within x (λ z. run_expr z e)) (kind.Mark mark.CloseParenthesis) nowhere last (y.state ∙ c (sort_of r)) (d (sort_of r)) }

-- ---- `if`

-- behind branches
pub record Branched (bs : BranchTrees) (r : Tree) : Type 0 where
  pub formed : FormedBranches bs
  pub ends : Bool
  pub state : state_of r ≡ st.ThenDone ends
  pub shut : ends ≡ true → last_shut bs ≡ true

branch_before : (r : Tree) (b : BranchTree) → Fits (branch_onto r b) → (p : Place) × Fits (mark_at r mark.If p)
branch_before r (Branch p q e t) f = (p, f.0.0.0.0)

branches_before : (r : Tree) (bs : BranchTrees) → Fits (branches_onto r bs) → (p : Place) × Fits (mark_at r mark.If p)
branches_before r (first_branch b) f = branch_before r b f
branches_before r (and_branch bs b) f = branches_before r bs (branch_before (closed (branches_onto r bs) mark.Else) b f).1.0.0

else_state : (s : Sort) (b : Bool) → stands s (on_token s (st.ThenDone b) (kind.Mark mark.Else)) ≡ true → (b ≡ true) × (on_token s (st.ThenDone b) (kind.Mark mark.Else) ≡ st.ElsePart)
unfolding on_token is
else_state s true h = (refl, refl)
else_state s false h = absurd (no_none s h)

-- behind an `else`, where these branches stand before it
else_after : (r : Tree) (bs : BranchTrees) → Branched bs r → stands (sort_of r) (on_token (sort_of r) (state_of r) (kind.Mark mark.Else)) ≡ true → (last_shut bs ≡ true) × (state_of (closed r mark.Else) ≡ st.ElsePart)
else_after r bs x h =
    let y = else_state (sort_of r) x.ends (subst (λ q. stands (sort_of r) (on_token (sort_of r) q (kind.Mark mark.Else)) ≡ true) x.state h) in
    (x.shut y.0, then_state r (kind.Mark mark.Else) nowhere st.ElsePart x.state y.1)

-- no `if` stands directly behind an `else` as a statement of its own
no_if_behind : (t : StmtTree) (z : Sort) → z ≡ sort.Item items.BehindElse → Fits (run_stmt z t) → is_if t ≡ false
no_if_behind (If bs) z e f = absurd (no_if (subst (λ s. stands s (on_token s st.Fresh (kind.Mark mark.If)) ≡ true) e (branches_before (begin z) bs f).1.1))
no_if_behind (IfElse bs t) z e f = absurd (no_if (subst (λ s. stands s (on_token s st.Fresh (kind.Mark mark.If)) ≡ true) e (branches_before (begin z) bs f.0.0).1.1))
no_if_behind t z e f = refl

-- ---- `for`

first_formed : (r : Tree) (a : FirstTree) → state_of r ≡ st.ForInit → Fits (first_onto r a) → FormedFirst a × (state_of (first_onto r a) ≡ st.ForSecond)
unfolding on_token on_child opens is outcome_of
first_formed r NoFirst j f = (tt, then_state r (kind.Mark mark.Semicolon) nowhere st.ForSecond j refl)
first_formed r (FirstExpression e) j f =
    let y = operand r st.ForInit e (λ z w g. expr_formed z e w g) j refl f.0 in
    (y.formed, then_state (within r (λ z. run_expr z e)) (kind.Mark mark.Semicolon) nowhere st.ForSecond y.state refl)
first_formed r (FirstDeclaration d) j f =
    let z = opens (sort_of r) (state_of r) in let e : z ≡ sort.ForFirst = ap (opens (sort_of r)) j in
    let y = declaration_formed 1 d (begin z) (fresh_ready z) refl (ap nesting.naming e) (stored_once (begin z)) f.1 in
    (y.formed, ap (λ q. on_child (sort_of r) q (outcome_of (state_of (run_declaration z d)))) j ∙ ap (λ q. on_child (sort_of r) st.ForInit (outcome_of q)) y.state)

-- perhaps an expression, and the token behind it
perhaps_formed : (r : Tree) (c : Option ExprTree) (m : Mark) (q close last : State) → state_of r ≡ q → ((s : Sort) → operands (opens s q) ≡ true) → ((s : Sort) → on_child s q outcome.Value ≡ close) → ((s : Sort) → on_token s q (kind.Mark m) ≡ last) →
    ((s : Sort) → on_token s close (kind.Mark m) ≡ last) → Fits (closed (perhaps r c) m) → FormedPerhaps c × (state_of (closed (perhaps r c) m) ≡ last)
perhaps_formed r None m q close last j a b c d f = (tt, then_state r (kind.Mark m) nowhere last j (c (sort_of r)))
perhaps_formed r (Some e) m q close last j a b c d f =
    let y = operand r q e (λ z w g. expr_formed z e w g) j (a (sort_of r)) f.0 in
    (y.formed, then_state (within r (λ z. run_expr z e)) (kind.Mark m) nowhere last (y.state ∙ b (sort_of r)) (d (sort_of r)))

perhaps_before : (r : Tree) (c : Option ExprTree) → Fits (perhaps r c) → Fits r
perhaps_before r None f = f
perhaps_before r (Some e) f = f.0

-- ---- statements

mutual
  unfolding on_token on_child opens is outcome_of

  pub stmt_formed : (t : StmtTree) (z : Sort) → is_item z ≡ true → Fits (run_stmt z t) → StmtDone t (run_stmt z t)
  stmt_formed (Declare d) z v f =
      let y = declaration_formed 1 d (begin z) (fresh_ready z) refl (item_naming z v) (stored_once (begin z)) f in record { formed = y.formed; stated = inl (ap outcome_of y.state) }
  stmt_formed (Block p ss) z v f =
      let a = mark_at (begin z) mark.OpenBrace p in let y = items_formed ss a st.Block (block_state z v) (λ s. refl) (λ s o. refl) f.0 in
      record { formed = y.0; stated = statement (Block p ss) _ true (then_state (stmts_onto a ss) (kind.Mark mark.CloseBrace) nowhere (st.Statement true) y.1 refl) refl (λ h. refl) }
  stmt_formed (Evaluate e) z v f =
      let x = expr_formed z e (item_values z v) f.0 in let g = follow (run_expr z e) (level e) (kind.Mark mark.Semicolon) 0 (st.Statement true) semicolon_follows x.whole f.1 in
      record { formed = x.formed; stated = statement (Evaluate e) _ true g.1 refl (λ h. refl) }
  stmt_formed Empty z v f = record { formed = tt; stated = statement Empty _ true (empty_state z v) refl (λ h. refl) }
  stmt_formed (If bs) z v f =
      let g = (branches_before (begin z) bs f).1.1 in let y = branches_formed bs (begin z) (if_state z v g) f in record { formed = y.formed; stated = then_done (If bs) _ y.ends y.state refl }
  stmt_formed (IfElse bs t) z v f =
      let g = (branches_before (begin z) bs f.0.0).1.1 in let r = branches_onto (begin z) bs in let y = branches_formed bs (begin z) (if_state z v g) f.0.0 in
      let e = else_after r bs y f.0.1 in let a = closed r mark.Else in
      let x = body a st.ElsePart t (λ b. st.Statement b) (λ s w h. stmt_formed t s w h) e.1 refl (λ o. refl) f in
      record { formed = (y.formed, e.0, no_if_behind t (opens (sort_of a) (state_of a)) (ap (opens (sort_of a)) e.1) f.1, x.plain, x.formed); stated = statement (IfElse bs t) _ x.ends x.state refl x.shut }
  stmt_formed (While p q e t) z v f =
      let r = mark_at (begin z) mark.While p in let y = head r q e st.HeadOpen st.HeadTest st.HeadClose st.Body (while_state z v) (λ s. refl) (λ s. refl) (λ s. refl) (λ s. refl) f.0 in
      let x = body (head_onto r q e) st.Body t (λ b. st.Statement b) (λ s w h. stmt_formed t s w h) y.state refl (λ o. refl) f in
      record { formed = (y.formed, x.plain, x.formed); stated = statement (While p q e t) _ x.ends x.state refl x.shut }
  stmt_formed (Switch p q e t) z v f =
      let r = mark_at (begin z) mark.Switch p in let y = head r q e st.HeadOpen st.HeadTest st.HeadClose st.Body (switch_state z v) (λ s. refl) (λ s. refl) (λ s. refl) (λ s. refl) f.0 in
      let x = body (head_onto r q e) st.Body t (λ b. st.Statement b) (λ s w h. stmt_formed t s w h) y.state refl (λ o. refl) f in
      record { formed = (y.formed, x.plain, x.formed); stated = statement (Switch p q e t) _ x.ends x.state refl x.shut }
  stmt_formed (Do p t w q e) z v f =
      let a = mark_at (begin z) mark.Do p in let x = body a st.DoBody t (λ b. st.DoWhile) (λ s u h. stmt_formed t s u h) (do_state z v) refl (λ o. refl) f.0.0.0.0.0 in
      let b = within a (λ s. run_stmt s t) in let r = mark_at b mark.While w in
      let y = head r q e st.DoOpen st.DoTest st.DoClose st.Semicolon (then_state b (kind.Mark mark.While) w st.DoOpen x.state refl) (λ s. refl) (λ s. refl) (λ s. refl) (λ s. refl) f.0 in
      record { formed = (x.plain, x.formed, y.formed); stated = statement (Do p t w q e) _ true (then_state (head_onto r q e) (kind.Mark mark.Semicolon) nowhere (st.Statement true) y.state refl) refl (λ h. refl) }
  stmt_formed (For p q i c e t) z v f =
      let r = mark_at (mark_at (begin z) mark.For p) mark.OpenParenthesis q in
      let a = first_formed r i (then_state (mark_at (begin z) mark.For p) (kind.Mark mark.OpenParenthesis) q st.ForInit (for_state z v) refl) (perhaps_before (first_onto r i) c (perhaps_before (closed (perhaps (first_onto r i) c) mark.Semicolon) e f.0.0).0) in
      let x = perhaps_formed (first_onto r i) c mark.Semicolon st.ForSecond st.ForSecondClose st.ForThird a.1 (λ s. refl) (λ s. refl) (λ s. refl) (λ s. refl) (perhaps_before (closed (perhaps (first_onto r i) c) mark.Semicolon) e f.0.0) in
      let y = perhaps_formed (closed (perhaps (first_onto r i) c) mark.Semicolon) e mark.CloseParenthesis st.ForThird st.ForClose st.Body x.1 (λ s. refl) (λ s. refl) (λ s. refl) (λ s. refl) f.0 in
      let b = body (closed (perhaps (closed (perhaps (first_onto r i) c) mark.Semicolon) e) mark.CloseParenthesis) st.Body t (λ b. st.Statement b) (λ s w h. stmt_formed t s w h) y.1 refl (λ o. refl) f in
      record { formed = (a.0, x.0, y.0, b.plain, b.formed); stated = statement (For p q i c e t) _ b.ends b.state refl b.shut }
  stmt_formed (Case p e t) z v f =
      let a = mark_at (begin z) mark.Case p in let y = operand a st.CaseValue e (λ s w g. expr_formed s e w g) (case_state z v) refl f.0.0 in
      let b = closed (within a (λ s. run_expr s e)) mark.Colon in
      let x = body b st.Body t (λ b. st.Statement b) (λ s w h. stmt_formed t s w h) (then_state (within a (λ s. run_expr s e)) (kind.Mark mark.Colon) nowhere st.Body y.state refl) refl (λ o. refl) f in
      record { formed = (y.least, y.formed, x.plain, x.formed); stated = statement (Case p e t) _ x.ends x.state refl x.shut }
  stmt_formed (Default p t) z v f =
      let a = mark_at (begin z) mark.Default p in
      let x = body (closed a mark.Colon) st.Body t (λ b. st.Statement b) (λ s w h. stmt_formed t s w h) (then_state a (kind.Mark mark.Colon) nowhere st.Body (default_state z v) refl) refl (λ o. refl) f in
      record { formed = (x.plain, x.formed); stated = statement (Default p t) _ x.ends x.state refl x.shut }
  stmt_formed (Label n p t) z v f =
      let a = behind (begin z) (kind.Word n) p in
      let x = body (closed a mark.Colon) st.Body t (λ b. st.Statement b) (λ s w h. stmt_formed t s w h) (then_state a (kind.Mark mark.Colon) nowhere st.Body (label_state z n v) refl) refl (λ o. refl) f in
      record { formed = (x.plain, x.formed); stated = statement (Label n p t) _ x.ends x.state refl x.shut }
  stmt_formed (Break p) z v f = record { formed = tt; stated = statement (Break p) _ true (then_state (mark_at (begin z) mark.Break p) (kind.Mark mark.Semicolon) nowhere (st.Statement true) (break_state z v) refl) refl (λ h. refl) }
  stmt_formed (Continue p) z v f = record { formed = tt; stated = statement (Continue p) _ true (then_state (mark_at (begin z) mark.Continue p) (kind.Mark mark.Semicolon) nowhere (st.Statement true) (continue_state z v) refl) refl (λ h. refl) }
  stmt_formed (Return p) z v f = record { formed = tt; stated = statement (Return p) _ true (then_state (mark_at (begin z) mark.Return p) (kind.Mark mark.Semicolon) nowhere (st.Statement true) (return_state z v) refl) refl (λ h. refl) }
  stmt_formed (ReturnValue p e) z v f =
      let a = mark_at (begin z) mark.Return p in let y = operand a st.Returning e (λ s w g. expr_formed s e w g) (return_state z v) refl f.0 in
      record { formed = y.formed; stated = statement (ReturnValue p e) _ true (then_state (within a (λ s. run_expr s e)) (kind.Mark mark.Semicolon) nowhere (st.Statement true) y.state refl) refl (λ h. refl) }

  pub items_formed : (ss : StmtTrees) (r : Tree) (q : State) → state_of r ≡ q → ((s : Sort) → opens s q ≡ sort.Item items.Listed) → ((s : Sort) (o : Outcome) → on_child s q o ≡ behind_item q o) → Fits (stmts_onto r ss) → FormedItems ss × (state_of (stmts_onto r ss) ≡ q)
  items_formed no_stmts r q j o c f = (tt, j)
  items_formed (and_stmt ss t) r q j o c f =
      let y = items_formed ss r q j o c f.0 in let a = stmts_onto r ss in let z = opens (sort_of a) (state_of a) in
      let x = stmt_formed t z (ap is_item (ap (opens (sort_of a)) y.1 ∙ o (sort_of a))) f.1 in let u = outcome_of (state_of (run_stmt z t)) in
      let e = ap (λ w. on_child (sort_of a) w u) y.1 ∙ c (sort_of a) u in
      ((y.0, x.formed), e ∙ item_state (sort_of a) q u (subst (λ w. stands (sort_of a) w ≡ true) e f.3))

  branch_formed : (b : BranchTree) (r : Tree) → on_token (sort_of r) (state_of r) (kind.Mark mark.If) ≡ st.IfOpen → Fits (branch_onto r b) → FormedBranch b × ((c : Bool) × (state_of (branch_onto r b) ≡ st.ThenDone c) × (c ≡ true → shut_branch b ≡ true))
  branch_formed (Branch p q e t) r j f =
      let a = mark_at r mark.If p in let y = head a q e st.IfOpen st.IfTest st.IfClose st.ThenPart j (λ s. refl) (λ s. refl) (λ s. refl) (λ s. refl) f.0 in
      let x = body (head_onto a q e) st.ThenPart t (λ b. st.ThenDone b) (λ s w h. stmt_formed t s w h) y.state refl (λ o. refl) f in
      ((y.formed, x.plain, x.formed), (x.ends, x.state, x.shut))

  branches_formed : (bs : BranchTrees) (r : Tree) → on_token (sort_of r) (state_of r) (kind.Mark mark.If) ≡ st.IfOpen → Fits (branches_onto r bs) → Branched bs (branches_onto r bs)
  branches_formed (first_branch b) r j f = let x = branch_formed b r j f in record { formed = x.0; ends = x.1.0; state = x.1.1; shut = x.1.2 }
  branches_formed (and_branch bs b) r j f =
      let a = branches_onto r bs in let g = (branch_before (closed a mark.Else) b f).1.0 in
      let y = branches_formed bs r j g.0 in let e = else_after a bs y g.1 in
      let x = branch_formed b (closed a mark.Else) (ap (λ q. on_token (sort_of a) q (kind.Mark mark.If)) e.1) f in
      record { formed = (y.formed, e.0, x.0); ends = x.1.0; state = x.1.1; shut = x.1.2 }
