-- What loops over lists emit, item by item.
use Rattle.std.proofs.Common.{◌≡◌, ℕ, suc, ◌+◌, ◌<◌, ◌≤◌, List, [], ◌∷◌, ◌++◌, length, get_or, drop, refl, sym, ap, subst, ◌∙◌, arith}
use Rattle.std.specs.Prelude.{Result, ◌≢◌}
use Rattle.std.specs.Result.{IsErr, IsErrAnd}
use Rattle.std.proofs.lemmas.List.{drop_more, drop_all, append_assoc}
use Rattle.l2_runs.specs.Fits.{Layout}
use Rattle.l2_code.specs.Sizes.{instructions}
use Rattle.l2_lower.specs.declared.error.LowerError.{LowerError}
use Rattle.l2_lower.specs.declared.error.LowerError.TheVariants.{NoMemory}
use Rattle.l2_runs.specs.declared.cells.CellType.{CellType}
use Rattle.l2_runs.specs.declared.cells.CellType.TheVariants.{Integer, Pointer}
use Rattle.l2_program.specs.declared.checked.Checked.{Checked}
use Rattle.l2_program.specs.Checked.{CheckedTree, Block, Declare, Static, Initialise, Label, Evaluate, If, IfElse, While, Return, CheckedTrees, none, more, checked_tree, checked_trees}
use Rattle.l2_meaning.specs.Meaning.{declared}
use Rattle.l2_meaning.specs.Scopes.{behind}
use Rattle.l2_code.specs.declared.action.Action.TheVariants.{Dead}
use Rattle.l2_code.specs.Trees as code
use Rattle.l2_lower.specs.Emitting.{only, Part, part}
use Rattle.l2_lower.specs.Statements.{filled, declaration, deads, statement, statements}
use Rattle.l2_lower.specs.Code.{declarations}
use Rattle.l2_lower.specs.Output.{Output, with_nodes, Emits, most_instructions}
use Rattle.l2_lower.proofs.Outputs.{Leaves, leaves_less, leaves_none, leaves_too_much}

-- ---- objects that die

-- what is left of objects to bury
abbrev pub Buries : Output → ℕ → List ℕ → Output → List ℕ → Type 0
Buries old n all now rest = Leaves old (part n (deads all)) now (part n (deads rest)) × (now.next ≡ n)

pub bury_step : (old : Output) (n : ℕ) (all : List ℕ) (now new : Output) (i d : ℕ) → i < length all → new ≡ with_nodes now (only (Dead (get_or all i d))) now.next → Buries old n all now (drop i all) → Buries old n all new (drop (i + 1) all)
bury_step old n all now new i d h e (inv, q) =
    (leaves_less old (part n (deads all)) now new (only (Dead (get_or all i d))) (deads (drop (i + 1) all)) now.next n e (subst (λ xs. Leaves old (part n (deads all)) now (part n (deads xs))) (drop_more all i d h) inv), ap (λ o. o.next) e ∙ q)

pub bury_end : (old : Output) (n : ℕ) (all : List ℕ) (now : Output) (i : ℕ) → length all ≤ i → Buries old n all now (drop i all) → now ≡ with_nodes old (deads all) n
bury_end old n all now i h (inv, q) = leaves_none old (part n (deads all)) now n q (subst (λ xs. Leaves old (part n (deads all)) now (part n (deads xs))) (drop_all i all h) inv)

abbrev pub deads_of : List Checked → code.Nodes
deads_of all = deads (declared (checked_trees all))

one_of : (s : CheckedTree) (rest : CheckedTrees) → deads (declared (more s rest)) ≡ code.join (deads (declared (more s none))) (deads (declared rest))
one_of (Block all) rest = refl
one_of (Declare n) rest = refl
one_of (Static n) rest = refl
one_of (Initialise n e) rest = refl
one_of (Label n) rest = refl
one_of (Evaluate e) rest = refl
one_of (If e s) rest = refl
one_of (IfElse e s t) rest = refl
one_of (While l named e s) rest = refl
one_of (Return e) rest = refl

abbrev pub BuriesAll : Output → ℕ → List Checked → Output → List Checked → Type 0
BuriesAll old n all now rest = Leaves old (part n (deads_of all)) now (part n (deads_of rest)) × (now.next ≡ n)

pub bury_all_step : (old : Output) (n : ℕ) (all : List Checked) (now new : Output) (i : ℕ) (s : Checked) → i < length all → s ≡ get_or all i s → new ≡ with_nodes now (deads (declared (more (checked_tree s) none))) now.next → BuriesAll old n all now (drop i all) → BuriesAll old n all new (drop (i + 1) all)
bury_all_step old n all now new i s h is e (inv, q) = (
  leaves_less old (part n (deads_of all)) now new (deads (declared (more (checked_tree s) none))) (deads_of (drop (i + 1) all)) now.next n e
      (subst (λ xs. Leaves old (part n (deads_of all)) now (part n xs)) (ap deads_of (drop_more all i s h) ∙ ap (λ x. deads_of (x ∷ drop (i + 1) all)) (sym is) ∙ one_of (checked_tree s) (checked_trees (drop (i + 1) all))) inv),
  ap (λ o. o.next) e ∙ q,
)

pub bury_all_end : (old : Output) (n : ℕ) (all : List Checked) (now : Output) (i : ℕ) → length all ≤ i → BuriesAll old n all now (drop i all) → now ≡ with_nodes old (deads_of all) n
bury_all_end old n all now i h (inv, q) = leaves_none old (part n (deads_of all)) now n q (subst (λ xs. Leaves old (part n (deads_of all)) now (part n (deads_of xs))) (drop_all i all h) inv)

-- ---- cells that are filled

first_filled : (n o f : ℕ) (t : CellType) (rest : List CellType) → filled n o f (t ∷ rest) ≡ part (filled (filled n o f (t ∷ [])).next o (suc f) rest).next (code.join (filled n o f (t ∷ [])).nodes (filled (filled n o f (t ∷ [])).next o (suc f) rest).nodes)
first_filled n o f (Integer ty) rest = refl
first_filled n o f Pointer rest = refl

abbrev pub Fills : Output → ℕ → List CellType → Output → ℕ → List CellType → Type 0
Fills old o types now f rest = Leaves old (filled old.next o 0 types) now (filled now.next o f rest)

pub fill_step : (old : Output) (o : ℕ) (types : List CellType) (now new : Output) (i : ℕ) (t : CellType) → i < length types → t ≡ get_or types i t → new ≡ with_nodes now (filled now.next o i (t ∷ [])).nodes (filled now.next o i (t ∷ [])).next → Fills old o types now i (drop i types) → Fills old o types new (i + 1) (drop (i + 1) types)
fill_step old o types now new i t h is e inv =
    let first = filled now.next o i (t ∷ []) in
    let rest = drop (i + 1) types in
    let next : new.next ≡ first.next = ap (λ x. x.next) e in
    let i1 : suc i ≡ i + 1 = omega arith in
    let whole = filled old.next o 0 types in
    let later = filled first.next o (suc i) rest in
    let left = subst (λ xs. Leaves old whole now (filled now.next o i xs)) (drop_more types i t h ∙ ap (λ x. x ∷ rest) (sym is)) inv in
    subst (λ j. Leaves old whole new (filled new.next o j rest)) i1
    (subst (λ k. Leaves old whole new (filled k o (suc i) rest)) (sym next)
    (leaves_less old whole now new first.nodes later.nodes first.next later.next e (subst (λ p. Leaves old whole now p) (first_filled now.next o i t rest) left)))

pub fill_end : (old : Output) (o : ℕ) (types : List CellType) (now : Output) (i : ℕ) → length types ≤ i → Fills old o types now i (drop i types) → now ≡ with_nodes old (filled old.next o 0 types).nodes (filled old.next o 0 types).next
fill_end old o types now i h inv = leaves_none old (filled old.next o 0 types) now now.next refl (subst (λ xs. Leaves old (filled old.next o 0 types) now (filled now.next o i xs)) (drop_all i types h) inv)

-- ---- statements

abbrev pub statements_of : Layout → List ℕ → ℕ → List Checked → Part
statements_of cells scope n all = statements cells scope n (checked_trees all)

abbrev pub LeavesItems : Layout → Output → Part → Output → List ℕ → List Checked → Type 0
LeavesItems cells old whole now scope rest = Leaves old whole now (statements_of cells scope now.next rest)

declares : (scope : List ℕ) (s : CheckedTree) (rest : CheckedTrees) → behind scope s ++ declared rest ≡ scope ++ declared (more s rest)
declares scope (Block all) rest = refl
declares scope (Declare n) rest = append_assoc scope (n ∷ []) (declared rest)
declares scope (Static n) rest = refl
declares scope (Initialise n e) rest = append_assoc scope (n ∷ []) (declared rest)
declares scope (Label n) rest = refl
declares scope (Evaluate e) rest = refl
declares scope (If e s) rest = refl
declares scope (IfElse e s t) rest = refl
declares scope (While l named e s) rest = refl
declares scope (Return e) rest = refl

pub first_item : (F : CheckedTrees → Type 0) (all : List Checked) (i : ℕ) (s : Checked) → i < length all → s ≡ get_or all i s → F (checked_trees (drop i all)) → F (more (checked_tree s) (checked_trees (drop (i + 1) all)))
first_item F all i s h is p = subst F (ap checked_trees (drop_more all i s h) ∙ ap (λ x. more (checked_tree x) (checked_trees (drop (i + 1) all))) (sym is)) p

pub items_step : (cells : Layout) (old : Output) (whole : Part) (now new : Output) (scope scope' total : List ℕ) (all : List Checked) (i : ℕ) (s : Checked) → i < length all → s ≡ get_or all i s →
    new ≡ with_nodes now (statement cells scope now.next (checked_tree s)).nodes (statement cells scope now.next (checked_tree s)).next → scope' ≡ behind scope (checked_tree s) →
    LeavesItems cells old whole now scope (drop i all) × (scope ++ declared (checked_trees (drop i all)) ≡ total) → LeavesItems cells old whole new scope' (drop (i + 1) all) × (scope' ++ declared (checked_trees (drop (i + 1) all)) ≡ total)
items_step cells old whole now new scope scope' total all i s h is e b (inv, q) = (left, declares_so) where
  left : Leaves old whole new (statements cells scope' new.next (checked_trees (drop (i + 1) all)))
  left =
      let rest = checked_trees (drop (i + 1) all) in
      let first = statement cells scope now.next (checked_tree s) in
      let later = statements cells (behind scope (checked_tree s)) first.next rest in
      subst (λ z. Leaves old whole new (statements cells z new.next rest)) (sym b)
      (subst (λ k. Leaves old whole new (statements cells (behind scope (checked_tree s)) k rest)) (sym (ap (λ o. o.next) e))
      (leaves_less old whole now new first.nodes later.nodes first.next later.next e (first_item (λ ts. Leaves old whole now (statements cells scope now.next ts)) all i s h is inv)))

  declares_so : scope' ++ declared (checked_trees (drop (i + 1) all)) ≡ total
  declares_so = ap (λ z. z ++ declared (checked_trees (drop (i + 1) all))) b ∙ declares scope (checked_tree s) (checked_trees (drop (i + 1) all)) ∙ first_item (λ ts. scope ++ declared ts ≡ total) all i s h is q

pub items_end : (cells : Layout) (old : Output) (whole : Part) (now : Output) (scope : List ℕ) (all : List Checked) (i : ℕ) → length all ≤ i → LeavesItems cells old whole now scope (drop i all) → now ≡ with_nodes old whole.nodes whole.next
items_end cells old whole now scope all i h inv = leaves_none old whole now now.next refl (subst (λ xs. LeavesItems cells old whole now scope xs) (drop_all i all h) inv)

pub items_fail : {B : Type 0} (Q : B → Type 0) (cells : Layout) (old : Output) (whole : Part) (now new : Output) (scope : List ℕ) (all : List Checked) (i : ℕ) (s : Checked) (f : LowerError) (r : Result B LowerError) → i < length all → s ≡ get_or all i s → IsErr r → IsErrAnd r (λ g. g ≡ f) →
    LeavesItems cells old whole now scope (drop i all) → (f ≢ NoMemory → most_instructions < now.count + instructions (statement cells scope now.next (checked_tree s)).nodes) → Emits whole.nodes whole.next Q old new r
items_fail Q cells old whole now new scope all i s f r h is x y inv m =
    let first = statement cells scope now.next (checked_tree s) in
    let later = statements cells (behind scope (checked_tree s)) first.next (checked_trees (drop (i + 1) all)) in
    leaves_too_much Q old whole now new first.nodes later.nodes later.next f r x y (first_item (λ ts. Leaves old whole now (statements cells scope now.next ts)) all i s h is inv) m

-- ---- parameters

abbrev pub Declares : Layout → Output → Part → Output → List ℕ → Type 0
Declares cells old whole now rest = Leaves old whole now (declarations cells now.next rest)

declare_first : (cells : Layout) (n : ℕ) (all : List ℕ) (i d : ℕ) → i < length all → declarations cells n (drop i all) ≡ declarations cells n (get_or all i d ∷ drop (i + 1) all)
declare_first cells n all i d h = ap (declarations cells n) (drop_more all i d h)

pub declare_step : (cells : Layout) (old : Output) (whole : Part) (now new : Output) (all : List ℕ) (i d : ℕ) → i < length all → new ≡ with_nodes now (declaration cells now.next (get_or all i d)).nodes (declaration cells now.next (get_or all i d)).next →
    Declares cells old whole now (drop i all) → Declares cells old whole new (drop (i + 1) all)
declare_step cells old whole now new all i d h e inv =
    let rest = drop (i + 1) all in
    let first = declaration cells now.next (get_or all i d) in
    let later = declarations cells first.next rest in
    subst (λ k. Leaves old whole new (declarations cells k rest)) (sym (ap (λ o. o.next) e))
    (leaves_less old whole now new first.nodes later.nodes first.next later.next e (subst (λ p. Leaves old whole now p) (declare_first cells now.next all i d h) inv))

pub declare_fails : {B : Type 0} (Q : B → Type 0) (cells : Layout) (old : Output) (whole : Part) (now new : Output) (all : List ℕ) (i d : ℕ) (f : LowerError) (r : Result B LowerError) → i < length all → IsErr r → IsErrAnd r (λ g. g ≡ f) →
    Declares cells old whole now (drop i all) → (f ≢ NoMemory → most_instructions < now.count + instructions (declaration cells now.next (get_or all i d)).nodes) → Emits whole.nodes whole.next Q old new r
declare_fails Q cells old whole now new all i d f r h x y inv m =
    let first = declaration cells now.next (get_or all i d) in
    let later = declarations cells first.next (drop (i + 1) all) in
    leaves_too_much Q old whole now new first.nodes later.nodes later.next f r x y (subst (λ p. Leaves old whole now p) (declare_first cells now.next all i d h) inv) m

pub declare_end : (cells : Layout) (old : Output) (whole : Part) (now : Output) (all : List ℕ) (i : ℕ) → length all ≤ i → Declares cells old whole now (drop i all) → now ≡ with_nodes old whole.nodes whole.next
declare_end cells old whole now all i h inv = leaves_none old whole now now.next refl (subst (λ xs. Declares cells old whole now xs) (drop_all i all h) inv)
