-- The code of typed statements is typed.
use Rattle.std.proofs.Common.{◌≡◌, ℕ, zero, suc, ◌<◌, ◌≤◌, List, [], ◌∷◌, ◌++◌, length, refl, sym, subst, ◌∙◌, arith}
use Rattle.l2_runs.specs.declared.cells.CellType.{CellType}
use Rattle.l2_runs.specs.declared.cells.CellType.TheVariants.{Integer, Pointer}
use Rattle.l2_runs.specs.declared.cells.CellValue.TheVariants.{Invalid}
use Rattle.l2_runs.specs.Fits.{Layout}
use Rattle.l2_runs.proofs.Stores.{from, from_next}
use Rattle.l2_program.specs.Checked as tree
use Rattle.l2_program.specs.Checked.{TypedTree, CheckedTree, CheckedTrees}
use Rattle.l2_program.specs.Types.{type_of}
use Rattle.l2_program.specs.Names.{declared_in, all_declared_in, loops_in, all_loops_in}
use Rattle.l2_meaning.specs.Meaning.{declared}
use Rattle.l2_meaning.specs.Scopes as scopes
use Rattle.l2_meaning.specs.Lawful.{Listing, IsTyped, IsInteger, HasChecks, StatementHasChecks, HaveChecks, IsTypedStatement, AreTyped}
use Rattle.l2_code.specs.declared.action.Action.TheVariants as action
use Rattle.l2_code.specs.declared.action.Operand.{Operand}
use Rattle.l2_code.specs.declared.action.Operand.TheVariants.{Constant, Temp}
use Rattle.l2_code.specs.Trees.{Do, Nodes, none, more, join}
use Rattle.l2_code.specs.WellFormed.{Scope, IsNumber, All, IsOperand, value_of}
use Rattle.l2_code.specs.WellFormed as code
use Rattle.l2_lower.specs.Emitting.{only, cell, Part, part, expression, condition}
use Rattle.l2_lower.specs.Statements.{followed, guard, as_block, as_loop, first_side, filled, declaration, initialised, deads, statement, statements}
use Rattle.l2_lower.proofs.Typing.{all_behind, IsFrom, from_grows, join_typed, join_jumps, join_numbers, join_behind, Sound, OperandIs, join_sound, none_sound, only_sound, result_sound, result_known}
use Rattle.l2_lower.proofs.ExpressionTypes.{names, expression_given, condition_tests}

pub all_left : (P : ℕ → Type 0) (xs ys : List ℕ) → All P (xs ++ ys) → All P xs
all_left P [] ys h = tt
all_left P (x ∷ xs) ys (p, q) = (p, all_left P xs ys q)

pub all_right : (P : ℕ → Type 0) (xs ys : List ℕ) → All P (xs ++ ys) → All P ys
all_right P [] ys h = h
all_right P (x ∷ xs) ys (p, q) = all_right P xs ys q

pub all_both : (P : ℕ → Type 0) (xs ys : List ℕ) → All P xs → All P ys → All P (xs ++ ys)
all_both P [] ys h k = k
all_both P (x ∷ xs) ys (p, q) k = (p, all_both P xs ys q k)

from_length : {A : Type 0} (f : ℕ) (xs : List A) (t : A) (ts : List A) → from f xs ≡ t ∷ ts → f < length xs
from_length zero [] t ts e = cc
from_length zero (x ∷ xs) t ts e = omega arith
from_length (suc f) [] t ts e = cc
from_length (suc f) (x ∷ xs) t ts e = let h = from_length f xs t ts e in omega arith

module _ (cells : Layout) (pointed : ℕ → List CellType) (g : Listing) (loops : ℕ) (small : (o : ℕ) → length (cells o) ≤ 65536) where
  abbrev here : code.Names
  here = names cells pointed g loops small

  abbrev pub HasCells : ℕ → Type 0
  HasCells o = 0 < length (cells o)

  -- a part is sound, from this temporary on
  abbrev pub PartIs : ℕ → Scope → Part → Type 0
  PartIs n scope p = Sound here n scope p.nodes p.next

  deads_sound : (n : ℕ) (scope : Scope) (os : List ℕ) → All HasCells os → Sound here n scope (deads os) n
  deads_sound n scope [] h = none_sound here n scope
  deads_sound n scope (o ∷ os) (p, q) = join_sound here n n n scope (only (action.Dead o)) (deads os) (only_sound here n scope (action.Dead o) refl refl p (λ j. tt)) (deads_sound n scope os q)

  -- ---- declarations

  cell_there : (o f : ℕ) (t : CellType) (types : List CellType) (scope : Scope) → from f (cells o) ≡ t ∷ types → IsOperand cells scope Pointer (cell o f)
  cell_there o f t types scope e = let l = from_length f (cells o) t types e in let s = small o in (omega arith, omega arith)

  filled_sound : (n o f : ℕ) (types : List CellType) (scope : Scope) → from f (cells o) ≡ types → PartIs n scope (filled n o f types)
  filled_sound n o f [] scope e = none_sound here n scope
  filled_sound n o f (Integer ty ∷ types) scope e =
      let choice = action.Choice n ty in
      let write = action.Write (Integer ty) (cell o f) (Temp n) in
      let known = code.with_known scope n (value_of (Integer ty)) in
      let rest = filled (suc n) o (suc f) types in
      join_sound here n (suc n) rest.next scope (only choice) (more (Do write) rest.nodes) (result_sound here n scope choice (value_of (Integer ty)) refl refl tt (λ j. tt))
      (join_sound here (suc n) (suc n) rest.next known (only write) rest.nodes
      (only_sound here (suc n) known write refl refl (cell_there o f (Integer ty) types known e, subst (λ k. code.IsOfType (Integer ty) k) (sym (result_known here n scope choice (value_of (Integer ty)) refl)) refl) (λ j. tt))
      (filled_sound (suc n) o (suc f) types known (from_next (cells o) f (Integer ty) types e)))
  filled_sound n o f (Pointer ∷ types) scope e =
      let write = action.Write Pointer (cell o f) (Constant Invalid) in
      let rest = filled n o (suc f) types in
      join_sound here n n rest.next scope (only write) rest.nodes (only_sound here n scope write refl refl (cell_there o f Pointer types scope e, tt) (λ j. tt)) (filled_sound n o (suc f) types scope (from_next (cells o) f Pointer types e))

  pub declaration_sound : (n o : ℕ) (scope : Scope) → HasCells o → PartIs n scope (declaration cells n o)
  declaration_sound n o scope h =
      join_sound here n n (filled n o 0 (cells o)).next scope (only (action.Live o)) (filled n o 0 (cells o)).nodes (only_sound here n scope (action.Live o) refl refl h (λ j. tt)) (filled_sound n o 0 (cells o) scope refl)

  initialised_sound : (n o : ℕ) (types : List CellType) (a : Operand) (scope : Scope) → cells o ≡ types → OperandIs here scope types a → Sound here n scope (initialised o types a) n
  initialised_sound n o [] a scope e h = none_sound here n scope
  initialised_sound n o (ty ∷ rest) a scope e h = only_sound here n scope (action.Write ty (cell o 0) a) refl refl (cell_there o 0 ty rest scope e, h) (λ j. tt)

  pub ends_sound : (n : ℕ) (scope : Scope) (os : List ℕ) → All HasCells os → Sound here n scope (join (deads os) (only action.End)) n
  ends_sound n scope os h = join_sound here n n n scope (deads os) (only action.End) (deads_sound n scope os h) (only_sound here n (all_behind scope (deads os)) action.End refl refl tt (λ j. tt))

  -- ---- statements

  declared_too : (P : ℕ → Type 0) (all : CheckedTrees) → All P (all_declared_in all) → All P (declared all)
  declared_too P tree.none h = tt
  declared_too P (tree.more (tree.Block x) rest) h = declared_too P rest (all_right P (all_declared_in x) (all_declared_in rest) h)
  declared_too P (tree.more (tree.Declare n) rest) (p, q) = (p, declared_too P rest q)
  declared_too P (tree.more (tree.Static n) rest) (p, q) = declared_too P rest q
  declared_too P (tree.more (tree.Initialise n e) rest) (p, q) = (p, declared_too P rest q)
  declared_too P (tree.more (tree.Label n) rest) h = declared_too P rest h
  declared_too P (tree.more (tree.Evaluate e) rest) h = declared_too P rest h
  declared_too P (tree.more (tree.If e s) rest) h = declared_too P rest (all_right P (declared_in s) (all_declared_in rest) h)
  declared_too P (tree.more (tree.IfElse e s t) rest) h = declared_too P rest (all_right P (declared_in s ++ declared_in t) (all_declared_in rest) h)
  declared_too P (tree.more (tree.While l named e s) rest) h = declared_too P rest (all_right P (declared_in s) (all_declared_in rest) h)
  declared_too P (tree.more (tree.Return e) rest) h = declared_too P rest h

  behind_too : (P : ℕ → Type 0) (scope : List ℕ) (s : CheckedTree) → All P scope → All P (declared_in s) → All P (scopes.behind scope s)
  behind_too P scope (tree.Block x) h k = h
  behind_too P scope (tree.Declare n) h k = all_both P scope (n ∷ []) h k
  behind_too P scope (tree.Static n) h k = h
  behind_too P scope (tree.Initialise n e) h k = all_both P scope (n ∷ []) h k
  behind_too P scope (tree.Label n) h k = h
  behind_too P scope (tree.Evaluate e) h k = h
  behind_too P scope (tree.If e s) h k = h
  behind_too P scope (tree.IfElse e s t) h k = h
  behind_too P scope (tree.While l named e s) h k = h
  behind_too P scope (tree.Return e) h k = h

  -- items that are typed, compute the temporaries from n up to m, and jump in order where at least d blocks stand round them
  pub record FitsIn (d n : ℕ) (scope : Scope) (xs : Nodes) (m : ℕ) : Type 0 where
    pub typed : code.AreTyped here scope xs
    pub jumps : (k : ℕ) → d ≤ k → code.HaveJumps k xs
    pub numbers : IsFrom n (code.results xs) m
    pub stay : (i : ℕ) → i < n → all_behind scope xs i ≡ scope i

  pub fits_of : (d n m : ℕ) (scope : Scope) (xs : Nodes) → Sound here n scope xs m → FitsIn d n scope xs m
  fits_of d n m scope xs h = record { typed = h.typed; jumps = λ k l. h.jumps k; numbers = h.numbers; stay = h.stay }

  deeper : (d n m : ℕ) (scope : Scope) (xs : Nodes) → FitsIn d n scope xs m → FitsIn (suc d) n scope xs m
  deeper d n m scope xs h = record { typed = h.typed; jumps = λ k l. h.jumps k (omega arith); numbers = h.numbers; stay = h.stay }

  pub join_fits : (d n m k : ℕ) (scope : Scope) (xs ys : Nodes) → FitsIn d n scope xs m → FitsIn d m (all_behind scope xs) ys k → FitsIn d n scope (join xs ys) k
  join_fits d n m k scope xs ys h l = record {
    typed = join_typed here scope xs ys h.typed l.typed;
    jumps = λ j p. join_jumps here j xs ys (h.jumps j p) (l.jumps j p);
    numbers = join_numbers here n m k xs ys h.numbers l.numbers;
    stay = λ i p. (λ j. join_behind here scope xs ys j i) ∙ l.stay i (let g = from_grows n m (code.results xs) h.numbers in omega arith) ∙ h.stay i p;
  }

  more_none : (n m : ℕ) (xs : List ℕ) → IsFrom n xs m → IsFrom n (xs ++ []) m
  more_none n m [] e = e
  more_none n m (x ∷ xs) (p, q) = (p, more_none (suc n) m xs q)

  block_fits : (d n : ℕ) (scope : Scope) (p : Part) → FitsIn (suc d) n scope p.nodes p.next → FitsIn d n scope (as_block p).nodes (as_block p).next
  block_fits d n scope p h = record {
    typed = (h.typed, tt);
    jumps = λ k l. (h.jumps (suc k) (omega arith), tt);
    numbers = more_none n p.next (code.results p.nodes) h.numbers;
    stay = λ i l. refl;
  }

  loop_fits : (d n : ℕ) (scope : Scope) (l : ℕ) (p : Part) → IsNumber loops l → FitsIn d n scope p.nodes p.next → FitsIn d n scope (as_loop l p).nodes (as_loop l p).next
  loop_fits d n scope l p c h = record {
    typed = ((c, h.typed), tt);
    jumps = λ k j. (h.jumps k j, tt);
    numbers = more_none n p.next (code.results p.nodes) h.numbers;
    stay = λ i l. refl;
  }

  unless_fits : (n : ℕ) (scope : Scope) (a : Operand) → code.IsTruth scope a → FitsIn 1 n scope (only (action.Unless a 0)) n
  unless_fits n scope a h = record { typed = (h, tt); jumps = λ k l. (l, tt); numbers = refl; stay = λ i p. refl }

  goto_fits : (n : ℕ) (scope : Scope) → FitsIn 2 n scope (only (action.Goto 1)) n
  goto_fits n scope = record { typed = (tt, tt); jumps = λ k l. (l, tt); numbers = refl; stay = λ i p. refl }

  guard_fits : (e : TypedTree) (f : ℕ → Part) (n : ℕ) (known : Scope) → IsTyped cells e → IsInteger (type_of e) → HasChecks g e → ((later : Scope) → FitsIn 0 (condition n e).next later (f (condition n e).next).nodes (f (condition n e).next).next) →
      FitsIn 1 n known (guard (condition n e) f).nodes (guard (condition n e) f).next
  guard_fits e f n known h is c next =
      let x = condition n e in
      let p = f x.next in
      let t = condition_tests cells pointed g loops small e h is c n known in
      let later = all_behind known x.nodes in
      join_fits 1 n x.next p.next known x.nodes (more (Do (action.Unless x.operand 0)) p.nodes) (fits_of 1 n x.next known x.nodes t.sound)
      (join_fits 1 x.next x.next p.next later (only (action.Unless x.operand 0)) p.nodes (unless_fits x.next later x.operand t.truth) (deeper 0 x.next p.next later p.nodes (next later)))

  module _ (result : List CellType) where
    abbrev pub Fine : Part → ℕ → Scope → Type 0
    Fine p n known = FitsIn 0 n known p.nodes p.next

    mutual
      pub statement_fits : (s : CheckedTree) → IsTypedStatement cells result s → All HasCells (declared_in s) → All (IsNumber loops) (loops_in s) → StatementHasChecks g s → (scope : List ℕ) → All HasCells scope → (n : ℕ) (known : Scope) → Fine (statement cells scope n s) n known
      statement_fits (tree.Block all) h o l c scope v n known =
          let x = statements cells scope n all in
          join_fits 0 n x.next x.next known x.nodes (deads (declared all)) (statements_fit all h o l c scope v n known) (fits_of 0 x.next x.next _ (deads (declared all)) (deads_sound x.next (all_behind known x.nodes) (declared all) (declared_too HasCells all o)))
      statement_fits (tree.Declare n) h (o, z) l c scope v k known = fits_of 0 k (declaration cells k n).next known (declaration cells k n).nodes (declaration_sound k n known o)
      statement_fits (tree.Static n) h o l c scope v k known = fits_of 0 k k known none (none_sound here k known)
      statement_fits (tree.Initialise o e) (h, is) (q, z) l c scope v n known =
          let x = expression n e in
          let w = expression_given cells pointed g loops small e h c n known in
          let last = initialised o (type_of e) x.operand in
          fits_of 0 n x.next known (more (Do (action.Live o)) (join x.nodes last))
          (join_sound here n n x.next known (only (action.Live o)) (join x.nodes last) (only_sound here n known (action.Live o) refl refl q (λ j. tt))
          (join_sound here n x.next x.next known x.nodes last w.sound (initialised_sound x.next o (type_of e) x.operand (all_behind known x.nodes) is w.operand)))
      statement_fits (tree.Label m) h o l c scope v k known = fits_of 0 k k known none (none_sound here k known)
      statement_fits (tree.Evaluate e) h o l c scope v n known =
          let x = expression n e in
          let w = expression_given cells pointed g loops small e h c n known in
          fits_of 0 n x.next known (join x.nodes none) (join_sound here n x.next x.next known x.nodes none w.sound (none_sound here x.next (all_behind known x.nodes)))
      statement_fits (tree.If e s) (h, is, k) o l (c, d) scope v n known =
          block_fits 0 n known (guard (condition n e) (λ m. statement cells scope m s)) (guard_fits e (λ m. statement cells scope m s) n known h is c (λ later. statement_fits s k o l d scope v (condition n e).next later))
      statement_fits (tree.IfElse e s t) (h, is, k, k') o l (c, d, d') scope v n known =
          let x = guard (condition n e) (λ m. statement cells scope m s) in
          let first = first_side x in
          let second = statement cells scope x.next t in
          block_fits 0 n known (followed first (λ m. statement cells scope m t))
          (join_fits 1 n x.next second.next known first.nodes second.nodes
          (block_fits 1 n known (followed x (λ j. part j (only (action.Goto 1))))
          (join_fits 2 n x.next x.next known x.nodes (only (action.Goto 1))
          (deeper 1 n x.next known x.nodes (guard_fits e (λ m. statement cells scope m s) n known h is c (λ later. statement_fits s k (all_left HasCells (declared_in s) (declared_in t) o) (all_left (IsNumber loops) (loops_in s) (loops_in t) l) d scope v (condition n e).next later)))
          (goto_fits x.next (all_behind known x.nodes))))
          (deeper 0 x.next second.next known second.nodes (statement_fits t k' (all_right HasCells (declared_in s) (declared_in t) o) (all_right (IsNumber loops) (loops_in s) (loops_in t) l) d' scope v x.next known)))
      statement_fits (tree.While m named e s) (h, is, k) o (l, ls) (c, d) scope v n known =
          let x = guard (condition n e) (λ j. statement cells scope j s) in
          block_fits 0 n known (as_loop m x) (loop_fits 1 n known m x l (guard_fits e (λ j. statement cells scope j s) n known h is c (λ later. statement_fits s k o ls d scope v (condition n e).next later)))
      statement_fits (tree.Return e) (h, is) o l c scope v n known =
          let x = expression n e in
          let w = expression_given cells pointed g loops small e h c n known in
          fits_of 0 n x.next known (join x.nodes (join (deads scope) (only action.End))) (join_sound here n x.next x.next known x.nodes (join (deads scope) (only action.End)) w.sound (ends_sound x.next (all_behind known x.nodes) scope v))

      pub statements_fit : (all : CheckedTrees) → AreTyped cells result all → All HasCells (all_declared_in all) → All (IsNumber loops) (all_loops_in all) → HaveChecks g all → (scope : List ℕ) → All HasCells scope → (n : ℕ) (known : Scope) → Fine (statements cells scope n all) n known
      statements_fit tree.none h o l c scope v n known = fits_of 0 n n known none (none_sound here n known)
      statements_fit (tree.more s rest) (h, k) o l (c, d) scope v n known =
          let x = statement cells scope n s in
          let later = scopes.behind scope s in
          let y = statements cells later x.next rest in
          join_fits 0 n x.next y.next known x.nodes y.nodes (statement_fits s h (all_left HasCells (declared_in s) (all_declared_in rest) o) (all_left (IsNumber loops) (loops_in s) (all_loops_in rest) l) c scope v n known)
          (statements_fit rest k (all_right HasCells (declared_in s) (all_declared_in rest) o) (all_right (IsNumber loops) (loops_in s) (all_loops_in rest) l) d later (behind_too HasCells scope s v (all_left HasCells (declared_in s) (all_declared_in rest) o)) x.next (all_behind known x.nodes))
