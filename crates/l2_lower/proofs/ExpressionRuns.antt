-- The code of an expression does what the expression does.
use Rattle.std.proofs.Common.{◌≡◌, ℕ, zero, suc, ◌≤◌, ℤ, pos, Bool, true, false, not, List, [], ◌∷◌, Option, Some, None, refl, sym, ap, subst, ◌∙◌, arith}
use Rattle.std.specs.Prelude.{◌==◌, ◌||◌, ◌&&◌, if◌then◌else◌, slice_get}
use Rattle.std.specs.Ordering.{int_eq}
use Rattle.l2_bits.specs.declared.types.Ty.{Ty}
use Rattle.l2_bits.specs.Types.{int_type}
use Rattle.l2_bits.specs.Values.{IsValue, wrap}
use Rattle.l2_bits.specs.declared.operators.Op.{Op}
use Rattle.l2_bits.specs.declared.operators.Op.TheVariants as arithmetic
use Rattle.l2_bits.specs.Operators.{overflows, convert}
use Rattle.l2_bits.proofs.Wraps.{wrap_value}
use Rattle.l2_bits.proofs.OperatorValues.{convert_value}
use Rattle.l2_runs.specs.declared.cells.CellType.{CellType}
use Rattle.l2_runs.specs.declared.cells.CellType.TheVariants.{Integer, Pointer}
use Rattle.l2_runs.specs.declared.cells.CellValue.{CellValue}
use Rattle.l2_runs.specs.declared.cells.CellValue.TheVariants.{Number, Null, Invalid, At}
use Rattle.l2_runs.specs.declared.outcome.Outcome.{Outcome}
use Rattle.l2_runs.specs.declared.outcome.Outcome.TheVariants.{Broken, Stopped, OutOfChoices}
use Rattle.l2_runs.specs.declared.operators.UnaryOperator.{UnaryOperator}
use Rattle.l2_runs.specs.declared.operators.UnaryOperator.TheVariants.{Negate, Not}
use Rattle.l2_runs.specs.declared.operators.BinaryOperator.{BinaryOperator}
use Rattle.l2_runs.specs.declared.operators.BinaryOperator.TheVariants as binary_operator
use Rattle.l2_runs.specs.Operators.{truth, unary, binary, unary_overflows, binary_overflows}
use Rattle.l2_runs.specs.Fits.{Layout, CellFits, FitsAt, StoreFits}
use Rattle.l2_runs.proofs.Stores.{fits_read, fits_cell}
use Rattle.l2_runs.specs.Runs.{State, End, Over, Result, Go, Halt, Run, on_go, and_then, done, demand, check, choose, read, write}
use Rattle.l2_runs.specs.Loops.{Limit, Tests}
use Rattle.l2_runs.specs.Store.{Address, cell_at}
use Rattle.l2_program.specs.Checked as tree
use Rattle.l2_program.specs.Checked.{TypedTree}
use Rattle.l2_program.specs.Types.{type_of, is_computing, is_arithmetic, given}
use Rattle.l2_meaning.specs.Meaning.{Value, Calls, Setting, number, number_of, holds, value, put, first_of}
use Rattle.l2_meaning.specs.Lawful.{IsTyped, IsInteger}
use Rattle.l2_meaning.proofs.Numbers.{unary_value, binary_value}
use Rattle.l2_code.specs.declared.action.Operator.TheVariants as operator
use Rattle.l2_code.specs.declared.action.Operand.{Operand}
use Rattle.l2_code.specs.declared.action.Operand.TheVariants.{Constant, Temp}
use Rattle.l2_code.specs.declared.action.Test.TheVariants as test
use Rattle.l2_code.specs.declared.action.Computation.TheVariants.{Numbers, Convert, Passes}
use Rattle.l2_code.specs.declared.action.Action.TheVariants.{Check, Choice, Read, Write}
use Rattle.l2_code.specs.Trees.{Do, Nodes, none, more, join}
use Rattle.l2_code.specs.Values.{Temps, with_temp, operand_value, is_true, same_type, is_type, cell_of}
use Rattle.l2_code.specs.Machine.{Way, On, Out, follow, node, nodes}
use Rattle.l2_code.specs.Machine as machine
use Rattle.l2_code.proofs.Items.{join-join}
use Rattle.l2_lower.specs.Emitting.{only, cell, Emitted, behind, nothing, result, checked, computed, zero_number, overflow_check, after, unary_code, binary_code, conversion, truth_code, expression, condition}
use Rattle.l2_lower.proofs.Converted.{same_types, same_type_self, convert_same}
use Rattle.l2_lower.proofs.Matches.{AnyTwo, Match, Matches, then_matches, weaker_matches, done_matches, demand_match, choose_matches, told_matches}
use Rattle.l2_lower.proofs.Joins.{join_is, join_matches, only_is, then_done}
use Rattle.l2_lower.proofs.Computing.{with_temp_same, with_temp_other, Stay, IsBelow, below_more, operand_stays, stay_less, stay_again, Computes, nothing_computes, numbers_compute, convert_computes, overflow_computes, truth_is}

-- an operand's value is what an expression of these types gives; none stands for `void`
abbrev pub Holds : Layout → List CellType → CellValue → Value → Type 0
Holds cells [] c v = v ≡ []
Holds cells (ty ∷ []) c v = (v ≡ c ∷ []) × CellFits cells ty c
Holds cells (ty ∷ u ∷ rest) c v = ⊥

-- the operand holds the value, where it stands behind the temporaries below n, and the next one is k
pub record IsHeld (cells : Layout) (types : List CellType) (a : Operand) (k n : ℕ) (t u : Temps) (v : Value) : Type 0 where
  pub holds : Holds cells types (operand_value u a) v
  pub stay : Stay n t u
  pub grows : n ≤ k
  pub below : IsBelow k a

-- the code of an expression leads on to temporaries where its operand holds the value
abbrev pub IsGiven : Layout → List CellType → Operand → ℕ → ℕ → Temps → Value → Way → Type 0
IsGiven cells types a k n t v (On u) = IsHeld cells types a k n t u v
IsGiven cells types a k n t v (Out j) = ⊥

pub given_later : (cells : Layout) (types : List CellType) (a : Operand) (k n m : ℕ) (t u : Temps) → n ≤ m → Stay n t u → (v : Value) (w : Way) → IsGiven cells types a k m u v w → IsGiven cells types a k n t v w
given_later cells types a k n m t u h stay v (On z) l = record {
  holds = l.holds;
  stay = stay_again n t u z stay (stay_less n m u z h l.stay);
  grows = let p = l.grows in omega arith;
  below = l.below;
}
given_later cells types a k n m t u h stay v (Out j) l = absurd l

pub number_in : (cells : Layout) (ty : Ty) (c : CellValue) → CellFits cells (Integer ty) c → (z : ℤ) × (c ≡ Number z) × IsValue ty z
number_in cells ty (Number z) h = (z, refl, h)
number_in cells ty Null h = absurd h
number_in cells ty Invalid h = absurd h
number_in cells ty (At o f) h = absurd h

ne_is : (x : Bool) → truth (not x) ≡ (if x then pos 0 else pos 1)
ne_is true = refl
ne_is false = refl

module _ (cells : Layout) (pointed : ℕ → List CellType) (Fine : End → Type 0) (fine : (o : Outcome) → Fine (Over o)) (limit : Limit) (tests : Tests) (b : Bool) where
  abbrev pub code_here : machine.Setting
  code_here = record { limit = limit; tests = tests; types = record { objects = cells; pointed = pointed } }

  -- where the code of x gives a value of these types
  abbrev pub Gives : List CellType → Emitted → ℕ → Temps → Run Value → Type 0
  Gives types x n t r = Matches cells Fine (IsGiven cells types x.operand x.next n t) r (nodes code_here b x.nodes t)

  -- what follows may use the operand
  pub behind_gives : (types types' : List CellType) (x : Emitted) (f : ℕ → Operand → Emitted) (n : ℕ) (t : Temps) (r : Run Value) (h : Value → Run Value) →
      Gives types x n t r →
      ((v : Value) (u : Temps) → IsHeld cells types x.operand x.next n t u v → Gives types' (f x.next x.operand) x.next u (h v)) →
      Gives types' (behind x f) n t (and_then r h)
  behind_gives types types' x f n t r h m next = join_matches code_here b cells Fine x.nodes (f x.next x.operand).nodes t r h m after where
    after : (v : Value) (w : Way) → IsGiven cells types x.operand x.next n t v w → Matches cells Fine (IsGiven cells types' (behind x f).operand (behind x f).next n t) (h v) (follow (nodes code_here b (f x.next x.operand).nodes) w)
    after v (On u) k = weaker_matches cells Fine (next v u k) (given_later cells types' (behind x f).operand (behind x f).next n x.next t u k.grows k.stay)
    after v (Out j) k = absurd k

  pub computes_match : (ty : CellType) (x : Emitted) (n : ℕ) (t : Temps) (c : CellValue) → Computes code_here b n x t c → CellFits cells ty c → Gives (ty ∷ []) x n t (done (c ∷ []))
  computes_match ty x n t c h fits = record { by = λ s k. subst (λ (q : Run Way). Match cells Fine (IsGiven cells (ty ∷ []) x.operand x.next n t) (Go (c ∷ []) s) (q s)) (sym h.runs) (held, refl, k) } where
    held : IsHeld cells (ty ∷ []) x.operand x.next n t h.after (c ∷ [])
    held = record { holds = (ap (λ v. v ∷ []) (sym h.value), subst (λ v. CellFits cells ty v) (sym h.value) fits); stay = h.stay; grows = h.grows; below = h.below }

  -- ---- checks

  after_check : {A : Type 0} {T : A → Way → Type 0} (x y : Result (Unit {0})) (rest : Run A) (F : Temps → Run Way) (w : Temps) → Match cells Fine AnyTwo x y → Matches cells Fine T rest (F w) → Match cells Fine T (on_go x (λ p. rest)) (on_go (on_go y (λ p. done (On w))) (follow F))
  after_check {T = T} (Go p s) (Go q t) rest F w (l, e, k) h = subst (λ z. Match cells Fine T (rest s) (F w z)) e (h.by s k)
  after_check (Go p s) (Halt e t) rest F w m h = absurd m
  after_check (Halt e s) (Go q t) rest F w m h = absurd m
  after_check (Halt e s) (Halt d t) rest F w m h = m

  pub check_then : {A : Type 0} {T : A → Way → Type 0} (c : ℕ) (ok : Bool) (a : Operand) (xs : Nodes) (w : Temps) (rest : Run A) → is_true (operand_value w a) ≡ ok → Matches cells Fine T rest (nodes code_here b xs w) →
      Matches cells Fine T (and_then (check b c ok) (λ p. rest)) (nodes code_here b (more (Do (Check c a)) xs) w)
  check_then {T = T} c ok a xs w rest e h =
      subst (λ x. Matches cells Fine T (and_then (check b c ok) (λ p. rest)) (and_then (and_then (check b c x) (λ p. done (On w))) (follow (nodes code_here b xs)))) (sym e)
      (record { by = λ s k. after_check (check b c ok s) (check b c ok s) rest (nodes code_here b xs) w (demand_match cells Fine b (Over (Broken c)) (c == 0 || ok) (fine (Broken c)) (fine Stopped) s k) h })

  -- a check that holds does nothing
  pub check_true : {A : Type 0} (c : ℕ) (rest : Run A) → and_then (check b c true) (λ p. rest) ≡ rest
  check_true {A = A} c rest = λ i s. at (c == 0) s i where
    at : (x : Bool) (s : State) → on_go (demand b (Over (Broken c)) (x || true) s) (λ p. rest) ≡ rest s
    at true s = refl
    at false s = refl

  -- items that only compute, and then others
  computes_then : (x : Emitted) (n : ℕ) (t : Temps) (c : CellValue) (ys : Nodes) (h : Computes code_here b n x t c) → nodes code_here b (join x.nodes ys) t ≡ nodes code_here b ys h.after
  computes_then x n t c ys h = join_is code_here b x.nodes ys t ∙ ap {B = Run Way} (λ (q : Run Way). and_then q (follow (nodes code_here b ys))) h.runs

  overflow_gives : (types : List CellType) (c : ℕ) (op : Op) (ty : Ty) (p q : Operand) (f : ℕ → Emitted) (m : ℕ) (u : Temps) (x y : ℤ) (rest : Run Value) → operand_value u p ≡ Number x → operand_value u q ≡ Number y →
      ((k : ℕ) (w : Temps) → m ≤ k → Stay m u w → Gives types (f k) k w rest) →
      Gives types (after (overflow_check m c op ty p q) f) m u (and_then (check b c (not (overflows op ty x y))) (λ z. rest))
  overflow_gives types zero op ty p q f m u x y rest e d next = record { by = λ s k. (next m u (omega arith) (λ i l. refl)).by s k }
  overflow_gives types (suc c) op ty p q f m u x y rest e d next = go (overflow_computes code_here b m op ty p q u x y e d) where
    go : Computes code_here b m (computed m (Passes (test.Overflow op ty p q))) u (Number (truth (not (overflows op ty x y)))) →
        Gives types (after (overflow_check m (suc c) op ty p q) f) m u (and_then (check b (suc c) (not (overflows op ty x y))) (λ z. rest))
    go h =
        let test = computed m (Passes (test.Overflow op ty p q)) in
        let last = f test.next in
        subst (λ (xs : Nodes). Matches cells Fine (IsGiven cells types last.operand last.next m u) (and_then (check b (suc c) (not (overflows op ty x y))) (λ z. rest)) (nodes code_here b xs u)) (sym (join-join test.nodes (only (Check (suc c) test.operand)) last.nodes))
        (subst (λ (r : Run Way). Matches cells Fine (IsGiven cells types last.operand last.next m u) (and_then (check b (suc c) (not (overflows op ty x y))) (λ z. rest)) r)
        (sym (computes_then test m u _ (more (Do (Check (suc c) test.operand)) last.nodes) h))
        (check_then (suc c) (not (overflows op ty x y)) test.operand last.nodes h.after rest (ap is_true h.value ∙ truth_is (not (overflows op ty x y)))
        (weaker_matches cells Fine (next test.next h.after h.grows h.stay) (given_later cells types last.operand last.next m test.next u h.after h.grows h.stay))))

  number_gives : (ty : Ty) (x : Emitted) (n : ℕ) (t : Temps) (z : ℤ) → Computes code_here b n x t (Number z) → IsValue ty z → Gives (Integer ty ∷ []) x n t (done (number z))
  number_gives ty x n t z h k = computes_match (Integer ty) x n t (Number z) h k

  unary_gives : (op : UnaryOperator) (ty : Ty) (c : ℕ) (m : ℕ) (a : Operand) (u : Temps) (z : ℤ) → IsBelow m a → operand_value u a ≡ Number z →
      Gives (Integer (given (is_computing op) ty) ∷ []) (unary_code m op ty c a) m u (and_then (check b c (not (unary_overflows op ty z))) (λ w. done (number (unary op ty z))))
  unary_gives Negate ty c m a u z h e =
      overflow_gives (Integer ty ∷ []) c arithmetic.Sub ty zero_number a (λ k. computed k (Numbers operator.Sub ty zero_number a)) m u (pos 0) z _ refl e
      (λ k w l stay. number_gives ty _ k w _ (numbers_compute code_here b k operator.Sub ty zero_number a w (pos 0) z _ refl (operand_stays m u w a h stay ∙ e) refl) (unary_value Negate ty z))
  unary_gives Not ty c m a u z h e =
      subst (λ r. Gives (Integer int_type ∷ []) (unary_code m Not ty c a) m u r) (sym (check_true c (done (number (unary Not ty z)))))
      (number_gives int_type _ m u _ (numbers_compute code_here b m operator.Eq ty a zero_number u z (pos 0) _ e refl refl) (unary_value Not ty z))

  -- two operands that hold these numbers
  record AreNumbers (m : ℕ) (a d : Operand) (u : Temps) (x y : ℤ) : Type 0 where
    left_below : IsBelow m a
    right_below : IsBelow m d
    left : operand_value u a ≡ Number x
    right : operand_value u d ≡ Number y

  later_numbers : (m : ℕ) (a d : Operand) (u w : Temps) (x y : ℤ) → AreNumbers m a d u x y → Stay m u w → (operand_value w a ≡ Number x) × (operand_value w d ≡ Number y)
  later_numbers m a d u w x y h stay = (operand_stays m u w a h.left_below stay ∙ h.left, operand_stays m u w d h.right_below stay ∙ h.right)

  -- a comparison overflows nothing
  comparison_gives : (ty : Ty) (c : ℕ) (x : Emitted) (m : ℕ) (u : Temps) (z : ℤ) → Computes code_here b m x u (Number z) → IsValue ty z → Gives (Integer ty ∷ []) x m u (and_then (check b c true) (λ w. done (number z)))
  comparison_gives ty c x m u z h k = subst (λ r. Gives (Integer ty ∷ []) x m u r) (sym (check_true c (done (number z)))) (number_gives ty x m u z h k)

  binary_gives : (op : BinaryOperator) (ty : Ty) (c : ℕ) (m : ℕ) (a d : Operand) (u : Temps) (x y : ℤ) → AreNumbers m a d u x y →
      Gives (Integer (given (is_arithmetic op) ty) ∷ []) (binary_code m op ty c a d) m u (and_then (check b c (not (binary_overflows op ty x y))) (λ w. done (number (binary op ty x y))))
  binary_gives binary_operator.Multiply ty c m a d u x y h =
      overflow_gives (Integer ty ∷ []) c arithmetic.Mul ty a d (λ k. computed k (Numbers operator.Mul ty a d)) m u x y _ h.left h.right
      (λ k w l stay. let p = later_numbers m a d u w x y h stay in number_gives ty _ k w _ (numbers_compute code_here b k operator.Mul ty a d w x y _ p.0 p.1 refl) (binary_value binary_operator.Multiply ty x y))
  binary_gives binary_operator.Add ty c m a d u x y h =
      overflow_gives (Integer ty ∷ []) c arithmetic.Add ty a d (λ k. computed k (Numbers operator.Add ty a d)) m u x y _ h.left h.right
      (λ k w l stay. let p = later_numbers m a d u w x y h stay in number_gives ty _ k w _ (numbers_compute code_here b k operator.Add ty a d w x y _ p.0 p.1 refl) (binary_value binary_operator.Add ty x y))
  binary_gives binary_operator.Subtract ty c m a d u x y h =
      overflow_gives (Integer ty ∷ []) c arithmetic.Sub ty a d (λ k. computed k (Numbers operator.Sub ty a d)) m u x y _ h.left h.right
      (λ k w l stay. let p = later_numbers m a d u w x y h stay in number_gives ty _ k w _ (numbers_compute code_here b k operator.Sub ty a d w x y _ p.0 p.1 refl) (binary_value binary_operator.Subtract ty x y))
  binary_gives binary_operator.Less ty c m a d u x y h = comparison_gives int_type c _ m u _ (numbers_compute code_here b m operator.Lt ty a d u x y _ h.left h.right refl) (binary_value binary_operator.Less ty x y)
  binary_gives binary_operator.LessEqual ty c m a d u x y h = comparison_gives int_type c _ m u _ (numbers_compute code_here b m operator.Le ty a d u x y _ h.left h.right refl) (binary_value binary_operator.LessEqual ty x y)
  binary_gives binary_operator.Greater ty c m a d u x y h = comparison_gives int_type c _ m u _ (numbers_compute code_here b m operator.Lt ty d a u y x _ h.right h.left refl) (binary_value binary_operator.Greater ty x y)
  binary_gives binary_operator.GreaterEqual ty c m a d u x y h = comparison_gives int_type c _ m u _ (numbers_compute code_here b m operator.Le ty d a u y x _ h.right h.left refl) (binary_value binary_operator.GreaterEqual ty x y)
  binary_gives binary_operator.Equal ty c m a d u x y h = comparison_gives int_type c _ m u _ (numbers_compute code_here b m operator.Eq ty a d u x y _ h.left h.right refl) (binary_value binary_operator.Equal ty x y)
  binary_gives binary_operator.NotEqual ty c m a d u x y h = comparison_gives int_type c _ m u _ (numbers_compute code_here b m operator.Ne ty a d u x y _ h.left h.right (ap Some (ne_is (int_eq x y)))) (binary_value binary_operator.NotEqual ty x y)

  -- ---- conversions and conditions

  conversion_gives : (from to : Ty) (m : ℕ) (a : Operand) (u : Temps) (z : ℤ) → IsBelow m a → operand_value u a ≡ Number z → IsValue from z → Gives (Integer to ∷ []) (conversion m (Integer from ∷ []) to a) m u (done (number (convert to z)))
  conversion_gives from to m a u z h e v = go (same_type (Integer to) (Integer from)) refl where
    go : (x : Bool) → same_type (Integer to) (Integer from) ≡ x → Gives (Integer to ∷ []) (if x && true then nothing m a else computed m (Convert to a)) m u (done (number (convert to z)))
    go true p =
        let k : IsValue to z = subst (λ t. IsValue t z) (sym (same_types to from p)) v in
        subst (λ x. Gives (Integer to ∷ []) (nothing m a) m u (done (number x))) (sym (convert_same to z k))
        (number_gives to (nothing m a) m u z (subst (λ c. Computes code_here b m (nothing m a) u c) e (nothing_computes code_here b m a u h)) k)
    go false p = number_gives to _ m u _ (convert_computes code_here b m to a u z e) (convert_value to z)

  differs_is : (z : ℤ) → is_true (Number (truth (not (int_eq z (pos 0))))) ≡ holds (number z)
  differs_is z = go (int_eq z (pos 0)) where
    go : (x : Bool) → is_true (Number (truth (not x))) ≡ (if x then false else true)
    go true = refl
    go false = refl

  -- ---- addresses

  abbrev placed : ℕ → ℕ → Bool → Option Address
  placed o f x = if x then Some (record { object = o; offset = f }) else None

  pub cell_is : (o f : ℕ) (ty : CellType) → slice_get (cells o) f ≡ Some ty → cell_of cells ty (At o f) ≡ Some (record { object = o; offset = f })
  cell_is o f ty e =
      (λ i. placed o f (is_type ty (e i)))
      ∙ (λ i. placed o f (same_type_self ty i))

  only_cell : (types : List CellType) (ty : CellType) → types ≡ ty ∷ [] → slice_get types 0 ≡ Some ty
  only_cell types ty e = ap (λ ts. slice_get ts 0) e

  -- ---- instructions

  result_held : (ty : CellType) (n : ℕ) (t : Temps) (v : CellValue) → CellFits cells ty v → IsHeld cells (ty ∷ []) (Temp n) (suc n) n t (with_temp t n v) (v ∷ [])
  result_held ty n t v h = record {
    holds = (ap (λ c. c ∷ []) (sym (with_temp_same t n v)), subst (λ c. CellFits cells ty c) (sym (with_temp_same t n v)) h);
    stay = λ i l. with_temp_other t n i v l;
    grows = omega arith;
    below = omega arith;
  }

  choice_gives : (ty : Ty) (n : ℕ) (t : Temps) → Gives (Integer ty ∷ []) (result n (Choice n ty)) n t (and_then choose (λ c. done (number (wrap ty c))))
  choice_gives ty n t =
      subst (λ (r : Run Way). Matches cells Fine (IsGiven cells (Integer ty ∷ []) (Temp n) (suc n) n t) (and_then choose (λ c. done (number (wrap ty c)))) r) (sym (only_is code_here b (Choice n ty) t))
      (then_matches cells Fine (choose_matches cells Fine (fine OutOfChoices)) chosen)
    where
      chosen : (y z : ℤ) → y ≡ z → Matches cells Fine (IsGiven cells (Integer ty ∷ []) (Temp n) (suc n) n t) (done (number (wrap ty y))) (done (On (with_temp t n (Number (wrap ty z)))))
      chosen y z e =
          subst (λ x. Matches cells Fine (IsGiven cells (Integer ty ∷ []) (Temp n) (suc n) n t) (done (number (wrap ty y))) (done (On (with_temp t n (Number (wrap ty x)))))) e
          (done_matches cells Fine (number (wrap ty y)) (On (with_temp t n (Number (wrap ty y)))) (result_held (Integer ty) n t (Number (wrap ty y)) (wrap_value ty y)))

  read_gives : (ty : CellType) (o n : ℕ) (t : Temps) → cells o ≡ ty ∷ [] → Gives (ty ∷ []) (result n (Read n ty (cell o 0))) n t (and_then (read (first_of o)) (λ v. done (v ∷ [])))
  read_gives ty o n t e =
      subst (λ (r : Run Way). Matches cells Fine (IsGiven cells (ty ∷ []) (Temp n) (suc n) n t) (and_then (read (first_of o)) (λ v. done (v ∷ []))) r) (sym (only_is code_here b (Read n ty (cell o 0)) t))
      (record { by = at })
    where
      at : (s : State) → StoreFits cells s.store → Match cells Fine (IsGiven cells (ty ∷ []) (Temp n) (suc n) n t) (Go (cell_at s.store (first_of o) ∷ []) s) (machine.act code_here b (Read n ty (cell o 0)) t s)
      at s k =
          subst (λ (c : Option Address). Match cells Fine (IsGiven cells (ty ∷ []) (Temp n) (suc n) n t) (Go (cell_at s.store (first_of o) ∷ []) s) (on_go (machine.or_stuck c s) (λ a. and_then (read a) (λ v. done (On (with_temp t n v)))))) (sym (cell_is o 0 ty (only_cell (cells o) ty e)))
          (result_held ty n t (cell_at s.store (first_of o)) (fits_read cells s.store o ty k e), refl, k)

  -- a cell of an object takes an operand's value
  pub write_does : (ty : CellType) (o f : ℕ) (a : Operand) (t : Temps) (c : CellValue) → slice_get (cells o) f ≡ Some ty → FitsAt cells (cells o) f c → operand_value t a ≡ c →
      Matches cells Fine (λ u w. w ≡ On t) (write (record { object = o; offset = f }) c) (machine.act code_here b (Write ty (cell o f) a) t)
  write_does ty o f a t c e h v = record { by = at } where
    at : (s : State) → StoreFits cells s.store → Match cells Fine (λ u w. w ≡ On t) (write (record { object = o; offset = f }) c s) (machine.act code_here b (Write ty (cell o f) a) t s)
    at s k =
        subst (λ (x : Option Address). Match cells Fine (λ u w. w ≡ On t) (write (record { object = o; offset = f }) c s) (on_go (machine.or_stuck x s) (λ z. and_then (write z (operand_value t a)) (λ u. done (On t))))) (sym (cell_is o f ty e))
        (subst (λ x. Match cells Fine (λ u w. w ≡ On t) (write (record { object = o; offset = f }) c s) (on_go (write (record { object = o; offset = f }) x s) (λ u. done (On t)))) (sym v)
        (refl, refl, fits_cell cells s.store (record { object = o; offset = f }) c k h))

  first_fits : (types : List CellType) (ty : CellType) (c : CellValue) → types ≡ ty ∷ [] → CellFits cells ty c → FitsAt cells types 0 c
  first_fits types ty c e h = subst (λ ts. FitsAt cells ts 0 c) (sym e) h

  -- the one cell of an object takes an operand's value
  pub put_does : (ty : CellType) (o : ℕ) (a : Operand) (t : Temps) (v : Value) → cells o ≡ ty ∷ [] → Holds cells (ty ∷ []) (operand_value t a) v →
      Matches cells Fine (λ u w. w ≡ On t) (put (first_of o) v) (nodes code_here b (only (Write ty (cell o 0) a)) t)
  put_does ty o a t v e (p, fits) =
      subst (λ (r : Run Way). Matches cells Fine (λ u w. w ≡ On t) (put (first_of o) v) r) (sym (only_is code_here b (Write ty (cell o 0) a) t))
      (subst (λ vs. Matches cells Fine (λ u w. w ≡ On t) (put (first_of o) vs) (machine.act code_here b (Write ty (cell o 0) a) t)) (sym p)
      (told_matches cells Fine (λ u. tt) (write_does ty o 0 a t (operand_value t a) (only_cell (cells o) ty e) (first_fits (cells o) ty (operand_value t a) e fits) refl) (λ u w q. q)))

  -- ---- expressions

  -- a truth value stands for whether a value holds
  pub record IsTruth (a : Operand) (k n : ℕ) (t u : Temps) (v : Value) : Type 0 where
    pub is : is_true (operand_value u a) ≡ holds v
    pub stay : Stay n t u
    pub grows : n ≤ k
    pub below : IsBelow k a

  abbrev pub IsTested : Operand → ℕ → ℕ → Temps → Value → Way → Type 0
  IsTested a k n t v (On u) = IsTruth a k n t u v
  IsTested a k n t v (Out j) = ⊥

  -- the truth value of a number
  truth_does : (types : List CellType) (a : Operand) (m n : ℕ) (t u : Temps) (v : Value) → IsInteger types → IsHeld cells types a m n t u v → Matches cells Fine (IsTested (truth_code m types a).operand (truth_code m types a).next n t) (done v) (nodes code_here b (truth_code m types a).nodes u)
  truth_does [] a m n t u v p h = absurd p
  truth_does (Integer ty ∷ []) a m n t u v p h = go (number_in cells ty (operand_value u a) h.holds.1) where
    tested : (z : ℤ) → Computes code_here b m (truth_code m (Integer ty ∷ []) a) u (Number (truth (not (int_eq z (pos 0))))) → v ≡ number z → Matches cells Fine (IsTested (truth_code m (Integer ty ∷ []) a).operand (truth_code m (Integer ty ∷ []) a).next n t) (done v) (nodes code_here b (truth_code m (Integer ty ∷ []) a).nodes u)
    tested z c e =
        subst (λ (r : Run Way). Matches cells Fine (IsTested (truth_code m (Integer ty ∷ []) a).operand (truth_code m (Integer ty ∷ []) a).next n t) (done v) r) (sym c.runs)
        (done_matches cells Fine v (On c.after) (record {
          is = ap is_true c.value ∙ differs_is z ∙ ap holds (sym e);
          stay = stay_again n t u c.after h.stay (stay_less n m u c.after h.grows c.stay);
          grows = let g = c.grows in let k = h.grows in omega arith;
          below = c.below;
        }))

    go : (z : ℤ) × (operand_value u a ≡ Number z) × IsValue ty z → Matches cells Fine (IsTested (truth_code m (Integer ty ∷ []) a).operand (truth_code m (Integer ty ∷ []) a).next n t) (done v) (nodes code_here b (truth_code m (Integer ty ∷ []) a).nodes u)
    go (z, e, k) = tested z (numbers_compute code_here b m operator.Ne ty a zero_number u z (pos 0) _ e refl refl) (h.holds.0 ∙ ap (λ c. c ∷ []) e)
  truth_does (Pointer ∷ []) a m n t u v p h = absurd p
  truth_does (ty ∷ ty' ∷ types) a m n t u v p h = absurd h.holds

  -- ---- what follows operands

  number_held : (types : List CellType) (ty : Ty) (a : Operand) (k n : ℕ) (t u : Temps) (v : Value) → types ≡ Integer ty ∷ [] → IsHeld cells types a k n t u v → (z : ℤ) × (v ≡ number z) × (operand_value u a ≡ Number z) × IsValue ty z
  number_held types ty a k n t u v e h = go (subst (λ ts. Holds cells ts (operand_value u a) v) e h.holds) where
    go : (v ≡ operand_value u a ∷ []) × CellFits cells (Integer ty) (operand_value u a) → (z : ℤ) × (v ≡ number z) × (operand_value u a ≡ Number z) × IsValue ty z
    go (p, fits) = let q = number_in cells ty (operand_value u a) fits in (q.0, p ∙ ap (λ c. c ∷ []) q.1, q.1, q.2)

  unary_at : (op : UnaryOperator) (ty : Ty) (c m : ℕ) (a : Operand) (u : Temps) (v : Value) (z : ℤ) → IsBelow m a → v ≡ number z → (operand_value u a ≡ Number z) × IsValue ty z →
      Gives (Integer (given (is_computing op) ty) ∷ []) (unary_code m op ty c a) m u (and_then (check b c (not (unary_overflows op ty (number_of v)))) (λ w. done (number (unary op ty (number_of v)))))
  unary_at op ty c m a u v z h e (p, q) =
      subst (λ x. Gives (Integer (given (is_computing op) ty) ∷ []) (unary_code m op ty c a) m u (and_then (check b c (not (unary_overflows op ty (number_of x)))) (λ w. done (number (unary op ty (number_of x)))))) (sym e)
      (unary_gives op ty c m a u z h p)

  binary_at : (op : BinaryOperator) (ty : Ty) (c : ℕ) (a : Operand) (m n : ℕ) (t u : Temps) (v : Value) (types : List CellType) → types ≡ Integer ty ∷ [] → IsHeld cells types a m n t u v →
      (d : Operand) (k : ℕ) (u' : Temps) (w : Value) (types' : List CellType) → types' ≡ Integer ty ∷ [] → IsHeld cells types' d k m u u' w →
      Gives (Integer (given (is_arithmetic op) ty) ∷ []) (binary_code k op ty c a d) k u' (and_then (check b c (not (binary_overflows op ty (number_of v) (number_of w)))) (λ z. done (number (binary op ty (number_of v) (number_of w)))))
  binary_at op ty c a m n t u v types e h d k u' w types' e' h' = go (number_held types ty a m n t u v e h) (number_held types' ty d k m u u' w e' h') where
    go : (x : ℤ) × (v ≡ number x) × (operand_value u a ≡ Number x) × IsValue ty x → (y : ℤ) × (w ≡ number y) × (operand_value u' d ≡ Number y) × IsValue ty y →
        Gives (Integer (given (is_arithmetic op) ty) ∷ []) (binary_code k op ty c a d) k u' (and_then (check b c (not (binary_overflows op ty (number_of v) (number_of w)))) (λ z. done (number (binary op ty (number_of v) (number_of w)))))
    go (x, p, q, r) (y, p', q', r') =
        subst (λ v. Gives (Integer (given (is_arithmetic op) ty) ∷ []) (binary_code k op ty c a d) k u' (and_then (check b c (not (binary_overflows op ty (number_of v) (number_of w)))) (λ z. done (number (binary op ty (number_of v) (number_of w)))))) (sym p)
        (subst (λ w. Gives (Integer (given (is_arithmetic op) ty) ∷ []) (binary_code k op ty c a d) k u' (and_then (check b c (not (binary_overflows op ty x (number_of w)))) (λ z. done (number (binary op ty x (number_of w)))))) (sym p')
        (binary_gives op ty c k a d u' x y (record {
          left_below = below_more m k a h'.grows h.below;
          right_below = h'.below;
          left = operand_stays m u u' a h.below h'.stay ∙ q;
          right = q';
        })))

  converted_at : (to : Ty) (types : List CellType) (a : Operand) (m n : ℕ) (t u : Temps) (v : Value) → IsInteger types → IsHeld cells types a m n t u v → Gives (Integer to ∷ []) (conversion m types to a) m u (done (number (convert to (number_of v))))
  converted_at to [] a m n t u v p h = absurd p
  converted_at to (Integer ty ∷ []) a m n t u v p h = go (number_held (Integer ty ∷ []) ty a m n t u v refl h) where
    go : (z : ℤ) × (v ≡ number z) × (operand_value u a ≡ Number z) × IsValue ty z → Gives (Integer to ∷ []) (conversion m (Integer ty ∷ []) to a) m u (done (number (convert to (number_of v))))
    go (z, e, q, r) = subst (λ x. Gives (Integer to ∷ []) (conversion m (Integer ty ∷ []) to a) m u (done (number (convert to (number_of x))))) (sym e) (conversion_gives ty to m a u z h.below q r)
  converted_at to (Pointer ∷ []) a m n t u v p h = absurd p
  converted_at to (ty ∷ ty' ∷ types) a m n t u v p h = absurd h.holds

  assigned_at : (ty : CellType) (o : ℕ) (types : List CellType) (a : Operand) (m n : ℕ) (t u : Temps) (v : Value) → cells o ≡ ty ∷ [] → types ≡ ty ∷ [] → IsHeld cells types a m n t u v →
      Gives (ty ∷ []) (record { nodes = only (Write ty (cell o 0) a); operand = a; next = m }) m u (and_then (put (first_of o) v) (λ z. done v))
  assigned_at ty o types a m n t u v e e' h =
      told_matches cells Fine (λ z. v) (put_does ty o a u v e holds) given where
        holds : Holds cells (ty ∷ []) (operand_value u a) v
        holds = subst (λ ts. Holds cells ts (operand_value u a) v) e' h.holds

        given : (z : Unit {0}) (w : Way) → w ≡ On u → IsGiven cells (ty ∷ []) a m m u v w
        given z w q = subst (λ x. IsGiven cells (ty ∷ []) a m m u v x) (sym q) (record { holds = holds; stay = λ i l. refl; grows = omega arith; below = h.below })

  asserted : (c : ℕ) (a : Operand) (k n : ℕ) (t : Temps) (v : Value) (w : Way) → IsTested a k n t v w → Matches cells Fine (IsGiven cells [] a k n t) (and_then (check b c (holds v)) (λ z. done [])) (follow (nodes code_here b (checked c a)) w)
  asserted zero a k n t v (On u) h = done_matches cells Fine [] (On u) (record { holds = refl; stay = h.stay; grows = h.grows; below = h.below })
  asserted (suc c) a k n t v (On u) h = check_then (suc c) (holds v) a none u (done []) h.is (done_matches cells Fine [] (On u) (record { holds = refl; stay = h.stay; grows = h.grows; below = h.below }))
  asserted c a k n t v (Out j) h = absurd h

  module _ (calls : Calls) (is_main : Bool) where
    abbrev pub tree_here : Setting
    tree_here = record { limit = limit; tests = tests; is_main = is_main; cells = cells; calls = calls }

    -- the items of an expression and then those of its truth value
    pub tested_by : (e : TypedTree) (n : ℕ) (t : Temps) → IsInteger (type_of e) → Gives (type_of e) (expression n e) n t (value tree_here b e) →
        Matches cells Fine (IsTested (condition n e).operand (condition n e).next n t) (value tree_here b e) (nodes code_here b (condition n e).nodes t)
    tested_by e n t p h =
        subst (λ (r : Run Value). Matches cells Fine (IsTested (condition n e).operand (condition n e).next n t) r (nodes code_here b (condition n e).nodes t)) (λ i s. then_done (value tree_here b e s) i)
        (join_matches code_here b cells Fine x.nodes (truth_code x.next (type_of e) x.operand).nodes t (value tree_here b e) done h after)
      where
        x : Emitted
        x = expression n e

        after : (v : Value) (w : Way) → IsGiven cells (type_of e) (expression n e).operand (expression n e).next n t v w → Matches cells Fine (IsTested (condition n e).operand (condition n e).next n t) (done v) (follow (nodes code_here b (truth_code (expression n e).next (type_of e) (expression n e).operand).nodes) w)
        after v (On u) k = truth_does (type_of e) (expression n e).operand (expression n e).next n t u v p k
        after v (Out j) k = absurd k

    pub expression_gives : (e : TypedTree) → IsTyped cells e → (n : ℕ) (t : Temps) → Gives (type_of e) (expression n e) n t (value tree_here b e)
    expression_gives (tree.Constant ty v) h n t = computes_match ty (nothing n (Constant v)) n t v (nothing_computes code_here b n (Constant v) t tt) h
    expression_gives (tree.Choice ty) h n t = choice_gives ty n t
    expression_gives (tree.Read ty (tree.Object o)) h n t = read_gives ty o n t h
    expression_gives (tree.Unary op ty c e) (h, is) n t =
        behind_gives (type_of e) (Integer (given (is_computing op) ty) ∷ []) (expression n e) (λ m a. unary_code m op ty c a) n t (value tree_here b e) _ (expression_gives e h n t)
        (λ v u k. let p = number_held (type_of e) ty _ _ n t u v is k in unary_at op ty c (expression n e).next (expression n e).operand u v p.0 k.below p.1 (p.2, p.3))
    expression_gives (tree.Binary op ty c x y) (h, is, h', is') n t =
        behind_gives (type_of x) (Integer (given (is_arithmetic op) ty) ∷ []) (expression n x) (λ m a. behind (expression m y) (λ k d. binary_code k op ty c a d)) n t (value tree_here b x) _ (expression_gives x h n t)
        (λ v u k. behind_gives (type_of y) (Integer (given (is_arithmetic op) ty) ∷ []) (expression (expression n x).next y) (λ m d. binary_code m op ty c (expression n x).operand d) (expression n x).next u (value tree_here b y) _ (expression_gives y h' (expression n x).next u)
        (λ w u' k'. binary_at op ty c (expression n x).operand (expression n x).next n t u v (type_of x) is k (expression (expression n x).next y).operand (expression (expression n x).next y).next u' w (type_of y) is' k'))
    expression_gives (tree.Convert ty e) (h, is) n t =
        behind_gives (type_of e) (Integer ty ∷ []) (expression n e) (λ m a. conversion m (type_of e) ty a) n t (value tree_here b e) _ (expression_gives e h n t)
        (λ v u k. converted_at ty (type_of e) (expression n e).operand (expression n e).next n t u v is k)
    expression_gives (tree.Assign ty (tree.Object o) e) (is, h, is') n t =
        behind_gives (type_of e) (ty ∷ []) (expression n e) (λ m a. record { nodes = only (Write ty (cell o 0) a); operand = a; next = m }) n t (value tree_here b e) _ (expression_gives e h n t)
        (λ v u k. assigned_at ty o (type_of e) (expression n e).operand (expression n e).next n t u v is is' k)
    expression_gives (tree.Assert c e) (h, is) n t =
        join_matches code_here b cells Fine (condition n e).nodes (checked c (condition n e).operand) t (value tree_here b e) _ (tested_by e n t is (expression_gives e h n t))
        (asserted c (condition n e).operand (condition n e).next n t)
