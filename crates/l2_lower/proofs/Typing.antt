-- Code is typed, its temporaries are numbered in order, and its jumps leave blocks that are there: for items one after another.
use Rattle.std.proofs.Common.{◌≡◌, ℕ, zero, suc, ◌-◌, ◌<◌, ◌≤◌, Bool, true, false, List, [], ◌∷◌, ◌++◌, Some, refl, sym, ap, subst, ◌∙◌, arith}
use Rattle.std.specs.Prelude.{if◌then◌else◌}
use Rattle.std.proofs.lemmas.Bool.Decides.{nat_tests}
use Rattle.l2_runs.specs.declared.cells.CellType.{CellType}
use Rattle.l2_code.specs.declared.action.Action.{Action}
use Rattle.l2_code.specs.declared.action.Action.TheVariants.{Compute}
use Rattle.l2_code.specs.declared.action.Computation.{Computation}
use Rattle.l2_code.specs.declared.action.Operand.{Operand}
use Rattle.l2_code.specs.declared.action.Operand.TheVariants.{Constant, Temp}
use Rattle.l2_code.specs.Trees.{Nodes, none, more, join}
use Rattle.l2_code.specs.Values.{no_temps, compute}
use Rattle.l2_code.specs.WellFormed.{Names, Scope, Known, with_known, IsConstant, IsOperand, IsOfType, IsBit, IsTruth, IsKnownTruth, IsTypedComputation, IsTypedAction, computation_gives, behind, behind_node, AreTyped, JumpsOut, HaveJumps, result_of, node_results, results, count_from}
use Rattle.l2_lower.specs.Emitting.{only, Emitted, operands_of, are_constant, or_zero, no_types, nothing, result, computed}
use Rattle.l2_lower.proofs.Computing.{IsBelow}

-- what may be read behind items
abbrev pub all_behind : Scope → Nodes → Scope
all_behind scope none = scope
all_behind scope (more x rest) = all_behind (behind_node scope x) rest

-- these are the numbers from n up to m
abbrev pub IsFrom : ℕ → List ℕ → ℕ → Type 0
IsFrom n [] m = n ≡ m
IsFrom n (x ∷ xs) m = (x ≡ n) × IsFrom (suc n) xs m

pub from_join : (n m k : ℕ) (xs ys : List ℕ) → IsFrom n xs m → IsFrom m ys k → IsFrom n (xs ++ ys) k
from_join n m k [] ys e h = subst (λ x. IsFrom x ys k) (sym e) h
from_join n m k (x ∷ xs) ys (p, q) h = (p, from_join (suc n) m k xs ys q h)

pub from_grows : (n m : ℕ) (xs : List ℕ) → IsFrom n xs m → n ≤ m
from_grows n m [] e = omega arith
from_grows n m (x ∷ xs) (p, q) = let h = from_grows (suc n) m xs q in omega arith

counted_more : (n k : ℕ) → 0 < k → count_from n k ≡ n ∷ count_from (suc n) (k - 1)
counted_more n zero h = absurd (omega arith)
counted_more n (suc k) h = let e : suc k - 1 ≡ k = omega arith in ap (λ j. n ∷ count_from (suc n) j) (sym e)

pub from_counted : (n m : ℕ) (xs : List ℕ) → IsFrom n xs m → xs ≡ count_from n (m - n)
from_counted n m [] e = let z : m - n ≡ 0 = omega arith in ap (count_from n) (sym z)
from_counted n m (x ∷ xs) (p, q) =
    let g = from_grows (suc n) m xs q in
    let e : m - n - 1 ≡ m - suc n = omega arith in
    (λ i. p i ∷ from_counted (suc n) m xs q i) ∙ ap (λ k. n ∷ count_from (suc n) k) (sym e) ∙ sym (counted_more n (m - n) (omega arith))

module _ (names : Names) where
  -- items that are typed, compute the temporaries from n up to m, and jump in order wherever they stand
  pub record Sound (n : ℕ) (scope : Scope) (xs : Nodes) (m : ℕ) : Type 0 where
    pub typed : AreTyped names scope xs
    pub jumps : (k : ℕ) → HaveJumps k xs
    pub numbers : IsFrom n (results xs) m
    pub stay : (i : ℕ) → i < n → all_behind scope xs i ≡ scope i

  pub grows : (n m : ℕ) (scope : Scope) (xs : Nodes) → Sound n scope xs m → n ≤ m
  grows n m scope xs h = from_grows n m (results xs) h.numbers

  pub join_typed : (scope : Scope) (xs ys : Nodes) → AreTyped names scope xs → AreTyped names (all_behind scope xs) ys → AreTyped names scope (join xs ys)
  join_typed scope none ys h k = k
  join_typed scope (more x xs) ys (p, q) k = (p, join_typed (behind_node scope x) xs ys q k)

  pub join_behind : (scope : Scope) (xs ys : Nodes) → all_behind scope (join xs ys) ≡ all_behind (all_behind scope xs) ys
  join_behind scope none ys = refl
  join_behind scope (more x xs) ys = join_behind (behind_node scope x) xs ys

  pub join_jumps : (k : ℕ) (xs ys : Nodes) → HaveJumps k xs → HaveJumps k ys → HaveJumps k (join xs ys)
  join_jumps k none ys h l = l
  join_jumps k (more x xs) ys (p, q) l = (p, join_jumps k xs ys q l)

  pub join_numbers : (n m k : ℕ) (xs ys : Nodes) → IsFrom n (results xs) m → IsFrom m (results ys) k → IsFrom n (results (join xs ys)) k
  join_numbers n m k none ys e h = subst (λ x. IsFrom x (results ys) k) (sym e) h
  join_numbers n m k (more x xs) ys h l = skip n (node_results x) h (λ j q. join_numbers j m k xs ys q l) where
    skip : (n : ℕ) (zs : List ℕ) → IsFrom n (zs ++ results xs) m → ((j : ℕ) → IsFrom j (results xs) m → IsFrom j (results (join xs ys)) k) → IsFrom n (zs ++ results (join xs ys)) k
    skip n [] h next = next n h
    skip n (z ∷ zs) (p, q) next = (p, skip (suc n) zs q next)

  pub join_sound : (n m k : ℕ) (scope : Scope) (xs ys : Nodes) → Sound n scope xs m → Sound m (all_behind scope xs) ys k → Sound n scope (join xs ys) k
  join_sound n m k scope xs ys h l = record {
    typed = join_typed scope xs ys h.typed l.typed;
    jumps = λ j. join_jumps j xs ys (h.jumps j) (l.jumps j);
    numbers = join_numbers n m k xs ys h.numbers l.numbers;
    stay = λ i p. (λ j. join_behind scope xs ys j i) ∙ l.stay i (let g = from_grows n m (results xs) h.numbers in omega arith) ∙ h.stay i p;
  }

  pub none_sound : (n : ℕ) (scope : Scope) → Sound n scope none n
  none_sound n scope = record { typed = tt; jumps = λ k. tt; numbers = refl; stay = λ i p. refl }

  -- an instruction without a result
  pub only_sound : (n : ℕ) (scope : Scope) (a : Action) → result_of a ≡ [] → behind scope a ≡ scope → IsTypedAction names scope a → ((k : ℕ) → JumpsOut k a) → Sound n scope (only a) n
  only_sound n scope a e b h j = record {
    typed = (h, tt);
    jumps = λ k. (j k, tt);
    numbers = subst (λ xs. IsFrom n (xs ++ []) n) (sym e) refl;
    stay = λ i p. λ t. b t i;
  }

  known_same : (scope : Scope) (n : ℕ) (k : Known) → with_known scope n k n ≡ Some k
  known_same scope n k = grind (arith, nat_tests)

  known_other : (scope : Scope) (n i : ℕ) (k : Known) → i < n → with_known scope n k i ≡ scope i
  known_other scope n i k h = grind (arith, nat_tests)

  -- an instruction whose result is the next temporary
  pub result_sound : (n : ℕ) (scope : Scope) (a : Action) (k : Known) → result_of a ≡ n ∷ [] → behind scope a ≡ with_known scope n k → IsTypedAction names scope a → ((j : ℕ) → JumpsOut j a) → Sound n scope (only a) (suc n)
  result_sound n scope a k e b h j = record {
    typed = (h, tt);
    jumps = λ i. (j i, tt);
    numbers = subst (λ xs. IsFrom n (xs ++ []) (suc n)) (sym e) (refl, refl);
    stay = λ i p. (λ t. b t i) ∙ known_other scope n i k p;
  }

  pub result_known : (n : ℕ) (scope : Scope) (a : Action) (k : Known) → behind scope a ≡ with_known scope n k → all_behind scope (only a) n ≡ Some k
  result_known n scope a k b = (λ t. b t n) ∙ known_same scope n k

  -- ---- operands

  abbrev pub OperandIs : Scope → List CellType → Operand → Type 0
  OperandIs scope [] a = Unit {0}
  OperandIs scope (ty ∷ rest) a = IsOperand names.objects scope ty a

  pub operand_later : (n : ℕ) (scope later : Scope) (ty : CellType) (a : Operand) → IsBelow n a → ((i : ℕ) → i < n → later i ≡ scope i) → IsOperand names.objects scope ty a → IsOperand names.objects later ty a
  operand_later n scope later ty (Constant v) p h k = k
  operand_later n scope later ty (Temp j) p h k = subst (λ o. IsOfType ty o) (sym (h j p)) k

  -- the items are sound, and behind them the operand is of the type, where there is one
  pub record Given (types : List CellType) (x : Emitted) (n : ℕ) (scope : Scope) : Type 0 where
    pub sound : Sound n scope x.nodes x.next
    pub operand : OperandIs (all_behind scope x.nodes) types x.operand
    pub below : IsBelow x.next x.operand

  -- the same of a truth value
  pub record Tests (x : Emitted) (n : ℕ) (scope : Scope) : Type 0 where
    pub sound : Sound n scope x.nodes x.next
    pub truth : IsTruth (all_behind scope x.nodes) x.operand
    pub below : IsBelow x.next x.operand

  abbrev pub ConstantIs : CellType → Operand → Type 0
  ConstantIs ty (Constant v) = IsConstant names.objects ty v
  ConstantIs ty (Temp n) = Unit {0}

  abbrev pub ConstantIsBit : Operand → Type 0
  ConstantIsBit (Constant v) = IsBit v
  ConstantIsBit (Temp n) = Unit {0}

  pub computed_given : (n : ℕ) (scope : Scope) (c : Computation) (ty : CellType) → IsTypedComputation names scope c → ConstantIs ty (computed n c).operand → (computation_gives c).type ≡ ty → Given (ty ∷ []) (computed n c) n scope
  computed_given n scope c ty h fits gives = go (are_constant (operands_of c)) fits where
    go : (x : Bool) → ConstantIs ty (if x then nothing n (Constant (or_zero (compute no_types [] no_temps c))) else result n (Compute n c)).operand → Given (ty ∷ []) (if x then nothing n (Constant (or_zero (compute no_types [] no_temps c))) else result n (Compute n c)) n scope
    go true f = record { sound = none_sound n scope; operand = f; below = tt }
    go false f = record {
      sound = result_sound n scope (Compute n c) (computation_gives c) refl refl h (λ j. tt);
      operand = subst (λ o. IsOfType ty o) (sym (result_known n scope (Compute n c) (computation_gives c) refl)) gives;
      below = omega arith;
    }

  pub computed_tests : (n : ℕ) (scope : Scope) (c : Computation) → IsTypedComputation names scope c → ConstantIsBit (computed n c).operand → (computation_gives c).is_truth ≡ true → Tests (computed n c) n scope
  computed_tests n scope c h fits gives = go (are_constant (operands_of c)) fits where
    go : (x : Bool) → ConstantIsBit (if x then nothing n (Constant (or_zero (compute no_types [] no_temps c))) else result n (Compute n c)).operand → Tests (if x then nothing n (Constant (or_zero (compute no_types [] no_temps c))) else result n (Compute n c)) n scope
    go true f = record { sound = none_sound n scope; truth = f; below = tt }
    go false f = record {
      sound = result_sound n scope (Compute n c) (computation_gives c) refl refl h (λ j. tt);
      truth = subst (λ o. IsKnownTruth o) (sym (result_known n scope (Compute n c) (computation_gives c) refl)) gives;
      below = omega arith;
    }

  pub nothing_given : (n : ℕ) (scope : Scope) (ty : CellType) (a : Operand) → IsOperand names.objects scope ty a → IsBelow n a → Given (ty ∷ []) (nothing n a) n scope
  nothing_given n scope ty a h p = record { sound = none_sound n scope; operand = h; below = p }
