-- Sets that are closed over a program are closed over its code, with sets of temporaries that it has.
use Rattle.std.proofs.Common.{◌≡◌, ℕ, zero, suc, ◌<◌, ◌≤◌, ℤ, Bool, true, false, not, List, [], ◌∷◌, Option, Some, None, refl, sym, subst, ◌∙◌, arith}
use Rattle.std.specs.Prelude.{◌==◌, ◌&&◌, if◌then◌else◌}
use Rattle.std.proofs.lemmas.Bool.{eqb-true}
use Rattle.std.proofs.lemmas.Bool.Decides.{nat_tests}
use Rattle.l2_bits.specs.declared.types.Ty.{Ty}
use Rattle.l2_bits.specs.declared.operators.Op.{Op}
use Rattle.l2_runs.specs.declared.cells.CellType.{CellType}
use Rattle.l2_runs.specs.declared.cells.CellType.TheVariants.{Integer, Pointer}
use Rattle.l2_runs.specs.declared.cells.CellValue.{CellValue}
use Rattle.l2_runs.specs.declared.cells.CellValue.TheVariants.{Number, Null, Invalid, At}
use Rattle.l2_runs.specs.declared.member.Member.{Member}
use Rattle.l2_runs.specs.declared.member.Member.TheVariants as member
use Rattle.l2_runs.specs.declared.operators.UnaryOperator.{UnaryOperator}
use Rattle.l2_runs.specs.declared.operators.UnaryOperator.TheVariants.{Negate, Not}
use Rattle.l2_runs.specs.declared.operators.BinaryOperator.{BinaryOperator}
use Rattle.l2_runs.specs.declared.operators.BinaryOperator.TheVariants as binary_operator
use Rattle.l2_runs.specs.Members.{targets, Within}
use Rattle.l2_runs.specs.Fits.{Layout}
use Rattle.l2_program.specs.Checked as tree
use Rattle.l2_program.specs.Checked.{TypedTree, CheckedTree, CheckedTrees}
use Rattle.l2_program.specs.Types.{type_of}
use Rattle.l2_meaning.specs.Lawful.{IsTyped, IsInteger, IsTypedStatement, AreTyped, IsScopedStatement, AreScoped}
use Rattle.l2_runs.proofs.Stores.{from, from_next}
use Rattle.l2_meaning.specs.Pointing.{IsTakenIn, TakeIn, StatementIsTakenIn, AreTakenIn, is_same}
use Rattle.l2_meaning.specs.Pointing as pointing
use Rattle.l2_meaning.specs.Scopes as scopes
use Rattle.l2_meaning.specs.Meaning.{declared}
use Rattle.l2_code.specs.declared.action.Action.{Action}
use Rattle.l2_code.specs.declared.action.Action.TheVariants as action
use Rattle.l2_code.specs.declared.action.Computation.{Computation}
use Rattle.l2_code.specs.declared.action.Computation.TheVariants.{Numbers, Convert, Passes}
use Rattle.l2_code.specs.declared.action.Operator.{Operator}
use Rattle.l2_code.specs.declared.action.Operator.TheVariants as operator
use Rattle.l2_code.specs.declared.action.Test.TheVariants as test
use Rattle.l2_code.specs.declared.action.Operand.{Operand}
use Rattle.l2_code.specs.declared.action.Operand.TheVariants.{Constant, Temp}
use Rattle.l2_code.specs.Trees.{Node, Do, Block, Loop, Nodes, none, more, join}
use Rattle.l2_code.specs.Values.{no_temps, same_type, as_number, on_numbers, converted, operate, compute}
use Rattle.l2_code.specs.Sets.{Family, may_be, IsClosedResult, IsClosedAction, AreClosed}
use Rattle.l2_lower.specs.Emitting.{only, cell, Emitted, Part, after, behind, nothing, result, checked, operands_of, are_constant, or_zero, no_types, computed, zero_number, overflow_check, unary_code, binary_code, conversion, truth_code, expression, condition}
use Rattle.l2_lower.specs.Statements.{guard, first_side, filled, declaration, initialised, deads, statement, statements}
use Rattle.l2_lower.proofs.Converted.{same_types}
use Rattle.l2_lower.proofs.Computing.{IsBelow}

-- sets of temporaries
abbrev pub Temps : Type 0
Temps = ℕ → Member → Bool

abbrev pub nowhere : Member → Bool
nowhere m = false

abbrev pub with_set : Temps → ℕ → (Member → Bool) → Temps
with_set acc n s i = if i == n then s else acc i

set_same : (acc : Temps) (n : ℕ) (s : Member → Bool) → with_set acc n s n ≡ s
set_same acc n s = grind (arith, nat_tests)

set_other : (acc : Temps) (n i : ℕ) (s : Member → Bool) → i < n → with_set acc n s i ≡ acc i
set_other acc n i s h = grind (arith, nat_tests)

abbrev pub may_of : Temps → Operand → Member → Bool
may_of acc (Constant v) = targets v
may_of acc (Temp n) = acc n

same_object : (o p : ℕ) → (o == p) ≡ true → o ≡ p
same_object o p e = eqb-true o p e

module _ (sets : pointing.Sets) where
  -- what is read at a constant address
  abbrev read_set : Operand → Member → Bool
  read_set (Constant (At o f)) = sets o
  read_set (Constant (Number z)) = nowhere
  read_set (Constant Null) = nowhere
  read_set (Constant Invalid) = nowhere
  read_set (Temp n) = nowhere

  abbrev action_sets : Action → Temps → Temps
  action_sets (action.Compute n c) acc = with_set acc n nowhere
  action_sets (action.Read n ty a) acc = with_set acc n (read_set a)
  action_sets (action.Choice n ty) acc = with_set acc n nowhere
  action_sets (action.Write ty a x) acc = acc
  action_sets (action.Assume a) acc = acc
  action_sets (action.Check c a) acc = acc
  action_sets (action.Unless a n) acc = acc
  action_sets (action.Goto n) acc = acc
  action_sets (action.Live o) acc = acc
  action_sets (action.Dead o) acc = acc
  action_sets action.End acc = acc

  abbrev mutual
    node_sets : Node → Temps → Temps
    node_sets (Do a) acc = action_sets a acc
    node_sets (Block all) acc = nodes_sets all acc
    node_sets (Loop l all) acc = nodes_sets all acc

    pub nodes_sets : Nodes → Temps → Temps
    nodes_sets none acc = acc
    nodes_sets (more x rest) acc = nodes_sets rest (node_sets x acc)

  abbrev pub fam : Temps → Family
  fam temps = record { object = sets; temp = temps }

  -- where the temporaries below m have these sets, the items are closed over them
  pub record Closing (n : ℕ) (acc : Temps) (xs : Nodes) (m : ℕ) : Type 0 where
    pub closes : (temps : Temps) → ((i : ℕ) → i < m → temps i ≡ nodes_sets xs acc i) → AreClosed (fam temps) xs
    pub stay : (i : ℕ) → i < n → nodes_sets xs acc i ≡ acc i
    pub grows : n ≤ m

  join_sets : (xs ys : Nodes) (acc : Temps) → nodes_sets (join xs ys) acc ≡ nodes_sets ys (nodes_sets xs acc)
  join_sets none ys acc = refl
  join_sets (more x xs) ys acc = join_sets xs ys (node_sets x acc)

  join_closed : (temps : Temps) (xs ys : Nodes) → AreClosed (fam temps) xs → AreClosed (fam temps) ys → AreClosed (fam temps) (join xs ys)
  join_closed temps none ys h k = k
  join_closed temps (more x xs) ys (p, q) k = (p, join_closed temps xs ys q k)

  pub join_closing : (n m k : ℕ) (acc : Temps) (xs ys : Nodes) → Closing n acc xs m → Closing m (nodes_sets xs acc) ys k → Closing n acc (join xs ys) k
  join_closing n m k acc xs ys h l = record {
    closes = λ temps e.
        let so = λ (i : ℕ) (p : i < k). e i p ∙ (λ j. join_sets xs ys acc j i) in
        join_closed temps xs ys (h.closes temps (λ i p. so i (let g = l.grows in omega arith) ∙ l.stay i p)) (l.closes temps so);
    stay = λ i p. (λ j. join_sets xs ys acc j i) ∙ l.stay i (let g = h.grows in omega arith) ∙ h.stay i p;
    grows = let a = h.grows in let b = l.grows in omega arith;
  }

  pub none_closing : (n : ℕ) (acc : Temps) → Closing n acc none n
  none_closing n acc = record { closes = λ temps e. tt; stay = λ i p. refl; grows = omega arith }

  pub only_closing : (n : ℕ) (acc : Temps) (a : Action) → action_sets a acc ≡ acc → ((temps : Temps) → ((i : ℕ) → i < n → temps i ≡ acc i) → IsClosedAction (fam temps) a) → Closing n acc (only a) n
  only_closing n acc a e h = record {
    closes = λ temps q. (h temps (λ i p. q i p ∙ (λ j. e j i)), tt);
    stay = λ i p. λ j. e j i;
    grows = omega arith;
  }

  result_closing : (n : ℕ) (acc : Temps) (a : Action) (s : Member → Bool) → action_sets a acc ≡ with_set acc n s → ((temps : Temps) → temps n ≡ s → IsClosedAction (fam temps) a) → Closing n acc (only a) (suc n)
  result_closing n acc a s e h = record {
    closes = λ temps q. (h temps (q n (omega arith) ∙ (λ j. e j n) ∙ set_same acc n s), tt);
    stay = λ i p. (λ j. e j i) ∙ set_other acc n i s p;
    grows = omega arith;
  }

  block_closing : (n m : ℕ) (acc : Temps) (xs : Nodes) → Closing n acc xs m → Closing n acc (more (Block xs) none) m
  block_closing n m acc xs h = record { closes = λ temps e. (h.closes temps e, tt); stay = h.stay; grows = h.grows }

  loop_closing : (n m l : ℕ) (acc : Temps) (xs : Nodes) → Closing n acc xs m → Closing n acc (more (Loop l xs) none) m
  loop_closing n m l acc xs h = record { closes = λ temps e. (h.closes temps e, tt); stay = h.stay; grows = h.grows }

  -- ---- computations

  -- the items are closed, and behind them the operand may be what is in this set alone
  pub record Bounded (set : Member → Bool) (x : Emitted) (n : ℕ) (acc : Temps) : Type 0 where
    pub closing : Closing n acc x.nodes x.next
    pub bound : Within (may_of (nodes_sets x.nodes acc) x.operand) set
    pub below : IsBelow x.next x.operand

  -- a constant that is no pointer
  abbrev Quiet : Operand → Type 0
  Quiet (Constant v) = (m : Member) → targets v m ≡ false
  Quiet (Temp n) = Unit {0}

  computed_bounded : (n : ℕ) (acc : Temps) (c : Computation) (set : Member → Bool) → ((temps : Temps) → IsClosedResult (fam temps) n c) → Quiet (computed n c).operand → Bounded set (computed n c) n acc
  computed_bounded n acc c set h quiet = go (are_constant (operands_of c)) quiet where
    go : (x : Bool) → Quiet (if x then nothing n (Constant (or_zero (compute no_types [] no_temps c))) else result n (action.Compute n c)).operand → Bounded set (if x then nothing n (Constant (or_zero (compute no_types [] no_temps c))) else result n (action.Compute n c)) n acc
    go true q = record { closing = none_closing n acc; bound = λ m e. let z = q m in cc; below = tt }
    go false q = record {
      closing = result_closing n acc (action.Compute n c) nowhere refl (λ temps e. h temps);
      bound = subst (λ s. Within s set) (sym (set_same acc n nowhere)) (λ m e. cc);
      below = omega arith;
    }

  quiet_number : (o : Option ℤ) (m : Member) → targets (or_zero (as_number o)) m ≡ false
  quiet_number None m = refl
  quiet_number (Some z) m = refl

  quiet_two : (g : ℤ → ℤ → Option ℤ) (v w : CellValue) (m : Member) → targets (or_zero (on_numbers g v w)) m ≡ false
  quiet_two g (Number x) (Number y) m = quiet_number (g x y) m
  quiet_two g (Number x) Null m = refl
  quiet_two g (Number x) Invalid m = refl
  quiet_two g (Number x) (At o f) m = refl
  quiet_two g Null w m = refl
  quiet_two g Invalid w m = refl
  quiet_two g (At o f) w m = refl

  quiet_numbers : (n : ℕ) (op : Operator) (ty : Ty) (a b : Operand) → Quiet (computed n (Numbers op ty a b)).operand
  quiet_numbers n op ty (Constant v) (Constant w) = quiet_two (operate op ty) v w
  quiet_numbers n op ty (Constant v) (Temp j) = tt
  quiet_numbers n op ty (Temp i) b = tt

  numbers_bounded : (n : ℕ) (acc : Temps) (op : Operator) (ty : Ty) (a b : Operand) (set : Member → Bool) → Bounded set (computed n (Numbers op ty a b)) n acc
  numbers_bounded n acc op ty a b set = computed_bounded n acc (Numbers op ty a b) set (λ temps. tt) (quiet_numbers n op ty a b)

  quiet_converted : (ty : Ty) (v : CellValue) (m : Member) → targets (or_zero (converted ty v)) m ≡ false
  quiet_converted ty (Number z) m = refl
  quiet_converted ty Null m = refl
  quiet_converted ty Invalid m = refl
  quiet_converted ty (At o f) m = refl

  quiet_convert : (n : ℕ) (ty : Ty) (a : Operand) → Quiet (computed n (Convert ty a)).operand
  quiet_convert n ty (Constant v) = quiet_converted ty v
  quiet_convert n ty (Temp j) = tt

  quiet_overflow : (n : ℕ) (op : Op) (ty : Ty) (a b : Operand) → Quiet (computed n (Passes (test.Overflow op ty a b))).operand
  quiet_overflow n op ty (Constant v) (Constant w) = λ m. refl
  quiet_overflow n op ty (Constant v) (Temp j) = tt
  quiet_overflow n op ty (Temp i) b = tt

  checked_closing : (c n : ℕ) (acc : Temps) (a : Operand) → Closing n acc (checked c a) n
  checked_closing zero n acc a = none_closing n acc
  checked_closing (suc c) n acc a = only_closing n acc (action.Check (suc c) a) refl (λ temps e. tt)

  overflow_closing : (n : ℕ) (acc : Temps) (c : ℕ) (op : Op) (ty : Ty) (a b : Operand) → Closing n acc (overflow_check n c op ty a b).nodes (overflow_check n c op ty a b).next
  overflow_closing n acc zero op ty a b = none_closing n acc
  overflow_closing n acc (suc c) op ty a b =
      let x = computed n (Passes (test.Overflow op ty a b)) in
      join_closing n x.next x.next acc x.nodes (checked (suc c) x.operand) (computed_bounded n acc (Passes (test.Overflow op ty a b)) nowhere (λ temps. tt) (quiet_overflow n op ty a b)).closing (checked_closing (suc c) x.next (nodes_sets x.nodes acc) x.operand)

  after_bounded : (set : Member → Bool) (p : Part) (g : ℕ → Emitted) (n : ℕ) (acc : Temps) → Closing n acc p.nodes p.next → Bounded set (g p.next) p.next (nodes_sets p.nodes acc) → Bounded set (after p g) n acc
  after_bounded set p g n acc h k = record {
    closing = join_closing n p.next (g p.next).next acc p.nodes (g p.next).nodes h k.closing;
    bound = subst (λ s. Within (may_of s (g p.next).operand) set) (sym (join_sets p.nodes (g p.next).nodes acc)) k.bound;
    below = k.below;
  }

  behind_bounded : (set set' : Member → Bool) (x : Emitted) (g : ℕ → Operand → Emitted) (n : ℕ) (acc : Temps) → Bounded set x n acc → Bounded set' (g x.next x.operand) x.next (nodes_sets x.nodes acc) → Bounded set' (behind x g) n acc
  behind_bounded set set' x g n acc h k = record {
    closing = join_closing n x.next (g x.next x.operand).next acc x.nodes (g x.next x.operand).nodes h.closing k.closing;
    bound = subst (λ s. Within (may_of s (g x.next x.operand).operand) set') (sym (join_sets x.nodes (g x.next x.operand).nodes acc)) k.bound;
    below = k.below;
  }

  unary_bounded : (n : ℕ) (acc : Temps) (op : UnaryOperator) (ty : Ty) (c : ℕ) (a : Operand) (set : Member → Bool) → Bounded set (unary_code n op ty c a) n acc
  unary_bounded n acc Negate ty c a set = after_bounded set (overflow_check n c _ ty zero_number a) (λ m. computed m (Numbers operator.Sub ty zero_number a)) n acc (overflow_closing n acc c _ ty zero_number a) (numbers_bounded _ _ operator.Sub ty zero_number a set)
  unary_bounded n acc Not ty c a set = numbers_bounded n acc operator.Eq ty a zero_number set

  binary_bounded : (n : ℕ) (acc : Temps) (op : BinaryOperator) (ty : Ty) (c : ℕ) (a b : Operand) (set : Member → Bool) → Bounded set (binary_code n op ty c a b) n acc
  binary_bounded n acc binary_operator.Multiply ty c a b set = after_bounded set (overflow_check n c _ ty a b) (λ m. computed m (Numbers operator.Mul ty a b)) n acc (overflow_closing n acc c _ ty a b) (numbers_bounded _ _ operator.Mul ty a b set)
  binary_bounded n acc binary_operator.Add ty c a b set = after_bounded set (overflow_check n c _ ty a b) (λ m. computed m (Numbers operator.Add ty a b)) n acc (overflow_closing n acc c _ ty a b) (numbers_bounded _ _ operator.Add ty a b set)
  binary_bounded n acc binary_operator.Subtract ty c a b set = after_bounded set (overflow_check n c _ ty a b) (λ m. computed m (Numbers operator.Sub ty a b)) n acc (overflow_closing n acc c _ ty a b) (numbers_bounded _ _ operator.Sub ty a b set)
  binary_bounded n acc binary_operator.Less ty c a b set = numbers_bounded n acc operator.Lt ty a b set
  binary_bounded n acc binary_operator.LessEqual ty c a b set = numbers_bounded n acc operator.Le ty a b set
  binary_bounded n acc binary_operator.Greater ty c a b set = numbers_bounded n acc operator.Lt ty b a set
  binary_bounded n acc binary_operator.GreaterEqual ty c a b set = numbers_bounded n acc operator.Le ty b a set
  binary_bounded n acc binary_operator.Equal ty c a b set = numbers_bounded n acc operator.Eq ty a b set
  binary_bounded n acc binary_operator.NotEqual ty c a b set = numbers_bounded n acc operator.Ne ty a b set

  -- ---- expressions

  same_self : (ty : Ty) → is_same ty (Integer ty ∷ []) ≡ true
  same_self ty = (λ i. same_width ty.width i && (if ty.signed then ty.signed else not ty.signed)) ∙ signs ty.signed where
    same_width : (n : ℕ) → (n == n) ≡ true
    same_width n = grind arith

    signs : (s : Bool) → (if s then s else not s) ≡ true
    signs true = refl
    signs false = refl

  and_true : (x y : Bool) → x ≡ true → y ≡ true → (x && y) ≡ true
  and_true true true e d = refl
  and_true true false e d = cc
  and_true false y e d = cc

  conversion_bounded : (n : ℕ) (acc : Temps) (types : List CellType) (to : Ty) (a : Operand) (set : Member → Bool) → IsInteger types → Within (may_of acc a) set → IsBelow n a → Bounded (λ m. is_same to types && set m) (conversion n types to a) n acc
  conversion_bounded n acc [] to a set p h b = absurd p
  conversion_bounded n acc (Integer from ∷ []) to a set p h b = go (same_type (Integer to) (Integer from)) refl where
    go : (x : Bool) → same_type (Integer to) (Integer from) ≡ x → Bounded (λ m. is_same to (Integer from ∷ []) && set m) (if x && true then nothing n a else computed n (Convert to a)) n acc
    go true e = record {
      closing = none_closing n acc;
      bound = λ m q. and_true (is_same to (Integer from ∷ [])) (set m) (subst (λ t. is_same t (Integer from ∷ []) ≡ true) (sym (same_types to from e)) (same_self from)) (h m q);
      below = b;
    }
    go false e = computed_bounded n acc (Convert to a) (λ m. is_same to (Integer from ∷ []) && set m) (λ temps. tt) (quiet_convert n to a)
  conversion_bounded n acc (Pointer ∷ []) to a set p h b = absurd p
  conversion_bounded n acc (t ∷ u ∷ types) to a set p h b = absurd p

  truth_bounded : (n : ℕ) (acc : Temps) (types : List CellType) (a : Operand) → IsInteger types → Bounded nowhere (truth_code n types a) n acc
  truth_bounded n acc [] a p = absurd p
  truth_bounded n acc (Integer ty ∷ []) a p = numbers_bounded n acc operator.Ne ty a zero_number nowhere
  truth_bounded n acc (Pointer ∷ []) a p = absurd p
  truth_bounded n acc (t ∷ u ∷ types) a p = absurd p

  checked_sets : (c : ℕ) (a : Operand) (acc : Temps) → nodes_sets (checked c a) acc ≡ acc
  checked_sets zero a acc = refl
  checked_sets (suc c) a acc = refl

  -- what an operand may be stays, where temporaries keep their sets
  operand_may : (temps acc : Temps) (n : ℕ) (a : Operand) (set : Member → Bool) → IsBelow n a → ((i : ℕ) → i < n → temps i ≡ acc i) → Within (may_of acc a) set → Within (may_be (fam temps) a) set
  operand_may temps acc n (Constant v) set b e h = h
  operand_may temps acc n (Temp j) set b e h = subst (λ s. Within s set) (sym (e j b)) h

  -- what is written to an object that takes it in
  write_closing : (n : ℕ) (acc : Temps) (ty : CellType) (o f : ℕ) (a : Operand) → IsBelow n a → Within (may_of acc a) (sets o) → Closing n acc (only (action.Write ty (cell o f) a)) n
  write_closing n acc ty o f a b h =
      only_closing n acc (action.Write ty (cell o f) a) refl
      (λ temps e p q. subst (λ x. Within (may_be (fam temps) a) (sets x)) (same_object o p q) (operand_may temps acc n a (sets o) b e h))

  within_trans : (a b c : Member → Bool) → Within a b → Within b c → Within a c
  within_trans a b c h k m e = k m (h m e)

  module _ (cells : Layout) where
    expression_bounded : (e : TypedTree) → IsTyped cells e → IsTakenIn sets e → (n : ℕ) (acc : Temps) → Bounded (pointing.may_be sets e) (expression n e) n acc
    expression_bounded (tree.Constant ty v) h t n acc = record { closing = none_closing n acc; bound = λ m e. e; below = tt }
    expression_bounded (tree.Choice ty) h t n acc = record {
      closing = result_closing n acc (action.Choice n ty) nowhere refl (λ temps e. tt);
      bound = subst (λ s. Within s (pointing.may_be sets (tree.Choice ty))) (sym (set_same acc n nowhere)) (λ m e. e);
      below = omega arith;
    }
    expression_bounded (tree.Read ty (tree.Object o)) h t n acc = record {
      closing = result_closing n acc (action.Read n ty (cell o 0)) (sets o) refl (λ temps e p q. subst (λ s. Within (sets p) s) (sym e) (subst (λ x. Within (sets p) (sets x)) (sym (same_object o p q)) (λ m z. z)));
      bound = subst (λ s. Within s (sets o)) (sym (set_same acc n (sets o))) (λ m e. e);
      below = omega arith;
    }
    expression_bounded (tree.Unary op ty c e) (h, is) t n acc =
        let x = expression n e in
        behind_bounded (pointing.may_be sets e) (pointing.may_be sets (tree.Unary op ty c e)) x (λ m a. unary_code m op ty c a) n acc (expression_bounded e h t n acc) (unary_bounded x.next (nodes_sets x.nodes acc) op ty c x.operand _)
    expression_bounded (tree.Binary op ty c x y) (h, is, h', is') (t, t') n acc =
        let a = expression n x in
        let b = expression a.next y in
        let later = nodes_sets a.nodes acc in
        behind_bounded (pointing.may_be sets x) (pointing.may_be sets (tree.Binary op ty c x y)) a (λ m p. behind (expression m y) (λ j q. binary_code j op ty c p q)) n acc (expression_bounded x h t n acc)
        (behind_bounded (pointing.may_be sets y) (pointing.may_be sets (tree.Binary op ty c x y)) b (λ j q. binary_code j op ty c a.operand q) a.next later (expression_bounded y h' t' a.next later) (binary_bounded b.next (nodes_sets b.nodes later) op ty c a.operand b.operand _))
    expression_bounded (tree.Convert ty e) (h, is) t n acc =
        let x = expression n e in
        let w = expression_bounded e h t n acc in
        behind_bounded (pointing.may_be sets e) (pointing.may_be sets (tree.Convert ty e)) x (λ m a. conversion m (type_of e) ty a) n acc w (conversion_bounded x.next (nodes_sets x.nodes acc) (type_of e) ty x.operand (pointing.may_be sets e) is w.bound w.below)
    expression_bounded (tree.Assign ty (tree.Object o) e) (is, h, is') (t, in') n acc =
        let x = expression n e in
        let later = nodes_sets x.nodes acc in
        let w = expression_bounded e h t n acc in
        behind_bounded (pointing.may_be sets e) (pointing.may_be sets e) x (λ m a. record { nodes = only (action.Write ty (cell o 0) a); operand = a; next = m }) n acc w
        (record { closing = write_closing x.next later ty o 0 x.operand w.below (within_trans (may_of later x.operand) (pointing.may_be sets e) (sets o) w.bound in'); bound = w.bound; below = w.below })
    expression_bounded (tree.Assert c e) (h, is) t n acc =
        let x = expression n e in
        let y = condition n e in
        let last = checked c y.operand in
        let k = behind_bounded (pointing.may_be sets e) nowhere x (λ m a. truth_code m (type_of e) a) n acc (expression_bounded e h t n acc) (truth_bounded x.next (nodes_sets x.nodes acc) (type_of e) x.operand is) in
        record {
          closing = join_closing n y.next y.next acc y.nodes last k.closing (checked_closing c y.next (nodes_sets y.nodes acc) y.operand);
          bound = subst (λ s. Within (may_of s y.operand) nowhere) (sym (join_sets y.nodes last acc ∙ checked_sets c y.operand (nodes_sets y.nodes acc))) k.bound;
          below = k.below;
        }

    condition_closing : (e : TypedTree) → IsTyped cells e → IsInteger (type_of e) → IsTakenIn sets e → (n : ℕ) (acc : Temps) → Closing n acc (condition n e).nodes (condition n e).next
    condition_closing e h is t n acc =
        let x = expression n e in
        (behind_bounded (pointing.may_be sets e) nowhere x (λ m a. truth_code m (type_of e) a) n acc (expression_bounded e h t n acc) (truth_bounded x.next (nodes_sets x.nodes acc) (type_of e) x.operand is)).closing

    -- ---- declarations

    deads_closing : (n : ℕ) (acc : Temps) (os : List ℕ) → Closing n acc (deads os) n
    deads_closing n acc [] = none_closing n acc
    deads_closing n acc (o ∷ os) = join_closing n n n acc (only (action.Dead o)) (deads os) (only_closing n acc (action.Dead o) refl (λ temps e. tt)) (deads_closing n acc os)

    pub ends_closing : (n : ℕ) (acc : Temps) (os : List ℕ) → Closing n acc (join (deads os) (only action.End)) n
    ends_closing n acc os = join_closing n n n acc (deads os) (only action.End) (deads_closing n acc os) (only_closing n (nodes_sets (deads os) acc) action.End refl (λ temps e. tt))

    -- an object without an initialiser may hold Invalid where it has pointer cells
    abbrev pub StartsInvalid : ℕ → Type 0
    StartsInvalid o = pointing.has_pointer (cells o) ≡ true → sets o member.Invalid ≡ true

    pointer_there : (xs : List CellType) (f : ℕ) (types : List CellType) → from f xs ≡ Pointer ∷ types → pointing.has_pointer xs ≡ true
    pointer_there [] zero types e = cc
    pointer_there [] (suc f) types e = cc
    pointer_there (Integer ty ∷ xs) zero types e = cc
    pointer_there (Integer ty ∷ xs) (suc f) types e = pointer_there xs f types e
    pointer_there (Pointer ∷ xs) f types e = refl

    invalid_within : (set : Member → Bool) → set member.Invalid ≡ true → Within (targets Invalid) set
    invalid_within set h member.Null e = cc
    invalid_within set h member.Invalid e = h
    invalid_within set h (member.Object o) e = cc

    filled_closing : (n o f : ℕ) (types : List CellType) (acc : Temps) → StartsInvalid o → from f (cells o) ≡ types → Closing n acc (filled n o f types).nodes (filled n o f types).next
    filled_closing n o f [] acc h e = none_closing n acc
    filled_closing n o f (Integer ty ∷ types) acc h e =
        let choice = action.Choice n ty in
        let write = action.Write (Integer ty) (cell o f) (Temp n) in
        let known = with_set acc n nowhere in
        let rest = filled (suc n) o (suc f) types in
        join_closing n (suc n) rest.next acc (only choice) (more (Do write) rest.nodes) (result_closing n acc choice nowhere refl (λ temps e. tt))
        (join_closing (suc n) (suc n) rest.next known (only write) rest.nodes (write_closing (suc n) known (Integer ty) o f (Temp n) (omega arith) (subst (λ s. Within s (sets o)) (sym (set_same acc n nowhere)) (λ m z. cc)))
        (filled_closing (suc n) o (suc f) types known h (from_next (cells o) f (Integer ty) types e)))
    filled_closing n o f (Pointer ∷ types) acc h e =
        let write = action.Write Pointer (cell o f) (Constant Invalid) in
        let rest = filled n o (suc f) types in
        join_closing n n rest.next acc (only write) rest.nodes (write_closing n acc Pointer o f (Constant Invalid) tt (invalid_within (sets o) (h (pointer_there (cells o) f types e)))) (filled_closing n o (suc f) types acc h (from_next (cells o) f Pointer types e))

    pub declaration_closing : (n o : ℕ) (acc : Temps) → StartsInvalid o → Closing n acc (declaration cells n o).nodes (declaration cells n o).next
    declaration_closing n o acc h =
        let p = filled n o 0 (cells o) in
        join_closing n n p.next acc (only (action.Live o)) p.nodes (only_closing n acc (action.Live o) refl (λ temps e. tt)) (filled_closing n o 0 (cells o) acc h refl)

    initialised_closing : (n o : ℕ) (types : List CellType) (a : Operand) (acc : Temps) (set : Member → Bool) → IsBelow n a → Within (may_of acc a) set → Within set (sets o) → Closing n acc (initialised o types a) n
    initialised_closing n o [] a acc set b h k = none_closing n acc
    initialised_closing n o (ty ∷ rest) a acc set b h k = write_closing n acc ty o 0 a b (within_trans (may_of acc a) set (sets o) h k)

    -- ---- statements

    guard_closing : (e : TypedTree) (p : ℕ → Part) (n : ℕ) (acc : Temps) → IsTyped cells e → IsInteger (type_of e) → IsTakenIn sets e → ((later : Temps) → Closing (condition n e).next later (p (condition n e).next).nodes (p (condition n e).next).next) → Closing n acc (guard (condition n e) p).nodes (guard (condition n e) p).next
    guard_closing e p n acc h is t next =
        let x = condition n e in
        let q = p x.next in
        let later = nodes_sets x.nodes acc in
        join_closing n x.next q.next acc x.nodes (more (Do (action.Unless x.operand 0)) q.nodes) (condition_closing e h is t n acc)
        (join_closing x.next x.next q.next later (only (action.Unless x.operand 0)) q.nodes (only_closing x.next later (action.Unless x.operand 0) refl (λ temps e. tt)) (next later))

    module _ (is_static : ℕ → Bool) (starts : (o : ℕ) → is_static o ≡ false → StartsInvalid o) (result : List CellType) where
      abbrev Closes : Part → ℕ → Temps → Type 0
      Closes p n acc = Closing n acc p.nodes p.next

      mutual
        pub statement_closing : (s : CheckedTree) → IsTypedStatement cells result s → StatementIsTakenIn sets s → (names : List ℕ) → IsScopedStatement is_static names s → (scope : List ℕ) (n : ℕ) (acc : Temps) → Closes (statement cells scope n s) n acc
        statement_closing (tree.Block all) h t names c scope n acc =
            let x = statements cells scope n all in
            join_closing n x.next x.next acc x.nodes (deads (declared all)) (statements_closing all h t names c scope n acc) (deads_closing x.next (nodes_sets x.nodes acc) (declared all))
        statement_closing (tree.Declare o) h t names c scope n acc = declaration_closing n o acc (starts o c)
        statement_closing (tree.Static o) h t names c scope n acc = none_closing n acc
        statement_closing (tree.Initialise o e) (h, is) (t, in') names c scope n acc =
            let x = expression n e in
            let w = expression_bounded e h t n acc in
            let last = initialised o (type_of e) x.operand in
            join_closing n n x.next acc (only (action.Live o)) (join x.nodes last) (only_closing n acc (action.Live o) refl (λ temps e. tt))
            (join_closing n x.next x.next acc x.nodes last w.closing (initialised_closing x.next o (type_of e) x.operand (nodes_sets x.nodes acc) (pointing.may_be sets e) w.below w.bound in'))
        statement_closing (tree.Label l) h t names c scope n acc = none_closing n acc
        statement_closing (tree.Evaluate e) h t names c scope n acc =
            let x = expression n e in
            join_closing n x.next x.next acc x.nodes none (expression_bounded e h t n acc).closing (none_closing x.next (nodes_sets x.nodes acc))
        statement_closing (tree.If e s) (h, is, k) (t, t') names (c, z, d) scope n acc =
            let x = guard (condition n e) (λ m. statement cells scope m s) in
            block_closing n x.next acc x.nodes (guard_closing e (λ m. statement cells scope m s) n acc h is t (λ later. statement_closing s k t' names d scope (condition n e).next later))
        statement_closing (tree.IfElse e s z) (h, is, k, k') (t, t', t'') names (c, y, d, y', d') scope n acc =
            let x = guard (condition n e) (λ m. statement cells scope m s) in
            let first = first_side x in
            let second = statement cells scope x.next z in
            block_closing n second.next acc (join first.nodes second.nodes)
            (join_closing n x.next second.next acc first.nodes second.nodes
            (block_closing n x.next acc (join x.nodes (only (action.Goto 1)))
            (join_closing n x.next x.next acc x.nodes (only (action.Goto 1)) (guard_closing e (λ m. statement cells scope m s) n acc h is t (λ later. statement_closing s k t' names d scope (condition n e).next later))
            (only_closing x.next (nodes_sets x.nodes acc) (action.Goto 1) refl (λ temps e. tt))))
            (statement_closing z k' t'' names d' scope x.next (nodes_sets first.nodes acc)))
        statement_closing (tree.While l named e s) (h, is, k) (t, t') names (c, z, d) scope n acc =
            let x = guard (condition n e) (λ m. statement cells scope m s) in
            block_closing n x.next acc (more (Loop l x.nodes) none) (loop_closing n x.next l acc x.nodes (guard_closing e (λ m. statement cells scope m s) n acc h is t (λ later. statement_closing s k t' names d scope (condition n e).next later)))
        statement_closing (tree.Return e) (h, is) t names c scope n acc =
            let x = expression n e in
            join_closing n x.next x.next acc x.nodes (join (deads scope) (only action.End)) (expression_bounded e h t n acc).closing (ends_closing x.next (nodes_sets x.nodes acc) scope)

        pub statements_closing : (all : CheckedTrees) → AreTyped cells result all → AreTakenIn sets all → (names : List ℕ) → AreScoped is_static names all → (scope : List ℕ) (n : ℕ) (acc : Temps) → Closes (statements cells scope n all) n acc
        statements_closing tree.none h t names c scope n acc = none_closing n acc
        statements_closing (tree.more s rest) (h, k) (t, t') names (c, d) scope n acc =
            let x = statement cells scope n s in
            let y = statements cells (scopes.behind scope s) x.next rest in
            join_closing n x.next y.next acc x.nodes y.nodes (statement_closing s h t names c scope n acc) (statements_closing rest k t' (scopes.behind names s) d (scopes.behind scope s) x.next (nodes_sets x.nodes acc))
