-- What a solution shows of a single instruction.
use Rattle.std.proofs.Common.{arith, ◌≡◌, ℕ, zero, suc, ◌+◌, ◌<◌, ◌≤◌, Bool, true, false, not, refl, sym, ap, ◌∙◌, subst, List, [], ◌∷◌, ◌++◌, length, Option, Some, None, IfSome, cond}
use Rattle.std.specs.Prelude.{◌&&◌, ◌||◌, ◌==◌, pos, ◌+ℤ◌}
use Rattle.std.proofs.lemmas.Bool.{eqb-true}
use Rattle.l2_bits.specs.Operators.{breaks_division, breaks_shift, overflows}
use Rattle.l2_runs.specs.declared.cells.CellType.{CellType}
use Rattle.l2_runs.specs.declared.cells.CellType.TheVariants.{Pointer}
use Rattle.l2_runs.specs.declared.cells.CellValue.{CellValue}
use Rattle.l2_runs.specs.declared.cells.CellValue.TheVariants.{Number, Null, Invalid, At}
use Rattle.l2_runs.specs.declared.member.Member.{Member}
use Rattle.l2_runs.specs.declared.member.Member.TheVariants as member
use Rattle.l2_runs.specs.Members.{targets, Within}
use Rattle.l2_runs.specs.Store.{Store}
use Rattle.l2_code.specs.declared.action.Operand.{Operand}
use Rattle.l2_code.specs.declared.action.Operand.TheVariants.{Constant, Temp}
use Rattle.l2_code.specs.declared.action.Test.{Test}
use Rattle.l2_code.specs.declared.action.Test.TheVariants as test
use Rattle.l2_code.specs.declared.action.Computation.{Computation}
use Rattle.l2_code.specs.declared.action.Computation.TheVariants.{Numbers, Convert, Move, Pointers, Passes}
use Rattle.l2_code.specs.Values as values
use Rattle.l2_code.specs.Values.{Types, Temps, operand_value, is_true, compute, operate, on_numbers, converted, moved, on_pointers, passes, is_not_dead}
use Rattle.l2_code.specs.Sets.{may_be}
use Rattle.l2_code.specs.WellFormed.{Scope, Names as CodeNames, IsConstant, IsOperand, IsTypedComputation, IsTypedTest}
use Rattle.l2_code_laws.specs.Holding.{TempsHold}
use Rattle.l2_ssa.specs.Steps.{Compute, Names, on, bit, Meaning, Holds, looked_at, LooksInto, is_alive, Flag}
use Rattle.l2_ssa.specs.Walks.{Setting, Slot, Walk, slot_at, now, computation_now, set_of, flags_of, compute_step}
use Rattle.l2_ssa.proofs.Shows.{SlotsRead}
use Rattle.l2_ssa.proofs.Slots.{slot_reads}

-- ---- live flags

other_false : (a b : ℕ) → ¬ (a ≡ b) → (a == b) ≡ false
other_false a b h = go (a == b) refl
  where
    go : (x : Bool) → (a == b) ≡ x → x ≡ false
    go true e = absurd (h (eqb-true a b e))
    go false e = refl

module _ (s : Names) (set : Member → Bool) (slots : List Slot) (o i : ℕ) where
  one_flag : (x : Flag) (rest : List Flag) (k : Bool) → ¬ (o ≡ x.object) → is_alive s (At o i) rest ≡ k → is_alive s (At o i) (x ∷ rest) ≡ k
  one_flag x rest k h e = ap (λ b. (not b || on s x.live) && is_alive s (At o i) rest) (other_false o x.object h) ∙ e

  other_flags : (o0 : ℕ) (b : Bool) (rest : List Flag) (k : Bool) → ¬ (o ≡ o0) → is_alive s (At o i) rest ≡ k
      → is_alive s (At o i) ((cond b (record { object = o0; live = (slot_at slots o0).live } ∷ []) []) ++ rest) ≡ k
  other_flags o0 true rest k h e = one_flag (record { object = o0; live = (slot_at slots o0).live }) rest k h e
  other_flags o0 false rest k h e = e

  alive_past : (o0 k : ℕ) → o < o0 → is_alive s (At o i) (flags_of set slots o0 k) ≡ true
  alive_past o0 zero h = refl
  alive_past o0 (suc k) h = other_flags o0 (set (member.Object o0)) (flags_of set slots (suc o0) k) true (λ e. omega (arith, e, h)) (alive_past (suc o0) k (omega arith))

  own_flag : (b : Bool) (rest : List Flag) → b ≡ true → is_alive s (At o i) rest ≡ true
      → is_alive s (At o i) ((cond b (record { object = o; live = (slot_at slots o).live } ∷ []) []) ++ rest) ≡ on s (slot_at slots o).live
  own_flag true rest e h = go (on s (slot_at slots o).live) (o == o) (grind arith) h
    where
      go : (l t : Bool) → t ≡ true → is_alive s (At o i) rest ≡ true → ((not t || l) && is_alive s (At o i) rest) ≡ l
      go true true e h = h
      go false true e h = refl
      go l false e h = cc
  own_flag false rest e h = cc

  alive_at : (o0 k : ℕ) → o0 ≤ o → o < o0 + k → set (member.Object o) ≡ true → is_alive s (At o i) (flags_of set slots o0 k) ≡ on s (slot_at slots o).live
  alive_at o0 zero h j e = absurd (omega arith)
  alive_at o0 (suc k) h j e = go (o == o0) refl (λ a b. alive_at (suc o0) k a b e)
    where
      differs : (o == o0) ≡ false → (o == o0) ≡ (o0 == o0) → ⊥
      differs p y = let r : (o0 == o0) ≡ true = grind arith in cc

      above : (o == o0) ≡ false → suc o0 ≤ o
      above p = grind arith

      go : (x : Bool) → (o == o0) ≡ x → (suc o0 ≤ o → o < suc o0 + k → is_alive s (At o i) (flags_of set slots (suc o0) k) ≡ on s (slot_at slots o).live)
          → is_alive s (At o i) (flags_of set slots o0 (suc k)) ≡ on s (slot_at slots o).live
      go true q next = subst (λ z. is_alive s (At o i) (flags_of set slots z (suc k)) ≡ on s (slot_at slots o).live) (eqb-true o o0 q)
          (own_flag (set (member.Object o)) (flags_of set slots (suc o) k) e (alive_past (suc o) k (omega arith)))
      go false q next = other_flags o0 (set (member.Object o0)) (flags_of set slots (suc o0) k) _ (λ z. differs q (ap (λ n. n == o0) z)) (next (above q) (omega arith))

alive_null : (s : Names) (flags : List Flag) → is_alive s Null flags ≡ true
alive_null s [] = refl
alive_null s (x ∷ rest) = refl

alive_invalid : (s : Names) (flags : List Flag) → is_alive s Invalid flags ≡ true
alive_invalid s [] = refl
alive_invalid s (x ∷ rest) = refl

-- ---- what a walk and a run know

module _ (row : ℕ → ℕ → List CellValue → Bool) (lower : ℕ → List CellValue → List CellValue → Bool) (s : Names) (g : Setting) (checks loops : ℕ)
    (small : (n : ℕ) → length (g.types.objects n) ≤ 65536) (there : (o : ℕ) → 0 < length (g.types.objects o) → (1 ≤ o) × (o < 1 + g.objects)) where
  abbrev pub meaning : Meaning
  meaning = record { types = g.types; row = row; lower = lower }

  abbrev pub names : CodeNames
  names = record { objects = g.types.objects; pointed = g.types.pointed; checks = checks; loops = loops }

  abbrev pub Held : Scope → Temps → Type 0
  Held scope t = TempsHold g.types.objects g.family scope t

  -- ---- computations

  module _ (w : Walk) (t : Temps) (st : Store) (scope : Scope) (held : Held scope t) (path : on s w.path ≡ true) (temps : (n : ℕ) → operand_value s (w.temps n) ≡ t n)
      (reads : SlotsRead meaning s g w.slots st) where
    pub operand_now : (a : Operand) → operand_value s (now w a) ≡ operand_value t a
    operand_now (Constant v) = refl
    operand_now (Temp n) = temps n

    held_set : (a : Operand) → Within (targets (operand_value t a)) (may_be g.family a)
    held_set (Constant v) = λ m e. e
    held_set (Temp n) = held.sets n

    looks_at : (a : Operand) → Within (targets (operand_value s (now w a))) (may_be g.family a)
    looks_at a = subst (λ (v : CellValue). Within (targets v) (may_be g.family a)) (sym (operand_now a)) (held_set a)

    plain : (n : ℕ) (c : Computation) → compute g.types [] s (computation_now w c) ≡ compute g.types st t c → LooksInto s (looked_at (computation_now w c)) (set_of g.family c)
        → Holds meaning s n (Compute w.path (computation_now w c) (set_of g.family c)) → IfSome (compute g.types st t c) (λ v. s n ≡ v)
    plain n c same looks h = subst (λ (x : Option CellValue). IfSome x (λ v. s n ≡ v)) same (h path looks)

    alive_is : (a : Operand) (v : CellValue) → IsConstant g.types.objects Pointer v → Within (targets v) (may_be g.family a) → is_alive s v (flags_of (may_be g.family a) w.slots 1 g.objects) ≡ is_not_dead st v
    alive_is a (Number z) h q = absurd h
    alive_is a Null h q = alive_null s _
    alive_is a Invalid h q = alive_invalid s _
    alive_is a (At o i) h q =
        let p = there o h.0 in
        alive_at s (may_be g.family a) w.slots o i 1 g.objects p.0 p.1 (q (member.Object o) (grind arith)) ∙ (slot_reads meaning s g w.slots st o reads).1

    operand_constant : (ty : CellType) (a : Operand) → IsOperand g.types.objects scope ty a → IsConstant g.types.objects ty (operand_value t a)
    operand_constant ty (Constant v) h = h
    operand_constant ty (Temp n) h = at (scope n) h (held.types n)
      where
        at : (x : Option _) → Rattle.l2_code.specs.WellFormed.IsOfType ty x → Rattle.l2_code_laws.specs.Holding.KnownHolds g.types.objects x (t n) → IsConstant g.types.objects ty (t n)
        at None e p = absurd e
        at (Some kn) e p = subst (λ (y : CellType). IsConstant g.types.objects y (t n)) e p.0

    test_value : (n : ℕ) (x : Test) → IsTypedTest names scope x → Holds meaning s n (compute_step g w (Passes x)) → s n ≡ bit (passes g.types st t x)
    test_value n (test.Division ty a b) k h = plain n (Passes (test.Division ty a b)) (λ i. Some (bit (values.are_numbers (λ x y. not (breaks_division ty x y)) (operand_now a i) (operand_now b i)))) tt h
    test_value n (test.Shift ty a) k h = plain n (Passes (test.Shift ty a)) (λ i. Some (bit (values.is_number (λ x. not (breaks_shift ty x)) (operand_now a i)))) tt h
    test_value n (test.Overflow op ty a b) k h = plain n (Passes (test.Overflow op ty a b)) (λ i. Some (bit (values.are_numbers (λ x y. not (overflows op ty x y)) (operand_now a i) (operand_now b i)))) tt h
    test_value n (test.Index l a) k h = plain n (Passes (test.Index l a)) (λ i. Some (bit (values.is_number (values.is_below (pos l)) (operand_now a i)))) tt h
    test_value n (test.IndexEnd l a) k h = plain n (Passes (test.IndexEnd l a)) (λ i. Some (bit (values.is_number (values.is_below (pos l +ℤ pos 1)) (operand_now a i)))) tt h
    test_value n (test.Null a) k h = plain n (Passes (test.Null a)) (λ i. Some (bit (values.is_not_null (operand_now a i)))) (looks_at a) h
    test_value n (test.Invalid a) k h = plain n (Passes (test.Invalid a)) (λ i. Some (bit (values.is_not_invalid (operand_now a i)))) (looks_at a) h
    test_value n (test.Live a) k h =
        h path ∙ ap bit (ap (λ v. is_alive s v (flags_of (may_be g.family a) w.slots 1 g.objects)) (operand_now a) ∙ alive_is a (operand_value t a) (operand_constant Pointer a k) (held_set a))
    test_value n (test.Cells x a) k h = plain n (Passes (test.Cells x a)) (λ i. Some (bit (values.has_cells g.types.objects (g.types.pointed x) (operand_now a i)))) (looks_at a) h
    test_value n (test.Move by a b) k h = plain n (Passes (test.Move by a b)) (λ i. Some (bit (values.is_some (moved g.types.objects by (operand_now a i) (operand_now b i))))) (looks_at a) h
    test_value n (test.Same a b) k h = plain n (Passes (test.Same a b)) (λ i. Some (bit (values.same_object (operand_now a i) (operand_now b i)))) (looks_at a) h

    pub step_value : (n : ℕ) (c : Computation) → IsTypedComputation names scope c → Holds meaning s n (compute_step g w c) → IfSome (compute g.types st t c) (λ v. s n ≡ v)
    step_value n (Numbers op ty a b) k h = plain n (Numbers op ty a b) (λ i. on_numbers (operate op ty) (operand_now a i) (operand_now b i)) tt h
    step_value n (Convert ty a) k h = plain n (Convert ty a) (λ i. converted ty (operand_now a i)) tt h
    step_value n (Move by a b) k h = plain n (Move by a b) (λ i. moved g.types.objects by (operand_now a i) (operand_now b i)) (looks_at a) h
    step_value n (Pointers op a b) k h = plain n (Pointers op a b) (λ i. on_pointers op (operand_now a i) (operand_now b i)) tt h
    step_value n (Passes x) k h = test_value n x k h
