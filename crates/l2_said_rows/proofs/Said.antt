-- The literals of rows, one after another.
use Rattle.std.proofs.Common.{◌≡◌, ℕ, suc, ◌+◌, ◌≤◌, ◌<◌, Bool, true, false, not, ℤ, refl, sym, ap, ◌∙◌, subst, List, [], ◌∷◌, length, map, arith}
use Rattle.l2_runs.specs.declared.cells.CellValue.{CellValue}
use Rattle.l2_runs.specs.declared.cells.CellValue.TheVariants.{Number}
use Rattle.l2_code.specs.declared.action.Operand.{Operand}
use Rattle.l2_code.specs.declared.action.Operand.TheVariants.{Constant, Temp}
use Rattle.l2_code.specs.Values.{is_true}
use Rattle.l2_ssa.specs.Steps.{Step, Choose, Take, Half, Point, Among, Compute, Alive, Pick, Row, Lower, Apart, Both, But, Either, Merge, bit, values_of, IsBefore, AreBefore, InOrder}
use Rattle.l2_gates.specs.Gates.{Lit, F, negated, same, Made, Bit, xor}
use Rattle.l2_gates.specs.Models.{differ, value, Ok, Below, Sound, Gives, Extends, Makes}
use Rattle.l2_gates.specs.Law.{GatesHaveValues}
use Rattle.l2_gates.proofs.Bools.{by_test}
use Rattle.l2_gates.proofs.Made.{below_up, negated_below, ext_refl, ext_then, gates_make}
use Rattle.l2_gates.proofs.Values.{negated_value}
use Rattle.l2_row_circuits.specs.Law.{WordsBelow}
use Rattle.l2_blast.specs.Sorts.{Truth, sorts_of, AreNumbers, AreTyped}
use Rattle.l2_blast.specs.Words.{Env, name, first, literal, wide_words, Fill, Setting}
use Rattle.l2_blast_laws.specs.Law.{shown, solution, IsSized, IsMade, meaning_of, WordsShow, FillMeans}
use Rattle.l2_blast_laws.specs.Behind.{behind, AreAsSaid}
use Rattle.l2_blast_laws.proofs.Circuits.{Circuits}
use Rattle.l2_blast_laws.proofs.Envs.{EnvBelow, env_up, name_below}
use Rattle.l2_blast_laws.proofs.Making.{F_below, first_below, words_below}
use Rattle.l2_blast_laws.proofs.Folds.{Folds, all_made}
use Rattle.l2_blast_laws.proofs.Solving.{Agree as SortsAgree, own_sorts, all_sorted, total, numbers_show_behind}
use Rattle.l2_said_rows.specs.Saying.{Literals, behind_bit, say_rows}
use Rattle.l2_said_rows.specs.Law.{Says, SaidRows}

-- ---- truth values

agree : (a b : Bool) → not (differ a b) ≡ true → a ≡ b
agree true true e = refl
agree true false e = sym e
agree false true e = e
agree false false e = refl

agreed : (a b : Bool) → a ≡ b → not (differ a b) ≡ true
agreed true true e = refl
agreed true false e = sym e
agreed false true e = e
agreed false false e = refl

bit_is : (b : Bool) → is_true (bit b) ≡ b
bit_is true = refl
bit_is false = refl

same_bits : (a b : Bool) → bit a ≡ bit b → a ≡ b
same_bits a b e = sym (bit_is a) ∙ ap is_true e ∙ bit_is b

before_all : (n all : ℕ) (a : Operand) → n ≤ all → IsBefore n a → IsBefore all a
before_all n all (Constant x) l b = tt
before_all n all (Temp i) l b = omega (arith, l, b)

are_before : (n all : ℕ) (as' : List Operand) → n ≤ all → AreBefore n as' → AreBefore all as'
are_before n all [] l b = tt
are_before n all (a ∷ rest) l b = (before_all n all a l b.0, are_before n all rest l b.1)

module _ (gates : GatesHaveValues) (c : Circuits) (s : Setting) (sized : IsSized s) (made : IsMade s.fill) (before : Made) (so : Sound before) (xs : List Step) (r : InOrder 0 xs) (ty : AreTyped s.types (sorts_of xs) xs)
    (fill : Fill) (fills : IsMade fill) (row : ℕ → ℕ → List CellValue → Bool) (lower : ℕ → List CellValue → List CellValue → Bool) (means : (v : ℕ → Bool) → v 0 ≡ true → FillMeans v fill (meaning_of s row lower)) where
  abbrev env : Env
  env = (behind s xs before).env

  abbrev base : Made
  base = (behind s xs before).made

  folds : Folds before (behind s xs before)
  folds = all_made c s made xs [] before so tt

  abbrev Said : (ℕ → Bool) → ℕ → List Step → Type 0
  Said v n ys = AreAsSaid (meaning_of s row lower) env (solution env v) n ys

  names_below : (m : Made) → Extends base m → EnvBelow m.next env
  names_below m x = env_up base.next m.next env x.grows folds.below

  own_below : (m : Made) → Extends base m → (n : ℕ) → Below m.next (first (name env n).bits)
  own_below m x n = first_below m.next (name env n).bits (F_below m x.sound) (name_below m.next env n (names_below m x))

  words_there : (m : Made) → Extends base m → (vars : List Operand) → WordsBelow m.next (wide_words env vars)
  words_there m x vars = words_below c.constants_are_there m x.sound env (names_below m x) vars

  numbers : (v : ℕ → Bool) → v 0 ≡ true → Ok v base → (n : ℕ) → n ≤ length xs → (vars : List Operand) → AreBefore n vars → AreNumbers (sorts_of xs) vars
      → (zs : List ℤ) × (values_of (solution env v) vars ≡ map Number zs) × WordsShow v (wide_words env vars) zs
  numbers v one ok n l vars b h = numbers_show_behind c s sized made before so xs r ty v one ok vars (are_before n (length xs) vars l b) h

  own_shown : (v : ℕ → Bool) → v 0 ≡ true → Ok v base → (n : ℕ) → n < length xs → sorts_of xs n ≡ Truth 1 → solution env v n ≡ bit (value v (first (name env n).bits))
  own_shown v one ok n l e =
      ap (λ k. shown v k (name env n).bits) (all_sorted c s sized made before so xs r ty v one ok n (let z = total c s sized made before so xs r ty v one ok in omega (arith, l, z)) ∙ e)

  -- one row behind those that follow
  module _ (n : ℕ) (y : Step) (ys : List Step) (m : Made) (x : Extends base m) (k : Bit) (km : Makes m k) where
    abbrev own : Lit
    own = first (name env n).bits

    abbrev gate : Bit
    gate = xor own k.bit k.made

    gate_made : Makes k.made gate
    gate_made = (gates_make k.made km.extends.sound).xors own k.bit (below_up m.next k.made.next own km.extends.grows (own_below m x n)) km.bit

    to_gate : Extends m gate.made
    to_gate = ext_then m k.made gate.made km.extends gate_made.extends

    pub from_base : Extends base gate.made
    from_base = ext_then base m gate.made x to_gate

    -- the literal is true where the variable is as the circuit is
    literal_is : (v : ℕ → Bool) → v 0 ≡ true → Ok v gate.made → (b : Bool) → Gives v m b k → value v (negated gate.bit) ≡ not (differ (value v own) b)
    literal_is v one ok b gives =
        let g = (gates v one k.made).xors own k.bit ok in
        negated_value v gate.bit ∙ ap not (g.is ∙ ap (differ (value v own)) (gives g.before).is)

    module _ (rest : Literals) (ih : Says s row lower env (suc n) ys gate.made rest) (said : (v : ℕ → Bool) → Bool) (gives : (v : ℕ → Bool) → v 0 ≡ true → Ok v base → Gives v m (said v) k)
        (only : (v : ℕ → Bool) → v 0 ≡ true → Ok v base → value v own ≡ said v → Said v (suc n) ys → Said v n (y ∷ ys))
        (all : (v : ℕ → Bool) → v 0 ≡ true → Ok v base → Said v n (y ∷ ys) → (value v own ≡ said v) × Said v (suc n) ys) where
      pub one_says : Says s row lower env n (y ∷ ys) m (behind_bit (negated gate.bit) rest)
      one_says = record {
        extends = ext_then m gate.made rest.made to_gate ih.extends;
        below = (below_up gate.made.next rest.made.next (negated gate.bit) ih.extends.grows (negated_below gate.made.next gate.bit gate_made.bit), ih.below);
        only = λ v one ok t.
            let g = ih.extends.back v ok in
            let b = from_base.back v g in
            only v one b (agree (value v own) (said v) (sym (literal_is v one g (said v) (gives v one b)) ∙ t.0)) (ih.only v one ok t.1);
        all = λ v one ok a.
            let g = ih.extends.back v ok in
            let b = from_base.back v g in
            let h = all v one b a in
            (literal_is v one g (said v) (gives v one b) ∙ agreed (value v own) (said v) h.0, ih.all v one ok h.1);
      }

  skipped : (n : ℕ) (y : Step) (ys : List Step) (m : Made) (rest : Literals) → ((v : ℕ → Bool) → Said v (suc n) ys → Said v n (y ∷ ys)) → ((v : ℕ → Bool) → Said v n (y ∷ ys) → Said v (suc n) ys)
      → Says s row lower env (suc n) ys m rest → Says s row lower env n (y ∷ ys) m rest
  skipped n y ys m rest f g ih = record { extends = ih.extends; below = ih.below; only = λ v one ok t. f v (ih.only v one ok t); all = λ v one ok a. ih.all v one ok (g v a) }

  row_says : (n : ℕ) (g : Operand) (l i : ℕ) (vars : List Operand) (ys : List Step) (m : Made) (x : Extends base m) → AreBefore n vars → AreNumbers (sorts_of xs) vars → sorts_of xs n ≡ Truth 1 → n < length xs
      → ((m : Made) → Extends base m → Says s row lower env (suc n) ys m (say_rows fill env (suc n) ys m)) → Says s row lower env n (Row g l i vars ∷ ys) m (say_rows fill env n (Row g l i vars ∷ ys) m)
  row_says n g l i vars ys m x b h t inside next =
      by_test (Says s row lower env n (Row g l i vars ∷ ys) m) (same (literal env g) F) (say_rows fill env (suc n) ys m) (behind_bit (negated (xor (first (name env n).bits) k.bit k.made).bit) (say_rows fill env (suc n) ys (xor (first (name env n).bits) k.bit k.made).made))
      (λ e. skipped n (Row g l i vars) ys m _ (λ v t. ((λ p. absurd (cc)), t)) (λ v t. t.1) (next m x))
      (λ e. one_says n (Row g l i vars) ys m x k km (say_rows fill env (suc n) ys (xor (first (name env n).bits) k.bit k.made).made) (next (xor (first (name env n).bits) k.bit k.made).made (from_base n (Row g l i vars) ys m x k km))
      (λ v. row l i (values_of (solution env v) vars))
      (λ v one ok. let z = numbers v one ok n (omega (arith, inside)) vars b h in subst (λ w. Gives v m (row l i w) k) (sym z.1) ((means v one).row l i (wide_words env vars) z.0 m z.2))
      (λ v one ok is rest. ((λ p. own_shown v one ok n inside t ∙ ap bit is), rest))
      (λ v one ok a. (same_bits _ _ (sym (own_shown v one ok n inside t) ∙ a.0 e), a.1)))
    where
      k : Bit
      k = fill.row l i (wide_words env vars) m

      km : Makes m k
      km = fills.row l i (wide_words env vars) m x.sound (words_there m x vars)

  rank_says : (n : ℕ) (g : Operand) (l : ℕ) (old now : List Operand) (ys : List Step) (m : Made) (x : Extends base m) → AreBefore n old → AreBefore n now → AreNumbers (sorts_of xs) old → AreNumbers (sorts_of xs) now → sorts_of xs n ≡ Truth 1 → n < length xs
      → ((m : Made) → Extends base m → Says s row lower env (suc n) ys m (say_rows fill env (suc n) ys m)) → Says s row lower env n (Lower g l old now ∷ ys) m (say_rows fill env n (Lower g l old now ∷ ys) m)
  rank_says n g l old now ys m x b b' h h' t inside next =
      by_test (Says s row lower env n (Lower g l old now ∷ ys) m) (same (literal env g) F) (say_rows fill env (suc n) ys m) (behind_bit (negated (xor (first (name env n).bits) k.bit k.made).bit) (say_rows fill env (suc n) ys (xor (first (name env n).bits) k.bit k.made).made))
      (λ e. skipped n (Lower g l old now) ys m _ (λ v t. ((λ p. absurd (cc)), t)) (λ v t. t.1) (next m x))
      (λ e. one_says n (Lower g l old now) ys m x k km (say_rows fill env (suc n) ys (xor (first (name env n).bits) k.bit k.made).made) (next (xor (first (name env n).bits) k.bit k.made).made (from_base n (Lower g l old now) ys m x k km))
      (λ v. lower l (values_of (solution env v) old) (values_of (solution env v) now))
      (λ v one ok. let y = numbers v one ok n (omega (arith, inside)) old b h in let z = numbers v one ok n (omega (arith, inside)) now b' h' in
      subst (λ w. Gives v m (lower l w (values_of (solution env v) now)) k) (sym y.1) (subst (λ w. Gives v m (lower l (map Number y.0) w) k) (sym z.1) ((means v one).lower l (wide_words env old) (wide_words env now) y.0 z.0 m y.2 z.2)))
      (λ v one ok is rest. ((λ p. own_shown v one ok n inside t ∙ ap bit is), rest))
      (λ v one ok a. (same_bits _ _ (sym (own_shown v one ok n inside t) ∙ a.0 e), a.1)))
    where
      k : Bit
      k = fill.lower l (wide_words env old) (wide_words env now) m

      km : Makes m k
      km = fills.lower l (wide_words env old) (wide_words env now) m x.sound (words_there m x old) (words_there m x now)

  all_say : (ys : List Step) (n : ℕ) (m : Made) → Extends base m → InOrder n ys → AreTyped s.types (sorts_of xs) ys → SortsAgree (sorts_of xs) n ys → n + length ys ≡ length xs → Says s row lower env n ys m (say_rows fill env n ys m)
  all_say [] n m x o h a e = record { extends = ext_refl m x.sound; below = tt; only = λ v one ok t. tt; all = λ v one ok t. tt }
  all_say (Row g l i vars ∷ ys) n m x o h a e =
      row_says n g l i vars ys m x (o.0.1) (h.0.1) (a.0) (omega (arith, e)) (λ m x. all_say ys (suc n) m x o.1 h.1 a.1 (omega (arith, e)))
  all_say (Lower g l old now ∷ ys) n m x o h a e =
      rank_says n g l old now ys m x (o.0.1) (o.0.2) (h.0.1) (h.0.2) (a.0) (omega (arith, e)) (λ m x. all_say ys (suc n) m x o.1 h.1 a.1 (omega (arith, e)))
  all_say (Choose g ∷ ys) n m x o h a e = skipped n (Choose g) ys m _ (λ v t. (tt, t)) (λ v t. t.1) (all_say ys (suc n) m x o.1 h.1 a.1 (omega (arith, e)))
  all_say (Take g ty ∷ ys) n m x o h a e = skipped n (Take g ty) ys m _ (λ v t. (tt, t)) (λ v t. t.1) (all_say ys (suc n) m x o.1 h.1 a.1 (omega (arith, e)))
  all_say (Half g ∷ ys) n m x o h a e = skipped n (Half g) ys m _ (λ v t. (tt, t)) (λ v t. t.1) (all_say ys (suc n) m x o.1 h.1 a.1 (omega (arith, e)))
  all_say (Point g p q ∷ ys) n m x o h a e = skipped n (Point g p q) ys m _ (λ v t. (tt, t)) (λ v t. t.1) (all_say ys (suc n) m x o.1 h.1 a.1 (omega (arith, e)))
  all_say (Among g p q set ∷ ys) n m x o h a e = skipped n (Among g p q set) ys m _ (λ v t. (tt, t)) (λ v t. t.1) (all_say ys (suc n) m x o.1 h.1 a.1 (omega (arith, e)))
  all_say (Compute g z set ∷ ys) n m x o h a e = skipped n (Compute g z set) ys m _ (λ v t. (tt, t)) (λ v t. t.1) (all_say ys (suc n) m x o.1 h.1 a.1 (omega (arith, e)))
  all_say (Alive g p flags ∷ ys) n m x o h a e = skipped n (Alive g p flags) ys m _ (λ v t. (tt, t)) (λ v t. t.1) (all_say ys (suc n) m x o.1 h.1 a.1 (omega (arith, e)))
  all_say (Pick g p q i ty z w ∷ ys) n m x o h a e = skipped n (Pick g p q i ty z w) ys m _ (λ v t. (tt, t)) (λ v t. t.1) (all_say ys (suc n) m x o.1 h.1 a.1 (omega (arith, e)))
  all_say (Apart g p q ∷ ys) n m x o h a e = skipped n (Apart g p q) ys m _ (λ v t. (tt, t)) (λ v t. t.1) (all_say ys (suc n) m x o.1 h.1 a.1 (omega (arith, e)))
  all_say (Both p q ∷ ys) n m x o h a e = skipped n (Both p q) ys m _ (λ v t. (tt, t)) (λ v t. t.1) (all_say ys (suc n) m x o.1 h.1 a.1 (omega (arith, e)))
  all_say (But p q ∷ ys) n m x o h a e = skipped n (But p q) ys m _ (λ v t. (tt, t)) (λ v t. t.1) (all_say ys (suc n) m x o.1 h.1 a.1 (omega (arith, e)))
  all_say (Either p q ∷ ys) n m x o h a e = skipped n (Either p q) ys m _ (λ v t. (tt, t)) (λ v t. t.1) (all_say ys (suc n) m x o.1 h.1 a.1 (omega (arith, e)))
  all_say (Merge g i ty p q ∷ ys) n m x o h a e = skipped n (Merge g i ty p q) ys m _ (λ v t. (tt, t)) (λ v t. t.1) (all_say ys (suc n) m x o.1 h.1 a.1 (omega (arith, e)))

pub said_rows : GatesHaveValues → Circuits → SaidRows
said_rows gates c s sized made before so xs r ty fill fills row lower means m x = all_say gates c s sized made before so xs r ty fill fills row lower means xs 0 m x r ty (own_sorts xs) (omega arith)
