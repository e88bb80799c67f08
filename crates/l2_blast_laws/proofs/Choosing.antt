-- For all choices there is a model that shows them.
use Rattle.std.proofs.Common.{◌≡◌, ℕ, zero, suc, ◌+◌, ◌^◌, ◌≤◌, ◌<◌, Bool, true, false, not, ℤ, pos, refl, sym, ap, ◌∙◌, subst, List, [], ◌∷◌, ◌++◌, length, arith}
use Rattle.std.specs.Prelude.{nat_eq, if◌then◌else◌}
use Rattle.std.proofs.Math.Nat.{mod-eq_of_lt}
use Rattle.l2_bits.specs.declared.types.Ty.{Ty}
use Rattle.l2_bits.specs.Values.{IsValue, residue}
use Rattle.l2_runs.specs.declared.cells.CellType.TheVariants.{Integer}
use Rattle.l2_runs.specs.declared.cells.CellValue.{CellValue}
use Rattle.l2_runs.specs.declared.cells.CellValue.TheVariants.{Number}
use Rattle.l2_code.specs.declared.action.Operand.{Operand}
use Rattle.l2_code.specs.declared.action.Operand.TheVariants.{Constant, Temp}
use Rattle.l2_ssa.specs.Steps.{Step, Choose, Take, Half, Point, Among, Compute, Alive, Pick, Row, Lower, Apart, Both, But, Either, Merge, Names, on, bit, IsBefore, Reads, InOrder}
use Rattle.l2_gates.specs.Gates.{Lit, Pos, Neg, F, same, Made, fresh, start}
use Rattle.l2_gates.specs.Models.{both, some_of, value, some_true, all_true, Ok, Below, AllBelow, ClausesBelow, Sound, Agree}
use Rattle.l2_gates.proofs.Bools.{by_test}
use Rattle.l2_gates.proofs.Made.{fresh_extends}
use Rattle.l2_gates.proofs.Values.{is_F}
use Rattle.l2_circuits.specs.Words.{Word, known_word, constant}
use Rattle.l2_circuit_laws.specs.Values.{values, number}
use Rattle.l2_circuit_laws.proofs.Constants.{constants_show}
use Rattle.l2_circuit_laws.proofs.Signed.{values_length}
use Rattle.l2_blast.specs.Sorts.{Sort, Truth, Part, Cell, Sorts, sort_of, sorts_of, IsTruth, IsTyped, AreTyped}
use Rattle.l2_blast.specs.Words.{Named, Env, name, first, literal, Setting, bit_word, fresh_word, blank, word_of}
use Rattle.l2_blast.specs.Blasting.{named, blast}
use Rattle.l2_blast_laws.specs.Law.{shown, solution, IsMade, IsChosen, AreChosen, IsMet, AreMet, ChoicesHaveModels}
use Rattle.l2_blast_laws.specs.Behind.{behind, ChoicesHaveModelsBehind}
use Rattle.l2_blast_laws.proofs.Circuits.{Circuits}
use Rattle.l2_blast_laws.proofs.Envs.{length_push, each_push, IsThere, EnvBelow, env_up}
use Rattle.l2_blast_laws.proofs.Making.{step_makes, fresh_word_makes}
use Rattle.l2_blast_laws.proofs.Operands.{value_shown}
use Rattle.l2_blast_laws.proofs.Stepping.{fresh_length}
use Rattle.l2_blast_laws.proofs.Folds.{names_stay, own_name, start_sound}
use Rattle.l2_blast_laws.proofs.Solving.{Agree as SortsAgree, own_sorts, all_sorted, total, literals_show_behind}

-- ---- new variables take any values

pub lit_same : (n : ℕ) (v u : ℕ → Bool) → Agree n v u → (l : Lit) → Below n l → value u l ≡ value v l
lit_same n v u a (Pos i) h = a i h
lit_same n v u a (Neg i) h = ap not (a i h)

some_same : (n : ℕ) (v u : ℕ → Bool) → Agree n v u → (ls : List Lit) → AllBelow n ls → some_true u ls ≡ some_true v ls
some_same n v u a [] h = refl
some_same n v u a (l ∷ ls) h = (λ i. some_of (lit_same n v u a l h.0 i) (some_same n v u a ls h.1 i))

all_same : (n : ℕ) (v u : ℕ → Bool) → Agree n v u → (cs : List (List Lit)) → ClausesBelow n cs → all_true u cs ≡ all_true v cs
all_same n v u a [] h = refl
all_same n v u a (x ∷ cs) h = (λ i. both (some_same n v u a x h.0 i) (all_same n v u a cs h.1 i))

abbrev pub with_variable : (ℕ → Bool) → ℕ → Bool → ℕ → Bool
with_variable v n b i = if nat_eq i n then b else v i

pub own_variable : (v : ℕ → Bool) (n : ℕ) (b : Bool) → with_variable v n b n ≡ b
own_variable v n b = go (nat_eq n n) (grind arith)
  where
    go : (t : Bool) → t ≡ true → (if t then b else v n) ≡ b
    go true e = refl
    go false e = absurd (cc)

pub others_stay : (v : ℕ → Bool) (n : ℕ) (b : Bool) → Agree n v (with_variable v n b)
others_stay v n b i l = go (nat_eq i n) (grind arith)
  where
    go : (t : Bool) → t ≡ false → (if t then b else v i) ≡ v i
    go true e = absurd (cc)
    go false e = refl

pub still_ok : (m : Made) → Sound m → (v : ℕ → Bool) (b : Bool) → Ok v m → Ok (with_variable v m.next b) (fresh m).made
still_ok m so v b ok = all_same m.next v (with_variable v m.next b) (others_stay v m.next b) m.clauses so.clauses ∙ ok

-- an assignment that goes on, in which a word has these bits, and keeps them
record Takes (m : Made) (w : Word) (bits : List Bool) (v : ℕ → Bool) : Type 0 where
  v' : ℕ → Bool
  agree : Agree m.next v v'
  ok : Ok v' w.made
  takes : (u : ℕ → Bool) → Agree w.made.next v' u → values u w.bits ≡ bits

word_takes : (n : ℕ) (bits : List Bool) (m : Made) → Sound m → length bits ≡ n → (v : ℕ → Bool) → Ok v m → Takes m (fresh_word n m) bits v
word_takes zero [] m so e v ok = record { v' = v; agree = λ i l. refl; ok = ok; takes = λ u a. refl }
word_takes zero (b ∷ bits) m so e v ok = absurd (omega (arith, e))
word_takes (suc n) [] m so e v ok = absurd (omega (arith, e))
word_takes (suc n) (b ∷ bits) m so e v ok =
    let p = with_variable v m.next b in
    let x = fresh_extends m so in
    let q = word_takes n bits (fresh m).made x.sound (omega (arith, e)) p (still_ok m so v b ok) in
    let g = (fresh_word_makes n (fresh m).made x.sound).extends.grows in
    record {
      v' = q.v';
      agree = λ i l. q.agree i (omega (arith, l)) ∙ others_stay v m.next b i l;
      ok = q.ok;
      takes = λ u a. (λ i. (a m.next (omega (arith, g)) ∙ q.agree m.next (omega arith) ∙ own_variable v m.next b) i ∷ q.takes u a i);
    }

-- the bits of a number
abbrev bits_of : ℕ → ℤ → List Bool
bits_of n z = values (λ i. true) (constant n z)

bits_length : (n : ℕ) (z : ℤ) → length (bits_of n z) ≡ n
bits_length n z = values_length (λ i. true) (constant n z) ∙ (constants_show (λ i. true) refl n z).size

bits_number : (n : ℕ) (z : ℤ) → number (bits_of n z) ≡ residue (2 ^ n) z
bits_number n z = (constants_show (λ i. true) refl n z).number

-- ---- the choice of one step

-- where the path's literal is true, the word shows the choice
abbrev pub Picked : (ℕ → Bool) → CellValue → Env → Step → List Lit → Type 0
Picked v x env (Choose g) bits = value v (literal env g) ≡ true → shown v (Truth 1) bits ≡ x
Picked v x env (Take g ty) bits = value v (literal env g) ≡ true → shown v (Cell (Integer ty)) bits ≡ x
Picked v x env (Half g) bits = value v (literal env g) ≡ true → shown v Part bits ≡ x
Picked v x env y bits = Unit {0}

pub record Goes (v : ℕ → Bool) (x : CellValue) (env : Env) (y : Step) (m : Made) (w : Word) : Type 0 where
  pub v' : ℕ → Bool
  pub agree : Agree m.next v v'
  pub ok : Ok v' w.made
  pub picked : (u : ℕ → Bool) → u 0 ≡ true → Agree w.made.next v' u → Picked u x env y w.bits

module _ (c : Circuits) (s : Setting) (fill : IsMade s.fill) (m : Made) (so : Sound m) (env : Env) (h : EnvBelow m.next env) (v : ℕ → Bool) (ok : Ok v m) where
  plain : (x : CellValue) (y : Step) → ((u : ℕ → Bool) → Picked u x env y (word_of s y env m).bits) → Goes v x env y m (word_of s y env m)
  plain x y f =
      let q = (step_makes c s fill m so env h y).extends.model v ok in
      record { v' = q.v'; agree = q.agree; ok = q.ok; picked = λ u t a. f u }

  -- a path whose literal is F
  passed : (x : CellValue) (y : Step) (g : Operand) (sort : Sort) → ((u : ℕ → Bool) (bits : List Lit) → (value u (literal env g) ≡ true → shown u sort bits ≡ x) → Picked u x env y bits)
      → same (literal env g) F ≡ true → Goes v x env y m (known_word (blank sort) m)
  passed x y g sort f e = record {
    v' = v;
    agree = λ i l. refl;
    ok = ok;
    picked = λ u t a. f u (blank sort) (λ p. absurd (let q = is_F u t (literal env g) e in cc));
  }

  fresh_goes : (x : CellValue) (y : Step) (sort : Sort) (g : Operand) (w : Word) (bits : List Bool) → Takes m w bits v
      → ((u : ℕ → Bool) (bits : List Lit) → (value u (literal env g) ≡ true → shown u sort bits ≡ x) → Picked u x env y bits)
      → ((u : ℕ → Bool) → values u w.bits ≡ bits → shown u sort w.bits ≡ x) → Goes v x env y m w
  fresh_goes x y sort g w bits k f is = record { v' = k.v'; agree = k.agree; ok = k.ok; picked = λ u t a. f u w.bits (λ p. is u (k.takes u a)) }

  one_bit : (b : Bool) → Takes m (bit_word (fresh m)) (b ∷ []) v
  one_bit b =
      record { v' = with_variable v m.next b; agree = others_stay v m.next b; ok = still_ok m so v b ok; takes = λ u a. (λ i. (a m.next (omega arith) ∙ own_variable v m.next b) i ∷ []) }

  bit_shown : (u : ℕ → Bool) (b : Bool) (x : CellValue) → x ≡ bit b → values u (bit_word (fresh m)).bits ≡ b ∷ [] → shown u (Truth 1) (bit_word (fresh m)).bits ≡ x
  bit_shown u b x e h = ap bit (head_is h) ∙ sym e
    where
      head : List Bool → Bool
      head [] = false
      head (y ∷ ys) = y

      head_is : values u (Pos m.next ∷ []) ≡ b ∷ [] → u m.next ≡ b
      head_is h = ap head h

  number_shown : (u : ℕ → Bool) (ty : Ty) (z : ℤ) (x : CellValue) → x ≡ Number z → IsValue ty z → values u (fresh_word ty.width m).bits ≡ bits_of ty.width z → shown u (Cell (Integer ty)) (fresh_word ty.width m).bits ≡ x
  number_shown u ty z x e k h =
      sym (value_shown u ty (fresh_word ty.width m).bits z (record { value = k; shows = record { size = fresh_length ty.width m; number = ap number h ∙ bits_number ty.width z } })) ∙ sym e

  part_shown : (u : ℕ → Bool) (k : ℕ) (x : CellValue) → x ≡ Number (pos k) → k < 131072 → values u (fresh_word 17 m).bits ≡ bits_of 17 (pos k) → shown u Part (fresh_word 17 m).bits ≡ x
  part_shown u k x e l h = ap (λ n. Number (pos n)) (ap number h ∙ bits_number 17 (pos k) ∙ mod-eq_of_lt l) ∙ sym e

  pub step_goes : (choices : Names) (n : ℕ) (y : Step) → IsChosen choices n y → Goes v (choices n) env y m (word_of s y env m)
  step_goes choices n (Choose g) k =
      by_test (Goes v (choices n) env (Choose g) m) (same (literal env g) F) (known_word (blank (Truth 1)) m) (bit_word (fresh m))
      (λ e. passed (choices n) (Choose g) g (Truth 1) (λ u bits f. f) e)
      (λ e. fresh_goes (choices n) (Choose g) (Truth 1) g (bit_word (fresh m)) (k.0 ∷ []) (one_bit k.0) (λ u bits f. f) (λ u q. bit_shown u k.0 (choices n) k.1 q))
  step_goes choices n (Take g ty) k =
      by_test (Goes v (choices n) env (Take g ty) m) (same (literal env g) F) (known_word (blank (Cell (Integer ty))) m) (fresh_word ty.width m)
      (λ e. passed (choices n) (Take g ty) g (Cell (Integer ty)) (λ u bits f. f) e)
      (λ e. fresh_goes (choices n) (Take g ty) (Cell (Integer ty)) g (fresh_word ty.width m) (bits_of ty.width k.0) (word_takes ty.width (bits_of ty.width k.0) m so (bits_length ty.width k.0) v ok) (λ u bits f. f)
      (λ u q. number_shown u ty k.0 (choices n) k.1 k.2 q))
  step_goes choices n (Half g) k =
      by_test (Goes v (choices n) env (Half g) m) (same (literal env g) F) (known_word (blank Part) m) (fresh_word 17 m)
      (λ e. passed (choices n) (Half g) g Part (λ u bits f. f) e)
      (λ e. fresh_goes (choices n) (Half g) Part g (fresh_word 17 m) (bits_of 17 (pos k.0)) (word_takes 17 (bits_of 17 (pos k.0)) m so (bits_length 17 (pos k.0)) v ok) (λ u bits f. f)
      (λ u q. part_shown u k.0 (choices n) k.1 k.2 q))
  step_goes choices n (Point g a b) k = plain (choices n) (Point g a b) (λ u. tt)
  step_goes choices n (Among g a b set) k = plain (choices n) (Among g a b set) (λ u. tt)
  step_goes choices n (Compute g x set) k = plain (choices n) (Compute g x set) (λ u. tt)
  step_goes choices n (Alive g a flags) k = plain (choices n) (Alive g a flags) (λ u. tt)
  step_goes choices n (Pick g a o f ty x y) k = plain (choices n) (Pick g a o f ty x y) (λ u. tt)
  step_goes choices n (Row g l i vars) k = plain (choices n) (Row g l i vars) (λ u. tt)
  step_goes choices n (Lower g l old new) k = plain (choices n) (Lower g l old new) (λ u. tt)
  step_goes choices n (Apart g a b) k = plain (choices n) (Apart g a b) (λ u. tt)
  step_goes choices n (Both a b) k = plain (choices n) (Both a b) (λ u. tt)
  step_goes choices n (But a b) k = plain (choices n) (But a b) (λ u. tt)
  step_goes choices n (Either a b) k = plain (choices n) (Either a b) (λ u. tt)
  step_goes choices n (Merge g i ty x y) k = plain (choices n) (Merge g i ty x y) (λ u. tt)

-- ---- all steps

-- a path's literal stays
pub literal_stays : (s : Setting) (xs : List Step) (env : Env) (m : Made) (a : Operand) → IsBefore (length env) a → literal (blast s xs env m).env a ≡ literal env a
literal_stays s xs env m (Constant x) b = refl
literal_stays s xs env m (Temp i) b = ap (λ (w : Named). first w.bits) (names_stay s xs env m i b)

pub picked_stays : (v : ℕ → Bool) (x : CellValue) (s : Setting) (xs : List Step) (env env' : Env) (m : Made) (y : Step) (bits : List Lit) → env' ≡ (blast s xs env m).env → Reads (length env) y
    → Picked v x env y bits → Picked v x env' y bits
picked_stays v x s xs env env' m (Choose g) bits e r f = λ p. f (ap (value v) (sym (ap (λ z. literal z g) e ∙ literal_stays s xs env m g r)) ∙ p)
picked_stays v x s xs env env' m (Take g ty) bits e r f = λ p. f (ap (value v) (sym (ap (λ z. literal z g) e ∙ literal_stays s xs env m g r)) ∙ p)
picked_stays v x s xs env env' m (Half g) bits e r f = λ p. f (ap (value v) (sym (ap (λ z. literal z g) e ∙ literal_stays s xs env m g r)) ∙ p)
picked_stays v x s xs env env' m (Point g a b) bits e r f = tt
picked_stays v x s xs env env' m (Among g a b set) bits e r f = tt
picked_stays v x s xs env env' m (Compute g y set) bits e r f = tt
picked_stays v x s xs env env' m (Alive g a flags) bits e r f = tt
picked_stays v x s xs env env' m (Pick g a o i ty p q) bits e r f = tt
picked_stays v x s xs env env' m (Row g l i vars) bits e r f = tt
picked_stays v x s xs env env' m (Lower g l old new) bits e r f = tt
picked_stays v x s xs env env' m (Apart g a b) bits e r f = tt
picked_stays v x s xs env env' m (Both a b) bits e r f = tt
picked_stays v x s xs env env' m (But a b) bits e r f = tt
picked_stays v x s xs env env' m (Either a b) bits e r f = tt
picked_stays v x s xs env env' m (Merge g i ty p q) bits e r f = tt

-- what is to be shown of each step, in an assignment: by the names, the step's number and its word
module _ (P : (ℕ → Bool) → Env → ℕ → Step → List Lit → Type 0) where
  abbrev pub AllPicked : (ℕ → Bool) → Env → ℕ → List Step → Type 0
  AllPicked v env n [] = Unit {0}
  AllPicked v env n (x ∷ xs) = P v env n x (name env n).bits × AllPicked v env (suc n) xs

  pub record One (v : ℕ → Bool) (env : Env) (n : ℕ) (y : Step) (m : Made) (w : Word) : Type 0 where
    pub v' : ℕ → Bool
    pub agree : Agree m.next v v'
    pub ok : Ok v' w.made
    pub picked : (u : ℕ → Bool) → u 0 ≡ true → Agree w.made.next v' u → P u env n y w.bits

  pub record Whole (v : ℕ → Bool) (s : Setting) (n : ℕ) (xs : List Step) (env : Env) (m : Made) : Type 0 where
    pub v' : ℕ → Bool
    pub agree : Agree m.next v v'
    pub ok : Ok v' (blast s xs env m).made
    pub picked : v' 0 ≡ true → AllPicked v' (blast s xs env m).env n xs

  module _ (c : Circuits) (s : Setting) (fill : IsMade s.fill) (choices : Names)
      (stays : (u : ℕ → Bool) (n : ℕ) (xs : List Step) (env env' : Env) (m : Made) (y : Step) (bits : List Lit) → env' ≡ (blast s xs env m).env → length env ≡ n → Reads n y → P u env n y bits → P u env' n y bits)
      (one : (m : Made) → Sound m → (env : Env) → EnvBelow m.next env → (v : ℕ → Bool) → Ok v m → (n : ℕ) (y : Step) → length env ≡ n → Reads n y → IsChosen choices n y → One v env n y m (word_of s y env m)) where
    pub all_go : (xs : List Step) (env : Env) (m : Made) (n : ℕ) (v : ℕ → Bool) → length env ≡ n → InOrder n xs → AreChosen choices n xs → Sound m → EnvBelow m.next env → Ok v m → Whole v s n xs env m
    all_go [] env m n v e r k so h ok = record { v' = v; agree = λ i l. refl; ok = ok; picked = λ t. tt }
    all_go (x ∷ xs) env m n v e r k so h ok =
        let w = word_of s x env m in
        let q = one m so env h v ok n x e r.0 k.0 in
        let z = step_makes c s fill m so env h x in
        let env' = env ++ named x w ∷ [] in
        let below = each_push (IsThere w.made.next) env (named x w) (env_up m.next w.made.next env z.extends.grows h) z.bits in
        let y = all_go xs env' w.made (suc n) q.v' (length_push env (named x w) ∙ ap suc e) r.1 k.1 z.extends.sound below q.ok in
        record {
          v' = y.v';
          agree = λ i l. y.agree i (let g = z.extends.grows in omega (arith, g, l)) ∙ q.agree i l;
          ok = y.ok;
          picked = λ t. (
            stays y.v' n (x ∷ xs) env (blast s xs env' w.made).env m x (name (blast s xs env' w.made).env n).bits refl e r.0
                (subst (λ b. P y.v' env n x b)
                (sym (ap (λ j. (name (blast s (x ∷ xs) env m).env j).bits) (sym e) ∙ ap (λ (u : Named). u.bits) (own_name s x xs env m))) (q.picked y.v' t y.agree)),
            y.picked t,
          );
        }

-- the choices are shown where the literals of their paths are true
abbrev pub Shown : Names → (ℕ → Bool) → Env → ℕ → Step → List Lit → Type 0
Shown choices u env n y bits = Picked u (choices n) env y bits

-- from literals to values
module _ (v : ℕ → Bool) (choices : Names) (s : Setting) (kinds : Sorts) (env : Env) (total : ℕ)
    (sorted : (n : ℕ) (sort : Sort) → kinds n ≡ sort → n < total → (name env n).sort ≡ sort)
    (lit : (a : Operand) → IsBefore total a → IsTruth kinds a → on (solution env v) a ≡ value v (literal env a)) where
  before_all : (n : ℕ) (a : Operand) → n ≤ total → IsBefore n a → IsBefore total a
  before_all n (Constant x) l b = tt
  before_all n (Temp i) l b = omega (arith, l, b)

  shown_sort : (n : ℕ) (sort : Sort) → (name env n).sort ≡ sort → solution env v n ≡ shown v sort (name env n).bits
  shown_sort n sort e = ap (λ k. shown v k (name env n).bits) e

  pub one_met : (n : ℕ) (x : Step) → Reads n x → IsTyped s.types kinds x → n < total → kinds n ≡ sort_of x → Picked v (choices n) env x (name env n).bits → IsMet choices (solution env v) n x
  one_met n (Choose g) r h l e f = λ o. shown_sort n (Truth 1) (sorted n (Truth 1) e l) ∙ f (sym (lit g (before_all n g (omega (arith, l)) r) h) ∙ o)
  one_met n (Take g ty) r h l e f = λ o. shown_sort n (Cell (Integer ty)) (sorted n (Cell (Integer ty)) e l) ∙ f (sym (lit g (before_all n g (omega (arith, l)) r) h) ∙ o)
  one_met n (Half g) r h l e f = λ o. shown_sort n Part (sorted n Part e l) ∙ f (sym (lit g (before_all n g (omega (arith, l)) r) h) ∙ o)
  one_met n (Point g a b) r h l e f = tt
  one_met n (Among g a b set) r h l e f = tt
  one_met n (Compute g y set) r h l e f = tt
  one_met n (Alive g a flags) r h l e f = tt
  one_met n (Pick g a o i ty p q) r h l e f = tt
  one_met n (Row g k i vars) r h l e f = tt
  one_met n (Lower g k old new) r h l e f = tt
  one_met n (Apart g a b) r h l e f = tt
  one_met n (Both a b) r h l e f = tt
  one_met n (But a b) r h l e f = tt
  one_met n (Either a b) r h l e f = tt
  one_met n (Merge g i ty p q) r h l e f = tt

  pub all_met : (xs : List Step) (n : ℕ) → InOrder n xs → AreTyped s.types kinds xs → n + length xs ≡ total → SortsAgree kinds n xs → AllPicked (Shown choices) v env n xs → AreMet choices (solution env v) n xs
  all_met [] n r h e a p = tt
  all_met (x ∷ xs) n r h e a p = (one_met n x r.0 h.0 (omega (arith, e)) a.0 p.0, all_met xs (suc n) r.1 h.1 (omega (arith, e)) a.1 p.1)

module _ (c : Circuits) where
  pub choices_have_models_behind : ChoicesHaveModelsBehind
  choices_have_models_behind = λ s sized fill m so xs r ty u t ok choices k.
      let y = all_go (Shown choices) c s fill choices
      (λ u n xs env env' m y bits e l r f. picked_stays u (choices n) s xs env env' m y bits e (subst (λ j. Reads j y) (sym l) r) f)
      (λ m so env h v ok n y l r k. let q = step_goes c s fill m so env h v ok choices n y k in record { v' = q.v'; agree = q.agree; ok = q.ok; picked = q.picked })
      xs [] m 0 u refl r k so tt ok in
      let t' = y.agree 0 (let z = so.some in omega (arith, z)) ∙ t in
      let env = (behind s xs m).env in (
        y.v',
        y.agree,
        y.ok,
        all_met y.v' choices s (sorts_of xs) env (length xs)
            (λ n sort e l. all_sorted c s sized fill m so xs r ty y.v' t' y.ok n (let z = total c s sized fill m so xs r ty y.v' t' y.ok in omega (arith, l, z)) ∙ e)
            (λ a b i. literals_show_behind c s sized fill m so xs r ty y.v' t' y.ok a b i)
            xs 0 r ty (omega arith) (own_sorts xs) (y.picked t'),
      )

  pub choices_have_models : ChoicesHaveModels
  choices_have_models = λ s sized fill xs r ty choices k.
      let so = start_sound c s fill in
      let (v, agree, ok, met) = choices_have_models_behind s sized fill start so xs r ty (λ i. true) refl refl choices k in
      (v, agree 0 (omega arith), ok, met)
