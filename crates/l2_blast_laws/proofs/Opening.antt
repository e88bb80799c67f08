-- Rows and rankings that are variables of their own.
use Rattle.std.proofs.Common.{◌≡◌, ℕ, zero, suc, ◌+◌, ◌<◌, Bool, true, false, refl, sym, ap, ◌∙◌, subst, List, [], ◌∷◌, length, take, drop, arith}
use Rattle.l2_runs.specs.declared.cells.CellType.TheVariants.{Integer, Pointer}
use Rattle.l2_runs.specs.declared.cells.CellValue.{CellValue}
use Rattle.l2_runs.specs.declared.cells.CellValue.TheVariants.{Number}
use Rattle.std.specs.Prelude.{pos}
use Rattle.l2_bits.specs.Values.{wrap}
use Rattle.l2_code.specs.declared.action.Operand.{Operand}
use Rattle.l2_code.specs.declared.action.Operand.TheVariants.{Constant, Temp}
use Rattle.l2_code.specs.Values.{Types, operand_value}
use Rattle.l2_ssa.specs.Steps.{Step, Choose, Take, Half, Point, Among, Compute, Alive, Pick, Row, Lower, Apart, Both, But, Either, Merge, Names, on, bit, values_of, IsBefore, AreBefore, Reads, InOrder}
use Rattle.l2_gates.specs.Gates.{Lit, F, same, Made, fresh}
use Rattle.l2_gates.specs.Models.{value, Ok, AllBelow, Sound, Agree}
use Rattle.l2_gates.proofs.Bools.{by_test}
use Rattle.l2_gates.proofs.Values.{is_F}
use Rattle.l2_circuits.specs.Words.{known_word}
use Rattle.l2_circuit_laws.specs.Values.{values, number}
use Rattle.l2_pointer_circuits.specs.Words.{selector, offset}
use Rattle.l2_pointer_circuits.specs.Shows.{pointer_at}
use Rattle.l2_blast.specs.Sorts.{Sort, Truth, Part, Cell, Sorts, sort_of, sorts_of, IsTruth, IsTyped, AreTyped}
use Rattle.l2_blast.specs.Words.{Named, Env, name, first, literal, Setting, bit_word, blank, word_of}
use Rattle.l2_blast.specs.Blasting.{blast}
use Rattle.l2_blast_laws.specs.Law.{shown, solution, RowHolds, RowsHold, meaning_of, IsChosen}
use Rattle.l2_blast_laws.specs.Behind.{AgreedShowSame, behind, open_setting, IsAsSaid, AreAsSaid, OpenIsMade, OpenRowsHaveModels, SaidRowsHold}
use Rattle.l2_blast_laws.proofs.Circuits.{Circuits}
use Rattle.l2_blast_laws.proofs.Envs.{EnvBelow, name_below}
use Rattle.l2_blast_laws.proofs.Making.{fresh_makes}
use Rattle.l2_blast_laws.proofs.Folds.{names_stay}
use Rattle.l2_blast_laws.proofs.Solving.{Agree as SortsAgree, own_sorts, all_sorted, total, literals_show_behind}
use Rattle.l2_blast_laws.proofs.Choosing.{lit_same, with_variable, own_variable, others_stay, still_ok, Picked, step_goes, literal_stays, picked_stays, AllPicked, One, all_go, Shown, all_met}

pub open_is_made : OpenIsMade
open_is_made = record { row = λ l i words m so b. fresh_makes m so; lower = λ l old new m so b c. fresh_makes m so }

-- ---- names show the same where assignments agree

module _ (n : ℕ) (v u : ℕ → Bool) (a : Agree n v u) (some : 0 < n) where
  values_same : (ls : List Lit) → AllBelow n ls → values u ls ≡ values v ls
  values_same [] h = refl
  values_same (l ∷ ls) h = λ i. lit_same n v u a l h.0 i ∷ values_same ls h.1 i

  first_same : (ls : List Lit) → AllBelow n ls → value u (first ls) ≡ value v (first ls)
  first_same [] h = lit_same n v u a F (omega (arith, some))
  first_same (l ∷ ls) h = lit_same n v u a l h.0

  front_below : (k : ℕ) (ls : List Lit) → AllBelow n ls → AllBelow n (take k ls)
  front_below zero ls h = tt
  front_below (suc k) [] h = tt
  front_below (suc k) (l ∷ ls) h = (h.0, front_below k ls h.1)

  rest_below : (k : ℕ) (ls : List Lit) → AllBelow n ls → AllBelow n (drop k ls)
  rest_below zero ls h = h
  rest_below (suc k) [] h = tt
  rest_below (suc k) (l ∷ ls) h = rest_below k ls h.1

  shown_same : (sort : Sort) (ls : List Lit) → AllBelow n ls → shown u sort ls ≡ shown v sort ls
  shown_same (Truth k) ls h = ap bit (first_same ls h)
  shown_same Part ls h = ap (λ bs. Number (pos (number bs))) (values_same ls h)
  shown_same (Cell (Integer ty)) ls h = ap (λ bs. Number (wrap ty (pos (number bs)))) (values_same ls h)
  shown_same (Cell Pointer) ls h = λ i. pointer_at (number (values_same (selector ls) (front_below 17 ls h) i)) (number (values_same (offset ls) (rest_below 17 ls h) i))

  operand_same : (env : Env) → EnvBelow n env → (x : Operand) → operand_value (solution env u) x ≡ operand_value (solution env v) x
  operand_same env h (Constant w) = refl
  operand_same env h (Temp k) = shown_same (name env k).sort (name env k).bits (name_below n env k h)

  operands_same : (env : Env) → EnvBelow n env → (xs : List Operand) → values_of (solution env u) xs ≡ values_of (solution env v) xs
  operands_same env h [] = refl
  operands_same env h (x ∷ xs) = λ i. operand_same env h x i ∷ operands_same env h xs i

pub agreed_show_same : AgreedShowSame
agreed_show_same env n some below v u a = λ i k. shown_same n v u a (omega (arith, some)) (name env k).sort (name env k).bits (below k) i

-- ---- and where there are more names

module _ (u : ℕ → Bool) (s : Setting) (xs : List Step) (env env' : Env) (m : Made) (e : env' ≡ (blast s xs env m).env) where
  operand_stays : (x : Operand) → IsBefore (length env) x → operand_value (solution env' u) x ≡ operand_value (solution env u) x
  operand_stays (Constant w) b = refl
  operand_stays (Temp k) b = ap (λ (w : Named). shown u w.sort w.bits) (ap (λ z. name z k) e ∙ names_stay s xs env m k b)

  operands_stay : (ys : List Operand) → AreBefore (length env) ys → values_of (solution env' u) ys ≡ values_of (solution env u) ys
  operands_stay [] b = refl
  operands_stay (x ∷ ys) b = λ i. operand_stays x b.0 i ∷ operands_stay ys b.1 i

  path_stays : (g : Operand) → IsBefore (length env) g → literal env' g ≡ literal env g
  path_stays g b = ap (λ z. literal z g) e ∙ literal_stays s xs env m g b

-- ---- each step

module _ (row : ℕ → ℕ → List CellValue → Bool) (lower : ℕ → List CellValue → List CellValue → Bool) where
  abbrev Opened : (ℕ → Bool) → Env → Step → List Lit → Type 0
  Opened u env (Row g l i vars) bits = same (literal env g) F ≡ false → shown u (Truth 1) bits ≡ bit (row l i (values_of (solution env u) vars))
  Opened u env (Lower g l old new) bits = same (literal env g) F ≡ false → shown u (Truth 1) bits ≡ bit (lower l (values_of (solution env u) old) (values_of (solution env u) new))
  Opened u env x bits = Unit {0}

  opened_stays : (u : ℕ → Bool) (s : Setting) (xs : List Step) (env env' : Env) (m : Made) (y : Step) (bits : List Lit) → env' ≡ (blast s xs env m).env → Reads (length env) y → Opened u env y bits → Opened u env' y bits
  opened_stays u s xs env env' m (Row g l i vars) bits e r f = λ p.
      f (ap (λ z. same z F) (sym (path_stays u s xs env env' m e g r.0)) ∙ p) ∙ sym (ap (λ z. bit (row l i z)) (operands_stay u s xs env env' m e vars r.1))
  opened_stays u s xs env env' m (Lower g l old new) bits e r f = λ p.
      f (ap (λ z. same z F) (sym (path_stays u s xs env env' m e g r.0)) ∙ p)
      ∙ sym (λ j. bit (lower l (operands_stay u s xs env env' m e old r.1 j) (operands_stay u s xs env env' m e new r.2 j)))
  opened_stays u s xs env env' m (Choose g) bits e r f = tt
  opened_stays u s xs env env' m (Take g ty) bits e r f = tt
  opened_stays u s xs env env' m (Half g) bits e r f = tt
  opened_stays u s xs env env' m (Point g a b) bits e r f = tt
  opened_stays u s xs env env' m (Among g a b set) bits e r f = tt
  opened_stays u s xs env env' m (Compute g y set) bits e r f = tt
  opened_stays u s xs env env' m (Alive g a flags) bits e r f = tt
  opened_stays u s xs env env' m (Pick g a o i ty p q) bits e r f = tt
  opened_stays u s xs env env' m (Apart g a b) bits e r f = tt
  opened_stays u s xs env env' m (Both a b) bits e r f = tt
  opened_stays u s xs env env' m (But a b) bits e r f = tt
  opened_stays u s xs env env' m (Either a b) bits e r f = tt
  opened_stays u s xs env env' m (Merge g i ty p q) bits e r f = tt

  -- the choices are shown, and what is open is as it is said
  abbrev Goal : Names → (ℕ → Bool) → Env → ℕ → Step → List Lit → Type 0
  Goal choices u env n y bits = Picked u (choices n) env y bits × Opened u env y bits

  module _ (c : Circuits) (types : Types) (objects : ℕ) (choices : Names) (m : Made) (so : Sound m) (env : Env) (h : EnvBelow m.next env) (v : ℕ → Bool) (ok : Ok v m) (n : ℕ) where
    abbrev s : Setting
    s = open_setting types objects

    some_there : 0 < m.next
    some_there = let z = so.some in omega (arith, z)

    from_goes : (y : Step) → IsChosen choices n y → ((u : ℕ → Bool) → Opened u env y (word_of s y env m).bits) → One (Goal choices) v env n y m (word_of s y env m)
    from_goes y k f =
        let q = step_goes c s open_is_made m so env h v ok choices n y k in
        record { v' = q.v'; agree = q.agree; ok = q.ok; picked = λ u t a. (q.picked u t a, f u) }

    agree_on : (b : Bool) (u : ℕ → Bool) → Agree (suc m.next) (with_variable v m.next b) u → Agree m.next v u
    agree_on b u a i l = a i (omega (arith, l)) ∙ others_stay v m.next b i l

    one : (y : Step) → IsChosen choices n y → One (Goal choices) v env n y m (word_of s y env m)
    one (Row g l i vars) k =
        by_test (One (Goal choices) v env n (Row g l i vars) m) (same (literal env g) F) (known_word (blank (Truth 1)) m) (bit_word (fresh m))
        (λ e. record { v' = v; agree = λ i l. refl; ok = ok; picked = λ u t a. (tt, λ p. absurd (cc)) })
        (λ e. let b = row l i (values_of (solution env v) vars) in
        record {
          v' = with_variable v m.next b;
          agree = others_stay v m.next b;
          ok = still_ok m so v b ok;
          picked = λ u t a. (tt, λ p. ap bit (a m.next (omega arith) ∙ own_variable v m.next b) ∙ sym (ap (λ z. bit (row l i z)) (operands_same m.next v u (agree_on b u a) some_there env h vars)));
        })
    one (Lower g l old new) k =
        by_test (One (Goal choices) v env n (Lower g l old new) m) (same (literal env g) F) (known_word (blank (Truth 1)) m) (bit_word (fresh m))
        (λ e. record { v' = v; agree = λ i l. refl; ok = ok; picked = λ u t a. (tt, λ p. absurd (cc)) })
        (λ e. let b = lower l (values_of (solution env v) old) (values_of (solution env v) new) in
        record {
          v' = with_variable v m.next b;
          agree = others_stay v m.next b;
          ok = still_ok m so v b ok;
          picked = λ u t a. (
            tt,
            λ p. ap bit (a m.next (omega arith) ∙ own_variable v m.next b)
                ∙ sym (λ j. bit (lower l (operands_same m.next v u (agree_on b u a) some_there env h old j) (operands_same m.next v u (agree_on b u a) some_there env h new j))),
          );
        })
    one (Choose g) k = from_goes (Choose g) k (λ u. tt)
    one (Take g ty) k = from_goes (Take g ty) k (λ u. tt)
    one (Half g) k = from_goes (Half g) k (λ u. tt)
    one (Point g a b) k = from_goes (Point g a b) k (λ u. tt)
    one (Among g a b set) k = from_goes (Among g a b set) k (λ u. tt)
    one (Compute g x set) k = from_goes (Compute g x set) k (λ u. tt)
    one (Alive g a flags) k = from_goes (Alive g a flags) k (λ u. tt)
    one (Pick g a o f ty x y) k = from_goes (Pick g a o f ty x y) k (λ u. tt)
    one (Apart g a b) k = from_goes (Apart g a b) k (λ u. tt)
    one (Both a b) k = from_goes (Both a b) k (λ u. tt)
    one (But a b) k = from_goes (But a b) k (λ u. tt)
    one (Either a b) k = from_goes (Either a b) k (λ u. tt)
    one (Merge g i ty x y) k = from_goes (Merge g i ty x y) k (λ u. tt)

  -- ---- all steps

  first_ones : (choices : Names) (v : ℕ → Bool) (env : Env) (n : ℕ) (xs : List Step) → AllPicked (Goal choices) v env n xs → AllPicked (Shown choices) v env n xs
  first_ones choices v env n [] p = tt
  first_ones choices v env n (x ∷ xs) p = (p.0.0, first_ones choices v env (suc n) xs p.1)

  module _ (choices : Names) (v : ℕ → Bool) (s : Setting) (kinds : Sorts) (env : Env) (total : ℕ) (sorted : (n : ℕ) (sort : Sort) → kinds n ≡ sort → n < total → (name env n).sort ≡ sort) where
    shown_there : (n : ℕ) → n < total → kinds n ≡ Truth 1 → solution env v n ≡ shown v (Truth 1) (name env n).bits
    shown_there n l e = ap (λ k. shown v k (name env n).bits) (sorted n (Truth 1) e l)

    one_said : (n : ℕ) (x : Step) → n < total → kinds n ≡ sort_of x → Opened v env x (name env n).bits → IsAsSaid (meaning_of s row lower) env (solution env v) n x
    one_said n (Row g l i vars) k e f = λ p. shown_there n k e ∙ f p
    one_said n (Lower g l old new) k e f = λ p. shown_there n k e ∙ f p
    one_said n (Choose g) k e f = tt
    one_said n (Take g ty) k e f = tt
    one_said n (Half g) k e f = tt
    one_said n (Point g a b) k e f = tt
    one_said n (Among g a b set) k e f = tt
    one_said n (Compute g y set) k e f = tt
    one_said n (Alive g a flags) k e f = tt
    one_said n (Pick g a o i ty p q) k e f = tt
    one_said n (Apart g a b) k e f = tt
    one_said n (Both a b) k e f = tt
    one_said n (But a b) k e f = tt
    one_said n (Either a b) k e f = tt
    one_said n (Merge g i ty p q) k e f = tt

    all_said : (xs : List Step) (n : ℕ) → n + length xs ≡ total → SortsAgree kinds n xs → AllPicked (Goal choices) v env n xs → AreAsSaid (meaning_of s row lower) env (solution env v) n xs
    all_said [] n e a p = tt
    all_said (x ∷ xs) n e a p = (one_said n x (omega (arith, e)) a.0 p.0.1, all_said xs (suc n) (omega (arith, e)) a.1 p.1)

pub open_rows_have_models : Circuits → OpenRowsHaveModels
open_rows_have_models c = λ types objects sized m so xs r ty u t ok choices k row lower.
    let s = open_setting types objects in
    let y = all_go (Goal row lower choices) c s open_is_made choices
    (λ u n xs env env' m y bits e l r f. (
      picked_stays u (choices n) s xs env env' m y bits e (subst (λ j. Reads j y) (sym l) r) f.0,
      opened_stays row lower u s xs env env' m y bits e (subst (λ j. Reads j y) (sym l) r) f.1,
    ))
    (λ m so env h v ok n y l r k. one row lower c types objects choices m so env h v ok n y k)
    xs [] m 0 u refl r k so tt ok in
    let t' = y.agree 0 (let z = so.some in omega (arith, z)) ∙ t in
    let env = (behind s xs m).env in
    let sorted : (n : ℕ) (sort : Sort) → sorts_of xs n ≡ sort → n < length xs → (name env n).sort ≡ sort
    = λ n sort e l. all_sorted c s sized open_is_made m so xs r ty y.v' t' y.ok n (let z = total c s sized open_is_made m so xs r ty y.v' t' y.ok in omega (arith, l, z)) ∙ e in (
      y.v',
      y.agree,
      y.ok,
      all_met y.v' choices s (sorts_of xs) env (length xs) sorted
          (λ a b i. literals_show_behind c s sized open_is_made m so xs r ty y.v' t' y.ok a b i)
          xs 0 r ty (omega arith) (own_sorts xs) (first_ones row lower choices y.v' env 0 xs (y.picked t')),
      all_said row lower choices y.v' s (sorts_of xs) env (length xs) sorted xs 0 (omega arith) (own_sorts xs) (y.picked t'),
    )

-- ---- so the equations of rows hold

module _ (v : ℕ → Bool) (t : v 0 ≡ true) (s : Setting) (kinds : Sorts) (env : Env) (total : ℕ) (row : ℕ → ℕ → List CellValue → Bool) (lower : ℕ → List CellValue → List CellValue → Bool)
    (lit : (a : Operand) → IsBefore total a → IsTruth kinds a → on (solution env v) a ≡ value v (literal env a)) where
  before_all : (n : ℕ) (a : Operand) → n < total → IsBefore n a → IsBefore total a
  before_all n (Constant x) l b = tt
  before_all n (Temp i) l b = omega (arith, l, b)

  -- a path that is true isn't F
  not_F : (n : ℕ) (g : Operand) → n < total → IsBefore n g → IsTruth kinds g → on (solution env v) g ≡ true → same (literal env g) F ≡ false
  not_F n g l b h o = go (same (literal env g) F) refl
    where
      go : (x : Bool) → same (literal env g) F ≡ x → x ≡ false
      go false e = refl
      go true e = absurd (let q = is_F v t (literal env g) e in let k = lit g (before_all n g l b) h in cc)

  row_said : (n : ℕ) (x : Step) → n < total → Reads n x → IsTyped s.types kinds x → IsAsSaid (meaning_of s row lower) env (solution env v) n x → RowHolds (meaning_of s row lower) (solution env v) n x
  row_said n (Row g l i vars) k r h f = λ o. f (not_F n g k r.0 h.0 o)
  row_said n (Lower g l old new) k r h f = λ o. f (not_F n g k r.0 h.0 o)
  row_said n (Choose g) k r h f = tt
  row_said n (Take g ty) k r h f = tt
  row_said n (Half g) k r h f = tt
  row_said n (Point g a b) k r h f = tt
  row_said n (Among g a b set) k r h f = tt
  row_said n (Compute g y set) k r h f = tt
  row_said n (Alive g a flags) k r h f = tt
  row_said n (Pick g a o i ty p q) k r h f = tt
  row_said n (Apart g a b) k r h f = tt
  row_said n (Both a b) k r h f = tt
  row_said n (But a b) k r h f = tt
  row_said n (Either a b) k r h f = tt
  row_said n (Merge g i ty p q) k r h f = tt

  rows_said : (xs : List Step) (n : ℕ) → n + length xs ≡ total → InOrder n xs → AreTyped s.types kinds xs → AreAsSaid (meaning_of s row lower) env (solution env v) n xs → RowsHold (meaning_of s row lower) (solution env v) n xs
  rows_said [] n e r h f = tt
  rows_said (x ∷ xs) n e r h f = (row_said n x (omega (arith, e)) r.0 h.0 f.0, rows_said xs (suc n) (omega (arith, e)) r.1 h.1 f.1)

pub said_rows_hold : Circuits → SaidRowsHold
said_rows_hold c = λ s sized fill m so xs r ty v t ok row lower f.
    rows_said v t s (sorts_of xs) (behind s xs m).env (length xs) row lower (λ a b h. literals_show_behind c s sized fill m so xs r ty v t ok a b h) xs 0 (omega arith) r ty f
