-- In each model of the clauses the words show a solution.
use Rattle.std.proofs.Common.{◌≡◌, ℕ, zero, suc, ◌+◌, ◌<◌, Bool, true, ℤ, refl, sym, ap, ◌∙◌, subst, List, [], ◌∷◌, ◌++◌, length, map, arith}
use Rattle.std.specs.Prelude.{slice_index_or}
use Rattle.l2_runs.specs.declared.cells.CellValue.{CellValue}
use Rattle.l2_runs.specs.declared.cells.CellValue.TheVariants.{Number}
use Rattle.l2_code.specs.declared.action.Operand.{Operand}
use Rattle.l2_ssa.specs.Steps.{Step, Names, on, values_of, Solves, IsBefore, AreBefore, Reads, InOrder}
use Rattle.l2_gates.specs.Gates.{Made, start}
use Rattle.l2_gates.specs.Models.{value, Ok, Sound}
use Rattle.l2_blast.specs.Sorts.{Truth, Sorts, sort_of, sorts_of, IsTruth, AreNumbers, AreTyped}
use Rattle.l2_blast.specs.Words.{Named, Env, name, literal, wide_words, Setting, word_of}
use Rattle.l2_blast.specs.Blasting.{Blasted, named, blast}
use Rattle.l2_blast_laws.specs.Law.{shown, solution, IsSized, IsMade, RowsHold, meaning_of, WordsShow, FillMeans, FillsHold, ModelsSolve, LiteralsShow}
use Rattle.l2_blast_laws.specs.Behind.{behind, ModelsSolveBehind, FillsHoldBehind, LiteralsShowBehind, NumbersShowBehind}
use Rattle.l2_blast_laws.proofs.Circuits.{Circuits}
use Rattle.l2_blast_laws.proofs.Envs.{length_push, each_push, IsThere, EnvBelow, env_up}
use Rattle.l2_blast_laws.proofs.Making.{step_makes}
use Rattle.l2_blast_laws.proofs.Operands.{Proper, ShownBy, literal_is}
use Rattle.l2_blast_laws.proofs.Folds.{names_stay, own_name, all_made, start_sound}
use Rattle.l2_blast_laws.proofs.Stepping.{step_fine}
use Rattle.l2_blast_laws.proofs.Filling.{all_shown, row_fine}

-- each step gives a name
pub all_named : (s : Setting) (xs : List Step) (env : Env) (m : Made) → length (blast s xs env m).env ≡ length env + length xs
all_named s [] env m = omega arith
all_named s (x ∷ xs) env m = all_named s xs (env ++ named x (word_of s x env m) ∷ []) (word_of s x env m).made ∙ (let e = length_push env (named x (word_of s x env m)) in omega (arith, e))

-- ---- sorts along the steps

-- the sorts are those of the steps, from a name on
abbrev pub Agree : Sorts → ℕ → List Step → Type 0
Agree kinds n [] = Unit {0}
Agree kinds n (x ∷ xs) = (kinds n ≡ sort_of x) × Agree kinds (suc n) xs

agree_behind : (ys xs : List Step) (n : ℕ) → ((i : ℕ) → slice_index_or (map sort_of ys) (n + i) (Truth 1) ≡ slice_index_or (map sort_of xs) i (Truth 1)) → Agree (sorts_of ys) n xs
agree_behind ys [] n h = tt
agree_behind ys (x ∷ xs) n h = (
  subst (λ k. slice_index_or (map sort_of ys) k (Truth 1) ≡ sort_of x) (omega arith) (h 0),
  agree_behind ys xs (suc n) (λ i. subst (λ k. slice_index_or (map sort_of ys) k (Truth 1) ≡ slice_index_or (map sort_of xs) i (Truth 1)) (omega arith) (h (suc i))),
)

pub own_sorts : (xs : List Step) → Agree (sorts_of xs) 0 xs
own_sorts xs = agree_behind xs xs 0 (λ i. ap (λ j. slice_index_or (map sort_of xs) j (Truth 1)) (omega arith))

-- a name of its sort
pub record Fits (v : ℕ → Bool) (kinds : Sorts) (n : ℕ) (w : Named) : Type 0 where
  pub sort : w.sort ≡ kinds n
  pub proper : Proper v (kinds n) w.bits

-- the names from a number on
abbrev pub Stands : (ℕ → Bool) → Sorts → ℕ → Env → Type 0
Stands v kinds n [] = Unit {0}
Stands v kinds n (w ∷ env) = Fits v kinds n w × Stands v kinds (suc n) env

stands_push : (v : ℕ → Bool) (kinds : Sorts) (n i : ℕ) (env : Env) (w : Named) → i ≡ n + length env → Stands v kinds n env → Fits v kinds i w → Stands v kinds n (env ++ w ∷ [])
stands_push v kinds n i [] w e h k = (subst (λ j. Fits v kinds j w) (omega (arith, e)) k, tt)
stands_push v kinds n i (x ∷ env) w e h k = (h.0, stands_push v kinds (suc n) i env w (omega (arith, e)) h.1 k)

pub stands_at : (v : ℕ → Bool) (kinds : Sorts) (n i j : ℕ) (env : Env) → i ≡ n + j → j < length env → Stands v kinds n env → Fits v kinds i (name env j)
stands_at v kinds n i j [] e l h = absurd (omega (arith, l))
stands_at v kinds n i zero (x ∷ env) e l h = subst (λ k. Fits v kinds k x) (omega (arith, e)) h.0
stands_at v kinds n i (suc j) (x ∷ env) e l h = stands_at v kinds (suc n) i j env (omega (arith, e)) (omega (arith, l)) h.1

module _ (c : Circuits) (s : Setting) (sized : IsSized s) (fill : IsMade s.fill) (v : ℕ → Bool) (true_one : v 0 ≡ true) (kinds : Sorts) (t : Names)
    (row : ℕ → ℕ → List CellValue → Bool) (lower : ℕ → List CellValue → List CellValue → Bool) where
  -- what all steps come to: the names stand, and the steps hold where those of rows do
  pub record Comes (n : ℕ) (xs : List Step) (b : Blasted) : Type 0 where
    pub stands : Stands v kinds 0 b.env
    pub rows : FillMeans v s.fill (meaning_of s row lower) → RowsHold (meaning_of s row lower) t n xs
    pub solves : RowsHold (meaning_of s row lower) t n xs → Solves (meaning_of s row lower) t n xs

  pub shown_at : (env : Env) → Stands v kinds 0 env → ((i : ℕ) → i < length env → t i ≡ shown v (name env i).sort (name env i).bits)
      → (i : ℕ) → i < length env → ShownBy v (kinds i) (name env i).bits (t i)
  shown_at env st is i l =
      let f = stands_at v kinds 0 i i env (omega arith) l st in
      record { proper = f.proper; is = is i l ∙ ap (λ k. shown v k (name env i).bits) f.sort }

  pub all_hold : (xs : List Step) (env : Env) (m : Made) (n : ℕ) → length env ≡ n → InOrder n xs → AreTyped s.types kinds xs → Agree kinds n xs → Sound m → EnvBelow m.next env
      → Stands v kinds 0 env → Ok v (blast s xs env m).made
      → ((i : ℕ) → t i ≡ shown v (name (blast s xs env m).env i).sort (name (blast s xs env m).env i).bits) → Comes n xs (blast s xs env m)
  all_hold [] env m n e r ty ag so h st ok is = record { stands = st; rows = λ k. tt; solves = λ k. tt }
  all_hold (x ∷ xs) env m n e r ty ag so h st ok is =
      let w = word_of s x env m in
      let k = step_makes c s fill m so env h x in
      let env' = env ++ named x w ∷ [] in
      let below = each_push (IsThere w.made.next) env (named x w) (env_up m.next w.made.next env k.extends.grows h) k.bits in
      let f = all_made c s fill xs env' w.made k.extends.sound below in
      let ok' = f.extends.back v ok in
      let here : (i : ℕ) → i < length env → t i ≡ shown v (name env i).sort (name env i).bits
      = λ i l. is i ∙ ap (λ (y : Named). shown v y.sort y.bits) (names_stay s (x ∷ xs) env m i l) in
      let own : t n ≡ shown v (sort_of x) w.bits
      = is n ∙ ap (λ j. shown v (name (blast s (x ∷ xs) env m).env j).sort (name (blast s (x ∷ xs) env m).env j).bits) (sym e) ∙ ap (λ (y : Named). shown v y.sort y.bits) (own_name s x xs env m) in
      let reads = subst (λ j. Reads j x) (sym e) r.0 in
      let sorted : (i : ℕ) → i < length env → (name env i).sort ≡ kinds i = λ i l. (stands_at v kinds 0 i i env (omega arith) l st).sort in
      let fine = step_fine c s sized v true_one kinds env t sorted (shown_at env st here) m row lower n x reads ty.0 ok' own in
      let rest = all_hold xs env' w.made (suc n) (length_push env (named x w) ∙ ap suc e) r.1 ty.1 ag.1 k.extends.sound below
      (stands_push v kinds 0 n env (named x w) (omega (arith, e)) st (record { sort = sym ag.0; proper = subst (λ q. Proper v q w.bits) (sym ag.0) fine.0 })) ok is in
      record {
        stands = rest.stands;
        rows = λ q. (row_fine c s sized v true_one kinds env t sorted (shown_at env st here) m row lower q n x reads ty.0 ok' own, rest.rows q);
        solves = λ q. (fine.1 q.0, rest.solves q.1);
      }

module _ (c : Circuits) where
  module _ (s : Setting) (sized : IsSized s) (fill : IsMade s.fill) (m : Made) (so : Sound m) (xs : List Step) (r : InOrder 0 xs) (ty : AreTyped s.types (sorts_of xs) xs)
      (v : ℕ → Bool) (t : v 0 ≡ true) (ok : Ok v (behind s xs m).made) where
    abbrev env : Env
    env = (behind s xs m).env

    abbrev values : Names
    values = solution env v

    comes : (row : ℕ → ℕ → List CellValue → Bool) (lower : ℕ → List CellValue → List CellValue → Bool) → Comes c s sized fill v t (sorts_of xs) values row lower 0 xs (behind s xs m)
    comes row lower = all_hold c s sized fill v t (sorts_of xs) values row lower xs [] m 0 refl r ty (own_sorts xs) so tt tt ok (λ i. refl)

    stands : Stands v (sorts_of xs) 0 env
    stands = (comes (λ l i vs. true) (λ l x y. true)).stands

    pub all_sorted : (i : ℕ) → i < length env → (name env i).sort ≡ sorts_of xs i
    all_sorted i l = (stands_at v (sorts_of xs) 0 i i env (omega arith) l stands).sort

    all_at : (i : ℕ) → i < length env → ShownBy v (sorts_of xs i) (name env i).bits (values i)
    all_at = shown_at c s sized fill v t (sorts_of xs) values (λ l i vs. true) (λ l x y. true) env stands (λ i l. refl)

    pub total : length xs ≡ length env
    total = sym (all_named s xs [] m ∙ omega arith)

    pub literal_shows : (a : Operand) → IsBefore (length xs) a → IsTruth (sorts_of xs) a → on values a ≡ value v (literal env a)
    literal_shows a b h = literal_is c v t s.types.objects sized.small (sorts_of xs) env values all_sorted all_at a (subst (λ n. IsBefore n a) total b) h

    numbers_shown : (vars : List Operand) → AreBefore (length xs) vars → AreNumbers (sorts_of xs) vars → (numbers : List ℤ) × (values_of values vars ≡ map Number numbers) × WordsShow v (wide_words env vars) numbers
    numbers_shown vars b h =
        let k = all_shown c s sized v t (sorts_of xs) env values all_sorted all_at vars (subst (λ n. AreBefore n vars) total b) h in
        (k.numbers, k.are, k.shows)

  pub models_solve_behind : ModelsSolveBehind
  models_solve_behind = λ s sized fill m so xs r ty v t ok row lower rows. (comes s sized fill m so xs r ty v t ok row lower).solves rows

  pub fills_hold_behind : FillsHoldBehind
  fills_hold_behind = λ s sized fill m so xs r ty v t ok row lower means. (comes s sized fill m so xs r ty v t ok row lower).rows means

  pub literals_show_behind : LiteralsShowBehind
  literals_show_behind = λ s sized fill m so xs r ty v t ok a b h. literal_shows s sized fill m so xs r ty v t ok a b h

  pub numbers_show_behind : NumbersShowBehind
  numbers_show_behind = λ s sized fill m so xs r ty v t ok vars b h. numbers_shown s sized fill m so xs r ty v t ok vars b h

  -- ---- from the start

  pub models_solve : ModelsSolve
  models_solve = λ s sized fill xs r ty v t ok row lower rows. models_solve_behind s sized fill start (start_sound c s fill) xs r ty v t ok row lower rows

  pub fills_hold : FillsHold
  fills_hold = λ s sized fill xs r ty v t ok row lower means. fills_hold_behind s sized fill start (start_sound c s fill) xs r ty v t ok row lower means

  pub literals_show : LiteralsShow
  literals_show = λ s sized fill xs r ty v t ok a b h. literals_show_behind s sized fill start (start_sound c s fill) xs r ty v t ok a b h
