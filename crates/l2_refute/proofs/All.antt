-- Goals that are refuted one after another.
use Rattle.std.proofs.Common.{◌≡◌, ℕ, zero, suc, ◌+◌, ◌<◌, ℤ, List, [], ◌∷◌, ◌++◌, length, sym, subst, Contains, slice_index_or, arith}
use Rattle.std.specs.List.{All}
use Rattle.std.proofs.lemmas.List.Elements.{All-nil, All-cons}
use Rattle.l2_cnf.specs.Logic.{AllWithin, IsWithin}
use Rattle.l2_cnf.specs.Steps.{Step}
use Rattle.l2_cert.specs.Certificate.{IsGoal}
use Rattle.l2_refute.specs.Refuting.{Refute, AreRefuted}

-- those before an index are refuted
abbrev pub Before : ℕ → List (List ℤ) → List (List ℤ) → List (List Step) → ℕ → Type 0
Before variables base last steps n = (i : ℕ) → i < n → Refute variables (base ++ slice_index_or last i [] ∷ []) (slice_index_or steps i [])

each_spelt : (all : List (List Step)) → ((i : ℕ) → i < length all → IsGoal (slice_index_or all i [])) → All IsGoal all
each_spelt [] f = All-nil IsGoal
each_spelt (s ∷ all) f = All-cons IsGoal s all (f 0 (omega arith)) (each_spelt all (λ i l. f (suc i) (omega (arith, l))))

pub all_refuted : (variables : ℕ) (base last : List (List ℤ)) (steps : List (List Step)) → length steps ≡ length last → Before variables base last steps (length last)
    → AreRefuted (record { base = base; variables = variables; last = last; steps = steps })
all_refuted variables base last steps each f = record {
  each = each;
  hold = λ i a b. (f i (omega (arith, each, b))).refuted;
  spelt = each_spelt steps (λ i l. (f i (omega (arith, each, l))).spelt);
  new = λ i l. (f i (omega (arith, each, l))).new;
}

-- one more clause of these
pub one_more : (variables : ℕ) (base : List (List ℤ)) (clause : List ℤ) → AllWithin variables base → IsWithin variables clause → AllWithin variables (base ++ clause ∷ [])
one_more variables [] clause h k c (zero, l, e) = subst (IsWithin variables) e k
one_more variables [] clause h k c (suc i, l, e) = absurd (omega (arith, l))
one_more variables (x ∷ base) clause h k c (zero, l, e) = h c (zero, omega arith, e)
one_more variables (x ∷ base) clause h k c (suc i, l, e) =
    one_more variables base clause (λ d (j, m, q). h d (suc j, omega (arith, m), q)) k c (i, omega (arith, l), e)

pub listed : (list : List (List ℤ)) (i : ℕ) (x : List ℤ) → i < length list → x ≡ slice_index_or list i [] → Contains list x
listed [] i x l e = absurd (omega (arith, l))
listed (y ∷ list) zero x l e = (0, omega arith, sym e)
listed (y ∷ list) (suc i) x l e = let (k, m, q) = listed list i x (omega (arith, l)) e in (suc k, omega (arith, m), q)

-- one more list of steps
pushed_at : (P : ℕ → List Step → Type 0) (steps : List (List Step)) (s : List Step) → ((i : ℕ) → i < length steps → P i (slice_index_or steps i [])) → P (length steps) s
    → (i : ℕ) → i < length steps + 1 → P i (slice_index_or (steps ++ s ∷ []) i [])
pushed_at P [] s f p zero l = p
pushed_at P [] s f p (suc i) l = absurd (omega (arith, l))
pushed_at P (x ∷ steps) s f p zero l = f 0 (omega arith)
pushed_at P (x ∷ steps) s f p (suc i) l = pushed_at (λ j. P (suc j)) steps s (λ j k. f (suc j) (omega (arith, k))) p i (omega (arith, l))

longer : (steps : List (List Step)) (s : List Step) → length (steps ++ s ∷ []) ≡ length steps + 1
longer [] s = omega arith
longer (x ∷ steps) s = let e = longer steps s in omega (arith, e)

pub pushed : (variables : ℕ) (base last : List (List ℤ)) (steps : List (List Step)) (s : List Step) (n : ℕ) → length steps ≡ n → Before variables base last steps n
    → Refute variables (base ++ slice_index_or last n [] ∷ []) s → (length (steps ++ s ∷ []) ≡ n + 1) × Before variables base last (steps ++ s ∷ []) (n + 1)
pushed variables base last steps s n e f r = (
  (let q = longer steps s in omega (arith, e, q)),
  λ i l. pushed_at (λ i s. Refute variables (base ++ slice_index_or last i [] ∷ []) s) steps s (λ i k. f i (omega (arith, e, k))) (subst (λ m. Refute variables (base ++ slice_index_or last m [] ∷ []) s) (sym e) r) i (omega (arith, e, l)),
)
