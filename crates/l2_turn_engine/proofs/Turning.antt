-- Turns on which forms keep their values, by lists that go down.
use Rattle.std.proofs.Common.{◌≡◌, ℕ, zero, suc, ℤ, int_lt, Bool, true, false, not, ◌&&◌, ◌||◌, if◌then◌else◌, List, [], ◌∷◌, ◌++◌, refl, sym, ap, ◌∙◌, arith, slice_get}
use Rattle.std.specs.Ordering.{int_eq}
use Rattle.std.proofs.lemmas.Int.{ints}
use Rattle.l2_runs.specs.Store.{Store}
use Rattle.l2_templates.specs.declared.form.Form.{Form}
use Rattle.l2_templates.specs.Forms.{row_value, lower_than}
use Rattle.l2_cuts.specs.Points.{values_of, or_no_forms, ranks_at}
use Rattle.l2_cuts.specs.Rankings.{keeps, falls, rises, keep_all}
use Rattle.l2_turn_engine.specs.Lists.{only_at}

not_less : (x y : ℤ) → int_eq x y ≡ true → int_lt x y ≡ false
not_less x y e = grind (arith, ints)

some_less : (x y : ℤ) → int_eq x y ≡ false → int_lt x y ≡ false → int_lt y x ≡ true
some_less x y e f = grind (arith, ints)

pub turned : (x y : ℤ) → int_eq x y ≡ int_eq y x
turned x y = go (int_eq x y) refl
  where
    there : (x y : ℤ) → int_eq x y ≡ true → int_eq y x ≡ true
    there x y e = grind (arith, ints)

    apart : (x y : ℤ) → int_eq x y ≡ false → int_eq y x ≡ false
    apart x y e = grind (arith, ints)

    go : (b : Bool) → int_eq x y ≡ b → b ≡ int_eq y x
    go true e = sym (there x y e)
    go false e = sym (apart x y e)

and_not : (b : Bool) → (b && not b) ≡ false
and_not true = refl
and_not false = refl

and_true : (b : Bool) → (b && true) ≡ b
and_true true = refl
and_true false = refl

-- a longer list goes down and the shorter one doesn't exactly where the last form falls and all others keep their values
pub falls_is : (fs : List Form) (f : Form) (a b : Store)
    → (lower_than (fs ++ f ∷ []) (values_of a) (values_of b) && not (lower_than fs (values_of a) (values_of b))) ≡ (keep_all fs a b && falls f a b)
falls_is [] f a b = go (int_eq (row_value f (values_of b)) (row_value f (values_of a))) refl
  where
    less : Bool
    less = int_lt (row_value f (values_of b)) (row_value f (values_of a))

    go : (e : Bool) → int_eq (row_value f (values_of b)) (row_value f (values_of a)) ≡ e → ((if e then false else less) && true) ≡ less
    go true e = sym (not_less (row_value f (values_of b)) (row_value f (values_of a)) e)
    go false e = and_true less
falls_is (g ∷ fs) f a b = go (int_eq (row_value g (values_of b)) (row_value g (values_of a))) (falls_is fs f a b)
  where
    less : Bool
    less = int_lt (row_value g (values_of b)) (row_value g (values_of a))

    long : Bool
    long = lower_than (fs ++ f ∷ []) (values_of a) (values_of b)

    short : Bool
    short = lower_than fs (values_of a) (values_of b)

    go : (e : Bool) → (long && not short) ≡ (keep_all fs a b && falls f a b) → ((if e then long else less) && not (if e then short else less)) ≡ ((e && keep_all fs a b) && falls f a b)
    go true h = h
    go false h = and_not less

keep_turned : (fs : List Form) (a b : Store) → keep_all fs b a ≡ keep_all fs a b
keep_turned [] a b = refl
keep_turned (f ∷ fs) a b =
    ap (λ e. e && keep_all fs b a) (turned (row_value f (values_of a)) (row_value f (values_of b)))
    ∙ ap (λ k. keeps f a b && k) (keep_turned fs a b)

-- and upwards
pub rises_is : (fs : List Form) (f : Form) (a b : Store)
    → (lower_than (fs ++ f ∷ []) (values_of b) (values_of a) && not (lower_than fs (values_of b) (values_of a))) ≡ (keep_all fs a b && rises f a b)
rises_is fs f a b = falls_is fs f b a ∙ ap (λ k. k && rises f a b) (keep_turned fs a b)

-- a list goes down or up exactly where some form doesn't keep its value
pub stays_is : (fs : List Form) (a b : Store) → (lower_than fs (values_of a) (values_of b) || lower_than fs (values_of b) (values_of a)) ≡ not (keep_all fs a b)
stays_is [] a b = refl
stays_is (f ∷ fs) a b = go (int_eq y x) refl (int_eq x y) (turned y x) (stays_is fs a b)
  where
    x : ℤ
    x = row_value f (values_of a)

    y : ℤ
    y = row_value f (values_of b)

    down : Bool
    down = lower_than fs (values_of a) (values_of b)

    up : Bool
    up = lower_than fs (values_of b) (values_of a)

    either : (l : Bool) → int_lt y x ≡ l → int_eq y x ≡ false → (l || int_lt x y) ≡ true
    either true e n = refl
    either false e n = some_less y x n e

    go : (e : Bool) → int_eq y x ≡ e → (d : Bool) → int_eq y x ≡ d → (down || up) ≡ not (keep_all fs a b)
        → ((if e then down else int_lt y x) || (if d then up else int_lt x y)) ≡ not (e && keep_all fs a b)
    go true e true d h = h
    go true e false d h = absurd (both e d)
      where
        both : {b : Bool} → b ≡ true → b ≡ false → ⊥
        both p q = cc
    go false e true d h = absurd (both d e)
      where
        both : {b : Bool} → b ≡ true → b ≡ false → ⊥
        both p q = cc
    go false e false d h = either (int_lt y x) refl e

-- ---- lists of one loop

pub only_here : (i : ℕ) (fs : List Form) → ranks_at (only_at i fs) (suc i) ≡ fs
only_here zero fs = refl
only_here (suc i) fs = only_here i fs

only_each : (P : ℕ → List Form → Type 0) → ((l : ℕ) → P l []) → (i : ℕ) (fs : List Form) → P i fs → (n : ℕ) → P n (or_no_forms (slice_get (only_at i fs) n))
only_each P none zero fs h zero = h
only_each P none zero fs h (suc n) = none (suc n)
only_each P none (suc i) fs h zero = none 0
only_each P none (suc i) fs h (suc n) = only_each (λ m. P (suc m)) (λ l. none (suc l)) i fs h n

pub only_all : (P : ℕ → List Form → Type 0) → ((l : ℕ) → P l []) → (i : ℕ) (fs : List Form) → P (suc i) fs → (l : ℕ) → P l (ranks_at (only_at i fs) l)
only_all P none i fs h zero = none 0
only_all P none i fs h (suc n) = only_each (λ m. P (suc m)) (λ m. none (suc m)) i fs h n
