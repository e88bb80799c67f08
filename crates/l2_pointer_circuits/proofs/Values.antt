-- What selectors and offsets say of their pointers.
use Rattle.std.proofs.Common.{◌≡◌, ℕ, zero, suc, ◌≤◌, ◌<◌, ◌==◌, ◌&&◌, ◌||◌, Bool, true, false, not, refl, sym, ap, ◌∙◌, List, [], ◌∷◌, arith}
use Rattle.std.specs.Prelude.{nat_eq}
use Rattle.std.proofs.lemmas.Bool.Decides.{nat_tests}
use Rattle.l2_gates.specs.Models.{both, some_of, value}
use Rattle.l2_gates.proofs.Bools.{both_false, both_true}
use Rattle.l2_runs.specs.declared.cells.CellValue.{CellValue}
use Rattle.l2_runs.specs.declared.cells.CellValue.TheVariants.{Number, Null, Invalid, At}
use Rattle.l2_runs.specs.Store.{Address}
use Rattle.l2_code.specs.Values.{is_not_null, is_not_invalid, same_object}
use Rattle.l2_pointer_circuits.specs.Tests.{Flag}
use Rattle.l2_pointer_circuits.specs.Shows.{pointer_at, is_live}
use Rattle.l2_pointer_circuits.specs.Law.{is_at, IsPlace, AreFlags}

-- ---- tests on numbers

pub zero_suc : (n : ℕ) → nat_eq 0 (suc n) ≡ false
zero_suc n = grind (arith, nat_tests)

pub suc_zero : (n : ℕ) → nat_eq (suc n) 0 ≡ false
suc_zero n = grind (arith, nat_tests)

pub suc_suc : (n m : ℕ) → nat_eq (suc n) (suc m) ≡ nat_eq n m
suc_suc n m = grind (arith, nat_tests)

pub apart : (n m : ℕ) → n < m → nat_eq n m ≡ false
apart n m h = grind (arith, nat_tests)

pub beyond : (n m : ℕ) → m < n → nat_eq n m ≡ false
beyond n m h = grind (arith, nat_tests)

pub itself : (n : ℕ) → nat_eq n n ≡ true
itself n = grind (arith, nat_tests)

pub both_and : (a b : Bool) → both a b ≡ (a && b)
both_and true b = refl
both_and false b = refl

pub some_or : (a b : Bool) → some_of a b ≡ (a || b)
some_or true b = refl
some_or false b = refl

-- ---- places

pub at_is : (p : Address) (s f : ℕ) → IsPlace p → both (nat_eq s (suc p.object)) (nat_eq f p.offset) ≡ is_at p (pointer_at s f)
at_is p zero zero h = ap (λ b. both b (nat_eq 0 p.offset)) (zero_suc p.object)
at_is p zero (suc f) h =
    let t = h.object_to in
    ap (λ b. both b (nat_eq (suc f) p.offset)) (zero_suc p.object) ∙ sym (ap (λ b. b && nat_eq (suc f) p.offset) (beyond 131071 p.object (omega arith)))
at_is p (suc zero) zero h = let t = h.object_from in ap (λ b. both b (nat_eq 0 p.offset)) (apart 1 (suc p.object) (omega arith))
at_is p (suc zero) (suc f) h = ap (λ b. both b (nat_eq (suc f) p.offset)) (suc_suc zero p.object) ∙ both_and (nat_eq 0 p.object) (nat_eq (suc f) p.offset)
at_is p (suc (suc n)) f h = ap (λ b. both b (nat_eq f p.offset)) (suc_suc (suc n) p.object) ∙ both_and (nat_eq (suc n) p.object) (nat_eq f p.offset)

-- ---- pointers of sets over codes

-- a pointer into an object whose number a code may have
abbrev pub IsReal : CellValue → Type 0
IsReal (Number z) = Unit {0}
IsReal Null = Unit {0}
IsReal Invalid = Unit {0}
IsReal (At o f) = (1 ≤ o) × (o ≤ 131070)

pub null_is : (s f : ℕ) → IsReal (pointer_at s f) → not (nat_eq s 0) ≡ is_not_null (pointer_at s f)
null_is zero zero r = ap not (itself 0)
null_is zero (suc f) r = absurd (let h = r.1 in omega arith)
null_is (suc zero) zero r = ap not (suc_zero 0)
null_is (suc zero) (suc f) r = absurd (let h = r.0 in omega arith)
null_is (suc (suc n)) f r = ap not (suc_zero (suc n))

pub invalid_is : (s f : ℕ) → IsReal (pointer_at s f) → not (nat_eq s 1) ≡ is_not_invalid (pointer_at s f)
invalid_is zero zero r = ap not (zero_suc 0)
invalid_is zero (suc f) r = absurd (let h = r.1 in omega arith)
invalid_is (suc zero) zero r = ap not (itself 1)
invalid_is (suc zero) (suc f) r = absurd (let h = r.0 in omega arith)
invalid_is (suc (suc n)) f r = ap not (beyond (suc (suc n)) 1 (omega arith))

-- ---- one object

one_object : (n s f : ℕ) → suc n ≤ 131070 → (o : ℕ) → nat_eq (suc (suc n)) s ≡ same_object (At (suc n) o) (pointer_at s f)
one_object n zero zero h o = suc_zero (suc n)
one_object n zero (suc f) h o = suc_zero (suc n) ∙ sym (apart (suc n) 131071 (omega arith))
one_object n (suc zero) zero h o = beyond (suc (suc n)) 1 (omega arith)
one_object n (suc zero) (suc f) h o = suc_suc (suc n) 0
one_object n (suc (suc m)) f h o = suc_suc (suc n) (suc m)

both_neither : (a b c : Bool) → b ≡ false → c ≡ false → both a (both (not b) (not c)) ≡ a
both_neither a b c e f = ap (λ x. both a (both (not x) (not c))) e ∙ ap (λ x. both a (not x)) f ∙ both_true a

both_first_true : (a b c : Bool) → b ≡ true → both a (both (not b) (not c)) ≡ false
both_first_true a b c e = ap (λ x. both a (both (not x) (not c))) e ∙ both_false a

both_second_true : (a b c : Bool) → c ≡ true → both a (both (not b) (not c)) ≡ false
both_second_true a b c e = ap (λ x. both a (both (not b) (not x))) e ∙ ap (both a) (both_false (not b)) ∙ both_false a

pub same_is : (s f t g : ℕ) → IsReal (pointer_at s f) → both (nat_eq s t) (both (not (nat_eq s 0)) (not (nat_eq s 1))) ≡ same_object (pointer_at s f) (pointer_at t g)
same_is zero zero t g r = both_first_true (nat_eq 0 t) (nat_eq 0 0) (nat_eq 0 1) (itself 0)
same_is zero (suc f) t g r = absurd (let h = r.1 in omega arith)
same_is (suc zero) zero t g r = both_second_true (nat_eq 1 t) (nat_eq 1 0) (nat_eq 1 1) (itself 1)
same_is (suc zero) (suc f) t g r = absurd (let h = r.0 in omega arith)
same_is (suc (suc n)) f t g r =
    both_neither (nat_eq (suc (suc n)) t) (nat_eq (suc (suc n)) 0) (nat_eq (suc (suc n)) 1) (suc_zero (suc n)) (beyond (suc (suc n)) 1 (omega arith)) ∙ one_object n t g r.1 f

-- ---- live flags

-- what a flag says of a selector
abbrev pub flag_value : (ℕ → Bool) → ℕ → Flag → Bool
flag_value v s t = some_of (not (nat_eq s (suc t.object))) (value v t.live)

abbrev pub flag_values : (ℕ → Bool) → ℕ → List Flag → Bool
flag_values v s [] = true
flag_values v s (t ∷ rest) = both (flag_value v s t) (flag_values v s rest)

other_object : (v : ℕ → Bool) (s : ℕ) (t : Flag) (b : Bool) → nat_eq s (suc t.object) ≡ false → both (flag_value v s t) b ≡ b
other_object v s t b e = ap (λ x. both (some_of (not x) (value v t.live)) b) e

this_object : (v : ℕ → Bool) (s o : ℕ) (t : Flag) (b c : Bool) → nat_eq s (suc t.object) ≡ nat_eq o t.object → b ≡ c → both (flag_value v s t) b ≡ ((not (o == t.object) || value v t.live) && c)
this_object v s o t b c e h =
    ap (λ x. both (some_of (not x) (value v t.live)) b) e ∙ ap (λ x. both (some_of (not (o == t.object)) (value v t.live)) x) h
    ∙ ap (λ x. both x c) (some_or (not (o == t.object)) (value v t.live)) ∙ both_and (not (o == t.object) || value v t.live) c

null_live : (v : ℕ → Bool) (flags : List Flag) → is_live v flags Null ≡ true
null_live v [] = refl
null_live v (t ∷ rest) = refl

invalid_live : (v : ℕ → Bool) (flags : List Flag) → is_live v flags Invalid ≡ true
invalid_live v [] = refl
invalid_live v (t ∷ rest) = refl

pub live_is : (v : ℕ → Bool) (s f : ℕ) (flags : List Flag) → AreFlags flags → flag_values v s flags ≡ is_live v flags (pointer_at s f)
live_is v zero zero [] h = refl
live_is v zero zero (t ∷ rest) (from, to, hs) = other_object v 0 t (flag_values v 0 rest) (zero_suc t.object) ∙ live_is v zero zero rest hs ∙ null_live v rest
live_is v zero (suc f) [] h = refl
live_is v zero (suc f) (t ∷ rest) (from, to, hs) =
    this_object v 0 131071 t (flag_values v 0 rest) (is_live v rest (At 131071 (suc f))) (zero_suc t.object ∙ sym (beyond 131071 t.object (omega arith))) (live_is v zero (suc f) rest hs)
live_is v (suc zero) zero [] h = refl
live_is v (suc zero) zero (t ∷ rest) (from, to, hs) =
    other_object v 1 t (flag_values v 1 rest) (apart 1 (suc t.object) (omega arith)) ∙ live_is v (suc zero) zero rest hs ∙ invalid_live v rest
live_is v (suc zero) (suc f) [] h = refl
live_is v (suc zero) (suc f) (t ∷ rest) (from, to, hs) =
    this_object v 1 0 t (flag_values v 1 rest) (is_live v rest (At 0 (suc f))) (suc_suc 0 t.object) (live_is v (suc zero) (suc f) rest hs)
live_is v (suc (suc n)) f [] h = refl
live_is v (suc (suc n)) f (t ∷ rest) (from, to, hs) =
    this_object v (suc (suc n)) (suc n) t (flag_values v (suc (suc n)) rest) (is_live v rest (At (suc n) f)) (suc_suc (suc n) t.object) (live_is v (suc (suc n)) f rest hs)
