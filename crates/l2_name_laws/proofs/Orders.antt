-- Which forms stand before others.
use Rattle.std.proofs.Common.{◌≡◌, ℕ, zero, suc, ◌<◌, Bool, true, false, not, List, [], ◌∷◌, ◌++◌, map, take, refl, sym, ap, ◌∙◌, if◌then◌else◌, arith}
use Rattle.std.specs.Prelude.{◌==◌, ◌&&◌, nat_lt}
use Rattle.std.specs.Bool.{beq}
use Rattle.std.proofs.lemmas.Bool.Decides.{nat_tests}
use Rattle.l2_templates.specs.declared.form.Form.{Form}
use Rattle.l2_templates.specs.Forms.{stands_before}

-- ---- tests on numbers

pub is_less : (m n : ℕ) → m < n → nat_lt m n ≡ true
is_less m n h = grind (arith, nat_tests, h)

pub isnt : (m n : ℕ) → m < n → (m == n) ≡ false
isnt m n h = grind (arith, nat_tests, h)

pub not_zero : (n : ℕ) → 0 < n → (n == 0) ≡ false
not_zero n h = grind (arith, nat_tests, h)

pub is_itself : (n : ℕ) → (n == n) ≡ true
is_itself n = grind (arith, nat_tests)

-- ---- two forms

abbrev ordered : Bool → Bool → Bool → Bool → Bool → Bool → Bool → Bool → Bool → Bool → Bool
ordered f0 g0 first less second less2 signs plus plus2 other2 =
    if f0 && not g0 then true else if not f0 && g0 then false else if not first then less else if not second then less2 else if not signs then plus else plus2 && not other2

abbrev test : (f g : Form) (f0 g0 first less second less2 : Bool) → Bool
test f g f0 g0 first less second less2 = ordered f0 g0 first less second less2 (beq f.plus g.plus) f.plus f.second_plus g.second_plus

pub single_first : (f g : Form) → f.second ≡ 0 → g.second ≡ 0 → f.first < g.first → stands_before f g ≡ true
single_first f g a b l =
    let a' : (f.second == 0) ≡ true = ap (λ n. n == 0) a in
    let b' : (g.second == 0) ≡ true = ap (λ n. n == 0) b in
    (λ i. test f g (a' i) (b' i) (isnt f.first g.first l i) (is_less f.first g.first l i) (f.second == g.second) (nat_lt f.second g.second))

pub single_second : (f g : Form) → f.second ≡ 0 → 0 < g.second → stands_before f g ≡ true
single_second f g a b =
    let a' : (f.second == 0) ≡ true = ap (λ n. n == 0) a in
    (λ i. test f g (a' i) (not_zero g.second b i) (f.first == g.first) (nat_lt f.first g.first) (f.second == g.second) (nat_lt f.second g.second))

pub pair_first : (f g : Form) → 0 < f.second → 0 < g.second → f.first < g.first → stands_before f g ≡ true
pair_first f g a b l =
    (λ i. test f g (not_zero f.second a i) (not_zero g.second b i) (isnt f.first g.first l i) (is_less f.first g.first l i) (f.second == g.second) (nat_lt f.second g.second))

pub pair_second : (f g : Form) → 0 < f.second → f.first ≡ g.first → f.second < g.second → stands_before f g ≡ true
pair_second f g a e l =
    let same : (f.first == g.first) ≡ true = sym (ap (λ n. f.first == n) e) ∙ is_itself f.first in
    (λ i. test f g (not_zero f.second a i) (not_zero g.second (omega (arith, l)) i) (same i) (nat_lt f.first g.first) (isnt f.second g.second l i) (is_less f.second g.second l i))

-- of the same variables
pub by_signs : (f g : Form) (b : Bool) → (f.second == 0) ≡ b → (g.second == 0) ≡ b → f.first ≡ g.first → f.second ≡ g.second
    → (if not (beq f.plus g.plus) then f.plus else f.second_plus && not g.second_plus) ≡ true → stands_before f g ≡ true
by_signs f g b x y d e signs =
    let first : (f.first == g.first) ≡ true = sym (ap (λ n. f.first == n) d) ∙ is_itself f.first in
    let second : (f.second == g.second) ≡ true = sym (ap (λ n. f.second == n) e) ∙ is_itself f.second in
    (λ i. test f g (x i) (y i) (first i) (nat_lt f.first g.first) (second i) (nat_lt f.second g.second)) ∙ alike b ∙ signs
  where
    alike : (b : Bool) → test f g b b true (nat_lt f.first g.first) true (nat_lt f.second g.second) ≡ (if not (beq f.plus g.plus) then f.plus else f.second_plus && not g.second_plus)
    alike true = refl
    alike false = refl

-- ---- lists

abbrev pub Each : {A : Type 0} → (A → Type 0) → List A → Type 0
Each P [] = Unit {0}
Each P (x ∷ xs) = P x × Each P xs

pub each_append : {A : Type 0} (P : A → Type 0) (xs ys : List A) → Each P xs → Each P ys → Each P (xs ++ ys)
each_append P [] ys h k = k
each_append P (x ∷ xs) ys h k = (h.0, each_append P xs ys h.1 k)

pub each_map : {A B : Type 0} (P : B → Type 0) (f : A → B) (xs : List A) → ((x : A) → P (f x)) → Each P (map f xs)
each_map P f [] h = tt
each_map P f (x ∷ xs) h = (h x, each_map P f xs h)

pub each_so : {A : Type 0} (P Q : A → Type 0) (xs : List A) → ((x : A) → P x → Q x) → Each P xs → Each Q xs
each_so P Q [] f h = tt
each_so P Q (x ∷ xs) f h = (f x h.0, each_so P Q xs f h.1)

pub each_take : {A : Type 0} (P : A → Type 0) (n : ℕ) (xs : List A) → Each P xs → Each P (take n xs)
each_take P zero xs h = tt
each_take P (suc n) [] h = tt
each_take P (suc n) (x ∷ xs) h = (h.0, each_take P n xs h.1)

-- this one stands before all these
abbrev pub Behind : Form → List Form → Type 0
Behind f gs = Each (λ g. stands_before f g ≡ true) gs

abbrev pub Ordered : List Form → Type 0
Ordered [] = Unit {0}
Ordered (f ∷ fs) = Behind f fs × Ordered fs

abbrev pub AllBefore : List Form → List Form → Type 0
AllBefore fs gs = Each (λ f. Behind f gs) fs

pub all_before : (P Q : Form → Type 0) (fs gs : List Form) → ((f g : Form) → P f → Q g → stands_before f g ≡ true) → Each P fs → Each Q gs → AllBefore fs gs
all_before P Q fs gs h p q = each_so P (λ f. Behind f gs) fs (λ f a. each_so Q (λ g. stands_before f g ≡ true) gs (λ g b. h f g a b) q) p

pub ordered_append : (fs gs : List Form) → Ordered fs → Ordered gs → AllBefore fs gs → Ordered (fs ++ gs)
ordered_append [] gs h k b = k
ordered_append (f ∷ fs) gs h k b = (each_append (λ g. stands_before f g ≡ true) fs gs h.0 b.0, ordered_append fs gs h.1 k b.1)

pub ordered_take : (n : ℕ) (fs : List Form) → Ordered fs → Ordered (take n fs)
ordered_take zero fs h = tt
ordered_take (suc n) [] h = tt
ordered_take (suc n) (f ∷ fs) h = (each_take (λ g. stands_before f g ≡ true) n fs h.0, ordered_take n fs h.1)
