-- Clauses of which none is absorbed by those before it are at most as many as there are sets of literals.
use Rattle.std.proofs.Common.{◌≡◌, ◌≢◌, inl, inr, ℕ, suc, zero, ◌+◌, ◌-◌, ◌*◌, ◌^◌, ◌<◌, ◌≤◌, List, ◌++◌, [], ◌∷◌, length, map, refl, sym, ap, ◌∙◌, subst, arith, eqb, true, false, cond, Bool}
use Rattle.std.specs.Prelude.{ℤ, Contains}
use Rattle.std.specs.List.{list_any, IsDistinct}
use Rattle.std.proofs.lemmas.Bool.Decides.{nat_tests}
use Rattle.std.proofs.lemmas.Bool.{cases_eq}
use Rattle.std.proofs.lemmas.List.{get_or_default}
use Rattle.std.proofs.Common.{get_or}
use lib.IntN.{neg_ℤ-neg_ℤ}
use Rattle.std.specs.Cmp.{nat_eq_equiv}
use Rattle.std.proofs.lemmas.List.{length-map, get_or-map, map_push}
use Rattle.std.proofs.lemmas.Map.Steps.{length-le_from_distinct_below}
use Rattle.std.proofs.lemmas.Map.Keys.{IsDistinct-push}
use Rattle.std.proofs.lemmas.Map.Views.{list_any-from_Contains, Contains-from_any}
use Rattle.l2_cnf.specs.Lit.{code_of}
use Rattle.l2_cnf.specs.Trail.{AreOver}
use Rattle.l2_cnf.specs.Logic.{assumed, unit, IsAbsorbed}
use Rattle.l2_watch.proofs.Moves.{code_of_injective, code_within}
use Rattle.l2_cdcl.specs.Numbers.{has, number_of}

-- a clause whose literals are those of one in the list is absorbed
pub absorbed_if_same : (list : List (List ℤ)) (clause old : List ℤ) → Contains list old → ((l : ℤ) → Contains clause l → Contains old l) → ((l : ℤ) → Contains old l → Contains clause l) → IsAbsorbed list clause
absorbed_if_same list clause old h there back l k = inl (unit old h (there l k) (λ m b ne. assumed (subst (λ x. Contains clause x) (sym (neg_ℤ-neg_ℤ m)) (back m b), λ e. ne (sym (neg_ℤ-neg_ℤ m) ∙ e))))

pub has-from : (clause : List ℤ) (l : ℤ) → Contains clause l → has (code_of l) clause ≡ true
has-from clause l (k, b, e) = list_any-from_Contains nat_eq_equiv (code_of l) (map code_of clause) (k, omega (arith, b, length-map clause code_of), get_or-map code_of clause k l (code_of l) b ∙ ap code_of e)

pub eqb_same : (x y : ℕ) → eqb x y ≡ true → x ≡ y
eqb_same x y e = grind (arith, nat_tests)

pub from_has : (clause : List ℤ) (l : ℤ) → has (code_of l) clause ≡ true → Contains clause l
from_has clause l h =
    let there = Contains-from_any eqb_same (code_of l) (map code_of clause) h in
    let within : there.0 < length clause = omega (arith, there.1, length-map clause code_of) in
    (there.0, within, code_of_injective _ l (sym (get_or-map code_of clause there.0 l (code_of l) within) ∙ there.2))

bit : (b : Bool) → cond b 1 0 < 2
bit true = omega arith
bit false = omega arith

pub number_of-lt : (k : ℕ) (clause : List ℤ) → number_of k clause < 2 ^ k
unfolding number_of
number_of-lt zero clause = omega arith
number_of-lt (suc k) clause = let h = number_of-lt k clause in let b = bit (has k clause) in let p : 2 ^ suc k ≡ 2 * 2 ^ k = grind arith in omega (arith, h, b, p)

bits : (b c : Bool) (x y : ℕ) → cond b 1 0 + 2 * x ≡ cond c 1 0 + 2 * y → (b ≡ c) × (x ≡ y)
bits true true x y e = (refl, omega arith)
bits false false x y e = (refl, omega arith)
bits true false x y e = absurd (omega arith)
bits false true x y e = absurd (omega arith)

pub number_tells : (k : ℕ) (c d : List ℤ) → number_of k c ≡ number_of k d → (j : ℕ) → j < k → has j c ≡ has j d
unfolding number_of
number_tells zero c d e j h = absurd (omega arith)
number_tells (suc k) c d e j h =
    let parts = bits (has k c) (has k d) (number_of k c) (number_of k d) e in
    elim (cases_eq j k) [
      | inl s ↦ rw s parts.0
      | inr ne ↦ number_tells k c d parts.1 j (omega arith)
    ]

-- a clause that isn't absorbed has a number of its own
pub number_new : (list : List (List ℤ)) (n : ℕ) (clause old : List ℤ) → ¬ IsAbsorbed list clause → Contains list old → AreOver n clause → AreOver n old → number_of (2 * n + 2) clause ≢ number_of (2 * n + 2) old
number_new list n clause old new h c_over o_over e = new (absorbed_if_same list clause old h
    (λ l k. from_has old l (sym (number_tells (2 * n + 2) clause old e (code_of l) (code_within l n (c_over l k).1)) ∙ has-from clause l k))
    (λ l k. from_has clause l (number_tells (2 * n + 2) clause old e (code_of l) (code_within l n (o_over l k).1) ∙ has-from old l k)))

-- so many clauses there are at most
pub at_most : (n : ℕ) (learnt : List (List ℤ)) → IsDistinct eqb (map (number_of (2 * n + 2)) learnt) → length learnt ≤ 2 ^ (2 * n + 2)
at_most n learnt distinct =
    let bound = length-le_from_distinct_below (map (number_of (2 * n + 2)) learnt) (2 ^ (2 * n + 2)) distinct (λ q h.
    let there = Contains-from_any eqb_same q (map (number_of (2 * n + 2)) learnt) h in
    let within : there.0 < length learnt = omega (arith, there.1, length-map learnt (number_of (2 * n + 2))) in
    let is : number_of (2 * n + 2) (get_or learnt there.0 []) ≡ q = sym (get_or-map (number_of (2 * n + 2)) learnt there.0 [] q within) ∙ there.2 in
    subst (λ x. x < 2 ^ (2 * n + 2)) is (number_of-lt (2 * n + 2) (get_or learnt there.0 []))) in
    omega (arith, bound, length-map learnt (number_of (2 * n + 2)))

-- the numbers stay distinct as a clause is learnt that isn't absorbed
pub distinct_more : (list : List (List ℤ)) (n : ℕ) (learnt : List (List ℤ)) (clause : List ℤ) → IsDistinct eqb (map (number_of (2 * n + 2)) learnt) → ¬ IsAbsorbed list clause → ((c : List ℤ) → Contains learnt c → Contains list c) → AreOver n clause → ((c : List ℤ) → Contains learnt c → AreOver n c) → IsDistinct eqb (map (number_of (2 * n + 2)) (learnt ++ clause ∷ []))
distinct_more list n learnt clause distinct new inside over all =
    let f : List ℤ → ℕ = number_of (2 * n + 2) in
    let fresh : (b : Bool) → list_any (eqb (f clause)) (map f learnt) ≡ b → b ≡ false = elim [
      | true ↦ λ e.
          let there = Contains-from_any eqb_same (f clause) (map f learnt) e in
          let within : there.0 < length learnt = omega (arith, there.1, length-map learnt f) in
          let old : List ℤ = get_or learnt there.0 [] in
          let is : f old ≡ f clause = sym (get_or-map f learnt there.0 [] (f clause) within) ∙ there.2 in
          let at : Contains learnt old = (there.0, within, get_or_default learnt there.0 _ _ within) in
          absurd (number_new list n clause old new (inside old at) over (all old at) (sym is))
      | false ↦ λ e. refl
    ] in
    rw map_push (IsDistinct-push nat_eq_equiv (map f learnt) (f clause) distinct (fresh _ refl))

-- the measure falls as a clause is learnt
pub falls_learnt : (b l m n s t : ℕ) → m ≡ l + 1 → m ≤ b → t ≤ n → (b - m) * (n + 1) + (n - t) < (b - l) * (n + 1) + (n - s)
falls_learnt b l m n s t e h k =
    let d : b - l ≡ (b - m) + 1 = omega (arith, e, h) in
    rw d (expand (b - m) n s t k)
  where
    expand : (q n s t : ℕ) → t ≤ n → q * (n + 1) + (n - t) < (q + 1) * (n + 1) + (n - s)
    expand q n s t k = omega arith

-- and as the trail grows
pub falls_decided : (b l n s t : ℕ) → s < t → t ≤ n → (b - l) * (n + 1) + (n - t) < (b - l) * (n + 1) + (n - s)
falls_decided b l n s t h k = omega arith
