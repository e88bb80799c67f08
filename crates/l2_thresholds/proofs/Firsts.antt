-- The first of the numbers that are one by one put behind others.
use Rattle.std.proofs.Common.{◌≡◌, ℕ, ◌≤◌, ℤ, Bool, true, false, if◌then◌else◌, List, [], ◌∷◌, ◌++◌, take, length, refl, ap, sym, ◌∙◌, arith, append_assoc, append-nil, take_all, Option, Some, None}
use Rattle.std.proofs.Math.Seq.{take-append_seam}
use Rattle.std.specs.List.{cons_option}
use Rattle.l2_syntax.specs.declared.token.Token.{Token}
use Rattle.l2_meaning.specs.Thresholds.{is_among, firsts, values_of, number_in}
use Rattle.l2_thresholds.specs.Lists.{with_last, with_number, with_token}

-- what comes in the end, where these are there and those follow
abbrev pub in_the_end : List ℤ → List ℤ → List ℤ
in_the_end before rest = before ++ firsts before rest

pub one_more : (before : List ℤ) (z : ℤ) (rest : List ℤ) → in_the_end before (z ∷ rest) ≡ in_the_end (with_last before z) rest
one_more before z rest = go (is_among before z) where
  go : (b : Bool) → before ++ (if b then firsts before rest else z ∷ firsts (before ++ z ∷ []) rest) ≡ in_the_end (if b then before else before ++ z ∷ []) rest
  go true = refl
  go false = sym (append_assoc before (z ∷ []) (firsts (before ++ z ∷ []) rest))

pub taken : (n : ℕ) (xs ys : List ℤ) → length xs ≡ n → take n (xs ++ ys) ≡ xs
taken n xs ys e = ap (λ k. take k (xs ++ ys)) (sym e) ∙ take-append_seam xs ys

pub next_token : (before : List ℤ) (t : Token) (rest : List Token) → in_the_end before (values_of (t ∷ rest)) ≡ in_the_end (with_token before t) (values_of rest)
next_token before t rest = go (number_in t.kind) where
  go : (x : Option ℤ) → in_the_end before (cons_option x (values_of rest)) ≡ in_the_end (with_number before x) (values_of rest)
  go None = refl
  go (Some z) = one_more before z (values_of rest)

-- where all are there, or enough
pub all_taken : (xs ys all : List ℤ) → xs ++ ys ≡ all → length xs ≤ 256 → 256 ≤ length xs → xs ≡ take 256 all
all_taken xs ys all e few many = let n : length xs ≡ 256 = omega arith in sym (taken 256 xs ys n) ∙ ap (take 256) e

none_more : (xs all : List ℤ) → xs ++ [] ≡ all → length xs ≤ 256 → xs ≡ take 256 all
none_more xs all e few = sym (take_all 256 xs few) ∙ ap (take 256) (sym (append-nil xs) ∙ e)

pub none_left : (xs all : List ℤ) (rest : List Token) → rest ≡ [] → in_the_end xs (values_of rest) ≡ all → length xs ≤ 256 → xs ≡ take 256 all
none_left xs all rest over e few = none_more xs all (ap (λ ts. in_the_end xs (values_of ts)) (sym over) ∙ e) few

-- ---- pushes

pub pushed : (xs ys before after : List ℤ) (z : ℤ) → before ≡ xs ++ ys → after ≡ before ++ z ∷ [] → after ≡ xs ++ (ys ++ z ∷ [])
pushed xs ys before after z e f = f ∙ ap (λ b. b ++ z ∷ []) e ∙ append_assoc xs ys (z ∷ [])
