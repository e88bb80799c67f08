-- What the binary search keeps.
use Rattle.std.proofs.Common.{Result, Ok, Err, zero, suc, ◌+◌, ◌*◌, ◌/◌, ◌^◌, refl, sym, ap, ◌∙◌, subst, arith}
use Rattle.std.proofs.lemmas.Nat.{pow-add}
use Rattle.std.proofs.lemmas.Int.{ints}
use Rattle.std.proofs.lemmas.List.Sums.{sum_by-cons}
use Rattle.std.specs.Prelude.{sum_by, replicate, ◌≡◌, ℕ, ◌<◌, ◌≤◌, ◌-◌, ℤ, pos, ◌≤ℤ◌, List, [], ◌∷◌, length, map, slice_index_or, Option, None, MatchOption, IfOk}
use Rattle.l2_templates.specs.declared.form.Form.{Form}
use Rattle.l2_templates.specs.declared.point.LoopPoint.{LoopPoint}
use Rattle.l2_strategy.specs.Asking.{IsAskable}
use Rattle.l2_strategy.specs.Places.{at_bottom, left_of, left}

-- enough questions are left for so many bounds
pub record Enough (first now b d : ℕ) : Type 0 where
  pub more : ℕ
  pub small : d < 2 ^ more
  pub total : now + more ≤ first + b

pub enough_first : (first b d most : ℕ) → most < 2 ^ b → d ≤ most → Enough first first b d
enough_first first b d most h k = record { more = b; small = omega (arith, h, k); total = omega arith }

pub enough_next : (first now now' b d d' : ℕ) → Enough first now b d → 1 ≤ d → d' ≤ d / 2 → now' ≤ now + 1 → Enough first now' b d'
enough_next first now now' b d d' e some half asked = go e.more e.small e.total
  where
    go : (m : ℕ) → d < 2 ^ m → now + m ≤ first + b → Enough first now' b d'
    go zero h t = absurd (omega (arith, h, some))
    go (suc n) h t =
        let p : 2 ^ suc n ≡ 2 * 2 ^ n = ap (λ k. 2 ^ k) (omega arith) ∙ pow-add 2 1 n in
        record { more = n; small = omega (arith, h, half, p); total = omega (arith, asked, t) }

-- so many were asked at most
pub enough_last : (first now b d : ℕ) → Enough first now b d → now ≤ first + b
enough_last first now b d e = omega (arith, e.total)

pub enough_one : (first now now' b d : ℕ) → Enough first now b d → 1 ≤ d → now' ≤ now + 1 → now' ≤ first + b
enough_one first now now' b d e some asked = let k = enough_next first now now' b d 0 e some (omega arith) asked in omega (arith, k.total)

pub record IsHalving {Problem : Type 0} (Exceeds : ℤ → Type 0) (first now : Problem) (before asked : ℕ) (bounds : List ℤ) (from low high : ℕ) : Type 0 where
  pub enough : (b : ℕ) → length bounds < 2 ^ b → Enough before asked b (high - low)
  pub same : now ≡ first
  pub later : from < low
  pub ordered : low ≤ high
  pub within : high ≤ length bounds
  pub exceeded : Exceeds (slice_index_or bounds (low - 1) (pos 0))

pub of_none : {A : Type 0} (x : Option A) (N : Type 0) (S : A → Type 0) → MatchOption x N S → x ≡ None → N
of_none x N S h e = subst (λ o. MatchOption o N S) e h

pub bottoms : {A : Type 0} (f : A → List Form) (xs : List A) → map at_bottom (map f xs) ≡ map (λ x. at_bottom (f x)) xs
bottoms f [] = refl
bottoms f (x ∷ xs) = ap (λ ys. at_bottom (f x) ∷ ys) (bottoms f xs)

-- ---- questions

less_times : (m n c : ℕ) → m < n → m * c + c ≤ n * c
less_times m n c h =
    let d : ℕ = n - m - 1 in
    let e : n ≡ m + 1 + d = omega (arith, h) in
    let k : n * c ≡ m * c + c + d * c = ap (λ x. x * c) e ∙ grind arith in omega (arith, k)

-- so many questions were asked, and for each step that is left there are as many as one takes
pub record IsCounted (start now steps left most : ℕ) : Type 0 where
  pub count : (b : ℕ) → most < 2 ^ b → now + left * (1 + b) ≤ start + steps * (1 + b)

pub counted_first : (start steps most : ℕ) → IsCounted start start steps steps most
counted_first start steps most = record { count = λ b h. omega arith }

-- a point is asked, and then rows
pub counted_next : (start now one two steps few less most : ℕ) → IsCounted start now steps few most → one ≤ now + 1 → ((b : ℕ) → most < 2 ^ b → two + 1 + less * (1 + b) ≤ one + few * (1 + b)) → IsCounted start two steps less most
counted_next start now one two steps few less most c asked rows = record { count = λ b h. let k = c.count b h in let r = rows b h in omega (arith, k, r, asked) }

pub counted_last : (start now one steps few most : ℕ) → IsCounted start now steps few most → one ≤ now + 1 → (b : ℕ) → most < 2 ^ b → one ≤ start + 1 + steps * (1 + b)
counted_last start now one steps few most c asked b h = let k = c.count b h in omega (arith, k, asked)

pub counted_stop : (start now one two steps few most : ℕ) → IsCounted start now steps few most → one ≤ now + 1 → ((b : ℕ) → most < 2 ^ b → two + 1 ≤ one + few * (1 + b)) → (b : ℕ) → most < 2 ^ b → two ≤ start + 1 + steps * (1 + b)
counted_stop start now one two steps few most c asked rows b h = let k = c.count b h in let r = rows b h in omega (arith, k, r, asked)

-- ---- questions of a step

-- one step costs what it is left less
pub step_counted : (asked left' left b : ℕ) → left' + 1 ≤ left → asked + 1 + left' * (1 + b) ≤ asked + left * (1 + b)
step_counted asked left' left b h = let t = less_times left' left (1 + b) (omega (arith, h)) in omega (arith, t)

few_times : (m n c : ℕ) → m ≤ n → m * c ≤ n * c
few_times m n c h =
    let d : ℕ = n - m in
    let e : n ≡ m + d = omega (arith, h) in
    let k : n * c ≡ m * c + d * c = ap (λ x. x * c) e ∙ grind arith in omega (arith, k)

-- so do several
pub steps_counted : (old asked n left' left b : ℕ) → asked + 1 ≤ old + n * (1 + b) → left' + n ≤ left → asked + 1 + left' * (1 + b) ≤ old + left * (1 + b)
steps_counted old asked n left' left b h k =
    let t = few_times (left' + n) left (1 + b) k in
    let e : (left' + n) * (1 + b) ≡ left' * (1 + b) + n * (1 + b) = grind arith in omega (arith, h, t, e)

pub steps_left : (old asked n left b : ℕ) → asked + 1 ≤ old + n * (1 + b) → n ≤ left → asked + 1 ≤ old + left * (1 + b)
steps_left old asked n left b h k = let t = few_times n left (1 + b) k in omega (arith, h, t)

-- no question is asked
pub none_asked : (old n b : ℕ) → 1 ≤ n → old + 1 ≤ old + n * (1 + b)
none_asked old n b k = let t = few_times 1 n (1 + b) k in omega (arith, t)

some_digits : (most b : ℕ) → 1 ≤ most → most < 2 ^ b → 1 ≤ b
some_digits most zero h k = absurd (omega (arith, h, k))
some_digits most (suc b) h k = omega arith

-- one question is
pub one_asked : (old asked n most b : ℕ) → asked ≤ old + 1 → 1 ≤ n → 1 ≤ most → most < 2 ^ b → asked + 1 ≤ old + n * (1 + b)
one_asked old asked n most b h k some few =
    let t = few_times 1 n (1 + b) k in let d = some_digits most b some few in omega (arith, h, t, d)

-- one is, and then those of a binary search
pub all_asked : (old one asked n b : ℕ) → one ≤ old + 1 → asked ≤ one + b → 2 ≤ n → asked + 1 ≤ old + n * (1 + b)
all_asked old one asked n b h k two = let t = few_times 2 n (1 + b) two in omega (arith, h, k, t)

pub all_counted : {E : Type 0} (r : Result ℕ E) (from old one asked most : ℕ) → IfOk r (λ j. from + 1 < j) → one ≤ old + 1 → ((b : ℕ) → most < 2 ^ b → asked ≤ one + b) → IfOk r (λ j. (b : ℕ) → most < 2 ^ b → asked + 1 ≤ old + (j - from) * (1 + b))
all_counted (Err e) from old one asked most later h rows = tt
all_counted (Ok j) from old one asked most later h rows = λ b few. all_asked old one asked (j - from) b h (rows b few) (omega (arith, later))

left_none : (most n : ℕ) → left_of most (replicate n 0) ≡ n * most
left_none most zero = omega arith
left_none most (suc n) = let e = left_none most n in grind (arith, e)

start_sum : (a b c l s m : ℕ) → a ≡ c * m → b ≡ l + s * m → 1 + a + b ≡ suc l + (c + s) * m
start_sum a b c l s m e k = let d : (c + s) * m ≡ c * m + s * m = grind arith in omega (arith, e, k, d)

-- how many steps there are at the start
pub left_start : {A : Type 0} (f : A → List Form) (most : ℕ) (all : List A) → left most (map (λ x. at_bottom (f x)) all) ≡ length all + sum_by (λ x. length (f x)) all * most
left_start f most [] = omega arith
left_start f most (x ∷ all) =
    start_sum (left_of most (replicate (length (f x)) 0)) (left most (map (λ y. at_bottom (f y)) all)) (length (f x)) (length all) (sum_by (λ y. length (f y)) all) most (left_none most (length (f x))) (left_start f most all)
    ∙ ap (λ n. suc (length all) + n * most) (sym (sum_by-cons (λ y. length (f y)) x all))

-- ---- what may be asked

pub askable_more : (q : List LoopPoint) (l row : ℕ) (a b : ℤ) → a ≤ℤ b → IsAskable q l row a → IsAskable q l row b
askable_more q l row a b h k = record { some = k.some; within = k.within; least = (k.least.0, k.least.1, (let m = k.least.2 in omega (arith, ints, h, m))) }
