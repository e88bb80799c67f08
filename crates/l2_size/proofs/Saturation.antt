-- Sums and products that stop at the last number.
use Rattle.std.proofs.Common.{◌≡◌, ℕ, zero, suc, ◌+◌, ◌*◌, ap, ◌∙◌, arith}
use Rattle.l2_size.specs.Capped.{capped}

-- a sum loses nothing by what was cut off of a part of it
pub sum_is : (a b : ℕ) → capped (capped a + b) ≡ capped (a + b)
sum_is a b = omega arith

times_zero : (x : ℕ) → capped (capped x * zero) ≡ capped (zero * x)
times_zero x = omega arith

times_more : (x j : ℕ) → capped (capped x * suc j) ≡ capped (suc j * x)
times_more x j = grind arith

pub product_is : (x k : ℕ) → capped (capped x * k) ≡ capped (k * x)
product_is x zero = times_zero x
product_is x (suc j) = times_more x j

pub loop_is : (head body end k h t s p r : ℕ) → h ≡ capped head → t ≡ capped body → s ≡ capped (t + end) → p ≡ capped (s * k) → r ≡ capped (p + h) → r ≡ capped (head + k * (body + end))
loop_is head body end k h t s p r eh et es ep er =
    let e : s ≡ capped (body + end) = es ∙ ap (λ n. capped (n + end)) et ∙ sum_is body end in
    let f : p ≡ capped (k * (body + end)) = ep ∙ ap (λ n. capped (n * k)) e ∙ product_is (body + end) k in
    omega arith
