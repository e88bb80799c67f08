-- What is done so many times.
use Rattle.std.proofs.Common.{◌≡◌, ℕ, zero, suc, ◌+◌, ◌-◌, ◌<◌, ◌≤◌, List, [], ◌∷◌, ◌++◌, refl, ap, sym, arith}
use Rattle.l2_types.specs.declared.state.Site.{Site}
use Rattle.l2_types_unit.specs.Calls.{grown, reached}
use Rattle.l2_types_unit.specs.Units.{numbers}

pub reached_more : (k : ℕ) (calls : List Site) (fs : List ℕ) → 0 < k → reached k calls fs ≡ reached (k - 1) calls (grown calls fs)
reached_more zero calls fs h = absurd (omega arith)
reached_more (suc j) calls fs h = let e : suc j - 1 ≡ j = omega arith in ap (λ i. reached i calls (grown calls fs)) (sym e)

pub reached_last : (k : ℕ) (calls : List Site) (fs : List ℕ) → k ≤ 0 → reached k calls fs ≡ fs
reached_last zero calls fs h = refl
reached_last (suc j) calls fs h = absurd (omega arith)

pub numbers_more : (ns : List ℕ) (n k : ℕ) → 0 < k → numbers ns n k ≡ numbers (ns ++ n ∷ []) (n + 1) (k - 1)
numbers_more ns n zero h = absurd (omega arith)
numbers_more ns n (suc j) h = let e : suc j - 1 ≡ j = omega arith in ap (λ i. numbers (ns ++ n ∷ []) (n + 1) i) (sym e)

pub numbers_last : (ns : List ℕ) (n k : ℕ) → k ≤ 0 → numbers ns n k ≡ ns
numbers_last ns n zero h = refl
numbers_last ns n (suc j) h = absurd (omega arith)

pub ruleset counted = (reached_more, reached_last, numbers_more, numbers_last)
