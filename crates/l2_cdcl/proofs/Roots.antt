-- The hints of the empty clause, traced back from a clause that is false though nothing was decided.
use Rattle.std.proofs.Common.{◌≡◌, ◌≢◌, ◌⊎◌, inl, inr, ℕ, ◌+◌, ◌-◌, ◌<◌, ◌≤◌, List, ◌++◌, [], ◌∷◌, length, reverse, get_or, sym, ap, ◌∙◌, subst, arith, Bool, true, false}
use Rattle.std.specs.Prelude.{ℤ, pos, nat_abs, neg_ℤ, Contains}
use Rattle.std.proofs.lemmas.Bool.{cases_lt}
use Rattle.std.proofs.lemmas.List.{get_or_default}
use lib.IntN.{neg_ℤ-neg_ℤ}
use Rattle.l2_cnf.specs.Trail.{AreApart}
use Rattle.l2_cnf.specs.Steps.{clause_of, Leads}
use Rattle.l2_cnf.proofs.Laws.{nat_abs-neg_ℤ}
use Rattle.l2_watch.specs.Past.{IsReason}
use Rattle.l2_watch.specs.Visit.{AreFalse}
use Rattle.l2_watch.specs.Board.{Board, IsBoard}
use Rattle.l2_cdcl.specs.Analysis.{IsMarked, IsFalseBefore}
use Rattle.l2_cdcl.specs.Chain.{Chain, IsFrom, IsMarkedBefore}
use Rattle.l2_cdcl.proofs.Chains.{Chain-more, chain_start, chain_step, reverse-push, root_cause}

false_before : (trail : List ℤ) (m : ℤ) → Contains trail (neg_ℤ m) → IsFalseBefore trail (length trail) m
false_before trail m (j, h, e) = (j, h, get_or_default trail j (pos 0) (neg_ℤ m) h ∙ e)

-- the clause of the conflict
pub root_begin : (clauses : List (List ℤ)) (trail : List ℤ) (conflict : ℕ) (marks : List Bool) → conflict < length clauses → AreFalse trail (get_or clauses conflict []) → ((m : ℤ) → Contains (get_or clauses conflict []) m → IsMarked marks (nat_abs m))
    → Chain clauses (IsMarkedBefore trail (length trail) marks) (IsFrom trail (length trail)) (reverse ((conflict + 1) ∷ []))
root_begin clauses trail conflict marks h false_ones marked =
    let n : conflict + 1 - 1 ≡ conflict = omega arith in
    let here : clause_of clauses (conflict + 1) ≡ get_or clauses conflict [] = ap (λ i. get_or clauses i []) n in
    Chain-more clauses (Contains (clause_of clauses (conflict + 1))) (IsMarkedBefore trail (length trail) marks) (IsFrom trail (length trail)) (IsFrom trail (length trail)) ((conflict + 1) ∷ [])
    (λ m c. (let d : Contains (get_or clauses conflict []) m = subst (λ x. Contains x m) here c in (false_before trail m (false_ones m d), marked m d))) (λ l r. r)
    (chain_start clauses (conflict + 1) (IsFrom trail (length trail)) (omega arith, omega (arith, h)))

-- a literal that isn't needed
pub root_skip : (clauses : List (List ℤ)) (trail : List ℤ) (k : ℕ) (marks : List Bool) (hints : List ℕ) → ¬ IsMarked marks (nat_abs (get_or trail k (pos 0)))
    → Chain clauses (IsMarkedBefore trail (k + 1) marks) (IsFrom trail (k + 1)) hints → Chain clauses (IsMarkedBefore trail k marks) (IsFrom trail k) hints
root_skip clauses trail k marks hints none chain = Chain-more clauses (IsMarkedBefore trail (k + 1) marks) (IsMarkedBefore trail k marks) (IsFrom trail (k + 1)) (IsFrom trail k) hints
    (λ m ((j, b, e), marked). elim (cases_lt j k) [
      | inl low ↦ ((j, low, e), marked)
      | inr high ↦
          let s : j ≡ k = omega (arith, b, high) in
          absurd (none (subst (IsMarked marks) (sym (ap nat_abs (sym (ap (λ x. get_or trail x (pos 0)) s) ∙ e) ∙ nat_abs-neg_ℤ m)) marked))
    ])
    (λ l (j, b, c, e). (j, omega (arith, b), c, e)) chain

-- a literal that is needed, and its reason
pub root_step : (clauses : List (List ℤ)) (trail : List ℤ) (k reason : ℕ) (marks marks' : List Bool) (numbers : List ℕ) → AreApart trail → k < length trail → reason ≢ 0 → reason - 1 < length clauses → IsReason trail k (get_or clauses (reason - 1) [])
    → ((v : ℕ) → IsMarked marks v → IsMarked marks' v) → ((m : ℤ) → Contains (get_or clauses (reason - 1) []) m → IsMarked marks' (nat_abs m))
    → Chain clauses (IsMarkedBefore trail (k + 1) marks) (IsFrom trail (k + 1)) (reverse numbers) → Chain clauses (IsMarkedBefore trail k marks') (IsFrom trail k) (reverse (numbers ++ reason ∷ []))
root_step clauses trail k reason marks marks' numbers apart h some within is more all chain =
    let l : ℤ = get_or trail k (pos 0) in
    subst (Chain clauses (IsMarkedBefore trail k marks') (IsFrom trail k)) (sym (reverse-push numbers reason))
    (Chain-more clauses (IsMarkedBefore trail k marks') (IsMarkedBefore trail k marks') (λ x. (x ≡ l) ⊎ IsFrom trail (k + 1) x) (IsFrom trail k) (reason ∷ reverse numbers) (λ m still. still)
    (λ x r. elim r [
      | inl s ↦ (k, omega arith, h, sym s)
      | inr (j, b, c, f) ↦ (j, omega (arith, b), c, f)
    ])
    (chain_step clauses (IsMarkedBefore trail (k + 1) marks) (IsMarkedBefore trail k marks') (IsFrom trail (k + 1)) reason (reverse numbers) l (omega (arith, some), omega (arith, some, within)) is.stands
    (λ m c ne. (is.others m c ne, all m c))
    (λ m ((j, b, e), marked). elim (cases_lt j k) [
      | inl low ↦ inr ((j, low, e), more (nat_abs m) marked)
      | inr high ↦
          let s : j ≡ k = omega (arith, b, high) in
          inl (sym (neg_ℤ-neg_ℤ m) ∙ ap neg_ℤ (sym e ∙ ap (λ x. get_or trail x (pos 0)) s))
    ])
    (λ x (j, b, c, f) same. apart k j (omega (arith, b)) c (same ∙ ap nat_abs (sym f)))
    chain))

-- nothing is left
pub root_end : (clauses : List (List ℤ)) (trail : List ℤ) (marks : List Bool) (hints : List ℕ) → Chain clauses (IsMarkedBefore trail 0 marks) (IsFrom trail 0) hints → Leads clauses [] hints
unfolding Chain
root_end clauses trail marks hints chain = chain [] (λ m ((j, b, e), marked). absurd (omega (arith, b))) (λ l r m h same. absurd (omega (arith, h.1)))

-- the reason of a literal where nothing was decided
pub root_reason : (b : Board) (k reason : ℕ) → IsBoard b → b.levels ≡ [] → k < length b.past.literals → reason ≡ get_or b.past.reasons k 0 → (reason ≢ 0) × (reason - 1 < length b.clauses) × (IsReason b.past.literals k (get_or b.clauses (reason - 1) []))
root_reason b k reason is none within e = rw e (root_cause b k is none within)

-- the variables of a clause
pub clause_over : (b : Board) (r : ℕ) (clause : List ℤ) → IsBoard b → r < length b.clauses → clause ≡ get_or b.clauses r [] → (m : ℤ) → Contains clause m → nat_abs m ≤ b.variables
clause_over b r clause is h e m c = (is.over (get_or b.clauses r []) (r, h, get_or_default b.clauses r _ _ h) m (subst (λ x. Contains x m) e c)).1

-- a variable that isn't marked
pub is_unmarked : (marks : List Bool) (v w : ℕ) (r : Bool) → r ≡ get_or marks w false → w ≡ v → r ≡ false → ¬ IsMarked marks v
is_unmarked marks v w r e f g is = let t : true ≡ false = sym is ∙ ap (λ x. get_or marks x false) (sym f) ∙ sym e ∙ g in cc
