-- Marks by stamps.
use Rattle.std.proofs.Common.{◌≡◌, inl, inr, ℕ, ◌<◌, ◌≤◌, List, length, get_or, set, map, sym, ap, ◌∙◌, arith, true, false, eqb}
use Rattle.std.proofs.lemmas.Bool.{cases_lt}
use Rattle.std.proofs.lemmas.Bool.Decides.{nat_tests}
use Rattle.std.proofs.lemmas.List.{map-set, get_or-map, get_or_past, length-map}
use Rattle.l2_cdcl.specs.Analysis.{IsMarked}

same_stamp : (s : ℕ) → eqb s s ≡ true
same_stamp s = grind (arith, nat_tests)

pub marked_set : (stamps : List ℕ) (v stamp : ℕ) → map (λ s. eqb s stamp) (set stamps v stamp) ≡ set (map (λ s. eqb s stamp) stamps) v true
marked_set stamps v stamp = map-set (λ s. eqb s stamp) stamps v stamp ∙ ap (set (map (λ s. eqb s stamp) stamps) v) (same_stamp stamp)

no_stamp : (stamp : ℕ) → 1 ≤ stamp → eqb 0 stamp ≡ false
no_stamp stamp h = grind (arith, nat_tests)

pub unmarked_set : (stamps : List ℕ) (v stamp : ℕ) → 1 ≤ stamp → map (λ s. eqb s stamp) (set stamps v 0) ≡ set (map (λ s. eqb s stamp) stamps) v false
unmarked_set stamps v stamp h = map-set (λ s. eqb s stamp) stamps v 0 ∙ ap (set (map (λ s. eqb s stamp) stamps) v) (no_stamp stamp h)

lower : (s stamp : ℕ) → s < stamp → eqb s stamp ≡ true → ⊥
lower s stamp h e = let f : s ≡ stamp = grind (arith, nat_tests) in omega (arith, f, h)

pub none_marked : (stamps : List ℕ) (stamp : ℕ) → ((v : ℕ) → get_or stamps v 0 < stamp) → (v : ℕ) → ¬ IsMarked (map (λ s. eqb s stamp) stamps) v
none_marked stamps stamp above v is = elim (cases_lt v (length stamps)) [
  | inl b ↦ lower (get_or stamps v 0) stamp (above v) (sym (get_or-map (λ s. eqb s stamp) stamps v 0 false b) ∙ is)
  | inr b ↦ (let past : get_or (map (λ s. eqb s stamp) stamps) v false ≡ false = get_or_past (map (λ s. eqb s stamp) stamps) v false (omega (arith, b, length-map stamps (λ s. eqb s stamp))) in let t : true ≡ false = sym is ∙ past in cc)
]
