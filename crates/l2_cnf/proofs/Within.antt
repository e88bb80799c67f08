-- Clauses over some variables, one by one.
use Rattle.std.proofs.Common.{◌≡◌, inl, inr, ℕ, ◌<◌, List, ◌++◌, [], ◌∷◌, length, get_or, sym, ◌∙◌, subst, arith}
use Rattle.std.specs.Prelude.{ℤ, Contains}
use Rattle.std.proofs.lemmas.List.{get_or_default}
use Rattle.std.proofs.lemmas.List.Elements.{Contains-push_cases, Contains-append_cases}
use Rattle.l2_cnf.specs.Logic.{IsWithin, AllWithin}

-- a clause by its index stands in the list
pub stands_at : (list : List (List ℤ)) (i : ℕ) (clause : List ℤ) → i < length list → clause ≡ get_or list i [] → Contains list clause
stands_at list i clause within is = (i, within, get_or_default list i clause [] within ∙ sym is)

pub AllWithin-none : (n : ℕ) → AllWithin n []
AllWithin-none n clause h = absurd (omega (arith, h.1))

pub AllWithin-push : (n : ℕ) (list : List (List ℤ)) (clause : List ℤ) → AllWithin n list → IsWithin n clause → AllWithin n (list ++ clause ∷ [])
AllWithin-push n list clause all within c h = elim (Contains-push_cases list clause c h) [
  | inl old ↦ all c old
  | inr e ↦ subst (IsWithin n) e within
]

pub AllWithin-append : (n : ℕ) (list more : List (List ℤ)) → AllWithin n list → AllWithin n more → AllWithin n (list ++ more)
AllWithin-append n list more a b clause h = elim (Contains-append_cases list more clause h) [
  | inl old ↦ a clause old
  | inr new ↦ b clause new
]
