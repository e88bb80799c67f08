-- What is absorbed, and what stays so when a list of clauses grows.
use Rattle.std.proofs.Common.{inl, inr, List, ◌++◌, [], sym, ◌∙◌, subst, arith}
use Rattle.std.specs.Prelude.{ℤ, neg_ℤ, Contains}
use Rattle.std.proofs.lemmas.List.Elements.{Contains-append_left}
use lib.IntN.{neg_ℤ-neg_ℤ}
use Rattle.l2_cnf.specs.Logic.{assumed, unit, NegationBut, IsAbsorbed, Settles}
use Rattle.l2_cnf.proofs.Laws.{more, more_conflicts}

module _ (list list' : List (List ℤ)) (grows : (c : List ℤ) → Contains list c → Contains list' c) where
  pub IsAbsorbed-grows : (clause : List ℤ) → IsAbsorbed list clause → IsAbsorbed list' clause
  IsAbsorbed-grows clause absorbed l h = elim (absorbed l h) [
    | inl reached ↦ inl (more list list' (NegationBut clause l) (NegationBut clause l) grows (λ m g. assumed g) l reached)
    | inr conflict ↦ inr (more_conflicts list list' (NegationBut clause l) (NegationBut clause l) grows (λ m g. assumed g) conflict)
  ]

  pub Settles-grows : (literals : List ℤ) → Settles list literals → Settles list' literals
  Settles-grows literals settled = elim settled [
    | inl both ↦ inl both
    | inr conflict ↦ inr (more_conflicts list list' (Contains literals) (Contains literals) grows (λ m g. assumed g) conflict)
  ]

pub IsAbsorbed-append : (list rest : List (List ℤ)) (clause : List ℤ) → IsAbsorbed list clause → IsAbsorbed (list ++ rest) clause
IsAbsorbed-append list rest clause absorbed = IsAbsorbed-grows list (list ++ rest) (λ c h. Contains-append_left list rest c h) clause absorbed

pub Settles-append : (list rest : List (List ℤ)) (literals : List ℤ) → Settles list literals → Settles (list ++ rest) literals
Settles-append list rest literals settled = Settles-grows list (list ++ rest) (λ c h. Contains-append_left list rest c h) literals settled

-- what is settled stays so beside more literals
pub Settles-more : (list : List (List ℤ)) (few many : List ℤ) → ((l : ℤ) → Contains few l → Contains many l) → Settles list few → Settles list many
Settles-more list few many grows settled = elim settled [
  | inl (l, one, other) ↦ inl (l, grows l one, grows (neg_ℤ l) other)
  | inr conflict ↦ inr (more_conflicts list list (Contains few) (Contains many) (λ c h. h) (λ m g. assumed (grows m g)) conflict)
]

-- a clause of the list is absorbed by it
pub IsAbsorbed-member : (list : List (List ℤ)) (clause : List ℤ) → Contains list clause → IsAbsorbed list clause
IsAbsorbed-member list clause c l h = inl (unit clause c h (λ m k ne. assumed (subst (Contains clause) (sym (neg_ℤ-neg_ℤ m)) k, (λ e. ne (sym (neg_ℤ-neg_ℤ m) ∙ e)))))

-- the empty clause is absorbed
pub IsAbsorbed-empty : (list : List (List ℤ)) → IsAbsorbed list []
IsAbsorbed-empty list l h = absurd (omega (arith, h.1))
