-- The clauses that have at most one literal.
use Rattle.std.proofs.Common.{◌≡◌, ◌⊎◌, inl, inr, ℕ, ◌+◌, ◌<◌, List, ◌++◌, [], ◌∷◌, length, get_or, sym, ap, ◌∙◌, subst, arith}
use Rattle.std.specs.Prelude.{ℤ, pos, Contains}
use Rattle.std.proofs.lemmas.Bool.{cases_lt}
use Rattle.std.proofs.lemmas.List.{get_or_append_left, get_or_push, length_push}
use Rattle.l2_watch.specs.Watch.{IsPair}
use Rattle.l2_watch.specs.Visit.{IsSingle, HasSingles}

pub singles_none : (clauses : List (List ℤ)) (singles : List ℕ) → clauses ≡ [] → HasSingles clauses singles
singles_none clauses singles none r h single = absurd (omega (arith, h, ap length none))

-- more are noted
pub singles_more : (clauses : List (List ℤ)) (old new : List ℕ) → ((r : ℕ) → Contains old r → Contains new r) → HasSingles clauses old → HasSingles clauses new
singles_more clauses old new more has r h single = more r (has r h single)

-- the pair of a clause that has at most one literal is one literal
pub single_pair : (clause : List ℤ) (a b : ℤ) → ((clause ≡ []) ⊎ IsPair clause a b) → (clause ≡ [] → (a ≡ pos 1) × (b ≡ pos 1)) → IsSingle clause → a ≡ b
single_pair clause a b (inl none) both single = (let ones = both none in ones.0 ∙ sym ones.1)
single_pair clause a b (inr pair) both single = single a b pair.first pair.second

-- one more clause
pub singles_push : (clauses : List (List ℤ)) (clause : List ℤ) (old new : List ℕ) (a b : ℤ) → ((r : ℕ) → Contains old r → Contains new r) → (a ≡ b → Contains new (length clauses)) → (IsSingle clause → a ≡ b) → HasSingles clauses old → HasSingles (clauses ++ clause ∷ []) new
singles_push clauses clause old new a b more noted one has r h single = elim (cases_lt r (length clauses)) [
  | inl below ↦ more r (has r below (subst IsSingle (get_or_append_left clauses (clause ∷ []) [] r below) single))
  | inr last ↦
      let e : r ≡ length clauses = omega (arith, h, last, length_push clauses clause) in
      subst (Contains new) (sym e) (noted (one (subst IsSingle (get_or_push clauses clause [] r (sym e)) single)))
]
