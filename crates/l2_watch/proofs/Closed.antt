-- What a closed trail shows: nothing outside it is reached, and what is learnt isn't absorbed.
use Rattle.std.proofs.Common.{◌≡◌, ◌≢◌, ◌⊎◌, inl, inr, ◌<◌, List, length, map, sym, ap, ◌∙◌, subst, arith}
use Rattle.std.specs.Prelude.{ℤ, neg_ℤ, Contains}
use lib.IntN.{neg_ℤ-neg_ℤ}
use Rattle.std.proofs.lemmas.List.{length-map, get_or-map}
use Rattle.l2_cnf.specs.Logic.{Propagates, assumed, unit, Conflicts, Negation, NegationBut, Follows, IsAbsorbed}
use Rattle.l2_cnf.proofs.Laws.{same_or_not, more_conflicts}
use Rattle.l2_watch.specs.Watch.{IsConsistent, IsPair, IsMet, IsGuarded, IsClosed, Refutes}

-- where a literal of a clause is true and the others are false, it is that one
only_one : (clause trail : List ℤ) (l : ℤ) → IsConsistent trail → ((m : ℤ) → Contains clause m → m ≢ l → Contains trail (neg_ℤ m)) → IsMet clause trail → Contains trail l
only_one clause trail l consistent others (x, h, there) = elim (same_or_not x l) [
  | inl e ↦ subst (Contains trail) e there
  | inr ne ↦ absurd (consistent x there (others x h ne))
]

-- watched pairs close a trail
pub guards_close : (list : List (List ℤ)) (trail : List ℤ) → IsConsistent trail → ((clause : List ℤ) → Contains list clause → (a : ℤ) × (b : ℤ) × (IsPair clause a b) × (IsGuarded clause trail trail a b)) → IsClosed list trail
guards_close list trail consistent guards = record {
  unit = λ clause c l h others.
      let g = guards clause c in
      let a : ℤ = g.0 in
      let b : ℤ = g.1 in
      elim (same_or_not a b) [
        | inl same ↦ subst (Contains trail) (sym (g.2.one same l h)) (g.3.one same)
        | inr apart ↦ only_one clause trail l consistent others (elim (same_or_not a l) [
          | inl e ↦ g.3.second (others b g.2.second (λ s. apart (e ∙ sym s)))
          | inr ne ↦ g.3.first (others a g.2.first ne)
        ])
      ];
  live = λ clause c all.
      let g = guards clause c in
      let met : IsMet clause trail = g.3.first (all g.0 g.2.first) in
      consistent met.0 met.2 (all met.0 met.1);
}

-- what is reached from inside a closed trail is inside
pub stays_within : (list : List (List ℤ)) (trail : List ℤ) (given : ℤ → Type 0) → IsClosed list trail → ((m : ℤ) → given m → Contains trail m) → (l : ℤ) → Propagates list given l → Contains trail l
stays_within list trail given closed inside l (assumed h) = inside l h
stays_within list trail given closed inside l (unit clause c h others) = closed.unit clause c l h (λ m k ne. stays_within list trail given closed inside (neg_ℤ m) (others m k ne))

pub no_conflict_within : (list : List (List ℤ)) (trail : List ℤ) (given : ℤ → Type 0) → IsClosed list trail → ((m : ℤ) → given m → Contains trail m) → Conflicts list given → ⊥
no_conflict_within list trail given closed inside (clause, c, all) = closed.live clause c (λ m k. stays_within list trail given closed inside (neg_ℤ m) (all m k))

-- a clause whose literals but one are false in a closed trail, where that one isn't true, isn't absorbed
pub not_absorbed : (list : List (List ℤ)) (trail clause : List ℤ) (u : ℤ) → IsClosed list trail → Contains clause u → ((m : ℤ) → Contains clause m → m ≢ u → Contains trail (neg_ℤ m)) → ¬ Contains trail u → ¬ IsAbsorbed list clause
not_absorbed list trail clause u closed h others unset absorbed =
    let inside : (m : ℤ) → NegationBut clause u m → Contains trail m = λ m k. subst (Contains trail) (neg_ℤ-neg_ℤ m) (others (neg_ℤ m) k.0 k.1) in
    elim (absorbed u h) [
      | inl reached ↦ unset (stays_within list trail (NegationBut clause u) closed inside u reached)
      | inr conflict ↦ no_conflict_within list trail (NegationBut clause u) closed inside conflict
    ]

-- a clause whose literals are all false refutes them
pub Refutes-clause : (list : List (List ℤ)) (clause : List ℤ) → Contains list clause → Refutes list (Contains clause)
Refutes-clause list clause c given false_ones = (clause, c, λ m k. false_ones m k)

-- a false literal may be put aside for the other literals of a clause that makes it false
pub Refutes-resolve : (list : List (List ℤ)) (before after : ℤ → Type 0) (reason : List ℤ) (x : ℤ) → Contains list reason → Contains reason (neg_ℤ x) → ((m : ℤ) → Contains reason m → m ≢ neg_ℤ x → after m) → ((m : ℤ) → before m → (m ≡ x) ⊎ after m) → Refutes list before → Refutes list after
Refutes-resolve list before after reason x c h others rest refutes given false_ones =
    let reached : Propagates list (Contains given) (neg_ℤ x) = unit reason c h (λ m k ne. false_ones m (others m k ne)) in
    refutes given (λ m k. elim (rest m k) [
      | inl e ↦ subst (λ y. Propagates list (Contains given) (neg_ℤ y)) (sym e) reached
      | inr still ↦ false_ones m still
    ])

-- what is refuted follows by reverse unit propagation
pub Refutes-follows : (list : List (List ℤ)) (clause : List ℤ) → Refutes list (Contains clause) → Follows list clause
Refutes-follows list clause refutes =
    let there : (m : ℤ) → Contains clause m → Contains (map neg_ℤ clause) (neg_ℤ m) = λ m k. (k.0, omega (arith, k.1, length-map clause neg_ℤ), get_or-map neg_ℤ clause k.0 m (neg_ℤ m) k.1 ∙ ap neg_ℤ k.2) in
    let back : (m : ℤ) → Contains (map neg_ℤ clause) m → Contains clause (neg_ℤ m) = λ m k.
    let within : k.0 < length clause = omega (arith, k.1, length-map clause neg_ℤ) in
    (k.0, within, sym (neg_ℤ-neg_ℤ _) ∙ ap neg_ℤ (sym (get_or-map neg_ℤ clause k.0 (neg_ℤ m) m within) ∙ k.2)) in
    more_conflicts list list (Contains (map neg_ℤ clause)) (Negation clause) (λ c k. k) (λ m k. assumed (back m k)) (refutes (map neg_ℤ clause) (λ m k. assumed (there m k)))
