-- One more literal or hint looked at.
use Rattle.std.proofs.Common.{◌≡◌, ◌≢◌, ◌⊎◌, inl, inr, ℕ, ◌+◌, ◌<◌, ◌≤◌, List, ◌++◌, [], ◌∷◌, take, length, get_or, map, sym, ap, ◌∙◌, subst, arith}
use Rattle.std.specs.Prelude.{ℤ, pos, nat_abs, neg_ℤ, Contains, ◌↔◌}
use Rattle.std.proofs.lemmas.List.{get_or_default, take_more, map_push, length-take-le, get_or-take}
use Rattle.std.proofs.lemmas.List.Elements.{Contains-push_cases}
use Rattle.l2_cnf.specs.Trail.{AreOver, AreApart}
use Rattle.l2_cnf.proofs.Laws.{same_or_not, nat_abs-neg_ℤ, same_variable}
use Rattle.l2_cnf.proofs.Trails.{AreApart-push}
use Rattle.l2_cnf.proofs.Derivations.{Contains-map, Contains-unmap, Leads-more}
use Rattle.l2_cnf.specs.Steps.{IsAllFalse, IsUnset, IsUnit, HasNumber, clause_of, Leads}

-- all are false, by their places
pub all_by_index : (t clause : List ℤ) → ((k : ℕ) → k < length clause → Contains t (neg_ℤ (get_or clause k (pos 0)))) → IsAllFalse t clause
all_by_index t clause h m (k, b, e) = subst (λ x. Contains t (neg_ℤ x)) (get_or_default clause k (pos 0) m b ∙ e) (h k b)

-- a literal that stands and isn't false is the unit, if there is one
pub unit_is : (t clause : List ℤ) (l f : ℤ) → IsUnit t clause l → Contains clause f → ¬ Contains t (neg_ℤ f) → l ≡ f
unit_is t clause l f unit h live = elim (same_or_not f l) [
  | inl e ↦ sym e
  | inr ne ↦ absurd (live (unit.others f h ne))
]

-- a literal that is neither true nor false is unset
pub unset_is : (t : List ℤ) (l : ℤ) → ¬ Contains t l → ¬ Contains t (neg_ℤ l) → IsUnset t l
unset_is t l a b m h e = elim (same_variable m l e) [
  | inl s ↦ a (subst (λ x. Contains t x) s h)
  | inr s ↦ b (subst (λ x. Contains t x) s h)
]

-- after the unit of a hint became true
pub Leads-next : (clauses : List (List ℤ)) (t : List ℤ) (hint : ℕ) (hints : List ℕ) (l : ℤ) → 1 ≤ length hints → HasNumber clauses hint → IsUnit t (clause_of clauses hint) l → Leads clauses t (hint ∷ hints) ↔ Leads clauses (t ++ l ∷ []) hints
Leads-next clauses t hint hints l h number unit = (
  (λ x. let y = (Leads-more clauses t hint hints h).0 x in
      let e : y.1.0 ≡ l = unit_is t (clause_of clauses hint) y.1.0 l y.1.1 unit.stands (λ k. unit.unset (neg_ℤ l) k (nat_abs-neg_ℤ l)) in
      subst (λ m. Leads clauses (t ++ m ∷ []) hints) e y.1.2),
  (λ x. (Leads-more clauses t hint hints h).1 (number, (l, unit, x))),
)

-- one more literal over the variables and apart
pub AreOver-more : (n : ℕ) (clause : List ℤ) (i : ℕ) (l : ℤ) → i < length clause → l ≡ get_or clause i l → 1 ≤ nat_abs l → nat_abs l ≤ n → AreOver n (take i clause) → AreOver n (take (i + 1) clause)
AreOver-more n clause i l b e one most over m h =
    let more : take (i + 1) clause ≡ take i clause ++ l ∷ [] = take_more clause i l b ∙ ap (λ x. take i clause ++ x ∷ []) (sym e) in
    elim (Contains-push_cases (take i clause) l m (subst (λ x. Contains x m) more h)) [
      | inl old ↦ over m old
      | inr s ↦ subst (λ x. (1 ≤ nat_abs x) × (nat_abs x ≤ n)) s (one, most)
    ]

pub AreApart-more : (clause : List ℤ) (i : ℕ) (l : ℤ) → i < length clause → l ≡ get_or clause i l → AreApart (take i clause) → ((m : ℤ) → Contains (map neg_ℤ (take i clause)) m → nat_abs m ≡ nat_abs l → ⊥) → AreApart (take (i + 1) clause)
AreApart-more clause i l b e apart new =
    let more : take (i + 1) clause ≡ take i clause ++ l ∷ [] = take_more clause i l b ∙ ap (λ x. take i clause ++ x ∷ []) (sym e) in
    subst AreApart (sym more) (AreApart-push (take i clause) l apart (λ m h s. new (neg_ℤ m) (Contains-map (take i clause) m h) (nat_abs-neg_ℤ m ∙ s)))

pub map-more : (clause : List ℤ) (i : ℕ) (l : ℤ) → i < length clause → l ≡ get_or clause i l → map neg_ℤ (take i clause) ++ neg_ℤ l ∷ [] ≡ map neg_ℤ (take (i + 1) clause)
map-more clause i l b e = sym (map_push neg_ℤ (take i clause) l) ∙ ap (map neg_ℤ) (sym (take_more clause i l b ∙ ap (λ x. take i clause ++ x ∷ []) (sym e)))

-- a variable that stands before is no news
pub not_apart : (clause : List ℤ) (i : ℕ) (l m : ℤ) → i < length clause → l ≡ get_or clause i l → Contains (map neg_ℤ (take i clause)) m → nat_abs m ≡ nat_abs l → AreApart clause → ⊥
not_apart clause i l m b e h s apart =
    let at = Contains-unmap (take i clause) m h in
    let j : ℕ = at.0 in
    let before : j < i = omega (arith, at.1, length-take-le i clause (omega arith)) in
    let there : get_or clause j (pos 0) ≡ neg_ℤ m = get_or_default clause j (pos 0) (neg_ℤ m) (omega arith) ∙ sym (get_or-take i clause j (neg_ℤ m) before) ∙ at.2 in
    apart j i before b (ap nat_abs there ∙ nat_abs-neg_ℤ m ∙ s ∙ ap nat_abs (e ∙ get_or_default clause i l (pos 0) b))

-- there is no unit where all are false
pub none_if_false : (t clause : List ℤ) → ((k : ℕ) → k < length clause → Contains t (neg_ℤ (get_or clause k (pos 0)))) → (l : ℤ) → ¬ IsUnit t clause l
none_if_false t clause h l u = u.unset (neg_ℤ l) (all_by_index t clause h l u.stands) (nat_abs-neg_ℤ l)

-- a clause with a unit whose other literals are not all false has none
pub none_if_live : (t clause : List ℤ) (f : ℤ) → Contains clause f → ¬ Contains t (neg_ℤ f) → (Contains t f ⊎ (((m : ℤ) → Contains clause m → m ≢ f → Contains t (neg_ℤ m)) → ⊥)) → (l : ℤ) → ¬ IsUnit t clause l
none_if_live t clause f h live why l u =
    let e : l ≡ f = unit_is t clause l f u h live in
    elim why [
      | inl holds ↦ u.unset f holds (ap nat_abs (sym e))
      | inr others ↦ others (λ m k ne. u.others m k (λ s. ne (s ∙ e)))
    ]
