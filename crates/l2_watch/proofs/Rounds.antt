-- One round of propagation: the list of a literal that became false is taken out, gone through and put back.
use Rattle.std.proofs.Common.{◌≡◌, ◌≢◌, inl, inr, ℕ, ◌+◌, ◌<◌, ◌≤◌, List, ◌++◌, [], ◌∷◌, length, get_or, set, take, sym, ap, ◌∙◌, subst, arith}
use Rattle.std.specs.Prelude.{ℤ, pos, nat_abs, neg_ℤ, Contains}
use Rattle.std.proofs.lemmas.List.{get_or-set_same, get_or-set_other, take_more, length-set}
use Rattle.std.proofs.lemmas.List.Elements.{Contains-push_cases}
use lib.IntN.{neg_ℤ-neg_ℤ}
use Rattle.l2_cnf.specs.Lit.{code_of}
use Rattle.l2_cnf.proofs.Laws.{same_or_not}
use Rattle.l2_watch.specs.Visit.{list_of, pair_of, ArePairs, AreFound, AreAllFound, AreVisited, AreGuarded, AreListed}
use Rattle.l2_watch.specs.Board.{AreStored}
use Rattle.l2_watch.proofs.Moves.{code_of_injective, code_within}

nothing : (q : ℕ) → Contains [] q → ⊥
nothing q (k, b, e) = omega (arith, b)

-- with the list of a taken out
pub found_without : (pairs : List (ℤ × ℤ)) (lists : List (List ℕ)) (a : ℤ) → AreAllFound pairs lists → AreFound pairs (set lists (code_of a) []) a
found_without pairs lists a all =
    let same : (x : ℤ) → x ≢ a → list_of (set lists (code_of a) []) x ≡ list_of lists x = λ x ne. get_or-set_other lists (code_of a) (code_of x) [] [] (λ e. ne (code_of_injective x a e)) in
    record {
      first = λ r b ne. rw (same (pair_of pairs r).0 ne) (all.first r b);
      second = λ r b ne. rw (same (pair_of pairs r).1 ne) (all.second r b);
    }

-- its clauses are all still to come
pub visited_none : (clauses : List (List ℤ)) (pairs : List (ℤ × ℤ)) (lists : List (List ℕ)) (trail : List ℤ) (a : ℤ) → AreAllFound pairs lists → AreVisited clauses pairs trail a [] (list_of lists a)
visited_none clauses pairs lists trail a all = record {
  first = λ r b e. inl (subst (λ x. Contains (list_of lists x) r) e (all.first r b));
  second = λ r b e. inl (subst (λ x. Contains (list_of lists x) r) e (all.second r b));
}

-- one more literal was looked at
pub guarded_next : (clauses : List (List ℤ)) (pairs : List (ℤ × ℤ)) (trail : List ℤ) (seen : ℕ) (a : ℤ) (list : List ℕ) → seen < length trail → get_or trail seen (pos 0) ≡ neg_ℤ a → AreGuarded clauses pairs (take seen trail) trail → AreVisited clauses pairs trail a list [] → AreGuarded clauses pairs (take (seen + 1) trail) trail
guarded_next clauses pairs trail seen a list h is guarded visited r b =
    let more : take (seen + 1) trail ≡ take seen trail ++ neg_ℤ a ∷ [] = take_more trail seen (pos 0) h ∙ ap (λ x. take seen trail ++ x ∷ []) is in
    let g = guarded r b in
    let turned : (x : ℤ) → neg_ℤ a ≡ neg_ℤ x → x ≡ a = λ x e. sym (neg_ℤ-neg_ℤ x) ∙ ap neg_ℤ (sym e) ∙ neg_ℤ-neg_ℤ a in
    record {
      first = λ k. elim (Contains-push_cases (take seen trail) (neg_ℤ a) (neg_ℤ (pair_of pairs r).0) (subst (λ l. Contains l (neg_ℤ (pair_of pairs r).0)) more k)) [
        | inl old ↦ g.first old
        | inr e ↦ elim (visited.first r b (turned (pair_of pairs r).0 e)) [
          | inl rest ↦ absurd (nothing r rest)
          | inr done ↦ done.1
        ]
      ];
      second = λ k. elim (Contains-push_cases (take seen trail) (neg_ℤ a) (neg_ℤ (pair_of pairs r).1) (subst (λ l. Contains l (neg_ℤ (pair_of pairs r).1)) more k)) [
        | inl old ↦ g.second old
        | inr e ↦ elim (visited.second r b (turned (pair_of pairs r).1 e)) [
          | inl rest ↦ absurd (nothing r rest)
          | inr done ↦ done.1
        ]
      ];
      one = g.one;
    }

-- with the list put back, also where it wasn't gone through to its end
pub found_listed : (pairs : List (ℤ × ℤ)) (lists : List (List ℕ)) (a : ℤ) (list : List ℕ) → code_of a < length lists → AreFound pairs lists a → AreListed pairs a list → AreAllFound pairs (set lists (code_of a) list)
found_listed pairs lists a list h found listed =
    let here : list_of (set lists (code_of a) list) a ≡ list = get_or-set_same lists (code_of a) list [] h in
    let there : (x : ℤ) → x ≢ a → list_of (set lists (code_of a) list) x ≡ list_of lists x = λ x ne. get_or-set_other lists (code_of a) (code_of x) list [] (λ e. ne (code_of_injective x a e)) in
    record {
      first = λ r b. elim (same_or_not (pair_of pairs r).0 a) [
        | inl e ↦ (let l : list_of (set lists (code_of a) list) (pair_of pairs r).0 ≡ list = ap (list_of (set lists (code_of a) list)) e ∙ here in rw l (listed r b (inl e)))
        | inr ne ↦ rw (there (pair_of pairs r).0 ne) (found.first r b ne)
      ];
      second = λ r b. elim (same_or_not (pair_of pairs r).1 a) [
        | inl e ↦ (let l : list_of (set lists (code_of a) list) (pair_of pairs r).1 ≡ list = ap (list_of (set lists (code_of a) list)) e ∙ here in rw l (listed r b (inr e)))
        | inr ne ↦ rw (there (pair_of pairs r).1 ne) (found.second r b ne)
      ];
    }

-- what is stored after a round
pub stored_round : (clauses : List (List ℤ)) (n : ℕ) (pairs pairs' : List (ℤ × ℤ)) (lists lists' : List (List ℕ)) (a : ℤ) (list : List ℕ) → AreStored clauses n pairs lists → ArePairs clauses n pairs' → length lists' ≡ length lists → nat_abs a ≤ n → AreFound pairs' lists' a → AreListed pairs' a list → AreStored clauses n pairs' (set lists' (code_of a) list)
stored_round clauses n pairs pairs' lists lists' a list stored are same over found listed =
    let within : code_of a < length lists' = omega (arith, code_within a n over, stored.room, same) in
    record {
      count = are.count;
      over = are.over;
      pair = λ r h. inr (are.pair r h);
      found = found_listed pairs' lists' a list within found listed;
      room = omega (arith, stored.room, same, length-set lists' (code_of a) list);
      some = stored.some;
      small = stored.small;
    }
