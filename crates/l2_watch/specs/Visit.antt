-- The lists by which each literal finds the clauses that watch it, while the list of one literal is gone through.
use Rattle.std.specs.Prelude.{◌≡◌, ◌≢◌, ◌⊎◌, ℕ, ◌<◌, ◌≤◌, ℤ, pos, neg_ℤ, List, [], length, take, Contains, slice_index_or, slice_set, ◌++◌, ◌∷◌, map, Vec}
use Rattle.std.specs.declared.alloc.Global.{Global}
use Rattle.l2_cnf.specs.Lit.{code_of}
use Rattle.l2_cnf.specs.Trail.{AreOver}
use Rattle.l2_watch.specs.Watch.{IsPair, IsMet, IsGuarded}
use Rattle.l2_watch.specs.declared.entry.Entry.{Entry}

-- the lists in vectors
abbrev pub entries_of : List (Vec Entry Global) → List (List Entry)
entries_of lists = map (λ v. v.items) lists

-- the clauses of some entries
abbrev pub indices_of : List Entry → List ℕ
indices_of list = map (λ e. e.clause) list

-- the clauses of the entries of each list
abbrev pub items_of : List (Vec Entry Global) → List (List ℕ)
items_of lists = map (λ v. indices_of v.items) lists

-- an entry of these clauses: it names a clause, and a literal of it unless that is empty
abbrev pub IsEntry : List (List ℤ) → Entry → Type 0
IsEntry clauses e = (e.clause < length clauses) × ((slice_index_or clauses e.clause [] ≡ []) ⊎ Contains (slice_index_or clauses e.clause []) e.blocker)

abbrev pub AreEntries : List (List ℤ) → List Entry → Type 0
AreEntries clauses list = (e : Entry) → Contains list e → IsEntry clauses e

abbrev pub AreAllEntries : List (List ℤ) → List (List Entry) → Type 0
AreAllEntries clauses lists = (k : ℕ) → AreEntries clauses (slice_index_or lists k [])

-- one more entry in the list at k
abbrev pub entered : List (List Entry) → ℕ → Entry → List (List Entry)
entered lists k e = slice_set lists k (slice_index_or lists k [] ++ e ∷ [])

-- a clause in the lists of both literals that watch it
abbrev pub entered_both : List (List Entry) → ℤ → ℤ → ℕ → List (List Entry)
entered_both lists a b r = entered (entered lists (code_of a) (record { blocker = b; clause = r })) (code_of b) (record { blocker = a; clause = r })

-- the list of a literal
abbrev pub list_of : List (List ℕ) → ℤ → List ℕ
list_of lists l = slice_index_or lists (code_of l) []

-- the pair of a clause
abbrev pub pair_of : List (ℤ × ℤ) → ℕ → ℤ × ℤ
pair_of pairs r = slice_index_or pairs r (pos 0, pos 0)

-- each clause has two watched literals, over the variables
pub record ArePairs (clauses : List (List ℤ)) (variables : ℕ) (pairs : List (ℤ × ℤ)) : Type 0 where
  pub count : length pairs ≡ length clauses
  pub over : (clause : List ℤ) → Contains clauses clause → AreOver variables clause
  pub pair : (r : ℕ) → r < length clauses → IsPair (slice_index_or clauses r []) (pair_of pairs r).0 (pair_of pairs r).1

-- each clause is found by its watched literals but a, whose list is away
pub record AreFound (pairs : List (ℤ × ℤ)) (lists : List (List ℕ)) (a : ℤ) : Type 0 where
  pub first : (r : ℕ) → r < length pairs → (pair_of pairs r).0 ≢ a → Contains (list_of lists (pair_of pairs r).0) r
  pub second : (r : ℕ) → r < length pairs → (pair_of pairs r).1 ≢ a → Contains (list_of lists (pair_of pairs r).1) r

-- the clauses that watch a: those that were looked at, a literal of which is true, and those still to come
pub record AreVisited (clauses : List (List ℤ)) (pairs : List (ℤ × ℤ)) (trail : List ℤ) (a : ℤ) (done rest : List ℕ) : Type 0 where
  pub first : (r : ℕ) → r < length pairs → (pair_of pairs r).0 ≡ a → Contains rest r ⊎ ((Contains done r) × (IsMet (slice_index_or clauses r []) trail))
  pub second : (r : ℕ) → r < length pairs → (pair_of pairs r).1 ≡ a → Contains rest r ⊎ ((Contains done r) × (IsMet (slice_index_or clauses r []) trail))

-- each clause is guarded
abbrev pub AreGuarded : List (List ℤ) → List (ℤ × ℤ) → List ℤ → List ℤ → Type 0
AreGuarded clauses pairs seen trail = (r : ℕ) → r < length pairs → IsGuarded (slice_index_or clauses r []) seen trail (pair_of pairs r).0 (pair_of pairs r).1

-- o is the one of two literals beside a
abbrev pub IsOther : ℤ × ℤ → ℤ → ℤ → Type 0
IsOther pair a o = ((pair.0 ≡ a) × (o ≡ pair.1)) ⊎ ((pair.1 ≡ a) × (o ≡ pair.0))

-- each clause is found by both of its watched literals
pub record AreAllFound (pairs : List (ℤ × ℤ)) (lists : List (List ℕ)) : Type 0 where
  pub first : (r : ℕ) → r < length pairs → Contains (list_of lists (pair_of pairs r).0) r
  pub second : (r : ℕ) → r < length pairs → Contains (list_of lists (pair_of pairs r).1) r

-- a clause that watches a is in this list
abbrev pub AreListed : List (ℤ × ℤ) → ℤ → List ℕ → Type 0
AreListed pairs a list = (r : ℕ) → r < length pairs → ((pair_of pairs r).0 ≡ a) ⊎ ((pair_of pairs r).1 ≡ a) → Contains list r

-- what was guarded at a part of the trail still is
abbrev pub KeepsParts : List (List ℤ) → List ℤ → List (ℤ × ℤ) → List (ℤ × ℤ) → Type 0
KeepsParts clauses trail before after = (b : ℕ) → b ≤ length trail → AreGuarded clauses before (take b trail) (take b trail) → AreGuarded clauses after (take b trail) (take b trail)

-- each list has at least what it had
abbrev pub AreMore : List (List ℕ) → List (List ℕ) → Type 0
AreMore old new = (l : ℤ) (r : ℕ) → Contains (list_of old l) r → Contains (list_of new l) r

-- the literals of a clause are false
abbrev pub AreFalse : List ℤ → List ℤ → Type 0
AreFalse trail clause = (m : ℤ) → Contains clause m → Contains trail (neg_ℤ m)

-- a clause isn't empty, and where it has one literal it is true
abbrev pub IsRaised : List ℤ → List ℤ → ℤ × ℤ → Type 0
IsRaised clause trail pair = (clause ≢ []) × (pair.0 ≡ pair.1 → Contains trail pair.0)

-- a clause has at most one literal
abbrev pub IsSingle : List ℤ → Type 0
IsSingle clause = (l m : ℤ) → Contains clause l → Contains clause m → l ≡ m

-- the clauses that have at most one literal are among these
abbrev pub HasSingles : List (List ℤ) → List ℕ → Type 0
HasSingles clauses singles = (r : ℕ) → r < length clauses → IsSingle (slice_index_or clauses r []) → Contains singles r
