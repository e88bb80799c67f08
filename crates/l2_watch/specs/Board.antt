-- Clauses, the literals that are true with what made them so, and the levels of what was decided.
use Rattle.std.specs.Prelude.{◌≡◌, ◌≢◌, ◌⊎◌, ℕ, suc, zero, ◌+◌, ◌*◌, ◌<◌, ◌≤◌, ◌^◌, Bool, true, ℤ, pos, neg_ℤ, List, [], length, take, Contains, slice_index_or, ◌++◌, ◌∷◌}
use Rattle.l2_cnf.specs.Trail.{AreOver, AreApart}
use Rattle.l2_watch.specs.Past.{Past, IsReason}
use Rattle.l2_watch.specs.Watch.{IsConsistent, IsPair, IsClosed}
use Rattle.l2_watch.specs.Visit.{pair_of, AreAllFound, AreGuarded}

-- A level is the number of literals that were true when it was opened, and the literal that was decided then. Where it was
-- true before, the level added nothing. The board is ready where each clause that has one literal made it true.
pub record Board : Type 0 where
  pub clauses : List (List ℤ)
  pub variables : ℕ
  pub past : Past
  pub levels : List (ℕ × ℤ)
  pub seen : ℕ
  pub ready : Bool

abbrev pub start_of : List (ℕ × ℤ) → ℕ → ℕ
start_of levels j = (slice_index_or levels j (0, pos 0)).0

abbrev pub decision_of : List (ℕ × ℤ) → ℕ → ℤ
decision_of levels j = (slice_index_or levels j (0, pos 0)).1

-- levels open one after the other, and what they decided is true
pub record AreLevels (literals : List ℤ) (levels : List (ℕ × ℤ)) : Type 0 where
  pub within : (j : ℕ) → j < length levels → start_of levels j ≤ length literals
  pub rising : (i j : ℕ) → i ≤ j → j < length levels → start_of levels i ≤ start_of levels j
  pub made : (i j : ℕ) → i < j → j < length levels → Contains (take (start_of levels j) literals) (decision_of levels i)
  pub held : (i : ℕ) → i < length levels → Contains literals (decision_of levels i)

-- a literal was decided where its level opened, or a clause implied it
abbrev pub HasCause : List (List ℤ) → List ℤ → List (ℕ × ℤ) → ℕ → ℕ → Type 0
HasCause clauses literals levels k zero = (j : ℕ) × (j < length levels) × (start_of levels j ≡ k) × (decision_of levels j ≡ slice_index_or literals k (pos 0))
HasCause clauses literals levels k (suc r) = (r < length clauses) × (IsReason literals k (slice_index_or clauses r []))

abbrev pub AreCaused : List (List ℤ) → List ℤ → List (ℕ × ℤ) → List ℕ → Type 0
AreCaused clauses literals levels reasons = (k : ℕ) → k < length literals → HasCause clauses literals levels k (slice_index_or reasons k 0)

-- what holds of every board
pub record IsBoard (b : Board) : Type 0 where
  pub over : (clause : List ℤ) → Contains b.clauses clause → AreOver b.variables clause
  pub small : b.variables < 2 ^ 62
  pub literals_over : AreOver b.variables b.past.literals
  pub apart : AreApart b.past.literals
  pub consistent : IsConsistent b.past.literals
  pub most : length b.past.literals ≤ b.variables
  pub count : length b.past.reasons ≡ length b.past.literals
  pub seen : b.seen ≤ length b.past.literals
  pub levels : AreLevels b.past.literals b.levels
  pub caused : AreCaused b.clauses b.past.literals b.levels b.past.reasons
  pub before : b.ready ≡ true → (j : ℕ) → j < length b.levels → IsClosed b.clauses (take (start_of b.levels j) b.past.literals)
  pub closed : b.ready ≡ true → b.seen ≡ length b.past.literals → IsClosed b.clauses b.past.literals

-- each clause is in the lists of the two literals that watch it
pub record AreStored (clauses : List (List ℤ)) (variables : ℕ) (pairs : List (ℤ × ℤ)) (lists : List (List ℕ)) : Type 0 where
  pub count : length pairs ≡ length clauses
  pub over : (clause : List ℤ) → Contains clauses clause → AreOver variables clause
  pub pair : (r : ℕ) → r < length clauses → (slice_index_or clauses r [] ≡ []) ⊎ IsPair (slice_index_or clauses r []) (pair_of pairs r).0 (pair_of pairs r).1
  pub found : AreAllFound pairs lists
  pub room : 2 * variables + 2 ≤ length lists
  pub some : 1 ≤ variables
  pub small : variables < 2 ^ 31

-- the watched literals guard the clauses, at each level too
pub record AreWatched (clauses : List (List ℤ)) (variables : ℕ) (pairs : List (ℤ × ℤ)) (past : Past) (levels : List (ℕ × ℤ)) (seen : ℕ) : Type 0 where
  pub full : (r : ℕ) → r < length clauses → slice_index_or clauses r [] ≢ []
  pub same : past.variables ≡ variables
  pub guarded : AreGuarded clauses pairs (take seen past.literals) past.literals
  pub parts : (j : ℕ) → j < length levels → AreGuarded clauses pairs (take (start_of levels j) past.literals) (take (start_of levels j) past.literals)

-- what a board keeps
pub record IsKept (clauses : List (List ℤ)) (variables : ℕ) (pairs : List (ℤ × ℤ)) (lists : List (List ℕ)) (past : Past) (levels : List (ℕ × ℤ)) (seen : ℕ) (ready : Bool) : Type 0 where
  pub stored : AreStored clauses variables pairs lists
  pub within : past.variables ≤ variables
  pub looked : seen ≤ length past.literals
  pub opened : AreLevels past.literals levels
  pub caused : AreCaused clauses past.literals levels past.reasons
  pub watched : ready ≡ true → AreWatched clauses variables pairs past levels seen

-- a literal that was unset became true, or it was true before
abbrev pub IsDecided : List ℤ → List ℤ → ℤ → Type 0
IsDecided old new l = ((Contains old l) × (new ≡ old)) ⊎ ((¬ Contains old l) × (new ≡ old ++ l ∷ []))

-- A clause that may be learnt: u is unset, the others are false, and w wasn't false when any level was opened.
pub record IsLearnt (literals : List ℤ) (levels : List (ℕ × ℤ)) (clause : List ℤ) (u w : ℤ) : Type 0 where
  pub first : Contains clause u
  pub second : Contains clause w
  pub unset : ¬ Contains literals u
  pub live : ¬ Contains literals (neg_ℤ u)
  pub others : (m : ℤ) → Contains clause m → m ≢ u → Contains literals (neg_ℤ m)
  pub late : (j : ℕ) → j < length levels → ¬ Contains (take (start_of levels j) literals) (neg_ℤ w)
  pub one : u ≡ w → (levels ≡ []) × ((m : ℤ) → Contains clause m → m ≡ u)
