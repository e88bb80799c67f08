-- What a loop does under each limit, by what one of its turns does, and the tests at the ends of turns.
-- A turn hands a value on to the next (code hands on its temporaries, a tree nothing), and says how the loop is left.
use Rattle.std.specs.Prelude.{ℕ, zero, suc, pos, Bool, false, List, [], ◌∷◌, Option, Some, None}
use Rattle.std.specs.Ordering.{int_eq}
use Rattle.l2_runs.specs.declared.outcome.Outcome.TheVariants.{Stopped, OutOfTurns}
use Rattle.l2_runs.specs.Store.{Store}
use Rattle.l2_runs.specs.Runs.{End, Over, Fallen, Go, Halt, Run, on_go, and_then, done, over, stop, either, choose, demand}

pub data Limit : Type 0 where
  -- each arrival at a head costs a turn
  Real : Limit
  -- stopped where the entry of a loop would arrive at its head more often than this
  Short : ℕ → Limit
  -- so many copies of a turn; and how a loop starts back, which stops where its rows don't hold
  Cut : ℕ → (ℕ → Run (Unit {0})) → Limit

-- a test at the end of a turn: the row's number, and which stores a turn may lead from and to
pub record Test : Type 0 where
  pub row : ℕ
  pub holds : Store → Store → Bool

-- rows in order, from this number on
abbrev pub numbered : ℕ → List (Store → Store → Bool) → List Test
numbered n [] = []
numbered n (h ∷ hs) = record { row = n; holds = h } ∷ numbered (suc n) hs

-- the tests at a loop's ends, where the end counts and where it doesn't
abbrev pub Tests : Type 0
Tests = Bool → ℕ → List Test

abbrev pub no_tests : Tests
no_tests counted l = []

-- no turn may end
abbrev pub bottom : List Test
bottom = record { row = 0; holds = λ a b. false } ∷ []

-- a turn: what it hands on, and how the loop is left, or None where the next arrival at the head follows
abbrev pub Turn : Type 0 → Type 0 → Type 0
Turn C F = C → Run (C × Option F)

-- ---- tests

-- the tests at the end of a turn that began at this store, in order
abbrev pub events : Bool → ℕ → List Test → Store → Run (Unit {0})
events counted l [] a s = Go tt s
events counted l (t ∷ ts) a s = on_go (demand counted (Fallen l t.row) (t.holds a s.store) s) (λ u. events counted l ts a)

abbrev pub or_events : {C F : Type 0} → Bool → ℕ → List Test → Store → C × Option F → Run (C × Option F)
or_events counted l tests a (c, None) s = on_go (events counted l tests a s) (λ u. done (c, None))
or_events counted l tests a (c, Some f) s = Go (c, Some f) s

-- a turn with the tests at its end
abbrev pub tested : {C F : Type 0} → Tests → ℕ → (Bool → Turn C F) → Bool → Turn C F
tested tests l turn counted c s = on_go (turn counted c s) (or_events counted l (tests counted l) s.store)

-- ---- limits

-- goes on to the next turn, where the loop isn't left
abbrev pub or_next : {C F : Type 0} → (C → Run (C × F)) → C × Option F → Run (C × F)
or_next next (c, None) s = next c s
or_next next (c, Some f) s = Go (c, f) s

-- goes on to the next turn, and is stopped where the loop is left
abbrev pub or_stop : {C F : Type 0} → (C → Run (C × F)) → C × Option F → Run (C × F)
or_stop next (c, None) s = next c s
or_stop next (c, Some f) s = Halt (Over Stopped) s

-- at most so many turns, and past them this end
abbrev pub rounds : {C F : Type 0} → End → ℕ → Turn C F → C → Run (C × F)
rounds e zero turn c = over e
rounds e (suc n) turn c = and_then (turn c) (or_next (rounds e n turn))

-- a turn behind its arrival at the head
abbrev pub behind : {C F : Type 0} → Run (Unit {0}) → Turn C F → Turn C F
behind arrive turn c = and_then arrive (λ u. turn c)

-- a real arrival costs a turn
abbrev pub spend_of : ℕ → Run (Unit {0})
spend_of zero s = Halt (Over OutOfTurns) s
spend_of (suc t) s = Go tt (record s { turns = t })

abbrev pub spend : Run (Unit {0})
spend s = spend_of s.turns s

-- a short run counts its arrivals
abbrev pub tally : Run (Unit {0})
tally s = Go tt (record s { arrivals = suc s.arrivals })

-- copies after an entry: each may leave the loop
abbrev pub copies : {C F : Type 0} → ℕ → (Bool → Turn C F) → Bool → C → Run (C × F)
copies n turn counted c = rounds (Over Stopped) n (turn counted) c

-- copies after a back start: only the last one may leave the loop, and only it counts
abbrev pub later_copies : {C F : Type 0} → ℕ → (Bool → Turn C F) → Bool → C → Run (C × F)
later_copies zero turn counted c = copies 1 turn counted c
later_copies (suc n) turn counted c = and_then (turn false c) (or_stop (later_copies n turn counted))

-- a choice of 0 enters the loop, every other one starts back
abbrev pub cut : {C F : Type 0} → ℕ → Run (Unit {0}) → (Bool → Turn C F) → Bool → C → Run (C × F)
cut zero back turn counted c = stop
cut (suc n) back turn counted c =
    and_then choose (λ z. either (int_eq z (pos 0)) (copies (suc n) turn counted c) (and_then back (λ u. later_copies n turn counted c)))

-- a loop under a limit, by its turn with its tests
abbrev pub limited : {C F : Type 0} → Limit → ℕ → (Bool → Turn C F) → Bool → C → Run (C × F)
limited Real l turn counted c s = rounds (Over OutOfTurns) s.turns (behind spend (turn counted)) c s
limited (Short k) l turn counted c s = rounds (Over Stopped) k (behind tally (turn counted)) c s
limited (Cut k back) l turn counted c s = cut k (back l) turn counted c s

-- loop l under a limit and these tests, by its turn where checks count or not
abbrev pub loop_of : {C F : Type 0} → Limit → Tests → ℕ → (Bool → Turn C F) → Bool → C → Run (C × F)
loop_of limit tests l turn counted c = limited limit l (tested tests l turn) counted c
