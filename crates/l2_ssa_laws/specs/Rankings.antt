-- Rankings: the equations of a code where each turn's ranking is asked for and checks are stops, and the cut runs whose tests are
-- the rows of each loop, and behind them, at the ends of turns that count, the rankings of the loops that are watched.
use Rattle.std.specs.Prelude.{◌≡◌, ◌⊎◌, ℕ, suc, ◌≤◌, ℤ, Bool, true, List, [], ◌∷◌, ◌++◌}
use Rattle.l2_runs.specs.Store.{Store}
use Rattle.l2_runs.specs.Runs.{End, Fallen}
use Rattle.l2_runs.specs.Loops.{Test, Tests, bottom}
use Rattle.l2_run_laws.specs.Watches.{alone, with_watches}
use Rattle.l2_code.specs.Trees.{CodeTree}
use Rattle.l2_code.specs.Sets.{Family, IsResolved}
use Rattle.l2_code.specs.Modes.{Cut, types_of, limit_of, run_code, start}
use Rattle.l2_code.specs.WellFormed.{IsWellFormed}
use Rattle.l2_supply.specs.Supply.{Supply}
use Rattle.l2_ssa.specs.Steps.{Names, Solves}
use Rattle.l2_ssa.specs.Walks.{Setting, Kind, Bottom, Plain, Rows, RowGoal, RankGoal, Out}
use Rattle.l2_ssa_laws.specs.Entering.{Enters}
use Rattle.l2_ssa.specs.Law.{RowsOf, RanksOf, first_cells, row_tests, starts, setting_of, ssa, HasEvent, EndsAt, Matches}

-- ---- tests

abbrev pub rows_of : RowsOf → Setting → Kind → ℕ → List Test
rows_of row g Bottom l = bottom
rows_of row g Plain l = []
rows_of row g (Rows n) l = row_tests row g l 1 n

-- the rows at the ends of a loop's turns
abbrev pub rows_at : RowsOf → Setting → ℕ → List Test
rows_at row g l = rows_of row g (g.kind l) l

-- the ranking of a loop is lower at a turn's end than at its head
abbrev pub lowers : RanksOf → Setting → ℕ → Store → Store → Bool
lowers lower g l a b = lower l (first_cells a (g.vars l)) (first_cells b (g.vars l))

-- what is tested behind a loop's rows, where turns count: nothing, what each turn passes, or the loop's ranking
pub data Watch : Type 0 where
  Unwatched : Watch
  Passing : Watch
  Ranked : Watch

-- a test behind a loop's rows
abbrev pub behind_rows : Kind → (Store → Store → Bool) → List Test
behind_rows Bottom holds = record { row = 2; holds = holds } ∷ []
behind_rows Plain holds = []
behind_rows (Rows n) holds = record { row = suc n; holds = holds } ∷ []

abbrev pub watch_of : RanksOf → Setting → Watch → Kind → ℕ → List Test
watch_of lower g Unwatched kind l = []
watch_of lower g Passing kind l = behind_rows kind (λ a b. true)
watch_of lower g Ranked kind l = behind_rows kind (lowers lower g l)

-- what the loops' watches test
abbrev pub watch_at : RanksOf → Setting → (ℕ → Watch) → ℕ → List Test
watch_at lower g watched l = watch_of lower g (watched l) (g.kind l) l

abbrev pub rank_tests : RowsOf → RanksOf → Setting → (ℕ → Watch) → Tests
rank_tests row lower g watched = with_watches (rows_at row g) (watch_at lower g watched)

-- ---- equations

-- the walk over a code where rankings are asked for
abbrev pub rank_setting : CodeTree → Family → ℕ → (ℕ → Kind) → Setting
rank_setting c f k kind = setting_of c f k kind true

abbrev pub rank_ssa : CodeTree → Family → ℕ → (ℕ → Kind) → Out
rank_ssa c f k kind = ssa c f k kind true

-- ---- laws

-- the end of the cut run of a code on these choices and turns, with these tests, is this one
abbrev pub CutEnds : CodeTree → Family → ℕ → RowsOf → (ℕ → Kind) → Tests → List ℤ → ℕ → End → Type 0
CutEnds c f k row kind tests choices turns x = EndsAt x (run_code c (limit_of c f (Cut k (starts row (rank_setting c f k kind)))) tests (start c choices turns))

-- some choices make a cut run with these tests end so, whatever choices follow
abbrev pub CutReaches : CodeTree → Family → ℕ → RowsOf → (ℕ → Kind) → Tests → End → Type 0
CutReaches c f k row kind tests x = (choices : List ℤ) × ((rest : List ℤ) (turns : ℕ) → CutEnds c f k row kind tests (choices ++ rest) turns x)

-- the names solve the equations, by what rows and rankings say
abbrev pub SolvesRanks : CodeTree → Family → ℕ → RowsOf → RanksOf → (ℕ → Kind) → Names → Type 0
SolvesRanks c f k row lower kind s = Solves (record { types = types_of c; row = row; lower = lower }) s 0 (rank_ssa c f k kind).steps

-- where an event of a row is true, some cut run that tests the rows alone ends at that row
abbrev pub RowsRun : Type 0
RowsRun =
    (c : CodeTree) (f : Family) → IsWellFormed c → IsResolved c f → (k : ℕ) → 1 ≤ k → (kind : ℕ → Kind) (row : RowsOf) (lower : RanksOf) (s : Names)
    → SolvesRanks c f k row lower kind s → (l i : ℕ) → HasEvent s (RowGoal l i) (rank_ssa c f k kind).events
    → CutReaches c f k row kind (alone (rows_at row (rank_setting c f k kind))) (Fallen l i)

-- a loop's ranking is watched, it has rows, and its ranking is the test behind them
abbrev pub IsWatch : (ℕ → Kind) → (ℕ → Watch) → ℕ → ℕ → Type 0
IsWatch kind watched l i = (watched l ≡ Ranked) × ((n : ℕ) × (kind l ≡ Rows n) × (i ≡ suc n))

-- where an event of a watched loop's ranking is true, some cut run ends at the ranking of a watched loop
abbrev pub RanksRun : Type 0
RanksRun =
    (c : CodeTree) (f : Family) → IsWellFormed c → IsResolved c f → (k : ℕ) → 1 ≤ k → (kind : ℕ → Kind) (row : RowsOf) (lower : RanksOf) (s : Names)
    → SolvesRanks c f k row lower kind s → (watched : ℕ → Watch) (l : ℕ) → watched l ≡ Ranked → HasEvent s (RankGoal l) (rank_ssa c f k kind).events
    → (m i : ℕ) × IsWatch kind watched m i × CutReaches c f k row kind (rank_tests row lower (rank_setting c f k kind) watched) (Fallen m i)

-- where a cut run ends at a row or the ranking of a watched loop, some values of the names that choices give, which enter the loops
-- without back starts, make an event of it true, in whatever way the equations are then solved
abbrev pub RunsFall : Type 0
RunsFall =
    (c : CodeTree) (f : Family) → IsWellFormed c → IsResolved c f → (k : ℕ) → 1 ≤ k → (kind : ℕ → Kind) → ((l : ℕ) → kind l ≡ Plain → ⊥) → (row : RowsOf) (lower : RanksOf) (watched : ℕ → Watch)
    → (choices : List ℤ) (turns l i : ℕ) → CutEnds c f k row kind (rank_tests row lower (rank_setting c f k kind) watched) choices turns (Fallen l i)
    → (u : Supply) × Enters (types_of c).objects (rank_ssa c f k kind).given u × ((s : Names) → SolvesRanks c f k row lower kind s → Matches (types_of c).objects s (rank_ssa c f k kind).given u
    → HasEvent s (RowGoal l i) (rank_ssa c f k kind).events ⊎ (IsWatch kind watched l i × HasEvent s (RankGoal l) (rank_ssa c f k kind).events))

-- runs that watch no loop test the rows alone
abbrev pub NoneWatched : Type 0
NoneWatched = (row : RowsOf) (lower : RanksOf) (g : Setting) → rank_tests row lower g (λ l. Unwatched) ≡ alone (rows_at row g)
