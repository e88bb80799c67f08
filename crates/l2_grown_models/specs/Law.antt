-- Under the literals of a question clauses have a model exactly where the run that it asks for exists.
use Rattle.std.specs.Prelude.{◌≡◌, ◌↔◌, ℕ, ◌≤◌, Bool, true, List, None}
use Rattle.l2_program.specs.Programs.{ProgramTree}
use Rattle.l2_code.specs.Trees.{CodeTree}
use Rattle.l2_code.specs.Sets.{Family}
use Rattle.l2_code.specs.Modes.{types_of}
use Rattle.l2_ssa_points.specs.Law.{AreOver}
use Rattle.l2_gates.specs.Gates.{Lit, Made, Bit}
use Rattle.l2_gates.specs.Models.{value, Ok, Sound, Extends}
use Rattle.l2_blast.specs.Words.{Fill}
use Rattle.l2_blast_laws.specs.Law.{IsSized, IsMade, FillMeans}
use Rattle.l2_said_rows.specs.Saying.{Literals, say_rows}
use Rattle.l2_said_rows.specs.Law.{AllTrue}
use Rattle.l2_said_rows.specs.Eventing.{some_event}
use Rattle.l2_typed_steps.specs.Direct.{AreDirect}
use Rattle.l2_given_steps.specs.Law.{IsFew}
use Rattle.l2_grown_laws.specs.Questions.{Question, Asks, IsPut, asked_point}
use Rattle.l2_grown_laws.specs.Grown.{grown_ssa, HasRoom}
use Rattle.l2_grown_laws.specs.Law.{IsCodeOf}
use Rattle.l2_grown_models.specs.Asking.{open_of, grown_clauses, meaning_at, is_asked, SayRows, SaysEvent}

-- a code that does what a program does, whose constant addresses are those of cells, and which isn't too large for its words
pub record IsAskable (p : ProgramTree) (f : Family) (c : CodeTree) : Type 0 where
  pub code_of : IsCodeOf p f c
  pub direct : AreDirect (types_of c).objects c.body
  pub sized : IsSized (open_of c)
  pub few : IsFew (types_of c).objects

-- some assignment makes the clauses and the literals true
abbrev pub HasModelUnder : Made → List Lit → Lit → Type 0
HasModelUnder m ys z = (v : ℕ → Bool) × (v 0 ≡ true) × Ok v m × AllTrue v ys × (value v z ≡ true)

-- what was there before has a model, and whatever came later keeps each model
abbrev pub QuestionsAreModels : Type 0
QuestionsAreModels =
    (p : ProgramTree) (f : Family) (c : CodeTree) → IsAskable p f c → (k : ℕ) → 1 ≤ k → (counts : ℕ → ℕ) (x : Question) → IsPut x → AreOver c (asked_point x) None → HasRoom counts (asked_point x)
    → (before : Made) → Sound before → (u : ℕ → Bool) → u 0 ≡ true → Ok u before
    → (m : Made) → Extends (grown_clauses c (grown_ssa c f k counts) before).made m → (ys : List Lit) (z : Lit)
    → SayRows c (grown_ssa c f k counts) (grown_clauses c (grown_ssa c f k counts) before) (asked_point x) m ys
    → SaysEvent (grown_ssa c f k counts) (grown_clauses c (grown_ssa c f k counts) before) x m z
    → HasModelUnder m ys z ↔ Asks p f.object k x

-- ---- by gates

-- the literals of rows, made of whatever fills the rows of a point, and that of the question's events behind them
abbrev pub asked_rows : CodeTree → Family → ℕ → (ℕ → ℕ) → Made → Fill → Made → Literals
asked_rows c f k counts before fill m = say_rows fill (grown_clauses c (grown_ssa c f k counts) before).env 0 (grown_ssa c f k counts).steps m

abbrev pub asked_event : CodeTree → Family → ℕ → (ℕ → ℕ) → Question → Made → Made → Bit
asked_event c f k counts x before m = some_event (is_asked x) (grown_clauses c (grown_ssa c f k counts) before).env (grown_ssa c f k counts).events m

-- they are made, and under them the clauses have a model exactly where the run that is asked for exists, whatever came between and
-- comes later
abbrev pub GatesAsk : Type 0
GatesAsk =
    (p : ProgramTree) (f : Family) (c : CodeTree) → IsAskable p f c → (k : ℕ) → 1 ≤ k → (counts : ℕ → ℕ) (x : Question) → IsPut x → AreOver c (asked_point x) None → HasRoom counts (asked_point x)
    → (before : Made) → Sound before → (u : ℕ → Bool) → u 0 ≡ true → Ok u before
    → (fill : Fill) → IsMade fill → ((v : ℕ → Bool) → v 0 ≡ true → FillMeans v fill (meaning_at c (asked_point x)))
    → (between : Made) → Extends (grown_clauses c (grown_ssa c f k counts) before).made between
    → Extends between (asked_event c f k counts x before (asked_rows c f k counts before fill between).made).made
    × ((later : Made) → Extends (asked_event c f k counts x before (asked_rows c f k counts before fill between).made).made later
    → HasModelUnder later (asked_rows c f k counts before fill between).literals (asked_event c f k counts x before (asked_rows c f k counts before fill between).made).bit ↔ Asks p f.object k x)
