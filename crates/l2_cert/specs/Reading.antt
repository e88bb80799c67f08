-- What a reading has read.
use Rattle.std.specs.Prelude.{◌≡◌, ◌⊎◌, ℕ, ◌<◌, ◌^◌, List, ◌++◌}
use Rattle.l2_lines.specs.Lines.{IsLine, ended}
use Rattle.l2_cert.specs.declared.cert.Cert.{Cert}
use Rattle.l2_cert.specs.declared.reading.Reading.{Reading}
use Rattle.l2_cert.specs.declared.reading.Stage.{Stage}
use Rattle.l2_cert.specs.declared.reading.Stage.TheVariants.{First, Kind, Checks, Copies, Loops, Loop, Row, Ranks, Rank, Goals, Goal, Step, End, Over}
use Rattle.l2_cert.specs.declared.lines.LoopLine.{LoopLine}
use Rattle.l2_cert.specs.declared.lines.LoopLine.TheVariants.{Bottom, Rows}
use Rattle.l2_cert.specs.Words.{Word, words_of}
use Rattle.l2_cert.specs.Certificate.{bottom_line, rows_line}
use Rattle.l2_cert.specs.Machine.{Place, State, Goes, at, AtFirst, AtKind, AtChecks, AtCopies, AtLoops, AtLoop, AtRow, AtRanks, AtRank, AtGoals, AtGoal, AtStep, AtEnd, Done}

abbrev pub place_at : Stage → Reading → Place
place_at First r = AtFirst
place_at Kind r = AtKind
place_at Checks r = AtChecks
place_at Copies r = AtCopies
place_at Loops r = AtLoops
place_at Loop r = AtLoop r.left
place_at Row r = AtRow r.left r.more r.rows
place_at Ranks r = AtRanks r.left
place_at Rank r = AtRank r.left r.more r.forms.items
place_at Goals r = AtGoals
place_at Goal r = AtGoal r.left
place_at Step r = AtStep r.left r.more r.steps
place_at End r = AtEnd
place_at Over r = Done

abbrev pub cert_of : Reading → Cert
cert_of r = record { kind = r.kind; overflow = r.overflow; k = r.k; point = r.point; ranks = r.ranks; goals = r.goals.items }

abbrev pub state_of : Reading → State
state_of r = at (place_at r.stage r) (cert_of r)

-- a line tells this of the loop of a number
abbrev pub TellsLoop : ℕ → List Word → LoopLine → Type 0
TellsLoop i line Bottom = line ≡ bottom_line i
TellsLoop i line (Rows rows) = (rows < 2 ^ 32) × (line ≡ rows_line i rows)

-- one line of a text was taken
abbrev pub ReadsLine : State → State → List ℕ → List ℕ → Type 0
ReadsLine s t text rest = (line : List ℕ) × IsLine line × (text ≡ ended line ++ rest) × Goes s (words_of line) t

-- the first line of a text has no LF, or isn't taken
abbrev pub StopsAt : State → List ℕ → Type 0
StopsAt s text = IsLine text ⊎ ((line rest : List ℕ) × IsLine line × (text ≡ ended line ++ rest) × ((t : State) → ¬ Goes s (words_of line) t))
