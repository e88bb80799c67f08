-- Cut runs of a program: each entry of a loop begins its turns from there, or from any store that differs at the objects
-- which the loop may change and where the loop's rows hold; at most so many turns follow, and at the end of each the rows
-- must hold.
use Rattle.std.specs.Prelude.{ℕ, ℤ, Bool, List, [], ◌∷◌, ◌+◌, length, Option, Some, None}
use Rattle.l2_runs.specs.declared.member.Member.{Member}
use Rattle.l2_runs.specs.Numbers.{at_number}
use Rattle.l2_runs.specs.Store.{Store}
use Rattle.l2_runs.specs.Runs.{End, Over, Fallen}
use Rattle.l2_runs.specs.Loops.{Limit, Cut, Test, Tests}
use Rattle.l2_runs.specs.Back.{back}
use Rattle.l2_run_laws.specs.Watches.{alone, with_watches, no_rows}
use Rattle.l2_program.specs.declared.program.LoopInfo.{LoopInfo}
use Rattle.l2_program.specs.Programs.{ProgramTree}
use Rattle.l2_meaning.specs.Execution.{cells_of, exec, IsBroken}
use Rattle.l2_templates.specs.declared.form.Form.{Form}
use Rattle.l2_templates.specs.declared.point.LoopPoint.{LoopPoint}
use Rattle.l2_cuts.specs.Points.{point_at, rows_of, starts, lowers}

abbrev pub known_mods : Option LoopInfo → List ℕ
known_mods None = []
known_mods (Some loop) = loop.mods

-- the objects that a loop may change
abbrev pub mods_of : ProgramTree → ℕ → List ℕ
mods_of p l = known_mods (at_number p.loops l)

-- k copies of a turn behind an entry or a back start
abbrev pub cut_limit : ProgramTree → (ℕ → Member → Bool) → ℕ → List LoopPoint → Limit
cut_limit p sets k q = Cut k (back (cells_of p) sets (mods_of p) (starts q))

-- ---- tests

-- the rows at the ends of a loop's turns
abbrev pub rows_at : List LoopPoint → ℕ → List Test
rows_at q l = rows_of (point_at q l)

-- one watch: which turns of a loop it lets pass, by the stores at their heads and ends
abbrev pub watch : List LoopPoint → (ℕ → Store → Store → Bool) → ℕ → List Test
watch q passes l = record { row = length (rows_at q l) + 1; holds = passes l } ∷ []

-- a turn counts where its loop and each loop around it were entered there or are in their last copy, and its rows hold
abbrev pub watched : List LoopPoint → (ℕ → Store → Store → Bool) → Tests
watched q passes = with_watches (rows_at q) (watch q passes)

-- the watch alone, for executions that aren't cut
abbrev pub only_watched : List LoopPoint → (ℕ → Store → Store → Bool) → Tests
only_watched q passes = with_watches no_rows (watch q passes)

-- ---- what points promise

abbrev pub IsFallen : End → Type 0
IsFallen (Over o) = ⊥
IsFallen (Fallen l row) = Unit {0}

-- how a cut run ends
abbrev pub cut_end : ProgramTree → (ℕ → Member → Bool) → ℕ → List LoopPoint → Tests → List ℤ → End
cut_end p sets k q tests choices = (exec p (cut_limit p sets k q) tests choices 0).end

-- how a cut run ends that tests the rows alone
abbrev pub row_end : ProgramTree → (ℕ → Member → Bool) → ℕ → List LoopPoint → List ℤ → End
row_end p sets k q choices = cut_end p sets k q (alone (rows_at q)) choices

-- no cut run fails a row: the rows hold at the head of each loop whenever a turn has ended
abbrev pub Infers : ProgramTree → (ℕ → Member → Bool) → ℕ → List LoopPoint → Type 0
Infers p sets k q = (choices : List ℤ) → ¬ IsFallen (row_end p sets k q choices)

-- and none breaks a check
abbrev pub Proves : ProgramTree → (ℕ → Member → Bool) → ℕ → List LoopPoint → Type 0
Proves p sets k q = Infers p sets k q × ((choices : List ℤ) → ¬ IsBroken (row_end p sets k q choices))

-- no cut run fails a row, and each turn that counts is let pass
abbrev pub TurnsPass : ProgramTree → (ℕ → Member → Bool) → ℕ → List LoopPoint → (ℕ → Store → Store → Bool) → Type 0
TurnsPass p sets k q passes = (choices : List ℤ) → ¬ IsFallen (cut_end p sets k q (watched q passes) choices)

-- no cut run fails a row, and each turn that counts lowers its loop's rank
abbrev pub RankProves : ProgramTree → (ℕ → Member → Bool) → ℕ → List LoopPoint → List (List Form) → Type 0
RankProves p sets k q r = TurnsPass p sets k q (lowers r)
