-- The line that is printed for an execution.
use Rattle.std.specs.Prelude.{ℕ, List, ◌++◌, codes, decimal, Option, Some, option_map}
use Rattle.l2_syntax.specs.Places.{place_text}
use Rattle.l2_runs.specs.declared.outcome.Outcome.{Outcome}
use Rattle.l2_runs.specs.declared.outcome.Outcome.TheVariants.{Ended, Stopped, Broken, OutOfChoices, OutOfTurns}
use Rattle.l2_runs.specs.Numbers.{at_number}
use Rattle.l2_program.specs.declared.program.CheckInfo.{CheckInfo}
use Rattle.l2_runs.specs.Kinds.{kind_text}
use Rattle.l2_meaning.specs.Lawful.{IsSome}

-- a broken check, by its kind and its place
abbrev pub broken_text : CheckInfo → List ℕ
broken_text c = codes "BROKEN " ++ kind_text c.kind ++ codes " " ++ place_text c.place

-- the outcome, where these are the program's checks
abbrev pub outcome_text : List CheckInfo → Outcome → Option (List ℕ)
outcome_text checks Ended = Some (codes "ENDED")
outcome_text checks Stopped = Some (codes "STOPPED")
outcome_text checks (Broken c) = option_map broken_text (at_number checks c)
outcome_text checks OutOfChoices = Some (codes "OUT OF CHOICES")
outcome_text checks OutOfTurns = Some (codes "OUT OF TURNS")

-- the outcome, with the turns and the choices used
abbrev pub replay_line : List CheckInfo → Outcome → ℕ → ℕ → Option (List ℕ)
replay_line checks o turns choices =
    option_map (λ text. text ++ codes " turns=" ++ decimal turns ++ codes " choices=" ++ decimal choices ++ codes "\n") (outcome_text checks o)

-- a check that is broken is one of these
abbrev pub ListsBroken : List CheckInfo → Outcome → Type 0
ListsBroken checks Ended = Unit {0}
ListsBroken checks Stopped = Unit {0}
ListsBroken checks (Broken c) = IsSome (at_number checks c)
ListsBroken checks OutOfChoices = Unit {0}
ListsBroken checks OutOfTurns = Unit {0}
