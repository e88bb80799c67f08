-- What the making of a text ends with and prints.
use Rattle.std.specs.Prelude.{◌≡◌, ℕ, ◌<◌, List, ◌++◌, length, codes, decimal}
use Rattle.l2_limits.specs.Limits.{text_limit}
use Rattle.l2_syntax.specs.declared.refusal.Refusal.{Refusal}
use Rattle.l2_front.specs.Programs.{IsNoProgram, IsRefusalOf}
use Rattle.l2_gen.specs.Made.{program}
use Rattle.l2_status.specs.declared.status.Status.{Status}
use Rattle.l2_status.specs.declared.status.Status.TheVariants.{TooLong, Refused}
use Rattle.l2_status.specs.Printed.{refusal_line}

-- the loops and the bytes of a made text, and the goals of its certificate
abbrev pub made_line : ℕ → ℕ → ℕ → List ℕ
made_line loops bytes goals = codes "loops " ++ decimal loops ++ codes " bytes " ++ decimal bytes ++ codes " goals " ++ decimal goals ++ codes "\n"

-- what is said of a made text, as of every text; nothing is said yet of one that is a program
pub data OfMade (text : List ℕ) (status : Status) (line : List ℕ) : Type 0 where
  too_long : text_limit < length text → status ≡ TooLong → line ≡ codes "TOO LONG\n" → OfMade text status line
  refused : (f : Refusal) → IsNoProgram text → IsRefusalOf text f → status ≡ Refused → line ≡ refusal_line f → OfMade text status line

-- the line of the made text, and what is said of it; no certificate is made yet
pub record Generates (seed loops : ℕ) (status : Status) (output : List ℕ) : Type 0 where
  pub line : List ℕ
  pub of_made : OfMade (program seed loops) status line
  pub whole : output ≡ made_line loops (length (program seed loops)) 0 ++ line
