-- What is answered about a text: what its program comes to, or why it has none.
use Rattle.std.specs.Prelude.{◌≡◌, ℕ, List}
use Rattle.l2_syntax.specs.declared.refusal.Refusal.{Refusal}
use Rattle.l2_syntax.specs.declared.refusal.TextFault.{TextFault}
use Rattle.l2_syntax.specs.declared.refusal.TextFault.TheVariants as fault
use Rattle.l2_program.specs.Programs.{ProgramTree}
use Rattle.l2_front.specs.Programs.{IsProgram, IsNoProgram, IsRefusalOf}
use Rattle.l2_status.specs.declared.status.Status.{Status}
use Rattle.l2_status.specs.declared.status.Status.TheVariants.{Refused}
use Rattle.l2_status.specs.Printed.{refusal_line}

-- the text's program comes to this status and this output, or the text is refused
pub data OfText (text : List ℕ) (ComesTo : ProgramTree → Status → List ℕ → Type 0) (status : Status) (output : List ℕ) : Type 0 where
  taken : (p : ProgramTree) → IsProgram text p → ComesTo p status output → OfText text ComesTo status output
  refused : (f : Refusal) → IsNoProgram text → IsRefusalOf text f → status ≡ Refused → output ≡ refusal_line f → OfText text ComesTo status output

-- what is answered where a text has this fault
abbrev pub IsRefused : TextFault → Status → List ℕ → Type 0
IsRefused (fault.At f) status output = (status ≡ Refused) × (output ≡ refusal_line f)
IsRefused fault.NoMemory status output = ⊥
