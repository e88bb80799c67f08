-- What is shown of a text.
use Rattle.std.specs.Prelude.{◌≡◌, ℕ, ◌<◌, ◌≤◌, List, codes}
use Rattle.l2_program.specs.Programs.{ProgramTree}
use Rattle.l2_code.specs.Trees.{CodeTree}
use Rattle.l2_code.specs.Sizes.{instructions}
use Rattle.l2_lower.specs.Output.{most_instructions}
use Rattle.l2_lower.specs.Code.{code}
use Rattle.l2_listing.specs.Texts.{listing}
use Rattle.l2_show.specs.Loops.{loops_text}
use Rattle.l2_words.specs.declared.request.View.{View}
use Rattle.l2_words.specs.declared.request.View.TheVariants.{Goto, Loops}
use Rattle.l2_status.specs.declared.status.Status.{Status}
use Rattle.l2_status.specs.declared.status.Status.TheVariants.{Fine, Unknown}
use Rattle.l2_status.specs.Texts.{OfText}

-- the listing of a code, but where it is too large
pub data ListsCode (c : CodeTree) (status : Status) (output : List ℕ) : Type 0 where
  listed : instructions c.body ≤ most_instructions → status ≡ Fine → output ≡ listing c → ListsCode c status output
  too_large : most_instructions < instructions c.body → status ≡ Unknown → output ≡ codes "UNKNOWN size k=1\n" → ListsCode c status output

-- what is shown of a program: its code, or its loops
abbrev pub ShowsProgram : View → ProgramTree → Status → List ℕ → Type 0
ShowsProgram Goto p status output = ListsCode (code p) status output
ShowsProgram Loops p status output = (status ≡ Fine) × (output ≡ loops_text p)

-- the same of a text
abbrev pub Shows : View → List ℕ → Status → List ℕ → Type 0
Shows view text status output = OfText text (ShowsProgram view) status output
