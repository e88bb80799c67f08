-- The faults that a whole text has, and the one by which it is refused: the least by place and then by rule.
use Rattle.std.specs.Prelude.{ℕ, Bool, false, ◌&&◌, ◌||◌, not, ◌==◌, nat_lt, if◌then◌else◌, List, [], ◌∷◌, ◌++◌, length, Option, None, Some}
use Rattle.l2_syntax.specs.declared.refusal.Rule.{Rule}
use Rattle.l2_syntax.specs.declared.refusal.Rule.TheVariants.{Byte, Comment, Directive, Literal, BadString, Keyword, Nesting, Syntax, UnknownName, Redeclared, BadType, Lvalue, Call, Recursion, Constant, Initialiser, Label, SwitchJump, Incomplete, Cells, MainForm, NoMain, NotBuilt}
use Rattle.l2_syntax.specs.declared.refusal.Refusal.{Refusal}
use Rattle.l2_syntax.specs.declared.refusal.TextFault.{TextFault}
use Rattle.l2_syntax.specs.declared.refusal.TextFault.TheVariants as fault
use Rattle.l2_types.specs.declared.state.Site.{Site}
use Rattle.l2_types.specs.States.{State}
use Rattle.l2_types.specs.Founds.{has}
use Rattle.l2_types_declarations.specs.Forms.{start_of_text}
use Rattle.l2_types_unit.specs.Calls.{reached}

-- ---- the least

abbrev pub rule_number : Rule → ℕ
rule_number Byte = 1
rule_number Comment = 2
rule_number Directive = 3
rule_number Literal = 4
rule_number BadString = 5
rule_number Keyword = 6
rule_number Nesting = 7
rule_number Syntax = 8
rule_number UnknownName = 9
rule_number Redeclared = 10
rule_number BadType = 11
rule_number Lvalue = 12
rule_number Call = 13
rule_number Recursion = 14
rule_number Constant = 15
rule_number Initialiser = 16
rule_number Label = 17
rule_number SwitchJump = 18
rule_number Incomplete = 19
rule_number Cells = 20
rule_number MainForm = 21
rule_number NoMain = 22
rule_number NotBuilt = 90

abbrev pub is_before : Refusal → Refusal → Bool
is_before f g =
    nat_lt f.place.offset g.place.offset || f.place.offset == g.place.offset && nat_lt (rule_number f.rule) (rule_number g.rule)

abbrev pub lesser : Option Refusal → Refusal → Refusal
lesser None f = f
lesser (Some g) f = if is_before f g then f else g

abbrev pub least_from : Option Refusal → List Refusal → Option Refusal
least_from best [] = best
least_from best (f ∷ rest) = least_from (Some (lesser best f)) rest

abbrev pub least : List Refusal → Option Refusal
least fs = least_from None fs

-- ---- at the end of a text

-- a call is at fault where the function that is called leads back to the one that calls
abbrev pub leads_back : State → Site → Bool
leads_back s c = not (c.function == 0) && has (reached (length s.defined) s.calls (c.function ∷ [])) c.caller

abbrev pub unless_recursive : State → Site → List Refusal → List Refusal
unless_recursive s c fs = if leads_back s c then fs ++ record { place = c.place; rule = Recursion } ∷ [] else fs

abbrev pub recursions : State → List Site → List Refusal → List Refusal
recursions s [] fs = fs
recursions s (c ∷ rest) fs = recursions s rest (unless_recursive s c fs)

abbrev pub has_main : State → Option ℕ → Bool
has_main s None = false
has_main s (Some n) = has s.met n

abbrev pub unless_main : Bool → List Refusal → List Refusal
unless_main found fs = if found then fs else fs ++ record { place = start_of_text; rule = NoMain } ∷ []

-- all faults of a text that was looked at
abbrev pub faults : State → List Refusal
faults s = unless_main (has_main s s.main) (recursions s s.calls s.faults)

abbrev pub refusal_of : TextFault → Option Refusal
refusal_of (fault.At f) = Some f
refusal_of fault.NoMemory = None
