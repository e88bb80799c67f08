-- The line that is printed for a text that is refused.
use Rattle.std.specs.Prelude.{ℕ, List, ◌++◌, codes}
use Rattle.l2_syntax.specs.declared.refusal.Refusal.{Refusal}
use Rattle.l2_syntax.specs.Places.{place_text}
use Rattle.l2_syntax.specs.Refusals.{rule_text}

abbrev pub refusal_line : Refusal → List ℕ
refusal_line f = codes "REFUSED " ++ place_text f.place ++ codes " " ++ rule_text f.rule ++ codes "\n"
