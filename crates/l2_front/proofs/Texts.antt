-- Texts that are no program.
use Rattle.std.proofs.Common.{◌≡◌, ℕ, List, None, ap, ◌∙◌, subst}
use Rattle.l2_syntax.specs.declared.refusal.Refusal.{Refusal}
use Rattle.l2_lex.specs.Lexing.{Lexed, tokens_of}
use Rattle.l2_tree.specs.Trees.{UnitTree}
use Rattle.l2_parse_unit.specs.Reading.{Spells, SpellsText, IsRefused, IsTextRefused, UniqueUnitLaw, RefusedLaw}
use Rattle.l2_front.specs.Programs.{small_program, IsNoProgram, IsRefusalOf, not_built, unread, not_built_yet}

-- the one unit that the text spells has no program
pub no_program : (text : List ℕ) (u : UnitTree) → UniqueUnitLaw → SpellsText text u → small_program u ≡ None → IsNoProgram text
no_program text u unique s none = λ p is.
    let none_too : small_program is.unit ≡ None = ap small_program (unique (tokens_of text) is.unit u is.spelt s) ∙ none in
    let some = is.program in
    cc

pub is_not_built : (text : List ℕ) (r : Lexed) (u : UnitTree) → UniqueUnitLaw → r ≡ tokens_of text → Spells r u → small_program u ≡ None → IsNoProgram text × IsRefusalOf text not_built_yet
is_not_built text r u unique e s none =
    let t : SpellsText text u = subst (λ x. Spells x u) e s in
    (no_program text u unique t none, not_built u t none)

pub is_unread : (text : List ℕ) (r : Lexed) (f : Refusal) → RefusedLaw → r ≡ tokens_of text → IsRefused r f → IsNoProgram text × IsRefusalOf text f
is_unread text r f law e h =
    let t : IsTextRefused text f = subst (λ x. IsRefused x f) e h in
    ((λ p is. law (tokens_of text) f is.unit t is.spelt), unread f t)
