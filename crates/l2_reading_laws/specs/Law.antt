-- What holds of reading one expression of a text.
use Rattle.std.specs.Prelude.{◌≡◌, ℕ, List}
use Rattle.l2_syntax.specs.declared.token.Token.{Token}
use Rattle.l2_syntax.specs.declared.refusal.Refusal.{Refusal}
use Rattle.l2_grammar.specs.declared.states.Level.{Level}
use Rattle.l2_lex.specs.Lexing.{Lexed}
use Rattle.l2_tree.specs.Trees.{ExprTree}
use Rattle.l2_parse_expr.specs.Reading.{kept_from, Reads, IsRefusedFrom}

-- no expression is refused in two ways
abbrev pub UniqueExpressionRefusalLaw : Type 0
UniqueExpressionRefusalLaw = (l : Level) (n : ℕ) (r : Lexed) (at : ℕ) (f g : Refusal) → IsRefusedFrom l n r at f → IsRefusedFrom l n r at g → f ≡ g

-- where an expression is read none is refused
abbrev pub ExpressionRefusedLaw : Type 0
ExpressionRefusedLaw = (l : Level) (n : ℕ) (r : Lexed) (at : ℕ) (e : ExprTree) (end : ℕ) (f : Refusal) → Reads l n r.list at e end → IsRefusedFrom l n r at f → ⊥

-- one expression is read, and the same is left behind it
abbrev pub ExpressionReadLaw : Type 0
ExpressionReadLaw = (l : Level) (n : ℕ) (tokens : List Token) (at : ℕ) (e d : ExprTree) (i j : ℕ) → Reads l n tokens at e i → Reads l n tokens at d j → (e ≡ d) × (kept_from i tokens ≡ kept_from j tokens)
