-- Reading one expression of a text: which is spelt, and where and by which rule reading stops.
use Rattle.std.specs.Prelude.{◌≡◌, ℕ, None, Some, List, [], ◌∷◌, drop}
use Rattle.l2_syntax.specs.declared.token.Token.{Token}
use Rattle.l2_syntax.specs.declared.refusal.Rule.TheVariants as rule
use Rattle.l2_syntax.specs.declared.refusal.Refusal.{Refusal}
use Rattle.l2_grammar.specs.declared.states.Level.{Level}
use Rattle.l2_grammar.specs.Trees.{Seen}
use Rattle.l2_grammar.specs.Expressions.{sort_at, EndsBefore, NestsAt, BreaksAt}
use Rattle.l2_lex.specs.Lexing.{Lexed}
use Rattle.l2_tree.specs.Trees.{ExprTree}
use Rattle.l2_tree.specs.Spelling.{run_expr}
use Rattle.l2_parse_unit.specs.Reading.{kept, last_place, start}

-- the tokens from an index on, as trees keep them
abbrev pub kept_from : ℕ → List Token → List Seen
kept_from i tokens = kept (drop i tokens)

-- the longest expression of the level with which the tokens from this index on begin, where n brackets are open, ends before that one
abbrev pub Reads : Level → ℕ → List Token → ℕ → ExprTree → ℕ → Type 0
Reads l n tokens at e end = EndsBefore l n (kept_from at tokens) (run_expr (sort_at l) e) (kept_from end tokens)

-- reading stops at this place by this rule: at a token that is too deep, at one with which no expression of the level goes on, or
-- behind the last token, where the lexical refusal stands, or the text ends too early
pub data IsRefusedFrom (l : Level) (n : ℕ) (r : Lexed) (at : ℕ) : Refusal → Type 0 where
  nested : (i : ℕ) (t : Token) (more : List Token) → drop i r.list ≡ t ∷ more → NestsAt l n (kept_from at r.list) (kept_from i r.list) →
      IsRefusedFrom l n r at (record { place = t.place; rule = rule.Nesting })
  stopped : (i : ℕ) (t : Token) (more : List Token) → drop i r.list ≡ t ∷ more → BreaksAt l n (kept_from at r.list) (kept_from i r.list) →
      IsRefusedFrom l n r at (record { place = t.place; rule = rule.Syntax })
  lexical : (f : Refusal) → r.stop ≡ Some f → BreaksAt l n (kept_from at r.list) [] → IsRefusedFrom l n r at f
  ended : r.stop ≡ None → BreaksAt l n (kept_from at r.list) [] → IsRefusedFrom l n r at (record { place = last_place start r.list; rule = rule.Syntax })
