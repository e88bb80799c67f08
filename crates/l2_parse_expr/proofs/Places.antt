-- What an index says of where an expression is refused.
use Rattle.std.proofs.Common.{◌≡◌, ap, sym, ◌∙◌, subst, ℕ, ◌+◌, ◌≤◌, ◌<◌, List, [], ◌∷◌, ◌++◌, map, drop, length, slice_index_or, None, Some}
use Rattle.std.proofs.lemmas.List.{at_drop_more, drop-map, drop_all}
use Rattle.l2_syntax.specs.declared.token.Token.{Token}
use Rattle.l2_syntax.specs.declared.refusal.Rule.TheVariants as rule
use Rattle.l2_syntax.specs.declared.refusal.Refusal.{Refusal}
use Rattle.l2_grammar.specs.declared.states.Level.{Level}
use Rattle.l2_grammar.specs.Trees.{Seen, Tree}
use Rattle.l2_grammar.specs.Expressions.{EndsBefore, NestsAt, BreaksAt, sort_at}
use Rattle.l2_reader.specs.Parts.{seen}
use Rattle.l2_reader.specs.Turns.{seen_from}
use Rattle.l2_lex.specs.Lexing.{Lexed}
use Rattle.l2_tree.specs.Trees.{ExprTree}
use Rattle.l2_tree.specs.Spelling.{Keeps, plain, run_expr}
use Rattle.l2_parse_unit.specs.Reading.{kept, last_place, start}
use Rattle.l2_parse_unit.proofs.Wholes.{AllPlain, kept_plain, keeps}
use Rattle.l2_parse_expr.specs.Reading.{kept_from, Reads, IsRefusedFrom, nested, stopped, lexical, ended}

pub from_is : (ts ps : List Token) (i : ℕ) → map seen ps ≡ kept ts → seen_from i ps ≡ kept_from i ts
from_is ts ps i e = sym (drop-map seen i ps) ∙ ap (drop i) e ∙ drop-map (λ t. plain (record { kind = t.kind; at = t.place })) i ts

-- a statement on the plain tokens from two indices on is one on the tokens as trees keep them
moved : (P : List Seen → List Seen → Type 0) (ts ps : List Token) (at i : ℕ) → map seen ps ≡ kept ts → P (seen_from at ps) (seen_from i ps) → P (kept_from at ts) (kept_from i ts)
moved P ts ps at i e h = subst (λ x. P x (kept_from i ts)) (from_is ts ps at e) (subst (λ x. P (seen_from at ps) x) (from_is ts ps i e) h)

token_at : (ts : List Token) (i : ℕ) (d : Token) → i < length ts → drop i ts ≡ slice_index_or ts i d ∷ drop (i + 1) ts
token_at ts i d w = at_drop_more (λ x. x) ts i d w

pub nested_at : (l : Level) (n : ℕ) (r : Lexed) (ps : List Token) (at i : ℕ) (d : Token) → map seen ps ≡ kept r.list → i < length r.list → NestsAt l n (seen_from at ps) (seen_from i ps) →
    IsRefusedFrom l n r at (record { place = (slice_index_or r.list i d).place; rule = rule.Nesting })
nested_at l n r ps at i d e w h = nested i (slice_index_or r.list i d) (drop (i + 1) r.list) (token_at r.list i d w) (moved (NestsAt l n) r.list ps at i e h)

pub stopped_at : (l : Level) (n : ℕ) (r : Lexed) (ps : List Token) (at i : ℕ) (d : Token) → map seen ps ≡ kept r.list → i < length r.list → BreaksAt l n (seen_from at ps) (seen_from i ps) →
    IsRefusedFrom l n r at (record { place = (slice_index_or r.list i d).place; rule = rule.Syntax })
stopped_at l n r ps at i d e w h = stopped i (slice_index_or r.list i d) (drop (i + 1) r.list) (token_at r.list i d w) (moved (BreaksAt l n) r.list ps at i e h)

behind_all : (l : Level) (n : ℕ) (r : Lexed) (ps : List Token) (at i : ℕ) → map seen ps ≡ kept r.list → length r.list ≤ i → BreaksAt l n (seen_from at ps) (seen_from i ps) → BreaksAt l n (kept_from at r.list) []
behind_all l n r ps at i e w h = subst (λ x. BreaksAt l n (kept_from at r.list) (kept x)) (drop_all i r.list w) (moved (BreaksAt l n) r.list ps at i e h)

pub lexical_at : (l : Level) (n : ℕ) (r : Lexed) (ps : List Token) (at i : ℕ) (f : Refusal) → map seen ps ≡ kept r.list → length r.list ≤ i → BreaksAt l n (seen_from at ps) (seen_from i ps) → r.stop ≡ Some f → IsRefusedFrom l n r at f
lexical_at l n r ps at i f e w h s = lexical f s (behind_all l n r ps at i e w h)

pub ended_at : (l : Level) (n : ℕ) (r : Lexed) (ps : List Token) (at i : ℕ) → map seen ps ≡ kept r.list → length r.list ≤ i → BreaksAt l n (seen_from at ps) (seen_from i ps) → r.stop ≡ None →
    IsRefusedFrom l n r at (record { place = last_place start r.list; rule = rule.Syntax })
ended_at l n r ps at i e w h s = ended s (behind_all l n r ps at i e w h)

pub reads_at : (l : Level) (n : ℕ) (ts ps : List Token) (at end : ℕ) (e : ExprTree) (r : Tree) → map seen ps ≡ kept ts → EndsBefore l n (seen_from at ps) r (seen_from end ps) → run_expr (sort_at l) e ≡ r → Reads l n ts at e end
reads_at l n ts ps at end e r p h q =
    subst (λ x. EndsBefore l n (kept_from at ts) x (kept_from end ts)) (sym q) (moved (λ x y. EndsBefore l n x r y) ts ps at end p h)

plain_front : (us rest : List Seen) → AllPlain (us ++ rest) → AllPlain us
plain_front [] rest h = tt
plain_front (u ∷ us) rest h = (h.0, plain_front us rest h.1)

-- the tree of an expression that was read keeps its tokens as trees do
pub tree_keeps : (l : Level) (n : ℕ) (ts ps : List Token) (at : ℕ) (r : Tree) (rest : List Seen) → map seen ps ≡ kept ts → EndsBefore l n (seen_from at ps) r rest → Keeps r
tree_keeps l n ts ps at r rest e h =
    (keeps r [] (subst AllPlain (sym h.spells.spelled) (plain_front h.used rest (subst AllPlain (sym (from_is ts ps at e) ∙ h.parts) (kept_plain (drop at ts)))))).0
