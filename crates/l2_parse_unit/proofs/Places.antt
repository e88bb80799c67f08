-- What an index says of where tokens are refused.
use Rattle.std.proofs.Common.{◌≡◌, ap, sym, ◌∙◌, subst, ℕ, ◌+◌, ◌≤◌, ◌<◌, List, [], ◌∷◌, ◌++◌, map, drop, take, length, slice_index_or, None, Some}
use Rattle.std.proofs.lemmas.List.{at_drop_more, drop-map, take-append-drop, length-map, drop_all}
use Rattle.l2_syntax.specs.declared.token.Token.{Token}
use Rattle.l2_syntax.specs.declared.refusal.Rule.TheVariants as rule
use Rattle.l2_syntax.specs.declared.refusal.Refusal.{Refusal}
use Rattle.l2_grammar.specs.Trees.{Seen}
use Rattle.l2_grammar.specs.Law.{StopsBefore, Begins}
use Rattle.l2_grammar.specs.Limits as reader
use Rattle.l2_parse_unit.specs.Depths.{NestsBefore}
use Rattle.l2_reader.specs.Parts.{seen}
use Rattle.l2_lex.specs.Lexing.{Lexed}
use Rattle.l2_tree.specs.Spelling.{plain}
use Rattle.l2_parse_unit.specs.Reading.{kept, IsRefused, nested, stopped, lexical, ended, last_place, start}
use Rattle.l2_parse_unit.proofs.Refused.{nil_right}
use Rattle.l2_parse_unit.proofs.Depths as depths
use Rattle.l2_parse_unit.proofs.Depths.{found_stops, stops_so}

split : (ts : List Token) (i : ℕ) (d : Token) → i < length ts → ts ≡ take i ts ++ (slice_index_or ts i d ∷ drop (i + 1) ts)
split ts i d h = sym (take-append-drop i ts) ∙ at_drop_more (λ x. take i ts ++ x) ts i d h

rest_is : (ts ps : List Token) (i : ℕ) → map seen ps ≡ kept ts → map seen (drop i ps) ≡ kept (drop i ts)
rest_is ts ps i e = sym (drop-map seen i ps) ∙ ap (drop i) e ∙ drop-map (λ t. plain (record { kind = t.kind; at = t.place })) i ts

pub same_length : (ts ps : List Token) → map seen ps ≡ kept ts → length ps ≡ length ts
same_length ts ps e = sym (length-map ps seen) ∙ ap length e ∙ length-map ts (λ t. plain (record { kind = t.kind; at = t.place }))

-- a statement on the plain tokens and what is left of them is one on the tokens as trees keep them
moved : (P : List Seen → List Seen → Type 0) (ts ps : List Token) (i : ℕ) → map seen ps ≡ kept ts → P (map seen ps) (map seen (drop i ps)) → P (kept ts) (kept (drop i ts))
moved P ts ps i e h = subst (λ x. P x (kept (drop i ts))) e (subst (λ x. P (map seen ps) x) (rest_is ts ps i e) h)

at_token : (P : List Seen → List Seen → Type 0) (ts ps : List Token) (i : ℕ) (d : Token) → map seen ps ≡ kept ts → i < length ts → P (map seen ps) (map seen (drop i ps)) → P (kept ts) (kept (slice_index_or ts i d ∷ drop (i + 1) ts))
at_token P ts ps i d e w h = subst (λ x. P (kept ts) (kept x)) (at_drop_more (λ x. x) ts i d w) (moved P ts ps i e h)

behind_all : (P : List Seen → List Seen → Type 0) (ts ps : List Token) (i : ℕ) → map seen ps ≡ kept ts → length ts ≤ i → P (map seen ps) (map seen (drop i ps)) → P (kept ts) []
behind_all P ts ps i e w h = subst (λ x. P (kept ts) (kept x)) (drop_all i ts w) (moved P ts ps i e h)

pub nested_at : (r : Lexed) (ps : List Token) (i : ℕ) (d : Token) → map seen ps ≡ kept r.list → i < length r.list → reader.NestsBefore (map seen ps) (map seen (drop i ps)) →
    IsRefused r (record { place = (slice_index_or r.list i d).place; rule = rule.Nesting })
nested_at r ps i d e w h = nested (take i r.list) (slice_index_or r.list i d) (drop (i + 1) r.list) (split r.list i d w) (at_token NestsBefore r.list ps i d e w (depths.nests (map seen ps) (map seen (drop i ps)) h))

pub stopped_at : (r : Lexed) (ps : List Token) (i : ℕ) (d : Token) → map seen ps ≡ kept r.list → i < length r.list → found_stops (map seen ps) (map seen (drop i ps)) →
    IsRefused r (record { place = (slice_index_or r.list i d).place; rule = rule.Syntax })
stopped_at r ps i d e w h = stopped (take i r.list) (slice_index_or r.list i d) (drop (i + 1) r.list) (split r.list i d w) (at_token stops_so r.list ps i d e w (depths.stops (map seen ps) (map seen (drop i ps)) h))

begun : (ts : List Seen) → StopsBefore ts [] → Begins ts
begun ts s = subst Begins (sym (s.parts ∙ nil_right s.used)) s.begins

pub lexical_at : (r : Lexed) (ps : List Token) (i : ℕ) (f : Refusal) → map seen ps ≡ kept r.list → length r.list ≤ i → found_stops (map seen ps) (map seen (drop i ps)) → r.stop ≡ Some f → IsRefused r f
lexical_at r ps i f e w h s = let g = behind_all stops_so r.list ps i e w (depths.stops (map seen ps) (map seen (drop i ps)) h) in lexical f s (begun (kept r.list) g.0) g.1

pub ended_at : (r : Lexed) (ps : List Token) (i : ℕ) → map seen ps ≡ kept r.list → length r.list ≤ i → found_stops (map seen ps) (map seen (drop i ps)) → r.stop ≡ None →
    IsRefused r (record { place = last_place start r.list; rule = rule.Syntax })
ended_at r ps i e w h s = ended s (behind_all stops_so r.list ps i e w (depths.stops (map seen ps) (map seen (drop i ps)) h))

pub ruleset places = (nested_at, stopped_at, lexical_at, ended_at, same_length)
