-- A text that is read whole.
use Rattle.std.proofs.Common.{◌≡◌, refl, ap, sym, ◌∙◌, subst, true, false, Bool, cond, List, [], ◌∷◌, map, None, Some}
use Rattle.l2_syntax.specs.declared.place.Place.{Place}
use Rattle.l2_syntax.specs.declared.token.Token.{Token}
use Rattle.l2_syntax.specs.declared.refusal.Refusal.{Refusal}
use Rattle.l2_grammar.specs.Trees.{Seen, Tree, begin, token, child, spell}
use Rattle.l2_grammar.specs.Law as grammar
use Rattle.l2_grammar.specs.Limits as reader
use Rattle.l2_reader.specs.declared.syntax.Open.{Open}
use Rattle.l2_reader.specs.Parts.{seen, tree_of}
use Rattle.l2_tree.specs.Build.{unit_of}
use Rattle.l2_tree_laws.specs.Law.{UnitBuiltLaw, UnitRunLaw}
use Rattle.l2_build.specs.Parts.{parts_of as list_parts}
use Rattle.l2_build.proofs.Nodes.{open_parts}
use Rattle.l2_lex.specs.Lexing.{Lexed}
use Rattle.l2_tree.specs.Trees.{ExternalTree}
use Rattle.l2_tree.specs.Spelling.{Keeps, plain, is_placed, nowhere, run_unit}
use Rattle.l2_parse_unit.specs.Reading.{kept, IsRefused, lexical}
use Rattle.l2_parse_unit.specs.Depths.{Shallow}
use Rattle.l2_parse_unit.proofs.Refused.{nil_right}
use Rattle.l2_parse_unit.proofs.Depths.{shallow_whole}

abbrev pub AllPlain : List Seen → Type 0
AllPlain [] = Unit {0}
AllPlain (t ∷ ts) = (plain t ≡ t) × AllPlain ts

plain_place : (b : Bool) (p : Place) → cond b (cond b p nowhere) nowhere ≡ cond b p nowhere
plain_place true p = refl
plain_place false p = refl

abbrev at_place : Seen → Place → Seen
at_place t p = record { kind = t.kind; at = p }

plain_twice : (t : Seen) → plain (plain t) ≡ plain t
plain_twice t = ap (at_place t) (plain_place (is_placed t.kind) t.at)

pub kept_plain : (ts : List Token) → AllPlain (kept ts)
kept_plain [] = tt
kept_plain (t ∷ ts) = (plain_twice (record { kind = t.kind; at = t.place }), kept_plain ts)

pub keeps : (r : Tree) (m : List Seen) → AllPlain (spell r m) → Keeps r × AllPlain m
keeps (begin s) m h = (tt, h)
keeps (token a t) m h = let g = keeps a (t ∷ m) h in ((g.0, g.1.0), g.1.1)
keeps (child a b) m h = let g = keeps a (spell b m) h in let k = keeps b m g.1 in ((g.0, k.0), k.1)

pub tree_keeps : (ts : List Token) (ps : List Token) (r : Tree) → map seen ps ≡ kept ts → grammar.Spells (map seen ps) r → Keeps r
tree_keeps ts ps r e s = (keeps r [] (subst AllPlain (sym (s.spelled ∙ e)) (kept_plain ts))).0

pub run_spelt : (ts : List Token) (ps : List Token) (r : Tree) (xs : List ExternalTree) → map seen ps ≡ kept ts → grammar.Spells (map seen ps) r → run_unit xs ≡ r → grammar.Spells (kept ts) (run_unit xs)
run_spelt ts ps r xs e s h = subst (λ x. grammar.Spells (kept ts) x) (sym h) (subst (λ x. grammar.Spells x r) e s)

pub plain_shallow : (ts : List Token) (ps : List Token) (u : Tree) → map seen ps ≡ kept ts → grammar.Spells (map seen ps) u → reader.Shallow (map seen ps) [] → Shallow (kept ts) []
plain_shallow ts ps u e s h = subst (λ x. Shallow x []) e (shallow_whole (map seen ps) u s h)

pub stopped_behind_all : (r : Lexed) (ps : List Token) (u : Tree) (f : Refusal) → map seen ps ≡ kept r.list → grammar.Spells (map seen ps) u → reader.Shallow (map seen ps) [] → r.stop ≡ Some f → IsRefused r f
stopped_behind_all r ps u f e s h t =
    lexical f t (record { unit = u; rest = []; spells = subst (λ x. grammar.Spells x u) (e ∙ sym (nil_right (kept r.list))) s }) (plain_shallow r.list ps u e s h)

-- what was read is built
pub never_unbuilt : UnitBuiltLaw → (o : Open) → grammar.IsUnit (tree_of o) → Keeps (tree_of o) → unit_of (list_parts o.parts.items) ≡ None → ⊥
never_unbuilt law o u k e = law (tree_of o) u k (ap unit_of (open_parts o) ∙ e)

-- and spells what it was read from
pub built_run : UnitRunLaw → (o : Open) (xs : List ExternalTree) → grammar.IsUnit (tree_of o) → Keeps (tree_of o) → unit_of (list_parts o.parts.items) ≡ Some xs → run_unit xs ≡ tree_of o
built_run law o xs u k e = law (tree_of o) xs u k (ap unit_of (open_parts o) ∙ e)

pub ruleset wholes = (tree_keeps, run_spelt, plain_shallow)

pub ruleset stopped_behind = (stopped_behind_all)
