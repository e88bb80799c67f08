-- What the reader says of depths is so by the tokens and trees.
use Rattle.std.proofs.Common.{◌≡◌, List, [], ◌∷◌, ◌++◌, sym, ap, ◌∙◌, subst, append_assoc, append-nil}
use Rattle.std.proofs.lemmas.List.{append_cancel_right}
use Rattle.l2_grammar.specs.Trees.{Seen, Tree}
use Rattle.l2_grammar.specs.Law.{Spells, Begins, StopsBefore}
use Rattle.l2_grammar.specs.Limits as reader
use Rattle.l2_parse_unit.specs.Depths.{Shallow, ShallowAt, DeepAt, NestsBefore}
use Rattle.l2_parse_unit.proofs.Deep.{found, too_deep}

-- some unit begins with the first of the tokens with which one begins
pub begins_with : (a b : List Seen) → Begins (a ++ b) → Begins a
begins_with a b h = record { unit = h.unit; rest = b ++ h.rest; spells = subst (λ x. Spells x h.unit) (append_assoc a b h.rest) h.spells }

begins_at : (ts us rest used more : List Seen) → ts ≡ us ++ rest → Begins us → ts ≡ used ++ (more ++ rest) → Begins used
begins_at ts us rest used more p b e =
    begins_with used more (subst Begins (append_cancel_right us (used ++ more) rest (sym p ∙ e ∙ sym (append_assoc used more rest))) b)

pub shallow : (ts us rest : List Seen) → ts ≡ us ++ rest → Begins us → reader.Shallow ts rest → Shallow ts rest
shallow ts us rest p b s used t more e d = s used t more e (found used t (begins_at ts us rest used (t ∷ more) p b e) d)

pub shallow_at : (ts us rest : List Seen) → ts ≡ us ++ rest → Begins us → reader.ShallowAt ts rest → ShallowAt ts rest
shallow_at ts us rest p b s used t more e h d =
    let same : us ≡ used = append_cancel_right us used rest (sym p ∙ e ∙ ap (λ x. used ++ x) (sym h)) in
    s used t more e h (found used t (subst Begins same b) d)

deep_at : (us rest : List Seen) → Begins us → reader.DeepAt us rest → DeepAt us rest
deep_at us [] b d = d
deep_at us (t ∷ more) b d = too_deep us t b d

pub nests : (ts rest : List Seen) → reader.NestsBefore ts rest → NestsBefore ts rest
nests ts rest n = record { used = n.used; parts = n.parts; begins = n.begins; deep = deep_at n.used rest n.begins n.deep; shallow = shallow ts n.used rest n.parts n.begins n.shallow }

abbrev pub found_stops : List Seen → List Seen → Type 0
found_stops ts rest = StopsBefore ts rest × reader.Shallow ts rest × reader.ShallowAt ts rest

abbrev pub stops_so : List Seen → List Seen → Type 0
stops_so ts rest = StopsBefore ts rest × Shallow ts rest × ShallowAt ts rest

pub stops : (ts rest : List Seen) → found_stops ts rest → stops_so ts rest
stops ts rest s = let b = s.0 in (s.0, shallow ts b.used rest b.parts b.begins s.1, shallow_at ts b.used rest b.parts b.begins s.2)

pub whole_begins : (ts : List Seen) (u : Tree) → Spells ts u → Begins ts
whole_begins ts u s = record { unit = u; rest = []; spells = subst (λ x. Spells x u) (sym (append-nil ts)) s }

pub shallow_whole : (ts : List Seen) (u : Tree) → Spells ts u → reader.Shallow ts [] → Shallow ts []
shallow_whole ts u s h = shallow ts ts [] (sym (append-nil ts)) (whole_begins ts u s) h
