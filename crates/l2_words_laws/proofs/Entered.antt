-- Where no fault is found, a command was entered, and its arguments have their values.
use Rattle.std.proofs.Common.{◌≡◌, Bool, true, false, List, [], ◌∷◌, Option, Some, None, refl, subst}
use Rattle.std.specs.Prelude.{is_some, find, if◌then◌else◌, option_map}
use Rattle.std.specs.Option.{option_map_or}
use Rattle.std.specs.List.{list_all}
use Rattle.clap.specs.Kinds.{Kinds, or_else, check_kinds}
use Rattle.clap.specs.Simple.{App, Shape, label_of, names_of, entered, rows_at}
use Rattle.clap.specs.Faults.{settle_fault, walk_fault, defaults_fault, check_fault, level_fault, entered_fault, built_fault}
use Rattle.clap.specs.Walk.{Text, Row, Held, Names, answers_to, walk, walk_from, finished, settled, nothing_held, rows_after, stop_after}
use Rattle.l2_words_laws.proofs.Rows.{HaveValues}
use Rattle.l2_words_laws.proofs.Walks.{parts, gives_value, gives_all, level_values}

wanted : (a b c : Bool) → b ≡ true → check_kinds a b c ≡ [] → ⊥
wanted true b c is e = cc
wanted false true c is e = cc
wanted false false c is e = cc

level_parts : (s : Shape) (names : Names) (h : Held) (words : List Text) (has : Bool) (below : Kinds) → level_fault s names h words has below ≡ [] →
    (below ≡ []) × (check_fault s (finished s.rules (walk s.rules names h words).held) has ≡ [])
level_parts s names h words has below e =
    let end = (walk s.rules names h words).held in
    let check = check_fault s (finished s.rules end) has in
    let defaults = defaults_fault (settled s.rules end).rows s.rules in
    let settle = settle_fault s.rules s.args_override_self end in
    let a = parts (walk_fault s names (walk_from h) words) (or_else below (or_else settle (or_else defaults check))) e in
    let b = parts below (or_else settle (or_else defaults check)) a.1 in
    let c = parts settle (or_else defaults check) b.1 in
    (b.0, (parts defaults check c.1).1)

-- so of each of these commands
abbrev pub EachShape : (Shape → Type 0) → List Shape → Type 0
EachShape P [] = Unit {0}
EachShape P (s ∷ subs) = P s × EachShape P subs

found_so : (P : Shape → Type 0) (f : Shape → Bool) (subs : List Shape) → EachShape P subs → (s : Shape) → find f subs ≡ Some s → P s
found_so P f [] all s e = absurd (let g : None ≡ Some s = e in cc)
found_so P f (x ∷ subs) (p, all) s e = go (f x) e (λ g. found_so P f subs all s g) where
  go : (b : Bool) → (if b then Some x else find f subs) ≡ Some s → (find f subs ≡ Some s → P s) → P s
  go true e rest = let same : x ≡ s = cc in subst P same p
  go false e rest = rest e

-- the command's arguments give values, and where those that want one have one this is so of its name and rows
pub record Is (Q : Text → List Row → Type 0) (s : Shape) : Type 0 where
  pub tests : list_all gives_value s.rules ≡ true
  pub so : (rows : List Row) → HaveValues s.rules rows → Q s.name rows

pub record Enters (Q : Text → List Row → Type 0) (o : Option (Text × List Row)) : Type 0 where
  pub name : Text
  pub rows : List Row
  pub is_it : o ≡ Some (name, rows)
  pub so : Q name rows

module _ (Q : Text → List Row → Type 0) (a : App) (required : a.top.subcommand_required ≡ true) (each : EachShape (Is Q) a.subs) (words : List Text) where
  by_found : (p : Text × List Text) (found : Option Shape) → find (λ s. answers_to p.0 (label_of s)) a.subs ≡ found →
      level_fault a.top (names_of a) nothing_held words (is_some (option_map (λ s. rows_at s p.1) found)) (option_map_or (λ s. level_fault s [] nothing_held p.1 false []) found []) ≡ [] →
      Enters Q (option_map (λ s. rows_at s p.1) found)
  by_found p None e faultless = absurd (wanted _ _ _ required (level_parts a.top (names_of a) nothing_held words false [] faultless).1)
  by_found p (Some s) e faultless =
      let is = found_so (Is Q) (λ s. answers_to p.0 (label_of s)) a.subs each s e in
      let below = (level_parts a.top (names_of a) nothing_held words true (level_fault s [] nothing_held p.1 false []) faultless).0 in
      record { name = s.name; rows = rows_after s.rules [] p.1; is_it = refl; so = is.so (rows_after s.rules [] p.1) (level_values s p.1 (gives_all s.rules is.tests) below) }

  by_stop : (stop : Option (Text × List Text)) → level_fault a.top (names_of a) nothing_held words (is_some (entered a stop)) (entered_fault a stop) ≡ [] → Enters Q (entered a stop)
  by_stop None faultless = absurd (wanted _ _ _ required (level_parts a.top (names_of a) nothing_held words false [] faultless).1)
  by_stop (Some p) faultless = by_found p (find (λ s. answers_to p.0 (label_of s)) a.subs) refl faultless

  pub entered_so : built_fault a nothing_held words ≡ [] → Enters Q (entered a (stop_after a.top.rules (names_of a) words))
  entered_so faultless = by_stop (walk a.top.rules (names_of a) nothing_held words).stopped faultless
