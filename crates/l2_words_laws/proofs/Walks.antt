-- A walk in which `clap` finds no fault leaves rows in which each argument has a value.
use Rattle.std.proofs.Common.{arith, ◌≡◌, ℕ, zero, suc, Bool, true, false, List, [], ◌∷◌, length, drop, Option, Some, None, refl, subst}
use Rattle.std.specs.Prelude.{is_some, find, fold, not, ◌&&◌, ◌||◌, ◌==◌, if◌then◌else◌, encode_utf8, slice_get}
use Rattle.std.specs.Str.{bytes_eq, chars}
use Rattle.std.specs.Option.{option_map_or}
use Rattle.std.specs.List.{list_all}
use Rattle.clap.specs.Lexer.{long_of, short_of}
use Rattle.clap.specs.Facts.{unwrap_or_range}
use Rattle.clap.specs.declared.error.kind.ErrorKind.TheVariants as kind
use Rattle.clap.specs.Kinds.{Kinds, or_else, range_kinds, check_kinds}
use Rattle.clap.specs.Simple.{Shape}
use Rattle.clap.specs.Faults.{action_fault, use_fault, settle_fault, react_fault, option_fault, long_fault, short_fault, bundle_step_fault, flags_fault, bundle_fault, flag_word_fault, other_fault, word_fault, positional_fault, step_fault, stray_fault, turn_fault, walk_fault, defaults_fault, check_fault, level_fault}
use Rattle.clap.specs.Walk.{Text, Row, Rule, Held, Names, Outcome, done, waits, plain, Waiting, idle, option, positional, Step, next, trailing, subcommand, value, Walk, action_of, most_values, values_or_missing, takes_values, takes_several, is_empty, arg_by_id, arg_by_long, arg_by_short, arg_by_index, used, settled, reacted, option_met, flag_met, long_met, attached_value, short_met, bundle_step, bundle_met, bundle, option_word, plain_word, after_flag, short_or_plain, long_or_other, subcommand_met, subcommand_or_other, word_met, is_pending, positional_held, to_positional, after_step, walked, walked_from, walk, walk_from, finished, rows_after, nothing_held, has_long, has_short, refused, used_by_id, settled_rows}
use Rattle.l2_words_laws.proofs.Rows.{IsFull, AreFull, GivesValue, used_full, HaveValues, have_values, all_given, defaults_full, defaults_there}

pub parts : (a b : Kinds) → or_else a b ≡ [] → (a ≡ []) × (b ≡ [])
parts [] b e = (refl, e)
parts (k ∷ ks) b e = absurd (let f : k ∷ ks ≡ [] = e in cc)

abbrev pub GiveValues : List Rule → Type 0
GiveValues [] = Unit {0}
GiveValues (a ∷ c) = GivesValue a × GiveValues c

-- a use takes one value at least, or a value stands for none
abbrev pub gives_value : Rule → Bool
gives_value a = (unwrap_or_range a.range).start_inclusive == 1 || not (is_empty a.missing)

none_given : (least most : ℕ) → (least == 1) ≡ true → range_kinds least most 0 ≡ [] → ⊥
none_given least most one e = let is : least ≡ 1 = grind (arith, one) in none most (subst (λ n. range_kinds n most 0 ≡ []) is e) where
  none : (most : ℕ) → range_kinds 1 most 0 ≡ [] → ⊥
  none most e = cc

some_missing : (missing : List Text) → not (is_empty missing) ≡ true → IsFull missing
some_missing [] e = absurd (let f : false ≡ true = e in cc)
some_missing (v ∷ vs) e = tt

gives_one : (a : Rule) → gives_value a ≡ true → GivesValue a
gives_one a e (v ∷ vs) range = tt
gives_one a e [] range = go ((unwrap_or_range a.range).start_inclusive == 1) refl e where
  go : (b : Bool) → ((unwrap_or_range a.range).start_inclusive == 1) ≡ b → (b || not (is_empty a.missing)) ≡ true → IsFull a.missing
  go true is e = absurd (none_given (unwrap_or_range a.range).start_inclusive (most_values a) is range)
  go false is e = some_missing a.missing e

both_true : (a b : Bool) → (a && b) ≡ true → (a ≡ true) × (b ≡ true)
both_true true b e = (refl, e)
both_true false b e = absurd (let f : false ≡ true = e in cc)

pub gives_all : (c : List Rule) → list_all gives_value c ≡ true → GiveValues c
gives_all [] e = tt
gives_all (a ∷ c) e = let two = both_true (gives_value a) (list_all gives_value c) e in (gives_one a two.0, gives_all c two.1)

abbrev Gives : Option Rule → Type 0
Gives None = Unit {0}
Gives (Some a) = GivesValue a

found_gives : (f : Rule → Bool) (c : List Rule) → GiveValues c → Gives (find f c)
found_gives f [] g = tt
found_gives f (a ∷ c) (g, gs) = go (f a) (found_gives f c gs) where
  go : (b : Bool) → Gives (find f c) → Gives (if b then Some a else find f c)
  go true rest = g
  go false rest = rest

use_full : (again : Bool) (a : Rule) (values : List Text) (rows : List Row) → GivesValue a → use_fault again a values rows ≡ [] → AreFull rows → AreFull (used a values rows)
use_full again a values rows g e f = used_full a values rows (g values (parts (range_kinds (unwrap_or_range a.range).start_inclusive (most_values a) (length values)) (action_fault (action_of a) again a (values_or_missing a values) rows) e).0) f

module _ (c : List Rule) (again : Bool) (gives : GiveValues c) where
  settle_full : (h : Held) → settle_fault c again h ≡ [] → AreFull h.rows → AreFull (settled c h).rows
  settle_full h e f = go h.pending e where
    by_id : (o : Option Rule) (values : List Text) → Gives o → option_map_or (λ a. use_fault again a values h.rows) o [] ≡ [] → AreFull (used_by_id o values h.rows)
    by_id None values g e = f
    by_id (Some a) values g e = use_full again a values h.rows g e f

    go : (p : Option (Text × List Text)) → option_map_or (λ p. option_map_or (λ a. use_fault again a p.1 h.rows) (arg_by_id c p.0) []) p [] ≡ [] → AreFull (settled_rows c p h.rows)
    go None e = f
    go (Some p) e = by_id (arg_by_id c p.0) p.1 (found_gives (λ a. bytes_eq a.id p.0) c gives) e

  react_full : (a : Rule) (values : List Text) (h : Held) → GivesValue a → react_fault c again a values h ≡ [] → AreFull h.rows → AreFull (reacted c a values h).rows
  react_full a values h g e f =
      let two = parts (settle_fault c again h) (use_fault again a values (settled c h).rows) e in
      use_full again a values (settled c h).rows g two.1 (settle_full h two.0 f)

  option_full : (a : Rule) (v : Option Text) (h : Held) → GivesValue a → option_fault c again a v h ≡ [] → AreFull h.rows → AreFull (option_met c a v h).0.rows
  option_full a (Some v) h g e f = react_full a (v ∷ []) h g e f
  option_full a None h g e f = settle_full h e f

  long_full : (o : Option Rule) (v : Option Text) (h : Held) → Gives o → long_fault c again o v h ≡ [] → AreFull h.rows → AreFull (long_met c o v h).0.rows
  long_full None v h g e f = f
  long_full (Some a) v h g e f = go (takes_values a) e where
    flag : (v : Option Text) → (if is_some v then kind.TooManyValues ∷ [] else react_fault c again a [] h) ≡ [] → AreFull (flag_met c a v h).0.rows
    flag (Some v) e = f
    flag None e = react_full a [] h g e f

    go : (b : Bool) → (if b then option_fault c again a v h else (if is_some v then kind.TooManyValues ∷ [] else react_fault c again a [] h)) ≡ [] →
        AreFull (if b then option_met c a v h else flag_met c a v h).0.rows
    go true e = option_full a v h g e f
    go false e = flag v e

  short_full : (o : Option Rule) (rest : Text) (h : Held) (next_fault : Held → Kinds) (more : Held → Held × Outcome) →
      ((g : Held) → next_fault g ≡ [] → AreFull g.rows → AreFull (more g).0.rows) → Gives o → short_fault c again o rest h next_fault ≡ [] → AreFull h.rows →
      AreFull (short_met c o rest h more).0.rows
  short_full None rest h next_fault more go_on g e f = f
  short_full (Some a) rest h next_fault more go_on g e f = go (takes_values a) e where
    go : (b : Bool) → (if b then option_fault c again a (attached_value rest) h else or_else (react_fault c again a [] h) (next_fault (reacted c a [] h))) ≡ [] →
        AreFull (if b then option_met c a (attached_value rest) h else more (reacted c a [] h)).0.rows
    go true e = option_full a (attached_value rest) h g e f
    go false e =
        let two = parts (react_fault c again a [] h) (next_fault (reacted c a [] h)) e in
        go_on (reacted c a [] h) two.1 (react_full a [] h g two.0 f)

  bundle_step_full : (o : Option ℕ) (flags : Text) (skip : ℕ) (so_far : Outcome) (h : Held) (next_fault : Text → ℕ → Held → Kinds)
      (more : Text → ℕ → Outcome → Held → Held × Outcome) →
      ((flags : Text) (skip : ℕ) (so_far : Outcome) (g : Held) → next_fault flags skip g ≡ [] → AreFull g.rows → AreFull (more flags skip so_far g).0.rows) →
      bundle_step_fault c again o flags skip h next_fault ≡ [] → AreFull h.rows → AreFull (bundle_step c o flags skip so_far h more).0.rows
  bundle_step_full None flags skip so_far h next_fault more go_on e f = f
  bundle_step_full (Some x) flags zero so_far h next_fault more go_on e f =
      let rest = drop (length (encode_utf8 x)) flags in
      short_full (arg_by_short c x) rest h (next_fault rest 0) (more rest 0 done) (go_on rest 0 done) (found_gives (λ a. not (is_some a.index) && has_short a x) c gives) e f
  bundle_step_full (Some x) flags (suc skip) so_far h next_fault more go_on e f = go_on (drop (length (encode_utf8 x)) flags) skip so_far h e f

  bundle_met_full : (k : ℕ) (flags : Text) (skip : ℕ) (so_far : Outcome) (h : Held) → flags_fault c again k flags skip h ≡ [] → AreFull h.rows →
      AreFull (bundle_met c k flags skip so_far h).0.rows
  unfolding flags_fault bundle_met
  bundle_met_full zero flags skip so_far h e f = f
  bundle_met_full (suc k) flags skip so_far h e f = bundle_step_full (slice_get (chars flags) 0) flags skip so_far h (flags_fault c again k) (bundle_met c k) (bundle_met_full k) e f

  plain_full : (waiting : Waiting) (word : Text) (h : Held) → AreFull h.rows → AreFull (plain_word c waiting word h).0.rows
  plain_full idle word h f = f
  plain_full positional word h f = f
  plain_full (option id) word h f = go (arg_by_id c id) where
    go : (o : Option Rule) → AreFull (option_word o id word h).0.rows
    go None = f
    go (Some a) = f

  after_full : (waiting : Waiting) (word : Text) (h : Held) (o : Outcome) → AreFull h.rows → AreFull (after_flag c waiting word h o).0.rows
  after_full waiting word h done f = f
  after_full waiting word h (waits id) f = f
  after_full waiting word h plain f = plain_full waiting word h f
  after_full waiting word h refused f = plain_full waiting word h f

  flag_word_full : (waiting : Waiting) (word : Text) (o : Option (Text × Option Text)) (h : Held) → flag_word_fault c again o word h ≡ [] → AreFull h.rows →
      AreFull (long_or_other c waiting word o h).0.rows
  flag_word_full waiting word (Some p) h e f =
      let met = long_met c (arg_by_long c p.0) p.1 h in
      after_full waiting word met.0 met.1 (long_full (arg_by_long c p.0) p.1 h (found_gives (λ a. not (is_some a.index) && has_long a p.0) c gives) e f)
  flag_word_full waiting word None h e f = go (short_of word) e where
    go : (o : Option Text) → option_map_or (λ flags. bundle_fault c again flags h) o [] ≡ [] → AreFull (short_or_plain c waiting word o h).0.rows
    go None e = plain_full waiting word h f
    go (Some flags) e = after_full waiting word (bundle c flags h).0 (bundle c flags h).1 (bundle_met_full (length flags) flags h.skip plain (record h { skip = 0 }) e f)

  positional_full : (a : Rule) (word : Text) (h : Held) → positional_fault c again a h ≡ [] → AreFull h.rows → AreFull (positional_held c a word h).rows
  positional_full a word h e f = go (is_pending a h.pending && takes_several a) e where
    go : (b : Bool) → (if b then [] else settle_fault c again h) ≡ [] → AreFull (if b then h else settled c h).rows
    go true e = f
    go false e = settle_full h e f

module _ (s : Shape) (gives : GiveValues s.rules) where
  other_full : (o : Option Text) (waiting : Waiting) (position : ℕ) (word : Text) (h : Held) → other_fault s o word h ≡ [] → AreFull h.rows →
      AreFull (subcommand_or_other s.rules o waiting position word h).0.rows
  other_full (Some name) waiting position word h e f = f
  other_full None waiting position word h e f = go (bytes_eq word (45 ∷ 45 ∷ [])) e where
    go : (b : Bool) → (if b then [] else flag_word_fault s.rules s.args_override_self (long_of word) word h) ≡ [] →
        AreFull (if b then (h, trailing position) else long_or_other s.rules waiting word (long_of word) h).0.rows
    go true e = f
    go false e = flag_word_full s.rules s.args_override_self gives waiting word (long_of word) h e f

  word_full : (names : Names) (is_trailing : Bool) (waiting : Waiting) (position : ℕ) (word : Text) (h : Held) → word_fault s names is_trailing waiting word h ≡ [] →
      AreFull h.rows → AreFull (word_met s.rules names is_trailing waiting position word h).0.rows
  word_full names true waiting position word h e f = f
  word_full names false waiting position word h e f = other_full (subcommand_met names waiting word) waiting position word h e f

  step_full : (word : Text) (w : Walk) (h : Held) (step : Step) → step_fault s w.position h step ≡ [] → AreFull h.rows → AreFull (after_step s.rules word w h step).held.rows
  step_full word w h (next waiting) e f = f
  step_full word w h (trailing position) e f = f
  step_full word w h (subcommand name) e f = f
  step_full word w h value e f = go (arg_by_index s.rules w.position) e where
    go : (o : Option Rule) → option_map_or (λ a. positional_fault s.rules s.args_override_self a h) o (stray_fault s) ≡ [] →
        AreFull (to_positional s.rules o word w h).held.rows
    go None e = f
    go (Some a) e = positional_full s.rules s.args_override_self gives a word h e f

  turn_full : (names : Names) (w : Walk) (word : Text) → turn_fault s names w word ≡ [] → AreFull w.held.rows → AreFull (walked s.rules names w word).held.rows
  unfolding walked
  turn_full names w word e f = go w.stopped e where
    met : Held × Step
    met = word_met s.rules names w.is_trailing w.waiting w.position word w.held

    go : (o : Option (Text × List Text)) →
        (if is_some o then [] else or_else (word_fault s names w.is_trailing w.waiting word w.held) (step_fault s w.position met.0 met.1)) ≡ [] →
        AreFull (walked_from s.rules names o w word).held.rows
    go (Some p) e = f
    go None e =
        let two = parts (word_fault s names w.is_trailing w.waiting word w.held) (step_fault s w.position met.0 met.1) e in
        step_full word w met.0 met.1 two.1 (word_full names w.is_trailing w.waiting w.position word w.held two.0 f)

  pub walk_full : (names : Names) (words : List Text) (w : Walk) → walk_fault s names w words ≡ [] → AreFull w.held.rows → AreFull (fold (walked s.rules names) w words).held.rows
  unfolding walk_fault
  walk_full names [] w e f = f
  walk_full names (word ∷ words) w e f =
      let two = parts (turn_fault s names w word) (walk_fault s names (walked s.rules names w word) words) e in
      walk_full names words (walked s.rules names w word) two.1 (turn_full names w word two.0 f)

required_there : (a b n l : Bool) → check_kinds a b (not (n && false) && l) ≡ [] → l ≡ false
required_there true b n l e = absurd (cc)
required_there false true n l e = absurd (cc)
required_there false false true false e = refl
required_there false false false false e = refl
required_there false false true true e = absurd (cc)
required_there false false false true e = absurd (cc)

-- a command without commands of its own, in whose words no fault is found
pub level_values : (s : Shape) (words : List Text) → GiveValues s.rules → level_fault s [] nothing_held words false [] ≡ [] → HaveValues s.rules (rows_after s.rules [] words)
level_values s words gives e =
    let again = s.args_override_self in
    let end = (walk s.rules [] nothing_held words).held in
    let rows = finished s.rules end in
    let check = check_fault s rows false in
    let defaults = defaults_fault (settled s.rules end).rows s.rules in
    let a = parts (walk_fault s [] (walk_from nothing_held) words) (or_else (settle_fault s.rules again end) (or_else defaults check)) e in
    let b = parts (settle_fault s.rules again end) (or_else defaults check) a.1 in
    let c = parts defaults check b.1 in
    let walked_over : AreFull end.rows = walk_full s gives [] words (walk_from nothing_held) a.0 tt in
    let settled_so : AreFull (settled s.rules end).rows = settle_full s.rules again gives end b.0 walked_over in
    have_values s.rules rows (defaults_full s.rules (settled s.rules end).rows settled_so)
    (all_given s.rules rows (required_there _ _ s.subcommand_negates_reqs _ c.1))
    (defaults_there s.rules (settled s.rules end).rows)
