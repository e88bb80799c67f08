-- An expression has as many tokens as there are from its first to the index behind it.
use Rattle.std.proofs.Common.{◌≡◌, ◌+◌, ◌≤◌, ◌<◌, ℕ, List, [], ◌++◌, drop, length, length-append, length-drop, ap, arith}
use Rattle.std.proofs.lemmas.List.{length-map}
use Rattle.l2_syntax.specs.declared.token.Token.{Token}
use Rattle.l2_grammar.specs.declared.states.Level.{Level}
use Rattle.l2_grammar.specs.Trees.{spell}
use Rattle.l2_grammar.specs.Limits.{size}
use Rattle.l2_grammar.specs.Expressions.{EndsBefore}
use Rattle.l2_grammar.proofs.Lengths.{spell_size}
use Rattle.l2_reader.specs.declared.syntax.Open.{Open}
use Rattle.l2_reader.specs.Parts.{seen, tree_of, Sound}
use Rattle.l2_reader.specs.Turns.{seen_from}

seen_length : (i : ℕ) (ts : List Token) → i ≤ length ts → length (seen_from i ts) + i ≡ length ts
seen_length i ts b = let a = length-map (drop i ts) seen in let d = length-drop i ts in omega arith

pub ends_size : (l : Level) (n : ℕ) (ts : List Token) (at end : ℕ) (o : Open) → at < length ts → end ≤ length ts → Sound o → EndsBefore l n (seen_from at ts) (tree_of o) (seen_from end ts) → o.size + at ≡ end
ends_size l n ts at end o a b s e =
    let x = seen_length at ts (omega (arith, a)) in
    let y = seen_length end ts b in
    let p : length (seen_from at ts) ≡ length (e.used ++ seen_from end ts) = ap (λ z. length z) e.parts in
    let q = length-append e.used (seen_from end ts) in
    let u : length (spell (tree_of o) []) ≡ length e.used = ap (λ z. length z) e.spells.spelled in
    let v = spell_size (tree_of o) [] in
    let w : size (tree_of o) ≡ o.size = s.sized in
    omega arith
