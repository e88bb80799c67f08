-- What a declarator is built round where no name stands.
use Rattle.std.proofs.Common.{◌≡◌, ◌&&◌, not, cond, List, [], ◌∷◌, Option, Some, None, refl}
use Rattle.l2_syntax.specs.declared.place.Place.{Place}
use Rattle.l2_syntax.specs.declared.token.Mark.TheVariants as mark
use Rattle.l2_syntax.specs.declared.token.TokenKind.{TokenKind}
use Rattle.l2_syntax.specs.declared.token.TokenKind.TheVariants as kind
use Rattle.l2_grammar.specs.Marks.{is}
use Rattle.l2_tree.specs.Trees.{Absent}
use Rattle.l2_tree.specs.Build.{Part, Built, leaf, node, group, core}
use Rattle.l2_build.specs.Types.{word_number}

pub core_node : (k : TokenKind) (p : Place) (c : Built) (ps : List Part) → word_number k ≡ None → core (leaf k p ∷ node c ∷ ps) ≡ cond (is mark.OpenParenthesis k && not c.typed) (group p c ps) (Some (Absent, leaf k p ∷ node c ∷ ps))
core_node (kind.Word n) p c ps e = absurd (cc)
core_node k p c ps e = refl

pub core_end : (k : TokenKind) (p : Place) → word_number k ≡ None → core (leaf k p ∷ []) ≡ Some (Absent, leaf k p ∷ [])
core_end (kind.Word n) p e = absurd (cc)
core_end k p e = refl

pub core_leaf : (k : TokenKind) (p : Place) (l : TokenKind) (q : Place) (ps : List Part) → word_number k ≡ None → core (leaf k p ∷ leaf l q ∷ ps) ≡ Some (Absent, leaf k p ∷ leaf l q ∷ ps)
core_leaf (kind.Word n) p l q ps e = absurd (cc)
core_leaf k p l q ps e = refl

pub ruleset cores = (core_node, core_end, core_leaf)
