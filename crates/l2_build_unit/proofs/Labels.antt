-- Tokens that are no names label nothing.
use Rattle.std.proofs.Common.{◌≡◌, ℕ, cond, List, Some, None, refl, ap}
use Rattle.l2_syntax.specs.declared.token.Mark.TheVariants as mark
use Rattle.l2_syntax.specs.declared.token.TokenKind.{TokenKind}
use Rattle.l2_syntax.specs.declared.token.TokenKind.TheVariants as kind
use Rattle.l2_tree.specs.Build.{Part, heads, label_of}
use Rattle.l2_build.specs.Types.{word_number}

pub no_label : (k : TokenKind) (ps : List Part) → word_number k ≡ None → label_of k ps ≡ None
no_label (kind.Word n) ps e = absurd (cc)
no_label k ps e = refl

pub a_label : (k : TokenKind) (n : ℕ) (ps : List Part) → word_number k ≡ Some n → label_of k ps ≡ cond (heads mark.Colon ps) (Some n) None
a_label (kind.Word m) n ps e = let h : m ≡ n = cc in ap (λ x. cond (heads mark.Colon ps) (Some x) None) h
a_label k n ps e = absurd (cc)

pub ruleset labels = (no_label, a_label)
