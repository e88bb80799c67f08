use Rattle.std.proofs.Common.{◌≡◌, ◌∙◌, sym, ap, Bool, false, cond, codes}
use Rattle.std.specs.Str.{bytes_eq}
use Rattle.l2_pieces.specs.Punctuators.{mark_in}
use Rattle.l2_directives.specs.declared.words.WordClass.TheVariants as class
use Rattle.l2_directives.specs.Constants.{is_among}
use Rattle.l2_directives.specs.Words.{refused, skipped, keywords, keyword_or_name}
use Rattle.l2_directives.proofs.words.word_class.Goals as goal

fourth : {A : Type 0} (a b d : Bool) (w x y z r : A) → a ≡ false → b ≡ false → d ≡ false → r ≡ z → r ≡ cond a w (cond b x (cond d y z))
fourth a b d w x y z r p q s e = e ∙ sym (ap (λ v. cond v w (cond b x (cond d y z))) p ∙ ap (λ v. cond v x (cond d y z)) q ∙ ap (λ v. cond v y z) s)

pub returns-else-is_attribute : goal.returns-else-is_attribute
returns-else-is_attribute c =
    fourth (is_among refused c.args.word.now) (is_among skipped c.args.word.now) (bytes_eq c.args.word.now (codes "__attribute__")) class.Refused class.Skipped class.Attribute (keyword_or_name (mark_in keywords c.args.word.now)) c.keyword_or_name.result
    (sym c.contains.ensures.value ∙ c.if-contains.false) (sym c.contains-else-contains.ensures.value ∙ c.if-contains-2.false) (sym c.is_attribute.ensures ∙ c.if-is_attribute.false) (c.keyword_or_name.ensures ∙ ap keyword_or_name c.keyword.ensures)
