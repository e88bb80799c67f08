-- The number type that specifiers name, by which of its words are among them: no more has to be counted.
use Rattle.std.specs.Prelude.{true, false, cond, ◌||◌}
use Rattle.l2_syntax.specs.declared.token.Scalar.{Scalar}
use Rattle.l2_syntax.specs.declared.token.Scalar.TheVariants as scalar
use Rattle.l2_tree.specs.declared.operators.SpecifierWord.{SpecifierWord}
use Rattle.l2_tree.specs.declared.operators.SpecifierWord.TheVariants as word
use Rattle.l2_tree.specs.Trees.{SpecifierTree, Word, SpecifierTrees, first_specifier, and_specifier}
use Rattle.l2_tree_names.specs.declared.specifiers.NumberWords.{NumberWords}

abbrev pub no_words : NumberWords
no_words = record { is_unsigned = false; is_char = false; is_short = false; is_long = false; is_long_long = false }

abbrev pub add_word : SpecifierWord → NumberWords → NumberWords
add_word word.Unsigned t = record t { is_unsigned = true }
add_word word.Char t = record t { is_char = true }
add_word word.Short t = record t { is_short = true }
add_word word.Long t = record t { is_long = true; is_long_long = t.is_long || t.is_long_long }
add_word w t = t

abbrev pub add_specifier : SpecifierTree → NumberWords → NumberWords
add_specifier (Word w p) t = add_word w t
add_specifier x t = t

abbrev pub words_of : SpecifierTrees → NumberWords
words_of (first_specifier x) = add_specifier x no_words
words_of (and_specifier xs x) = add_specifier x (words_of xs)

abbrev pub number_of : NumberWords → Scalar
number_of t =
    cond t.is_char (cond t.is_unsigned scalar.UChar scalar.Char) (cond t.is_short (cond t.is_unsigned scalar.UShort scalar.Short)
    (cond t.is_long_long (cond t.is_unsigned scalar.ULongLong scalar.LongLong) (cond t.is_long (cond t.is_unsigned scalar.ULong scalar.Long) (cond t.is_unsigned scalar.UInt scalar.Int))))
