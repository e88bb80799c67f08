-- The words among specifiers tell the number type that their tally does.
use Rattle.std.proofs.Common.{◌≡◌, refl, ap, sym, ◌∙◌, ℕ, zero, suc, Bool, true, false, ◌||◌, leb, None, Some, arith}
use Rattle.std.proofs.lemmas.Bool.{le-leb}
use Rattle.l2_syntax.specs.declared.place.Place.{Place}
use Rattle.l2_tree.specs.declared.operators.SpecifierWord.{SpecifierWord}
use Rattle.l2_tree.specs.declared.operators.SpecifierWord.TheVariants as word
use Rattle.l2_tree.specs.Trees.{SpecifierTree, Word, SpecifierTrees, first_specifier, and_specifier}
use Rattle.l2_tree.specs.Build.{some_or}
use Rattle.l2_tree_laws.specs.Specifiers.{Tally, nothing, with_word, with_specifier, tally, unsigned_word, is_unsigned, scalar_of, Base, number, other_of, base_of}
use Rattle.l2_tree_names.specs.declared.specifiers.NumberWords.{NumberWords}
use Rattle.l2_tree_names.specs.Numbers.{no_words, add_word, add_specifier, words_of, number_of}

-- the words say of a tally what matters
pub record Says (u : Bool) (t : Tally) (w : NumberWords) : Type 0 where
  pub unsigned : w.is_unsigned ≡ u
  pub char : w.is_char ≡ leb 1 t.chars
  pub short : w.is_short ≡ leb 1 t.shorts
  pub long : w.is_long ≡ leb 1 t.longs
  pub long_long : w.is_long_long ≡ leb 2 t.longs

twice : (n : ℕ) → (leb 1 n || leb 2 n) ≡ leb 2 (suc n)
twice zero = refl
twice (suc zero) = refl
twice (suc (suc n)) = ap (λ b. b || leb 2 (suc (suc n))) (le-leb 1 (suc (suc n)) (omega arith)) ∙ sym (le-leb 2 (suc (suc (suc n))) (omega arith))

one : (n : ℕ) → true ≡ leb 1 (suc n)
one n = sym (le-leb 1 (suc n) (omega arith))

says_word : (v : SpecifierWord) (p : Place) (u : Bool) (t : Tally) (w : NumberWords) → Says u t w → Says (unsigned_word (Word v p) || u) (with_word v t) (add_word v w)
says_word word.Unsigned p u t w i = record { unsigned = refl; char = i.char; short = i.short; long = i.long; long_long = i.long_long }
says_word word.Char p u t w i = record { unsigned = i.unsigned; char = one t.chars; short = i.short; long = i.long; long_long = i.long_long }
says_word word.Short p u t w i = record { unsigned = i.unsigned; char = i.char; short = one t.shorts; long = i.long; long_long = i.long_long }
says_word word.Long p u t w i = record { unsigned = i.unsigned; char = i.char; short = i.short; long = one t.longs; long_long = ap (λ b. b || w.is_long_long) i.long ∙ ap (λ b. leb 1 t.longs || b) i.long_long ∙ twice t.longs }
says_word v p u t w i = record { unsigned = i.unsigned; char = i.char; short = i.short; long = i.long; long_long = i.long_long }

says_specifier : (x : SpecifierTree) (u : Bool) (t : Tally) (w : NumberWords) → Says u t w → Says (unsigned_word x || u) (with_specifier x t) (add_specifier x w)
says_specifier (Word v p) u t w i = says_word v p u t w i
says_specifier x u t w i = record { unsigned = i.unsigned; char = i.char; short = i.short; long = i.long; long_long = i.long_long }

or_false : (b : Bool) → (b || false) ≡ b
or_false true = refl
or_false false = refl

says_first : (x : SpecifierTree) → Says (unsigned_word x) (with_specifier x nothing) (add_specifier x no_words)
says_first x = go (unsigned_word x || false) (or_false (unsigned_word x)) (says_specifier x false nothing no_words (record { unsigned = refl; char = refl; short = refl; long = refl; long_long = refl }))
  where
    go : (b : Bool) → b ≡ unsigned_word x → Says b (with_specifier x nothing) (add_specifier x no_words) → Says (unsigned_word x) (with_specifier x nothing) (add_specifier x no_words)
    go b e i = record { unsigned = i.unsigned ∙ e; char = i.char; short = i.short; long = i.long; long_long = i.long_long }

says : (xs : SpecifierTrees) → Says (is_unsigned xs) (tally xs) (words_of xs)
says (first_specifier x) = says_first x
says (and_specifier xs x) = says_specifier x (is_unsigned xs) (tally xs) (words_of xs) (says xs)

number_said : (u : Bool) (t : Tally) (w : NumberWords) → Says u t w → number_of w ≡ scalar_of u t
number_said u t w i = rw i.unsigned rw i.char rw i.short rw i.long rw i.long_long refl

-- where no specifier names a type by itself
pub base_number : (xs : SpecifierTrees) → None ≡ other_of xs → number (number_of (words_of xs)) ≡ base_of xs
base_number xs e = ap number (number_said (is_unsigned xs) (tally xs) (words_of xs) (says xs)) ∙ ap (λ o. some_or o (λ b. b) (number (scalar_of (is_unsigned xs) (tally xs)))) e

pub base_other : (xs : SpecifierTrees) (b : Base) → Some b ≡ other_of xs → b ≡ base_of xs
base_other xs b e = ap (λ o. some_or o (λ z. z) (number (scalar_of (is_unsigned xs) (tally xs)))) e

pub ruleset numbers = (base_number, base_other)
