-- What specifiers say: their words of storage, and the type that they name (C11 6.7.1 and 6.7.2).
use Rattle.std.specs.Prelude.{◌≡◌, ℕ, zero, suc, Bool, true, false, cond, ◌&&◌, ◌||◌, eqb, leb, ◌+◌, Option, None, Some, is_none}
use Rattle.l2_syntax.specs.declared.place.Place.{Place}
use Rattle.l2_syntax.specs.declared.token.Scalar.{Scalar}
use Rattle.l2_syntax.specs.declared.token.Scalar.TheVariants as scalar
use Rattle.l2_grammar.specs.declared.states.Sort.{Sort}
use Rattle.l2_grammar.specs.Trees.{Fits}
use Rattle.l2_tree.specs.declared.operators.SpecifierWord.{SpecifierWord}
use Rattle.l2_tree.specs.declared.operators.SpecifierWord.TheVariants as word
use Rattle.l2_tree.specs.Trees.{SpecifierTree, Word, TypeName, SpecifierTrees, first_specifier, and_specifier, DeclaredTrees, Declaration}
use Rattle.l2_tree.specs.Build.{some_or}
use Rattle.l2_tree.specs.Spelling.{run_declaration}

-- how many of each kind of word there are; `others` are `void`, `_Bool`, type names, structs and enums
pub record Tally : Type 0 where
  pub storage : ℕ
  pub signs : ℕ
  pub shorts : ℕ
  pub longs : ℕ
  pub ints : ℕ
  pub chars : ℕ
  pub others : ℕ

abbrev pub nothing : Tally
nothing = record { storage = 0; signs = 0; shorts = 0; longs = 0; ints = 0; chars = 0; others = 0 }

abbrev pub with_word : SpecifierWord → Tally → Tally
with_word word.Static t = record t { storage = suc t.storage }
with_word word.Extern t = record t { storage = suc t.storage }
with_word word.Const t = t
with_word word.Signed t = record t { signs = suc t.signs }
with_word word.Unsigned t = record t { signs = suc t.signs }
with_word word.Short t = record t { shorts = suc t.shorts }
with_word word.Long t = record t { longs = suc t.longs }
with_word word.Int t = record t { ints = suc t.ints }
with_word word.Char t = record t { chars = suc t.chars }
with_word word.Bool t = record t { others = suc t.others }
with_word word.Void t = record t { others = suc t.others }

abbrev pub with_specifier : SpecifierTree → Tally → Tally
with_specifier (Word w p) t = with_word w t
with_specifier x t = record t { others = suc t.others }

abbrev pub tally : SpecifierTrees → Tally
tally (first_specifier x) = with_specifier x nothing
tally (and_specifier xs x) = with_specifier x (tally xs)

-- one other type and no word of a number
abbrev pub is_other : Tally → Bool
is_other t = eqb t.others 1 && (eqb t.signs 0 && (eqb t.shorts 0 && (eqb t.longs 0 && (eqb t.ints 0 && eqb t.chars 0))))

-- the words of one number: `char` with a sign or none; else a sign, `short` or `long` or `long` twice, and `int`, each at most once, and one at least
abbrev pub is_number : Tally → Bool
is_number t = eqb t.others 0 && (leb t.signs 1 && (cond (eqb t.chars 0)
    (leb t.shorts 1 && (leb t.longs 2 && ((eqb t.shorts 0 || eqb t.longs 0) && (leb t.ints 1 && leb 1 (t.signs + (t.shorts + (t.longs + t.ints)))))))
    (eqb t.chars 1 && (eqb t.shorts 0 && (eqb t.longs 0 && eqb t.ints 0)))))

-- one type is named, with at most one word of storage
abbrev pub names_type : Tally → Bool
names_type t = leb t.storage 1 && (is_other t || is_number t)

-- ---- what they name

-- the word of storage among them
abbrev pub storage_word : SpecifierTree → Option SpecifierWord
storage_word (Word word.Static p) = Some word.Static
storage_word (Word word.Extern p) = Some word.Extern
storage_word x = None

abbrev pub storage_of : SpecifierTrees → Option SpecifierWord
storage_of (first_specifier x) = storage_word x
storage_of (and_specifier xs x) = some_or (storage_word x) (λ w. Some w) (storage_of xs)

pub data Base : Type 0 where
  void : Base
  number : Scalar → Base
  type_name : ℕ → Place → Base
  tagged : SpecifierTree → Base  -- a struct or an enum

abbrev pub other : SpecifierTree → Option Base
other (Word word.Void p) = Some void
other (Word word.Bool p) = Some (number scalar.Bool)
other (Word w p) = None
other (TypeName n p) = Some (type_name n p)
other x = Some (tagged x)

abbrev pub other_of : SpecifierTrees → Option Base
other_of (first_specifier x) = other x
other_of (and_specifier xs x) = some_or (other x) (λ b. Some b) (other_of xs)

abbrev pub unsigned_word : SpecifierTree → Bool
unsigned_word (Word word.Unsigned p) = true
unsigned_word x = false

abbrev pub is_unsigned : SpecifierTrees → Bool
is_unsigned (first_specifier x) = unsigned_word x
is_unsigned (and_specifier xs x) = unsigned_word x || is_unsigned xs

-- the number that these words name
abbrev pub scalar_of : Bool → Tally → Scalar
scalar_of u t =
    cond (leb 1 t.chars) (cond u scalar.UChar scalar.Char) (cond (leb 1 t.shorts) (cond u scalar.UShort scalar.Short)
    (cond (leb 2 t.longs) (cond u scalar.ULongLong scalar.LongLong) (cond (leb 1 t.longs) (cond u scalar.ULong scalar.Long) (cond u scalar.UInt scalar.Int))))

-- the type that they name
abbrev pub base_of : SpecifierTrees → Base
base_of xs = some_or (other_of xs) (λ b. b) (number (scalar_of (is_unsigned xs) (tally xs)))

-- ---- laws

abbrev pub is_zero : ℕ → Bool
is_zero zero = true
is_zero (suc n) = false

-- the specifiers of a declaration that may stand somewhere name one type
abbrev pub DeclarationTypeLaw : Type 0
DeclarationTypeLaw = (s : Sort) (xs : SpecifierTrees) (ds : DeclaredTrees) → Fits (run_declaration s (Declaration xs ds)) → names_type (tally xs) ≡ true

-- a type that is no number, and a word of storage, is found where there is one
abbrev pub OtherLaw : Type 0
OtherLaw = (xs : SpecifierTrees) → is_none (other_of xs) ≡ is_zero (tally xs).others

abbrev pub StorageLaw : Type 0
StorageLaw = (xs : SpecifierTrees) → is_none (storage_of xs) ≡ is_zero (tally xs).storage
