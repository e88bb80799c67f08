-- Words that are no names.
use Rattle.std.specs.Prelude.{ℕ, Bool, true, false, cond, Option, None, Some, List, [], ◌∷◌, codes}
use Rattle.std.specs.Str.{bytes_eq}
use Rattle.l2_syntax.specs.declared.token.Mark.{Mark}
use Rattle.l2_syntax.specs.declared.token.Mark.TheVariants as mark
use Rattle.l2_pieces.specs.Punctuators.{Spelling, spelt, mark_in}
use Rattle.l2_directives.specs.declared.words.WordClass.{WordClass}
use Rattle.l2_directives.specs.declared.words.WordClass.TheVariants as class
use Rattle.l2_directives.specs.Constants.{is_among}

-- keywords of C11 and words of compilers that the profile leaves out
abbrev pub refused : List (List ℕ)
refused =
    codes "float" ∷ codes "double" ∷ codes "_Complex" ∷ codes "_Imaginary" ∷ codes "union" ∷ codes "goto" ∷ codes "asm" ∷ codes "__asm" ∷ codes "__asm__"
    ∷ codes "volatile" ∷ codes "restrict" ∷ codes "__restrict" ∷ codes "_Atomic" ∷ codes "_Thread_local" ∷ codes "_Alignas" ∷ codes "_Alignof" ∷ codes "_Generic"
    ∷ codes "_Static_assert" ∷ codes "__int128" ∷ codes "typeof" ∷ codes "__typeof__" ∷ codes "auto" ∷ []

-- words that stand for nothing; `__attribute__` takes its parentheses with it
abbrev pub skipped : List (List ℕ)
skipped = codes "__extension__" ∷ codes "inline" ∷ codes "__inline" ∷ codes "__inline__" ∷ codes "register" ∷ codes "_Noreturn" ∷ []

-- the other keywords of C11 6.4.1
abbrev pub keywords : List Spelling
keywords =
    spelt (codes "_Bool") mark.Bool ∷ spelt (codes "break") mark.Break ∷ spelt (codes "case") mark.Case ∷ spelt (codes "char") mark.Char
    ∷ spelt (codes "const") mark.Const ∷ spelt (codes "continue") mark.Continue ∷ spelt (codes "default") mark.Default ∷ spelt (codes "do") mark.Do
    ∷ spelt (codes "else") mark.Else ∷ spelt (codes "enum") mark.Enum ∷ spelt (codes "extern") mark.Extern ∷ spelt (codes "for") mark.For ∷ spelt (codes "if") mark.If
    ∷ spelt (codes "int") mark.Int ∷ spelt (codes "long") mark.Long ∷ spelt (codes "return") mark.Return ∷ spelt (codes "short") mark.Short
    ∷ spelt (codes "signed") mark.Signed ∷ spelt (codes "sizeof") mark.Sizeof ∷ spelt (codes "static") mark.Static ∷ spelt (codes "struct") mark.Struct
    ∷ spelt (codes "switch") mark.Switch ∷ spelt (codes "typedef") mark.Typedef ∷ spelt (codes "unsigned") mark.Unsigned ∷ spelt (codes "void") mark.Void
    ∷ spelt (codes "while") mark.While ∷ []

abbrev pub keyword_or_name : Option Mark → WordClass
keyword_or_name None = class.Name
keyword_or_name (Some m) = class.Keyword m

abbrev pub word_class : List ℕ → WordClass
word_class w =
    cond (is_among refused w) class.Refused
    (cond (is_among skipped w) class.Skipped
    (cond (bytes_eq w (codes "__attribute__")) class.Attribute
    (keyword_or_name (mark_in keywords w))))

abbrev pub is_name : WordClass → Bool
is_name class.Name = true
is_name c = false

abbrev pub is_refused : WordClass → Bool
is_refused class.Refused = true
is_refused c = false
