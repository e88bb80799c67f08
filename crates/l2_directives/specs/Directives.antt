-- Lines that begin with `#`.
use Rattle.std.specs.Prelude.{ℕ, ◌+◌, ◌-◌, Bool, true, false, not, cond, ◌==◌, ◌||◌, ◌&&◌, Option, None, Some, List, [], ◌∷◌, codes, take, drop}
use Rattle.std.specs.Str.{bytes_eq}
use Rattle.l2_pieces.specs.declared.piece.PieceKind.{PieceKind}
use Rattle.l2_pieces.specs.declared.piece.PieceKind.TheVariants as kind
use Rattle.l2_pieces.specs.declared.piece.Piece.{Piece}
use Rattle.l2_pieces.specs.Pieces.{bytes_of}
use Rattle.l2_directives.specs.declared.constant.Constant.{Constant}
use Rattle.l2_directives.specs.declared.role.Shape.{Shape}
use Rattle.l2_directives.specs.declared.role.Shape.TheVariants as shape
use Rattle.l2_directives.specs.declared.role.Macro.{Macro}
use Rattle.l2_directives.specs.declared.headers.Header.{Header}
use Rattle.l2_directives.specs.declared.directives.Directive.{Directive}
use Rattle.l2_directives.specs.declared.directives.Directive.TheVariants as directive
use Rattle.l2_directives.specs.Constants.{constant_of}
use Rattle.l2_directives.specs.Words.{word_class, is_name}
use Rattle.l2_directives.specs.Headers.{header_of}

abbrev pub is_spelt : List ℕ → Piece → List ℕ → Bool
is_spelt text x w = bytes_eq (bytes_of text x) w

abbrev pub is_number : PieceKind → Bool
is_number kind.Number = true
is_number k = false

abbrev pub is_word : PieceKind → Bool
is_word kind.Word = true
is_word k = false

abbrev pub shaped : Shape → Option Constant → Option Macro
shaped s None = None
shaped s (Some c) = Some (record { shape = s; constant = c })

-- one constant, with at most one `-` before it and at most one pair of parentheses round it
abbrev pub macro_of : List ℕ → List Piece → Option Macro
macro_of text (n ∷ []) = shaped shape.Bare (constant_of text n)
macro_of text (a ∷ n ∷ []) = cond (is_spelt text a (codes "-")) (shaped shape.Negative (constant_of text n)) None
macro_of text (a ∷ n ∷ z ∷ []) = cond (is_spelt text a (codes "(") && is_spelt text z (codes ")")) (shaped shape.Wrapped (constant_of text n)) None
macro_of text (a ∷ b ∷ n ∷ z ∷ []) =
    cond (is_spelt text a (codes "(") && is_spelt text b (codes "-") && is_spelt text z (codes ")")) (shaped shape.WrappedNegative (constant_of text n))
    (cond (is_spelt text a (codes "-") && is_spelt text b (codes "(") && is_spelt text z (codes ")")) (shaped shape.NegativeWrapped (constant_of text n)) None)
macro_of text body = None

abbrev pub define_as : Piece → Option Macro → Directive
define_as n None = directive.Unknown
define_as n (Some m) = directive.Define n m

-- a parenthesis directly behind the name, as a macro with parameters has it
abbrev pub opens_behind : List ℕ → Piece → List Piece → Bool
opens_behind text n [] = false
opens_behind text n (x ∷ body) = is_spelt text x (codes "(") && x.place.offset == n.place.offset + n.length

-- what stands behind `define`
abbrev pub define : List ℕ → List Piece → Directive
define text [] = directive.Unknown
define text (n ∷ body) = cond (is_word n.kind && is_name (word_class (bytes_of text n)) && not (opens_behind text n body)) (define_as n (macro_of text body)) directive.Unknown

abbrev pub last_of : Piece → List Piece → Piece
last_of x [] = x
last_of x (y ∷ line) = last_of y line

-- the bytes from a piece to the end of another
abbrev pub bytes_from : List ℕ → Piece → Piece → List ℕ
bytes_from text x y = take (y.place.offset + y.length - x.place.offset) (drop x.place.offset text)

abbrev pub include_header : Option Header → Directive
include_header None = directive.Unknown
include_header (Some h) = directive.Include h

-- what stands behind `include`
abbrev pub include : List ℕ → List Piece → Directive
include text [] = directive.Unknown
include text (x ∷ line) = include_header (header_of (bytes_from text x (last_of x line)))

-- a line marker, `#line` or `#pragma`
abbrev pub is_marker : List ℕ → Piece → Bool
is_marker text x = is_number x.kind || is_spelt text x (codes "line") || is_spelt text x (codes "pragma")

-- what the pieces behind `#` on its line say
abbrev pub directive_of : List ℕ → List Piece → Directive
directive_of text [] = directive.Unknown
directive_of text (x ∷ line) =
    cond (is_marker text x) directive.Passed
    (cond (is_spelt text x (codes "include")) (include text line)
    (cond (is_spelt text x (codes "define")) (define text line) directive.Unknown))
