-- How a text is cut into pieces, each with its place.
use Rattle.std.specs.Prelude.{ℕ, zero, suc, ◌+◌, ◌-◌, Bool, true, false, not, cond, ◌==◌, List, [], ◌∷◌, take, drop}
use Rattle.std.specs.List.{filter}
use Rattle.l2_syntax.specs.declared.place.Place.{Place}
use Rattle.l2_pieces.specs.declared.piece.PieceKind.{PieceKind}
use Rattle.l2_pieces.specs.declared.piece.PieceKind.TheVariants as kind
use Rattle.l2_pieces.specs.declared.piece.Front.{Front}
use Rattle.l2_pieces.specs.declared.piece.Piece.{Piece}
use Rattle.l2_pieces.specs.Fronts.{front}

abbrev pub first_place : Place
first_place = record { offset = 0; line = 1; col = 1 }

-- the place behind a byte: a line ends at LF, and columns count bytes
abbrev pub behind : ℕ → Place → Place
behind b p = record { offset = p.offset + 1; line = cond (b == 10) (p.line + 1) p.line; col = cond (b == 10) 1 (p.col + 1) }

-- the place behind bytes that stand at a place
abbrev pub behind_all : List ℕ → Place → Place
behind_all [] p = p
behind_all (b ∷ text) p = behind_all text (behind b p)

-- white space or a comment
abbrev pub is_blank : PieceKind → Bool
is_blank kind.Blank = true
is_blank k = false

abbrev pub is_fault : PieceKind → Bool
is_fault (kind.Fault rule) = true
is_fault k = false

abbrev pub piece_of : Front → Place → Piece
piece_of f p = record { kind = f.kind; place = p; length = f.length }

-- the pieces of a text that stands at a place, behind n bytes that belong to the piece before; a fault is the last piece
abbrev pub parts : Place → ℕ → List ℕ → List Piece
parts p n [] = []
parts p (suc n) (b ∷ text) = parts (behind b p) n text
parts p zero (b ∷ text) =
    piece_of (front (b ∷ text)) p ∷ cond (is_fault (front (b ∷ text)).kind) [] (parts (behind b p) ((front (b ∷ text)).length - 1) text)

abbrev pub is_solid : Piece → Bool
is_solid x = not (is_blank x.kind)

-- the pieces that aren't white space or comments
abbrev pub pieces : List ℕ → List Piece
pieces text = filter is_solid (parts first_place 0 text)

-- the bytes of a piece
abbrev pub bytes_of : List ℕ → Piece → List ℕ
bytes_of text x = take x.length (drop x.place.offset text)
