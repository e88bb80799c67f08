-- What it means that a text is cut into pieces.
use Rattle.std.specs.Prelude.{◌≡◌, ◌≤◌, ◌+◌, ◌==◌, ℕ, true, cond, List, [], ◌∷◌, length, take, drop}
use Rattle.std.specs.List.{filter}
use Rattle.l2_syntax.specs.declared.place.Place.{Place}
use Rattle.l2_pieces.specs.declared.piece.Piece.{Piece}
use Rattle.l2_pieces.specs.Pieces.{behind_all, first_place, is_fault, is_solid, pieces}

-- The pieces of a text that stands at a place: each has at least one byte and begins where the one before it ends, and they
-- reach to the end of the text or to a fault, which is the last.
pub data Covers : Place → List ℕ → List Piece → Type 0 where
  end : (p : Place) → Covers p [] []
  fault : (text : List ℕ) (x : Piece) → is_fault x.kind ≡ true → Covers x.place text (x ∷ [])
  piece : (text : List ℕ) (x : Piece) (more : List Piece) → 1 ≤ x.length → x.length ≤ length text → Covers (behind_all (take x.length text) x.place) (drop x.length text) more → Covers x.place text (x ∷ more)

-- how many LFs a text has
abbrev pub line_ends : List ℕ → ℕ
line_ends [] = 0
line_ends (b ∷ text) = cond (b == 10) 1 0 + line_ends text

-- how many bytes stand behind the last LF, where n stand before the text on its line
abbrev pub last_line : List ℕ → ℕ → ℕ
last_line [] n = n
last_line (b ∷ text) n = last_line text (cond (b == 10) 0 (n + 1))

-- the place behind a text: its offset counts bytes, its line the LFs, and its column the bytes behind the last LF
abbrev pub place_behind : List ℕ → Place
place_behind text = record { offset = length text; line = 1 + line_ends text; col = 1 + last_line text 0 }

abbrev pub CutLaw : Type 0
CutLaw = (text : List ℕ) → (all : List Piece) × Covers first_place text all × (pieces text ≡ filter is_solid all)

abbrev pub PlaceLaw : Type 0
PlaceLaw = (text : List ℕ) → behind_all text first_place ≡ place_behind text
