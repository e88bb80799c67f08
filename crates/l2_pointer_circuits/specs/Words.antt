-- Pointers as words of 34 bits: 17 for the selector, and then 17 for the offset. Gates are made in the order in which they stand here.
use Rattle.std.specs.Prelude.{suc, ℕ, ℤ, pos, List, ◌++◌, take, drop}
use Rattle.l2_gates.specs.Gates.{Lit, F, Made, Bit, and}
use Rattle.l2_circuits.specs.Words.{Word, known_word, word_of, resized, constant, sum, sub, eq, ltu, choose, opposite, truth_word}
use Rattle.l2_circuits.specs.Products.{mul}
use Rattle.l2_runs.specs.declared.cells.CellValue.{CellValue}
use Rattle.l2_runs.specs.declared.cells.CellValue.TheVariants.{Number, Null, Invalid, At}
use Rattle.l2_runs.specs.Store.{Address}
use Rattle.l2_code.specs.declared.action.PointerOperator.{PointerOperator}
use Rattle.l2_code.specs.declared.action.PointerOperator.TheVariants.{Diff, Eq, Ne, Lt, Le}

-- ---- halves

abbrev pub selector : List Lit → List Lit
selector a = take 17 a

abbrev pub offset : List Lit → List Lit
offset a = drop 17 a

-- a constant half of a pointer
unfoldable pub half : ℕ → List Lit
half k = constant 17 (pos k)

-- the word of a constant: the selector is 0 for Null, 1 for Invalid, and the number after its own for an object
abbrev pub pointer_word : CellValue → List Lit
pointer_word (Number z) = half 0 ++ half 0
pointer_word Null = half 0 ++ half 0
pointer_word Invalid = half 1 ++ half 0
pointer_word (At o f) = half (suc o) ++ half f

-- whether a half is this number
abbrev pub is_half : ℕ → List Lit → Made → Bit
is_half k a m = eq a (half k) m

-- ---- places

-- whether a pointer is this object's and has this offset
unfoldable pub at_bit : Address → List Lit → Made → Bit
at_bit p a m =
    let s = is_half (suc p.object) (selector a) m in
    let o = is_half p.offset (offset a) s.made in
    and s.bit o.bit o.made

-- the first word where the pointer is at this place, else the second
abbrev pub pick_word : Address → List Lit → List Lit → List Lit → Made → Word
pick_word p a x y m = let e = at_bit p a m in choose e.bit x y e.made

-- ---- moves, by a number of 96 bits times so many cells

-- how many cells one step is, in 96 bits
unfoldable pub factor : ℤ → List Lit
factor by = constant 96 by

-- an offset in so many bits
unfoldable pub extended_offset : ℕ → List Lit → List Lit
extended_offset n a = resized n F (offset a)

-- the offset after a move, in 96 bits
unfoldable pub moved_offset : ℤ → List Lit → List Lit → Made → Word
moved_offset by a b m =
    let p = mul b (factor by) m in
    word_of (sum p.bits (extended_offset 96 a) F p.made)

-- as many of the lowest bits as a half has
unfoldable pub low_half : List Lit → List Lit
low_half a = resized 17 F a

-- a moved pointer keeps its selector, and its offset is cut
abbrev pub moved_word : ℤ → List Lit → List Lit → Made → Word
moved_word by a b m =
    let x = moved_offset by a b m in
    known_word (selector a ++ low_half x.bits) x.made

-- ---- operators on two pointers

-- a truth value of type `int`
abbrev pub as_word : Bit → Word
as_word b = known_word (truth_word b.bit) b.made

abbrev pub operator_word : PointerOperator → List Lit → List Lit → Made → Word
operator_word Diff a b m = word_of (sub (extended_offset 64 a) (extended_offset 64 b) m)
operator_word Eq a b m = as_word (eq a b m)
operator_word Ne a b m = as_word (opposite (eq a b m))
operator_word Lt a b m = as_word (ltu (offset a) (offset b) m)
operator_word Le a b m = as_word (opposite (ltu (offset b) (offset a) m))
