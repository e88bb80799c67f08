-- Tests on pointers as circuits, over the members of their sets in order: Null, Invalid, and the objects by their numbers.
use Rattle.std.specs.Prelude.{ℕ, suc, ℤ, pos, if◌then◌else◌, List, [], ◌∷◌, ◌++◌, length}
use Rattle.l2_gates.specs.Gates.{Lit, T, F, Made, Bit, negated, known, and, or}
use Rattle.l2_circuits.specs.Words.{constant, eq, ltu, lts, opposite}
use Rattle.l2_runs.specs.declared.cells.CellType.{CellType}
use Rattle.l2_runs.specs.declared.member.Member.{Member}
use Rattle.l2_runs.specs.declared.member.Member.TheVariants.{Null, Invalid, Object}
use Rattle.l2_runs.specs.Fits.{Layout}
use Rattle.l2_runs.specs.Store.{Address}
use Rattle.l2_runs.specs.Members.{has}
use Rattle.l2_code.specs.Values.{begins_with}
use Rattle.l2_pointer_circuits.specs.Words.{selector, half, is_half, at_bit, moved_offset}

-- a literal, or one of these tests, made one after another
abbrev pub any_from : {X : Type 0} → (X → Made → Bit) → List X → Lit → Made → Bit
any_from f [] r m = known r m
any_from f (x ∷ xs) r m =
    let e = f x m in
    let k = or r e.bit e.made in
    any_from f xs k.bit k.made

abbrev pub any : {X : Type 0} → (X → Made → Bit) → List X → Made → Bit
any f xs m = any_from f xs F m

-- the numbers of the objects among members
abbrev pub objects : List Member → List ℕ
objects [] = []
objects (Null ∷ rest) = objects rest
objects (Invalid ∷ rest) = objects rest
objects (Object o ∷ rest) = o ∷ objects rest

-- ---- what a pointer isn't

abbrev pub selector_of : Member → ℕ
selector_of Null = 0
selector_of Invalid = 1
selector_of (Object o) = suc o

-- whether a pointer isn't this; it can't be where its set lacks it
abbrev pub isnt_bit : Member → List Member → List Lit → Made → Bit
isnt_bit x set a m = if has set x then opposite (is_half (selector_of x) (selector a) m) else known T m

-- ---- live flags

-- an object, and the literal that says whether it is live
pub record Flag : Type 0 where
  pub object : ℕ
  pub live : Lit

-- whether a literal is true and no flag of the pointer's object is false
abbrev pub live_from : List Flag → List Lit → Lit → Made → Bit
live_from [] a r m = known r m
live_from (x ∷ rest) a r m =
    let e = is_half (suc x.object) (selector a) m in
    let o = or (negated e.bit) x.live e.made in
    let k = and r o.bit o.made in
    live_from rest a k.bit k.made

abbrev pub live_bit : List Flag → List Lit → Made → Bit
live_bit flags a m = live_from flags a T m

-- ---- cells

abbrev pub place : ℕ → ℕ → Address
place o f = record { object = o; offset = f }

-- the places in an object, from this offset on, at which cells of these types stand
abbrev pub places_from : List CellType → ℕ → ℕ → List CellType → List Address
places_from types o f [] = []
places_from types o f (c ∷ cells) = (if begins_with types (c ∷ cells) then place o f ∷ [] else []) ++ places_from types o (suc f) cells

abbrev pub places : Layout → List CellType → List ℕ → List Address
places cells types [] = []
places cells types (o ∷ os) = places_from types o 0 (cells o) ++ places cells types os

-- whether cells of these types stand at a pointer
abbrev pub cells_bit : Layout → List CellType → List Member → List Lit → Made → Bit
cells_bit cells types set a m = any (λ p. at_bit p a) (places cells types (objects set)) m

-- ---- moves

-- a constant offset in 96 bits
unfoldable pub long : ℕ → List Lit
long k = constant 96 (pos k)

-- whether a pointer is this object's, and an offset lies in the object or one past its end
unfoldable pub within_bit : Layout → List Lit → List Lit → ℕ → Made → Bit
within_bit cells a x o m =
    let s = is_half (suc o) (selector a) m in
    let l = lts x (long 0) s.made in
    let u = lts (long (length (cells o))) x l.made in
    let k = and (negated l.bit) (negated u.bit) u.made in
    and s.bit k.bit k.made

-- whether a pointer may be moved
abbrev pub move_bit : Layout → ℤ → List Member → List Lit → List Lit → Made → Bit
move_bit cells by set a b m =
    let x = moved_offset by a b m in
    any (within_bit cells a x.bits) (objects set) x.made

-- ---- one object

-- whether two pointers are of one object
abbrev pub same_bit : List Lit → List Lit → Made → Bit
same_bit a b m =
    let e = eq (selector a) (selector b) m in
    let n = is_half 0 (selector a) e.made in
    let i = is_half 1 (selector a) n.made in
    let k = and (negated n.bit) (negated i.bit) i.made in
    and e.bit k.bit k.made

-- ---- a selector and an offset of any pointer

-- whether they are those of this member
abbrev pub is_bit : Layout → List Lit → List Lit → Member → Made → Bit
is_bit cells s f Null m = let e = is_half 0 s m in let t = is_half 0 f e.made in and e.bit t.bit t.made
is_bit cells s f Invalid m = let e = is_half 1 s m in let t = is_half 0 f e.made in and e.bit t.bit t.made
is_bit cells s f (Object o) m = let e = is_half (suc o) s m in let t = ltu (half (length (cells o))) f e.made in and e.bit (negated t.bit) t.made

-- whether they are those of a pointer of the set
abbrev pub among_bit : Layout → List Member → List Lit → List Lit → Made → Bit
among_bit cells set s f m = any (is_bit cells s f) set m
