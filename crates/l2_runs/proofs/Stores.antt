-- Stores keep their types where fitting values are written.
use Rattle.std.proofs.Common.{◌≡◌, ℕ, zero, suc, Bool, List, [], ◌∷◌, subst}
use Rattle.std.specs.Prelude.{slice_index_or, slice_set, slice_get}
use Rattle.l2_runs.specs.declared.cells.CellType.{CellType}
use Rattle.l2_runs.specs.declared.cells.CellValue.{CellValue}
use Rattle.l2_runs.specs.Numbers.{set_number}
use Rattle.l2_runs.specs.Store.{Object, Store, Address, or_nothing, object_at, cell_at, with_cell, with_live}
use Rattle.l2_runs.specs.Fits.{Layout, CellFits, CellsFit, FitsAt, StoreFits}

-- what holds of the new object, and of the others already, holds of all
after : (P : ℕ → Object → Type 0) (store : Store) (i : ℕ) (o : Object) → P i o → ((j : ℕ) → P j (or_nothing (slice_get store j))) → (j : ℕ) → P j (or_nothing (slice_get (slice_set store i o) j))
after P [] i o h all j = all j
after P (x ∷ xs) zero o h all zero = h
after P (x ∷ xs) zero o h all (suc j) = all (suc j)
after P (x ∷ xs) (suc i) o h all zero = all zero
after P (x ∷ xs) (suc i) o h all (suc j) = after (λ k. P (suc k)) xs i o h (λ k. all (suc k)) j

-- the cells from an offset on
abbrev pub from : {A : Type 0} → ℕ → List A → List A
from zero xs = xs
from (suc n) [] = []
from (suc n) (x ∷ xs) = from n xs

pub from_next : {A : Type 0} (xs : List A) (f : ℕ) (t : A) (ts : List A) → from f xs ≡ t ∷ ts → from (suc f) xs ≡ ts
from_next [] zero t ts e = cc
from_next [] (suc f) t ts e = cc
from_next (x ∷ xs) zero t ts e = cc
from_next (x ∷ xs) (suc f) t ts e = from_next xs f t ts e

module _ (layout : Layout) where
  pub fits_seam : (types : List CellType) (f : ℕ) (t : CellType) (rest : List CellType) (v : CellValue) → from f types ≡ t ∷ rest → CellFits layout t v → FitsAt layout types f v
  fits_seam [] f t rest v e h = tt
  fits_seam (u ∷ types) zero t rest v e h = subst (λ x. CellFits layout x v) (first u types e) h where
    first : (u : CellType) (types : List CellType) → u ∷ types ≡ t ∷ rest → t ≡ u
    first u types e = cc
  fits_seam (u ∷ types) (suc f) t rest v e h = fits_seam types f t rest v e h

  pub fits_object : (store : Store) (n : ℕ) (o : Object) → StoreFits layout store → CellsFit layout (layout n) o.cells → StoreFits layout (set_number store n o)
  fits_object store zero o f h = f
  fits_object store (suc i) o f h = record { cells = at } where
    at : (m : ℕ) → CellsFit layout (layout m) (object_at (set_number store (suc i) o) m).cells
    at zero = f.cells zero
    at (suc j) = after (λ k x. CellsFit layout (layout (suc k)) x.cells) store i o h (λ k. f.cells (suc k)) j

  pub fits_live : (store : Store) (n : ℕ) (live : Bool) → StoreFits layout store → StoreFits layout (with_live store n live)
  fits_live store n live f = fits_object store n (record (object_at store n) { live = live }) f (f.cells n)

  fits_set : (types : List CellType) (vs : List CellValue) (f : ℕ) (v : CellValue) → CellsFit layout types vs → FitsAt layout types f v → CellsFit layout types (slice_set vs f v)
  fits_set [] [] f v h k = tt
  fits_set [] (w ∷ ws) f v h k = absurd h
  fits_set (t ∷ types) [] f v h k = absurd h
  fits_set (t ∷ types) (w ∷ ws) zero v (p, q) k = (k, q)
  fits_set (t ∷ types) (w ∷ ws) (suc f) v (p, q) k = (p, fits_set types ws f v q k)

  pub fits_cell : (store : Store) (a : Address) (v : CellValue) → StoreFits layout store → FitsAt layout (layout a.object) a.offset v → StoreFits layout (with_cell store a v)
  fits_cell store a v f h =
      fits_object store a.object (record (object_at store a.object) { cells = slice_set (object_at store a.object).cells a.offset v }) f
      (fits_set (layout a.object) (object_at store a.object).cells a.offset v (f.cells a.object) h)

  only_fits : (t : CellType) (types : List CellType) (vs : List CellValue) (d : CellValue) → types ≡ t ∷ [] → CellsFit layout types vs → CellFits layout t (slice_index_or vs 0 d)
  only_fits t [] vs d e h = cc
  only_fits t (u ∷ types) [] d e h = absurd h
  only_fits t (u ∷ types) (v ∷ vs) d e (p, q) = one u types e p where
    one : (u : CellType) (types : List CellType) → u ∷ types ≡ t ∷ [] → CellFits layout u v → CellFits layout t v
    one u types e p = subst (λ x. CellFits layout x v) (first e) p where
      first : u ∷ types ≡ t ∷ [] → u ≡ t
      first e = cc

  -- the cell of an object that has one
  pub fits_read : (store : Store) (n : ℕ) (t : CellType) → StoreFits layout store → layout n ≡ t ∷ [] → CellFits layout t (cell_at store (record { object = n; offset = 0 }))
  fits_read store n t f e = only_fits t (layout n) (object_at store n).cells _ e (f.cells n)
