-- How a loop of a cut run starts back: the cells that it may change take any values.
use Rattle.std.specs.Prelude.{ℕ, zero, suc, ℤ, pos, negsuc, Bool, true, false, nat_le, List, [], ◌∷◌, length, Option, Some, None}
use Rattle.std.specs.Ordering.{int_eq}
use Rattle.l2_bits.specs.Values.{wrap}
use Rattle.l2_runs.specs.declared.cells.CellType.{CellType}
use Rattle.l2_runs.specs.declared.cells.CellType.TheVariants.{Integer, Pointer}
use Rattle.l2_runs.specs.declared.cells.CellValue.{CellValue}
use Rattle.l2_runs.specs.declared.cells.CellValue.TheVariants.{Number, Null, Invalid, At}
use Rattle.l2_runs.specs.declared.member.Member.{Member}
use Rattle.l2_runs.specs.Store.{Store}
use Rattle.l2_runs.specs.Fits.{Layout}
use Rattle.l2_runs.specs.Members.{is_in}
use Rattle.l2_runs.specs.Runs.{Run, and_then, done, stop, either, choose, write}

-- what is so, or nothing
abbrev pub where_so : CellValue → Bool → Option CellValue
where_so v true = Some v
where_so v false = None

-- the pointer of a selector and an offset: 0 is Null, 1 is Invalid, and from 2 on the object with the number one below,
-- where the offset is from 0 to its cell count
abbrev pub pointer_of : Layout → ℤ → ℤ → Option CellValue
pointer_of cells (pos zero) off = where_so Null (int_eq off (pos 0))
pointer_of cells (pos (suc zero)) off = where_so Invalid (int_eq off (pos 0))
pointer_of cells (pos (suc (suc n))) (pos f) = where_so (At (suc n) f) (nat_le f (length (cells (suc n))))
pointer_of cells (pos (suc (suc n))) (negsuc f) = None
pointer_of cells (negsuc n) off = None

-- goes on with a pointer of this set, and is stopped by any other
abbrev pub on_member : {A : Type 0} → (Member → Bool) → Option CellValue → (CellValue → Run A) → Run A
on_member set None next = stop
on_member set (Some v) next = either (is_in set v) (next v) stop

-- a cell's value by choice: a number of its type, or a pointer of its object's set, by a selector and an offset
abbrev pub any_value : Layout → (Member → Bool) → CellType → Run CellValue
any_value cells set (Integer ty) = and_then choose (λ z. done (Number (wrap ty z)))
any_value cells set Pointer = and_then choose (λ sel. and_then choose (λ off. on_member set (pointer_of cells sel off) done))

abbrev pub scatter_cells : Layout → (Member → Bool) → ℕ → ℕ → List CellType → Run (Unit {0})
scatter_cells cells set o f [] = done tt
scatter_cells cells set o f (t ∷ ts) =
    and_then (any_value cells set t) (λ v. and_then (write (record { object = o; offset = f }) v) (λ u. scatter_cells cells set o (suc f) ts))

-- each cell of these objects takes any value, by object and offset
abbrev pub scatter : Layout → (ℕ → Member → Bool) → List ℕ → Run (Unit {0})
scatter cells sets [] = done tt
scatter cells sets (o ∷ os) = and_then (scatter_cells cells (sets o) o 0 (cells o)) (λ u. scatter cells sets os)

-- a back start of a loop: the objects that it may change take any values, and it is stopped where its rows don't hold
abbrev pub back : Layout → (ℕ → Member → Bool) → (ℕ → List ℕ) → (ℕ → Store → Bool) → ℕ → Run (Unit {0})
back cells sets mods starts l = and_then (scatter cells sets (mods l)) (λ u s. either (starts l s.store) (done tt) stop s)
