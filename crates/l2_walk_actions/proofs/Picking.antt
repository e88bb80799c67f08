-- Reads and writes through pointers, cell by cell.
use Rattle.std.proofs.Common.{◌≡◌, ℕ, sym, ap, ◌∙◌, List, ◌∷◌}
use Rattle.l2_runs.specs.declared.cells.CellType.{CellType}
use Rattle.l2_code.specs.declared.action.Operand.{Operand}
use Rattle.l2_code.specs.declared.action.Operand.TheVariants.{Temp}
use Rattle.l2_ssa.specs.Steps.{Pick}
use Rattle.l2_ssa.specs.Walks.{Walk, Place, cell_at, with_cell, read_steps, write_steps}
use Rattle.l2_walker.specs.Made.{State, emitted, extended, standing, written}

pub read_more : (w : Walk) (s s1 : State) (A : Operand) (B : State) (at : Operand) (ty : CellType) (pl : Place) (rest PS : List Place) (v v1 path there : Operand) (o f : ℕ)
    → ((read_steps w at ty PS v s.names).value ≡ A) × (extended s (read_steps w at ty PS v s.names).steps ≡ B) × (s.walk ≡ w) × (path ≡ w.path)
    → PS ≡ pl ∷ rest → o ≡ pl.object → f ≡ pl.offset → there ≡ cell_at s.walk.slots o f → v1 ≡ Temp s.names → s1 ≡ emitted s (Pick path at o f ty there v)
    → ((read_steps w at ty rest v1 s1.names).value ≡ A) × (extended s1 (read_steps w at ty rest v1 s1.names).steps ≡ B) × (s1.walk ≡ w) × (path ≡ w.path)
read_more w s s1 A B at ty pl rest PS v v1 path there o f inv dp eo ef et ev state = (
  (λ i. (read_steps w at ty rest (ev i) ((full i).names)).value) ∙ (λ i. (read_steps w at ty (sym dp i) v s.names).value) ∙ inv.0,
  (λ i. extended (full i) (read_steps w at ty rest (ev i) ((full i).names)).steps) ∙ (λ i. extended s (read_steps w at ty (sym dp i) v s.names).steps) ∙ inv.1,
  ap (λ t. t.walk) full ∙ inv.2,
  inv.3,
)
  where
    here : there ≡ cell_at w.slots pl.object pl.offset
    here = et ∙ (λ i. cell_at (inv.2 i).slots (eo i) (ef i))

    full : s1 ≡ emitted s (Pick w.path at pl.object pl.offset ty (cell_at w.slots pl.object pl.offset) v)
    full = state ∙ (λ i. emitted s (Pick (inv.3 i) at (eo i) (ef i) ty (here i) v))

pub write_more : (s s1 s2 : State) (B : State) (at : Operand) (ty : CellType) (x : Operand) (pl : Place) (rest PS : List Place) (path cell elsewhere : Operand) (o f : ℕ)
    → (written s (write_steps at ty x PS s.names s.walk) ≡ B) × (path ≡ s.walk.path)
    → PS ≡ pl ∷ rest → o ≡ pl.object → f ≡ pl.offset → elsewhere ≡ cell_at s.walk.slots o f → cell ≡ Temp s.names → s1 ≡ emitted s (Pick path at o f ty x elsewhere)
    → s2 ≡ standing s1 (with_cell s1.walk o f cell)
    → (written s2 (write_steps at ty x rest s2.names s2.walk) ≡ B) × (path ≡ s2.walk.path)
write_more s s1 s2 B at ty x pl rest PS path cell elsewhere o f inv dp eo ef ee ec e1 e2 = (
  (λ i. written (full i) (write_steps at ty x rest (full i).names (full i).walk)) ∙ (λ i. written s (write_steps at ty x (sym dp i) s.names s.walk)) ∙ inv.0,
  inv.1 ∙ sym (ap (λ t. t.walk.path) full),
)
  where
    here : elsewhere ≡ cell_at s.walk.slots pl.object pl.offset
    here = ee ∙ (λ i. cell_at s.walk.slots (eo i) (ef i))

    first : s1 ≡ emitted s (Pick s.walk.path at pl.object pl.offset ty x (cell_at s.walk.slots pl.object pl.offset))
    first = e1 ∙ (λ i. emitted s (Pick (inv.1 i) at (eo i) (ef i) ty x (here i)))

    full : s2 ≡ standing (emitted s (Pick s.walk.path at pl.object pl.offset ty x (cell_at s.walk.slots pl.object pl.offset))) (with_cell s.walk pl.object pl.offset (Temp s.names))
    full = e2 ∙ (λ i. standing (first i) (with_cell (first i).walk (eo i) (ef i) (ec i)))
