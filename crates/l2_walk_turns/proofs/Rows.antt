-- Rows and cells one by one.
use Rattle.std.proofs.Common.{arith, ◌≡◌, ℕ, zero, suc, ◌+◌, ◌-◌, ◌<◌, refl, subst, List, ◌∷◌}
use Rattle.l2_runs.specs.declared.cells.CellType.{CellType}
use Rattle.l2_code.specs.declared.action.Operand.{Operand}
use Rattle.l2_ssa.specs.Walks.{nothing, past, head_rows, end_rows, scatter, scatter_cells, scatter_one}
use Rattle.l2_walker.specs.Made.{State, setting, put, moved, written}
use Rattle.l2_walker.proofs.States.{moved_joined}

abbrev headed : State → Operand → Operand → ℕ → ℕ → ℕ → State
headed s p b l i n = written s (head_rows (setting s) p b l i n s.names s.walk)

pub head_more : (s : State) (p b : Operand) (l i n : ℕ) → 0 < n
    → written s (head_rows (setting s) p b l i n s.names s.walk)
    ≡ (let x = written s (head_rows (setting s) p b l i (suc zero) s.names s.walk) in written x (head_rows (setting x) p b l (i + 1) (n - 1) x.names x.walk))
head_more s p b l i zero h = absurd (omega (arith, h))
head_more s p b l i (suc n) h =
    subst (λ k. headed s p b l i (suc n) ≡ headed (headed s p b l i (suc zero)) p b l (i + 1) k) (omega arith)
    (subst (λ j. headed s p b l i (suc n) ≡ headed (headed s p b l i (suc zero)) p b l j n) (omega arith) refl)

abbrev ended : State → Operand → Operand → ℕ → ℕ → ℕ → State
ended s p c l i n = put s (end_rows (setting s) p c l i n s.names s.walk)

pub end_more : (s : State) (p c : Operand) (l i n : ℕ) → 0 < n
    → put s (end_rows (setting s) p c l i n s.names s.walk)
    ≡ (let x = put s (end_rows (setting s) p c l i (suc zero) s.names s.walk) in put x (end_rows (setting x) p c l (i + 1) (n - 1) x.names x.walk))
end_more s p c l i zero h = absurd (omega (arith, h))
end_more s p c l i (suc n) h =
    subst (λ k. ended s p c l i (suc n) ≡ ended (ended s p c l i (suc zero)) p c l (i + 1) k) (omega arith)
    (subst (λ j. ended s p c l i (suc n) ≡ ended (ended s p c l i (suc zero)) p c l j n) (omega arith) refl)

pub cells_more : (s : State) (p b : Operand) (o f : ℕ) (t : CellType) (ts : List CellType)
    → moved s (scatter_cells (setting s) p b o f (t ∷ ts) s.names s.walk)
    ≡ (let x = moved s (scatter_one (setting s) p b o f t s.names s.walk) in moved x (scatter_cells (setting x) p b o (suc f) ts x.names x.walk))
cells_more s p b o f t ts =
    let x = scatter_one (setting s) p b o f t s.names s.walk in
    moved_joined s nothing x (scatter_cells (setting s) p b o (suc f) ts (past s.names x.steps) x.after)

pub scatter_more : (s : State) (p b : Operand) (o : ℕ) (os : List ℕ)
    → moved s (scatter (setting s) p b (o ∷ os) s.names s.walk)
    ≡ (let x = moved s (scatter_cells (setting s) p b o 0 ((setting s).types.objects o) s.names s.walk) in moved x (scatter (setting x) p b os x.names x.walk))
scatter_more s p b o os =
    let x = scatter_cells (setting s) p b o 0 ((setting s).types.objects o) s.names s.walk in
    moved_joined s nothing x (scatter (setting s) p b os (past s.names x.steps) x.after)
