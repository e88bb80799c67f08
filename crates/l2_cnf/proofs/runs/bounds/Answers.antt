use Rattle.std.proofs.Common.{◌≡◌, ◌∙◌, arith, get_or, ◌∷◌, refl, suc, ℕ, List, zero, ◌-◌}
use Rattle.l2_cnf.proofs.Cuts.{part_within}
use Rattle.l2_cnf.proofs.runs.bounds.Goals as goal
use Rattle.l2_cnf.proofs.runs.bounds.Goals.{then-i-eq0, else-i-eq0}

-- the end before
end_before : (xs : List ℕ) (i : ℕ) → (i ≡ 0 → ⊥) → get_or xs (i - 1) 0 ≡ get_or (0 ∷ xs) i 0
end_before xs zero ne = absurd (ne refl)
end_before xs (suc i) ne = grind arith

start_is : (c : goal.After-shared_slice_known-2-1) → c.if-i-eq0.start ≡ get_or (0 ∷ c.args.ends.now) c.args.i 0
start_is c = elim c.if-i-eq0.branch [
  | then-i-eq0 w ↦ (let z : c.args.i ≡ 0 = w.if-i-eq0.true in rw (w.start-is, z) refl)
  | else-i-eq0 w ↦ w.start-is ∙ end_before c.args.ends.now c.args.i w.if-i-eq0.false
]

pub returns : goal.returns
returns c =
    let within = part_within 0 c.args.ends.now c.args.total c.args.i c.requires.ends c.requires.within in
    record { start = start_is c; end = refl; order = rw (start_is c) within.0; total = within.1 }
