-- The entries that arrive at a label.
use Rattle.std.proofs.Common.{arith, length, ◌≡◌, ℕ, zero, suc, refl, List, [], ◌∷◌, ◌++◌}
use Rattle.std.proofs.lemmas.List.{append_assoc}
use Rattle.l2_ssa.specs.Walks.{Entry, merge_if, merge_all, outer, outer_if, past}
use Rattle.l2_walker.specs.Made.{State, setting}
use Rattle.l2_walker.proofs.States.{past_app}
use Rattle.l2_walk_turns.specs.Labels.{landed, arrived, arrived_by}

-- the entry that arrives first, and the others
pub landed_more : (s : State) (e : Entry) (es : List Entry) → landed s (e ∷ es) ≡ landed (arrived s e) es
landed_more s e es = by e.depth
  where
    by : (d : ℕ) → (let m = merge_if (setting s) d e s.names s.walk in
        let r = merge_all (setting s) es (past s.names m.steps) m.walk in
        record s {
          names = past s.names (m.steps ++ r.steps);
          steps = λ rest. s.steps ((m.steps ++ r.steps) ++ rest);
          walk = r.walk;
          entries = λ rest. s.entries (outer_if d e (outer es) ++ rest);
        })
        ≡ landed (arrived_by s d e) es
    by zero =
        let m = merge_if (setting s) zero e s.names s.walk in
        let r = merge_all (setting s) es (past s.names m.steps) m.walk in
        λ i. record s {
          names = past_app s.names m.steps r.steps i;
          steps = λ rest. s.steps (append_assoc m.steps r.steps rest i);
          walk = r.walk;
          entries = λ rest. s.entries (outer es ++ rest);
        }
    by (suc d) = refl

pub nothing_left : (es : List Entry) → 0 ≡ length es → es ≡ []
nothing_left [] e = refl
nothing_left (x ∷ es) e = absurd (omega (arith, e))
