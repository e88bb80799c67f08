-- Jumps out of loops, and the names that choices give.
use Rattle.std.proofs.Common.{◌≡◌, ℕ, zero, suc, Bool, true, false, not, refl, ap, ◌∙◌, List, [], ◌∷◌}
use Rattle.std.specs.Prelude.{◌&&◌}
use Rattle.l2_runs.specs.declared.outcome.Outcome.TheVariants.{Stopped}
use Rattle.l2_runs.specs.Runs.{Over, Fallen}
use Rattle.l2_code.specs.declared.action.Operand.{Operand}
use Rattle.l2_code.specs.declared.action.Operand.TheVariants.{Temp}
use Rattle.l2_code.specs.Values.{is_true}
use Rattle.l2_code.specs.Machine.{Way, On, Out}
use Rattle.l2_supply.specs.Supply.{Place, Come, Goes, Ends}
use Rattle.l2_ssa.specs.Steps.{Names, on, Meaning, Solves}
use Rattle.l2_ssa.specs.Walks.{Frame, Block, Last, Early, leave_steps, leave_path}
use Rattle.l2_ssa.proofs.Labels.{bit_on}

module _ (s : Names) where
  -- whether a jump to this depth is let out of the copies round it
  abbrev pub outs_of : List Frame → ℕ → Bool
  outs_of [] n = true
  outs_of (Last ∷ fs) n = outs_of fs n
  outs_of (Early b ∷ fs) n = not (on s b) && outs_of fs n
  outs_of (Block ∷ fs) zero = true
  outs_of (Block ∷ fs) (suc n) = outs_of fs n

  and_assoc : (a b c : Bool) → ((a && b) && c) ≡ (a && (b && c))
  and_assoc true b c = refl
  and_assoc false b c = refl

  and_true : (a : Bool) → a ≡ (a && true)
  and_true true = refl
  and_true false = refl

  pub leave_gives : (m : Meaning) (fs : List Frame) (d : ℕ) (p : Operand) (n : ℕ) → Solves m s n (leave_steps fs d p n) → on s (leave_path fs d p n) ≡ (on s p && outs_of fs d)
  leave_gives m [] d p n ok = and_true (on s p)
  leave_gives m (Last ∷ fs) d p n ok = leave_gives m fs d p n ok
  leave_gives m (Early b ∷ fs) d p n ok =
      leave_gives m fs d (Temp n) (suc n) ok.1
      ∙ ap (λ x. x && outs_of fs d) (ap is_true ok.0 ∙ bit_on (on s p && not (on s b)))
      ∙ and_assoc (on s p) (not (on s b)) (outs_of fs d)
  leave_gives m (Block ∷ fs) zero p n ok = and_true (on s p)
  leave_gives m (Block ∷ fs) (suc d) p n ok = leave_gives m fs d p n ok

-- a jump that isn't let out is stopped
abbrev pub let_out : Bool → ℕ → Place → Come Way
let_out true n p = Goes (Out n) p
let_out false n p = Ends (Over Stopped) p

abbrev pub allow : (ℕ → Bool) → Come Way → Come Way
allow outs (Goes (On t) p) = Goes (On t) p
allow outs (Goes (Out n) p) = let_out (outs n) n p
allow outs (Ends e p) = Ends e p

-- no operator's check breaks unasked
abbrev pub NotStuck : {A : Type 0} → Come A → Type 0
NotStuck (Goes a p) = Unit {0}
NotStuck (Ends (Over o) p) = Unit {0}
NotStuck (Ends (Fallen zero row) p) = ⊥
NotStuck (Ends (Fallen (suc l) row) p) = Unit {0}
