-- What the loop over k keeps.
use Rattle.std.proofs.Common.{subst}
use Rattle.std.specs.Prelude.{◌≡◌, ℕ, ◌≤◌, Bool, false, IsTrue, MatchOption, Option, Some}
use Rattle.l2_kiki.specs.declared.decision.Mode.{Mode}
use Rattle.l2_kiki.specs.declared.decision.Mode.TheVariants.{Termination}

-- the engine was asked of this k last, and none up to it has an answer
pub record IsAsked {Problem : Type 0} (first now : Problem) (at : ℕ) (halted ranked : Bool) (mode : Mode) (limit k : ℕ) (Open : ℕ → Type 0) : Type 0 where
  pub same : now ≡ first
  pub asked : at ≡ k
  pub going : halted ≡ false
  pub rank : mode ≡ Termination → IsTrue ranked
  pub within : k ≤ limit
  pub open_before : (j : ℕ) → 1 ≤ j → j ≤ k → Open j

pub of_some : {A : Type 0} (x : Option A) (v : A) (N : Type 0) (S : A → Type 0) → MatchOption x N S → x ≡ Some v → S v
of_some x v N S h e = subst (λ o. MatchOption o N S) e h
