-- Turns of one loop, on all of which one form falls, and no other one moves.
use Rattle.std.specs.Prelude.{◌≡◌, ℕ, Bool, false, List, [], Contains}
use Rattle.std.proofs.Common.{subst, arith}
use Rattle.l2_templates.specs.declared.form.Form.{Form}

abbrev pub Falls : ℕ → Form → ℕ → List Form → Form → Bool → Type 0
Falls at form l fs f up = (l ≡ at) × (fs ≡ []) × (f ≡ form) × (up ≡ false)

pub falls_alone : (at : ℕ) (form : Form) (l : ℕ) (fs : List Form) (f : Form) (up : Bool) → Contains fs f → ¬ Falls at form l fs f up
falls_alone at form l fs f up h m = let k = subst (λ xs. Contains xs f) m.1 h in absurd (omega (arith, k.1))
