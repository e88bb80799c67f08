-- What gates are: their values in a model of the clauses, and that each model goes on.
use Rattle.std.specs.Prelude.{◌≡◌, ℕ, Bool, true, not}
use Rattle.l2_gates.specs.Gates.{Lit, Made, and, or, xor, mux}
use Rattle.l2_gates.specs.Models.{both, differ, chosen, value, Gives, Below, Sound, Makes}

-- in each model of its clauses in which variable 1 is true a gate has its value
pub record GatesGive (v : ℕ → Bool) (m : Made) : Type 0 where
  pub ands : (a b : Lit) → Gives v m (both (value v a) (value v b)) (and a b m)
  pub ors : (a b : Lit) → Gives v m (not (both (not (value v a)) (not (value v b)))) (or a b m)
  pub xors : (a b : Lit) → Gives v m (differ (value v a) (value v b)) (xor a b m)
  pub muxes : (c a b : Lit) → Gives v m (chosen (value v c) (value v a) (value v b)) (mux c a b m)

abbrev pub GatesHaveValues : Type 0
GatesHaveValues = (v : ℕ → Bool) → v 0 ≡ true → (m : Made) → GatesGive v m

-- gates over literals that are there are made
pub record GatesAreMade (m : Made) : Type 0 where
  pub ands : (a b : Lit) → Below m.next a → Below m.next b → Makes m (and a b m)
  pub ors : (a b : Lit) → Below m.next a → Below m.next b → Makes m (or a b m)
  pub xors : (a b : Lit) → Below m.next a → Below m.next b → Makes m (xor a b m)
  pub muxes : (c a b : Lit) → Below m.next c → Below m.next a → Below m.next b → Makes m (mux c a b m)

abbrev pub GatesMake : Type 0
GatesMake = (m : Made) → Sound m → GatesAreMade m
