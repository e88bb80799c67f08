-- Circuits over literals that are there are made: their literals are there, and each model of the clauses before goes on to one of
-- all clauses.
use Rattle.std.specs.Prelude.{ℕ, Bool, ℤ, List}
use Rattle.l2_gates.specs.Gates.{Lit, Made}
use Rattle.l2_gates.specs.Models.{Below, AllBelow, Sound, Extends, Makes}
use Rattle.l2_circuits.specs.Words.{Word, less, less_equal, eq, choose, sum, sub, ands, ors, xors, convert, extended, constant}
use Rattle.l2_circuits.specs.Products.{mul, Divided, quotients}
use Rattle.l2_circuits.specs.Shifts.{shift_left, shift_right}
use Rattle.l2_circuit_laws.specs.Law.{MakesSum}

pub record MakesWord (m : Made) (w : Word) : Type 0 where
  pub bits : AllBelow w.made.next w.bits
  pub extends : Extends m w.made

pub record MakesDivided (m : Made) (d : Divided) : Type 0 where
  pub quotient : AllBelow d.made.next d.quotient
  pub rest : AllBelow d.made.next d.rest
  pub extends : Extends m d.made

-- circuits of two words
pub record TwoWordsMake (m : Made) (a b : List Lit) : Type 0 where
  pub ands : MakesWord m (ands a b m)
  pub ors : MakesWord m (ors a b m)
  pub xors : MakesWord m (xors a b m)
  pub choices : (c : Lit) → Below m.next c → MakesWord m (choose c a b m)
  pub sums : (c : Lit) → Below m.next c → MakesSum m (sum a b c m)
  pub differences : MakesSum m (sub a b m)
  pub less : (signed : Bool) → Makes m (less signed a b m)
  pub less_equal : (signed : Bool) → Makes m (less_equal signed a b m)
  pub equal : Makes m (eq a b m)
  pub products : MakesWord m (mul a b m)
  pub quotients : (signed : Bool) → MakesDivided m (quotients signed a b m)
  pub shifts_left : MakesWord m (shift_left a b m)
  pub shifts_right : (signed : Bool) → MakesWord m (shift_right signed a b m)
  pub conversions : (width : ℕ) (signed : Bool) → MakesWord m (convert width signed a m)

abbrev pub CircuitsMake : Type 0
CircuitsMake = (m : Made) → Sound m → (a b : List Lit) → AllBelow m.next a → AllBelow m.next b → TwoWordsMake m a b

-- words without gates
abbrev pub ConstantsAreBelow : Type 0
ConstantsAreBelow = (m : Made) → Sound m → (n : ℕ) (x : ℤ) → AllBelow m.next (constant n x)

abbrev pub ExtensionsAreBelow : Type 0
ExtensionsAreBelow = (m : Made) → Sound m → (n : ℕ) (signed : Bool) (a : List Lit) → AllBelow m.next a → AllBelow m.next (extended n signed a)
