-- Circuits that go bit by bit, in a model.
use Rattle.std.proofs.Common.{◌≡◌, ℕ, Bool, true, false, not, refl, sym, ap, ◌∙◌, List, [], ◌∷◌}
use Rattle.l2_gates.specs.Gates.{Lit, negated, Made, and, xor}
use Rattle.l2_gates.specs.Models.{both, some_of, differ, value, Ok}
use Rattle.l2_gates.proofs.Values.{negated_value, and_gives, or_gives, xor_gives, mux_gives}
use Rattle.l2_circuits.specs.declared.columns.Kind.{Kind}
use Rattle.l2_circuits.specs.declared.columns.Kind.TheVariants.{And, Or, Xor, Choose, Mask, Add, Equal}
use Rattle.l2_circuits.specs.Words.{Column, column, columns}
use Rattle.l2_circuit_laws.specs.Values.{values, Handed, column_value, column_values}
use Rattle.l2_circuit_laws.specs.Law.{Adds, ColumnsHaveValues}

or_is : (x y : Bool) → not (both (not x) (not y)) ≡ some_of x y
or_is true y = refl
or_is false true = refl
or_is false false = refl

module _ (v : ℕ → Bool) (truth : v 0 ≡ true) where
  record Gets (m : Made) (k : Column) (h : Handed) : Type 0 where
    before : Ok v m
    sum : value v k.sum ≡ h.sum
    carry : value v k.carry ≡ h.carry

  or_value : (x y : Lit) (m : Made) (b c : Bool) → b ≡ value v x → c ≡ value v y → not (both (not (value v x)) (not (value v y))) ≡ some_of b c
  or_value x y m b c e f = or_is (value v x) (value v y) ∙ ap (λ z. some_of z (value v y)) (sym e) ∙ ap (some_of b) (sym f)

  column_gets : (kind : Kind) (x y c : Lit) (m : Made) → Ok v (column kind x y c m).made → Gets m (column kind x y c m) (column_value kind (value v x) (value v y) (value v c))
  column_gets And x y c m ok = let g = and_gives v truth x y m ok in record { before = g.before; sum = g.is; carry = refl }
  column_gets Or x y c m ok = let g = or_gives v truth x y m ok in record { before = g.before; sum = g.is ∙ or_is (value v x) (value v y); carry = refl }
  column_gets Xor x y c m ok = let g = xor_gives v truth x y m ok in record { before = g.before; sum = g.is; carry = refl }
  column_gets Choose x y c m ok = let g = mux_gives v truth c x y m ok in record { before = g.before; sum = g.is; carry = refl }
  column_gets Mask x y c m ok = let g = and_gives v truth x c m ok in record { before = g.before; sum = g.is; carry = refl }
  column_gets Add x y c m ok =
      let d = xor x y m in
      let s = xor d.bit c d.made in
      let p = and x y s.made in
      let q = and d.bit c p.made in
      let gk = or_gives v truth p.bit q.bit q.made ok in
      let gq = and_gives v truth d.bit c p.made gk.before in
      let gp = and_gives v truth x y s.made gq.before in
      let gs = xor_gives v truth d.bit c d.made gp.before in
      let gd = xor_gives v truth x y m gs.before in
      record {
        before = gd.before;
        sum = gs.is ∙ ap (λ t. differ t (value v c)) gd.is;
        carry = gk.is ∙ or_is (value v p.bit) (value v q.bit) ∙ ap (λ t. some_of t (value v q.bit)) gp.is
            ∙ ap (some_of (both (value v x) (value v y))) (gq.is ∙ ap (λ t. both t (value v c)) gd.is);
      }
  column_gets Equal x y c m ok =
      let d = xor x y m in
      let gk = and_gives v truth c (negated d.bit) d.made ok in
      let gd = xor_gives v truth x y m gk.before in
      record {
        before = gd.before;
        sum = gd.is;
        carry = gk.is ∙ ap (both (value v c)) (negated_value v d.bit ∙ ap not gd.is);
      }

  pub columns_add : (kind : Kind) (a b : List Lit) (c : Lit) (m : Made) → Ok v (columns kind a b c m).made
      → Adds v m (columns kind a b c m) (column_values kind (values v a) (values v b) (value v c))
  columns_add kind [] b c m ok = record { before = ok; bits = refl; carry = refl }
  columns_add kind (x ∷ a) [] c m ok = record { before = ok; bits = refl; carry = refl }
  columns_add kind (x ∷ a) (y ∷ b) c m ok =
      let k = column kind x y c m in
      let r = columns_add kind a b k.carry k.made ok in
      let g = column_gets kind x y c m r.before in
      let h = column_value kind (value v x) (value v y) (value v c) in
      record {
        before = g.before;
        bits = ap (λ z. z ∷ values v (columns kind a b k.carry k.made).bits) g.sum
            ∙ ap (λ zs. h.sum ∷ zs) (r.bits ∙ ap (λ z. (column_values kind (values v a) (values v b) z).bits) g.carry);
        carry = r.carry ∙ ap (λ z. (column_values kind (values v a) (values v b) z).carry) g.carry;
      }

pub columns_have_values : ColumnsHaveValues
columns_have_values = λ v truth kind a b c m ok. columns_add v truth kind a b c m ok
