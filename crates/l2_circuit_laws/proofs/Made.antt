-- Circuits that go bit by bit are made.
use Rattle.std.proofs.Common.{List, [], ◌∷◌}
use Rattle.l2_gates.specs.Gates.{Lit, negated, Made, Bit, and, or, xor, mux}
use Rattle.l2_gates.specs.Models.{Below, AllBelow, Sound, Extends, Makes}
use Rattle.l2_gates.proofs.Made.{below_up, all_up, negated_below, ext_refl, ext_then, makes_and, makes_or, makes_xor, makes_mux}
use Rattle.l2_circuits.specs.declared.columns.Kind.{Kind}
use Rattle.l2_circuits.specs.declared.columns.Kind.TheVariants.{And, Or, Xor, Choose, Mask, Add, Equal}
use Rattle.l2_circuits.specs.Words.{Column, column, columns}
use Rattle.l2_circuit_laws.specs.Law.{MakesSum, ColumnsAreMade}

record MakesColumn (m : Made) (k : Column) : Type 0 where
  sum : Below k.made.next k.sum
  carry : Below k.made.next k.carry
  extends : Extends m k.made

-- a literal that was there is there later
later : (m m' : Made) (l : Lit) → Extends m m' → Below m.next l → Below m'.next l
later m m' l x h = below_up m.next m'.next l x.grows h

handed_on : (m : Made) (b : Bit) (c : Lit) → Makes m b → Below m.next c → MakesColumn m (record { sum = b.bit; carry = c; made = b.made })
handed_on m b c g h = record { sum = g.bit; carry = later m b.made c g.extends h; extends = g.extends }

column_made : (m : Made) → Sound m → (kind : Kind) (x y c : Lit) → Below m.next x → Below m.next y → Below m.next c → MakesColumn m (column kind x y c m)
column_made m s And x y c p q r = handed_on m (and x y m) c (makes_and m s x y p q) r
column_made m s Or x y c p q r = handed_on m (or x y m) c (makes_or m s x y p q) r
column_made m s Xor x y c p q r = handed_on m (xor x y m) c (makes_xor m s x y p q) r
column_made m s Choose x y c p q r = handed_on m (mux c x y m) c (makes_mux m s c x y r p q) r
column_made m s Mask x y c p q r = handed_on m (and x c m) c (makes_and m s x c p r) r
column_made m s Add x y c p q r =
    let d = xor x y m in
    let gd = makes_xor m s x y p q in
    let t = xor d.bit c d.made in
    let gt = makes_xor d.made gd.extends.sound d.bit c gd.bit (later m d.made c gd.extends r) in
    let e2 = ext_then m d.made t.made gd.extends gt.extends in
    let u = and x y t.made in
    let gu = makes_and t.made gt.extends.sound x y (later m t.made x e2 p) (later m t.made y e2 q) in
    let e3 = ext_then m t.made u.made e2 gu.extends in
    let w = and d.bit c u.made in
    let gw = makes_and u.made gu.extends.sound d.bit c (later d.made u.made d.bit (ext_then d.made t.made u.made gt.extends gu.extends) gd.bit) (later m u.made c e3 r) in
    let k = or u.bit w.bit w.made in
    let gk = makes_or w.made gw.extends.sound u.bit w.bit (later u.made w.made u.bit gw.extends gu.bit) gw.bit in
    let ek = ext_then u.made w.made k.made gw.extends gk.extends in
    record {
      sum = later t.made k.made t.bit (ext_then t.made u.made k.made gu.extends ek) gt.bit;
      carry = gk.bit;
      extends = ext_then m u.made k.made e3 ek;
    }
column_made m s Equal x y c p q r =
    let d = xor x y m in
    let gd = makes_xor m s x y p q in
    let k = and c (negated d.bit) d.made in
    let gk = makes_and d.made gd.extends.sound c (negated d.bit) (later m d.made c gd.extends r) (negated_below d.made.next d.bit gd.bit) in
    record { sum = later d.made k.made d.bit gk.extends gd.bit; carry = gk.bit; extends = ext_then m d.made k.made gd.extends gk.extends }

pub columns_made : (m : Made) → Sound m → (kind : Kind) (a b : List Lit) (c : Lit) → AllBelow m.next a → AllBelow m.next b → Below m.next c → MakesSum m (columns kind a b c m)
columns_made m s kind [] b c p q r = record { bits = tt; carry = r; extends = ext_refl m s }
columns_made m s kind (x ∷ a) [] c p q r = record { bits = tt; carry = r; extends = ext_refl m s }
columns_made m s kind (x ∷ a) (y ∷ b) c (px, pa) (qy, qb) r =
    let k = column kind x y c m in
    let g = column_made m s kind x y c px qy r in
    let rest = columns_made k.made g.extends.sound kind a b k.carry (all_up m.next k.made.next a g.extends.grows pa) (all_up m.next k.made.next b g.extends.grows qb) g.carry in
    record {
      bits = (later k.made (columns kind a b k.carry k.made).made k.sum rest.extends g.sum, rest.bits);
      carry = rest.carry;
      extends = ext_then m k.made (columns kind a b k.carry k.made).made g.extends rest.extends;
    }

pub columns_are_made : ColumnsAreMade
columns_are_made = columns_made
