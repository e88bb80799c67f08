-- Circuits of pointers are made.
use Rattle.std.proofs.Common.{ℕ, zero, suc, Bool, true, false, if◌then◌else◌, ℤ, pos, List, [], ◌∷◌, ◌++◌, length, take, drop, arith}
use Rattle.l2_gates.specs.Gates.{Lit, T, F, Made, Bit, negated, and, or, known}
use Rattle.l2_gates.specs.Models.{Below, AllBelow, Sound, Extends, Makes}
use Rattle.l2_gates.proofs.Made.{below_up, all_up, negated_below, ext_refl, ext_then, makes_and, makes_or}
use Rattle.l2_circuits.specs.Words.{resized, truth_word, eq, lts, ltu, sum, choose, opposite}
use Rattle.l2_circuits.specs.Products.{mul}
use Rattle.l2_circuit_laws.specs.Making.{MakesWord}
use Rattle.l2_circuit_laws.proofs.Makings.{circuits_make, constants_are_below}
use Rattle.l2_runs.specs.declared.cells.CellType.{CellType}
use Rattle.l2_runs.specs.declared.cells.CellValue.{CellValue}
use Rattle.l2_runs.specs.declared.cells.CellValue.TheVariants as cell
use Rattle.l2_runs.specs.declared.member.Member.{Member}
use Rattle.l2_runs.specs.declared.member.Member.TheVariants.{Null, Invalid, Object}
use Rattle.l2_runs.specs.Members.{has}
use Rattle.l2_runs.specs.Fits.{Layout}
use Rattle.l2_runs.specs.Store.{Address}
use Rattle.l2_code.specs.declared.action.PointerOperator.{PointerOperator}
use Rattle.l2_code.specs.declared.action.PointerOperator.TheVariants as op
use Rattle.l2_pointer_circuits.specs.Words.{selector, offset, half, pointer_word, is_half, at_bit, pick_word, factor, extended_offset, moved_offset, low_half, moved_word, as_word, operator_word}
use Rattle.l2_pointer_circuits.specs.Tests.{selector_of, isnt_bit, Flag, live_from, places, objects, cells_bit, long, within_bit, move_bit, same_bit, is_bit}
use Rattle.l2_pointer_circuits.specs.Law.{FlagsBelow, PointersAreMade, AmongIsMade, ConstantsAreThere}
use Rattle.l2_pointer_circuits.proofs.Anys.{MadeLater, any_made, each_is}

true_below : (m : Made) → Sound m → Below m.next T
true_below m s = let h = s.some in omega arith

false_below : (m : Made) → Sound m → Below m.next F
false_below m s = let h = s.some in omega arith

take_below : (n k : ℕ) (a : List Lit) → AllBelow n a → AllBelow n (take k a)
take_below n zero a h = tt
take_below n (suc k) [] h = tt
take_below n (suc k) (x ∷ a) (h, hs) = (h, take_below n k a hs)

drop_below : (n k : ℕ) (a : List Lit) → AllBelow n a → AllBelow n (drop k a)
drop_below n zero a h = h
drop_below n (suc k) [] h = h
drop_below n (suc k) (x ∷ a) (h, hs) = drop_below n k a hs

append_below : (n : ℕ) (a b : List Lit) → AllBelow n a → AllBelow n b → AllBelow n (a ++ b)
append_below n [] b h k = k
append_below n (x ∷ a) b (h, hs) k = (h, append_below n a b hs k)

resized_below : (n k : ℕ) (fill : Lit) (a : List Lit) → Below n fill → AllBelow n a → AllBelow n (resized k fill a)
resized_below n zero fill a f h = tt
resized_below n (suc k) fill [] f h = (f, resized_below n k fill [] f tt)
resized_below n (suc k) fill (x ∷ a) f (h, hs) = (h, resized_below n k fill a f hs)

later : (m m' : Made) (l : Lit) → Extends m m' → Below m.next l → Below m'.next l
later m m' l x h = below_up m.next m'.next l x.grows h

later_word : (m m' : Made) (a : List Lit) → Extends m m' → AllBelow m.next a → AllBelow m'.next a
later_word m m' a x h = all_up m.next m'.next a x.grows h

opposite_made : (m : Made) (b : Bit) → Makes m b → Makes m (opposite b)
opposite_made m b g = record { bit = negated_below b.made.next b.bit g.bit; extends = g.extends }

half_below : (m : Made) → Sound m → (k : ℕ) → AllBelow m.next (half k)
unfolding half
half_below m s k = constants_are_below m s 17 (pos k)

long_below : (m : Made) → Sound m → (k : ℕ) → AllBelow m.next (long k)
unfolding long
long_below m s k = constants_are_below m s 96 (pos k)

is_half_made : (m : Made) → Sound m → (k : ℕ) (a : List Lit) → AllBelow m.next a → Makes m (is_half k a m)
is_half_made m s k a h = (circuits_make m s a (half k) h (half_below m s k)).equal

-- two bits, the second made behind the first, and both
both_made : (m : Made) (x y : Bit) → Makes m x → Makes x.made y → Makes m (and x.bit y.bit y.made)
both_made m x y gx gy =
    let k = and x.bit y.bit y.made in
    let gk = makes_and y.made gy.extends.sound x.bit y.bit (later x.made y.made x.bit gy.extends gx.bit) gy.bit in
    record { bit = gk.bit; extends = ext_then m x.made k.made gx.extends (ext_then x.made y.made k.made gy.extends gk.extends) }

at_made : (m : Made) → Sound m → (p : Address) (a : List Lit) → AllBelow m.next a → Makes m (at_bit p a m)
unfolding at_bit
at_made m s p a h =
    let x = is_half (suc p.object) (selector a) m in
    let gx = is_half_made m s (suc p.object) (selector a) (take_below m.next 17 a h) in
    let y = is_half p.offset (offset a) x.made in
    let gy = is_half_made x.made gx.extends.sound p.offset (offset a) (later_word m x.made (offset a) gx.extends (drop_below m.next 17 a h)) in
    both_made m x y gx gy

pick_made : (m : Made) → Sound m → (p : Address) (a x y : List Lit) → AllBelow m.next a → AllBelow m.next x → AllBelow m.next y → MakesWord m (pick_word p a x y m)
pick_made m s p a x y h hx hy =
    let e = at_bit p a m in
    let ge = at_made m s p a h in
    let c = choose e.bit x y e.made in
    let gc = (circuits_make e.made ge.extends.sound x y (later_word m e.made x ge.extends hx) (later_word m e.made y ge.extends hy)).choices e.bit ge.bit in
    record { bits = gc.bits; extends = ext_then m e.made c.made ge.extends gc.extends }

-- ---- moves

factor_below : (m : Made) → Sound m → (by : ℤ) → AllBelow m.next (factor by)
unfolding factor
factor_below m s by = constants_are_below m s 96 by

extended_below : (m : Made) → Sound m → (k : ℕ) (a : List Lit) → AllBelow m.next a → AllBelow m.next (extended_offset k a)
unfolding extended_offset
extended_below m s k a h = resized_below m.next k F (offset a) (false_below m s) (drop_below m.next 17 a h)

offset_made : (m : Made) → Sound m → (by : ℤ) (a b : List Lit) → AllBelow m.next a → AllBelow m.next b → MakesWord m (moved_offset by a b m)
unfolding moved_offset
offset_made m s by a b ha hb =
    let p = mul b (factor by) m in
    let gp = (circuits_make m s b (factor by) hb (factor_below m s by)).products in
    let from = extended_offset 96 a in
    let low = false_below p.made gp.extends.sound in
    let hf = extended_below p.made gp.extends.sound 96 a (later_word m p.made a gp.extends ha) in
    let t = sum p.bits from F p.made in
    let gt = (circuits_make p.made gp.extends.sound p.bits from gp.bits hf).sums F low in
    record { bits = gt.bits; extends = ext_then m p.made t.made gp.extends gt.extends }

low_below : (m : Made) → Sound m → (a : List Lit) → AllBelow m.next a → AllBelow m.next (low_half a)
unfolding low_half
low_below m s a h = resized_below m.next 17 F a (false_below m s) h

moved_made : (m : Made) → Sound m → (by : ℤ) (a b : List Lit) → AllBelow m.next a → AllBelow m.next b → MakesWord m (moved_word by a b m)
moved_made m s by a b ha hb =
    let x = moved_offset by a b m in
    let g = offset_made m s by a b ha hb in
    record {
      bits = append_below x.made.next (selector a) (low_half x.bits) (later_word m x.made (selector a) g.extends (take_below m.next 17 a ha))
          (low_below x.made g.extends.sound x.bits g.bits);
      extends = g.extends;
    }

within_made : (m : Made) → Sound m → (cells : Layout) (a x : List Lit) → AllBelow m.next a → AllBelow m.next x → (o : ℕ) → Makes m (within_bit cells a x o m)
unfolding within_bit
within_made m s cells a x ha hx o =
    let c = length (cells o) in
    let n = is_half (suc o) (selector a) m in
    let gn = is_half_made m s (suc o) (selector a) (take_below m.next 17 a ha) in
    let xn = later_word m n.made x gn.extends hx in
    let l = lts x (long 0) n.made in
    let gl = (circuits_make n.made gn.extends.sound x (long 0) xn (long_below n.made gn.extends.sound 0)).less true in
    let u = lts (long c) x l.made in
    let gu = (circuits_make l.made gl.extends.sound (long c) x (long_below l.made gl.extends.sound c) (later_word n.made l.made x gl.extends xn)).less true in
    let k = and (negated l.bit) (negated u.bit) u.made in
    let gk = both_made n.made (opposite l) (opposite u) (opposite_made n.made l gl) (opposite_made l.made u gu) in
    both_made m n k gn gk

move_made : (m : Made) → Sound m → (cells : Layout) (by : ℤ) (set : List Member) (a b : List Lit) → AllBelow m.next a → AllBelow m.next b → Makes m (move_bit cells by set a b m)
move_made m s cells by set a b ha hb =
    let x = moved_offset by a b m in
    let g = offset_made m s by a b ha hb in
    let test = within_bit cells a x.bits in
    let each = each_is (MadeLater x.made test)
    (λ o m' e. within_made m' e.sound cells a x.bits (later_word x.made m' a e (later_word m x.made a g.extends ha)) (later_word x.made m' x.bits e g.bits) o) (objects set) in
    let r = any_made test x.made x.made (objects set) each (ext_refl x.made g.extends.sound) (false_below x.made g.extends.sound) in
    record { bit = r.bit; extends = ext_then m x.made (move_bit cells by set a b m).made g.extends r.extends }

-- ---- tests

isnt_made : (m : Made) → Sound m → (x : Member) (set : List Member) (a : List Lit) → AllBelow m.next a → Makes m (isnt_bit x set a m)
isnt_made m s x set a h = go (has set x)
  where
    go : (t : Bool) → Makes m (if t then opposite (is_half (selector_of x) (selector a) m) else known T m)
    go true = opposite_made m (is_half (selector_of x) (selector a) m) (is_half_made m s (selector_of x) (selector a) (take_below m.next 17 a h))
    go false = record { bit = true_below m s; extends = ext_refl m s }

flags_later : (m m' : Made) (flags : List Flag) → Extends m m' → FlagsBelow m.next flags → FlagsBelow m'.next flags
flags_later m m' [] x h = tt
flags_later m m' (t ∷ rest) x (h, hs) = (later m m' t.live x h, flags_later m m' rest x hs)

live_made : (m : Made) → Sound m → (flags : List Flag) (a : List Lit) (r : Lit) → AllBelow m.next a → FlagsBelow m.next flags → Below m.next r → Makes m (live_from flags a r m)
live_made m s [] a r ha hf hr = record { bit = hr; extends = ext_refl m s }
live_made m s (t ∷ rest) a r ha (hl, hs) hr =
    let e = is_half (suc t.object) (selector a) m in
    let ge = is_half_made m s (suc t.object) (selector a) (take_below m.next 17 a ha) in
    let o = or (negated e.bit) t.live e.made in
    let go = makes_or e.made ge.extends.sound (negated e.bit) t.live (negated_below e.made.next e.bit ge.bit) (later m e.made t.live ge.extends hl) in
    let x = ext_then m e.made o.made ge.extends go.extends in
    let k = and r o.bit o.made in
    let gk = makes_and o.made go.extends.sound r o.bit (later m o.made r x hr) go.bit in
    let y = ext_then m o.made k.made x gk.extends in
    let g = live_made k.made gk.extends.sound rest a k.bit (later_word m k.made a y ha) (flags_later m k.made rest y hs) gk.bit in
    record { bit = g.bit; extends = ext_then m k.made (live_from rest a k.bit k.made).made y g.extends }

cells_made : (m : Made) → Sound m → (cells : Layout) (types : List CellType) (set : List Member) (a : List Lit) → AllBelow m.next a → Makes m (cells_bit cells types set a m)
cells_made m s cells types set a h =
    let all = places cells types (objects set) in
    any_made (λ p. at_bit p a) m m all (each_is (MadeLater m (λ p. at_bit p a)) (λ p m' e. at_made m' e.sound p a (later_word m m' a e h)) all) (ext_refl m s) (false_below m s)

same_made : (m : Made) → Sound m → (a b : List Lit) → AllBelow m.next a → AllBelow m.next b → Makes m (same_bit a b m)
same_made m s a b ha hb =
    let sa = take_below m.next 17 a ha in
    let e = eq (selector a) (selector b) m in
    let ge = (circuits_make m s (selector a) (selector b) sa (take_below m.next 17 b hb)).equal in
    let n = is_half 0 (selector a) e.made in
    let se = later_word m e.made (selector a) ge.extends sa in
    let gn = is_half_made e.made ge.extends.sound 0 (selector a) se in
    let i = is_half 1 (selector a) n.made in
    let gi = is_half_made n.made gn.extends.sound 1 (selector a) (later_word e.made n.made (selector a) gn.extends se) in
    let k = and (negated n.bit) (negated i.bit) i.made in
    both_made m e k ge (both_made e.made (opposite n) (opposite i) (opposite_made e.made n gn) (opposite_made n.made i gi))

-- ---- operators

truth_below : (m : Made) → Sound m → (l : Lit) → Below m.next l → AllBelow m.next (truth_word l)
truth_below m s l h = resized_below m.next 32 F (l ∷ []) (false_below m s) (h, tt)

word_made : (m : Made) (b : Bit) → Makes m b → MakesWord m (as_word b)
word_made m b g = record { bits = truth_below b.made g.extends.sound b.bit g.bit; extends = g.extends }

operator_made : (m : Made) → Sound m → (o : PointerOperator) (a b : List Lit) → AllBelow m.next a → AllBelow m.next b → MakesWord m (operator_word o a b m)
operator_made m s op.Diff a b ha hb =
    let x = extended_offset 64 a in
    let y = extended_offset 64 b in
    let g = (circuits_make m s x y (extended_below m s 64 a ha) (extended_below m s 64 b hb)).differences in
    record { bits = g.bits; extends = g.extends }
operator_made m s op.Eq a b ha hb = word_made m (eq a b m) (circuits_make m s a b ha hb).equal
operator_made m s op.Ne a b ha hb = word_made m (opposite (eq a b m)) (opposite_made m (eq a b m) (circuits_make m s a b ha hb).equal)
operator_made m s op.Lt a b ha hb =
    word_made m (ltu (offset a) (offset b) m) ((circuits_make m s (offset a) (offset b) (drop_below m.next 17 a ha) (drop_below m.next 17 b hb)).less false)
operator_made m s op.Le a b ha hb =
    let l = ltu (offset b) (offset a) m in
    word_made m (opposite l) (opposite_made m l ((circuits_make m s (offset b) (offset a) (drop_below m.next 17 b hb) (drop_below m.next 17 a ha)).less false))

-- ---- the laws

pub pointers_are_made : PointersAreMade
pointers_are_made m s a h = record {
  not_member = λ x set. isnt_made m s x set a h;
  live = λ flags hf. live_made m s flags a T h hf (true_below m s);
  cells = λ cells types set. cells_made m s cells types set a h;
  places = λ p. at_made m s p a h;
  picks = λ p x y hx hy. pick_made m s p a x y h hx hy;
  moves = λ by b hb. moved_made m s by a b h hb;
  may_move = λ cells by set b hb. move_made m s cells by set a b h hb;
  same = λ b hb. same_made m s a b h hb;
  operators = λ o b hb. operator_made m s o a b h hb;
}

member_made : (m : Made) → Sound m → (cells : Layout) (s f : List Lit) → AllBelow m.next s → AllBelow m.next f → (x : Member) → Makes m (is_bit cells s f x m)
member_made m sound cells s f hs hf Null =
    let e = is_half 0 s m in
    let ge = is_half_made m sound 0 s hs in
    both_made m e (is_half 0 f e.made) ge (is_half_made e.made ge.extends.sound 0 f (later_word m e.made f ge.extends hf))
member_made m sound cells s f hs hf Invalid =
    let e = is_half 1 s m in
    let ge = is_half_made m sound 1 s hs in
    both_made m e (is_half 0 f e.made) ge (is_half_made e.made ge.extends.sound 0 f (later_word m e.made f ge.extends hf))
member_made m sound cells s f hs hf (Object o) =
    let c = half (length (cells o)) in
    let e = is_half (suc o) s m in
    let ge = is_half_made m sound (suc o) s hs in
    let t = ltu c f e.made in
    let gt = (circuits_make e.made ge.extends.sound c f (half_below e.made ge.extends.sound (length (cells o))) (later_word m e.made f ge.extends hf)).less false in
    both_made m e (opposite t) ge (opposite_made e.made t gt)

pub among_is_made : AmongIsMade
among_is_made m sound cells set s f hs hf =
    any_made (is_bit cells s f) m m set
    (each_is (MadeLater m (is_bit cells s f)) (λ x m' e. member_made m' e.sound cells s f (later_word m m' s e hs) (later_word m m' f e hf) x) set)
    (ext_refl m sound) (false_below m sound)

pub constants_are_there : ConstantsAreThere
constants_are_there m s x = go x
  where
    halves : (k j : ℕ) → AllBelow m.next (half k ++ half j)
    halves k j = append_below m.next (half k) (half j) (half_below m s k) (half_below m s j)

    go : (x : CellValue) → AllBelow m.next (pointer_word x)
    go (cell.Number z) = halves 0 0
    go cell.Null = halves 0 0
    go cell.Invalid = halves 1 0
    go (cell.At o f) = halves (suc o) f
