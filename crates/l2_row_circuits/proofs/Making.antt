-- Rows and rankings are made.
use Rattle.std.proofs.Common.{◌==◌, Bool, true, false, if◌then◌else◌, ℤ, Option, Some, None, List, [], ◌∷◌, arith}
use Rattle.l2_gates.specs.Gates.{Lit, T, F, Made, and, or}
use Rattle.l2_gates.specs.Models.{Below, AllBelow, Sound, Extends, Makes}
use Rattle.l2_gates.proofs.Made.{below_up, all_up, negated_below, ext_refl, ext_then, makes_and, makes_or}
use Rattle.l2_templates.specs.declared.form.Form.{Form}
use Rattle.l2_circuits.specs.Words.{Word, sum, lts, eq, zeros, constant}
use Rattle.l2_circuit_laws.specs.Making.{MakesWord}
use Rattle.l2_circuit_laws.proofs.Makings.{circuits_make, constants_are_below}
use Rattle.l2_row_circuits.specs.Rows.{wide, variable_word, signed_word, two_words, form_word, bound_bit, component_bit, lower_bit}
use Rattle.l2_row_circuits.specs.Law.{WordsBelow, RowsAreMade}

false_below : (m : Made) → Sound m → Below m.next F
false_below m s = let h = s.some in omega arith

true_below : (m : Made) → Sound m → Below m.next T
true_below m s = let h = s.some in omega arith

zeros_below : (m : Made) → Sound m → (a : List Lit) → AllBelow m.next (zeros a)
zeros_below m s [] = tt
zeros_below m s (x ∷ a) = (false_below m s, zeros_below m s a)

later_word : (m m' : Made) (a : List Lit) → Extends m m' → AllBelow m.next a → AllBelow m'.next a
later_word m m' a x h = all_up m.next m'.next a x.grows h

later_words : (m m' : Made) (words : List (List Lit)) → Extends m m' → WordsBelow m.next words → WordsBelow m'.next words
later_words m m' words x h = λ i. later_word m m' (variable_word words i) x (h i)

signed_made : (m : Made) → Sound m → (plus : Bool) (a : List Lit) → AllBelow m.next a → MakesWord m (signed_word plus a m)
signed_made m s true a h = record { bits = h; extends = ext_refl m s }
signed_made m s false a h = let g = (circuits_make m s (zeros a) a (zeros_below m s a) h).differences in record { bits = g.bits; extends = g.extends }

form_made : (m : Made) → Sound m → (f : Form) (words : List (List Lit)) → WordsBelow m.next words → MakesWord m (form_word f words m)
form_made m s f words h = go (f.second == 0)
  where
    first : Word
    first = signed_word f.plus (variable_word words f.first) m

    go : (t : Bool) → MakesWord m (if t then first else two_words f words first)
    go true = signed_made m s f.plus (variable_word words f.first) (h f.first)
    go false =
        let g = signed_made m s f.plus (variable_word words f.first) (h f.first) in
        let w = variable_word words f.second in
        let second = signed_word f.second_plus w first.made in
        let gs = signed_made first.made g.extends.sound f.second_plus w (later_word m first.made w g.extends (h f.second)) in
        let e = ext_then m first.made second.made g.extends gs.extends in
        let t = (circuits_make second.made gs.extends.sound first.bits second.bits (later_word first.made second.made first.bits gs.extends g.bits) gs.bits).sums F (false_below second.made gs.extends.sound) in
        record { bits = t.bits; extends = ext_then m second.made (sum first.bits second.bits F second.made).made e t.extends }

bound_made : (o : Option ℤ) (m : Made) → (w : Word) → MakesWord m w → Makes m (bound_bit o w)
bound_made None m w g = record { bit = true_below w.made g.extends.sound; extends = g.extends }
bound_made (Some b) m w g =
    let s = g.extends.sound in
    let l = (circuits_make w.made s (constant wide b) w.bits (constants_are_below w.made s wide b) g.bits).less true in
    let x = lts (constant wide b) w.bits w.made in
    record { bit = negated_below x.made.next x.bit l.bit; extends = ext_then m w.made x.made g.extends l.extends }

component_made : (m : Made) → Sound m → (f : Form) (before after : List (List Lit)) (low : Lit) → WordsBelow m.next before → WordsBelow m.next after → Below m.next low → Makes m (component_bit f before after low m)
component_made m s f before after low hb ha hl =
    let x = form_word f after m in
    let gx = form_made m s f after ha in
    let y = form_word f before x.made in
    let gy = form_made x.made gx.extends.sound f before (later_words m x.made before gx.extends hb) in
    let e2 = ext_then m x.made y.made gx.extends gy.extends in
    let xb = later_word x.made y.made x.bits gy.extends gx.bits in
    let l = lts x.bits y.bits y.made in
    let gl = (circuits_make y.made gy.extends.sound x.bits y.bits xb gy.bits).less true in
    let e3 = ext_then m y.made l.made e2 gl.extends in
    let e = eq x.bits y.bits l.made in
    let ge = (circuits_make l.made gl.extends.sound x.bits y.bits (later_word y.made l.made x.bits gl.extends xb) (later_word y.made l.made y.bits gl.extends gy.bits)).equal in
    let e4 = ext_then m l.made e.made e3 ge.extends in
    let k = and e.bit low e.made in
    let gk = makes_and e.made ge.extends.sound e.bit low ge.bit (below_up m.next e.made.next low e4.grows hl) in
    let e5 = ext_then l.made e.made k.made ge.extends gk.extends in
    let r = or l.bit k.bit k.made in
    let gr = makes_or k.made gk.extends.sound l.bit k.bit (below_up l.made.next k.made.next l.bit e5.grows gl.bit) gk.bit in
    record { bit = gr.bit; extends = ext_then m k.made r.made (ext_then m l.made k.made e3 e5) gr.extends }

lower_made : (m : Made) → Sound m → (fs : List Form) (before after : List (List Lit)) → WordsBelow m.next before → WordsBelow m.next after → Makes m (lower_bit fs before after m)
lower_made m s [] before after hb ha = record { bit = false_below m s; extends = ext_refl m s }
lower_made m s (f ∷ fs) before after hb ha =
    let rest = lower_bit fs before after m in
    let g = lower_made m s fs before after hb ha in
    let r = component_made rest.made g.extends.sound f before after rest.bit (later_words m rest.made before g.extends hb) (later_words m rest.made after g.extends ha) g.bit in
    record { bit = r.bit; extends = ext_then m rest.made (component_bit f before after rest.bit rest.made).made g.extends r.extends }

pub rows_are_made : RowsAreMade
rows_are_made m s = record {
  forms = form_made m s;
  rows = λ r words h. bound_made r.bound m (form_word r.form words m) (form_made m s r.form words h);
  ranks = lower_made m s;
}
