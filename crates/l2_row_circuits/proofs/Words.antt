-- The words of variables, and components of rankings.
use Rattle.std.proofs.Common.{◌≡◌, ℕ, zero, suc, ◌+◌, ◌-◌, ◌<◌, List, [], ◌∷◌, length, get_or, drop, Some, slice_get, sym, ap, ◌∙◌, arith}
use Rattle.std.proofs.lemmas.List.{drop_more}
use Rattle.std.specs.declared.vec.Vec.{Vec}
use Rattle.std.specs.declared.alloc.Global.{Global}
use Rattle.l2_cnf.specs.declared.lit.Lit as rust
use Rattle.l2_gates.specs.Gates.{Lit, Made, literals_of}
use Rattle.l2_templates.specs.declared.form.Form.{Form}
use Rattle.l2_row_circuits.specs.Words.{words_of}
use Rattle.l2_row_circuits.specs.Rows.{variable_word, component_bit, lower_bit}

at_index : (words : List (Vec rust.Lit Global)) (i : ℕ) (w : Vec rust.Lit Global) → i < length words → w ≡ get_or words i w → literals_of w.items ≡ variable_word (words_of words) (suc i)
at_index [] i w h e = absurd (omega arith)
at_index (x ∷ words) zero w h e = ap (λ y. literals_of y.items) e
at_index (x ∷ words) (suc i) w h e = at_index words i w (omega arith) e

pub word_at : (words : List (Vec rust.Lit Global)) (n i : ℕ) (w : Vec rust.Lit Global) → n ≡ suc i → i < length words → w ≡ get_or words i w → literals_of w.items ≡ variable_word (words_of words) n
word_at words n i w q h e = at_index words i w h e ∙ ap (variable_word (words_of words)) (sym q)

-- an item that is there
pub item_is : {X : Type 0} (xs : List X) (i : ℕ) (x : X) → slice_get xs i ≡ Some x → x ≡ get_or xs i x
item_is [] i x e = cc
item_is (y ∷ xs) zero x e = cc
item_is (y ∷ xs) (suc i) x e = item_is xs i x e

-- one component more
pub one_lower : (forms : List Form) (i : ℕ) (f : Form) (before after : List (List Lit)) (low bit : Lit) (start old new : Made) → i < length forms → f ≡ get_or forms (length forms - (i + 1)) f
    → bit ≡ (component_bit f before after low old).bit → new ≡ (component_bit f before after low old).made
    → lower_bit (drop (length forms - i) forms) before after start ≡ record { bit = low; made = old }
    → lower_bit (drop (length forms - (i + 1)) forms) before after start ≡ record { bit = bit; made = new }
one_lower forms i f before after low bit start old new h is eb em inv =
    let k = length forms - (i + 1) in
    let l : k < length forms = omega arith in
    let q : k + 1 ≡ length forms - i = omega arith in
    ap (λ fs. lower_bit fs before after start) (drop_more forms k f l ∙ ap (λ y. y ∷ drop (k + 1) forms) (sym is))
    ∙ ap (λ r. component_bit f before after r.bit r.made) (ap (λ n. lower_bit (drop n forms) before after start) q ∙ inv)
    ∙ (λ j. record { bit = sym eb j; made = sym em j })
