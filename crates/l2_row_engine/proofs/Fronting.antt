-- Points with one more row, loop by loop.
use Rattle.std.proofs.Common.{◌≡◌, ◌≢◌, ℕ, zero, suc, ◌+◌, ◌<◌, List, [], ◌∷◌, ◌++◌, length, take, refl, sym, ap, ◌∙◌, subst}
use Rattle.std.proofs.lemmas.List.{get_or-set_same, get_or-set_other, length-set, take_more}
use Rattle.l2_templates.specs.declared.form.Row.{Row}
use Rattle.l2_templates.specs.declared.point.LoopPoint.{LoopPoint}
use Rattle.l2_templates.specs.declared.point.LoopPoint.TheVariants.{Bottom}
use Rattle.l2_templates.specs.Points.{loop_at}
use Rattle.l2_cuts.specs.Points.{point_at}
use Rattle.l2_front_laws.specs.Front.{in_front, with_front}

pub point_is : (q : List LoopPoint) (l : ℕ) → point_at q (suc l) ≡ loop_at q l
point_is [] l = refl
point_is (p ∷ q) zero = refl
point_is (p ∷ q) (suc l) = point_is q l

pub raised_here : (q : List LoopPoint) (l i : ℕ) (row : Row) → l < length q → i ≡ l → in_front row (loop_at q i) ≡ loop_at (with_front q (suc l) row) i
raised_here q l i row h e =
    ap (λ n. in_front row (loop_at q n)) e ∙ ap (in_front row) (sym (point_is q l)) ∙ sym (get_or-set_same q l (in_front row (point_at q (suc l))) Bottom h) ∙ ap (loop_at (with_front q (suc l) row)) (sym e)

pub raised_else : (q : List LoopPoint) (l i : ℕ) (row : Row) → i ≢ l → loop_at q i ≡ loop_at (with_front q (suc l) row) i
raised_else q l i row ne = sym (get_or-set_other q l i (in_front row (point_at q (suc l))) Bottom ne)

pub raised_length : (q : List LoopPoint) (l : ℕ) (row : Row) → length (with_front q (suc l) row) ≡ length q
raised_length q l row = length-set q l (in_front row (point_at q (suc l)))

pub raised_next : (q : List LoopPoint) (l i : ℕ) (row : Row) (all new : List LoopPoint) (next : LoopPoint) → i < length q → all ≡ take i (with_front q (suc l) row) → next ≡ loop_at (with_front q (suc l) row) i → new ≡ all ++ next ∷ []
    → new ≡ take (i + 1) (with_front q (suc l) row)
raised_next q l i row all new next h a n e =
    e ∙ (λ j. a j ++ n j ∷ []) ∙ sym (take_more (with_front q (suc l) row) i Bottom (subst (λ m. i < m) (sym (raised_length q l row)) h))
