-- The step of a computation, by its operands.
use Rattle.std.proofs.Common.{arith, ◌≡◌, refl, Some, None}
use Rattle.l2_code.specs.declared.action.Operand.{Operand}
use Rattle.l2_code.specs.declared.action.Test.{Test}
use Rattle.l2_code.specs.declared.action.Test.TheVariants as test
use Rattle.l2_code.specs.declared.action.Computation.{Computation}
use Rattle.l2_code.specs.declared.action.Computation.TheVariants.{Numbers, Convert, Move, Pointers, Passes}
use Rattle.l2_code.specs.Sets.{may_be}
use Rattle.l2_ssa.specs.Steps as steps
use Rattle.l2_ssa.specs.Walks.{Setting, Walk, now, flags_of, compute_step}
use Rattle.l2_ssa.specs.Views.{computed}
use Rattle.l2_walker.specs.Parts.{left_of, right_of, live_test, live_pointer}

pub test_step : (g : Setting) (w : Walk) (t : Test) → live_test t ≡ None → compute_step g w (Passes t) ≡ computed g.family w.path (Passes t) (now w (left_of (Passes t))) (now w (right_of (Passes t)))
test_step g w (test.Division ty a b) e = refl
test_step g w (test.Shift ty a) e = refl
test_step g w (test.Overflow op ty a b) e = refl
test_step g w (test.Index n a) e = refl
test_step g w (test.IndexEnd n a) e = refl
test_step g w (test.Null a) e = refl
test_step g w (test.Invalid a) e = refl
test_step g w (test.Live a) e = absurd (grind (arith, e))
test_step g w (test.Cells n a) e = refl
test_step g w (test.Move by a b) e = refl
test_step g w (test.Same a b) e = refl

pub plain_step : (g : Setting) (w : Walk) (c : Computation) → live_pointer c ≡ None → compute_step g w c ≡ computed g.family w.path c (now w (left_of c)) (now w (right_of c))
plain_step g w (Numbers op ty a b) e = refl
plain_step g w (Convert ty a) e = refl
plain_step g w (Move by a b) e = refl
plain_step g w (Pointers op a b) e = refl
plain_step g w (Passes t) e = test_step g w t e

pub live_step : (g : Setting) (w : Walk) (c : Computation) (p : Operand) → live_pointer c ≡ Some p → compute_step g w c ≡ steps.Alive w.path (now w p) (flags_of (may_be g.family p) w.slots 1 g.objects)
live_step g w (Numbers op ty a b) p e = absurd (grind (arith, e))
live_step g w (Convert ty a) p e = absurd (grind (arith, e))
live_step g w (Move by a b) p e = absurd (grind (arith, e))
live_step g w (Pointers op a b) p e = absurd (grind (arith, e))
live_step g w (Passes (test.Division ty a b)) p e = absurd (grind (arith, e))
live_step g w (Passes (test.Shift ty a)) p e = absurd (grind (arith, e))
live_step g w (Passes (test.Overflow op ty a b)) p e = absurd (grind (arith, e))
live_step g w (Passes (test.Index n a)) p e = absurd (grind (arith, e))
live_step g w (Passes (test.IndexEnd n a)) p e = absurd (grind (arith, e))
live_step g w (Passes (test.Null a)) p e = absurd (grind (arith, e))
live_step g w (Passes (test.Invalid a)) p e = absurd (grind (arith, e))
live_step g w (Passes (test.Live a)) p e = λ i. steps.Alive w.path (now w (same i)) (flags_of (may_be g.family (same i)) w.slots 1 g.objects)
  where
    same : a ≡ p
    same = grind (arith, e)
live_step g w (Passes (test.Cells n a)) p e = absurd (grind (arith, e))
live_step g w (Passes (test.Move by a b)) p e = absurd (grind (arith, e))
live_step g w (Passes (test.Same a b)) p e = absurd (grind (arith, e))
