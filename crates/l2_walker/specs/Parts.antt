-- The operands of a computation, one by one.
use Rattle.std.specs.Prelude.{Option, Some, None}
use Rattle.l2_code.specs.declared.action.Operand.{Operand}
use Rattle.l2_code.specs.declared.action.Test.{Test}
use Rattle.l2_code.specs.declared.action.Test.TheVariants as test
use Rattle.l2_code.specs.declared.action.Computation.{Computation}
use Rattle.l2_code.specs.declared.action.Computation.TheVariants.{Numbers, Convert, Move, Pointers, Passes}
use Rattle.l2_ssa.specs.Walks.{F}

abbrev pub test_left : Test → Operand
test_left (test.Division ty a b) = a
test_left (test.Shift ty a) = a
test_left (test.Overflow op ty a b) = a
test_left (test.Index n a) = a
test_left (test.IndexEnd n a) = a
test_left (test.Null a) = a
test_left (test.Invalid a) = a
test_left (test.Live a) = a
test_left (test.Cells n a) = a
test_left (test.Move by a b) = a
test_left (test.Same a b) = a

-- the second operand, or 0 where there is but one
abbrev pub test_right : Test → Operand
test_right (test.Division ty a b) = b
test_right (test.Shift ty a) = F
test_right (test.Overflow op ty a b) = b
test_right (test.Index n a) = F
test_right (test.IndexEnd n a) = F
test_right (test.Null a) = F
test_right (test.Invalid a) = F
test_right (test.Live a) = F
test_right (test.Cells n a) = F
test_right (test.Move by a b) = b
test_right (test.Same a b) = b

abbrev pub left_of : Computation → Operand
left_of (Numbers op ty a b) = a
left_of (Convert ty a) = a
left_of (Move by a b) = a
left_of (Pointers op a b) = a
left_of (Passes t) = test_left t

abbrev pub right_of : Computation → Operand
right_of (Numbers op ty a b) = b
right_of (Convert ty a) = F
right_of (Move by a b) = b
right_of (Pointers op a b) = b
right_of (Passes t) = test_right t

-- the pointer of whose object it is asked whether it is live
abbrev pub live_test : Test → Option Operand
live_test (test.Division ty a b) = None
live_test (test.Shift ty a) = None
live_test (test.Overflow op ty a b) = None
live_test (test.Index n a) = None
live_test (test.IndexEnd n a) = None
live_test (test.Null a) = None
live_test (test.Invalid a) = None
live_test (test.Live a) = Some a
live_test (test.Cells n a) = None
live_test (test.Move by a b) = None
live_test (test.Same a b) = None

abbrev pub live_pointer : Computation → Option Operand
live_pointer (Numbers op ty a b) = None
live_pointer (Convert ty a) = None
live_pointer (Move by a b) = None
live_pointer (Pointers op a b) = None
live_pointer (Passes t) = live_test t
