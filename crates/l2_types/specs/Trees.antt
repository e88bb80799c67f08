-- Typed expressions as definitions speak of them: trees without addresses; and what an expression is.
use Rattle.std.specs.Prelude.{ℕ, ℤ, List, [], ◌∷◌}
use Rattle.l2_bits.specs.declared.types.Ty.{Ty}
use Rattle.l2_types.specs.declared.typed.Lvalue.{Lvalue}
use Rattle.l2_types.specs.declared.typed.Arithmetic.{Arithmetic as ArithmeticOperator}
use Rattle.l2_types.specs.declared.typed.Comparison.{Comparison}
use Rattle.l2_types.specs.declared.typed.Junction.{Junction}
use Rattle.l2_types.specs.declared.typed.Negation.{Negation}
use Rattle.l2_types.specs.declared.typed.Checks.{Checks}
use Rattle.l2_types.specs.declared.typed.Gives.{Gives}
use Rattle.l2_types.specs.declared.types.CType.{CType}
use Rattle.l2_types.specs.declared.typed.Typed as typed
use Rattle.l2_types.specs.declared.typed.Typed.{Typed, Row_of-Typed, end_of-Typed, more_of-Typed}

mutual
  pub data TypedTree : Type 0 where
    Constant : Ty → ℤ → TypedTree
    Choice : Ty → TypedTree
    Read : CType → Lvalue → TypedTree
    Convert : Ty → TypedTree → TypedTree
    Unary : Negation → Ty → ℕ → TypedTree → TypedTree
    Arithmetic : ArithmeticOperator → Ty → Checks → TypedTree → TypedTree → TypedTree
    Compare : Comparison → Ty → TypedTree → TypedTree → TypedTree
    Join : Junction → TypedTree → TypedTree → TypedTree
    Conditional : TypedTree → TypedTree → TypedTree → TypedTree
    Comma : TypedTree → TypedTree → TypedTree
    Assign : Lvalue → TypedTree → TypedTree
    Update : Gives → ArithmeticOperator → Ty → Ty → Checks → Lvalue → TypedTree → TypedTree
    Call : ℕ → TypedTrees → TypedTree
    Assert : ℕ → TypedTree → TypedTree
    Fail : ℕ → TypedTree
    Assume : TypedTree → TypedTree
    Exit : TypedTree → TypedTree
    Abort : TypedTree
    Discard : TypedTree → TypedTree

  pub data TypedTrees : Type 0 where
    no_trees : TypedTrees
    and_tree : TypedTrees → TypedTree → TypedTrees

abbrev mutual
  pub typed_tree : Typed → TypedTree
  typed_tree (typed.Constant ty v) = Constant ty v
  typed_tree (typed.Choice ty) = Choice ty
  typed_tree (typed.Read ty l) = Read ty l
  typed_tree (typed.Convert' ty a e) = Convert ty (typed_tree e)
  typed_tree (typed.Unary' op ty c a e) = Unary op ty c (typed_tree e)
  typed_tree (typed.Arithmetic' op ty cs a x b y) = Arithmetic op ty cs (typed_tree x) (typed_tree y)
  typed_tree (typed.Compare' op ty a x b y) = Compare op ty (typed_tree x) (typed_tree y)
  typed_tree (typed.Join' op a x b y) = Join op (typed_tree x) (typed_tree y)
  typed_tree (typed.Conditional' a c b x d y) = Conditional (typed_tree c) (typed_tree x) (typed_tree y)
  typed_tree (typed.Comma' a x b y) = Comma (typed_tree x) (typed_tree y)
  typed_tree (typed.Assign' l a e) = Assign l (typed_tree e)
  typed_tree (typed.Update' g op ty t cs l a e) = Update g op ty t cs l (typed_tree e)
  typed_tree (typed.Call' n shape all) = Call n (typed_row no_trees all)
  typed_tree (typed.Assert' c a e) = Assert c (typed_tree e)
  typed_tree (typed.Fail c) = Fail c
  typed_tree (typed.Assume' a e) = Assume (typed_tree e)
  typed_tree (typed.Exit' a e) = Exit (typed_tree e)
  typed_tree typed.Abort = Abort
  typed_tree (typed.Discard' a e) = Discard (typed_tree e)

  pub typed_row : {m : _} → TypedTrees → Row_of-Typed m → TypedTrees
  typed_row ts end_of-Typed = ts
  typed_row ts (more_of-Typed t rest) = typed_row (and_tree ts (typed_tree t)) rest

abbrev pub typed_onto : TypedTrees → List Typed → TypedTrees
typed_onto ts [] = ts
typed_onto ts (t ∷ rest) = typed_onto (and_tree ts (typed_tree t)) rest
