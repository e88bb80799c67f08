-- Statements with their types, as definitions speak of them: trees without addresses.
use Rattle.std.specs.Prelude.{ℕ, ℤ, List, [], ◌∷◌, map, Option, Some, None}
use Rattle.std.specs.declared.boxed.Box.{Box}
use Rattle.std.specs.declared.alloc.Global.{Global}
use Rattle.l2_types.specs.declared.typed.Typed.{Typed}
use Rattle.l2_types.specs.Trees.{TypedTree, typed_tree}
use Rattle.l2_types_declarations.specs.Initialisers.{ItemTree, item_tree}
use Rattle.l2_types_statements.specs.declared.checked.Checked as checked
use Rattle.l2_types_statements.specs.declared.checked.Checked.{Checked, Row_of-Checked, end_of-Checked, more_of-Checked, Row_of-Arm, end_of-Arm, more_of-Arm}
use Rattle.l2_types_statements.specs.declared.checked.Arm.{Arm as ArmCode}

-- lists grow at their end
mutual
  pub data CheckedTree : Type 0 where
    Block : CheckedTrees → CheckedTree
    Declare : List ItemTree → CheckedTree
    Evaluate : TypedTree → CheckedTree
    Empty : CheckedTree
    If : ArmTrees → CheckedTree
    IfElse : ArmTrees → CheckedTree → CheckedTree
    While : ℕ → List ℕ → TypedTree → CheckedTree → CheckedTree
    Do : ℕ → List ℕ → CheckedTree → TypedTree → CheckedTree
    For : ℕ → List ℕ → CheckedTree → Option TypedTree → Option TypedTree → CheckedTree → CheckedTree
    Switch : TypedTree → CheckedTree → CheckedTree
    Case : ℤ → CheckedTree → CheckedTree
    Default : CheckedTree → CheckedTree
    Label : ℕ → CheckedTree → CheckedTree
    Break : CheckedTree
    Continue : CheckedTree
    Return : CheckedTree
    ReturnValue : TypedTree → CheckedTree

  pub data CheckedTrees : Type 0 where
    no_statements : CheckedTrees
    and_statement : CheckedTrees → CheckedTree → CheckedTrees

  pub data ArmTree : Type 0 where
    Arm : TypedTree → CheckedTree → ArmTree

  pub data ArmTrees : Type 0 where
    no_arms : ArmTrees
    and_arm : ArmTrees → ArmTree → ArmTrees

abbrev pub perhaps_typed : Option (Box Typed Global) → Option TypedTree
perhaps_typed None = None
perhaps_typed (Some e) = Some (typed_tree e.value)

abbrev mutual
  pub checked_tree : Checked → CheckedTree
  checked_tree (checked.Block' shape all) = Block (checked_row no_statements all)
  checked_tree (checked.Declare xs) = Declare (map item_tree xs)
  checked_tree (checked.Evaluate e) = Evaluate (typed_tree e.value)
  checked_tree checked.Empty = Empty
  checked_tree (checked.If' shape all) = If (arms_row no_arms all)
  checked_tree (checked.IfElse' shape all a x) = IfElse (arms_row no_arms all) (checked_tree x)
  checked_tree (checked.While' k ns c a x) = While k ns (typed_tree c.value) (checked_tree x)
  checked_tree (checked.Do' k ns a x c) = Do k ns (checked_tree x) (typed_tree c.value)
  checked_tree (checked.For' k ns a f c e b x) = For k ns (checked_tree f) (perhaps_typed c) (perhaps_typed e) (checked_tree x)
  checked_tree (checked.Switch' c a x) = Switch (typed_tree c.value) (checked_tree x)
  checked_tree (checked.Case' v a x) = Case v (checked_tree x)
  checked_tree (checked.Default' a x) = Default (checked_tree x)
  checked_tree (checked.Label' n a x) = Label n (checked_tree x)
  checked_tree checked.Break = Break
  checked_tree checked.Continue = Continue
  checked_tree checked.Return = Return
  checked_tree (checked.ReturnValue e) = ReturnValue (typed_tree e.value)

  pub checked_row : {m : _} → CheckedTrees → Row_of-Checked m → CheckedTrees
  checked_row xs end_of-Checked = xs
  checked_row xs (more_of-Checked x rest) = checked_row (and_statement xs (checked_tree x)) rest

  pub arms_row : {m : _} → ArmTrees → Row_of-Arm m → ArmTrees
  arms_row xs end_of-Arm = xs
  arms_row xs (more_of-Arm c a x rest) = arms_row (and_arm xs (Arm (typed_tree c.value) (checked_tree x))) rest

abbrev pub checked_onto : CheckedTrees → List Checked → CheckedTrees
checked_onto xs [] = xs
checked_onto xs (x ∷ rest) = checked_onto (and_statement xs (checked_tree x)) rest

abbrev pub arm_tree : ArmCode → ArmTree
arm_tree x = Arm (typed_tree x.condition.value) (checked_tree x.body.value)

abbrev pub arms_onto : ArmTrees → List ArmCode → ArmTrees
arms_onto xs [] = xs
arms_onto xs (x ∷ rest) = arms_onto (and_arm xs (arm_tree x)) rest
