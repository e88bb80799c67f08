-- How tightly the parts of an expression hold together (C11 6.5), and what declarators and statements are as parts.
use Rattle.std.specs.Prelude.{ℕ, Bool, true, false, ◌&&◌, ◌||◌, is_some, [], Option, Some}
use Rattle.l2_tree.specs.declared.operators.BinaryOperator.{BinaryOperator}
use Rattle.l2_tree.specs.declared.operators.BinaryOperator.TheVariants as binary
use Rattle.l2_tree.specs.Trees.{ExprTree, Update, Unary, Sizeof, SizeofType, Cast, Binary, Conditional, Assign, Comma, ParameterTree, Bare, Declared, ParameterTrees, no_parameters, and_parameter, DeclaratorTree, Declarator, Absent, no_suffixes, Uninitialised, DeclaredTrees, no_declarators, and_declarator, StmtTree, Declare, If, IfElse, While, Switch, For, Case, Default, Label, Branch, BranchTree, BranchTrees, first_branch, and_branch}
use Rattle.l2_tree_laws.specs.Specifiers.{Base, void, other_of}
use Rattle.l2_tree_names.specs.Declarators.{name_of}

-- ---- expressions

abbrev pub rank : BinaryOperator → ℕ
rank binary.Multiply = 13
rank binary.Divide = 13
rank binary.Remainder = 13
rank binary.Add = 12
rank binary.Subtract = 12
rank binary.ShiftLeft = 11
rank binary.ShiftRight = 11
rank binary.Less = 10
rank binary.Greater = 10
rank binary.LessEqual = 10
rank binary.GreaterEqual = 10
rank binary.Equal = 9
rank binary.NotEqual = 9
rank binary.BitAnd = 8
rank binary.BitXor = 7
rank binary.BitOr = 6
rank binary.And = 5
rank binary.Or = 4

-- 16 what stands by itself and what is behind it, 15 unary, 14 a cast, then the binary operators, 3 `?:`, 2 assignment, 1 a comma
abbrev pub level : ExprTree → ℕ
level (Update o p a) = 15
level (Unary o p a) = 15
level (Sizeof p a) = 15
level (SizeofType p q t) = 15
level (Cast p t a) = 14
level (Binary a o p b) = rank o
level (Conditional a p b c) = 3
level (Assign a o p b) = 2
level (Comma a b) = 1
level e = 16

-- ---- declarators and parameters

abbrev pub has_name : DeclaratorTree → Bool
has_name d = is_some (name_of d)

abbrev pub is_empty : DeclaratorTree → Bool
is_empty (Declarator [] Absent no_suffixes) = true
is_empty d = false

abbrev pub is_named : ParameterTree → Bool
is_named (Bare xs) = false
is_named (Declared xs d) = has_name d

abbrev pub all_named : ParameterTrees → Bool
all_named no_parameters = true
all_named (and_parameter ps p) = all_named ps && is_named p

abbrev pub is_void_base : Option Base → Bool
is_void_base (Some void) = true
is_void_base o = false

abbrev pub is_void : ParameterTree → Bool
is_void (Bare xs) = is_void_base (other_of xs)
is_void (Declared xs d) = false

-- the parameters that a function's definition may have: none, `void` alone, or all with names (C11 6.9.1)
abbrev pub may_define : ParameterTrees → Bool
may_define (and_parameter no_parameters p) = is_named p || is_void p
may_define ps = all_named ps

abbrev pub no_initialiser : DeclaredTrees → Bool
no_initialiser no_declarators = true
no_initialiser (and_declarator ds (Uninitialised d)) = no_initialiser ds
no_initialiser (and_declarator ds d) = false

-- ---- statements

abbrev pub is_declaration : StmtTree → Bool
is_declaration (Declare d) = true
is_declaration t = false

abbrev pub is_if : StmtTree → Bool
is_if (If bs) = true
is_if (IfElse bs t) = true
is_if t = false

-- no `if` at its right edge is left without an `else`, so that an `else` may follow it
abbrev mutual
  pub is_shut : StmtTree → Bool
  is_shut (If bs) = false
  is_shut (IfElse bs t) = is_shut t
  is_shut (While p q e t) = is_shut t
  is_shut (Switch p q e t) = is_shut t
  is_shut (For p q f c e t) = is_shut t
  is_shut (Case p e t) = is_shut t
  is_shut (Default p t) = is_shut t
  is_shut (Label n p t) = is_shut t
  is_shut t = true

abbrev pub shut_branch : BranchTree → Bool
shut_branch (Branch p q e t) = is_shut t

-- the last of some branches
abbrev pub last_shut : BranchTrees → Bool
last_shut (first_branch b) = shut_branch b
last_shut (and_branch bs b) = shut_branch b
