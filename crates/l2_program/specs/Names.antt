-- What trees name, in the order of the text.
use Rattle.std.specs.Prelude.{ℕ, zero, suc, List, [], ◌∷◌, ◌++◌}
use Rattle.l2_program.specs.Checked.{LvalueTree, Object, TypedTree, Constant, Choice, Read, Unary, Binary, Convert, Assign, Assert, CheckedTree, Block, Declare, Static, Initialise, Label, Evaluate, If, IfElse, While, Return, CheckedTrees, none, more}

-- a number, unless it is 0
abbrev pub unless_none : ℕ → List ℕ
unless_none zero = []
unless_none (suc n) = suc n ∷ []

abbrev pub lvalue_names : LvalueTree → List ℕ
lvalue_names (Object n) = n ∷ []

-- the objects that an expression names
abbrev pub names_of : TypedTree → List ℕ
names_of (Constant ty v) = []
names_of (Choice ty) = []
names_of (Read ty l) = lvalue_names l
names_of (Unary op ty c e) = names_of e
names_of (Binary op ty c x y) = names_of x ++ names_of y
names_of (Convert ty e) = names_of e
names_of (Assign ty l e) = lvalue_names l ++ names_of e
names_of (Assert c e) = names_of e

-- the checks of an expression
abbrev pub checks_of : TypedTree → List ℕ
checks_of (Constant ty v) = []
checks_of (Choice ty) = []
checks_of (Read ty l) = []
checks_of (Unary op ty c e) = checks_of e ++ unless_none c
checks_of (Binary op ty c x y) = checks_of x ++ checks_of y ++ unless_none c
checks_of (Convert ty e) = checks_of e
checks_of (Assign ty l e) = checks_of e
checks_of (Assert c e) = checks_of e ++ unless_none c

abbrev mutual
  -- the objects that a statement names, where it declares them too
  pub names_in : CheckedTree → List ℕ
  names_in (Block all) = all_names_in all
  names_in (Declare n) = n ∷ []
  names_in (Static n) = n ∷ []
  names_in (Initialise n e) = n ∷ names_of e
  names_in (Label n) = []
  names_in (Evaluate e) = names_of e
  names_in (If e s) = names_of e ++ names_in s
  names_in (IfElse e s t) = names_of e ++ names_in s ++ names_in t
  names_in (While l named e s) = names_of e ++ names_in s
  names_in (Return e) = names_of e

  pub all_names_in : CheckedTrees → List ℕ
  all_names_in none = []
  all_names_in (more s rest) = names_in s ++ all_names_in rest

abbrev mutual
  -- the objects that are declared in a statement
  pub declared_in : CheckedTree → List ℕ
  declared_in (Block all) = all_declared_in all
  declared_in (Declare n) = n ∷ []
  declared_in (Static n) = n ∷ []
  declared_in (Initialise n e) = n ∷ []
  declared_in (Label n) = []
  declared_in (Evaluate e) = []
  declared_in (If e s) = declared_in s
  declared_in (IfElse e s t) = declared_in s ++ declared_in t
  declared_in (While l named e s) = declared_in s
  declared_in (Return e) = []

  pub all_declared_in : CheckedTrees → List ℕ
  all_declared_in none = []
  all_declared_in (more s rest) = declared_in s ++ all_declared_in rest

abbrev mutual
  pub loops_in : CheckedTree → List ℕ
  loops_in (Block all) = all_loops_in all
  loops_in (Declare n) = []
  loops_in (Static n) = []
  loops_in (Initialise n e) = []
  loops_in (Label n) = []
  loops_in (Evaluate e) = []
  loops_in (If e s) = loops_in s
  loops_in (IfElse e s t) = loops_in s ++ loops_in t
  loops_in (While l named e s) = l ∷ loops_in s
  loops_in (Return e) = []

  pub all_loops_in : CheckedTrees → List ℕ
  all_loops_in none = []
  all_loops_in (more s rest) = loops_in s ++ all_loops_in rest

abbrev mutual
  pub checks_in : CheckedTree → List ℕ
  checks_in (Block all) = all_checks_in all
  checks_in (Declare n) = []
  checks_in (Static n) = []
  checks_in (Initialise n e) = checks_of e
  checks_in (Label n) = []
  checks_in (Evaluate e) = checks_of e
  checks_in (If e s) = checks_of e ++ checks_in s
  checks_in (IfElse e s t) = checks_of e ++ checks_in s ++ checks_in t
  checks_in (While l named e s) = checks_of e ++ checks_in s
  checks_in (Return e) = checks_of e

  pub all_checks_in : CheckedTrees → List ℕ
  all_checks_in none = []
  all_checks_in (more s rest) = checks_in s ++ all_checks_in rest
