-- Trees whose declarations are of objects that aren't static, each once, and stand in blocks.
use Rattle.std.specs.Prelude.{◌≡◌, ℕ, Bool, false, List, [], ◌∷◌, ◌++◌}
use Rattle.l2_run_laws.proofs.LoopFrames.{Among}
use Rattle.l2_program.specs.Checked.{CheckedTree, Block, Declare, Static, Initialise, Label, Evaluate, If, IfElse, While, Return, CheckedTrees, none, more}
use Rattle.l2_meaning.specs.Changes.{changes_of, changes_in}

-- the object whose lifetime an item begins
abbrev pub opened : CheckedTree → List ℕ
opened (Declare n) = n ∷ []
opened (Initialise n e) = n ∷ []
opened (Block all) = []
opened (Static n) = []
opened (Label n) = []
opened (Evaluate e) = []
opened (If e s) = []
opened (IfElse e s t) = []
opened (While l named e s) = []
opened (Return e) = []

abbrev mutual
  -- all objects whose lifetimes begin in a statement
  pub dying : CheckedTree → List ℕ
  dying (Block all) = all_dying all
  dying (Declare n) = n ∷ []
  dying (Static n) = []
  dying (Initialise n e) = n ∷ []
  dying (Label n) = []
  dying (Evaluate e) = []
  dying (If e s) = dying s
  dying (IfElse e s t) = dying s ++ dying t
  dying (While l named e s) = dying s
  dying (Return e) = []

  pub all_dying : CheckedTrees → List ℕ
  all_dying none = []
  all_dying (more s rest) = dying s ++ all_dying rest

-- no declaration
abbrev pub IsBare : CheckedTree → Type 0
IsBare (Declare n) = ⊥
IsBare (Initialise n e) = ⊥
IsBare (Block all) = Unit {0}
IsBare (Static n) = Unit {0}
IsBare (Label n) = Unit {0}
IsBare (Evaluate e) = Unit {0}
IsBare (If e s) = Unit {0}
IsBare (IfElse e s t) = Unit {0}
IsBare (While l named e s) = Unit {0}
IsBare (Return e) = Unit {0}

abbrev mutual
  pub IsTidy : (ℕ → Bool) → CheckedTree → Type 0
  IsTidy is_static (Block all) = AreTidy is_static all
  IsTidy is_static (Declare n) = is_static n ≡ false
  IsTidy is_static (Static n) = Unit {0}
  IsTidy is_static (Initialise n e) = is_static n ≡ false
  IsTidy is_static (Label n) = Unit {0}
  IsTidy is_static (Evaluate e) = Unit {0}
  IsTidy is_static (If e s) = IsBare s × IsTidy is_static s
  IsTidy is_static (IfElse e s t) = IsBare s × IsTidy is_static s × IsBare t × IsTidy is_static t
  IsTidy is_static (While l named e s) = IsBare s × IsTidy is_static s
  IsTidy is_static (Return e) = Unit {0}

  pub AreTidy : (ℕ → Bool) → CheckedTrees → Type 0
  AreTidy is_static none = Unit {0}
  AreTidy is_static (more s rest) = IsTidy is_static s × ((n : ℕ) → Among (all_dying rest) n → Among (opened s) n → ⊥) × AreTidy is_static rest

abbrev mutual
  -- each loop of a statement changes these objects at most
  pub HasMods : (ℕ → List ℕ) → CheckedTree → Type 0
  HasMods mods (Block all) = HaveMods mods all
  HasMods mods (Declare n) = Unit {0}
  HasMods mods (Static n) = Unit {0}
  HasMods mods (Initialise n e) = Unit {0}
  HasMods mods (Label n) = Unit {0}
  HasMods mods (Evaluate e) = Unit {0}
  HasMods mods (If e s) = HasMods mods s
  HasMods mods (IfElse e s t) = HasMods mods s × HasMods mods t
  HasMods mods (While l named e s) = ((n : ℕ) → Among (changes_of e ++ changes_in s) n → Among (mods l) n) × HasMods mods s
  HasMods mods (Return e) = Unit {0}

  pub HaveMods : (ℕ → List ℕ) → CheckedTrees → Type 0
  HaveMods mods none = Unit {0}
  HaveMods mods (more s rest) = HasMods mods s × HaveMods mods rest
