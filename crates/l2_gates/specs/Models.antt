-- What an assignment of the variables makes true, and what gates are in a model of their clauses.
use Rattle.std.specs.Prelude.{◌≡◌, ℕ, ◌≤◌, ◌<◌, Bool, true, false, not, List, [], ◌∷◌}
use Rattle.l2_gates.specs.Gates.{Lit, Pos, Neg, Made, Bit}

abbrev pub both : Bool → Bool → Bool
both true b = b
both false b = false

abbrev pub some_of : Bool → Bool → Bool
some_of true b = true
some_of false b = b

-- one of the two, and not both
abbrev pub differ : Bool → Bool → Bool
differ true b = not b
differ false b = b

-- the first where c is true, else the second
abbrev pub chosen : Bool → Bool → Bool → Bool
chosen true a b = a
chosen false a b = b

abbrev pub value : (ℕ → Bool) → Lit → Bool
value v (Pos n) = v n
value v (Neg n) = not (v n)

abbrev pub some_true : (ℕ → Bool) → List Lit → Bool
some_true v [] = false
some_true v (l ∷ ls) = some_of (value v l) (some_true v ls)

abbrev pub all_true : (ℕ → Bool) → List (List Lit) → Bool
all_true v [] = true
all_true v (c ∷ cs) = both (some_true v c) (all_true v cs)

-- the clauses are true
abbrev pub Ok : (ℕ → Bool) → Made → Type 0
Ok v m = all_true v m.clauses ≡ true

-- a literal has this value where the clauses are true, and those before were true
pub record Right (v : ℕ → Bool) (m : Made) (r : Bit) (b : Bool) : Type 0 where
  pub before : Ok v m
  pub is : value v r.bit ≡ b

abbrev pub Gives : (ℕ → Bool) → Made → Bool → Bit → Type 0
Gives v m b r = Ok v r.made → Right v m r b

-- ---- variables that there are

abbrev pub var : Lit → ℕ
var (Pos n) = n
var (Neg n) = n

-- the literal's variable is there
abbrev pub Below : ℕ → Lit → Type 0
Below n l = var l < n

abbrev pub AllBelow : ℕ → List Lit → Type 0
AllBelow n [] = Unit {0}
AllBelow n (l ∷ ls) = Below n l × AllBelow n ls

abbrev pub ClausesBelow : ℕ → List (List Lit) → Type 0
ClausesBelow n [] = Unit {0}
ClausesBelow n (c ∷ cs) = AllBelow n c × ClausesBelow n cs

-- clauses speak of variables that are there
pub record Sound (m : Made) : Type 0 where
  pub some : 1 ≤ m.next
  pub clauses : ClausesBelow m.next m.clauses

-- ---- models of what is made later

-- two assignments agree on the variables that are there
abbrev pub Agree : ℕ → (ℕ → Bool) → (ℕ → Bool) → Type 0
Agree n v w = (i : ℕ) → i < n → w i ≡ v i

-- an assignment that goes on from another
pub record Model (m : Made) (m' : Made) (v : ℕ → Bool) : Type 0 where
  pub v' : ℕ → Bool
  pub agree : Agree m.next v v'
  pub ok : Ok v' m'

-- what is made later keeps what was made before, and each model before goes on to one of it
pub record Extends (m : Made) (m' : Made) : Type 0 where
  pub grows : m.next ≤ m'.next
  pub sound : Sound m'
  pub back : (v : ℕ → Bool) → Ok v m' → Ok v m
  pub model : (v : ℕ → Bool) → Ok v m → Model m m' v

-- a literal that is made
pub record Makes (m : Made) (r : Bit) : Type 0 where
  pub bit : Below r.made.next r.bit
  pub extends : Extends m r.made
