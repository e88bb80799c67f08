-- Gates: each answers with a literal that it has, or defines a new variable by clauses.
use Rattle.std.specs.Prelude.{ℕ, zero, suc, nat_eq, Bool, false, if◌then◌else◌, ℤ, pos, negsuc, List, [], ◌∷◌, ◌++◌, map}

-- a variable or its negation, by the variable's index: variable 1 has the index 0
pub data Lit : Type 0 where
  Pos : ℕ → Lit
  Neg : ℕ → Lit

abbrev pub negated : Lit → Lit
negated (Pos n) = Neg n
negated (Neg n) = Pos n

-- variable 1 is true
abbrev pub T : Lit
T = Pos 0

abbrev pub F : Lit
F = Neg 0

abbrev pub same : Lit → Lit → Bool
same (Pos n) (Pos m) = nat_eq n m
same (Pos n) (Neg m) = false
same (Neg n) (Pos m) = false
same (Neg n) (Neg m) = nat_eq n m

-- how many variables there are, and the clauses
pub record Made : Type 0 where
  pub next : ℕ
  pub clauses : List (List Lit)

-- variable 1, and the clause that makes it true
abbrev pub start : Made
start = record { next = 1; clauses = (T ∷ []) ∷ [] }

-- a gate's literal, and what is made then
pub record Bit : Type 0 where
  pub bit : Lit
  pub made : Made

-- a new variable with these clauses
abbrev pub with_clauses : Made → List (List Lit) → Bit
with_clauses m cs = record { bit = Pos m.next; made = record { next = suc m.next; clauses = m.clauses ++ cs } }

-- a variable that no clause speaks of
abbrev pub fresh : Made → Bit
fresh m = record { bit = Pos m.next; made = record { next = suc m.next; clauses = m.clauses } }

-- a literal that is there
abbrev pub known : Lit → Made → Bit
known l m = record { bit = l; made = m }

abbrev pub new_and : Lit → Lit → Made → Bit
new_and a b m = with_clauses m ((Neg m.next ∷ a ∷ []) ∷ (Neg m.next ∷ b ∷ []) ∷ (Pos m.next ∷ negated a ∷ negated b ∷ []) ∷ [])

abbrev pub new_xor : Lit → Lit → Made → Bit
new_xor a b m = with_clauses m ((Neg m.next ∷ a ∷ b ∷ []) ∷ (Neg m.next ∷ negated a ∷ negated b ∷ []) ∷ (Pos m.next ∷ negated a ∷ b ∷ []) ∷ (Pos m.next ∷ a ∷ negated b ∷ []) ∷ [])

abbrev pub new_mux : Lit → Lit → Lit → Made → Bit
new_mux c a b m = with_clauses m ((negated c ∷ negated a ∷ Pos m.next ∷ []) ∷ (negated c ∷ a ∷ Neg m.next ∷ []) ∷ (c ∷ negated b ∷ Pos m.next ∷ []) ∷ (c ∷ b ∷ Neg m.next ∷ []) ∷ [])

-- the cases are tried in this order
abbrev pub and : Lit → Lit → Made → Bit
and a b m =
    if same a F then known F m else
    (if same b F then known F m else
    (if same a (negated b) then known F m else
    (if same a T then known b m else
    (if same b T then known a m else
    (if same a b then known a m else new_and a b m)))))

abbrev pub or : Lit → Lit → Made → Bit
or a b m = let r = and (negated a) (negated b) m in record { bit = negated r.bit; made = r.made }

abbrev pub xor : Lit → Lit → Made → Bit
xor a b m =
    if same a F then known b m else
    (if same a T then known (negated b) m else
    (if same b F then known a m else
    (if same b T then known (negated a) m else
    (if same a b then known F m else
    (if same a (negated b) then known T m else new_xor a b m)))))

-- the cases by the second literal
abbrev pub mux_second : Lit → Lit → Lit → Made → Bit
mux_second c a b m =
    if same b T then or (negated c) a m else
    (if same b (negated c) then or (negated c) a m else
    (if same b F then and c a m else
    (if same b c then and c a m else new_mux c a b m)))

-- the cases by the first one, and then by the second
abbrev pub mux_first : Lit → Lit → Lit → Made → Bit
mux_first c a b m =
    if same a T then or c b m else
    (if same a c then or c b m else
    (if same a F then and (negated c) b m else
    (if same a (negated c) then and (negated c) b m else mux_second c a b m)))

-- a where c is true, else b
abbrev pub mux : Lit → Lit → Lit → Made → Bit
mux c a b m =
    if same c T then known a m else
    (if same c F then known b m else
    (if same a b then known a m else mux_first c a b m))

-- ---- literals as whole numbers

abbrev pub number_of : Lit → ℤ
number_of (Pos n) = pos (suc n)
number_of (Neg n) = negsuc n

-- 0 is no literal
abbrev pub literal_of : ℤ → Lit
literal_of (pos zero) = Pos 0
literal_of (pos (suc n)) = Pos n
literal_of (negsuc n) = Neg n

abbrev pub literals_of : List ℤ → List Lit
literals_of = map literal_of
