-- Objects, functions, loops and checks go by numbers: where they stand in their lists, from 1 on. Nothing has the number 0.
use Rattle.std.specs.Prelude.{ℕ, zero, suc, Bool, if◌then◌else◌, List, [], ◌∷◌, Option, Some, None, slice_get, slice_set}

-- the index of what has this number
abbrev pub index_of : ℕ → Option ℕ
index_of zero = None
index_of (suc n) = Some n

abbrev pub at_index : {A : Type 0} → List A → Option ℕ → Option A
at_index xs None = None
at_index xs (Some i) = slice_get xs i

-- what has this number
abbrev pub at_number : {A : Type 0} → List A → ℕ → Option A
at_number xs n = at_index xs (index_of n)

abbrev pub set_index : {A : Type 0} → List A → Option ℕ → A → List A
set_index xs None x = xs
set_index xs (Some i) x = slice_set xs i x

-- what has this number is this from now on
abbrev pub set_number : {A : Type 0} → List A → ℕ → A → List A
set_number xs n x = set_index xs (index_of n) x

-- the numbers of the items that pass the test, where the first item has this number
abbrev pub numbers_where : {A : Type 0} → (A → Bool) → ℕ → List A → List ℕ
numbers_where f n [] = []
numbers_where f n (x ∷ xs) = if f x then n ∷ numbers_where f (suc n) xs else numbers_where f (suc n) xs
