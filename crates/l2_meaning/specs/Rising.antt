-- Lists in rising order, each item once.
use Rattle.std.specs.Prelude.{ℕ, ◌<◌, List, [], ◌∷◌}
use Rattle.std.specs.Ordering.{nat_cmp}
use Rattle.std.specs.declared.cmp.Ordering.{Ordering}
use Rattle.std.specs.declared.cmp.Ordering.TheVariants.{Less, Equal, Greater}

-- an item before, at or behind the first one of a rising list
abbrev pub placed : {A : Type 0} → A → A → List A → List A → Ordering → List A
placed x y ys behind Less = x ∷ y ∷ ys
placed x y ys behind Equal = y ∷ ys
placed x y ys behind Greater = y ∷ behind

-- a rising list with this item too
abbrev pub with_item : {A : Type 0} → (A → A → Ordering) → A → List A → List A
with_item cmp x [] = x ∷ []
with_item cmp x (y ∷ ys) = placed x y ys (with_item cmp x ys) (cmp x y)

-- the items of a list in rising order, each once
abbrev pub in_order : {A : Type 0} → (A → A → Ordering) → List A → List A
in_order cmp [] = []
in_order cmp (x ∷ xs) = with_item cmp x (in_order cmp xs)

abbrev pub rising : List ℕ → List ℕ
rising ns = in_order nat_cmp ns

-- each number is below the next one
abbrev pub Rise : List ℕ → Type 0
Rise [] = Unit {0}
Rise (n ∷ []) = Unit {0}
Rise (n ∷ m ∷ rest) = (n < m) × Rise (m ∷ rest)
