-- What the table of names holds, and how its places find the entries.
use Rattle.std.specs.Prelude.{◌≡◌, ℕ, ◌+◌, ◌<◌, ◌↔◌, false, List, length, take, slice_index_or}
use Rattle.l2_program.specs.declared.program.ObjectInfo.{ObjectInfo}
use Rattle.l2_small_check.specs.Elaboration.{Scope, Found, Elaborated, is_declared}
use Rattle.l2_small_check.specs.declared.entry.Entry.{Entry}

pub record TableValue : Type 0 where
  pub scope : Scope
  pub found : Found

-- what an item became, with the table behind it
abbrev pub elaborated : {A : Type 0} → A → TableValue → Elaborated A
elaborated t table = record { tree = t; scope = table.scope; found = table.found }

-- names that are in scope stay so, and others may stand behind them
abbrev pub Keeps : Scope → Scope → Type 0
Keeps old new = take (length old) new ≡ old

abbrev pub place_of : List ℕ → ℕ → ℕ
place_of places n = slice_index_or places n 0

abbrev pub entry_at : Scope → ℕ → Entry
entry_at scope i = slice_index_or scope i (record { name = 0; object = 0 })

-- each entry stands where its name's place says
abbrev pub ArePlaced : Scope → List ℕ → Type 0
ArePlaced scope places = (i : ℕ) → i < length scope → place_of places (entry_at scope i).name ≡ i + 1

-- a name has a place exactly where it was declared
abbrev pub AreDeclared : List ObjectInfo → List ℕ → Type 0
AreDeclared objects places = (n : ℕ) → (place_of places n ≡ 0) ↔ (is_declared objects n ≡ false)
