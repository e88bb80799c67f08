-- What a look at a clause shows whose one watched literal is false, and whose other isn't true.
use Rattle.std.specs.Prelude.{◌≢◌, ℤ, neg_ℤ, List, Contains}
use Rattle.l2_watch.specs.declared.looks.Look.{Look}
use Rattle.l2_watch.specs.declared.looks.Look.TheVariants.{Implies, Moves, Conflict}

abbrev pub IsLook : List ℤ → List ℤ → ℤ → Look → Type 0
IsLook trail clause other Implies = (¬ Contains trail (neg_ℤ other)) × ((m : ℤ) → Contains clause m → m ≢ other → Contains trail (neg_ℤ m))
IsLook trail clause other (Moves m) = (Contains clause m) × (m ≢ other) × (¬ Contains trail (neg_ℤ m))
IsLook trail clause other Conflict = (m : ℤ) → Contains clause m → Contains trail (neg_ℤ m)
