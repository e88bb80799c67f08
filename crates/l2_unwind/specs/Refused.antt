-- When code is too large to be unwound.
use Rattle.std.specs.Prelude.{◌≡◌, ℕ, ◌<◌}
use Rattle.l2_size.specs.Capped.{capped}
use Rattle.l2_unwind.specs.declared.flat.UnwindError.{UnwindError}
use Rattle.l2_unwind.specs.declared.flat.UnwindError.TheVariants.{TooLarge, NoMemory}

abbrev pub most_weight : ℕ
most_weight = 65536

-- the weight passes the limit, and the answer names it
abbrev pub IsTooLarge : ℕ → UnwindError → Type 0
IsTooLarge weight (TooLarge size) = (size ≡ capped weight) × (most_weight < weight)
IsTooLarge weight NoMemory = ⊥
