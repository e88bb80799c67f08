-- The clause of variable 1 stays.
use Rattle.std.proofs.Common.{◌≡◌, Bool, true, false, [], refl}
use Rattle.l2_gates.specs.Gates.{start}
use Rattle.l2_gates.specs.Models.{both, some_of}
use Rattle.l2_blast_laws.proofs.Given.{circuits}
use Rattle.l2_blast_laws.proofs.Folds.{all_made, start_sound}
use Rattle.l2_goal_laws.specs.Below.{FirstIsTrue}

pub first_true : FirstIsTrue
first_true s made xs v ok = only (v 0) ((all_made circuits s made xs [] start (start_sound circuits s made) tt).extends.back v ok)
  where
    only : (b : Bool) → both (some_of b false) true ≡ true → b ≡ true
    only true h = refl
    only false h = absurd (cc h)
