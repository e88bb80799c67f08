-- How a form goes on from what its first part came to.
use Rattle.std.proofs.Common.{◌≡◌, Option, Some, None, ap}
use Rattle.std.specs.Prelude.{option_map}
use Rattle.l2_small.specs.SmallForm.{and_then}

pub some_then : {A B : Type 0} (x : Option A) (f : A → Option B) (a : A) → x ≡ Some a → and_then x f ≡ f a
some_then x f a e = ap (λ (r : Option _). and_then r f) e

pub none_then : {A B : Type 0} (x : Option A) (f : A → Option B) → x ≡ None → and_then x f ≡ None
none_then x f e = ap (λ (r : Option _). and_then r f) e

pub some_map : {A B : Type 0} (x : Option A) (f : A → B) (a : A) → x ≡ Some a → option_map f x ≡ Some (f a)
some_map x f a e = ap (λ (r : Option _). option_map f r) e

pub none_map : {A B : Type 0} (x : Option A) (f : A → B) → x ≡ None → option_map f x ≡ None
none_map x f e = ap (λ (r : Option _). option_map f r) e

pub ruleset steps = (some_then, none_then, some_map, none_map)
