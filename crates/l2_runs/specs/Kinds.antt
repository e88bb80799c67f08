-- How a kind of check is printed.
use Rattle.std.specs.Prelude.{ℕ, List, codes}
use Rattle.l2_runs.specs.declared.kind.Kind.{Kind}
use Rattle.l2_runs.specs.declared.kind.Kind.TheVariants.{Assertion, Bounds, Null, Invalid, Lifetime, Pointer, Object, Division, Shift, Overflow}

abbrev pub kind_text : Kind → List ℕ
kind_text Assertion = codes "assertion"
kind_text Bounds = codes "bounds"
kind_text Null = codes "null"
kind_text Invalid = codes "invalid"
kind_text Lifetime = codes "lifetime"
kind_text Pointer = codes "pointer"
kind_text Object = codes "object"
kind_text Division = codes "division"
kind_text Shift = codes "shift"
kind_text Overflow = codes "overflow"
