-- Live flags as definitions speak of them.
use Rattle.std.specs.Prelude.{List, map}
use Rattle.l2_gates.specs.Gates.{literal_of}
use Rattle.l2_pointer_circuits.specs.declared.checks.Flag.{Flag as RustFlag}
use Rattle.l2_pointer_circuits.specs.Tests.{Flag}

abbrev pub flag_of : RustFlag → Flag
flag_of t = record { object = t.object; live = literal_of t.live }

abbrev pub flags_of : List RustFlag → List Flag
flags_of = map flag_of
