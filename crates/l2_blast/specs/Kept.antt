-- Words as code keeps them, and what it blasts.
use Rattle.std.specs.Prelude.{Bool, false, List, length, map}
use Rattle.l2_runs.specs.declared.member.Member.{Member}
use Rattle.l2_code.specs.Trees.{CodeTree}
use Rattle.l2_code.specs.Modes.{types_of}
use Rattle.l2_code.specs.Sets.{Family, may_be}
use Rattle.l2_blast.specs.declared.member_lists.SetOf.{SetOf}
use Rattle.l2_blast.specs.declared.member_lists.SetOf.TheVariants as set_of
use Rattle.l2_gates.specs.Gates.{literals_of}
use Rattle.l2_blast.specs.declared.sorts.Sort.{Sort as KeptSort}
use Rattle.l2_blast.specs.declared.sorts.Sort.TheVariants as kept
use Rattle.l2_blast.specs.declared.words.Entry.{Entry}
use Rattle.l2_blast.specs.Sorts.{Sort, Truth, Part, Cell}
use Rattle.l2_blast.specs.Words.{Named, Env, Fill, Setting}

abbrev pub sort_of_kept : KeptSort → Sort
sort_of_kept (kept.Truth n) = Truth n
sort_of_kept kept.Part = Part
sort_of_kept (kept.Cell ty) = Cell ty

abbrev pub named_of : Entry → Named
named_of e = record { sort = sort_of_kept e.sort; bits = literals_of e.bits.items }

abbrev pub env_of : List Entry → Env
env_of entries = map named_of entries

-- the setting of a code
abbrev pub setting_of : CodeTree → Fill → Setting
setting_of c fill = record { types = types_of c; objects = length c.objects; fill = fill }

-- the set of an operand of the code, or of an object's cells
abbrev pub set_at : Family → SetOf → Member → Bool
set_at f set_of.Nothing = λ m. false
set_at f (set_of.Operand a) = may_be f a
set_at f (set_of.Object n) = f.object n
