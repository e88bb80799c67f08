-- How the loops of a program are printed: a line each, with the objects that it may change and the variables of its rows.
use Rattle.std.specs.Prelude.{ℕ, suc, List, [], ◌∷◌, ◌++◌, codes, decimal, Option, Some, None}
use Rattle.l2_syntax.specs.Places.{place_text}
use Rattle.l2_runs.specs.Numbers.{at_number}
use Rattle.l2_program.specs.declared.program.ObjectInfo.{ObjectInfo}
use Rattle.l2_program.specs.declared.program.LoopInfo.{LoopInfo}
use Rattle.l2_program.specs.Programs.{ProgramTree}
use Rattle.l2_meaning.specs.Execution.{name_of}

-- the name of an object of the program
abbrev pub object_name : ProgramTree → Option ObjectInfo → List ℕ
object_name p None = []
object_name p (Some o) = name_of p.names o.name

-- `NAME#NUMBER`
abbrev pub object_text : ProgramTree → ℕ → List ℕ
object_text p n = object_name p (at_number p.objects n) ++ (codes "#" ++ decimal n)

-- these objects, each behind a space
abbrev pub spaced : ProgramTree → List ℕ → List ℕ
spaced p [] = []
spaced p (n ∷ ns) = codes " " ++ (object_text p n ++ spaced p ns)

-- the same, with `-` for none
abbrev pub objects_text : ProgramTree → List ℕ → List ℕ
objects_text p [] = codes " -"
objects_text p (n ∷ ns) = spaced p (n ∷ ns)

-- `loop NUMBER LINE:COL`
abbrev pub loop_head : ℕ → LoopInfo → List ℕ
loop_head n l = codes "loop " ++ (decimal n ++ (codes " " ++ place_text l.place))

-- ` mods NAMES vars NAMES`
abbrev pub loop_objects : ProgramTree → LoopInfo → List ℕ
loop_objects p l = codes " mods" ++ (objects_text p l.mods ++ (codes " vars" ++ objects_text p l.vars))

abbrev pub loop_line : ProgramTree → ℕ → LoopInfo → List ℕ
loop_line p n l = loop_head n l ++ (loop_objects p l ++ codes "\n")

-- a line for each loop, where the first has this number
abbrev pub loop_lines : ProgramTree → ℕ → List LoopInfo → List ℕ
loop_lines p n [] = []
loop_lines p n (l ∷ rest) = loop_line p n l ++ loop_lines p (suc n) rest

abbrev pub loops_text : ProgramTree → List ℕ
loops_text p = loop_lines p 1 p.loops
