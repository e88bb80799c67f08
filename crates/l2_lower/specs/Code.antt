-- The code of a program.
use Rattle.std.specs.Prelude.{ℕ, ◌-◌, false, if◌then◌else◌, List, [], ◌∷◌, length, map, take, drop, Option, Some, None}
use Rattle.l2_syntax.specs.declared.token.Name.{Name}
use Rattle.l2_runs.specs.declared.cells.CellValue.{CellValue}
use Rattle.l2_program.specs.declared.program.ObjectInfo.{ObjectInfo}
use Rattle.l2_program.specs.declared.program.LoopInfo.{LoopInfo}
use Rattle.l2_program.specs.declared.program.CheckInfo.{CheckInfo}
use Rattle.l2_program.specs.declared.program.StaticValue.{StaticValue}
use Rattle.l2_program.specs.Programs.{ProgramTree, FunctionTree}
use Rattle.l2_runs.specs.Fits.{Layout}
use Rattle.l2_meaning.specs.Execution.{first_cell, value_in, name_of, main_among, cells_of}
use Rattle.l2_code.specs.declared.code.CodeObject.{CodeObject}
use Rattle.l2_code.specs.declared.code.CodeCheck.{CodeCheck}
use Rattle.l2_code.specs.declared.code.CodeLoop.{CodeLoop}
use Rattle.l2_code.specs.declared.action.Action.TheVariants.{End}
use Rattle.l2_code.specs.Trees.{none, join, CodeTree}
use Rattle.l2_lower.specs.Emitting.{only, Part, part}
use Rattle.l2_lower.specs.Statements.{followed, declaration, deads, statement}

-- ---- the lists

abbrev pub code_object : List Name → ObjectInfo → List CellValue → CodeObject
code_object names o start = record { name = name_of names o.name; is_static = o.is_static; hidden = false; cells = o.cells; start = start }

-- the static values stand by object and offset, so each static object takes the next ones
abbrev pub code_objects : List Name → List StaticValue → List ObjectInfo → List CodeObject
code_objects names values [] = []
code_objects names values (o ∷ rest) =
    if o.is_static then code_object names o (map value_in (take (length o.cells) values)) ∷ code_objects names (drop (length o.cells) values) rest
    else code_object names o (map first_cell o.cells) ∷ code_objects names values rest

abbrev pub code_check : CheckInfo → CodeCheck
code_check c = record { kind = c.kind; line = c.place.line; col = c.place.col }

abbrev pub code_loop : LoopInfo → CodeLoop
code_loop l = record { vars = l.vars; mods = l.mods }

-- ---- the instructions

-- the parameters of `main` are declared, its body runs, and the parameters die
abbrev pub declarations : Layout → ℕ → List ℕ → Part
declarations cells n [] = part n none
declarations cells n (o ∷ os) = followed (declaration cells n o) (λ m. declarations cells m os)

-- the body, and what is behind it
abbrev pub body_code : Layout → ℕ → FunctionTree → Part
body_code cells n f = followed (statement cells f.parameters n f.body) (λ m. part m (join (deads f.parameters) (only End)))

-- from this temporary on
abbrev pub main_code : Layout → ℕ → Option FunctionTree → Part
main_code cells n None = part n (only End)
main_code cells n (Some f) = followed (declarations cells n f.parameters) (λ m. body_code cells m f)

abbrev pub code : ProgramTree → CodeTree
code p = record {
  objects = code_objects p.names p.static_values p.objects;
  pointed = [];
  checks = map code_check p.checks;
  loops = map code_loop p.loops;
  temps = (main_code (cells_of p) 1 (main_among p.names p.functions)).next - 1;
  body = (main_code (cells_of p) 1 (main_among p.names p.functions)).nodes;
}
