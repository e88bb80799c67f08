-- Parts that may be missing.
use Rattle.std.specs.Prelude.{Option, Some, None, List}
use Rattle.std.specs.Borrow.{Bor}
use Rattle.l2_syntax.specs.declared.token.Mark.TheVariants as mark
use Rattle.l2_reader.specs.declared.syntax.Syntax.{Syntax}
use Rattle.l2_tree.specs.Trees.{FirstTree}
use Rattle.l2_tree.specs.Build.{Part, and_then, perhaps_until, first_of}
use Rattle.l2_build.specs.Parts.{parts_of}

abbrev pub perhaps_parts : Option (Bor (List Syntax)) → Option (List Part)
perhaps_parts None = None
perhaps_parts (Some ps) = Some (parts_of ps.now)

-- perhaps an expression as the first part of a `for`, and what is left behind its semicolon
abbrev pub first_expression : List Part → Option (FirstTree × List Part)
first_expression ps = and_then (perhaps_until mark.Semicolon ps) (λ f. Some (first_of f.0, f.1))
