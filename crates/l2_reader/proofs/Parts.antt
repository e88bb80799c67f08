-- Parts grow at the end.
use Rattle.std.proofs.Common.{◌≡◌, List, [], ◌∷◌, ◌++◌, refl, ap, ◌∙◌}
use Rattle.std.specs.declared.vec.Vec.{Vec}
use Rattle.std.specs.declared.alloc.Global.{Global}
use Rattle.l2_grammar.specs.declared.states.Sort.{Sort}
use Rattle.l2_grammar.specs.Trees.{Tree, begin, child}
use Rattle.l2_reader.specs.declared.syntax.Syntax as syntax
use Rattle.l2_reader.specs.declared.syntax.Syntax.{Syntax, Row_of-Syntax, end_of-Syntax, more_of-Syntax, items-the_row-Syntax, items_hidden-the_row-Syntax-0}
use Rattle.l2_reader.specs.declared.syntax.Syntax.TheBlock as block
use Rattle.l2_reader.specs.Parts.{with_part, row_onto, parts_onto}

pub parts_onto-end : (r : Tree) (xs : List Syntax) (x : Syntax) → parts_onto r (xs ++ (x ∷ [])) ≡ with_part (parts_onto r xs) x
parts_onto-end r [] x = refl
parts_onto-end r (y ∷ xs) x = parts_onto-end (with_part r y) xs x

row_is : {m : _} (r : Tree) (row : Row_of-Syntax m) → row_onto r row ≡ parts_onto r (items-the_row-Syntax m row)
row_is r end_of-Syntax = refl
row_is r (more_of-Syntax x rest) = row_is (with_part r x) rest

pub with_part-Construct : (r : Tree) (s : Sort) (all : Vec Syntax Global) → with_part r (syntax.Construct s all) ≡ child r (parts_onto (begin s) all.items)
with_part-Construct r s all = ap (λ x. child r x) (row_is (begin s) (block.hidden-the_row-Syntax-0 all) ∙ ap (parts_onto (begin s)) (items_hidden-the_row-Syntax-0 all))

pub ruleset parts = (parts_onto-end, with_part-Construct)
