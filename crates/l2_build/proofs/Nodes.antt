-- A construct among the parts.
use Rattle.std.proofs.Common.{◌≡◌, ◌≤◌, ℕ, ◌+◌, ◌-◌, List, [], ◌∷◌, ◌++◌, append-nil, length, take, drop, get_or, refl, ap, sym, ◌∙◌, arith}
use Rattle.std.proofs.lemmas.List.{take_all}
use Rattle.std.specs.declared.vec.Vec.{Vec}
use Rattle.std.specs.declared.alloc.Global.{Global}
use Rattle.l2_grammar.specs.declared.states.Sort.{Sort}
use Rattle.l2_reader.specs.declared.syntax.Syntax as syntax
use Rattle.l2_reader.specs.declared.syntax.Syntax.{Syntax, Row_of-Syntax, end_of-Syntax, more_of-Syntax, items-the_row-Syntax, items_hidden-the_row-Syntax-0}
use Rattle.l2_reader.specs.declared.syntax.Syntax.TheBlock as block
use Rattle.l2_grammar.specs.Trees.{Tree, begin}
use Rattle.l2_reader.specs.declared.syntax.Open.{Open}
use Rattle.l2_reader.specs.Parts.{with_part, row_onto, parts_onto, tree_of}
use Rattle.l2_tree.specs.Build.{Part, node, built, parts_before, parts_of as built_parts}
use Rattle.l2_build.specs.Parts.{part, row_parts, parts_of, size, row_size, size_of}

parts_row : {m : _} (row : Row_of-Syntax m) → row_parts row ≡ parts_of (items-the_row-Syntax m row)
parts_row end_of-Syntax = refl
parts_row (more_of-Syntax x rest) = ap (λ ps. part x ∷ ps) (parts_row rest)

pub part-Construct : (s : Sort) (all : Vec Syntax Global) → part (syntax.Construct s all) ≡ node (built (parts_of all.items))
part-Construct s all = ap (λ ps. node (built ps)) (parts_row (block.hidden-the_row-Syntax-0 all) ∙ ap parts_of (items_hidden-the_row-Syntax-0 all))

size_row : {m : _} (row : Row_of-Syntax m) → row_size row ≡ size_of (items-the_row-Syntax m row)
size_row end_of-Syntax = refl
size_row (more_of-Syntax x rest) = ap (λ n. size x + n) (size_row rest)

pub size-Construct : (s : Sort) (all : Vec Syntax Global) → size (syntax.Construct s all) ≡ 1 + size_of all.items
size-Construct s all = ap (λ n. 1 + n) (size_row (block.hidden-the_row-Syntax-0 all) ∙ ap size_of (items_hidden-the_row-Syntax-0 all))

-- a construct by its parts
pub construct_part : (x : Syntax) (s : Sort) (all : Vec Syntax Global) (xs : List Syntax) → x ≡ syntax.Construct s all → xs ≡ all.items → part x ≡ node (built (parts_of xs))
construct_part x s all xs e d = ap part e ∙ part-Construct s all ∙ ap (λ y. node (built (parts_of y))) (sym d)

pub construct_size : (x : Syntax) (s : Sort) (all : Vec Syntax Global) (xs : List Syntax) → x ≡ syntax.Construct s all → xs ≡ all.items → size x ≡ 1 + size_of xs
construct_size x s all xs e d = ap size e ∙ size-Construct s all ∙ ap (λ y. 1 + size_of y) (sym d)

rest_is : (x : Syntax) (xs : List Syntax) → take (length (x ∷ xs) - 1) (drop 1 (x ∷ xs)) ≡ xs
rest_is x xs = let n : length (x ∷ xs) - 1 ≡ length xs = omega arith in ap (λ k. take k xs) n ∙ take_all (length xs) xs (omega arith)

-- the first part and the others
pub parts_split : (xs : List Syntax) (x : Syntax) → 1 ≤ length xs → x ≡ get_or xs 0 x → parts_of xs ≡ part x ∷ parts_of (take (length xs - 1) (drop 1 xs))
parts_split [] x h e = absurd (omega arith)
parts_split (y ∷ ys) x h e = ap (λ z. part z ∷ parts_of ys) (sym e) ∙ ap (λ zs. part x ∷ parts_of zs) (sym (rest_is y ys))

pub size_split : (xs : List Syntax) (x : Syntax) → 1 ≤ length xs → x ≡ get_or xs 0 x → size_of xs ≡ size x + size_of (take (length xs - 1) (drop 1 xs))
size_split [] x h e = absurd (omega arith)
size_split (y ∷ ys) x h e = ap (λ z. size z + size_of ys) (sym e) ∙ ap (λ zs. size x + size_of zs) (sym (rest_is y ys))

-- ---- the parts of what was read are those of its tree

mutual
  pub part_before : (r : Tree) (x : Syntax) (m : List Part) → parts_before (with_part r x) m ≡ parts_before r (part x ∷ m)
  part_before r (syntax.Token t) m = refl
  part_before r (syntax.Construct' s shape all) m = ap (λ ps. parts_before r (node (built ps) ∷ m)) (row_before (begin s) all [] ∙ append-nil (row_parts all))

  pub row_before : {k : _} (r : Tree) (row : Row_of-Syntax k) (m : List Part) → parts_before (row_onto r row) m ≡ parts_before r (row_parts row ++ m)
  row_before r end_of-Syntax m = refl
  row_before r (more_of-Syntax x rest) m = row_before (with_part r x) rest m ∙ part_before r x (row_parts rest ++ m)

parts_onto_before : (r : Tree) (xs : List Syntax) (m : List Part) → parts_before (parts_onto r xs) m ≡ parts_before r (parts_of xs ++ m)
parts_onto_before r [] m = refl
parts_onto_before r (x ∷ xs) m = parts_onto_before (with_part r x) xs m ∙ part_before r x (parts_of xs ++ m)

pub open_parts : (o : Open) → built_parts (tree_of o) ≡ parts_of o.parts.items
open_parts o = parts_onto_before (begin o.sort) o.parts.items [] ∙ append-nil (parts_of o.parts.items)
