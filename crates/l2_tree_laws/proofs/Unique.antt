-- A unit's run and its tokens determine the unit.
use Rattle.std.proofs.Common.{◌≡◌, ap, sym, ◌∙◌, List, Some}
use Rattle.l2_grammar.specs.Law.{Spells}
use Rattle.l2_grammar.specs.Trees.{Seen}
use Rattle.l2_grammar.proofs.Fed.{unique}
use Rattle.l2_tree.specs.Trees.{ExternalTree}
use Rattle.l2_tree.specs.Spelling.{run_unit}
use Rattle.l2_tree.specs.Build.{parts_of, unit_of}
use Rattle.l2_tree_laws.proofs.BackStatements.{of_unit}

some_same : (xs ys : List ExternalTree) → Some xs ≡ Some ys → xs ≡ ys
some_same xs ys e = cc

pub unique_run : (xs ys : List ExternalTree) → run_unit xs ≡ run_unit ys → xs ≡ ys
unique_run xs ys e = some_same xs ys (sym (of_unit xs) ∙ ap (λ r. unit_of (parts_of r)) e ∙ of_unit ys)

pub unique_tree : (ts : List Seen) (xs ys : List ExternalTree) → Spells ts (run_unit xs) → Spells ts (run_unit ys) → xs ≡ ys
unique_tree ts xs ys s t = unique_run xs ys (unique ts (run_unit xs) (run_unit ys) s t)
