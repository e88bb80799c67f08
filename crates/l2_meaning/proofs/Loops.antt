-- The sets of a tree's loops stand in the order of its loops.
use Rattle.std.proofs.Common.{◌≡◌, ℕ, Bool, List, ◌∷◌, ◌++◌, map, refl, ap, ◌∙◌}
use Rattle.std.proofs.lemmas.List.{map-append}
use Rattle.l2_runs.specs.Fits.{Layout}
use Rattle.l2_program.specs.Checked.{CheckedTree, Block, Declare, Static, Initialise, Label, Evaluate, If, IfElse, While, Return, CheckedTrees, none, more}
use Rattle.l2_program.specs.Names.{loops_in, all_loops_in}
use Rattle.l2_meaning.specs.declared.sets.LoopSets.{LoopSets}
use Rattle.l2_meaning.specs.Scopes.{behind}
use Rattle.l2_meaning.specs.Changes.{loop_sets, all_loop_sets}

abbrev pub numbers_of : List LoopSets → List ℕ
numbers_of sets = map (λ (s : LoopSets). s.number) sets

both : (a b : List LoopSets) (m n : List ℕ) → numbers_of a ≡ m → numbers_of b ≡ n → numbers_of (a ++ b) ≡ m ++ n
both a b m n e f = map-append (λ (s : LoopSets). s.number) a b ∙ ap (λ x. x ++ numbers_of b) e ∙ ap (λ x. m ++ x) f

module _ (cells : Layout) (is_static : ℕ → Bool) where
  mutual
    pub loop_numbers : (scope : List ℕ) (s : CheckedTree) → numbers_of (loop_sets cells is_static scope s) ≡ loops_in s
    loop_numbers scope (Block all) = all_loop_numbers scope all
    loop_numbers scope (Declare n) = refl
    loop_numbers scope (Static n) = refl
    loop_numbers scope (Initialise n e) = refl
    loop_numbers scope (Label n) = refl
    loop_numbers scope (Evaluate e) = refl
    loop_numbers scope (If e s) = loop_numbers scope s
    loop_numbers scope (IfElse e s t) = both (loop_sets cells is_static scope s) (loop_sets cells is_static scope t) (loops_in s) (loops_in t) (loop_numbers scope s) (loop_numbers scope t)
    loop_numbers scope (While l named e s) = ap (λ ls. l ∷ ls) (loop_numbers scope s)
    loop_numbers scope (Return e) = refl

    pub all_loop_numbers : (scope : List ℕ) (all : CheckedTrees) → numbers_of (all_loop_sets cells is_static scope all) ≡ all_loops_in all
    all_loop_numbers scope none = refl
    all_loop_numbers scope (more s rest) = both (loop_sets cells is_static scope s) (all_loop_sets cells is_static (behind scope s) rest) (loops_in s) (all_loops_in rest) (loop_numbers scope s) (all_loop_numbers (behind scope s) rest)
