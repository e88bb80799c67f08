-- What code does.
use Rattle.std.specs.Prelude.{ℕ, zero, suc, Bool, Option, Some, None}
use Rattle.l2_bits.specs.Values.{wrap}
use Rattle.l2_runs.specs.declared.cells.CellValue.{CellValue}
use Rattle.l2_runs.specs.declared.cells.CellValue.TheVariants.{Number}
use Rattle.l2_runs.specs.declared.outcome.Outcome.TheVariants.{Ended}
use Rattle.l2_runs.specs.Runs.{Over, Fallen, Run, and_then, done, over, stop, either, choose, read, write, enliven, bury, check}
use Rattle.l2_runs.specs.Loops.{Limit, Tests, loop_of}
use Rattle.l2_code.specs.declared.action.Action.{Action}
use Rattle.l2_code.specs.declared.action.Action.TheVariants as action
use Rattle.l2_code.specs.declared.action.Computation.{Computation}
use Rattle.l2_code.specs.Trees.{Node, Do, Block, Loop, Nodes, none, more}
use Rattle.l2_code.specs.Values.{Types, Temps, with_temp, operand_value, is_true, cell_of, compute}

-- what the meaning of code depends on: the limit on loops, the tests at the ends of their turns, and the types of cells
pub record Setting : Type 0 where
  pub limit : Limit
  pub tests : Tests
  pub types : Types

-- where code leads: on, with these temporaries, or out of the block behind so many others
pub data Way : Type 0 where
  On : Temps → Way
  Out : ℕ → Way

-- an operator whose check would break, and a read or write of what is no cell: well-formed code comes to none
abbrev pub or_stuck : {A : Type 0} → Option A → Run A
or_stuck None = over (Fallen 0 0)
or_stuck (Some x) = done x

abbrev pub computed : Types → Temps → Computation → Run CellValue
computed types t c s = or_stuck (compute types s.store t c) s

-- an instruction, where checks count or not
abbrev pub act : Setting → Bool → Action → Temps → Run Way
act g b (action.Compute n c) t = and_then (computed g.types t c) (λ v. done (On (with_temp t n v)))
act g b (action.Read n ty a) t =
    and_then (or_stuck (cell_of g.types.objects ty (operand_value t a))) (λ at. and_then (read at) (λ v. done (On (with_temp t n v))))
act g b (action.Write ty a x) t =
    and_then (or_stuck (cell_of g.types.objects ty (operand_value t a))) (λ at. and_then (write at (operand_value t x)) (λ u. done (On t)))
act g b (action.Choice n ty) t = and_then choose (λ z. done (On (with_temp t n (Number (wrap ty z)))))
act g b (action.Assume a) t = either (is_true (operand_value t a)) (done (On t)) stop
act g b (action.Check c a) t = and_then (check b c (is_true (operand_value t a))) (λ u. done (On t))
act g b (action.Unless a n) t = either (is_true (operand_value t a)) (done (On t)) (done (Out n))
act g b (action.Goto n) t = done (Out n)
act g b (action.Live o) t = and_then (enliven o) (λ u. done (On t))
act g b (action.Dead o) t = and_then (bury o) (λ u. done (On t))
act g b action.End t = over (Over Ended)

-- goes on, where the way does
abbrev pub follow : (Temps → Run Way) → Way → Run Way
follow next (On t) = next t
follow next (Out n) = done (Out n)

-- the way behind a block's end, where the temporaries are those before the block
abbrev pub leave : Temps → Way → Way
leave t (On u) = On t
leave t (Out zero) = On t
leave t (Out (suc n)) = Out n

-- the end of a turn: falling to it leads to the next arrival
abbrev pub close : Way → Option ℕ
close (On t) = None
close (Out n) = Some n

-- a loop by its turn, which says by how many blocks the loop is left, or None where the next arrival follows
abbrev pub code_loop : Setting → ℕ → (Bool → Run (Option ℕ)) → Bool → Run ℕ
code_loop g l turn counted =
    and_then (loop_of g.limit g.tests l (λ b (u : Unit {0}). and_then (turn b) (λ o. done (tt, o))) counted tt) (λ r. done r.1)

abbrev mutual
  pub node : Setting → Bool → Node → Temps → Run Way
  node g b (Do a) t = act g b a t
  node g b (Block all) t = and_then (nodes g b all t) (λ w. done (leave t w))
  node g b (Loop l all) t = and_then (code_loop g l (λ c. and_then (nodes g c all t) (λ w. done (close w))) b) (λ n. done (Out n))

  pub nodes : Setting → Bool → Nodes → Temps → Run Way
  nodes g b none t = done (On t)
  nodes g b (more x rest) t = and_then (node g b x t) (follow (nodes g b rest))
