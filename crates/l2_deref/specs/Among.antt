-- What resolved code does: its reads and writes look for their cell among the candidates alone.
use Rattle.std.specs.Prelude.{Bool, true, if◌then◌else◌, List, Option, Some, None}
use Rattle.l2_runs.specs.declared.cells.CellType.{CellType}
use Rattle.l2_runs.specs.Fits.{Layout}
use Rattle.l2_runs.specs.Store.{Address}
use Rattle.l2_runs.specs.Runs.{Run, and_then, done, stop, read, write}
use Rattle.l2_runs.specs.Loops.{Limit, Tests}
use Rattle.l2_code.specs.declared.action.Operand.{Operand}
use Rattle.l2_code.specs.declared.action.Action.{Action}
use Rattle.l2_code.specs.declared.action.Action.TheVariants as action
use Rattle.l2_code.specs.declared.sets.Sets.{Sets}
use Rattle.l2_code.specs.Trees.{Node, Do, Block, Loop, Nodes, none, more, CodeTree}
use Rattle.l2_code.specs.Values.{Temps, no_temps, with_temp, operand_value, cell_of}
use Rattle.l2_code.specs.Machine.{Setting, Way, On, Out, or_stuck, act, follow, leave, close, code_loop}
use Rattle.l2_code.specs.Modes.{types_of}
use Rattle.l2_deref.specs.declared.candidate.Candidate.{Candidate}
use Rattle.l2_deref.specs.Candidates.{candidates, is_among}

-- an address, where it is among candidates
abbrev pub where_among : List Candidate → Option Address → Option Address
where_among list None = None
where_among list (Some a) = if is_among list a then Some a else None

abbrev pub cell_among : Layout → Sets → CellType → Operand → Temps → Option Address
cell_among cells s ty a t = where_among (candidates cells s ty a) (cell_of cells ty (operand_value t a))

abbrev pub act_among : Sets → Setting → Bool → Action → Temps → Run Way
act_among s g b (action.Read n ty a) t =
    and_then (or_stuck (cell_among g.types.objects s ty a t)) (λ at. and_then (read at) (λ v. done (On (with_temp t n v))))
act_among s g b (action.Write ty a x) t =
    and_then (or_stuck (cell_among g.types.objects s ty a t)) (λ at. and_then (write at (operand_value t x)) (λ u. done (On t)))
act_among s g b a t = act g b a t

abbrev mutual
  pub node_among : Sets → Setting → Bool → Node → Temps → Run Way
  node_among s g b (Do a) t = act_among s g b a t
  node_among s g b (Block all) t = and_then (nodes_among s g b all t) (λ w. done (leave t w))
  node_among s g b (Loop l all) t = and_then (code_loop g l (λ c. and_then (nodes_among s g c all t) (λ w. done (close w))) b) (λ n. done (Out n))

  pub nodes_among : Sets → Setting → Bool → Nodes → Temps → Run Way
  nodes_among s g b none t = done (On t)
  nodes_among s g b (more x rest) t = and_then (node_among s g b x t) (follow (nodes_among s g b rest))

-- the run of a resolved code
abbrev pub run_among : CodeTree → Sets → Limit → Tests → Run (Unit {0})
run_among c s limit tests = and_then (nodes_among s (record { limit = limit; tests = tests; types = types_of c }) true c.body no_temps) (λ w. stop)
