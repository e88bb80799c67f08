-- Code with one label at each place is direct where the code is.
use Rattle.std.proofs.Common.{Bool, true, false, List, [], ◌∷◌}
use Rattle.l2_runs.specs.Fits.{Layout}
use Rattle.l2_code.specs.declared.action.Action.{Action}
use Rattle.l2_code.specs.declared.action.Action.TheVariants as action
use Rattle.l2_code.specs.Trees.{Node, Do, Block, Loop, Nodes, none, more}
use Rattle.l2_labels.specs.Labels.{redirected, where_last, single, at_end, merged}
use Rattle.l2_typed_steps.specs.Direct.{IsDirectAction, IsDirectNode, AreDirect}
use Rattle.l2_direct_code.specs.Law.{StaysDirect}

by_case : (P : Nodes → Type 0) (rest last other : Nodes) → P last → P other → P (where_last rest last other)
by_case P none last other p q = p
by_case P (more x rest) last other p q = q

module _ (cells : Layout) where
  action_direct : (stays : List Bool) (a : Action) → IsDirectAction cells a → IsDirectAction cells (redirected stays a)
  action_direct stays (action.Unless a i) d = tt
  action_direct stays (action.Goto i) d = tt
  action_direct stays (action.Compute i c) d = d
  action_direct stays (action.Read i ty a) d = d
  action_direct stays (action.Write ty a x) d = d
  action_direct stays (action.Choice i ty) d = d
  action_direct stays (action.Assume a) d = d
  action_direct stays (action.Check i a) d = d
  action_direct stays (action.Live i) d = d
  action_direct stays (action.Dead i) d = d
  action_direct stays action.End d = d

  mutual
    single_direct : (stays : List Bool) (x : Node) → IsDirectNode cells x → IsDirectNode cells (single stays x)
    single_direct stays (Do a) d = action_direct stays a d
    single_direct stays (Block all) d = merged_direct (true ∷ stays) true all d
    single_direct stays (Loop l all) d = merged_direct stays false all d

    last_direct : (stays : List Bool) (inside : Bool) (x : Node) → IsDirectNode cells x → AreDirect cells (at_end stays inside x)
    last_direct stays true (Block all) d = merged_direct (false ∷ stays) true all d
    last_direct stays false (Block all) d = (merged_direct (true ∷ stays) true all d, tt)
    last_direct stays inside (Do a) d = (action_direct stays a d, tt)
    last_direct stays inside (Loop l all) d = (merged_direct stays false all d, tt)

    merged_direct : (stays : List Bool) (inside : Bool) (xs : Nodes) → AreDirect cells xs → AreDirect cells (merged stays inside xs)
    merged_direct stays inside none d = tt
    merged_direct stays inside (more x rest) d =
        by_case (AreDirect cells) rest (at_end stays inside x) (more (single stays x) (merged stays inside rest))
        (last_direct stays inside x d.0) (single_direct stays x d.0, merged_direct stays inside rest d.1)

pub direct_law : StaysDirect
direct_law cells c d = merged_direct cells [] false c.body d
