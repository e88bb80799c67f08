-- What joined code does: the one, and then the other.
use Rattle.std.proofs.Common.{◌≡◌, refl, Bool}
use Rattle.l2_runs.specs.Runs.{State, Result, Go, Halt, Run, on_go, and_then}
use Rattle.l2_code.specs.Trees.{Nodes, none, more, join}
use Rattle.l2_code.specs.Values.{Temps}
use Rattle.l2_code.specs.Machine.{Setting, Way, On, Out, follow, node, nodes}

followed : (f h : Temps → Run Way) (next : Temps → Run Way) (r : Result Way)
    → ((t : Temps) (s : State) → h t s ≡ on_go (f t s) (follow next)) → on_go r (follow h) ≡ on_go (on_go r (follow f)) (follow next)
followed f h next (Go (On t) s) same = same t s
followed f h next (Go (Out n) s) same = refl
followed f h next (Halt e s) same = refl

pub nodes-join : (g : Setting) (b : Bool) (xs ys : Nodes) (t : Temps) (s : State)
    → nodes g b (join xs ys) t s ≡ and_then (nodes g b xs t) (follow (nodes g b ys)) s
nodes-join g b none ys t s = refl
nodes-join g b (more x rest) ys t s =
    followed (nodes g b rest) (nodes g b (join rest ys)) (nodes g b ys) (node g b x t s) (nodes-join g b rest ys)
