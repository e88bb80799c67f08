use Rattle.std.proofs.Common.{arith, subst, ◌≡◌, true}
use Rattle.l2_runs.specs.declared.member.Member.{Member}
use Rattle.l2_runs.specs.Members.{has}
use Rattle.l2_inclusions.specs.Rows.{members_at}
use Rattle.l2_inclusions.proofs.Due.{due_store}
use Rattle.l2_inclusions.proofs.build.push_store.Goals as goal

pub returns-in_ok-push : goal.returns-in_ok-push
returns-in_ok-push c = λ all.
    due_store all c.args.rows.now c.args.graph.now c.push.new.self c.args.number c.in-Object.object c.store_node.result c.object_node-node.result
    (subst (λ (x : Member). has (members_at c.args.rows.now.sets c.args.number) x ≡ true) c.in-Object.is c.requires.member)
    (omega (arith, c.object_node-node.ensures, c.nodes.ensures.value)) c.store_node.ensures c.object_node-node.ensures c.in_ok-push.ensures
