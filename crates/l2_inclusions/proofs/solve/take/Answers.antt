use Rattle.std.proofs.Common.{arith, subst, sym, List}
use Rattle.l2_runs.specs.declared.member.Member.{Member}
use Rattle.l2_inclusions.specs.declared.inclusion.Inclusion.{Inclusion}
use Rattle.l2_inclusions.specs.Inclusions.{Keeps}
use Rattle.l2_inclusions.specs.Rows.{Brings}
use Rattle.l2_inclusions.proofs.Forced.{Given, given_forced}
use Rattle.l2_inclusions.proofs.solve.take.Goals as goal

pub returns-in_ok-number : goal.returns-in_ok-number
returns-in_ok-number c =
    let p : Given c.args.inclusions.now c.args.rows.now c.add.new.self c.unite.new.self c.assign.new.self c.in-Has.node c.in-Has.member c.in_ok-one.one c.number.result c.in_ok-number.number = record {
      asked = λ f closed. subst (λ (x : Inclusion). Keeps f x) c.in-Has.is (closed c.args.i _ (omega arith));
      rows = c.facts.ensures;
      first = c.in_ok-one.ensures.grows;
      single = λ m x b. c.in_ok-one.ensures.brings m x (subst (λ (ms : List Member). Brings ms m x) (sym c.in_ok-vec.ensures.items) b);
      before = c.number.ensures.value;
      second = c.in_ok-number.ensures.grows;
      union = c.in_ok-number.ensures.brings;
      sets = c.assign.ensures.sets;
      at = c.assign.ensures.at;
    } in
    given_forced p
