use Rattle.std.proofs.Common.{subst, sym}
use Rattle.l2_inclusions.specs.Edges.{AllPass}
use Rattle.l2_inclusions.proofs.Settled.{Part, part_goes, taken_numbers}
use Rattle.l2_inclusions.proofs.settle.Settling.settle_part.Goals as goal

pub union_of-requires : goal.union_of-requires
union_of-requires c = taken_numbers c.args.graph.now c.args.rows.now c.as_slice.result.now c.in_ok-numbers.numbers.items c.facts.ensures c.in_ok-numbers.ensures

pub returns : goal.returns
returns c =
    let p : Part c.args.graph.now c.args.rows.now c.union_of.new.rows c.lead.new.rows c.args.root c.in_ok-list.list.items c.in_ok-numbers.numbers.items c.in_ok-number.number c.in_ok-reached.reached.items = record {
      rows = c.facts.ensures;
      back = c.in_ok-list.ensures;
      taken = λ w q leads moves zero all. c.in_ok-numbers.ensures w q leads moves zero (subst (AllPass w) (sym c.as_slice.ensures.value) all);
      grows = c.in_ok-number.ensures.grows;
      union = c.in_ok-number.ensures.brings;
      on = c.in_ok-reached.ensures;
      sets = c.lead.ensures.sets;
      led = λ q all. c.lead.ensures.led q (subst (AllPass q) (sym c.as_slice-2.ensures.value) all);
    } in
    part_goes p
