use Rattle.std.proofs.Common.{sym, ap, ◌∙◌, subst}
use Rattle.l2_runs.specs.Numbers.{at_number}
use Rattle.l2_runs.specs.Members.{has}
use Rattle.l2_code.specs.Sets.{members_of}
use Rattle.l2_code.specs.Sizes.{cells_in}
use Rattle.l2_size.specs.Capped.{capped}
use Rattle.l2_size.specs.Tables.{or_zero, AreTables}
use Rattle.l2_size.proofs.Reaches.{read_off, same_as, among, one_more, made}
use Rattle.l2_size.proofs.scale.Scale.set_reach.Goals as goal

pub returns-in-Some-clause-is : goal.returns-in-Some-clause-is
returns-in-Some-clause-is c =
    let objects = c.self.inside.code.now.objects in
    let sets = c.self.inside.sets.now.sets in
    let t = c.in-Some.table.now in
    let are = subst (AreTables objects sets) (sym c.as_slice.ensures.value) c.self.invariant.tables in
    c.number_at.ensures ∙ ap (λ counts. or_zero (at_number counts c.args.set)) c.as_slice-in-Some.ensures.value
    ∙ read_off objects sets t c.args.ty c.args.set (among objects sets c.as_slice.result.now t are c.in-Some.ensures.1) c.in-Some.ensures.0
    ∙ ap (λ l. capped (cells_in (has (members_of (at_number l.sets.sets c.args.set))) c.args.ty 1 l.code.objects)) c.self.view_is

pub invariant_of-self-2 : goal.invariant_of-self-2
invariant_of-self-2 c =
    let objects = c.self.inside.code.now.objects in
    let sets = c.self.inside.sets.now.sets in
    let t = c.in_ok-table.table in
    let is = made objects c.as_slice-2.result.now sets c.as_slice-3.result.now t c.args.ty c.as_slice-2.ensures c.as_slice-3.ensures c.in_ok-table.ensures.0 c.in_ok-table.ensures.1 in
    record {
      rise = c.self.invariant.rise;
      tables = subst (AreTables objects sets) (sym c.in_ok-push.ensures.items) (one_more objects sets c.self.inside.tables.items t c.self.invariant.tables is);
    }

pub returns-clause-is : goal.returns-clause-is
returns-clause-is c =
    let objects = c.self.inside.code.now.objects in
    let sets = c.self.inside.sets.now.sets in
    let t = c.in_ok-table.table in
    let is = made objects c.as_slice-2.result.now sets c.as_slice-3.result.now t c.args.ty c.as_slice-2.ensures c.as_slice-3.ensures c.in_ok-table.ensures.0 c.in_ok-table.ensures.1 in
    c.number_at-n.ensures ∙ ap (λ counts. or_zero (at_number counts c.args.set)) c.as_slice-4.ensures.value
    ∙ read_off objects sets t c.args.ty c.args.set is (same_as c.args.ty t.ty c.in_ok-table.ensures.0)
    ∙ ap (λ l. capped (cells_in (has (members_of (at_number l.sets.sets c.args.set))) c.args.ty 1 l.code.objects)) c.self.view_is
