use Rattle.std.proofs.Common.{◌≡◌, ◌∙◌, ◌≤◌, ◌++◌, ℕ, length, take, sym, ap, subst}
use Rattle.std.specs.Prelude.{Some, OnErr}
use Rattle.l2_cdcl.specs.Held.{held_of}
use Rattle.l2_cdcl.proofs.Solvers.{held_added, held_flags, put_back, search_implied}
use Rattle.l2_cdcl.proofs.solver.Solver.add_list.Goals as goal

pub add_list-added-requires : goal.add_list-added-requires
add_list-added-requires c = λ t. c.in_ok-engine.ensures.ok.1 ∙ c.take_engine.ensures.held.fresh (c.requires (sym c.in_ok-engine.ensures.ok.2 ∙ t))

pub invariant_of-self : goal.invariant_of-self
invariant_of-self c =
    let in_it = c.self.inside in
    let flags = held_flags in_it.logged in_it.asked in_it.engine in_it.no_lines in
    let logged : in_it.logged ≡ c.args.self.now.logged = sym flags.0 ∙ ap (λ h. h.logged) c.self.view_is ∙ c.take_engine.ensures.logged in
    let asked : in_it.asked ≡ c.args.self.now.asked = sym flags.1 ∙ ap (λ h. h.asked) c.self.view_is ∙ c.take_engine.ensures.asked in
    let engine = c.add_list-added.new.self in
    put_back in_it.logged in_it.asked engine in_it.no_lines c.self.invariant.empty (c.add_list-added.ensures.logged ∙ c.in_ok-engine.ensures.ok.2 ∙ sym logged)
    (held_added c.args.self.now (held_of in_it.logged in_it.asked (Some engine) in_it.no_lines) c.take_engine.ensures.held (search_implied engine c.facts.ensures) (c.add_list-added.ensures.learnt ∙ c.in_ok-engine.ensures.ok.1) logged asked c.requires)

pub returns-clause-err : goal.returns-clause-err
returns-clause-err c =
    let list = c.args.list.now in
    subst (λ x. OnErr c.add_list-added.result ((n : ℕ) × (n ≤ length list) × (c.add_list-added.new.self.added ≡ x ++ take n list))) c.in_ok-engine.ensures.ok.0 c.add_list-added.ensures.err
