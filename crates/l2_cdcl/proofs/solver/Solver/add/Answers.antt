use Rattle.std.proofs.Common.{◌≡◌, ◌∙◌, sym, ap}
use Rattle.std.specs.Prelude.{Some}
use Rattle.l2_cdcl.specs.Held.{held_of}
use Rattle.l2_cdcl.proofs.Solvers.{held_added, held_flags, put_back, search_implied}
use Rattle.l2_cdcl.proofs.solver.Solver.add.Goals as goal

pub add-added-requires : goal.add-added-requires
add-added-requires c = λ t. c.in_ok-engine.ensures.ok.1 ∙ c.take_engine.ensures.held.fresh (c.requires (sym c.in_ok-engine.ensures.ok.2 ∙ t))

pub invariant_of-self : goal.invariant_of-self
invariant_of-self c =
    let in_it = c.self.inside in
    let flags = held_flags in_it.logged in_it.asked in_it.engine in_it.no_lines in
    let logged : in_it.logged ≡ c.args.self.now.logged = sym flags.0 ∙ ap (λ h. h.logged) c.self.view_is ∙ c.take_engine.ensures.logged in
    let asked : in_it.asked ≡ c.args.self.now.asked = sym flags.1 ∙ ap (λ h. h.asked) c.self.view_is ∙ c.take_engine.ensures.asked in
    let engine = c.add-added.new.self in
    put_back in_it.logged in_it.asked engine in_it.no_lines c.self.invariant.empty (c.add-added.ensures.logged ∙ c.in_ok-engine.ensures.ok.2 ∙ sym logged)
    (held_added c.args.self.now (held_of in_it.logged in_it.asked (Some engine) in_it.no_lines) c.take_engine.ensures.held (search_implied engine c.facts.ensures) (c.add-added.ensures.learnt ∙ c.in_ok-engine.ensures.ok.1) logged asked c.requires)
