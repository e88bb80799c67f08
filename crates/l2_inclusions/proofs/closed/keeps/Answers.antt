use Rattle.std.proofs.Common.{subst, sym}
use Rattle.l2_inclusions.specs.declared.inclusion.Inclusion.{Inclusion}
use Rattle.l2_inclusions.specs.Inclusions.{Keeps}
use Rattle.l2_inclusions.specs.Rows.{set_at}
use Rattle.l2_inclusions.proofs.Holding.{loads_keep, stores_keep}
use Rattle.l2_inclusions.proofs.closed.keeps.Goals as goal

pub returns-in-Loads-clause-keeps : goal.returns-in-Loads-clause-keeps
returns-in-Loads-clause-keeps c = λ e.
    subst (λ (x : Inclusion). Keeps (set_at c.args.rows.now) x) (sym c.in-Loads.is)
    (loads_keep c.args.rows.now c.in-Loads.pointer c.in-Loads.to _ _ c.number-in-Loads.ensures.value c.number-in-Loads-2.ensures.value (c.loads_hold.ensures.holds e))

pub returns-in-Stores-clause-keeps : goal.returns-in-Stores-clause-keeps
returns-in-Stores-clause-keeps c = λ e.
    subst (λ (x : Inclusion). Keeps (set_at c.args.rows.now) x) (sym c.in-Stores.is)
    (stores_keep c.args.rows.now c.in-Stores.pointer c.in-Stores.from _ _ c.number-in-Stores.ensures.value c.number-in-Stores-2.ensures.value (c.stores_hold.ensures.holds e))
