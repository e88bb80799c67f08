use Rattle.std.proofs.Common.{◌∷◌, [], ◌∙◌, codes, sym, ap, drop}
use Rattle.l2_cert.proofs.lines.is_first.Goals as goal

pub returns-in-None : goal.returns-in-None
returns-in-None c =
    (λ yes. cc, λ is. absurd (c.in-None.ensures (codes "1" ∷ []) (ap (drop 1) (sym c.in-Some.ensures ∙ is))))
