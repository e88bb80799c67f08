-- A certificate of what refutes the goals.
use Rattle.std.proofs.Common.{ℕ, ◌<◌, ◌≤◌, ◌^◌, Bool, List, length, refl, subst}
use Rattle.std.specs.List.{All}
use Rattle.l2_cnf.specs.Steps.{Step}
use Rattle.l2_templates.specs.declared.form.Form.{Form}
use Rattle.l2_templates.specs.declared.point.LoopPoint.{LoopPoint}
use Rattle.l2_cert.specs.declared.cert.CertKind.{CertKind}
use Rattle.l2_cert.specs.Certificate.{IsLoop, RanksFit}
use Rattle.l2_goals.specs.Formulas.{Formulas}
use Rattle.l2_goals.specs.declared.making.Goals as rust
use Rattle.l2_goals.specs.Numbers.{all_numbers, AreFormulas}
use Rattle.l2_refute.specs.Refuting.{SomeHasModel, AreRefuted}
use Rattle.l2_certify.specs.Certifying.{SomeGoalHasModel, Certifies}

-- of formulas as they were handed over
pub some_model : (g : rust.Goals) (fs : Formulas) → AreFormulas g fs → SomeHasModel g.base g.last → SomeGoalHasModel fs
some_model g fs f h = subst (λ x. SomeHasModel x (all_numbers fs.last)) f.base (subst (λ x. SomeHasModel g.base x) f.last h)

pub certified : (kind : CertKind) (overflow : Bool) (k : ℕ) (point : List LoopPoint) (ranks : List (List Form)) (g : rust.Goals) (fs : Formulas) (steps : List (List Step)) → AreFormulas g fs
    → 1 ≤ k → k ≤ 64 → length point < 2 ^ 32 → All IsLoop point → RanksFit kind point ranks → length steps < 2 ^ 32
    → AreRefuted (record { base = g.base; variables = g.variables; last = g.last; steps = steps })
    → Certifies kind overflow k point ranks fs (record { kind = kind; overflow = overflow; k = k; point = point; ranks = ranks; goals = steps })
certified kind overflow k point ranks g fs steps f some most few loops fit count r =
    record {
      kind_is = refl;
      overflow_is = refl;
      k_is = refl;
      point_is = refl;
      ranks_are = refl;
      spelt = record { some_copies = some; most_copies = most; loops = few; point = loops; ranks = fit; goal_count = count; goals = r.spelt };
      refuted = subst AreRefuted (λ i. record { base = f.base i; variables = f.variables i; last = f.last i; steps = steps }) r;
    }
