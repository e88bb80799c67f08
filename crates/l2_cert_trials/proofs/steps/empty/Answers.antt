use Rattle.std.proofs.Common.{rules, ◌≡◌, ◌++◌, ◌∷◌, [], length, sym, ap, subst, arith}
use Rattle.std.proofs.lemmas.List.{length-append}
use Rattle.l2_cnf.specs.Logic.{AllWithin, IsWithin}
use Rattle.l2_cnf.proofs.Within.{AllWithin-push}
use Rattle.l2_cert_trials.proofs.steps.empty.Goals as goal

nothing_within : IsWithin 1 []
nothing_within = λ l has. absurd (omega (arith, has.1))

pub loop-preserved : goal.loop-preserved
loop-preserved c =
    let pushed : c.push.new.self ≡ c.loop.list ++ [] ∷ [] = search rules in
    record {
      within = subst (AllWithin 1) (sym pushed) (AllWithin-push 1 c.loop.list [] c.loop.invariant.within nothing_within);
      counted = omega (arith, c.loop.invariant.counted, ap length pushed, length-append c.loop.list ([] ∷ []));
    }
