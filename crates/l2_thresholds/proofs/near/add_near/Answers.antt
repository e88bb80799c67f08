use Rattle.std.proofs.Common.{◌≡◌, ◌++◌, ◌∷◌, [], pos, ◌+ℤ◌, ◌-ℤ◌, arith, to_z-of_z}
use Rattle.std.specs.Prelude.{neg_ℤ}
use Rattle.l2_thresholds.proofs.Firsts.{pushed}
use Rattle.l2_thresholds.proofs.near.add_near.Goals as goal

pub returns : goal.returns
returns c =
    let e1 : c.push.new.self.items ≡ c.args.all.now.items ++ (c.args.c -ℤ pos 1) ∷ [] = let h = c.in_ok-push.ensures.items in grind (arith, to_z-of_z) in
    let e2 : c.push-2.new.self.items ≡ c.push.new.self.items ++ c.args.c ∷ [] = let h = c.in_ok-push-2.ensures.items in grind (arith, to_z-of_z) in
    let e3 : c.push-3.new.self.items ≡ c.push-2.new.self.items ++ (c.args.c +ℤ pos 1) ∷ [] = let h = c.in_ok-push-3.ensures.items in grind (arith, to_z-of_z) in
    let e4 : c.push-4.new.self.items ≡ c.push-3.new.self.items ++ (neg_ℤ c.args.c -ℤ pos 1) ∷ [] = let h = c.in_ok-push-4.ensures.items in grind (arith, to_z-of_z) in
    let e5 : c.push-5.new.self.items ≡ c.push-4.new.self.items ++ neg_ℤ c.args.c ∷ [] = let h = c.in_ok-push-5.ensures.items in grind (arith, to_z-of_z) in
    let e6 : c.push-6.new.self.items ≡ c.push-5.new.self.items ++ (neg_ℤ c.args.c +ℤ pos 1) ∷ [] = let h = c.in_ok-push-6.ensures.items in grind (arith, to_z-of_z) in
    pushed c.args.all.now.items _ _ _ _ (pushed c.args.all.now.items _ _ _ _ (pushed c.args.all.now.items _ _ _ _ (pushed c.args.all.now.items _ _ _ _ (pushed c.args.all.now.items _ _ _ _ e1 e2) e3) e4) e5) e6
