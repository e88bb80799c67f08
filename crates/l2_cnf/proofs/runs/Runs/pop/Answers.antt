use Rattle.std.proofs.Common.{◌≡◌, ◌-◌, ◌∙◌, ◌++◌, ◌∷◌, [], List, ℕ, length, take, get_or, sym, ap, subst, arith}
use Rattle.std.proofs.lemmas.List.{length_push, length-take-le}
use Rattle.l2_cnf.specs.Lists.{cut, AreEnds}
use Rattle.l2_cnf.proofs.Cuts.{cut-front, cut-pop, length-cut}
use Rattle.l2_cnf.proofs.runs.Runs.pop.Given.{Over}
use Rattle.l2_cnf.proofs.runs.Runs.pop.Goals as goal

-- what is left is cut at the ends that are left
left : (g : Over) (c : goal.After-truncate g) → (AreEnds 0 c.pop.new.self.items c.bounds-start.result.0) × (cut 0 c.pop.new.self.items (take c.bounds-start.result.0 c.self.inside.items.items) ≡ cut 0 c.pop.new.self.items c.self.inside.items.items)
left g c =
    let front : List ℕ = c.pop.new.self.items in
    let end : ℕ = c.in-Some.field-0 in
    let was : c.self.inside.ends.items ≡ front ++ end ∷ [] = c.in-Some.ensures.items in
    let at : c.len.result - 1 ≡ length front = omega (arith, ap length was, length_push front end) in
    let start : c.bounds-start.result.0 ≡ get_or (0 ∷ (front ++ end ∷ [])) (length front) 0 = c.bounds-start.ensures.start ∙ ap (λ xs. get_or (0 ∷ xs) (c.len.result - 1) 0) (c.deref.ensures.value ∙ was) ∙ ap (λ i. get_or (0 ∷ (front ++ end ∷ [])) i 0) at in
    cut-pop 0 front end c.bounds-start.result.0 c.self.inside.items.items (subst (λ ends. AreEnds 0 ends (length c.self.inside.items.items)) was c.self.invariant) start (omega (arith, c.bounds-start.ensures.order, c.bounds-start.ensures.total))

pub invariant_of-self : goal.invariant_of-self
invariant_of-self g c =
    let n : length c.truncate.new.self.items ≡ c.bounds-start.result.0 = ap length c.truncate.ensures.items ∙ length-take-le c.bounds-start.result.0 c.self.inside.items.items (omega (arith, c.bounds-start.ensures.order, c.bounds-start.ensures.total)) in
    subst (AreEnds 0 c.pop.new.self.items) (sym n) (left g c).0

pub returns : goal.returns
returns g c =
    let front : List ℕ = c.pop.new.self.items in
    let end : ℕ = c.in-Some.field-0 in
    let all = c.self.inside.items.items in
    let was : c.self.inside.ends.items ≡ front ++ end ∷ [] = c.in-Some.ensures.items in
    let n : length c.args.self.now - 1 ≡ length front = omega (arith, ap length c.self.view_is, length-cut 0 c.self.inside.ends.items all, ap length was, length_push front end) in
    let view : cut 0 (front ++ end ∷ []) all ≡ c.args.self.now = ap (λ ends. cut 0 ends all) (sym was) ∙ c.self.view_is in
    ap (cut 0 front) c.truncate.ensures.items ∙ (left g c).1 ∙ sym (cut-front 0 front end all) ∙ ap (take (length front)) view ∙ ap (λ i. take i c.args.self.now) (sym n)
