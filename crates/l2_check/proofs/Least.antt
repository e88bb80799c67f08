-- A code has one least family of sets.
use Rattle.std.proofs.Common.{◌≡◌, Bool, true, false, refl, sym, ◌∙◌, subst}
use Rattle.l2_code.specs.Trees.{CodeTree}
use Rattle.l2_code.specs.Sets.{Family, IsInside}
use Rattle.l2_program.specs.Programs.{ProgramTree}
use Rattle.l2_check.specs.Accepting.{IsLeast, Basis}

both_ways : (a b : Bool) → (a ≡ true → b ≡ true) → (b ≡ true → a ≡ true) → a ≡ b
both_ways true b h k = sym (h refl)
both_ways false true h k = k refl
both_ways false false h k = refl

same_family : (f g : Family) → IsInside f g → IsInside g f → f ≡ g
same_family f g h k = λ i. record {
  object = λ n m. both_ways (f.object n m) (g.object n m) (h.objects n m) (k.objects n m) i;
  temp = λ n m. both_ways (f.temp n m) (g.temp n m) (h.temps n m) (k.temps n m) i;
}

pub one_least : (c : CodeTree) (f g : Family) → IsLeast c f → IsLeast c g → f ≡ g
one_least c f g h k = same_family f g (h.least g k.resolved.closed) (k.least f h.resolved.closed)

-- what holds of one basis of a program holds of each other
pub moved : (p : ProgramTree) (P : CodeTree → Family → Type 0) (a b : Basis p) → P a.tree a.sets → P b.tree b.sets
moved p P a b h =
    let same : a.tree ≡ b.tree = a.is_code ∙ sym b.is_code in
    let there : IsLeast a.tree b.sets = subst (λ t. IsLeast t b.sets) (sym same) b.least in
    subst (λ t. P t b.sets) same (subst (P a.tree) (one_least a.tree a.sets b.sets a.least there) h)
