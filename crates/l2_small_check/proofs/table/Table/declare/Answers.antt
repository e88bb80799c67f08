use Rattle.std.proofs.Common.{◌≡◌, ◌<◌, ◌+◌, ◌≤◌, [], ◌∷◌, ◌++◌, length, sym, subst, arith}
use Rattle.std.specs.Prelude.{slice_set}
use Rattle.l2_small_check.specs.Tables.{place_of, ArePlaced, AreDeclared}
use Rattle.l2_small_check.proofs.Places.{placed_still, placed_more, declared_more}
use Rattle.l2_small_check.proofs.table.Table.declare.Goals as goal

pub invariant_of-self-in_err-push-2 : goal.invariant_of-self-in_err-push-2
invariant_of-self-in_err-push-2 c =
    let new : place_of c.self.inside.places.items c.args.name ≡ 0 = grind arith in
    let entries : c.push-2.new.self.items ≡ c.self.inside.entries.items = c.in_err-push-2.ensures.items in
    let objects : c.push.new.self.items ≡ c.self.inside.objects.items ++ c.in_ok-variable.variable ∷ [] = c.in_ok-push.ensures.items in
    let named : c.in_ok-variable.variable.name ≡ c.args.name = grind arith in
    let few : length c.push.new.self.items ≤ 65536 = grind arith in
    let same = c.grow.ensures.same in
    let room : c.args.name < length c.grow.new.places.items = c.in_ok-grow.ensures.room in (
      subst (λ xs. ArePlaced xs (slice_set c.grow.new.places.items c.args.name (c.len-2.result + 1))) (sym entries)
          (placed_still _ _ _ _ same new room _ c.self.invariant.0),
      subst (λ xs. AreDeclared xs (slice_set c.grow.new.places.items c.args.name (c.len-2.result + 1))) (sym objects)
          (declared_more _ _ _ _ same new room _ _ named (omega arith) c.self.invariant.1),
      few,
    )

pub invariant_of-self-2 : goal.invariant_of-self-2
invariant_of-self-2 c =
    let new : place_of c.self.inside.places.items c.args.name ≡ 0 = grind arith in
    let entries : c.push-2.new.self.items ≡ c.self.inside.entries.items ++ record { name = c.args.name; object = c.len-object.result } ∷ [] = c.in_ok-push-2.ensures.items in
    let objects : c.push.new.self.items ≡ c.self.inside.objects.items ++ c.in_ok-variable.variable ∷ [] = c.in_ok-push.ensures.items in
    let named : c.in_ok-variable.variable.name ≡ c.args.name = grind arith in
    let few : length c.push.new.self.items ≤ 65536 = grind arith in
    let same = c.grow.ensures.same in
    let room : c.args.name < length c.grow.new.places.items = c.in_ok-grow.ensures.room in (
      subst (λ xs. ArePlaced xs (slice_set c.grow.new.places.items c.args.name (c.len-2.result + 1))) (sym entries)
          (placed_more _ _ _ _ same new room _ _ (grind arith) c.self.invariant.0),
      subst (λ xs. AreDeclared xs (slice_set c.grow.new.places.items c.args.name (c.len-2.result + 1))) (sym objects)
          (declared_more _ _ _ _ same new room _ _ named (omega arith) c.self.invariant.1),
      few,
    )
