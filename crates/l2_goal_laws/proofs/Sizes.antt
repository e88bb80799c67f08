-- How many objects and cells a well-formed code has.
use Rattle.std.proofs.Common.{◌≡◌, ℕ, zero, suc, ◌<◌, ◌≤◌, Bool, true, false, ◌==◌, if◌then◌else◌, List, [], ◌∷◌, length, Option, Some, None, refl, ap, subst, arith, slice_get}
use Rattle.std.proofs.lemmas.Bool.Decides.{nat_tests}
use Rattle.l2_runs.specs.Numbers.{at_number}
use Rattle.l2_code.specs.declared.code.CodeObject.{CodeObject}
use Rattle.l2_code.specs.declared.code.CodeLoop.{CodeLoop}
use Rattle.l2_code.specs.Trees.{CodeTree}
use Rattle.l2_code.specs.Modes.{types_of, object_cells}
use Rattle.l2_code.specs.WellFormed.{All, IsVariable, IsWellFormed}
use Rattle.l2_pointer_circuits.specs.Shows.{IsSmall}
use Rattle.l2_ssa.specs.Law.{loop_vars}
use Rattle.l2_blast.specs.Words.{Fill}
use Rattle.l2_blast.specs.Kept.{setting_of}
use Rattle.l2_blast_laws.specs.Law.{IsSized}
use Rattle.l2_given_steps.specs.Law.{IsFew}
use Rattle.l2_ssa_points.specs.Places.{later, place, vars_of}

-- an object that has cells is listed
listed : (xs : List CodeObject) (n : ℕ) → 0 < length (object_cells (slice_get xs n)) → suc n ≤ length xs
listed [] zero h = absurd (omega (arith, h))
listed [] (suc n) h = absurd (omega (arith, h))
listed (x ∷ xs) zero h = omega arith
listed (x ∷ xs) (suc n) h = let k = listed xs n h in omega (arith, k)

module _ (c : CodeTree) (wf : IsWellFormed c) where
  some : (o : ℕ) → 0 < length ((types_of c).objects o) → 1 ≤ o
  some zero h = absurd (omega (arith, h))
  some (suc n) h = omega arith

  counted : (o : ℕ) → 0 < length ((types_of c).objects o) → o ≤ length c.objects
  counted zero h = omega arith
  counted (suc n) h = listed c.objects n h

  few : (o : ℕ) → 0 < length ((types_of c).objects o) → o ≤ 131070
  few o h = let k = counted o h in let l = wf.few_objects in omega (arith, k, l)

  short : (o : ℕ) → length ((types_of c).objects o) ≤ 65536
  short o = go (at_number c.objects o) refl
    where
      go : (x : Option CodeObject) → at_number c.objects o ≡ x → length (object_cells x) ≤ 65536
      go None e = omega arith
      go (Some x) e = (wf.objects o x e).sized.1

  pub small : IsSmall (types_of c).objects
  small = record { some = some; few = few; short = short }

  pub is_few : IsFew (types_of c).objects
  is_few = record { few = few; short = short }

  pub sized : (fill : Fill) → IsSized (setting_of c fill)
  sized fill = record { small = small; counted = counted }

  -- 0 is no variable
  not_placed : (vars : List ℕ) → All (λ n. IsVariable ((types_of c).objects n)) vars → place vars 0 ≡ 0
  not_placed [] h = refl
  not_placed (w ∷ ws) h = go (w == 0) refl (not_placed ws h.1)
    where
      go : (b : Bool) → (w == 0) ≡ b → place ws 0 ≡ 0 → (if b then 1 else later (place ws 0)) ≡ 0
      go true e k = let same : w ≡ 0 = grind (arith, nat_tests) in absurd (subst (λ n. IsVariable ((types_of c).objects n)) same h.0)
      go false e k = ap later k

  pub no_zero : (l : ℕ) → place (vars_of c l) 0 ≡ 0
  no_zero l = go (at_number c.loops l) refl
    where
      go : (x : Option CodeLoop) → at_number c.loops l ≡ x → place (loop_vars x) 0 ≡ 0
      go None e = refl
      go (Some x) e = not_placed x.vars (wf.loops l x e).variables
