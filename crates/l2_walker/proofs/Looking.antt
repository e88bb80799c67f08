-- Candidates and flags, object by object.
use Rattle.std.proofs.Common.{arith, ◌≡◌, ℕ, zero, suc, ◌+◌, ◌-◌, ◌<◌, Bool, refl, subst, List, [], ◌∷◌, ◌++◌}
use Rattle.std.specs.Prelude.{if◌then◌else◌}
use Rattle.l2_runs.specs.declared.cells.CellType.{CellType}
use Rattle.l2_runs.specs.declared.member.Member.{Member}
use Rattle.l2_runs.specs.declared.member.Member.TheVariants as member
use Rattle.l2_ssa.specs.Walks.{Setting, Slot, slot_at, candidates, flags_of, places_in}

nothing_more : {A : Type 0} (xs ys : List A) → xs ++ ys ≡ (xs ++ []) ++ ys
nothing_more [] ys = refl
nothing_more (x ∷ xs) ys = λ i. x ∷ nothing_more xs ys i

pub candidates_more : (g : Setting) (set : Member → Bool) (ty : CellType) (o n : ℕ) → 0 < n → candidates g set ty o n ≡ candidates g set ty o (suc zero) ++ candidates g set ty (o + 1) (n - 1)
candidates_more g set ty o zero h = absurd (omega (arith, h))
candidates_more g set ty o (suc n) h =
    subst (λ k. candidates g set ty o (suc n) ≡ candidates g set ty o (suc zero) ++ candidates g set ty (o + 1) k) (omega arith)
    (subst (λ j. candidates g set ty o (suc n) ≡ candidates g set ty o (suc zero) ++ candidates g set ty j n) (omega arith)
    (nothing_more (if set (member.Object o) then places_in ty o 0 (g.types.objects o) else []) (candidates g set ty (suc o) n)))

pub flags_more : (set : Member → Bool) (slots : List Slot) (o n : ℕ) → 0 < n → flags_of set slots o n ≡ flags_of set slots o (suc zero) ++ flags_of set slots (o + 1) (n - 1)
flags_more set slots o zero h = absurd (omega (arith, h))
flags_more set slots o (suc n) h =
    subst (λ k. flags_of set slots o (suc n) ≡ flags_of set slots o (suc zero) ++ flags_of set slots (o + 1) k) (omega arith)
    (subst (λ j. flags_of set slots o (suc n) ≡ flags_of set slots o (suc zero) ++ flags_of set slots j n) (omega arith)
    (nothing_more (if set (member.Object o) then record { object = o; live = (slot_at slots o).live } ∷ [] else []) (flags_of set slots (suc o) n)))
