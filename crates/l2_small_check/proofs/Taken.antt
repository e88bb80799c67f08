-- The loops of `main`, once they took their sets.
use Rattle.std.proofs.Common.{◌≡◌, ℕ, zero, suc, Bool, true, if◌then◌else◌, List, [], ◌∷◌, ◌++◌, length, map, Some, refl, ap, sym, ◌∙◌, subst, arith, append-nil}
use Rattle.std.specs.Prelude.{◌==◌, slice_get}
use Rattle.std.proofs.Math.Seq.{append_snoc}
use Rattle.std.proofs.lemmas.List.{length-append}
use Rattle.l2_runs.specs.Numbers.{at_number, numbers_where}
use Rattle.l2_program.specs.declared.program.LoopInfo.{LoopInfo}
use Rattle.l2_meaning.specs.declared.sets.LoopSets.{LoopSets}
use Rattle.l2_meaning.specs.Changes.{take_sets, HasSets, HaveSets}
use Rattle.l2_meaning.proofs.Loops.{numbers_of}
use Rattle.l2_small_check.specs.Spelling.{bare}

abbrev pub is_mains_loop : LoopInfo → Bool
is_mains_loop l = l.function == 1

-- loops of `main` that have no sets
abbrev pub AreMains : List LoopInfo → Type 0
AreMains [] = Unit {0}
AreMains (l ∷ rest) = (l.function ≡ 1) × (bare l ≡ l) × AreMains rest

pub taken_numbers : (n : ℕ) (ls : List LoopInfo) (sets : List LoopSets) → numbers_where is_mains_loop n (take_sets ls sets) ≡ numbers_where is_mains_loop n ls
taken_numbers n [] sets = refl
taken_numbers n (l ∷ ls) [] = refl
taken_numbers n (l ∷ ls) (s ∷ sets) = ap (λ ns. if is_mains_loop l then n ∷ ns else ns) (taken_numbers (suc n) ls sets)

pub taken_function : (ls : List LoopInfo) (sets : List LoopSets) (i : ℕ) (l : LoopInfo) → AreMains ls → slice_get (take_sets ls sets) i ≡ Some l → l.function ≡ 1
taken_function [] sets i l h e = cc
taken_function (x ∷ ls) [] zero l (a, b, r) e = let q : x ≡ l = cc in ap (λ (y : LoopInfo). y.function) (sym q) ∙ a
taken_function (x ∷ ls) [] (suc i) l (a, b, r) e = taken_function ls [] i l r (ap (λ xs. slice_get xs i) (no_sets ls) ∙ e) where
  no_sets : (ls : List LoopInfo) → take_sets ls [] ≡ ls
  no_sets [] = refl
  no_sets (l ∷ ls) = refl
taken_function (x ∷ ls) (s ∷ sets) zero l (a, b, r) e = let q : record x { mods = s.mods; vars = s.vars } ≡ l = cc in ap (λ (y : LoopInfo). y.function) (sym q) ∙ a
taken_function (x ∷ ls) (s ∷ sets) (suc i) l (a, b, r) e = taken_function ls sets i l r e

pub bare_taken : (ls : List LoopInfo) (sets : List LoopSets) → AreMains ls → map bare (take_sets ls sets) ≡ ls
bare_taken [] sets h = refl
bare_taken (l ∷ ls) [] (a, b, r) = ap (λ x. x ∷ map bare ls) b ∙ ap (λ xs. l ∷ xs) (all_bare ls r) where
  all_bare : (ls : List LoopInfo) → AreMains ls → map bare ls ≡ ls
  all_bare [] h = refl
  all_bare (l ∷ ls) (a, b, r) = ap (λ x. x ∷ map bare ls) b ∙ ap (λ xs. l ∷ xs) (all_bare ls r)
bare_taken (l ∷ ls) (s ∷ sets) (a, b, r) = ap (λ x. x ∷ map bare (take_sets ls sets)) b ∙ ap (λ xs. l ∷ xs) (bare_taken ls sets r)

-- ---- each loop has the sets of its number

at_seam : (before : List LoopInfo) (x : LoopInfo) (rest : List LoopInfo) → at_number (before ++ x ∷ rest) (suc (length before)) ≡ Some x
at_seam [] x rest = refl
at_seam (y ∷ before) x rest = at_seam before x rest

have_taken : (before ls : List LoopInfo) (sets : List LoopSets) → AreMains ls → numbers_of sets ≡ numbers_where is_mains_loop (suc (length before)) ls → HaveSets (before ++ take_sets ls sets) sets
have_taken before ls [] h e = tt
have_taken before [] (s ∷ sets) h e = cc
have_taken before (l ∷ ls) (s ∷ sets) (a, b, r) e =
    let main : is_mains_loop l ≡ true = ap (λ k. k == 1) a in
    let split : s.number ∷ numbers_of sets ≡ suc (length before) ∷ numbers_where is_mains_loop (suc (suc (length before))) ls = e ∙ ap (λ c. if c then suc (length before) ∷ numbers_where is_mains_loop (suc (suc (length before))) ls else numbers_where is_mains_loop (suc (suc (length before))) ls) main in
    let first : suc (length before) ≡ s.number = cc in
    let rest : numbers_of sets ≡ numbers_where is_mains_loop (suc (suc (length before))) ls = cc in
    let grown : length (before ++ record l { mods = s.mods; vars = s.vars } ∷ []) ≡ suc (length before) = length-append before (record l { mods = s.mods; vars = s.vars } ∷ []) ∙ omega arith in (
      subst (λ k. HasSets (at_number (before ++ record l { mods = s.mods; vars = s.vars } ∷ take_sets ls sets) k) s) first
          (subst (λ x. HasSets x s) (sym (at_seam before (record l { mods = s.mods; vars = s.vars }) (take_sets ls sets))) (refl, refl)),
      subst (λ xs. HaveSets xs sets) (append_snoc before (record l { mods = s.mods; vars = s.vars }) (take_sets ls sets))
          (have_taken (before ++ record l { mods = s.mods; vars = s.vars } ∷ []) ls sets r (rest ∙ ap (λ k. numbers_where is_mains_loop (suc k) ls) (sym grown))),
    )

pub sets_taken : (ls : List LoopInfo) (sets : List LoopSets) (numbers : List ℕ) → AreMains ls → numbers_of sets ≡ numbers → numbers_where is_mains_loop 1 ls ≡ numbers → HaveSets (take_sets ls (sets ++ [])) sets
sets_taken ls sets numbers h e f = subst (λ xs. HaveSets (take_sets ls xs) sets) (sym (append-nil sets)) (have_taken [] ls sets h (e ∙ sym f))
