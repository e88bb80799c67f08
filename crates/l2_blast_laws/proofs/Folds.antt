-- All steps, one after another.
use Rattle.std.proofs.Common.{◌≡◌, ℕ, ◌<◌, refl, ◌∙◌, List, [], ◌∷◌, ◌++◌, length, arith}
use Rattle.l2_ssa.specs.Steps.{Step}
use Rattle.l2_gates.specs.Gates.{Made, start}
use Rattle.l2_gates.specs.Models.{Sound, Extends}
use Rattle.l2_gates.proofs.Made.{ext_refl, ext_then}
use Rattle.l2_blast.specs.Words.{Env, name, Setting, word_of}
use Rattle.l2_blast.specs.Blasting.{Blasted, named, blast, clauses_of}
use Rattle.l2_blast_laws.specs.Law.{IsMade, StepsAreMade}
use Rattle.l2_blast_laws.specs.Behind.{behind, StandsBehind}
use Rattle.l2_blast_laws.proofs.Circuits.{Circuits}
use Rattle.l2_blast_laws.proofs.Envs.{length_push, name_push, name_last, each_push, IsThere, EnvBelow, env_up, name_below}
use Rattle.l2_blast_laws.proofs.Making.{step_makes}

-- ---- names stay

pub names_stay : (s : Setting) (xs : List Step) (env : Env) (m : Made) (i : ℕ) → i < length env → name (blast s xs env m).env i ≡ name env i
names_stay s [] env m i h = refl
names_stay s (x ∷ xs) env m i h =
    let w = named x (word_of s x env m) in
    names_stay s xs (env ++ w ∷ []) (word_of s x env m).made i (let e = length_push env w in omega (arith, e, h)) ∙ name_push env w i h

pub own_name : (s : Setting) (x : Step) (xs : List Step) (env : Env) (m : Made) → name (blast s (x ∷ xs) env m).env (length env) ≡ named x (word_of s x env m)
own_name s x xs env m =
    let w = named x (word_of s x env m) in
    names_stay s xs (env ++ w ∷ []) (word_of s x env m).made (length env) (let e = length_push env w in omega (arith, e)) ∙ name_last env w

-- ---- what is made

pub record Folds (m : Made) (b : Blasted) : Type 0 where
  pub below : EnvBelow b.made.next b.env
  pub extends : Extends m b.made

module _ (c : Circuits) (s : Setting) (fill : IsMade s.fill) where
  pub all_made : (xs : List Step) (env : Env) (m : Made) → Sound m → EnvBelow m.next env → Folds m (blast s xs env m)
  all_made [] env m so h = record { below = h; extends = ext_refl m so }
  all_made (x ∷ xs) env m so h =
      let w = word_of s x env m in
      let k = step_makes c s fill m so env h x in
      let r = all_made xs (env ++ named x w ∷ []) w.made k.extends.sound
      (each_push (IsThere w.made.next) env (named x w) (env_up m.next w.made.next env k.extends.grows h) k.bits) in
      record { below = r.below; extends = ext_then m w.made (blast s xs (env ++ named x w ∷ []) w.made).made k.extends r.extends }

  pub steps_made_behind : (m : Made) → Sound m → (xs : List Step) → StandsBehind s xs m
  steps_made_behind m so xs =
      let f = all_made xs [] m so tt in
      record { extends = f.extends; words = λ n. name_below (behind s xs m).made.next (behind s xs m).env n f.below }

  pub start_sound : Sound start
  start_sound = record { some = omega arith; clauses = ((omega arith, tt), tt) }

  pub steps_made : (xs : List Step) → StepsAreMade s xs
  steps_made xs =
      let f = all_made xs [] start start_sound tt in
      record { sound = f.extends.sound; words = λ n. name_below (clauses_of s xs).made.next (clauses_of s xs).env n f.below }
