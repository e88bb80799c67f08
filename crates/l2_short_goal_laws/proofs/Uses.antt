-- The choices and turns of a model are those of the solution that it shows.
use Rattle.std.proofs.Common.{arith, ◌≡◌, refl, ap, ◌∙◌, ℕ, suc, ◌+◌, ◌≤◌, Bool, true, false, if◌then◌else◌, pos, List, [], ◌∷◌, ◌++◌, length, map}
use Rattle.l2_bits.specs.Values.{wrap}
use Rattle.l2_code.specs.declared.action.Operand.{Operand}
use Rattle.l2_code.specs.declared.action.Operand.TheVariants.{Constant, Temp}
use Rattle.l2_code.specs.Values.{Types}
use Rattle.l2_ssa.specs.Steps.{Step, Choose, Take, Half, Point, Among, Compute, Alive, Pick, Row, Lower, Apart, Both, But, Either, Merge, Names, on, number_in, IsBefore, InOrder}
use Rattle.l2_gates.specs.Gates.{Made, start}
use Rattle.l2_gates.specs.Models.{value}
use Rattle.l2_circuit_laws.specs.Values.{values, number}
use Rattle.l2_blast.specs.Sorts.{Sorts, IsTruth, AreTyped, sort_of}
use Rattle.l2_blast.specs.Words.{Env, name, literal, Setting, word_of}
use Rattle.l2_blast.specs.Blasting.{named, blast, clauses_of}
use Rattle.l2_blast_laws.specs.Law.{shown, solution}
use Rattle.l2_blast_laws.proofs.Envs.{length_push}
use Rattle.l2_blast_laws.proofs.Folds.{own_name}
use Rattle.l2_short_laws.specs.Used.{used, arrivals}
use Rattle.l2_short_goals.specs.Taken.{choices_of, made_choices, count_true}
use Rattle.l2_short_goal_laws.proofs.Heads.{AreTruths}

-- the names of steps have the steps' sorts
abbrev pub Sorted : Env → ℕ → List Step → Type 0
Sorted env n [] = Unit {0}
Sorted env n (x ∷ xs) = ((name env n).sort ≡ sort_of x) × Sorted env (suc n) xs

blast_sorted : (s : Setting) (xs : List Step) (env : Env) (m : Made) (n : ℕ) → n ≡ length env → Sorted (blast s xs env m).env n xs
blast_sorted s [] env m n e = tt
blast_sorted s (x ∷ xs) env m n e =
    let w = word_of s x env m in
    let long = length_push env (named x w) in
    let next : suc n ≡ length (env ++ named x w ∷ []) = omega (arith, e, long) in
    (ap (λ i. (name (blast s (x ∷ xs) env m).env i).sort) e ∙ ap (λ y. y.sort) (own_name s x xs env m), blast_sorted s xs (env ++ named x w ∷ []) w.made (suc n) next)

pub clauses_sorted : (s : Setting) (xs : List Step) → Sorted (clauses_of s xs).env 0 xs
clauses_sorted s xs = blast_sorted s xs [] start 0 refl

module _ (types : Types) (env : Env) (v : ℕ → Bool) (sorts : Sorts) (total : ℕ) (shows : (a : Operand) → IsBefore total a → IsTruth sorts a → on (solution env v) a ≡ value v (literal env a)) where
  abbrev s : Names
  s = solution env v

  before : (n : ℕ) (a : Operand) → n ≤ total → IsBefore n a → IsBefore total a
  before n (Constant c) h b = tt
  before n (Temp i) h b = omega (arith, h, b)

  pub used_same : (n : ℕ) (xs : List Step) → n + length xs ≡ total → InOrder n xs → AreTyped types sorts xs → Sorted env n xs → used s n xs ≡ made_choices v (choices_of env n xs)
  used_same n [] e r t k = refl
  used_same n (Take g ty ∷ xs) e r t k =
      let p : on s g ≡ value v (literal env g) = shows g (before n g (omega (arith, e)) r.0) t.0 in
      let z : number_in (s n) ≡ wrap ty (pos (number (values v (name env n).bits))) = ap (λ q. number_in (shown v q (name env n).bits)) k.0 in
      let rest = used_same (suc n) xs (omega (arith, e)) r.1 t.1 k.1 in
      λ i. if p i then z i ∷ rest i else rest i
  used_same n (Choose g ∷ xs) e r t k = used_same (suc n) xs (omega (arith, e)) r.1 t.1 k.1
  used_same n (Half g ∷ xs) e r t k = used_same (suc n) xs (omega (arith, e)) r.1 t.1 k.1
  used_same n (Point g sel off ∷ xs) e r t k = used_same (suc n) xs (omega (arith, e)) r.1 t.1 k.1
  used_same n (Among g sel off set ∷ xs) e r t k = used_same (suc n) xs (omega (arith, e)) r.1 t.1 k.1
  used_same n (Compute g c set ∷ xs) e r t k = used_same (suc n) xs (omega (arith, e)) r.1 t.1 k.1
  used_same n (Alive g a flags ∷ xs) e r t k = used_same (suc n) xs (omega (arith, e)) r.1 t.1 k.1
  used_same n (Pick g a o f ty x y ∷ xs) e r t k = used_same (suc n) xs (omega (arith, e)) r.1 t.1 k.1
  used_same n (Row g l i vars ∷ xs) e r t k = used_same (suc n) xs (omega (arith, e)) r.1 t.1 k.1
  used_same n (Lower g l old new ∷ xs) e r t k = used_same (suc n) xs (omega (arith, e)) r.1 t.1 k.1
  used_same n (Apart g a b ∷ xs) e r t k = used_same (suc n) xs (omega (arith, e)) r.1 t.1 k.1
  used_same n (Both a b ∷ xs) e r t k = used_same (suc n) xs (omega (arith, e)) r.1 t.1 k.1
  used_same n (But a b ∷ xs) e r t k = used_same (suc n) xs (omega (arith, e)) r.1 t.1 k.1
  used_same n (Either a b ∷ xs) e r t k = used_same (suc n) xs (omega (arith, e)) r.1 t.1 k.1
  used_same n (Merge g h ty x y ∷ xs) e r t k = used_same (suc n) xs (omega (arith, e)) r.1 t.1 k.1

  pub arrivals_same : (n : ℕ) (hs : List Operand) → AreTruths total sorts hs → arrivals s n hs ≡ n + count_true v (map (literal env) hs)
  arrivals_same n [] h = omega arith
  arrivals_same n (a ∷ hs) h = go (value v (literal env a)) (shows a h.0.0 h.0.1) (arrivals_same n hs h.1) (arrivals_same (suc n) hs h.1)
    where
      go : (b : Bool) → on s a ≡ b → arrivals s n hs ≡ n + count_true v (map (literal env) hs) → arrivals s (suc n) hs ≡ suc n + count_true v (map (literal env) hs)
          → arrivals s (if on s a then suc n else n) hs ≡ n + (if b then suc (count_true v (map (literal env) hs)) else count_true v (map (literal env) hs))
      go true e same more = ap (λ q. arrivals s (if q then suc n else n) hs) e ∙ more ∙ omega arith
      go false e same more = ap (λ q. arrivals s (if q then suc n else n) hs) e ∙ same
