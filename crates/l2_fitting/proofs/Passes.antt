-- Going through lines: what was passed fits, and where it stopped is the first that doesn't.
use Rattle.std.proofs.Common.{◌≡◌, ℕ, suc, ◌+◌, ◌<◌, Bool, true, false, if◌then◌else◌, List, [], ◌∷◌, ◌++◌, length, drop, refl, sym, ap, ◌∙◌, subst, arith, Result, Ok, Err}
use Rattle.std.specs.List.{All}
use Rattle.std.proofs.lemmas.List.Elements.{All-cons}
use Rattle.l2_program.specs.Programs.{ProgramTree}
use Rattle.l2_cert.specs.declared.cert.Cert.{Cert}
use Rattle.std.proofs.lemmas.List.{at_drop_more, drop-drop}
use Rattle.l2_templates.specs.declared.form.Form.{Form}
use Rattle.l2_templates.specs.declared.point.LoopPoint.{LoopPoint}
use Rattle.l2_templates.specs.declared.point.LoopPoint.TheVariants.{Bottom}
use Rattle.l2_templates.specs.Points.{loop_at}
use Rattle.l2_fitting.specs.Said.{Said, said, loop_said, first_ranks_said, loops_said}
use Rattle.l2_fitting.specs.Fitting.{fits, NamesFit, IsBadName}
use Rattle.l2_fitting.specs.declared.passing.NameError.{NameError}
use Rattle.l2_fitting.specs.declared.passing.NameError.TheVariants.{BadName, NoMemory}
use Rattle.l2_fitting.specs.Passing.{pass, Tells}

abbrev pub then_pass : ProgramTree → List Said → Result ℕ ℕ → Result ℕ ℕ
then_pass p ys (Ok m) = pass p m ys
then_pass p ys (Err m) = Err m

pub pass-append : (p : ProgramTree) (n : ℕ) (xs ys : List Said) → pass p n (xs ++ ys) ≡ then_pass p ys (pass p n xs)
pass-append p n [] ys = refl
pass-append p n (s ∷ xs) ys = go (fits p s) (pass-append p (suc n) xs ys)
  where
    go : (b : Bool) → pass p (suc n) (xs ++ ys) ≡ then_pass p ys (pass p (suc n) xs) → (if b then pass p (suc n) (xs ++ ys) else Err n) ≡ then_pass p ys (if b then pass p (suc n) xs else Err n)
    go true h = h
    go false h = refl

-- the lines of a part were passed, or one of them wasn't
pub passed : (p : ProgramTree) (n m : ℕ) (xs ys : List Said) → pass p n xs ≡ Ok m → pass p n (xs ++ ys) ≡ pass p m ys
passed p n m xs ys h = pass-append p n xs ys ∙ ap (then_pass p ys) h

pub stopped : (p : ProgramTree) (n m : ℕ) (xs ys : List Said) → pass p n xs ≡ Err m → pass p n (xs ++ ys) ≡ Err m
stopped p n m xs ys h = pass-append p n xs ys ∙ ap (then_pass p ys) h

pub all_fit : (p : ProgramTree) (n m : ℕ) (xs : List Said) → pass p n xs ≡ Ok m → All (λ s. fits p s ≡ true) xs
all_fit p n m [] h = λ k d l. absurd (omega (arith, l))
all_fit p n m (s ∷ xs) h = go (fits p s) refl h (λ t. all_fit p (suc n) m xs t)
  where
    go : (b : Bool) → fits p s ≡ b → (if b then pass p (suc n) xs else Err n) ≡ Ok m → (pass p (suc n) xs ≡ Ok m → All (λ s. fits p s ≡ true) xs) → All (λ s. fits p s ≡ true) (s ∷ xs)
    go true e h k = All-cons (λ t. fits p t ≡ true) s xs e (k h)
    go false e h k = absurd (cc h)

-- the first line that doesn't fit, where lines begin with number n
pub record IsFirst (p : ProgramTree) (n : ℕ) (xs : List Said) (m : ℕ) : Type 0 where
  pub front : List Said
  pub bad : Said
  pub rest : List Said
  pub lines : xs ≡ front ++ bad ∷ rest
  pub number : m ≡ n + length front
  pub good : All (λ s. fits p s ≡ true) front
  pub unfit : fits p bad ≡ false

abbrev error_of : Result ℕ ℕ → ℕ
error_of (Ok m) = 0
error_of (Err m) = m

pub first_unfit : (p : ProgramTree) (n m : ℕ) (xs : List Said) → pass p n xs ≡ Err m → IsFirst p n xs m
first_unfit p n m [] h = absurd (cc h)
first_unfit p n m (s ∷ xs) h = go (fits p s) refl h (λ t. first_unfit p (suc n) m xs t)
  where
    go : (b : Bool) → fits p s ≡ b → (if b then pass p (suc n) xs else Err n) ≡ Err m → (pass p (suc n) xs ≡ Err m → IsFirst p (suc n) xs m) → IsFirst p n (s ∷ xs) m
    go true e h k =
        let f = k h in
        let number : m ≡ suc n + length f.front = f.number in
        record { front = s ∷ f.front; bad = f.bad; rest = f.rest; lines = ap (λ t. s ∷ t) f.lines; number = omega (arith, number); good = All-cons (λ t. fits p t ≡ true) s f.front e f.good; unfit = f.unfit }
    go false e h k = record { front = []; bad = s; rest = xs; lines = refl; number = sym (ap error_of h) ∙ omega arith; good = λ k d l. absurd (omega (arith, l)); unfit = e }

pub names_fit : (p : ProgramTree) (c : Cert) (m : ℕ) → pass p 1 (said c) ≡ Ok m → NamesFit p c
names_fit p c m h = all_fit p 1 m (said c) h

pub bad_name : (p : ProgramTree) (c : Cert) (m : ℕ) → pass p 1 (said c) ≡ Err m → IsBadName p c m
bad_name p c m h =
    let f = first_unfit p 1 m (said c) h in
    let number : m ≡ 1 + length f.front = f.number in
    record { front = f.front; bad = f.bad; rest = f.rest; lines = f.lines; number = omega (arith, number); good = f.good; unfit = f.unfit }

-- what is told of a part and of what follows it
pub tells_stop : (p : ProgramTree) (n : ℕ) (xs ys : List Said) (e : NameError) → Tells (Err e) (pass p n xs) → Tells (Err e) (pass p n (xs ++ ys))
tells_stop p n xs ys (BadName line) h = stopped p n line xs ys h
tells_stop p n xs ys NoMemory h = tt

pub tells_on : (p : ProgramTree) (n m : ℕ) (xs ys : List Said) (r : Result ℕ NameError) → pass p n xs ≡ Ok m → Tells r (pass p m ys) → Tells r (pass p n (xs ++ ys))
tells_on p n m xs ys r h k = subst (Tells r) (sym (passed p n m xs ys h)) k

pub told_bad : (p : ProgramTree) (c : Cert) (e : NameError) (line : ℕ) → e ≡ BadName line → Tells (Err e) (pass p 1 (said c)) → IsBadName p c line
told_bad p c e line same h = bad_name p c line (subst (λ x. Tells (Err x) (pass p 1 (said c))) same h)

-- ---- loops, one by one

one_entry : (l : ℕ) (q : LoopPoint) (point : List LoopPoint) (ranks : List (List Form)) → loops_said l (q ∷ point) ranks ≡ (loop_said l q ++ first_ranks_said l ranks) ++ loops_said (suc l) point (drop 1 ranks)
one_entry l q point [] = refl
one_entry l q point (r ∷ ranks) = refl

pub next_entry : (i : ℕ) (point : List LoopPoint) (ranks : List (List Form)) → i < length point
    → loops_said (suc i) (drop i point) (drop i ranks) ≡ (loop_said (suc i) (loop_at point i) ++ first_ranks_said (suc i) (drop i ranks)) ++ loops_said (suc (i + 1)) (drop (i + 1) point) (drop (i + 1) ranks)
next_entry i point ranks within =
    let count : suc i ≡ i + 1 = omega arith in
    let front = loop_said (suc i) (loop_at point i) ++ first_ranks_said (suc i) (drop i ranks) in
    at_drop_more (λ ps. loops_said (suc i) ps (drop i ranks)) point i Bottom within
    ∙ one_entry (suc i) (loop_at point i) (drop (i + 1) point) (drop i ranks)
    ∙ ap (λ rs. front ++ loops_said (suc (suc i)) (drop (i + 1) point) rs) (drop-drop 1 i ranks)
    ∙ ap (λ n. front ++ loops_said (suc n) (drop (i + 1) point) (drop (i + 1) ranks)) count
