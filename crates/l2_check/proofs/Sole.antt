-- A certificate has one refusal at most.
use Rattle.std.proofs.Common.{◌≡◌, ◌≢◌, ℕ, suc, ◌+◌, ◌<◌, ◌≤◌, true, false, ℤ, List, [], ◌∷◌, ◌++◌, length, refl, sym, ap, ◌∙◌, subst, arith, append-nil, append_assoc}
use Rattle.std.specs.List.{All}
use Rattle.std.proofs.lemmas.List.Elements.{All-head, All-tail}
use native.Mathlib.Decide.{dec_lt}
use Rattle.l2_program.specs.Programs.{ProgramTree}
use Rattle.l2_code.specs.Trees.{CodeTree}
use Rattle.l2_code.specs.Sets.{Family}
use Rattle.l2_code.specs.Sizes.{instructions}
use Rattle.l2_cnf.specs.Steps.{Step, IsStep, IsDerivation, clauses_of}
use Rattle.l2_lower.specs.Output.{most_instructions}
use Rattle.l2_lower.specs.Code.{code}
use Rattle.l2_unwind.specs.Refused.{most_weight}
use Rattle.l2_cert.specs.declared.cert.Cert.{Cert}
use Rattle.l2_fitting.specs.Said.{Said}
use Rattle.l2_fitting.specs.Fitting.{fits, NamesFit, IsBadName}
use Rattle.l2_derivations.specs.Goals.{Goals, Holds, FailsAt, IsOpen, IsFirst, BreaksAt, StaysOpen, formula_at, steps_at}
use Rattle.l2_check.specs.declared.checking.CheckError.{CheckError}
use Rattle.l2_check.specs.declared.checking.CheckError.TheVariants.{BadName, Size, WrongGoals, BadStep, Unclosed, NoMemory}
use Rattle.l2_check.specs.Accepting.{Basis, IsCounted, IsMiscounted, IsFailed, IsFailedBy, IsTooLarge, alone, unwound, IsRefusal, weight_at, problem_at}
use Rattle.l2_check.specs.Law.{OneRefusal}
use Rattle.l2_check.proofs.Least.{moved}
use Rattle.l2_check.proofs.Refusing.{apart, not_both, few_there, names_unfit, refuted_all, refuted_ends}

-- ---- the first line that doesn't fit

module _ (p : ProgramTree) where
  abbrev pub Fit : Said → Type 0
  Fit s = fits p s ≡ true

  same_line : (f : List Said) (x : Said) (r : List Said) (g : List Said) (y : Said) (s : List Said) → f ++ x ∷ r ≡ g ++ y ∷ s → All Fit f → fits p x ≡ false → All Fit g → fits p y ≡ false → length f ≡ length g
  same_line [] x r [] y s e a h b k = refl
  same_line [] x r (z ∷ g) y s e a h b k =
      let is : x ≡ z = cc in
      absurd (apart (fits p x) (subst Fit (sym is) (All-head Fit z g b)) h)
  same_line (z ∷ f) x r [] y s e a h b k =
      let is : z ≡ y = cc in
      absurd (apart (fits p y) (subst Fit is (All-head Fit z f a)) k)
  same_line (z ∷ f) x r (w ∷ g) y s e a h b k =
      let rest : f ++ x ∷ r ≡ g ++ y ∷ s = cc in
      ap suc (same_line f x r g y s rest (All-tail Fit z f a) h (All-tail Fit w g b) k)

one_line : (p : ProgramTree) (c : Cert) (n m : ℕ) → IsBadName p c n → IsBadName p c m → n ≡ m
one_line p c n m h k = h.number ∙ ap suc (same_line p h.front h.bad h.rest k.front k.bad k.rest (sym h.lines ∙ k.lines) h.good h.unfit k.good k.unfit) ∙ sym k.number

-- ---- the first step that isn't accepted

abbrev pub Accepted : List (List ℤ) → ℕ → List Step → Step → Type 0
Accepted formula variables front s = IsStep (formula ++ clauses_of front) variables s.number s.clause s.hints

first_accepted : (formula : List (List ℤ)) (variables : ℕ) (s : Step) → IsStep formula variables s.number s.clause s.hints → Accepted formula variables [] s
first_accepted formula variables s h = subst (λ cs. IsStep cs variables s.number s.clause s.hints) (sym (append-nil formula)) h

later_accepted : (formula : List (List ℤ)) (variables : ℕ) (t : Step) (front : List Step) (s : Step) → Accepted (formula ++ t.clause ∷ []) variables front s → Accepted formula variables (t ∷ front) s
later_accepted formula variables t front s h = subst (λ cs. IsStep cs variables s.number s.clause s.hints) (append_assoc formula (t.clause ∷ []) (clauses_of front)) h

same_step : (variables : ℕ) (formula : List (List ℤ)) (f : List Step) (x : Step) (r : List Step) (g : List Step) (y : Step) (s : List Step) → f ++ x ∷ r ≡ g ++ y ∷ s
    → IsDerivation formula variables f → ¬ Accepted formula variables f x → IsDerivation formula variables g → ¬ Accepted formula variables g y → length f ≡ length g
same_step variables formula [] x r [] y s e a h b k = refl
same_step variables formula [] x r (z ∷ g) y s e a h b k =
    let is : z ≡ x = cc in
    absurd (h (first_accepted formula variables x (subst (λ t. IsStep formula variables t.number t.clause t.hints) is b.0)))
same_step variables formula (z ∷ f) x r [] y s e a h b k =
    let is : z ≡ y = cc in
    absurd (k (first_accepted formula variables y (subst (λ t. IsStep formula variables t.number t.clause t.hints) is a.0)))
same_step variables formula (z ∷ f) x r (w ∷ g) y s e a h b k =
    let is : w ≡ z = cc in
    let rest : f ++ x ∷ r ≡ g ++ y ∷ s = cc in
    let k_there : ¬ Accepted formula variables (z ∷ g) y = subst (λ t. ¬ Accepted formula variables (t ∷ g) y) is k in
    ap suc (same_step variables (formula ++ z.clause ∷ []) f x r g y s rest a.1 (λ t. h (later_accepted formula variables z f x t))
    (subst (λ t. IsDerivation (formula ++ t.clause ∷ []) variables g) is b.1) (λ t. k_there (later_accepted formula variables z g y t)))

one_step : (formula : List (List ℤ)) (variables : ℕ) (steps : List Step) (n m : ℕ) → FailsAt formula variables steps n → FailsAt formula variables steps m → n ≡ m
one_step formula variables steps n m (f, x, r, is, number, derived, fails) (g, y, s, is_too, number_too, derived_too, fails_too) =
    number ∙ ap (λ k. k + 1) (same_step variables formula f x r g y s (sym is ∙ is_too) derived fails derived_too fails_too) ∙ sym number_too

-- ---- the first goal that isn't refuted

module _ (g : Goals) where
  -- two faults of the first goal that has one
  pub record AreSame (n m : ℕ) (F G : ℕ → Type 0) : Type 0 where
    pub same : n ≡ m
    pub index : ℕ
    pub one : F index
    pub other : G index

  one_goal : (from to n m : ℕ) (F G : ℕ → Type 0) → ((i : ℕ) → F i → ¬ Holds g i) → ((i : ℕ) → G i → ¬ Holds g i) → IsFirst g from to n F → IsFirst g from to m G → AreSame n m F G
  one_goal from to n m F G no_f no_g (i, is, low, high, before, fails) (j, is_too, low_too, high_too, before_too, fails_too) = go (dec_lt i j) (dec_lt j i)
    where
      go : Dec (i < j) → Dec (j < i) → AreSame n m F G
      go (yes l) d = absurd (no_f i fails (before_too i low l))
      go (no l) (yes d) = absurd (no_g j fails_too (before j low_too d))
      go (no l) (no d) =
          let e : i ≡ j = omega (arith, l, d) in
          record { same = is ∙ ap (λ k. k + 1) e ∙ sym is_too; index = j; one = subst F e fails; other = fails_too }

  abbrev pub Breaks : ℕ → ℕ → Type 0
  Breaks s i = FailsAt (formula_at g i) g.variables (steps_at g i) s

  abbrev pub Opens : ℕ → Type 0
  Opens i = IsOpen (formula_at g i) g.variables (steps_at g i)

  broken : (s i : ℕ) → Breaks s i → ¬ Holds g i
  broken s i h k = refuted_all (formula_at g i) g.variables (steps_at g i) s k h

  opened : (i : ℕ) → Opens i → ¬ Holds g i
  opened i h k = refuted_ends (formula_at g i) g.variables (steps_at g i) k h

  both_broken : (to n s m t : ℕ) → BreaksAt g 0 to n s → BreaksAt g 0 to m t → (n ≡ m) × (s ≡ t)
  both_broken to n s m t h k =
      let both = one_goal 0 to n m (Breaks s) (Breaks t) (broken s) (broken t) h k in
      (both.same, one_step (formula_at g both.index) g.variables (steps_at g both.index) s t both.one both.other)

  both_open : (to n m : ℕ) → StaysOpen g 0 to n → StaysOpen g 0 to m → n ≡ m
  both_open to n m h k = (one_goal 0 to n m Opens Opens opened opened h k).same

accepted_between : (variables : ℕ) (formula : List (List ℤ)) (front : List Step) (x : Step) (rest : List Step) → IsDerivation formula variables (front ++ x ∷ rest) → Accepted formula variables front x
accepted_between variables formula [] x rest d = first_accepted formula variables x d.0
accepted_between variables formula (t ∷ front) x rest d = later_accepted formula variables t front x (accepted_between variables (formula ++ t.clause ∷ []) front x rest d.1)

-- all steps are accepted, so none fails
open_breaks : (formula : List (List ℤ)) (variables : ℕ) (steps : List Step) (s : ℕ) → IsOpen formula variables steps → ¬ FailsAt formula variables steps s
open_breaks formula variables steps s h (f, x, r, is, number, derived, fails) = fails (accepted_between variables formula f x r (subst (IsDerivation formula variables) is h.0))

not_open_too : (g : Goals) (to n s m : ℕ) → BreaksAt g 0 to n s → ¬ StaysOpen g 0 to m
not_open_too g to n s m h k =
    let both = one_goal g 0 to n m (Breaks g s) (Opens g) (broken g s) (opened g) h k in
    open_breaks (formula_at g both.index) g.variables (steps_at g both.index) s both.other both.one

-- ---- over a code

module _ (t : CodeTree) (f : Family) (c : Cert) where
  too_large : weight_at t f c ≤ most_weight → ¬ (most_weight < weight_at t f c)
  too_large small large = not_both (weight_at t f c) most_weight small large

  miscounted_too : (have want : ℕ) → IsMiscounted t f c have want → ¬ IsCounted t f c
  miscounted_too have want h k = h.differ (h.have_is ∙ k.counted ∙ sym h.want_is)

  one_failure : (d e : CheckError) → d ≢ NoMemory → e ≢ NoMemory → IsFailed t f c d → IsFailed t f c e → d ≡ e
  one_failure (BadName line) e some some_too h k = absurd h
  one_failure NoMemory e some some_too h k = absurd (some refl)
  one_failure d (BadName line) some some_too h k = absurd k
  one_failure d NoMemory some some_too h k = absurd (some_too refl)
  one_failure Size Size some some_too h k = refl
  one_failure Size (WrongGoals have want) some some_too h k = absurd (too_large k.small h)
  one_failure Size (BadStep goal step) some some_too h k = absurd (too_large k.0.small h)
  one_failure Size (Unclosed goal) some some_too h k = absurd (too_large k.0.small h)
  one_failure (WrongGoals have want) Size some some_too h k = absurd (too_large h.small k)
  one_failure (WrongGoals have want) (WrongGoals have_too want_too) some some_too h k =
      let e : have ≡ have_too = h.have_is ∙ sym k.have_is in
      let f : want ≡ want_too = h.want_is ∙ sym k.want_is in
      cc
  one_failure (WrongGoals have want) (BadStep goal step) some some_too h k = absurd (miscounted_too have want h k.0)
  one_failure (WrongGoals have want) (Unclosed goal) some some_too h k = absurd (miscounted_too have want h k.0)
  one_failure (BadStep goal step) Size some some_too h k = absurd (too_large h.0.small k)
  one_failure (BadStep goal step) (WrongGoals have want) some some_too h k = absurd (miscounted_too have want k h.0)
  one_failure (BadStep goal step) (BadStep goal_too step_too) some some_too h k =
      let both = both_broken (problem_at t f c) (length c.goals) goal step goal_too step_too h.1 k.1 in
      let e : goal ≡ goal_too = both.0 in
      let f : step ≡ step_too = both.1 in
      cc
  one_failure (BadStep goal step) (Unclosed goal_too) some some_too h k = absurd (not_open_too (problem_at t f c) (length c.goals) goal step goal_too h.1 k.1)
  one_failure (Unclosed goal) Size some some_too h k = absurd (too_large h.0.small k)
  one_failure (Unclosed goal) (WrongGoals have want) some some_too h k = absurd (miscounted_too have want k h.0)
  one_failure (Unclosed goal) (BadStep goal_too step) some some_too h k = absurd (not_open_too (problem_at t f c) (length c.goals) goal_too step goal k.1 h.1)
  one_failure (Unclosed goal) (Unclosed goal_too) some some_too h k = ap Unclosed (both_open (problem_at t f c) (length c.goals) goal goal_too h.1 k.1)

-- ---- of a program

pub data Cause (p : ProgramTree) (c : Cert) : CheckError → Type 0 where
  named : {line : ℕ} → IsBadName p c line → Cause p c (BadName line)
  large : NamesFit p c → most_instructions < instructions (code p).body → Cause p c Size
  later : {e : CheckError} → IsFailedBy p c e → Cause p c e

of_size : (p : ProgramTree) (c : Cert) → IsTooLarge p c → Cause p c Size
of_size p c (alone names big) = large names big
of_size p c (unwound h) = later h

cause_of : (p : ProgramTree) (c : Cert) (e : CheckError) → e ≢ NoMemory → IsRefusal p c e → Cause p c e
cause_of p c (BadName line) some h = named h
cause_of p c Size some h = of_size p c h
cause_of p c (WrongGoals have want) some h = later h
cause_of p c (BadStep goal step) some h = later h
cause_of p c (Unclosed goal) some h = later h
cause_of p c NoMemory some h = absurd (some refl)

not_large : (p : ProgramTree) (b : Basis p) → ¬ (most_instructions < instructions (code p).body)
not_large p b big = not_both (instructions (code p).body) most_instructions (few_there p b) big

one_cause : (p : ProgramTree) (c : Cert) (d e : CheckError) → d ≢ NoMemory → e ≢ NoMemory → Cause p c d → Cause p c e → d ≡ e
one_cause p c d e some some_too (named {line = n} h) (named {line = m} k) = ap BadName (one_line p c n m h k)
one_cause p c d e some some_too (named {line = n} h) (large names big) = absurd (names_unfit p c n h names)
one_cause p c d e some some_too (named {line = n} h) (later k) = absurd (names_unfit p c n h k.names)
one_cause p c d e some some_too (large names big) (named {line = m} k) = absurd (names_unfit p c m k names)
one_cause p c d e some some_too (large names big) (large other big_too) = refl
one_cause p c d e some some_too (large names big) (later k) = absurd (not_large p k.basis big)
one_cause p c d e some some_too (later h) (named {line = m} k) = absurd (names_unfit p c m k h.names)
one_cause p c d e some some_too (later h) (large names big) = absurd (not_large p h.basis big)
one_cause p c d e some some_too (later h) (later k) =
    one_failure k.basis.tree k.basis.sets c d e some some_too (moved p (λ t f. IsFailed t f c d) h.basis k.basis h.failed) k.failed

pub one_refusal : OneRefusal
one_refusal p c d e some some_too h k = one_cause p c d e some some_too (cause_of p c d some h) (cause_of p c e some_too k)
