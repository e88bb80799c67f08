-- What is refused isn't accepted.
use Rattle.std.proofs.Common.{◌≡◌, ◌≢◌, ℕ, ◌<◌, ◌≤◌, Bool, true, false, ℤ, List, [], ◌∷◌, ◌++◌, length, refl, sym, ◌∙◌, subst, arith, append-nil, append_assoc}
use Rattle.std.specs.List.{All}
use Rattle.std.proofs.lemmas.List.Elements.{All-head, All-tail}
use Rattle.l2_program.specs.Programs.{ProgramTree}
use Rattle.l2_code.specs.Trees.{CodeTree}
use Rattle.l2_code.specs.Sets.{Family}
use Rattle.l2_code.specs.Sizes.{instructions}
use Rattle.l2_cnf.specs.Steps.{Step, IsStep, IsDerivation, clauses_of}
use Rattle.l2_lower.specs.Output.{most_instructions}
use Rattle.l2_lower.specs.Code.{code}
use Rattle.l2_unwind.specs.Refused.{most_weight}
use Rattle.l2_cert.specs.declared.cert.Cert.{Cert}
use Rattle.l2_fitting.specs.Said.{Said}
use Rattle.l2_fitting.specs.Fitting.{fits, NamesFit, IsBadName}
use Rattle.l2_derivations.specs.Goals.{Goals, IsRefuted, FailsAt, IsOpen, AllHold, BreaksAt, StaysOpen, formula_at, steps_at}
use Rattle.l2_check.specs.declared.checking.CheckError.{CheckError}
use Rattle.l2_check.specs.declared.checking.CheckError.TheVariants.{BadName, Size, WrongGoals, BadStep, Unclosed, NoMemory}
use Rattle.l2_check.specs.Accepting.{Accepts, Basis, IsPassed, IsMiscounted, IsFailed, IsFailedBy, IsTooLarge, alone, unwound, weight_at, problem_at}
use Rattle.l2_check.specs.Law.{RefusedIsNotAccepted}
use Rattle.l2_check.proofs.Least.{moved}

-- ---- lines

pub apart : (b : Bool) → b ≡ true → b ≡ false → ⊥
apart b x y = cc

at_middle : (p : ProgramTree) (front : List Said) (x : Said) (rest : List Said) → All (λ s. fits p s ≡ true) (front ++ x ∷ rest) → fits p x ≡ true
at_middle p [] x rest h = All-head (λ s. fits p s ≡ true) x rest h
at_middle p (y ∷ front) x rest h = at_middle p front x rest (All-tail (λ s. fits p s ≡ true) y (front ++ x ∷ rest) h)

pub names_unfit : (p : ProgramTree) (c : Cert) (line : ℕ) → IsBadName p c line → ¬ NamesFit p c
names_unfit p c line h k = apart (fits p h.bad) (at_middle p h.front h.bad h.rest (subst (All (λ s. fits p s ≡ true)) h.lines k)) h.unfit

-- ---- steps

-- a step of a derivation is accepted over those before it
step_between : (variables : ℕ) (formula : List (List ℤ)) (front : List Step) (s : Step) (rest : List Step) → IsDerivation formula variables (front ++ s ∷ rest) → IsStep (formula ++ clauses_of front) variables s.number s.clause s.hints
step_between variables formula [] s rest h = subst (λ cs. IsStep cs variables s.number s.clause s.hints) (sym (append-nil formula)) h.0
step_between variables formula (t ∷ front) s rest h =
    subst (λ cs. IsStep cs variables s.number s.clause s.hints) (append_assoc formula (t.clause ∷ []) (clauses_of front)) (step_between variables (formula ++ t.clause ∷ []) front s rest h.1)

pub refuted_all : (formula : List (List ℤ)) (variables : ℕ) (steps : List Step) (s : ℕ) → IsRefuted formula variables steps → ¬ FailsAt formula variables steps s
refuted_all formula variables steps s h (front, step, rest, is, n, d, fails) = fails (step_between variables formula front step rest (subst (IsDerivation formula variables) is h.derived))

pub refuted_ends : (formula : List (List ℤ)) (variables : ℕ) (steps : List Step) → IsRefuted formula variables steps → ¬ IsOpen formula variables steps
refuted_ends formula variables steps h k = k.1 h.empty

no_break : (g : Goals) (n goal step : ℕ) → AllHold g 0 n → ¬ BreaksAt g 0 n goal step
no_break g n goal step h (i, is, from, to, before, fails) = refuted_all (formula_at g i) g.variables (steps_at g i) step (h i from to) fails

no_open : (g : Goals) (n goal : ℕ) → AllHold g 0 n → ¬ StaysOpen g 0 n goal
no_open g n goal h (i, is, from, to, before, fails) = refuted_ends (formula_at g i) g.variables (steps_at g i) (h i from to) fails

-- ---- over a code

pub not_both : (n m : ℕ) → n ≤ m → m < n → ⊥
not_both n m h l = omega (arith, h, l)

miscounted : (t : CodeTree) (f : Family) (c : Cert) (have want : ℕ) → IsPassed t f c → ¬ IsMiscounted t f c have want
miscounted t f c have want h k = k.differ (k.have_is ∙ h.is_counted.counted ∙ sym k.want_is)

passed : (t : CodeTree) (f : Family) (c : Cert) (e : CheckError) → e ≢ NoMemory → IsPassed t f c → ¬ IsFailed t f c e
passed t f c (BadName line) some h k = k
passed t f c Size some h k = not_both (weight_at t f c) most_weight h.is_counted.small k
passed t f c (WrongGoals have want) some h k = miscounted t f c have want h k
passed t f c (BadStep goal step) some h k = no_break (problem_at t f c) (length c.goals) goal step h.refuted k.1
passed t f c (Unclosed goal) some h k = no_open (problem_at t f c) (length c.goals) goal h.refuted k.1
passed t f c NoMemory some h k = some refl

-- ---- of a program

pub few_there : (p : ProgramTree) (b : Basis p) → instructions (code p).body ≤ most_instructions
few_there p b = subst (λ t. instructions t.body ≤ most_instructions) b.is_code b.few

not_failed : (p : ProgramTree) (c : Cert) (e : CheckError) → e ≢ NoMemory → IsFailedBy p c e → ¬ Accepts p c
not_failed p c e some h a = passed h.basis.tree h.basis.sets c e some (moved p (λ t f. IsPassed t f c) a.basis h.basis a.passed) h.failed

not_large : (p : ProgramTree) (c : Cert) → Size ≢ NoMemory → IsTooLarge p c → ¬ Accepts p c
not_large p c some (alone names big) a = not_both (instructions (code p).body) most_instructions (few_there p a.basis) big
not_large p c some (unwound h) a = not_failed p c Size some h a

pub refused : RefusedIsNotAccepted
refused p c (BadName line) some h a = names_unfit p c line h a.names
refused p c Size some h a = not_large p c some h a
refused p c (WrongGoals have want) some h a = not_failed p c (WrongGoals have want) some h a
refused p c (BadStep goal step) some h a = not_failed p c (BadStep goal step) some h a
refused p c (Unclosed goal) some h a = not_failed p c (Unclosed goal) some h a
refused p c NoMemory some h a = some refl
