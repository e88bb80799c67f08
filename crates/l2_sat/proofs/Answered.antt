-- Answers, and the laws of them.
use Rattle.std.proofs.Common.{◌≡◌, ◌≢◌, inl, inr, ℕ, ◌<◌, ◌^◌, Bool, ℤ, List, [], ◌∷◌, length, codes, refl, ap, subst, get_or, append-nil, Option, Some, None, Result, Ok, Err, IfOk, arith}
use Rattle.l2_cnf.specs.Logic.{Satisfies}
use Rattle.l2_cnf.specs.Steps.{Step}
use Rattle.l2_rup.specs.Checked.{Checked, formula_of, fresh}
use Rattle.l2_outside.specs.Outside.{Files, Rose}
use Rattle.l2_inputs.specs.Inputs.{Input, AreRead, HasFault, IsTooLong}
use Rattle.l2_inputs.specs.declared.input.InputError.{InputError}
use Rattle.l2_inputs.specs.declared.input.InputError.TheVariants as error
use Rattle.l2_lines.specs.Lines.{IsFirstBad, lines_of}
use Rattle.l2_dimacs.specs.Profile.{IsFile, IsRefused}
use Rattle.l2_dimacs.specs.Tokens.{tokens}
use Rattle.l2_dimacs.proofs.Once.{one_formula}
use Rattle.l2_dimacs.proofs.Whole.{refused_is_no_file}
use Rattle.l2_derivation_file.specs.File.{IsFile as IsDerivationFile, spelling}
use Rattle.l2_derivations.specs.Goals.{FailsAt, IsOpen, IsRefuted}
use Rattle.l2_sat.specs.declared.status.SatStatus.{SatStatus}
use Rattle.l2_sat.specs.declared.status.SatStatus.TheVariants.{Accepted, WriteFault, NoMemory, FormulaRefused, FileRefused, Satisfiable, Unsatisfiable}
use Rattle.l2_sat.specs.declared.answer.Answer.{Answer}
use Rattle.l2_sat.specs.Commands.{Command, Solve, Check, command, command_of, input, inputs}
use Rattle.l2_sat.specs.Texts.{model_text, numbered}
use Rattle.l2_sat.specs.Formulas.{AreSteps, Checks, HasNoModel, Shows, Solves, Written, satisfiable, unsatisfiable, bad_line, bad_step, unclosed, accepted}
use Rattle.l2_sat.specs.Answers.{Answers, IsAnswer, IsUnread, Judges, OfText, taken, refused, no_command, unreadable, over_limit, judged, file_of}
use Rattle.l2_sat.specs.Laws.{StatusLaw, SolveLaw}
use Rattle.l2_sat.proofs.Shown.{refuted_none}

-- one relation of answers in place of another
pub widened : {E : Type 0} (P Q : SatStatus → List ℕ → Option Written → Type 0) → ((s : SatStatus) (o : List ℕ) (w : Option Written) → P s o w → Q s o w) → (r : Result Answer E) → IfOk r (IsAnswer P) → IfOk r (IsAnswer Q)
widened P Q f (Ok a) is = f a.status a.output.items (file_of a.written) is
widened P Q f (Err e) is = tt

-- ---- the laws

abbrev IsAnswered : SatStatus → Type 0
IsAnswered s = (s ≢ WriteFault) × (s ≢ NoMemory)

solves_so : (name : List ℕ) (v : ℕ) (formula : List (List ℤ)) (s : SatStatus) (o : List ℕ) (w : Option Written) → Solves name v formula s o w → IsAnswered s
solves_so name v formula s o w (satisfiable a sat e l n) = ((λ n. cc), (λ n. cc))
solves_so name v formula s o w (unsatisfiable steps shown e l n) = ((λ n. cc), (λ n. cc))

checks_so : (bytes : List ℕ) (v : ℕ) (formula : List (List ℤ)) (s : SatStatus) (o : List ℕ) (w : Option Written) → Checks bytes v formula s o w → IsAnswered s
checks_so bytes v formula s o w (bad_line n is e l u) = ((λ n. cc), (λ n. cc))
checks_so bytes v formula s o w (bad_step steps n is fails e l u) = ((λ n. cc), (λ n. cc))
checks_so bytes v formula s o w (unclosed steps is open_ e l u) = ((λ n. cc), (λ n. cc))
checks_so bytes v formula s o w (accepted steps is refuted none e l u) = ((λ n. cc), (λ n. cc))

of_text : (text : List ℕ) (ComesTo : ℕ → List (List ℤ) → SatStatus → List ℕ → Option Written → Type 0) (s : SatStatus) (o : List ℕ) (w : Option Written) →
    ((v : ℕ) (formula : List (List ℤ)) → ComesTo v formula s o w → IsAnswered s) → OfText text ComesTo s o w → IsAnswered s
of_text text ComesTo s o w h (taken v formula is comes) = h v formula comes
of_text text ComesTo s o w h (refused line is e l n) = ((λ n. cc), (λ n. cc))

judged_so : (c : Command) (contents : List (List ℕ)) (s : SatStatus) (o : List ℕ) (w : Option Written) → Judges c contents s o w → IsAnswered s
judged_so (Solve file proof) [] s o w j = absurd j
judged_so (Solve file proof) (t ∷ []) s o w j = of_text t (Solves proof) s o w (λ v formula. solves_so proof v formula s o w) j
judged_so (Solve file proof) (t ∷ b ∷ more) s o w j = absurd j
judged_so (Check file proof) [] s o w j = absurd j
judged_so (Check file proof) (t ∷ []) s o w j = absurd j
judged_so (Check file proof) (t ∷ b ∷ []) s o w j = of_text t (Checks b) s o w (λ v formula. checks_so b v formula s o w) j
judged_so (Check file proof) (t ∷ b ∷ c ∷ more) s o w j = absurd j

pub status_law : StatusLaw
status_law files before now words s o w (no_command n e l u) = ((λ n. cc), (λ n. cc))
status_law files before now words s o w (unreadable c a h e l u) = ((λ n. cc), (λ n. cc))
status_law files before now words s o w (over_limit c a h e l u) = ((λ n. cc), (λ n. cc))
status_law files before now words s o w (judged c contents a h j) = judged_so c contents s o w j

pub solve_law : SolveLaw
solve_law text name v formula s o w file (taken u other is (satisfiable a sat e l n)) =
    inl (e, λ none. none a (subst (Satisfies a) (one_formula (tokens text) u v other formula is file).1 sat))
solve_law text name v formula s o w file (taken u other is (unsatisfiable steps shown e l n)) =
    inr (e, subst HasNoModel (one_formula (tokens text) u v other formula is file).1 shown.none)
solve_law text name v formula s o w file (refused line is e l n) = absurd (refused_is_no_file text line v formula is file)

-- ---- answers of functions

pub solved_so : {E : Type 0} (name : List ℕ) (v : ℕ) (formula : List (List ℤ)) (a : ℕ → Bool) (r : Result Answer E) → Satisfies a formula → IfOk r (λ x. x.status ≡ Satisfiable) → IfOk r (λ x. x.output.items ≡ model_text a v) → IfOk r (λ x. x.written ≡ None) → IfOk r (IsAnswer (Solves name v formula))
solved_so name v formula a (Ok x) sat status output none = satisfiable a sat status output (ap file_of none)
solved_so name v formula a (Err e) sat status output none = tt

pub refuted_so : {E : Type 0} (name : List ℕ) (v : ℕ) (formula : List (List ℤ)) (steps : List Step) (r : Result Answer E) → (length steps < 2 ^ 60 → Shows v formula steps) → IfOk r (λ x. x.status ≡ Unsatisfiable) → IfOk r (λ x. x.output.items ≡ codes "s UNSATISFIABLE\n") → IfOk r (λ x. file_of x.written ≡ Some (record { name = name; bytes = spelling steps })) → IfOk r (λ x. length steps < 2 ^ 60) → IfOk r (IsAnswer (Solves name v formula))
refuted_so name v formula steps (Ok x) shown status output written few = unsatisfiable steps (shown few) status output written
refuted_so name v formula steps (Err e) shown status output written few = tt

-- an answer of a text alone
abbrev pub Says : SatStatus → List ℕ → Answer → Type 0
Says status output a = (a.status ≡ status) × (a.output.items ≡ output) × (a.written ≡ None)

pub said : {E : Type 0} (P : SatStatus → List ℕ → Option Written → Type 0) (status : SatStatus) (output : List ℕ) → ((s : SatStatus) (o : List ℕ) (w : Option Written) → s ≡ status → o ≡ output → w ≡ None → P s o w) → (r : Result Answer E) → IfOk r (Says status output) → IfOk r (IsAnswer P)
said P status output f (Ok a) is = f a.status a.output.items (file_of a.written) is.0 is.1 (ap file_of is.2)
said P status output f (Err e) is = tt

-- ---- the outer relation

pub input_is : (file : List ℕ) (i : Input) → i ≡ input file → (proof : List ℕ) → i ∷ [] ≡ inputs (Solve file proof)
input_is file i e proof = λ k. e k ∷ []

pub inputs_are : (file proof : List ℕ) (i j : Input) → i ≡ input file → j ≡ input proof → i ∷ j ∷ [] ≡ inputs (Check file proof)
inputs_are file proof i j e f = λ k. e k ∷ f k ∷ []

pub judged_so_far : {E : Type 0} (files : Option Files) (before now : ℕ) (words : List (List ℕ)) (m : Command) (all : List Input) (contents : List (List ℕ)) →
    command words ≡ Some m → all ≡ inputs m → AreRead files all contents → (r : Result Answer E) → IfOk r (IsAnswer (Judges m contents)) → IfOk r (IsAnswer (Answers files before now words))
judged_so_far files before now words m all contents asks e read (Ok a) judges = judged m contents asks (subst (λ all. AreRead files all contents) e read) judges
judged_so_far files before now words m all contents asks e read (Err x) judges = tt

pub judged_solve : {E : Type 0} (files : Option Files) (before now : ℕ) (words : List (List ℕ)) (file proof : List ℕ) (i : Input) (t t' : List ℕ) →
    command words ≡ Some (Solve file proof) → i ≡ input file → AreRead files (i ∷ []) (t ∷ []) → t' ≡ t →
    (r : Result Answer E) → IfOk r (IsAnswer (OfText t' (Solves proof))) → IfOk r (IsAnswer (Answers files before now words))
judged_solve files before now words file proof i t t' asks e read p r solves =
    judged_so_far files before now words (Solve file proof) (i ∷ []) (t ∷ []) asks (input_is file i e proof) read r
    (subst (λ x. IfOk r (IsAnswer (OfText x (Solves proof)))) p solves)

pub judged_check : {E : Type 0} (files : Option Files) (before now : ℕ) (words : List (List ℕ)) (file proof : List ℕ) (i j : Input) (t b t' b' : List ℕ) →
    command words ≡ Some (Check file proof) → i ≡ input file → j ≡ input proof → AreRead files (i ∷ j ∷ []) (t ∷ b ∷ []) → t' ≡ t → b' ≡ b →
    (r : Result Answer E) → IfOk r (IsAnswer (OfText t' (Checks b'))) → IfOk r (IsAnswer (Answers files before now words))
judged_check files before now words file proof i j t b t' b' asks e f read p q r checks =
    judged_so_far files before now words (Check file proof) (i ∷ j ∷ []) (t ∷ b ∷ []) asks (inputs_are file proof i j e f) read r
    (subst (λ x. IfOk r (IsAnswer (OfText t (Checks x)))) q (subst (λ x. IfOk r (IsAnswer (OfText x (Checks b')))) p checks))

answers_unread : (files : Option Files) (before now : ℕ) (words : List (List ℕ)) (m : Command) (x : InputError) (s : SatStatus) (o : List ℕ) (w : Option Written) → command words ≡ Some m →
    (x ≡ error.Fault → HasFault files (Rose before now) (inputs m)) → (x ≡ error.TooLong → IsTooLong files (inputs m)) →
    IsUnread x s o w → Answers files before now words s o w
answers_unread files before now words m error.Fault s o w asks fault long (e, l, n) = unreadable m asks (fault refl) e l n
answers_unread files before now words m error.TooLong s o w asks fault long (e, l, n) = over_limit m asks (long refl) e l n
answers_unread files before now words m error.NoMemory s o w asks fault long u = absurd u

pub unread_so : {E : Type 0} (files : Option Files) (before now : ℕ) (words : List (List ℕ)) (m : Command) (all : List Input) (x : InputError) →
    command words ≡ Some m → all ≡ inputs m →
    (x ≡ error.Fault → HasFault files (Rose before now) all) → (x ≡ error.TooLong → IsTooLong files all) →
    (r : Result Answer E) → IfOk r (IsAnswer (IsUnread x)) → IfOk r (IsAnswer (Answers files before now words))
unread_so files before now words m all x asks e fault long (Ok a) is =
    answers_unread files before now words m x a.status a.output.items (file_of a.written) asks
    (λ q. subst (λ all. HasFault files (Rose before now) all) e (fault q)) (λ q. subst (λ all. IsTooLong files all) e (long q)) is
unread_so files before now words m all x asks e fault long (Err y) is = tt

-- ---- texts

pub of_formula : {E : Type 0} (text : List ℕ) (ComesTo : ℕ → List (List ℤ) → SatStatus → List ℕ → Option Written → Type 0) (v : ℕ) (formula : List (List ℤ)) → IsFile text v formula →
    (r : Result Answer E) → IfOk r (IsAnswer (ComesTo v formula)) → IfOk r (IsAnswer (OfText text ComesTo))
of_formula text ComesTo v formula is r comes = widened (ComesTo v formula) (OfText text ComesTo) (λ s o w. taken v formula is) r comes

pub no_formula : {E : Type 0} (text : List ℕ) (ComesTo : ℕ → List (List ℤ) → SatStatus → List ℕ → Option Written → Type 0) (line : ℕ) → IsRefused text line →
    (r : Result Answer E) → IfOk r (Says FormulaRefused (numbered (codes "DIMACS ") line)) → IfOk r (IsAnswer (OfText text ComesTo))
no_formula text ComesTo line is r says = said (OfText text ComesTo) FormulaRefused (numbered (codes "DIMACS ") line) (λ s o w. refused line is) r says

-- ---- checking

pub accepted_so : {E : Type 0} (bytes : List ℕ) (v : ℕ) (formula : List (List ℤ)) (steps : List Step) → AreSteps bytes steps → IsRefuted formula v steps →
    (r : Result Answer E) → IfOk r (Says Accepted (codes "ACCEPTED\n")) → IfOk r (IsAnswer (Checks bytes v formula))
accepted_so bytes v formula steps are refuted r says = said (Checks bytes v formula) Accepted (codes "ACCEPTED\n") (λ s o w. accepted steps are refuted (refuted_none formula v steps refuted)) r says

pub bad_step_so : {E : Type 0} (bytes : List ℕ) (v : ℕ) (formula : List (List ℤ)) (steps : List Step) (n : ℕ) → AreSteps bytes steps → FailsAt formula v steps n →
    (r : Result Answer E) → IfOk r (Says FileRefused (numbered (codes "DERIVATION BadStep ") n)) → IfOk r (IsAnswer (Checks bytes v formula))
bad_step_so bytes v formula steps n are fails r says = said (Checks bytes v formula) FileRefused (numbered (codes "DERIVATION BadStep ") n) (λ s o w. bad_step steps n are fails) r says

pub unclosed_so : {E : Type 0} (bytes : List ℕ) (v : ℕ) (formula : List (List ℤ)) (steps : List Step) → AreSteps bytes steps → IsOpen formula v steps →
    (r : Result Answer E) → IfOk r (Says FileRefused (codes "DERIVATION Unclosed\n")) → IfOk r (IsAnswer (Checks bytes v formula))
unclosed_so bytes v formula steps are open_ r says = said (Checks bytes v formula) FileRefused (codes "DERIVATION Unclosed\n") (λ s o w. unclosed steps are open_) r says

pub bad_line_so : {E : Type 0} (bytes : List ℕ) (v : ℕ) (formula : List (List ℤ)) (n : ℕ) → IsFirstBad IsDerivationFile (lines_of bytes) n →
    (r : Result Answer E) → IfOk r (Says FileRefused (numbered (codes "DERIVATION BadLine ") n)) → IfOk r (IsAnswer (Checks bytes v formula))
bad_line_so bytes v formula n is r says = said (Checks bytes v formula) FileRefused (numbered (codes "DERIVATION BadLine ") n) (λ s o w. bad_line n is) r says

-- ---- words

pub not_three : (words : List (List ℕ)) → length words ≢ 3 → command words ≡ None
not_three [] other = refl
not_three (a ∷ []) other = refl
not_three (a ∷ b ∷ []) other = refl
not_three (a ∷ b ∷ c ∷ []) other = absurd (other refl)
not_three (a ∷ b ∷ c ∷ d ∷ words) other = refl

pub of_three : (words : List (List ℕ)) → length words ≡ 3 → command words ≡ command_of (get_or words 0 []) (get_or words 1 []) (get_or words 2 [])
of_three [] is = absurd (omega (arith, is))
of_three (a ∷ []) is = absurd (omega (arith, is))
of_three (a ∷ b ∷ []) is = absurd (omega (arith, is))
of_three (a ∷ b ∷ c ∷ []) is = refl
of_three (a ∷ b ∷ c ∷ d ∷ words) is = absurd (omega (arith, is))

-- what a checker of a formula without a last clause says of it
pub over_formula : (P : List (List ℤ) → ℕ → Type 0) (k : Checked) (base : List (List ℤ)) (v lines literals : ℕ) → k ≡ fresh base [] v lines literals → P (formula_of k) k.variables → P base v
over_formula P k base v lines literals is p = subst (λ f. P f v) (append-nil base) (subst (λ (x : Checked). P (formula_of x) x.variables) is p)
