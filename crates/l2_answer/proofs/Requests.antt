-- The answers to a request, by what its files hold.
use Rattle.std.proofs.Common.{◌≡◌, ℕ, List, [], ◌∷◌, Option, Some, None, Result, Ok, Err, IfOk, subst, sym, refl, Bool}
use Rattle.std.specs.Prelude.{is_some}
use Rattle.std.specs.Borrow.{Bor}
use Rattle.l2_words.specs.Requests.{text_of}
use Rattle.l2_outside.specs.Outside.{Files, Rose}
use Rattle.l2_inputs.specs.Inputs.{Input, AreRead, HasFault, IsTooLong}
use Rattle.l2_inputs.specs.declared.input.InputError.{InputError}
use Rattle.l2_inputs.specs.declared.input.InputError.TheVariants as error
use Rattle.l2_words.specs.declared.request.View.{View}
use Rattle.l2_request.specs.Requests.{Request, Decide, Replay, Show, Check, Generate, command, text, values_file, certificate_file, inputs}
use Rattle.l2_status.specs.declared.status.Answer.{Answer}
use Rattle.l2_answer.specs.Replays.{Replays}
use Rattle.l2_answer.specs.Shows.{Shows}
use Rattle.l2_answer.specs.Generates.{Generates}
use Rattle.l2_check_answer.specs.Checks.{Checks}
use Rattle.l2_answer.specs.Answers.{Judges, Answers, Tells, IsUnread, unreadable, over_limit, judged, decided}
use Rattle.l2_answer.specs.Stores.{stored_of, into, IsAlone}
use Rattle.l2_answer.specs.declared.told.Told.{Told}
use Rattle.l2_kiki.specs.declared.decision.Mode.{Mode}
use Rattle.l2_words.specs.declared.request.DomainName.{DomainName}
use Rattle.l2_verify_answer.specs.declared.verdicts.Verdict.{Verdict}
use Rattle.l2_verify_answer.specs.Verifies.{DecidesText, bytes_of}

-- these two inputs are those of a replay
pub replay_inputs : (file values : List ℕ) (i j : Input) → i ≡ text file → j ≡ values_file values → i ∷ j ∷ [] ≡ inputs (Replay file values)
replay_inputs file values i j e f = λ k. e k ∷ f k ∷ []

-- or of a check
pub check_inputs : (file certificate : List ℕ) (jobs : ℕ) (i j : Input) → i ≡ text file → j ≡ certificate_file certificate →
    i ∷ j ∷ [] ≡ inputs (Check file certificate jobs)
check_inputs file certificate jobs i j e f = λ k. e k ∷ f k ∷ []

-- this input is that of a show
pub show_inputs : (view : View) (file : List ℕ) (i : Input) → i ≡ text file → i ∷ [] ≡ inputs (Show view file)
show_inputs view file i e = λ k. e k ∷ []

-- or of a text that is decided
pub decision_inputs : (mode : Mode) (file : List ℕ) (unwind : ℕ) (domain : DomainName) (out : Option (List ℕ)) (i : Input) → i ≡ text file → i ∷ [] ≡ inputs (Decide mode file unwind domain out)
decision_inputs mode file unwind domain out i e = λ k. e k ∷ []

-- a word that is there is a text that is there
pub some_text : (o : Option (Bor (List ℕ))) → is_some o ≡ is_some (text_of o)
some_text None = refl
some_text (Some t) = refl

judged_so : {E : Type 0} (files : Option Files) (before now : ℕ) (words : List (List ℕ)) (r : Request) (all : List Input) (contents : List (List ℕ)) →
    command words ≡ Some r → all ≡ inputs r → AreRead files all contents →
    (a : Result Answer E) → IfOk a (λ a. Judges r contents a.status a.output.items) → IfOk a (λ a. Answers files before now words a.status a.output.items None)
judged_so files before now words r all contents asks e read (Ok a) judges = judged r contents asks (subst (λ all. AreRead files all contents) e read) judges refl
judged_so files before now words r all contents asks e read (Err x) judges = tt

pub judged_replay : {E : Type 0} (files : Option Files) (before now : ℕ) (words : List (List ℕ)) (file values : List ℕ) (i j : Input) (t v t' v' : List ℕ) →
    command words ≡ Some (Replay file values) → i ≡ text file → j ≡ values_file values →
    AreRead files (i ∷ j ∷ []) (t ∷ v ∷ []) → t' ≡ t → v' ≡ v →
    (r : Result Answer E) → IfOk r (λ a. Replays t' v' a.status a.output.items) → IfOk r (λ a. Answers files before now words a.status a.output.items None)
judged_replay files before now words file values i j t v t' v' asks e f read p q r replays =
    judged_so files before now words (Replay file values) (i ∷ j ∷ []) (t ∷ v ∷ []) asks (replay_inputs file values i j e f) read r
    (subst (λ x. IfOk r (λ a. Replays t x a.status a.output.items)) q (subst (λ x. IfOk r (λ a. Replays x v' a.status a.output.items)) p replays))

pub judged_check : {E : Type 0} (files : Option Files) (before now : ℕ) (words : List (List ℕ)) (file certificate : List ℕ) (jobs : ℕ) (i j : Input) (t v t' v' : List ℕ) →
    command words ≡ Some (Check file certificate jobs) → i ≡ text file → j ≡ certificate_file certificate →
    AreRead files (i ∷ j ∷ []) (t ∷ v ∷ []) → t' ≡ t → v' ≡ v →
    (r : Result Answer E) → IfOk r (λ a. Checks t' v' a.status a.output.items) → IfOk r (λ a. Answers files before now words a.status a.output.items None)
judged_check files before now words file certificate jobs i j t v t' v' asks e f read p q r checks =
    judged_so files before now words (Check file certificate jobs) (i ∷ j ∷ []) (t ∷ v ∷ []) asks (check_inputs file certificate jobs i j e f) read r
    (subst (λ x. IfOk r (λ a. Checks t x a.status a.output.items)) q (subst (λ x. IfOk r (λ a. Checks x v' a.status a.output.items)) p checks))

pub judged_generate : {E : Type 0} (files : Option Files) (before now : ℕ) (words : List (List ℕ)) (seed loops : ℕ) → command words ≡ Some (Generate seed loops) →
    (r : Result Answer E) → IfOk r (λ a. Generates seed loops a.status a.output.items) → IfOk r (λ a. Answers files before now words a.status a.output.items None)
judged_generate files before now words seed loops asks r made = judged_so files before now words (Generate seed loops) [] [] asks refl tt r made

pub judged_show : {E : Type 0} (files : Option Files) (before now : ℕ) (words : List (List ℕ)) (view : View) (file : List ℕ) (i : Input) (t t' : List ℕ) →
    command words ≡ Some (Show view file) → i ≡ text file → AreRead files (i ∷ []) (t ∷ []) → t' ≡ t →
    (r : Result Answer E) → IfOk r (λ a. Shows view t' a.status a.output.items) → IfOk r (λ a. Answers files before now words a.status a.output.items None)
judged_show files before now words view file i t t' asks e read p r shows =
    judged_so files before now words (Show view file) (i ∷ []) (t ∷ []) asks (show_inputs view file i e) read r
    (subst (λ x. IfOk r (λ a. Shows view x a.status a.output.items)) p shows)

answers_unread : (files : Option Files) (before now : ℕ) (words : List (List ℕ)) (r : Request) (x : InputError) (a : Answer) → command words ≡ Some r →
    (x ≡ error.Fault → HasFault files (Rose before now) (inputs r)) → (x ≡ error.TooLong → IsTooLong files (inputs r)) →
    IsUnread x a.status a.output.items → Answers files before now words a.status a.output.items None
answers_unread files before now words r error.Fault a asks fault long (s, l) = unreadable r asks (fault refl) s l refl
answers_unread files before now words r error.TooLong a asks fault long (s, l) = over_limit r asks (long refl) s l refl
answers_unread files before now words r error.NoMemory a asks fault long u = absurd u

pub unread : {E : Type 0} (files : Option Files) (before now : ℕ) (words : List (List ℕ)) (r : Request) (all : List Input) (x : InputError) →
    command words ≡ Some r → all ≡ inputs r →
    (x ≡ error.Fault → HasFault files (Rose before now) all) → (x ≡ error.TooLong → IsTooLong files all) →
    (a : Result Answer E) → IfOk a (λ a. IsUnread x a.status a.output.items) → IfOk a (λ a. Answers files before now words a.status a.output.items None)
unread files before now words r all x asks e fault long (Ok a) is =
    answers_unread files before now words r x a asks
    (λ q. subst (λ all. HasFault files (Rose before now) all) e (fault q)) (λ q. subst (λ all. IsTooLong files all) e (long q)) is
unread files before now words r all x asks e fault long (Err y) is = tt

-- an answer where nothing is stored
tells : (files : Option Files) (before now : ℕ) (words : List (List ℕ)) (a : Answer) (t : Told) → t.answer ≡ a → t.stored ≡ None →
    Answers files before now words a.status a.output.items None → Tells files before now words t
tells files before now words a t e f answers =
    subst (λ s. Answers files before now words t.answer.status t.answer.output.items (stored_of s)) (sym f)
    (subst (λ x. Answers files before now words x.status x.output.items None) (sym e) answers)

pub tells_alone : {E : Type 0} (files : Option Files) (before now : ℕ) (words : List (List ℕ)) (a : Result Answer E) (t : Result Told E) → IsAlone a t →
    IfOk a (λ a. Answers files before now words a.status a.output.items None) → IfOk t (λ t. Tells files before now words t)
tells_alone files before now words (Ok a) (Ok t) (e, f) answers = tells files before now words a t e f answers
tells_alone files before now words (Ok a) (Err x) is answers = tt
tells_alone files before now words (Err e) (Ok t) is answers = absurd is
tells_alone files before now words (Err e) (Err x) is answers = tt

-- a text that is decided
pub decided_so : (files : Option Files) (before now : ℕ) (words : List (List ℕ)) (mode : Mode) (file : List ℕ) (unwind : ℕ) (domain : DomainName) (out : Option (List ℕ)) (i : Input)
    (content seen : List ℕ) (wanted : Bool) (v : Verdict) (t : Told) →
    command words ≡ Some (Decide mode file unwind domain out) → i ≡ text file → AreRead files (i ∷ []) (content ∷ []) → seen ≡ content → wanted ≡ is_some out →
    DecidesText mode seen unwind domain wanted v.answer.status v.answer.output.items (bytes_of v.certificate) →
    t.answer ≡ v.answer → stored_of t.stored ≡ into out (bytes_of v.certificate) → Tells files before now words t
decided_so files before now words mode file unwind domain out i content seen wanted v t asks e read p w verifies q stored =
    decided mode file unwind domain out content asks (subst (λ i. AreRead files (i ∷ []) (content ∷ [])) e read)
    (record {
      certificate = bytes_of v.certificate;
      decides =
          subst (λ a. DecidesText mode content unwind domain (is_some out) a.status a.output.items (bytes_of v.certificate)) (sym q)
          (subst (λ text. DecidesText mode text unwind domain (is_some out) v.answer.status v.answer.output.items (bytes_of v.certificate)) p
          (subst (λ w. DecidesText mode seen unwind domain w v.answer.status v.answer.output.items (bytes_of v.certificate)) w verifies));
      stored_is = stored;
    })
