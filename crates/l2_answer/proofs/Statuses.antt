-- The statuses of answers.
use Rattle.std.proofs.Common.{◌≡◌, ℕ, Bool, Option, List, [], ◌∷◌}
use Rattle.l2_runs.specs.declared.outcome.Outcome.{Outcome}
use Rattle.l2_runs.specs.declared.outcome.Outcome.TheVariants.{Ended, Stopped, Broken, OutOfChoices, OutOfTurns}
use Rattle.l2_code.specs.Trees.{CodeTree}
use Rattle.l2_lower.specs.Code.{code}
use Rattle.l2_words.specs.declared.request.View.{View}
use Rattle.l2_words.specs.declared.request.View.TheVariants.{Goto, Loops}
use Rattle.l2_request.specs.Requests.{Request, Decide, Replay, Show, Check, Generate}
use Rattle.l2_status.specs.declared.status.Status.{Status}
use Rattle.l2_answer.specs.Statuses.{status_of}
use Rattle.l2_program.specs.Programs.{ProgramTree}
use Rattle.l2_status.proofs.Answered.{IsAnswered, of_text}
use Rattle.l2_answer.specs.Replays.{ReplaysOn, executed, values_refused}
use Rattle.l2_answer.specs.Shows.{ListsCode, listed, too_large, ShowsProgram}
use Rattle.l2_gen.specs.Made.{program}
use Rattle.l2_answer.specs.Generates.{OfMade, too_long, refused}
use Rattle.l2_check_answer.proofs.Statuses.{checked}
use Rattle.l2_kiki.specs.declared.decision.Mode.{Mode}
use Rattle.l2_kiki.specs.declared.decision.Mode.TheVariants.{Safety, Termination}
use Rattle.l2_words.specs.declared.request.DomainName.{DomainName}
use Rattle.l2_verify_answer.specs.Verifies.{DecidesText}
use Rattle.l2_verify_answer.proofs.Statuses.{verified, terminated}
use Rattle.std.specs.Prelude.{is_some}
use Rattle.l2_answer.specs.Answers.{Judges, no_command, unreadable, over_limit, judged, decided, StatusLaw}

of_outcome : (s : Status) (o : Outcome) → s ≡ status_of o → IsAnswered s
of_outcome s Ended e = ((λ n. cc), (λ n. cc))
of_outcome s Stopped e = ((λ n. cc), (λ n. cc))
of_outcome s (Broken c) e = ((λ n. cc), (λ n. cc))
of_outcome s OutOfChoices e = ((λ n. cc), (λ n. cc))
of_outcome s OutOfTurns e = ((λ n. cc), (λ n. cc))

replayed : (values : List ℕ) (p : ProgramTree) (s : Status) (line : List ℕ) → ReplaysOn values p s line → IsAnswered s
replayed values p s line (executed e x ends) = of_outcome s ends.outcome ends.status_is
replayed values p s line (values_refused n e l) = ((λ n. cc), (λ n. cc))

code_listed : (c : CodeTree) (s : Status) (output : List ℕ) → ListsCode c s output → IsAnswered s
code_listed c s output (listed few e l) = ((λ n. cc), (λ n. cc))
code_listed c s output (too_large many e l) = ((λ n. cc), (λ n. cc))

shown : (view : View) (p : ProgramTree) (s : Status) (output : List ℕ) → ShowsProgram view p s output → IsAnswered s
shown Goto p s output c = code_listed (code p) s output c
shown Loops p s output (e, l) = ((λ n. cc), (λ n. cc))

of_made : (text : List ℕ) (s : Status) (line : List ℕ) → OfMade text s line → IsAnswered s
of_made text s line (too_long long e l) = ((λ n. cc), (λ n. cc))
of_made text s line (refused f none is e l) = ((λ n. cc), (λ n. cc))

judged_so : (r : Request) (contents : List (List ℕ)) (s : Status) (line : List ℕ) → Judges r contents s line → IsAnswered s
judged_so (Decide mode file unwind domain out) contents s line j = absurd j
judged_so (Replay file values) [] s line j = absurd j
judged_so (Replay file values) (t ∷ []) s line j = absurd j
judged_so (Replay file values) (t ∷ v ∷ []) s line j = of_text t (ReplaysOn v) s line (λ p. replayed v p s line) j
judged_so (Replay file values) (t ∷ v ∷ w ∷ more) s line j = absurd j
judged_so (Show view file) [] s line j = absurd j
judged_so (Show view file) (t ∷ []) s line j = of_text t (ShowsProgram view) s line (λ p. shown view p s line) j
judged_so (Show view file) (t ∷ v ∷ more) s line j = absurd j
judged_so (Check file certificate jobs) [] s line j = absurd j
judged_so (Check file certificate jobs) (t ∷ []) s line j = absurd j
judged_so (Check file certificate jobs) (t ∷ v ∷ []) s line j = checked t v s line j
judged_so (Check file certificate jobs) (t ∷ v ∷ w ∷ more) s line j = absurd j
judged_so (Generate seed loops) [] s line j = of_made (program seed loops) s j.line j.of_made
judged_so (Generate seed loops) (t ∷ more) s line j = absurd j

decided_so : (mode : Mode) (text : List ℕ) (unwind : ℕ) (domain : DomainName) (wanted : Bool) (s : Status) (output : List ℕ) (certificate : Option (List ℕ)) →
    DecidesText mode text unwind domain wanted s output certificate → IsAnswered s
decided_so Safety = verified
decided_so Termination = terminated

pub answered : StatusLaw
answered files before now words s line stored (no_command n e l x) = ((λ n. cc), (λ n. cc))
answered files before now words s line stored (unreadable r a h e l x) = ((λ n. cc), (λ n. cc))
answered files before now words s line stored (over_limit r a h e l x) = ((λ n. cc), (λ n. cc))
answered files before now words s line stored (judged r contents a h j x) = judged_so r contents s line j
answered files before now words s line stored (decided mode file unwind domain out content a h d) =
    decided_so mode content unwind domain (is_some out) s line d.certificate d.decides
