-- A check that ends well printed a verdict that is true, and so did an answer about a text.
use Rattle.std.proofs.Common.{◌≡◌, ◌⊎◌, inl, inr, ℕ, Bool, List, [], ◌∷◌, Option, Some, refl, subst, sym, ◌∙◌}
use Rattle.std.specs.Prelude.{is_some}
use Rattle.l2_outside.specs.Outside.{Files, grown}
use Rattle.l2_inputs.specs.Inputs.{AreRead}
use Rattle.l2_kiki.specs.declared.decision.Mode.{Mode}
use Rattle.l2_kiki.specs.declared.decision.Mode.TheVariants.{Safety, Termination}
use Rattle.l2_words.specs.declared.request.DomainName.{DomainName}
use Rattle.l2_request.specs.Requests.{Request, Decide, Check, command, inputs, text}
use Rattle.l2_status.specs.declared.status.Status.{Status}
use Rattle.l2_status.specs.declared.status.Status.TheVariants.{Fine, Unsafe}
use Rattle.l2_check_answer.specs.Law.{AcceptedLaw}
use Rattle.l2_verify_answer.specs.Verifies.{DecidesText}
use Rattle.l2_verify_answer.specs.Law as verdict
use Rattle.l2_answer.specs.Stores.{Stored, stored_in, Decides}
use Rattle.l2_answer.specs.Answers.{Judges, Answers, no_command, unreadable, over_limit, judged, decided, Prints, whole, cut_off, unstored, nothing}
use Rattle.l2_answer.specs.Headline.{ShowsOf, CheckedLaw, IsTrueOf, VerifiedLaw, TerminatedLaw}

module _ (law : AcceptedLaw) (files : Option Files) (file certificate : List ℕ) (jobs : ℕ) where
  by_contents : (contents : List (List ℕ)) (line : List ℕ) → AreRead files (inputs (Check file certificate jobs)) contents →
      Judges (Check file certificate jobs) contents Fine line → ShowsOf files file certificate jobs line
  by_contents [] line read j = absurd j
  by_contents (t ∷ []) line read j = absurd j
  by_contents (t ∷ v ∷ []) line read j = record { text = t; bytes = v; are_read = read; shown = law t v Fine line j refl }
  by_contents (t ∷ v ∷ w ∷ more) line read j = absurd j

  by_request : (r : Request) (contents : List (List ℕ)) (line : List ℕ) → r ≡ Check file certificate jobs → AreRead files (inputs r) contents → Judges r contents Fine line →
      ShowsOf files file certificate jobs line
  by_request r contents line same read j =
      by_contents contents line (subst (λ r. AreRead files (inputs r) contents) same read) (subst (λ r. Judges r contents Fine line) same j)

  by_answer : (before now : ℕ) (words : List (List ℕ)) (line : List ℕ) (stored : Option Stored) → command words ≡ Some (Check file certificate jobs) →
      Answers files before now words Fine line stored → ShowsOf files file certificate jobs line
  by_answer before now words line stored asks (no_command none e l x) = absurd (cc)
  by_answer before now words line stored asks (unreadable r is fault e l x) = absurd (cc)
  by_answer before now words line stored asks (over_limit r is long e l x) = absurd (cc)
  by_answer before now words line stored asks (judged r contents is read j x) =
      let both : Some r ≡ Some (Check file certificate jobs) = sym is ∙ asks in
      let same : r ≡ Check file certificate jobs = cc in
      by_request r contents line same read j
  by_answer before now words line stored asks (decided mode other unwind domain out content is read d) =
      let both : Some (Decide mode other unwind domain out) ≡ Some (Check file certificate jobs) = sym is ∙ asks in absurd (cc)

pub headline : AcceptedLaw → CheckedLaw
headline law files after before now words old new file certificate jobs asks (whole line stored answers kept grows) =
    (line, by_answer law files file certificate jobs before now words line stored asks answers, grows)
headline law files after before now words old new file certificate jobs asks (cut_off meant line stored answers e kept grows) = absurd (cc)
headline law files after before now words old new file certificate jobs asks (unstored meant line stored answers e kept same) = absurd (cc)
headline law files after before now words old new file certificate jobs asks (nothing e kept same) = absurd (cc)

-- ---- decisions

-- an answer about a text by its parts
abbrev IsDecided : Option Files → Mode → List ℕ → ℕ → DomainName → Option (List ℕ) → Status → List ℕ → Option Stored → Type 0
IsDecided files mode file unwind domain out status line stored =
    (content : List ℕ) × AreRead files (text file ∷ []) (content ∷ []) × Decides mode content unwind domain out status line stored

-- what the decisions of texts show
abbrev LawOf : Mode → (List ℕ → Bool → Status → List ℕ → Option (List ℕ) → Type 0) → Type 0
LawOf mode Shows = (text : List ℕ) (unwind : ℕ) (domain : DomainName) (wanted : Bool) (status : Status) (output : List ℕ) (certificate : Option (List ℕ)) →
    DecidesText mode text unwind domain wanted status output certificate → Shows text wanted status output certificate

module _ (files : Option Files) (mode : Mode) (file : List ℕ) (unwind : ℕ) (domain : DomainName) (out : Option (List ℕ)) where
  judged_never : (r : Request) (contents : List (List ℕ)) (status : Status) (line : List ℕ) → r ≡ Decide mode file unwind domain out → Judges r contents status line → ⊥
  judged_never r contents status line same j = subst (λ r. Judges r contents status line) same j

  is_decided : (before now : ℕ) (words : List (List ℕ)) (status : Status) (line : List ℕ) (stored : Option Stored) → command words ≡ Some (Decide mode file unwind domain out) →
      (status ≡ Fine) ⊎ (status ≡ Unsafe) → Answers files before now words status line stored → IsDecided files mode file unwind domain out status line stored
  is_decided before now words status line stored asks (inl is) (no_command none e l x) = absurd (cc)
  is_decided before now words status line stored asks (inr is) (no_command none e l x) = absurd (cc)
  is_decided before now words status line stored asks (inl is) (unreadable r a fault e l x) = absurd (cc)
  is_decided before now words status line stored asks (inr is) (unreadable r a fault e l x) = absurd (cc)
  is_decided before now words status line stored asks (inl is) (over_limit r a long e l x) = absurd (cc)
  is_decided before now words status line stored asks (inr is) (over_limit r a long e l x) = absurd (cc)
  is_decided before now words status line stored asks is (judged r contents a read j x) =
      let both : Some r ≡ Some (Decide mode file unwind domain out) = sym a ∙ asks in
      let same : r ≡ Decide mode file unwind domain out = cc in
      absurd (judged_never r contents status line same j)
  is_decided before now words status line stored asks is (decided m f u d o content a read decides) =
      let both : Some (Decide m f u d o) ≡ Some (Decide mode file unwind domain out) = sym a ∙ asks in
      let em : m ≡ mode = cc in
      let ef : f ≡ file = cc in
      let eu : u ≡ unwind = cc in
      let ed : d ≡ domain = cc in
      let eo : o ≡ out = cc in (
        content,
        subst (λ f. AreRead files (text f ∷ []) (content ∷ [])) ef read,
        subst (λ o. Decides mode content unwind domain o status line stored) eo
            (subst (λ d. Decides mode content unwind d o status line stored) ed
            (subst (λ u. Decides mode content u d o status line stored) eu (subst (λ m. Decides m content u d o status line stored) em decides))),
      )

  true_of : (Shows : List ℕ → Bool → Status → List ℕ → Option (List ℕ) → Type 0) → LawOf mode Shows → (after : Option Files) (status : Status) (line : List ℕ) (stored : Option Stored) →
      IsDecided files mode file unwind domain out status line stored → after ≡ stored_in files stored → IsTrueOf Shows files after file out status line
  true_of Shows law after status line stored (content, read, d) kept = record {
    content = content;
    certificate = d.certificate;
    are_read = read;
    shown = law content unwind domain (is_some out) status line d.certificate d.decides;
    stored = subst (λ s. after ≡ stored_in files s) d.stored_is kept;
  }

  pub shown : (Shows : List ℕ → Bool → Status → List ℕ → Option (List ℕ) → Type 0) → LawOf mode Shows → (after : Option Files) (before now : ℕ) (words : List (List ℕ))
      (status : Status) (old new : Option (List ℕ)) → command words ≡ Some (Decide mode file unwind domain out) → Prints files after before now words status old new →
      (status ≡ Fine) ⊎ (status ≡ Unsafe) → (output : List ℕ) × IsTrueOf Shows files after file out status output × (new ≡ grown old output)
  shown Shows law after before now words status old new asks (whole line stored answers kept grows) is =
      (line, true_of Shows law after status line stored (is_decided before now words status line stored asks is answers) kept, grows)
  shown Shows law after before now words status old new asks (cut_off meant line stored answers e kept grows) (inl is) = absurd (cc)
  shown Shows law after before now words status old new asks (cut_off meant line stored answers e kept grows) (inr is) = absurd (cc)
  shown Shows law after before now words status old new asks (unstored meant line stored answers e kept same) (inl is) = absurd (cc)
  shown Shows law after before now words status old new asks (unstored meant line stored answers e kept same) (inr is) = absurd (cc)
  shown Shows law after before now words status old new asks (nothing e kept same) (inl is) = absurd (cc)
  shown Shows law after before now words status old new asks (nothing e kept same) (inr is) = absurd (cc)

pub verified : verdict.VerifiedLaw → VerifiedLaw
verified law files after before now words status old new file unwind domain out asks prints is =
    shown files Safety file unwind domain out verdict.IsShown law after before now words status old new asks prints is

pub terminated : verdict.TerminatedLaw → TerminatedLaw
terminated law files after before now words old new file unwind domain out asks prints =
    shown files Termination file unwind domain out verdict.IsEnded law after before now words Fine old new asks prints (inl refl)
