-- Where no fault comes a text is decided.
use Rattle.std.proofs.Common.{◌≡◌, inl, inr, ℕ, ◌+◌, ◌≤◌, List, [], ◌∷◌, length, take, Option, Some, None, sym, subst, ◌∙◌, arith}
use Rattle.std.specs.Prelude.{MatchOption}
use Rattle.std.proofs.lemmas.List.{take_all}
use Rattle.l2_limits.specs.Limits.{text_limit}
use Rattle.l2_outside.specs.Outside.{Files, Rose, content, grown}
use Rattle.l2_inputs.specs.Inputs.{Gives, AreRead, HasFault, IsTooLong}
use Rattle.l2_words.specs.declared.request.DomainName.{DomainName}
use Rattle.l2_kiki.specs.declared.decision.Mode.{Mode}
use Rattle.l2_request.specs.Requests.{Request, Decide, command, inputs, text}
use Rattle.l2_status.specs.declared.status.Status.{Status}
use Rattle.l2_answer.specs.Stores.{Stored, stored_in, Decides}
use Rattle.l2_answer.specs.Answers.{Judges, Answers, no_command, unreadable, over_limit, judged, decided, whole, cut_off, unstored, nothing}
use Rattle.l2_answer_laws.specs.Law.{Delivers, DecidedLaw}

-- what is handed over of a file within its length is the whole file
whole_file : (o : Option (List ℕ)) (bytes b : List ℕ) (limit : ℕ) → o ≡ Some bytes → length bytes ≤ limit → MatchOption o ⊥ (λ all. b ≡ take (limit + 1) all) → b ≡ bytes
whole_file None bytes b limit is short given = absurd given
whole_file (Some all) bytes b limit is short given =
    let same : all ≡ bytes = cc in
    given ∙ subst (λ x. take (limit + 1) x ≡ bytes) (sym same) (take_all (limit + 1) bytes (omega arith))

never_lacks : (o : Option (List ℕ)) (bytes : List ℕ) → o ≡ Some bytes → o ≡ None → ⊥
never_lacks o bytes is none = cc

-- FILE, by its content
module _ (files : Files) (file bytes : List ℕ) (is : content files file ≡ Some bytes) (short : length bytes ≤ text_limit) where
  given_whole : (b : List ℕ) → Gives (Some files) (text file) b → b ≡ bytes
  given_whole b given = whole_file (content files file) bytes b text_limit is short given

  never_long : IsTooLong (Some files) (text file ∷ []) → ⊥
  never_long (inl (b, given, long)) = let small : length b ≤ text_limit = subst (λ x. length x ≤ text_limit) (sym (given_whole b given)) short in omega arith
  never_long (inr (read, never)) = absurd never

  never_faulty : (Rises : Type 0) → ¬ Rises → HasFault (Some files) Rises (text file ∷ []) → ⊥
  never_faulty Rises calm (inl (inl rises)) = calm rises
  never_faulty Rises calm (inl (inr lacks)) = never_lacks (content files file) bytes is lacks
  never_faulty Rises calm (inr (read, never)) = absurd never

  module _ (mode : Mode) (unwind : ℕ) (domain : DomainName) (out : Option (List ℕ)) where
    judged_never : (r : Request) (contents : List (List ℕ)) (status : Status) (line : List ℕ) → r ≡ Decide mode file unwind domain out → Judges r contents status line → ⊥
    judged_never r contents status line same j = subst (λ r. Judges r contents status line) same j

    same_request : (words : List (List ℕ)) (r : Request) → command words ≡ Some (Decide mode file unwind domain out) → command words ≡ Some r → r ≡ Decide mode file unwind domain out
    same_request words r asks is = let both : Some r ≡ Some (Decide mode file unwind domain out) = sym is ∙ asks in cc

    answered : (before now : ℕ) (words : List (List ℕ)) (status : Status) (line : List ℕ) (stored : Option Stored) → command words ≡ Some (Decide mode file unwind domain out) →
        ¬ Rose before now → Answers (Some files) before now words status line stored → Decides mode bytes unwind domain out status line stored
    answered before now words status line stored asks calm (no_command none e l x) = absurd (cc)
    answered before now words status line stored asks calm (unreadable r a fault e l x) =
        absurd (never_faulty (Rose before now) calm (subst (λ r. HasFault (Some files) (Rose before now) (inputs r)) (same_request words r asks a) fault))
    answered before now words status line stored asks calm (over_limit r a long e l x) =
        absurd (never_long (subst (λ r. IsTooLong (Some files) (inputs r)) (same_request words r asks a) long))
    answered before now words status line stored asks calm (judged r contents a read j x) = absurd (judged_never r contents status line (same_request words r asks a) j)
    answered before now words status line stored asks calm (decided m f u d o b a read decides) =
        let same : Decide m f u d o ≡ Decide mode file unwind domain out = same_request words (Decide m f u d o) asks a in
        let em : m ≡ mode = cc in
        let ef : f ≡ file = cc in
        let eu : u ≡ unwind = cc in
        let ed : d ≡ domain = cc in
        let eo : o ≡ out = cc in
        let at_file : AreRead (Some files) (text file ∷ []) (b ∷ []) = subst (λ f. AreRead (Some files) (text f ∷ []) (b ∷ [])) ef read in
        subst (λ b. Decides mode b unwind domain out status line stored) (given_whole b at_file.0.0)
        (subst (λ o. Decides mode b unwind domain o status line stored) eo
        (subst (λ d. Decides mode b unwind d o status line stored) ed
        (subst (λ u. Decides mode b u d o status line stored) eu (subst (λ m. Decides m b u d o status line stored) em decides))))

    delivered : (after : Option Files) (status : Status) (line : List ℕ) (stored : Option Stored) (old new : Option (List ℕ)) → Decides mode bytes unwind domain out status line stored →
        after ≡ stored_in (Some files) stored → new ≡ grown old line → Delivers mode bytes unwind domain out (Some files) after status old new
    delivered after status line stored old new d kept grows = record {
      output = line;
      certificate = d.certificate;
      decides = d.decides;
      printed = grows;
      stored = subst (λ s. after ≡ stored_in (Some files) s) d.stored_is kept;
    }

pub decides : DecidedLaw
decides files after before now words status old new mode file unwind domain out bytes asks is short calm fault memory (whole line stored answers kept grows) =
    delivered files file bytes is short mode unwind domain out after status line stored old new
    (answered files file bytes is short mode unwind domain out before now words status line stored asks calm answers) kept grows
decides files after before now words status old new mode file unwind domain out bytes asks is short calm fault memory (cut_off meant line stored answers e kept grows) = absurd (fault e)
decides files after before now words status old new mode file unwind domain out bytes asks is short calm fault memory (unstored meant line stored answers e kept same) = absurd (fault e)
decides files after before now words status old new mode file unwind domain out bytes asks is short calm fault memory (nothing e kept same) = absurd (memory e)
