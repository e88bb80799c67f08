-- What the decision of a text shows of it.
use Rattle.std.proofs.Common.{◌≡◌, ℕ, Bool, List, Option, subst}
use Rattle.l2_program.specs.Programs.{ProgramTree}
use Rattle.l2_meaning.specs.Lawful.{IsLawful}
use Rattle.l2_code.specs.declared.sets.Sets.{Sets}
use Rattle.l2_code.specs.Trees.{CodeTree}
use Rattle.l2_code.specs.Sets.{IsResolved, family}
use Rattle.l2_lower.specs.Code.{code}
use Rattle.l2_front.specs.Programs.{IsProgram}
use Rattle.l2_front.specs.Codes.{IsCodeOf}
use Rattle.l2_kiki.specs.declared.decision.Mode.{Mode}
use Rattle.l2_kiki.specs.declared.decision.Mode.TheVariants.{Safety, Termination}
use Rattle.l2_kiki.specs.declared.decision.Decision.{Decision}
use Rattle.l2_kiki.specs.declared.decision.Decision.TheVariants as decision
use Rattle.l2_words.specs.declared.request.DomainName.{DomainName}
use Rattle.l2_verdicts.specs.Verdicts.{IsVerdict}
use Rattle.l2_verdict_laws.specs.Law.{SafeLaw, UnsafeLaw, TerminatingLaw}
use Rattle.l2_status.specs.declared.status.Status.{Status}
use Rattle.l2_status.specs.declared.status.Status.TheVariants.{Fine, Unsafe}
use Rattle.l2_status.specs.Texts.{OfText, taken, refused}
use Rattle.l2_verify_answer.specs.Bounds.{forms_named, bounds_named}
use Rattle.l2_verify_answer.specs.Decided.{IsSaid, IsDecided, too_large, answered}
use Rattle.l2_verify_answer.specs.Law.{IsSafe, IsUnsafe, IsEnding, VerifiedLaw, TerminatedLaw}
use Rattle.l2_verify_answer.proofs.Texts.{ProgramsAreLawful, lawful_program}

module _ (text : List ℕ) (unwind : ℕ) (domain : DomainName) (wanted : Bool) (s : Status) (output : List ℕ) (certificate : Option (List ℕ)) (p : ProgramTree) (is : IsProgram text p) (c : CodeTree) (sets : Sets) (is_code : IsCodeOf p c sets) where
  resolved : IsResolved (code p) (family sets)
  resolved = subst (λ x. IsResolved x (family sets)) is_code.is_code is_code.sets.resolved

  abbrev Is : CodeTree → Mode → Decision → Type 0
  Is x mode d = IsVerdict p x (family sets) (forms_named domain) (bounds_named domain p.thresholds) mode unwind d

  safe_so : IsLawful p → SafeLaw → (d : Decision) → Is c Safety d → IsSaid p d wanted s output certificate → s ≡ Fine → IsSafe text wanted output certificate
  safe_so lawful law (decision.Safe k q) verdict said e = record {
    program = p;
    is_program = is;
    safe = (law p lawful (family sets) resolved (forms_named domain) (bounds_named domain p.thresholds) unwind k q (subst (λ x. Is x Safety (decision.Safe k q)) is_code.is_code verdict)).0;
    k = k;
    point = q;
    said = said.says.1;
    certified = said.certified;
  }
  safe_so lawful law (decision.Unsafe k found) verdict said e = let f = said.says.0 in cc
  safe_so lawful law (decision.Terminating k q ranks) verdict said e = let f = verdict.0 in cc
  safe_so lawful law (decision.Unwind k) verdict said e = let f = said.says.0 in cc
  safe_so lawful law (decision.Size k) verdict said e = let f = said.says.0 in cc

  unsafe_so : UnsafeLaw → (d : Decision) → Is c Safety d → IsSaid p d wanted s output certificate → s ≡ Unsafe → IsUnsafe text output
  unsafe_so law (decision.Unsafe k found) verdict said e = record {
    program = p;
    is_program = is;
    k = k;
    found = found;
    breaks = (law p c (family sets) (forms_named domain) (bounds_named domain p.thresholds) unwind k found verdict).0;
    said = said.says.1;
  }
  unsafe_so law (decision.Safe k q) verdict said e = let f = said.says.0 in cc
  unsafe_so law (decision.Terminating k q ranks) verdict said e = let f = verdict.0 in cc
  unsafe_so law (decision.Unwind k) verdict said e = let f = said.says.0 in cc
  unsafe_so law (decision.Size k) verdict said e = let f = said.says.0 in cc

  ending_so : IsLawful p → TerminatingLaw → (d : Decision) → Is c Termination d → IsSaid p d wanted s output certificate → s ≡ Fine → IsEnding text wanted output certificate
  ending_so lawful law (decision.Terminating k q ranks) verdict said e = record {
    program = p;
    is_program = is;
    k = k;
    point = q;
    ranks = ranks;
    terminating = (law p lawful (family sets) resolved (forms_named domain) (bounds_named domain p.thresholds) unwind k q ranks (subst (λ x. Is x Termination (decision.Terminating k q ranks)) is_code.is_code verdict)).0;
    said = said.says.1;
    certified = said.certified;
  }
  ending_so lawful law (decision.Safe k q) verdict said e = let f = verdict.0 in cc
  ending_so lawful law (decision.Unsafe k found) verdict said e = let f = verdict.0 in cc
  ending_so lawful law (decision.Unwind k) verdict said e = let f = said.says.0 in cc
  ending_so lawful law (decision.Size k) verdict said e = let f = said.says.0 in cc

module _ (lawful : ProgramsAreLawful) (text : List ℕ) (unwind : ℕ) (domain : DomainName) (wanted : Bool) (s : Status) (output : List ℕ) (certificate : Option (List ℕ)) where
  safe_text : SafeLaw → OfText text (IsDecided Safety unwind domain wanted certificate) s output → s ≡ Fine → IsSafe text wanted output certificate
  safe_text law (taken p is (too_large more said)) e = let f = said.says.0 in cc
  safe_text law (taken p is (answered c sets is_code d verdict said)) e = safe_so text unwind domain wanted s output certificate p is c sets is_code (lawful_program lawful text p is) law d verdict said e
  safe_text law (refused f none is t l) e = cc

  unsafe_text : UnsafeLaw → OfText text (IsDecided Safety unwind domain wanted certificate) s output → s ≡ Unsafe → IsUnsafe text output
  unsafe_text law (taken p is (too_large more said)) e = let f = said.says.0 in cc
  unsafe_text law (taken p is (answered c sets is_code d verdict said)) e = unsafe_so text unwind domain wanted s output certificate p is c sets is_code law d verdict said e
  unsafe_text law (refused f none is t l) e = cc

  ending_text : TerminatingLaw → OfText text (IsDecided Termination unwind domain wanted certificate) s output → s ≡ Fine → IsEnding text wanted output certificate
  ending_text law (taken p is (too_large more said)) e = let f = said.says.0 in cc
  ending_text law (taken p is (answered c sets is_code d verdict said)) e = ending_so text unwind domain wanted s output certificate p is c sets is_code (lawful_program lawful text p is) law d verdict said e
  ending_text law (refused f none is t l) e = cc

pub verified : ProgramsAreLawful → SafeLaw → UnsafeLaw → VerifiedLaw
verified lawful safe unsafe text unwind domain wanted s output certificate v = record {
  fine = safe_text lawful text unwind domain wanted s output certificate safe v.of_text;
  unsafe = unsafe_text lawful text unwind domain wanted s output certificate unsafe v.of_text;
  alone = v.alone;
}

pub terminated : ProgramsAreLawful → TerminatingLaw → TerminatedLaw
terminated lawful law text unwind domain wanted s output certificate v = record { fine = ending_text lawful text unwind domain wanted s output certificate law v.of_text; alone = v.alone }
