-- What is told of programs and texts.
use Rattle.std.proofs.Common.{◌≡◌, ◌≢◌, ℕ, ◌≤◌, Bool, true, false, List, Option, Some, None, Result, Ok, Err, sym, subst}
use Rattle.std.specs.Prelude.{IfOk, option_map}
use Rattle.l2_syntax.specs.declared.refusal.TextFault.{TextFault}
use Rattle.l2_program.specs.Programs.{ProgramTree, program_tree}
use Rattle.l2_code.specs.declared.code.Code.{Code}
use Rattle.l2_code.specs.declared.sets.Sets.{Sets}
use Rattle.l2_code.specs.Trees.{CodeTree, code_of}
use Rattle.l2_code.specs.Sets.{family}
use Rattle.l2_parse_unit.specs.Reading.{OnRefusal}
use Rattle.l2_front.specs.Programs.{IsProgram, IsNoProgram, IsRefusalOf}
use Rattle.l2_front.specs.Codes.{Kept, IsLoaded, BelongTo}
use Rattle.l2_kiki.specs.declared.decision.Mode.{Mode}
use Rattle.l2_kiki.specs.declared.decision.Decision.{Decision}
use Rattle.l2_kiki.specs.declared.decision.Decision.TheVariants.{Safe, Unsafe, Terminating, Unwind, Size}
use Rattle.l2_words.specs.declared.request.DomainName.{DomainName}
use Rattle.l2_verdicts.specs.Verdicts.{IsVerdict}
use Rattle.l2_verdict_text.specs.Texts.{Says}
use Rattle.l2_status.specs.declared.status.Status.{Status}
use Rattle.l2_status.specs.declared.status.Status.TheVariants as status
use Rattle.l2_status.specs.declared.status.Answer.{Answer}
use Rattle.l2_status.specs.Texts.{OfText, taken, refused, IsRefused}
use Rattle.l2_verify_answer.specs.Bounds.{forms_named, bounds_named}
use Rattle.l2_verify_answer.specs.Decided.{IsCertificate, IsSaid, IsDecided, too_large, answered, IsBegun}
use Rattle.l2_verify_answer.specs.Verifies.{DecidesText, bytes_of}
use Rattle.l2_verify_answer.specs.declared.verdicts.Verdict.{Verdict}

-- an answer without a certificate
abbrev pub IsPlain : Decision → Type 0
IsPlain (Safe k q) = ⊥
IsPlain (Unsafe k found) = Unit {0}
IsPlain (Terminating k q ranks) = ⊥
IsPlain (Unwind k) = Unit {0}
IsPlain (Size k) = Unit {0}

no_file : (p : ProgramTree) (d : Decision) → IsPlain d → (wanted : Bool) (certificate : Option (List ℕ)) → certificate ≡ None → IsCertificate p d wanted certificate
no_file p d h false certificate e = e
no_file p (Safe k q) h true certificate e = absurd h
no_file p (Unsafe k found) h true certificate e = e
no_file p (Terminating k q ranks) h true certificate e = absurd h
no_file p (Unwind k) h true certificate e = e
no_file p (Size k) h true certificate e = e

pub said_plain : (p : ProgramTree) (d : Decision) → IsPlain d → (wanted : Bool) (s : Status) (output : List ℕ) (certificate : Option (List ℕ)) → Says p d s output → certificate ≡ None → IsSaid p d wanted s output certificate
said_plain p d h wanted s output certificate says e = record { says = says; certified = no_file p d h wanted certificate e }

pub plain_so : (p : ProgramTree) (d e : Decision) → IsPlain e → d ≡ e → (wanted : Bool) (a b : Answer) → b ≡ a → Says p e a.status a.output.items → (certificate : Option (List ℕ)) → certificate ≡ None → IsSaid p d wanted b.status b.output.items certificate
plain_so p d e h same wanted a b is says certificate none =
    subst (λ x. IsSaid p x wanted b.status b.output.items certificate) (sym same)
    (subst (λ (z : Answer). IsSaid p e wanted z.status z.output.items certificate) (sym is) (said_plain p e h wanted a.status a.output.items certificate says none))

file_none : (p : ProgramTree) (d : Decision) (wanted : Bool) (certificate : Option (List ℕ)) → IsPlain d → IsCertificate p d wanted certificate → certificate ≡ None
file_none p d false certificate h e = e
file_none p (Safe k q) true certificate h e = absurd h
file_none p (Unsafe k found) true certificate h e = e
file_none p (Terminating k q ranks) true certificate h e = absurd h
file_none p (Unwind k) true certificate h e = e
file_none p (Size k) true certificate h e = e

-- status 0 comes with an answer that has a certificate
said_alone : (p : ProgramTree) (d : Decision) (wanted : Bool) (s : Status) (output : List ℕ) (certificate : Option (List ℕ)) → IsSaid p d wanted s output certificate → s ≢ status.Fine → certificate ≡ None
said_alone p (Safe k q) wanted s output certificate h n = absurd (n h.says.0)
said_alone p (Unsafe k found) wanted s output certificate h n = file_none p (Unsafe k found) wanted certificate tt h.certified
said_alone p (Terminating k q ranks) wanted s output certificate h n = absurd (n h.says.0)
said_alone p (Unwind k) wanted s output certificate h n = file_none p (Unwind k) wanted certificate tt h.certified
said_alone p (Size k) wanted s output certificate h n = file_none p (Size k) wanted certificate tt h.certified

decided_alone : (mode : Mode) (unwind : ℕ) (domain : DomainName) (wanted : Bool) (certificate : Option (List ℕ)) (p : ProgramTree) (s : Status) (output : List ℕ)
    → IsDecided mode unwind domain wanted certificate p s output → s ≢ status.Fine → certificate ≡ None
decided_alone mode unwind domain wanted certificate p s output (too_large h said) n = said_alone p (Size 1) wanted s output certificate said n
decided_alone mode unwind domain wanted certificate p s output (answered c sets is d verdict said) n = said_alone p d wanted s output certificate said n

-- ---- a program

pub decided_so : {E : Type 0} (mode : Mode) (unwind : ℕ) (domain : DomainName) (wanted : Bool) (p : ProgramTree) (c : CodeTree) (s : Sets) (d : Decision) → IsBegun p c s unwind
    → IsVerdict p c (family s) (forms_named domain) (bounds_named domain p.thresholds) mode unwind d
    → (r : Result Verdict E) → IfOk r (λ v. IsSaid p d wanted v.answer.status v.answer.output.items (bytes_of v.certificate))
    → IfOk r (λ v. IsDecided mode unwind domain wanted (bytes_of v.certificate) p v.answer.status v.answer.output.items)
decided_so mode unwind domain wanted p c s d begun verdict (Ok v) said = answered c s begun.is_code d verdict said
decided_so mode unwind domain wanted p c s d begun verdict (Err e) said = tt

inner : {A : Type 0} (x y : A) → Some x ≡ Some y → x ≡ y
inner x y e = cc

pub loaded_begun : (k : Kept) → IsLoaded k → (c : Code) → k.code ≡ Some c → (unwind : ℕ) → 1 ≤ unwind → unwind ≤ 64 → IsBegun (program_tree k.program) (code_of c) k.sets unwind
loaded_begun k l c e unwind some most =
    record { lawful = l.lawful; is_code = subst (λ o. BelongTo (program_tree k.program) (option_map code_of o) k.sets) e l.belong; some = some; most = most }

pub too_large_so : (k : Kept) → IsLoaded k → k.code ≡ None → (mode : Mode) (unwind : ℕ) (domain : DomainName) (wanted : Bool) (s : Status) (output : List ℕ) (certificate : Option (List ℕ))
    → Says (program_tree k.program) (Size 1) s output → certificate ≡ None → IsDecided mode unwind domain wanted certificate (program_tree k.program) s output
too_large_so k l e mode unwind domain wanted s output certificate says none =
    too_large (subst (λ o. BelongTo (program_tree k.program) (option_map code_of o) k.sets) e l.belong).0 (said_plain (program_tree k.program) (Size 1) tt wanted s output certificate says none)

-- ---- a text

pub text_so : {E : Type 0} (mode : Mode) (text : List ℕ) (unwind : ℕ) (domain : DomainName) (wanted : Bool) (p : ProgramTree) → IsProgram text p
    → (r : Result Verdict E) → IfOk r (λ v. IsDecided mode unwind domain wanted (bytes_of v.certificate) p v.answer.status v.answer.output.items)
    → IfOk r (λ v. DecidesText mode text unwind domain wanted v.answer.status v.answer.output.items (bytes_of v.certificate))
text_so mode text unwind domain wanted p is (Ok v) h =
    record { of_text = taken p is h; alone = decided_alone mode unwind domain wanted (bytes_of v.certificate) p v.answer.status v.answer.output.items h }
text_so mode text unwind domain wanted p is (Err e) h = tt

refused_text : (text : List ℕ) (ComesTo : ProgramTree → Status → List ℕ → Type 0) (x : TextFault) (s : Status) (output : List ℕ) → OnRefusal x (λ f. IsNoProgram text × IsRefusalOf text f) → IsRefused x s output → OfText text ComesTo s output
refused_text text ComesTo (Rattle.l2_syntax.specs.declared.refusal.TextFault.TheVariants.At f) s output (none, is) (e, l) = refused f none is e l
refused_text text ComesTo Rattle.l2_syntax.specs.declared.refusal.TextFault.TheVariants.NoMemory s output why h = absurd h

pub refused_so : (mode : Mode) (text : List ℕ) (unwind : ℕ) (domain : DomainName) (wanted : Bool) (x : TextFault) (s : Status) (output : List ℕ) (certificate : Option (List ℕ)) → OnRefusal x (λ f. IsNoProgram text × IsRefusalOf text f)
    → IsRefused x s output → certificate ≡ None → DecidesText mode text unwind domain wanted s output certificate
refused_so mode text unwind domain wanted x s output certificate why is none =
    record { of_text = refused_text text (IsDecided mode unwind domain wanted certificate) x s output why is; alone = λ n. none }
