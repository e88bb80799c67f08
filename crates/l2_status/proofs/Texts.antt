-- Answers about a text, by its program or by its fault.
use Rattle.std.proofs.Common.{ℕ, List, Result, Ok, Err, IfOk}
use Rattle.l2_syntax.specs.declared.refusal.TextFault.{TextFault}
use Rattle.l2_syntax.specs.declared.refusal.TextFault.TheVariants as fault
use Rattle.l2_program.specs.Programs.{ProgramTree}
use Rattle.l2_parse_unit.specs.Reading.{OnRefusal}
use Rattle.l2_front.specs.Programs.{IsProgram, IsNoProgram, IsRefusalOf}
use Rattle.l2_status.specs.declared.status.Status.{Status}
use Rattle.l2_status.specs.declared.status.Answer.{Answer}
use Rattle.l2_status.specs.Texts.{OfText, taken, refused, IsRefused}

pub of_program : {E : Type 0} (text : List ℕ) (ComesTo : ProgramTree → Status → List ℕ → Type 0) (p : ProgramTree) → IsProgram text p →
    (r : Result Answer E) → IfOk r (λ a. ComesTo p a.status a.output.items) → IfOk r (λ a. OfText text ComesTo a.status a.output.items)
of_program text ComesTo p is (Ok a) comes = taken p is comes
of_program text ComesTo p is (Err x) comes = tt

refused_so : (text : List ℕ) (ComesTo : ProgramTree → Status → List ℕ → Type 0) (x : TextFault) (status : Status) (output : List ℕ) →
    OnRefusal x (λ f. IsNoProgram text × IsRefusalOf text f) → IsRefused x status output → OfText text ComesTo status output
refused_so text ComesTo (fault.At f) status output (none, is) (s, l) = refused f none is s l
refused_so text ComesTo fault.NoMemory status output why u = absurd u

pub of_fault : {E : Type 0} (text : List ℕ) (ComesTo : ProgramTree → Status → List ℕ → Type 0) (x : TextFault) →
    OnRefusal x (λ f. IsNoProgram text × IsRefusalOf text f) →
    (r : Result Answer E) → IfOk r (λ a. IsRefused x a.status a.output.items) → IfOk r (λ a. OfText text ComesTo a.status a.output.items)
of_fault text ComesTo x why (Ok a) is = refused_so text ComesTo x a.status a.output.items why is
of_fault text ComesTo x why (Err y) is = tt
