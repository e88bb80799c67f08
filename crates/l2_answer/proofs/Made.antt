-- Answers of made texts.
use Rattle.std.proofs.Common.{◌≡◌, ◌++◌, ℕ, List, length, Result, Ok, Err, IfOk, ap, ◌∙◌, sym, subst}
use Rattle.l2_syntax.specs.declared.refusal.TextFault.{TextFault}
use Rattle.l2_syntax.specs.declared.refusal.TextFault.TheVariants as fault
use Rattle.l2_parse_unit.specs.Reading.{OnRefusal}
use Rattle.l2_front.specs.Programs.{IsNoProgram, IsRefusalOf}
use Rattle.l2_gen.specs.Made.{program}
use Rattle.l2_status.specs.declared.status.Status.{Status}
use Rattle.l2_status.specs.declared.status.Answer.{Answer}
use Rattle.l2_status.specs.Texts.{IsRefused}
use Rattle.l2_answer.specs.Generates.{made_line, OfMade, refused, Generates}

refused_so : (text : List ℕ) (x : TextFault) (status : Status) (line : List ℕ) → OnRefusal x (λ f. IsNoProgram text × IsRefusalOf text f) → IsRefused x status line → OfMade text status line
refused_so text (fault.At f) status line (none, is) (s, l) = refused f none is s l
refused_so text fault.NoMemory status line why u = absurd u

pub of_refusal : {E : Type 0} (text : List ℕ) (x : TextFault) → OnRefusal x (λ f. IsNoProgram text × IsRefusalOf text f) →
    (r : Result Answer E) → IfOk r (λ a. IsRefused x a.status a.output.items) → IfOk r (λ a. OfMade text a.status a.output.items)
of_refusal text x why (Ok a) is = refused_so text x a.status a.output.items why is
of_refusal text x why (Err y) is = tt

pub of_nothing : {E : Type 0} (text : List ℕ) (r : Result Answer E) → IfOk r (λ a. ⊥) → IfOk r (λ a. OfMade text a.status a.output.items)
of_nothing text (Ok a) none = absurd none
of_nothing text (Err y) none = tt

made_so : (seed loops n : ℕ) (text head line output : List ℕ) (status said : Status) → text ≡ program seed loops → n ≡ length text → head ≡ made_line loops n 0 →
    OfMade text said line → status ≡ said → output ≡ head ++ line → Generates seed loops status output
made_so seed loops n text head line output status said made counted is of s o =
    let many : n ≡ length (program seed loops) = counted ∙ ap length made in
    let here : OfMade (program seed loops) said line = subst (λ t. OfMade t said line) made of in
    let line_is : head ≡ made_line loops (length (program seed loops)) 0 = is ∙ ap (λ k. made_line loops k 0) many in
    record {
      line = line;
      of_made = subst (λ x. OfMade (program seed loops) x line) (sym s) here;
      whole = o ∙ ap (λ h. h ++ line) line_is;
    }

pub generated : {E : Type 0} (seed loops n : ℕ) (text head : List ℕ) (said : Answer) → text ≡ program seed loops → n ≡ length text → head ≡ made_line loops n 0 →
    OfMade text said.status said.output.items → (r : Result Answer E) → IfOk r (λ a. (a.status ≡ said.status) × (a.output.items ≡ head ++ said.output.items)) →
    IfOk r (λ a. Generates seed loops a.status a.output.items)
generated seed loops n text head said made counted is of (Ok a) (s, o) = made_so seed loops n text head said.output.items a.output.items a.status said.status made counted is of s o
generated seed loops n text head said made counted is of (Err y) told = tt
