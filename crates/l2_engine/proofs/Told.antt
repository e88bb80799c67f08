-- What is answered of forms and bounds is what is answered of the domain that gives them.
use Rattle.std.proofs.Common.{Result, Ok, Err, ◌≡◌, ℕ, ◌<◌, List, length, map, refl, sym, ap, ◌∙◌, subst}
use Rattle.std.specs.Prelude.{◌↔◌, ℤ, Bool, not, IfOk, IsTrue, Option}
use Rattle.l2_runs.specs.declared.outcome.Outcome.TheVariants.{Broken}
use Rattle.l2_runs.specs.Runs.{Over}
use Rattle.l2_program.specs.declared.program.Program.{Program}
use Rattle.l2_program.specs.declared.program.LoopInfo.{LoopInfo}
use Rattle.l2_program.specs.Programs.{ProgramTree, program_tree}
use Rattle.l2_meaning.specs.Pointing.{Sets}
use Rattle.l2_templates.specs.declared.families.Family.{Family}
use Rattle.l2_templates.specs.declared.form.Form.{Form}
use Rattle.l2_templates.specs.declared.infer.Found.{Found}
use Rattle.l2_templates.specs.declared.point.LoopPoint.{LoopPoint}
use Rattle.l2_templates.specs.Domains.{row_list}
use Rattle.l2_code.specs.declared.code.Code.{Code}
use Rattle.l2_code.specs.declared.sets.Sets.{Sets as KeptSets}
use Rattle.l2_code.specs.Trees.{code_of}
use Rattle.l2_code.specs.Sets.{family}
use Rattle.l2_code.specs.Sizes.{size}
use Rattle.l2_unwind.specs.Refused.{most_weight}
use Rattle.l2_cuts.specs.Cuts.{Infers}
use Rattle.l2_cuts.specs.Rankings.{RanksAre}
use Rattle.l2_cuts.specs.Strongest.{IsStrongest}
use Rattle.l2_strategy.specs.Places.{IsStrongestOf}
use Rattle.l2_kiki.specs.declared.decision.Mode.{Mode}
use Rattle.l2_kiki.specs.declared.decision.Mode.TheVariants.{Safety, Termination}
use Rattle.l2_kiki.specs.declared.decision.Decision.{Decision}
use Rattle.l2_kiki.specs.declared.decision.Decision.TheVariants.{Safe, Unsafe, Terminating, Unwind, Size}
use Rattle.l2_kiki.specs.Answers.{IsOpen, IsFirst, IsAnswer}
use Rattle.l2_row_engine.specs.Cutting.{CutProgram, Ends}
use Rattle.l2_verdicts.specs.Verdicts.{IsVerdict, forms_of}
use Rattle.l2_engine.specs.Tasks.{Query, WeighsTooMuch, SomeBreak, IsSomeBreak, IsStrongestIn, ProvesAt, AreRanksOf}
use Rattle.l2_engine.proofs.Answering.{proves_so}

-- where too large is the same, and what is strongest is so in other words
module _ (Large Heavy Broken : ℕ → Type 0) (IsBreak : ℕ → Found → Type 0) (Best Strongest Proving : ℕ → List LoopPoint → Type 0) (Ranks : ℕ → List LoopPoint → Option (List (List Form)) → Type 0) (heavy : (k : ℕ) → Large k → Heavy k) (large : (k : ℕ) → Heavy k → Large k) (strongest : (k : ℕ) (q : List LoopPoint) → Best k q → Strongest k q) where
  open_so : (mode : Mode) (k : ℕ) → IsOpen Large Broken IsBreak Best Proving Ranks mode k → IsOpen Heavy Broken IsBreak Strongest Proving Ranks mode k
  open_so Safety k (light, whole, (q, best, failing)) = (λ t. light (large k t), whole, (q, strongest k q best, failing))
  open_so Termination k (light, (q, best, ranks)) = (λ t. light (large k t), (q, strongest k q best, ranks))

  first_so : (mode : Mode) (limit k : ℕ) → IsFirst Large Broken IsBreak Best Proving Ranks mode limit k → IsFirst Heavy Broken IsBreak Strongest Proving Ranks mode limit k
  first_so mode limit k f = record { some = f.some; within = f.within; before = λ j s less. open_so mode j (f.before j s less) }

  answer_so : (mode : Mode) (limit : ℕ) (d : Decision) → IsAnswer Large Broken IsBreak Best Proving Ranks mode limit d → IsAnswer Heavy Broken IsBreak Strongest Proving Ranks mode limit d
  answer_so mode limit (Safe k q) (m, f, light, whole, best, proving) = (m, first_so mode limit k f, λ t. light (large k t), whole, strongest k q best, proving)
  answer_so mode limit (Unsafe k found) (m, f, light, broken, is) = (m, first_so mode limit k f, λ t. light (large k t), broken, is)
  answer_so mode limit (Terminating k q r) (m, f, light, best, ranks) = (m, first_so mode limit k f, λ t. light (large k t), strongest k q best, ranks)
  answer_so mode limit (Unwind k) (last, all) = (last, λ j s l. open_so mode j (all j s l))
  answer_so mode limit (Size k) (f, t) = (first_so mode limit k f, heavy k t)

-- the forms are those that a domain gives the loops
module _ (x : Query) (domain : Family) (given : x.forms ≡ forms_of domain (program_tree x.program).loops)
    (law : (p : ProgramTree) (sets : Sets) (k : ℕ) (d : Family) (bounds : List ℤ) (q : List LoopPoint) → IsStrongestOf (Infers p sets k) bounds (map (λ loop. row_list d loop.vars loop.mods) p.loops) q → IsStrongest p sets k d bounds q) where
  heavy : (k : ℕ) → WeighsTooMuch x k → most_weight < size (code_of x.code) (family x.sets) k (map length (forms_of domain (program_tree x.program).loops))
  heavy k t = subst (λ forms. most_weight < size (code_of x.code) (family x.sets) k (map length forms)) given t

  large : (k : ℕ) → most_weight < size (code_of x.code) (family x.sets) k (map length (forms_of domain (program_tree x.program).loops)) → WeighsTooMuch x k
  large k t = subst (λ forms. most_weight < size (code_of x.code) (family x.sets) k (map length forms)) (sym given) t

  strongest : (k : ℕ) (q : List LoopPoint) → IsStrongestIn x k q → IsStrongest (program_tree x.program) (family x.sets).object k domain x.bounds q
  strongest k q best =
      law (program_tree x.program) (family x.sets).object k domain x.bounds q (subst (λ forms. IsStrongestOf (Infers (program_tree x.program) (family x.sets).object k) x.bounds forms q) given best)

  pub verdict_so : {E : Type 0} → (mode : Mode) (limit : ℕ) (r : Result Decision E) → IfOk r (λ d. IsAnswer (WeighsTooMuch x) (SomeBreak x) (IsSomeBreak x) (IsStrongestIn x) (ProvesAt x) (AreRanksOf x) mode limit d)
      → IfOk r (λ d. IsVerdict (program_tree x.program) (code_of x.code) (family x.sets) domain x.bounds mode limit d)
  verdict_so mode limit (Ok d) h = answer_so _ _ _ _ _ _ _ _ heavy large strongest mode limit d h
  verdict_so mode limit (Err e) h = tt

abbrev StrongestLaw : Type 0
StrongestLaw = (p : ProgramTree) (sets : Sets) (k : ℕ) (d : Family) (bounds : List ℤ) (q : List LoopPoint) → IsStrongestOf (Infers p sets k) bounds (map (λ loop. row_list d loop.vars loop.mods) p.loops) q → IsStrongest p sets k d bounds q

pub verdict_of : {E : Type 0} (x : Query) (p : Program) (c : Code) (s : KeptSets) (forms : List (List Form)) (given : List ℤ) (domain : Family) (bounds : List ℤ) → StrongestLaw → (mode : Mode) (limit : ℕ) (r : Result Decision E)
    → x ≡ record { program = p; code = c; sets = s; forms = forms; bounds = given } → forms ≡ forms_of domain (program_tree p).loops → given ≡ bounds
    → IfOk r (λ d. IsAnswer (WeighsTooMuch x) (SomeBreak x) (IsSomeBreak x) (IsStrongestIn x) (ProvesAt x) (AreRanksOf x) mode limit d)
    → IfOk r (λ d. IsVerdict (program_tree p) (code_of c) (family s) domain bounds mode limit d)
verdict_of x p c s forms given domain bounds law mode limit r e f b h =
    subst (λ z. IfOk r (λ d. IsVerdict (program_tree p) (code_of c) (family s) domain z mode limit d)) b
    (verdict_so (record { program = p; code = c; sets = s; forms = forms; bounds = given }) domain f law mode limit r
    (subst (λ (y : Query). IfOk r (λ d. IsAnswer (WeighsTooMuch y) (SomeBreak y) (IsSomeBreak y) (IsStrongestIn y) (ProvesAt y) (AreRanksOf y) mode limit d)) e h))

-- what the search finds in the cut program
pub strongest_so : {E : Type 0} (x : Query) (k : ℕ) (y : CutProgram) (forms : List (List Form)) (bounds : List ℤ) (r : Result (List LoopPoint) E)
    → y ≡ record { program = x.program; code = x.code; sets = x.sets; copies = k } → forms ≡ x.forms → bounds ≡ x.bounds
    → IfOk r (λ q. IsStrongestOf (Infers (program_tree y.program) (family y.sets).object y.copies) bounds forms q) → IfOk r (λ q. IsStrongestIn x k q)
strongest_so {E = E} x k y forms bounds r e f b h =
    subst (λ (z : CutProgram). IfOk r (λ q. IsStrongestOf (Infers (program_tree z.program) (family z.sets).object z.copies) x.bounds x.forms q)) e
    (subst (λ fs. IfOk r (λ q. IsStrongestOf (Infers (program_tree y.program) (family y.sets).object y.copies) x.bounds fs q)) f
    (subst (λ bs. IfOk r (λ q. IsStrongestOf (Infers (program_tree y.program) (family y.sets).object y.copies) bs forms q)) b h))

-- and whether some cut run breaks a check
pub breaks_so : (x : Query) (k : ℕ) (y : CutProgram) (q : List LoopPoint) (breaks : Bool) → y ≡ record { program = x.program; code = x.code; sets = x.sets; copies = k }
    → Infers (program_tree x.program) (family x.sets).object k q
    → IsTrue breaks ↔ ((c : ℕ) × Ends (program_tree y.program) (family y.sets).object y.copies q (Over (Broken c))) → IsTrue (not breaks) ↔ ProvesAt x k q
breaks_so x k y q breaks e infers h =
    proves_so (program_tree x.program) (family x.sets).object k q breaks (not breaks) refl infers
    (subst (λ (z : CutProgram). IsTrue breaks ↔ ((c : ℕ) × Ends (program_tree z.program) (family z.sets).object z.copies q (Over (Broken c)))) e h)

-- the program with so many copies of each turn
abbrev cut_of : Query → ℕ → CutProgram
cut_of x k = record { program = x.program; code = x.code; sets = x.sets; copies = k }

pub infers_so : (x : Query) (k : ℕ) (y : CutProgram) (q : List LoopPoint) → y ≡ cut_of x k → Infers (program_tree x.program) (family x.sets).object k q → Infers (program_tree y.program) (family y.sets).object y.copies q
infers_so x k y q e h = subst (λ (z : CutProgram). Infers (program_tree z.program) (family z.sets).object z.copies q) (sym e) h

pub loops_so : (x : Query) (k : ℕ) (y : CutProgram) (loops : List LoopInfo) → y ≡ cut_of x k → loops ≡ (program_tree x.program).loops → loops ≡ (program_tree y.program).loops
loops_so x k y loops e h = h ∙ ap (λ (z : CutProgram). (program_tree z.program).loops) (sym e)

pub ranks_so : {E : Type 0} (x : Query) (k : ℕ) (y : CutProgram) (q : List LoopPoint) (r : Result (Option (List (List Form))) E) → y ≡ cut_of x k
    → IfOk r (λ ranks. RanksAre (program_tree y.program) (family y.sets).object y.copies q ranks) → IfOk r (λ ranks. AreRanksOf x k q ranks)
ranks_so x k y q r e h = subst (λ (z : CutProgram). IfOk r (λ ranks. RanksAre (program_tree z.program) (family z.sets).object z.copies q ranks)) e h
