-- Certificates whose lines fit a program: of a point of a domain, and of rankings of candidates.
use Rattle.std.specs.Prelude.{◌≡◌, ℕ, List, Some}
use Rattle.std.specs.List.{All, Contains}
use Rattle.l2_runs.specs.Numbers.{at_number}
use Rattle.l2_program.specs.declared.program.LoopInfo.{LoopInfo}
use Rattle.l2_program.specs.Programs.{ProgramTree}
use Rattle.l2_meaning.specs.Lawful.{IsLawful}
use Rattle.l2_templates.specs.declared.form.Form.{Form}
use Rattle.l2_templates.specs.declared.families.Family.{Family}
use Rattle.l2_templates.specs.declared.point.LoopPoint.{LoopPoint}
use Rattle.l2_templates.specs.Points.{bounded}
use Rattle.l2_cuts.specs.Points.{ranks_at}
use Rattle.l2_cuts.specs.Rankings.{candidates}
use Rattle.l2_cuts.specs.Strongest.{IsPointOf}
use Rattle.l2_cert.specs.declared.cert.Cert.{Cert}
use Rattle.l2_fitting.specs.Fitting.{NamesFit}

-- the components of each loop's ranking are candidates
abbrev pub AreCandidates : ProgramTree → List (List Form) → Type 0
AreCandidates p ranks = (l : ℕ) (loop : LoopInfo) → at_number p.loops l ≡ Some loop → All (λ f. Contains (candidates p l) f) (ranks_at ranks l)

abbrev pub DomainsFit : Type 0
DomainsFit =
    (p : ProgramTree) → IsLawful p → (family : Family) (q : List LoopPoint) → IsPointOf p family p.thresholds q
    → (c : Cert) → c.point ≡ bounded q → AreCandidates p c.ranks → NamesFit p c
