use Rattle.std.proofs.Common.{◌∷◌, ◌↔◌, sym, subst}
use Rattle.l2_lines.specs.Lines.{ended}
use Rattle.l2_cert.specs.Certificate.{IsGoal}
use Rattle.l2_derivation_file.specs.declared.reading.Stage.TheVariants.{Count}
use Rattle.l2_derivation_file.specs.Reading.{CompletesAt, IsRest}
use Rattle.l2_derivation_file.proofs.Residues.{count_goes}
use Rattle.l2_derivation_file.proofs.Files.{kept_from}
use Rattle.l2_derivation_file.proofs.reading.Reading.take_count.Goals as goal

pub returns-clause-ok : goal.returns-clause-ok
returns-clause-ok c = λ rest all.
    let r = c.args.self.now in
    let line = c.args.line.now in
    subst (λ z. CompletesAt z r (ended line ∷ rest) all ↔ (IsGoal all × IsRest r.steps c.in-Some.count rest all)) (sym c.requires.stage)
    (count_goes r.steps c.in-Some.count line (kept_from r Count c.requires.stage c.requires.kept) c.in-Some.ensures.0 c.in-Some.ensures.1 rest all)
