use Rattle.std.proofs.Common.{◌++◌, ◌∷◌, [], ⊎_elim, subst}
use Rattle.l2_lines.specs.Lines.{Begins, ended}
use Rattle.l2_witness.specs.ValuesFile.{IsFile}
use Rattle.l2_witness.specs.Read.{lines_before}
use Rattle.l2_witness.proofs.Files.{choice_next, over_next}
use Rattle.l2_witness.proofs.reading.Reading.take.Goals as goal

pub returns-in-Choices-clause-bad : goal.returns-in-Choices-clause-bad
returns-in-Choices-clause-bad c = λ failed begins.
    ⊎_elim
    (λ last. c.take_choice.ensures.last failed last)
    (λ (choice, fits, is). c.take_choice.ensures.bad failed choice fits is)
    (choice_next c.args.self.now.turns c.args.self.now.choices.items (ended c.args.line.now)
    (subst (λ stage. Begins IsFile (lines_before stage c.args.self.now.turns c.args.self.now.choices.items ++ ended c.args.line.now ∷ [])) c.in-Choices.is begins))

pub returns-in-Over-clause-bad : goal.returns-in-Over-clause-bad
returns-in-Over-clause-bad c = λ failed begins.
    over_next c.args.self.now.turns c.args.self.now.choices.items (ended c.args.line.now)
    (subst (λ stage. Begins IsFile (lines_before stage c.args.self.now.turns c.args.self.now.choices.items ++ ended c.args.line.now ∷ [])) c.in-Over.is begins)
