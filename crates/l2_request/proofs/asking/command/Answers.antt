use Rattle.std.proofs.Common.{ap, sym, ◌∙◌}
use Rattle.std.specs.Prelude.{option_and_then}
use Rattle.l2_words.specs.Line.{texts}
use Rattle.l2_request.specs.Requests.{asked, built}
use Rattle.l2_request.proofs.Within.{within_range}
use Rattle.l2_request.proofs.asking.command.Goals as goal

pub returns-in-Some-clause-within : goal.returns-in-Some-clause-within
returns-in-Some-clause-within c =
    within_range (texts c.args.words.now) (asked c.in-Some.request) (ap (λ r. option_and_then built r) c.in-Ok.ensures.ok ∙ sym c.in-Some.ensures)
