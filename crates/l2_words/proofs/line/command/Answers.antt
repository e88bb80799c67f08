use Rattle.std.proofs.Common.{◌≡◌, ap, ◌∙◌, refl, subst, true}
use Rattle.clap.specs.Words.{app_of, fault_of, subcommand_of, HasKind, is_simple_and_free}
use Rattle.clap.proofs.OnLiterals.{clap_on_literals}
use Rattle.l2_words.specs.Line.{twols_app, texts, faults}
use Rattle.l2_words.specs.declared.request.WordsError.TheVariants.{Usage}
use Rattle.l2_words.proofs.Faulty.{no_request}
use Rattle.l2_words.proofs.line.command.Goals as goal

simple : is_simple_and_free twols_app ≡ true
unfolding clap_on_literals
simple = refl

pub returns-clause-usage : goal.returns-clause-usage
returns-clause-usage c = λ usage.
    let e : app_of c.in_ok-line.line ≡ twols_app = c.in_ok-line.ensures in
    let has : HasKind (fault_of (app_of c.in_ok-line.line) (texts c.args.words.now)) c.in-Err.error = c.in-Err.ensures.kinds (ap is_simple_and_free e ∙ simple) in
    let is_usage : c.cause.result ≡ Usage = cc in
    no_request (faults (texts c.args.words.now)) (subcommand_of twols_app (texts c.args.words.now)) c.in-Err.error
    (c.cause.ensures is_usage) (subst (λ a. HasKind (fault_of a (texts c.args.words.now)) c.in-Err.error) e has)
