use Rattle.std.proofs.lemmas.Result.{IfOk-weaker}
use Rattle.l2_words.proofs.Plain.{third_of}
use Rattle.l2_words.proofs.line.with.Goals as goal

pub returns : goal.returns
returns c = IfOk-weaker c.subcommand.result _ _ (λ r h. h.shape (third_of _ _ _ _ c.requires)) c.subcommand.ensures
