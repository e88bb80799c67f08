use Rattle.std.proofs.Common.{◌∙◌, ap}
use Rattle.l2_digest.specs.Digests.{after_list, digest_of}
use Rattle.l2_digest.proofs.Lists.{after_both}
use Rattle.l2_digest.proofs.digest.Goals as goal

pub returns : goal.returns
unfolding digest_of
returns c =
    c.after_list-2.ensures ∙ ap (λ d. after_list d c.args.second.now) c.after_list.ensures
    ∙ after_both 14695981039346656037 c.args.first.now c.args.second.now
