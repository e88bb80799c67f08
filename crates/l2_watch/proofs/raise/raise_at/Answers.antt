use Rattle.std.proofs.Common.{◌≡◌, ◌<◌, [], get_or, length, subst, arith}
use Rattle.std.proofs.lemmas.List.{get_or_default}
use Rattle.l2_watch.specs.Visit.{IsRaised, pair_of}
use Rattle.l2_watch.specs.Watch.{IsPair}
use Rattle.l2_watch.proofs.Moves.{read_pair}
use Rattle.l2_watch.proofs.raise.raise_at.Goals as goal

pub raise_one-requires-clause-over : goal.raise_one-requires-clause-over
raise_one-requires-clause-over c =
    let within : c.args.r < length c.args.clauses.now = omega arith in
    c.requires.over (get_or c.args.clauses.now c.args.r []) (c.args.r, within, get_or_default c.args.clauses.now c.args.r _ _ within)
