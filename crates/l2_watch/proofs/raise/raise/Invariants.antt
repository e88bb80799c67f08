use Rattle.std.proofs.Common.{◌<◌, ℕ, length, get_or, []}
use Rattle.l2_watch.specs.Past.{IsGrown}
use Rattle.l2_watch.specs.Visit.{pair_of, IsRaised}
use Rattle.l2_watch.proofs.raise.raise.Given as goal

abbrev pub invariant-loop-i : goal.invariant-loop-i
invariant-loop-i l = record {
  grown : IsGrown l.clauses l.initial.history l.history;
  raised : (k : ℕ) → k < l.i → get_or l.singles k 0 < length l.clauses → IsRaised (get_or l.clauses (get_or l.singles k 0) []) l.history.literals (pair_of l.pairs (get_or l.singles k 0));
}
