use Rattle.std.proofs.Common.{◌≡◌, ◌≤◌, ◌-◌, ℕ, length, drop}
use Rattle.l2_dimacs.specs.Tokens.{line_words}
use Rattle.l2_dimacs.proofs.tokens.blanks.Given as goal

-- the bytes so far are blank
abbrev pub invariant-loop-i : goal.invariant-loop-i
invariant-loop-i l = record {
  within : l.i ≤ length l.text;
  skips : (n : ℕ) → line_words n l.text ≡ line_words n (drop l.i l.text);
}

abbrev pub decreases-loop-i : goal.decreases-loop-i
decreases-loop-i l = length l.text - l.i
