use Rattle.std.proofs.Common.{◌≡◌, ◌≤◌, ◌-◌, false, length, take}
use Rattle.std.specs.List.{All}
use Rattle.l2_dimacs.specs.Tokens.{is_blank}
use Rattle.l2_dimacs.proofs.tokens.word_length.Given as goal

-- no byte so far is blank
abbrev pub invariant-loop-i : goal.invariant-loop-i
invariant-loop-i l = record {
  within : l.i ≤ length l.text;
  word : All (λ b. is_blank b ≡ false) (take l.i l.text);
}

abbrev pub decreases-loop-i : goal.decreases-loop-i
decreases-loop-i l = length l.text - l.i
