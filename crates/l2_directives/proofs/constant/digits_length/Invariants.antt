use Rattle.std.proofs.Common.{◌≡◌, ◌+◌, drop}
use Rattle.std.specs.List.{prefix_len}
use Rattle.l2_directives.specs.Constants.{is_digit_of}
use Rattle.l2_directives.proofs.constant.digits_length.Given as goal

abbrev pub invariant-loop-byte : goal.invariant-loop-byte
invariant-loop-byte l = (l.count + prefix_len (is_digit_of l.base) (drop l.byte-index l.word) ≡ prefix_len (is_digit_of l.base) l.word) × (l.count ≡ l.byte-index)
