use Rattle.std.proofs.Common.{◌∙◌}
use Rattle.std.specs.Int.{w128}
use Rattle.std.proofs.lemmas.Int.{rem_is}
use Rattle.l2_bits.proofs.Bounds.{remainder-is, remainder_value}
use Rattle.l2_bits.proofs.operators.remainder.Goals as goal

pub returns-clause-is : goal.returns-clause-is
returns-clause-is c = rem_is w128 c.args.a c.args.b c.ranges.a c.ranges.b ∙ remainder-is c.args.a c.args.b

pub returns-clause-value : goal.returns-clause-value
returns-clause-value c = rw (rem_is w128 c.args.a c.args.b c.ranges.a c.ranges.b) (remainder_value c.args.ty c.args.a c.args.b c.requires.left)
