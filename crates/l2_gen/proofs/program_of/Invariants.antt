use Rattle.std.proofs.Common.{◌≡◌, ◌++◌, ◌+◌, ◌-◌, codes, string_bytes}
use Rattle.l2_gen.specs.Made.{line, loops_from}
use Rattle.l2_gen.proofs.program_of.Given as goal

-- what is made and what is to come
abbrev pub invariant-loop-i : goal.invariant-loop-i
invariant-loop-i l = string_bytes l.text ++ loops_from (l.i + 1) l.state (l.loops - l.i) ≡ line (codes "int main(void){") ++ loops_from 1 l.seed l.loops
