use Rattle.std.proofs.Common.{map}
use Rattle.l2_grammar.proofs.Limits.{reads_within}
use Rattle.l2_reader.proofs.Refusals.{ok_map, err_map, refuses}
use Rattle.l2_reader.specs.Parts.{seen, tree_of}
use Rattle.l2_reader.proofs.reader.read.Goals as goal

pub returns-clause-ok : goal.returns-clause-ok
returns-clause-ok c = ok_map c.read_all.result (λ r p. reads_within (map seen c.args.tokens.now) (tree_of r) p) c.read_all.ensures.ok

pub returns-clause-err : goal.returns-clause-err
returns-clause-err c = err_map c.read_all.result (λ f p. refuses c.args.tokens.now f p) c.read_all.ensures.err
