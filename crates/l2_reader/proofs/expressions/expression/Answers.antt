use Rattle.l2_grammar.proofs.Expressions.{ends_before}
use Rattle.l2_reader.specs.Parts.{tree_of}
use Rattle.l2_reader.specs.Turns.{seen_from}
use Rattle.l2_reader.proofs.Refusals.{ok_map, ok_all, err_map, expression_refuses}
use Rattle.l2_reader.proofs.Sizes.{ends_size}
use Rattle.l2_reader.proofs.expressions.expression.Goals as goal

pub returns-clause-ok : goal.returns-clause-ok
returns-clause-ok c = ok_map c.read_at.result (λ r p. ends_before c.args.level c.args.depth (seen_from c.args.at c.args.tokens.now) (tree_of r.0) (seen_from r.1 c.args.tokens.now) p) c.read_at.ensures.ok

pub returns-clause-err : goal.returns-clause-err
returns-clause-err c = err_map c.read_at.result (λ f p. expression_refuses c.args.level c.args.depth c.args.tokens.now c.args.at f p) c.read_at.ensures.err

pub returns-clause-size : goal.returns-clause-size
returns-clause-size c =
    ok_all c.read_at.result
    (λ r p s b. ends_size c.args.level c.args.depth c.args.tokens.now c.args.at r.1 r.0 c.requires.at b.1 s (ends_before c.args.level c.args.depth (seen_from c.args.at c.args.tokens.now) (tree_of r.0) (seen_from r.1 c.args.tokens.now) p))
    c.read_at.ensures.ok c.read_at.ensures.sound c.read_at.ensures.range
