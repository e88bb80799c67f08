use Rattle.std.proofs.Common.{◌≡◌, ◌∙◌, ap, subst, ◌≤◌, List, map}
use Rattle.l2_syntax.specs.declared.token.Token.{Token}
use Rattle.l2_reader.specs.Parts.{seen, tree_of}
use Rattle.l2_reader.specs.Turns.{seen_from}
use Rattle.l2_tree.specs.Units.{expr_tree}
use Rattle.l2_parse_unit.specs.Reading.{kept}
use Rattle.l2_parse_unit.proofs.Places.{same_length}
use Rattle.l2_parse_expr.proofs.Places.{tree_keeps, reads_at}
use Rattle.l2_parse_expr.proofs.reading.expression.Goals as goal

-- the slice that is read has the tokens as trees keep them
plain_is : (read all list tokens : List Token) → read ≡ all → map seen all ≡ kept list → list ≡ tokens → map seen read ≡ kept tokens
plain_is read all list tokens d e f = ap (map seen) d ∙ e ∙ ap kept f

pub expression_of-requires-clause-keeps : goal.expression_of-requires-clause-keeps
expression_of-requires-clause-keeps c =
    tree_keeps c.args.level c.args.depth c.args.tokens.now.list c.deref.result.now c.args.at (tree_of c.in-Ok.text) (seen_from c.in-Ok.end c.deref.result.now)
    (plain_is c.deref.result.now c.in_ok-plain.plain.items c.as_slice.result.now c.args.tokens.now.list c.deref.ensures.value c.in_ok-plain.ensures c.as_slice.ensures) c.in-Ok.ensures.ok

pub returns-in-Ok-expression_of-clause-ok : goal.returns-in-Ok-expression_of-clause-ok
returns-in-Ok-expression_of-clause-ok c =
    reads_at c.args.level c.args.depth c.args.tokens.now.list c.deref.result.now c.args.at c.in-Ok.end (expr_tree c.in-Ok-expression_of.expr) (tree_of c.in-Ok.text)
    (plain_is c.deref.result.now c.in_ok-plain.plain.items c.as_slice.result.now c.args.tokens.now.list c.deref.ensures.value c.in_ok-plain.ensures c.as_slice.ensures) c.in-Ok.ensures.ok c.in-Ok-expression_of.ensures

pub returns-in-Ok-expression_of-clause-range : goal.returns-in-Ok-expression_of-clause-range
returns-in-Ok-expression_of-clause-range c =
    let p = plain_is c.deref.result.now c.in_ok-plain.plain.items c.as_slice.result.now c.args.tokens.now.list c.deref.ensures.value c.in_ok-plain.ensures c.as_slice.ensures in
    (c.in-Ok.ensures.range.0, subst (λ n. c.in-Ok.end ≤ n) (same_length c.args.tokens.now.list c.deref.result.now p) c.in-Ok.ensures.range.1)
