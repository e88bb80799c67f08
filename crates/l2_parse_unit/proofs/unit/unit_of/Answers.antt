use Rattle.std.proofs.Common.{ap, ◌∙◌, map}
use Rattle.l2_reader.specs.Parts.{tree_of}
use Rattle.l2_tree.specs.Units.{external_tree}
use Rattle.l2_tree.specs.Spelling.{run_unit}
use Rattle.l2_parse_unit.specs.Reading.{constants_of}
use Rattle.l2_parse_unit.proofs.Wholes.{run_spelt, plain_shallow}
use Rattle.l2_parse_unit.proofs.unit.unit_of.Goals as goal

pub returns-in_ok-names-in-Ok-clause-ok : goal.returns-in_ok-names-in-Ok-clause-ok
returns-in_ok-names-in-Ok-clause-ok c = record {
  unstopped = c.requires.unstopped;
  spelled = run_spelt c.args.tokens.now.list c.args.plain.now (tree_of c.args.text.now) (map external_tree c.new.result) c.requires.plain c.requires.spelt
      (ap (λ xs. run_unit (map external_tree xs)) c.new.ensures ∙ c.in-Ok.ensures);
  shallow = plain_shallow c.args.tokens.now.list c.args.plain.now (tree_of c.args.text.now) c.requires.plain c.requires.spelt c.requires.shallow;
  constants = c.new-in-Ok.ensures ∙ c.in_ok-constants-in-Ok.ensures ∙ ap constants_of c.as_slice-list.ensures;
  names = ap (map (λ n. n.bytes)) c.new-in-Ok-2.ensures ∙ c.in_ok-names-in-Ok.ensures ∙ ap (map (λ n. n.bytes)) c.as_slice.ensures;
}
