use Rattle.std.proofs.Common.{sym, ap, ◌∙◌}
use Rattle.l2_grammar.specs.declared.states.Sort.TheVariants.{Item as item}
use Rattle.l2_grammar.specs.declared.states.Items.TheVariants.{Lone as lone}
use Rattle.l2_grammar.specs.Nesting.{stands, is_item}
use Rattle.l2_reader.specs.Parts.{tree_of}
use Rattle.l2_reader.proofs.Counting.{alone}
use Rattle.l2_reader.proofs.Rooms.{tree_stands}
use Rattle.l2_reader.proofs.limits.is_statement.Goals as goal

pub returns-then-is_item : goal.returns-then-is_item
returns-then-is_item c =
    let sound = c.requires.sound in
    c.stands.ensures ∙ ap (λ q. stands (item lone) q) (sym sound.stated)
    ∙ sym (alone (tree_of c.args.run.now) (tree_stands c.args.run.now sound) (sound.sized ∙ c.if-run-eq1.true) (ap (λ x. is_item x) sound.sorted ∙ sym c.is_item.ensures ∙ c.if-is_item.true))
