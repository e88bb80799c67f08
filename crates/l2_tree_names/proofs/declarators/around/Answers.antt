use Rattle.l2_tree_names.proofs.Rounds.{by_suffix, by_pointer}
use Rattle.l2_tree_names.proofs.declarators.around.Goals as goal

pub returns-in-Some-first_suffix : goal.returns-in-Some-first_suffix
returns-in-Some-first_suffix c = by_suffix c.args.inside (c.in-Some-first_suffix.suffix).now c.args.suffixes.now c.args.pointers.now c.in-None.is c.in-Some-first_suffix.ensures

pub returns-in-Some-last_pointer : goal.returns-in-Some-last_pointer
returns-in-Some-last_pointer c = by_pointer c.args.inside c.in-Some-last_pointer.pointer c.args.suffixes.now c.args.pointers.now c.in-None.is c.in-None-first_suffix.ensures c.in-Some-last_pointer.ensures
