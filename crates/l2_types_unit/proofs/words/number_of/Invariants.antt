use Rattle.std.proofs.Common.{◌≡◌, drop}
use Rattle.l2_types_unit.specs.Words.{number_of}
use Rattle.l2_types_unit.proofs.words.number_of.Given as goal

abbrev pub invariant-loop-m : goal.invariant-loop-m
invariant-loop-m l = number_of l.number (drop l.m-index l.names) l.word ≡ number_of 0 l.names l.word
