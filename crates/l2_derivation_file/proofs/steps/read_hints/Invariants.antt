use Rattle.std.proofs.Common.{◌≡◌, ◌++◌, map, length}
use Rattle.std.specs.List.{All}
use Rattle.std.specs.Fmt.{decimal}
use Rattle.l2_derivation_file.specs.Cursor.{left}
use Rattle.l2_cert.specs.Certificate.{IsNumber}
use Rattle.l2_derivation_file.proofs.steps.read_hints.Given as goal

-- what was read, and what is left
abbrev pub invariant-loop-first : goal.invariant-loop-first
invariant-loop-first l = record {
  read : left l.words ≡ map decimal l.hints.items ++ left l.rest;
  all : All IsNumber l.hints.items;
}

abbrev pub decreases-loop-first : goal.decreases-loop-first
decreases-loop-first l = length (left l.rest)
