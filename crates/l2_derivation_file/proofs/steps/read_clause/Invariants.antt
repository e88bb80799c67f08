use Rattle.std.proofs.Common.{◌≡◌, ◌++◌, map, length}
use Rattle.std.specs.List.{All}
use Rattle.std.specs.Fmt.{signed_decimal}
use Rattle.l2_derivation_file.specs.Cursor.{left}
use Rattle.l2_cert.specs.Certificate.{IsLiteral}
use Rattle.l2_derivation_file.proofs.steps.read_clause.Given as goal

-- what was read, and what is left
abbrev pub invariant-loop-first : goal.invariant-loop-first
invariant-loop-first l = record {
  read : left l.words ≡ map signed_decimal l.clause.items ++ left l.rest;
  all : All IsLiteral l.clause.items;
}

abbrev pub decreases-loop-first : goal.decreases-loop-first
decreases-loop-first l = length (left l.rest)
