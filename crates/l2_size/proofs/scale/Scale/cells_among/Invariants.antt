use Rattle.std.proofs.Common.{◌≡◌, ◌≤◌, ◌+◌, drop}
use Rattle.l2_code.specs.Sizes.{cells_among}
use Rattle.l2_size.specs.Capped.{capped}
use Rattle.l2_size.proofs.scale.Scale.cells_among.Given as goal

abbrev pub invariant-loop-object : goal.invariant-loop-object
invariant-loop-object l =
    (capped (l.total + cells_among l.self.code.objects (drop l.object-index l.objects)) ≡ capped (cells_among l.initial.self.code.objects l.objects))
    × (l.total ≤ 18446744073709551615)
