use Rattle.std.proofs.Common.{◌≡◌, drop}
use Rattle.std.specs.Prelude.{map}
use Rattle.l2_types_unit.specs.Words.{known, meaning_in}
use Rattle.l2_types_unit.proofs.words.meaning_in.Given as goal

abbrev pub invariant-loop-e : goal.invariant-loop-e
invariant-loop-e l = meaning_in (map (λ e. known e.0.now e.1) (drop l.e-index l.all)) l.word ≡ meaning_in (map (λ e. known e.0.now e.1) l.all) l.word
