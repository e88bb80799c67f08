use Rattle.std.proofs.Common.{◌≤◌, ◌∙◌, take, length, ap, sym, arith}
use Rattle.std.proofs.lemmas.List.{take-append-le}
use Rattle.l2_templates.proofs.families.add_with_later.Goals as goal

pub returns-then-len-ge-MOST_ROWS : goal.returns-then-len-ge-MOST_ROWS
returns-then-len-ge-MOST_ROWS c =
    let full : 1024 ≤ length c.loop-w.forms.items = omega arith in
    sym (take-append-le 1024 c.loop-w.forms.items _ full) ∙ ap (take 1024) (sym c.loop-w.invariant)
