use Rattle.std.proofs.Common.{◌≡◌, ◌+◌, ◌-◌, ◌++◌, ◌∙◌, ℕ, List, ap, take, drop, length, arith}
use Rattle.std.specs.Prelude.{vec_len}
use lib.Seq.{paste}
use Rattle.std.proofs.lemmas.List.{length-drop, take_all}
use Rattle.std.proofs.lemmas.List.Edits.{take-paste}
use Rattle.l2_watch.specs.declared.entry.Entry.{Entry}
use Rattle.l2_watch.proofs.visit.close_gap.Goals as goal

pub returns : goal.returns
returns c =
    let old : List Entry = c.args.list.now.items in
    let to : ℕ = c.args.to in
    let from : ℕ = c.args.from in
    let count : c.len.result - (to - from) ≡ from + (length old - to) = omega (arith, c.len.ensures, c.requires.order, c.requires.within) in
    let same : vec_len c.args.list.now ≡ length old = omega arith in
    c.truncate.ensures.items ∙ (λ i. take (count i) (c.copy_within.ensures.items i))
    ∙ ap (λ n. take (from + (length old - to)) (paste old from (drop to old) (n - to))) same
    ∙ take-paste old from (drop to old) (length old - to) (omega (arith, c.requires.order, c.requires.within)) (omega (arith, length-drop to old))
    ∙ ap (λ x. take from old ++ x) (take_all (length old - to) (drop to old) (omega (arith, length-drop to old)))
