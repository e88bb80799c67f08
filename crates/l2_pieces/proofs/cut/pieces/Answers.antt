use Rattle.std.proofs.Common.{◌≡◌, ◌+◌, ◌++◌, ◌∙◌, [], Bool, cond, sym, ap, List, ℕ, drop, arith}
use Rattle.std.proofs.lemmas.List.{drop-drop}
use Rattle.std.specs.List.{filter}
use Rattle.l2_pieces.specs.Pieces.{parts, is_solid}
use Rattle.l2_pieces.proofs.cut.pieces.Goals as goal

pub loop-at-preserved : goal.loop-at-preserved
loop-at-preserved c =
    let d : drop (c.loop-at.at + 1) c.args.text.now ≡ drop 1 (drop c.loop-at.at c.args.text.now) = sym (drop-drop 1 c.loop-at.at c.args.text.now) in
    let f : c.rest_of.result.now ≡ drop c.loop-at.at c.args.text.now = c.rest_of.ensures in
    let i = c.loop-at.invariant in
    let p = c.in_ok-cursor.ensures.place in
    let i1 = i.1 in let i2 = i.2 in let i3 = i.3 in let i4 = i.4 in let n = c.in_ok-cursor.ensures.few in
    let p0 = p.0 in let p1 = p.1 in let p2 = p.2 in
    let kept = c.advance.new.kept.items in
    let cur = c.in_ok-cursor.cursor in (
      ap (λ (x : List ℕ). kept ++ filter is_solid (parts cur.place cur.inside x)) (d ∙ ap (λ (y : List ℕ). drop 1 y) (sym f))
          ∙ ap (λ (b : Bool). kept ++ filter is_solid (cond b [] (parts cur.place cur.inside (drop 1 c.rest_of.result.now)))) (sym c.if-cursor.false)
          ∙ c.in_ok-cursor.ensures.parts
          ∙ ap (λ (x : List ℕ). c.loop-at.kept.items ++ filter is_solid (parts c.loop-at.place c.loop-at.inside x)) f ∙ i.0,
      omega arith,
      omega arith,
      omega arith,
      omega arith,
    )
