use Rattle.std.proofs.Common.{◌≡◌, ◌+◌, ◌-◌, ◌<◌, ◌∙◌, sym, ap, drop, length, ℕ, List, arith}
use Rattle.l2_pieces.specs.Fronts.{is_splice, unspliced}
use Rattle.l2_pieces.proofs.Spelled.{unspliced_on}
use Rattle.l2_pieces.proofs.comments.unspliced.Goals as goal

one_on : (i u v w : ℕ) → i + u ≡ w → u ≡ 1 + v → i + 1 + v ≡ w
one_on i u v w a b = omega arith

pub loop-at-preserved : goal.loop-at-preserved
loop-at-preserved c =
    let l : c.loop-at.at < length c.args.text.now = omega (arith, c.loop-at-test.true, c.requires) in
    one_on c.loop-at.at (unspliced (c.args.count - c.loop-at.at) (drop c.loop-at.at c.args.text.now)) (unspliced (c.args.count - (c.loop-at.at + 1)) (drop (c.loop-at.at + 1) c.args.text.now)) (unspliced c.args.count c.args.text.now)
    c.loop-at.invariant
    (unspliced_on c.args.count c.loop-at.at c.args.text.now c.loop-at-test.true l (ap (λ (x : List ℕ). is_splice x) (sym c.rest_of.ensures) ∙ sym c.is_splice.ensures ∙ c.if-is_splice.false))
