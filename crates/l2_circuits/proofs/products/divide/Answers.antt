use Rattle.std.proofs.Common.{◌≡◌, suc, ◌+◌, ℤ, List, length, sym, ap, ◌∙◌, add-one}
use Rattle.l2_gates.specs.Gates.{F, literal_of, literals_of}
use Rattle.l2_circuits.specs.Words.{resized}
use Rattle.l2_circuits.specs.Products.{divide_by}
use Rattle.l2_circuits.proofs.Bits.{literals_length}
use Rattle.l2_circuits.proofs.products.divide.Goals as goal

-- the divisor with one bit more
widened : (b wide given : List ℤ) (fill : ℤ) → literals_of wide ≡ resized (length b + 1) (literal_of fill) (literals_of b) → literal_of fill ≡ F → given ≡ wide
    → literals_of given ≡ resized (suc (length (literals_of b))) F (literals_of b)
widened b wide given fill e f g =
    ap literals_of g ∙ e ∙ ap (λ x. resized (length b + 1) x (literals_of b)) f ∙ ap (λ n. resized n F (literals_of b)) (add-one (length b) ∙ ap suc (sym (literals_length b)))

pub returns-clause-quotient : goal.returns-clause-quotient
returns-clause-quotient c =
    let w = widened c.args.b.now c.in_ok-wide.wide.items c.deref.result.now c.falsity.result c.in_ok-wide.ensures c.falsity.ensures c.deref.ensures.value in
    c.in_ok-parts.ensures.quotient ∙ ap (λ x. (divide_by (literals_of c.args.a.now) x c.args.gates.now).quotient) w

pub returns-clause-rest : goal.returns-clause-rest
returns-clause-rest c =
    let w = widened c.args.b.now c.in_ok-wide.wide.items c.deref.result.now c.falsity.result c.in_ok-wide.ensures c.falsity.ensures c.deref.ensures.value in
    let a = c.args.a.now in
    c.in_ok-rest.ensures ∙ ap (λ x. resized (length a) x (literals_of c.deref-2.result.now)) c.falsity-2.ensures
    ∙ ap (λ x. resized (length a) F (literals_of x)) c.deref-2.ensures.value
    ∙ ap (λ n. resized n F (literals_of c.in_ok-parts.parts.rest.items)) (sym (literals_length a))
    ∙ ap (λ x. resized (length (literals_of a)) F x) (c.in_ok-parts.ensures.rest ∙ ap (λ x. (divide_by (literals_of a) x c.args.gates.now).rest) w)

pub returns-clause-made : goal.returns-clause-made
returns-clause-made c =
    let w = widened c.args.b.now c.in_ok-wide.wide.items c.deref.result.now c.falsity.result c.in_ok-wide.ensures c.falsity.ensures c.deref.ensures.value in
    c.in_ok-parts.ensures.made ∙ ap (λ x. (divide_by (literals_of c.args.a.now) x c.args.gates.now).made) w
