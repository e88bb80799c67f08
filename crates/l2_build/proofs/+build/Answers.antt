use Rattle.std.proofs.Common.{◌≡◌, true, false, Some, ap, ◌∙◌, arith, rules}
use Rattle.l2_syntax.specs.declared.token.Mark.TheVariants as mark
use Rattle.l2_grammar.specs.Marks.{is}
use Rattle.l2_tree.specs.Units.{expr_tree, declarator_tree, declared_tree, enumerator_tree, initialiser_tree}
use Rattle.l2_tree.specs.Build.{built}
use Rattle.l2_build.specs.Parts.{parts_of}
use Rattle.l2_build.proofs.Goes.{index_goes, choice_goes, array_goes, valued_goes, initialised_goes, equal_goes, plain_goes, declarators_go}
use Rattle.l2_build.proofs.+build.Goals as goal

pub operands::indexed-returns-clause-ok : goal.operands::indexed-returns-clause-ok
operands::indexed-returns-clause-ok t c =
    let m : is mark.CloseBracket c.in-Leaf.close.kind ≡ true = first_of (cc, grind arith) in
    index_goes (expr_tree c.args.array.value) (expr_tree c.in_ok-at.at.value) (expr_tree c.in_ok-value.value.value) c.args.place c.in-Leaf.close.place (parts_of c.args.inner.now) c.in-Leaf.close.kind (parts_of c.args.parts.now) (parts_of c.in-Leaf.rest.now)
    c.in-Leaf.ensures.parts m c.in_ok-at.ensures.ok (ap expr_tree c.in_ok-value.ensures.ok)

pub operands::chosen-returns-clause-ok : goal.operands::chosen-returns-clause-ok
operands::chosen-returns-clause-ok t c =
    let m : is mark.Colon c.in-Leaf.colon.kind ≡ true = first_of (cc, grind arith) in
    choice_goes (expr_tree c.args.test.value) (expr_tree c.in_ok-yes.yes.value) (expr_tree c.in_ok-no.no.value) (expr_tree c.in_ok-value.value.value) c.args.place c.in-Leaf.colon.place
    (parts_of c.args.inner.now) (parts_of c.in-Node.last.now) c.in-Leaf.colon.kind (parts_of c.args.parts.now) (parts_of c.in-Leaf.behind.now) (parts_of c.in-Node.rest.now)
    c.in-Leaf.ensures.parts c.in-Node.ensures.parts m c.in_ok-yes.ensures.ok c.in_ok-no.ensures.ok (ap expr_tree c.in_ok-value.ensures.ok)

pub declarators::array_of-returns-clause-ok : goal.declarators::array_of-returns-clause-ok
declarators::array_of-returns-clause-ok t c =
    let m : is mark.CloseBracket c.in-Leaf.close.kind ≡ true = first_of (cc, grind arith) in λ xs.
    array_goes xs (expr_tree c.in_ok-length.length.value) c.args.place c.in-Leaf.close.place (parts_of c.args.inner.now) c.in-Leaf.close.kind (parts_of c.args.parts.now) (parts_of c.in-Leaf.rest.now)
    c.in-Leaf.ensures.parts m c.in_ok-length.ensures.ok

pub specifiers::valued-returns-clause-ok : goal.specifiers::valued-returns-clause-ok
specifiers::valued-returns-clause-ok t c = λ f es.
    valued_goes f es c.args.name c.args.place c.in-Leaf.equal.place (expr_tree c.in_ok-number.number.value) (enumerator_tree c.in_ok-value.value.value) (parts_of c.in-Node.inner.now) c.in-Leaf.equal.kind
    (parts_of c.args.parts.now) (parts_of c.in-Leaf.behind.now) (parts_of c.in-Node.rest.now) c.in-Leaf.ensures.parts c.in-Node.ensures.parts c.in_ok-number.ensures.ok (ap enumerator_tree c.in_ok-value.ensures.ok)

pub declarations::with_initialiser-returns-clause-ok : goal.declarations::with_initialiser-returns-clause-ok
declarations::with_initialiser-returns-clause-ok t c = λ xs ds.
    initialised_goes xs ds (declarator_tree c.args.declarator.value) c.args.place c.in-Leaf.end.place (initialiser_tree c.in_ok-initialiser.initialiser.value) (declared_tree c.in_ok-value.value.value) (parts_of c.in-Node.inner.now) c.in-Leaf.end.kind
    (parts_of c.args.parts.now) (parts_of c.in-Node.behind.now) (parts_of c.in-Leaf.rest.now) c.in-Node.ensures.parts c.in-Leaf.ensures.parts c.in_ok-initialiser.ensures.ok c.in_ok-value.ensures.ok

pub declarations::one_declared-returns-clause-ok : goal.declarations::one_declared-returns-clause-ok
declarations::one_declared-returns-clause-ok t c =
    let m : is mark.Equal c.in-Leaf.mark.kind ≡ false = first_of (cc, grind arith) in λ xs ds.
    plain_goes xs ds (declarator_tree c.in_ok-declarator.declarator.value) (declared_tree c.in_ok-value.value.value) c.in-Leaf.mark.place (parts_of c.in-Node.inner.now) c.in-Leaf.mark.kind
    (parts_of c.args.parts.now) (parts_of c.in-Node.behind.now) (parts_of c.in-Leaf.rest.now) c.in-Node.ensures.parts c.in-Leaf.ensures.parts c.in_ok-declarator.ensures.ok m c.in_ok-value.ensures.ok

pub declarations::declarator_list-returns-in-Ok-clause-ok : goal.declarations::declarator_list-returns-in-Ok-clause-ok
declarations::declarator_list-returns-in-Ok-clause-ok t c = λ xs.
    declarators_go xs (built (parts_of c.in-Node.field-0.now)) (parts_of c.args.parts.now) (parts_of c.in-Node.field-1.now) c.in-Node.ensures.parts ∙ c.in-Ok.ensures.ok xs

pub declarations::declarator_list-returns-in-Err-clause-err : goal.declarations::declarator_list-returns-in-Err-clause-err
declarations::declarator_list-returns-in-Err-clause-err t c = λ n xs.
    declarators_go xs (built (parts_of c.in-Node.field-0.now)) (parts_of c.args.parts.now) (parts_of c.in-Node.field-1.now) c.in-Node.ensures.parts ∙ c.in-Err.ensures.err n xs

pub declarations::one_declared-returns-in-Ok-clause-ok : goal.declarations::one_declared-returns-in-Ok-clause-ok
declarations::one_declared-returns-in-Ok-clause-ok t c =
    let m : is mark.Equal c.in-Leaf.mark.kind ≡ true = first_of (cc, grind arith) in λ xs ds.
    equal_goes xs ds (declarator_tree c.in_ok-declarator.declarator.value) c.in-Leaf.mark.place (parts_of c.in-Node.inner.now) c.in-Leaf.mark.kind (parts_of c.args.parts.now) (parts_of c.in-Node.behind.now) (parts_of c.in-Leaf.rest.now)
    c.in-Node.ensures.parts c.in-Leaf.ensures.parts c.in_ok-declarator.ensures.ok m
    ∙ c.in-Ok.ensures.ok xs ds

pub declarations::one_declared-returns-in-Err-clause-err : goal.declarations::one_declared-returns-in-Err-clause-err
declarations::one_declared-returns-in-Err-clause-err t c =
    let m : is mark.Equal c.in-Leaf.mark.kind ≡ true = first_of (cc, grind arith) in λ n xs ds.
    equal_goes xs ds (declarator_tree c.in_ok-declarator.declarator.value) c.in-Leaf.mark.place (parts_of c.in-Node.inner.now) c.in-Leaf.mark.kind (parts_of c.args.parts.now) (parts_of c.in-Node.behind.now) (parts_of c.in-Leaf.rest.now)
    c.in-Node.ensures.parts c.in-Leaf.ensures.parts c.in_ok-declarator.ensures.ok m
    ∙ c.in-Err.ensures.err n xs ds
