-- What an operator's mark begins is the operator.
use Rattle.std.proofs.Common.{◌≡◌, refl, false, Some}
use Rattle.l2_syntax.specs.declared.place.Place.{Place}
use Rattle.l2_syntax.specs.declared.token.Mark.TheVariants as mark
use Rattle.l2_syntax.specs.declared.token.TokenKind.TheVariants as kind
use Rattle.l2_grammar.specs.Marks.{is}
use Rattle.l2_tree.specs.declared.operators.UnaryOperator.{UnaryOperator}
use Rattle.l2_tree.specs.declared.operators.UnaryOperator.TheVariants as unary
use Rattle.l2_tree.specs.declared.operators.UpdateOperator.{UpdateOperator}
use Rattle.l2_tree.specs.declared.operators.UpdateOperator.TheVariants as update
use Rattle.l2_tree.specs.declared.operators.MemberOperator.{MemberOperator}
use Rattle.l2_tree.specs.declared.operators.MemberOperator.TheVariants as member
use Rattle.l2_tree.specs.declared.operators.BinaryOperator.{BinaryOperator}
use Rattle.l2_tree.specs.declared.operators.BinaryOperator.TheVariants as binary
use Rattle.l2_tree.specs.declared.operators.AssignmentOperator.{AssignmentOperator}
use Rattle.l2_tree.specs.declared.operators.AssignmentOperator.TheVariants as assignment
use Rattle.l2_tree.specs.declared.operators.SpecifierWord.{SpecifierWord}
use Rattle.l2_tree.specs.declared.operators.SpecifierWord.TheVariants as word
use Rattle.l2_tree.specs.declared.starts.Opening.TheVariants as opening
use Rattle.l2_tree.specs.declared.starts.Continuation.TheVariants as continuation
use Rattle.l2_tree.specs.Trees.{Word}
use Rattle.l2_tree.specs.Spelling.{unary_mark, update_mark, member_mark, binary_mark, assignment_mark, word_mark}
use Rattle.l2_tree.specs.Build.{opening_mark, continuation_mark, simple_of}

pub opens_unary : (o : UnaryOperator) → opening_mark (unary_mark o) ≡ Some (opening.Unary o)
opens_unary unary.Address = refl
opens_unary o = refl

pub opens_update : (o : UpdateOperator) → opening_mark (update_mark o) ≡ Some (opening.Update o)
opens_update update.Increment = refl
opens_update o = refl

pub goes_on_update : (o : UpdateOperator) → continuation_mark (update_mark o) ≡ Some (continuation.Update o)
goes_on_update update.Increment = refl
goes_on_update o = refl

pub goes_on_member : (o : MemberOperator) → continuation_mark (member_mark o) ≡ Some (continuation.Member o)
goes_on_member member.Dot = refl
goes_on_member o = refl

pub goes_on_binary : (o : BinaryOperator) → continuation_mark (binary_mark o) ≡ Some (continuation.Binary o)
goes_on_binary binary.Multiply = refl
goes_on_binary o = refl

pub goes_on_assignment : (o : AssignmentOperator) → continuation_mark (assignment_mark o) ≡ Some (continuation.Assign o)
goes_on_assignment assignment.Assign = refl
goes_on_assignment o = refl

pub simple_word : (w : SpecifierWord) (p : Place) → simple_of (kind.Mark (word_mark w)) p ≡ Some (Word w p)
simple_word word.Static p = refl
simple_word w p = refl

pub word_opens_no_brace : (w : SpecifierWord) → is mark.OpenBrace (kind.Mark (word_mark w)) ≡ false
unfolding is
word_opens_no_brace word.Static = refl
word_opens_no_brace w = refl
