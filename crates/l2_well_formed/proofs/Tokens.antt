-- The tokens of operators.
use Rattle.std.proofs.Common.{◌≡◌, refl, ℕ, true, false, leb}
use Rattle.l2_syntax.specs.declared.token.Mark.TheVariants as mark
use Rattle.l2_syntax.specs.declared.token.TokenKind.{TokenKind}
use Rattle.l2_syntax.specs.declared.token.TokenKind.TheVariants as kind
use Rattle.l2_grammar.specs.declared.states.Right.TheVariants as right
use Rattle.l2_grammar.specs.declared.states.State.{State}
use Rattle.l2_grammar.specs.declared.states.State.TheVariants as st
use Rattle.l2_grammar.specs.Marks.{is}
use Rattle.l2_grammar.specs.Networks.{continued, wants_left}
use Rattle.l2_tree.specs.declared.operators.UpdateOperator.{UpdateOperator}
use Rattle.l2_tree.specs.declared.operators.UpdateOperator.TheVariants as update
use Rattle.l2_tree.specs.declared.operators.MemberOperator.{MemberOperator}
use Rattle.l2_tree.specs.declared.operators.MemberOperator.TheVariants as member
use Rattle.l2_tree.specs.declared.operators.BinaryOperator.{BinaryOperator}
use Rattle.l2_tree.specs.declared.operators.BinaryOperator.TheVariants as binary
use Rattle.l2_tree.specs.declared.operators.AssignmentOperator.{AssignmentOperator}
use Rattle.l2_tree.specs.declared.operators.AssignmentOperator.TheVariants as assignment
use Rattle.l2_tree.specs.Spelling.{update_mark, member_mark, binary_mark, assignment_mark}
use Rattle.l2_well_formed.specs.Expressions.{rank}

-- a token that goes on behind an operand of this level, to this state
pub record Follows (k : TokenKind) (n : ℕ) (q : State) : Type 0 where
  pub colon : is mark.Colon k ≡ false
  pub most : leb (wants_left k) 16 ≡ true
  pub wants : wants_left k ≡ n
  pub state : continued k ≡ q

pub binary_follows : (o : BinaryOperator) → Follows (kind.Mark (binary_mark o)) (rank o) (st.Right (right.Binary (rank o)))
unfolding is
binary_follows binary.Multiply = record { colon = refl; most = refl; wants = refl; state = refl }
binary_follows o = record { colon = refl; most = refl; wants = refl; state = refl }

pub assignment_follows : (o : AssignmentOperator) → Follows (kind.Mark (assignment_mark o)) 15 (st.Right right.Assignment)
unfolding is
assignment_follows assignment.Assign = record { colon = refl; most = refl; wants = refl; state = refl }
assignment_follows o = record { colon = refl; most = refl; wants = refl; state = refl }

pub update_follows : (o : UpdateOperator) → Follows (kind.Mark (update_mark o)) 16 (st.Have 16)
unfolding is
update_follows update.Increment = record { colon = refl; most = refl; wants = refl; state = refl }
update_follows update.Decrement = record { colon = refl; most = refl; wants = refl; state = refl }

pub member_follows : (o : MemberOperator) → Follows (kind.Mark (member_mark o)) 16 st.MemberName
unfolding is
member_follows member.Dot = record { colon = refl; most = refl; wants = refl; state = refl }
member_follows member.Arrow = record { colon = refl; most = refl; wants = refl; state = refl }

pub index_follows : Follows (kind.Mark mark.OpenBracket) 16 st.Index
unfolding is
index_follows = record { colon = refl; most = refl; wants = refl; state = refl }

pub call_follows : Follows (kind.Mark mark.OpenParenthesis) 16 st.Call
unfolding is
call_follows = record { colon = refl; most = refl; wants = refl; state = refl }

pub question_follows : Follows (kind.Mark mark.Question) 4 st.Quest
unfolding is
question_follows = record { colon = refl; most = refl; wants = refl; state = refl }

pub comma_follows : Follows (kind.Mark mark.Comma) 1 (st.Right (right.Binary 1))
unfolding is
comma_follows = record { colon = refl; most = refl; wants = refl; state = refl }
