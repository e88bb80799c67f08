-- Every statement that has begun goes on to a whole one.
use Rattle.std.proofs.Common.{◌≡◌, Bool, true, refl}
use Rattle.l2_syntax.specs.declared.token.Mark.TheVariants as mark
use Rattle.l2_grammar.specs.Marks.{is}
use Rattle.l2_grammar.specs.Networks.{on_token}
use Rattle.l2_grammar.specs.Nesting.{opens, outcome, on_child, stands, is_item}
use Rattle.l2_grammar.specs.Trees.{begin, token}
use Rattle.l2_grammar.proofs.Whole.{Can, can_stop, can_token, can_child, seen, sign, skip, can_value, can_statement, can_semicolon, can_body, can_then}
use Rattle.l2_grammar.specs.States.{Items, behind_else, Sort, item, State, word, block, if_open, if_test, if_close, then_part, then_done, else_part, head_open, head_test, head_close, body, do_body, do_while, do_open, do_test, do_close, for_open, for_init, for_init_close, for_second, for_second_close, for_third, for_close, case_value, colon, returning, semicolon, statement}

-- statements
pub in_item : (q : State) → ((b : Items) → Can (item b) q) → (s : Sort) → is_item s ≡ true → Can s q
in_item q f (item b) h = f b
in_item q f s h = absurd (cc)

pub can_if_close : (b : Items) → Can (item b) if_close
unfolding on_token stands is
can_if_close b = can_token (item b) if_close then_part (sign mark.CloseParenthesis) refl refl (can_then b)

pub can_if_test : (b : Items) → Can (item b) if_test
unfolding on_child opens stands
can_if_test b = can_value (item b) if_test if_close 1 refl refl refl refl (can_if_close b)

pub can_if_open : (b : Items) → Can (item b) if_open
unfolding on_token stands is
can_if_open b = can_token (item b) if_open if_test (sign mark.OpenParenthesis) refl refl (can_if_test b)

pub can_word : (b : Items) → Can (item b) word
unfolding on_token stands is
can_word b = can_token (item b) word (statement true) (sign mark.Semicolon) refl refl (can_statement b true)

pub can_block : (b : Items) → Can (item b) block
unfolding on_token stands is
can_block b = can_token (item b) block (statement true) (sign mark.CloseBrace) refl refl (can_statement b true)

pub can_then_done : (c : Bool) (b : Items) → Can (item b) (then_done c)
unfolding outcome
can_then_done c b = can_stop (item b) (then_done c) refl

pub can_else : (b : Items) → Can (item b) else_part
unfolding on_token on_child opens stands outcome is
can_else b = can_child (item b) else_part (statement true) (token (begin (item behind_else)) (seen (sign mark.Semicolon))) (tt, refl) refl refl refl (can_statement b true)

pub can_rest : (b : Items) → Can (item b) body
unfolding on_child opens
can_rest b = can_body b body refl refl

pub can_head_close : (b : Items) → Can (item b) head_close
unfolding on_token stands is
can_head_close b = can_token (item b) head_close body (sign mark.CloseParenthesis) refl refl (can_rest b)

pub can_head_test : (b : Items) → Can (item b) head_test
unfolding on_child opens stands
can_head_test b = can_value (item b) head_test head_close 1 refl refl refl refl (can_head_close b)

pub can_head_open : (b : Items) → Can (item b) head_open
unfolding on_token stands is
can_head_open b = can_token (item b) head_open head_test (sign mark.OpenParenthesis) refl refl (can_head_test b)

pub can_do_close : (b : Items) → Can (item b) do_close
unfolding on_token stands is
can_do_close b = can_token (item b) do_close semicolon (sign mark.CloseParenthesis) refl refl (can_semicolon b)

pub can_do_test : (b : Items) → Can (item b) do_test
unfolding on_child opens stands
can_do_test b = can_value (item b) do_test do_close 1 refl refl refl refl (can_do_close b)

pub can_do_open : (b : Items) → Can (item b) do_open
unfolding on_token stands is
can_do_open b = can_token (item b) do_open do_test (sign mark.OpenParenthesis) refl refl (can_do_test b)

pub can_do_while : (b : Items) → Can (item b) do_while
unfolding on_token stands is
can_do_while b = can_token (item b) do_while do_open (sign mark.While) refl refl (can_do_open b)

pub can_do_body : (b : Items) → Can (item b) do_body
unfolding on_token on_child opens stands outcome is
can_do_body b = can_child (item b) do_body do_while skip (tt, refl) refl refl refl (can_do_while b)

pub can_for_close : (b : Items) → Can (item b) for_close
unfolding on_token stands is
can_for_close b = can_token (item b) for_close body (sign mark.CloseParenthesis) refl refl (can_rest b)

pub can_for_third : (b : Items) → Can (item b) for_third
unfolding on_token stands is
can_for_third b = can_token (item b) for_third body (sign mark.CloseParenthesis) refl refl (can_rest b)

pub can_for_second_close : (b : Items) → Can (item b) for_second_close
unfolding on_token stands is
can_for_second_close b = can_token (item b) for_second_close for_third (sign mark.Semicolon) refl refl (can_for_third b)

pub can_for_second : (b : Items) → Can (item b) for_second
unfolding on_token stands is
can_for_second b = can_token (item b) for_second for_third (sign mark.Semicolon) refl refl (can_for_third b)

pub can_for_init_close : (b : Items) → Can (item b) for_init_close
unfolding on_token stands is
can_for_init_close b = can_token (item b) for_init_close for_second (sign mark.Semicolon) refl refl (can_for_second b)

pub can_for_init : (b : Items) → Can (item b) for_init
unfolding on_token stands is
can_for_init b = can_token (item b) for_init for_second (sign mark.Semicolon) refl refl (can_for_second b)

pub can_for_open : (b : Items) → Can (item b) for_open
unfolding on_token stands is
can_for_open b = can_token (item b) for_open for_init (sign mark.OpenParenthesis) refl refl (can_for_init b)

pub can_colon : (b : Items) → Can (item b) colon
unfolding on_token stands is
can_colon b = can_token (item b) colon body (sign mark.Colon) refl refl (can_rest b)

pub can_case : (b : Items) → Can (item b) case_value
unfolding on_child opens stands
can_case b = can_value (item b) case_value colon 3 refl refl refl refl (can_colon b)

pub can_returning : (b : Items) → Can (item b) returning
unfolding on_token stands is
can_returning b = can_token (item b) returning (statement true) (sign mark.Semicolon) refl refl (can_statement b true)
