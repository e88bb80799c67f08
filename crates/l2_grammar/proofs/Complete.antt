-- Every state that may stand goes on to a whole construct.
use Rattle.std.proofs.Common.{◌≡◌, true, false, refl}
use Rattle.l2_syntax.specs.declared.token.Mark.TheVariants as mark
use Rattle.l2_syntax.specs.declared.token.TokenKind.TheVariants as kind
use Rattle.l2_grammar.specs.Marks.{is}
use Rattle.l2_grammar.specs.Networks.{on_token}
use Rattle.l2_grammar.specs.Nesting.{opens, outcome, on_child, stands, is_unit, names, naming, takes_type, ends_declaration, specifies}
use Rattle.l2_grammar.proofs.Bools.{no, both, and}
use Rattle.l2_grammar.proofs.Statements.{in_item, can_if_close, can_if_test, can_if_open, can_word, can_block, can_then_done, can_else, can_rest, can_head_close, can_head_test, can_head_open, can_do_close, can_do_test, can_do_open, can_do_while, can_do_body, can_for_close, can_for_third, can_for_second_close, can_for_second, can_for_init_close, can_for_init, can_for_open, can_colon, can_case, can_returning}
use Rattle.l2_grammar.proofs.Declarations.{can_end, can_declared, can_typed, can_next, can_before, can_struct, can_enum, can_members, can_enumerator, can_enumerators, can_enum_value_close, can_enum_value, can_enum_comma, can_init_close, can_init, can_function}
use Rattle.l2_grammar.proofs.Declarators.{can_braced, can_brace_more, can_brace_next, can_braces, in_initialiser, can_direct, can_group_close, can_size, can_size_close, can_parameters, can_more, can_parameters_next, can_stars, can_stars_const, can_group}
use Rattle.l2_grammar.proofs.Whole.{Completed, Can, can_child, sign, least_of, can_have, can_right, can_primary, can_sized, can_typed_close, can_paren_close, can_paren, can_value, can_call_more, can_index_close, can_quest_close, can_statement, can_semicolon, can_then}
use Rattle.l2_grammar.specs.Trees.{Tree, sort, state, Fits}
use Rattle.l2_grammar.specs.States.{Sort, sizeof_operand, State, none, fresh, unit_end, have, right, sizing, sized, paren, paren_close, typed_close, index, index_close, call, call_more, call_next, member_name, quest, quest_close, word, block, if_open, if_test, if_close, then_part, then_done, else_part, head_open, head_test, head_close, body, do_body, do_while, do_open, do_test, do_close, for_open, for_init, for_init_close, for_second, for_second_close, for_third, for_close, case_value, colon, returning, semicolon, statement, before_type, typed, struct_word, enum_word, members, enumerators, enumerator, enum_value, enum_value_close, enum_comma, declared, init_value, init_close, next_declarator, declaration_end, function_block, braces, brace_more, brace_next, braced, stars, stars_const, group, group_close, direct, size, size_close, parameters, parameters_more, parameters_next}

completes : (s : Sort) (q : State) → is_unit s ≡ false → stands s q ≡ true → Can s q
unfolding stands on_token on_child opens is outcome
completes s none u h = absurd (cc)
completes s fresh u h = absurd (no h u)
completes s unit_end u h = absurd (no h u)
completes s (have l) u h = can_have s l h
completes s (right r) u h = can_right s r h
completes s sizing u h = can_child s sizing (have 15) (least_of sizeof_operand) (tt, refl) refl refl (and _ _ h refl) (can_have s 15 (and _ _ h refl))
completes s sized u h = can_sized s h
completes s typed_close u h = can_typed_close s h
completes s paren u h = can_paren s h (takes_type s) refl
completes s paren_close u h = can_paren_close s h
completes s index u h = can_value s index index_close 1 refl refl refl h (can_index_close s h)
completes s index_close u h = can_index_close s h
completes s call u h = can_primary s call (sign mark.CloseParenthesis) h refl
completes s call_more u h = can_call_more s h
completes s call_next u h = can_value s call_next call_more 2 refl refl refl h (can_call_more s h)
completes s member_name u h = can_primary s member_name (kind.Word 0) h refl
completes s quest u h = can_value s quest quest_close 1 refl refl refl h (can_quest_close s h)
completes s quest_close u h = can_quest_close s h
completes s word u h = in_item word can_word s h
completes s block u h = in_item block can_block s h
completes s if_open u h = in_item if_open can_if_open s h
completes s if_test u h = in_item if_test can_if_test s h
completes s if_close u h = in_item if_close can_if_close s h
completes s then_part u h = in_item then_part can_then s h
completes s (then_done c) u h = in_item (then_done c) (can_then_done c) s h
completes s else_part u h = in_item else_part can_else s h
completes s head_open u h = in_item head_open can_head_open s h
completes s head_test u h = in_item head_test can_head_test s h
completes s head_close u h = in_item head_close can_head_close s h
completes s body u h = in_item body can_rest s h
completes s do_body u h = in_item do_body can_do_body s h
completes s do_while u h = in_item do_while can_do_while s h
completes s do_open u h = in_item do_open can_do_open s h
completes s do_test u h = in_item do_test can_do_test s h
completes s do_close u h = in_item do_close can_do_close s h
completes s for_open u h = in_item for_open can_for_open s h
completes s for_init u h = in_item for_init can_for_init s h
completes s for_init_close u h = in_item for_init_close can_for_init_close s h
completes s for_second u h = in_item for_second can_for_second s h
completes s for_second_close u h = in_item for_second_close can_for_second_close s h
completes s for_third u h = in_item for_third can_for_third s h
completes s for_close u h = in_item for_close can_for_close s h
completes s case_value u h = in_item case_value can_case s h
completes s colon u h = in_item colon can_colon s h
completes s returning u h = in_item returning can_returning s h
completes s semicolon u h = in_item semicolon can_semicolon s h
completes s (statement c) u h = in_item (statement c) (λ b. can_statement b c) s h
completes s (before_type w) u h = can_before s w h
completes s (typed w y) u h = can_typed s w y h
completes s (struct_word w) u h = can_struct s w h
completes s (enum_word w) u h = can_enum s w h
completes s (members w) u h = can_members s w h
completes s (enumerators w) u h = can_enumerators s w h
completes s (enumerator w) u h = can_enumerator s w h
completes s (enum_value w) u h = can_enum_value s w h
completes s (enum_value_close w) u h = can_enum_value_close s w h
completes s (enum_comma w) u h = can_enum_comma s w h
completes s (declared w i b) u h = can_declared s w i b (both (specifies s w) (names (naming s) i) h).0
completes s (init_value w) u h = can_init s w h
completes s (init_close w) u h = can_init_close s w h
completes s (next_declarator w) u h = let p = both (ends_declaration s) (specifies s w) h in can_next s w p.0 p.1
completes s declaration_end u h = can_end s h
completes s function_block u h = can_function s h
completes s braces u h = in_initialiser braces can_braces s h
completes s brace_more u h = in_initialiser brace_more can_brace_more s h
completes s brace_next u h = in_initialiser brace_next can_brace_next s h
completes s braced u h = in_initialiser braced can_braced s h
completes s stars u h = can_stars s h
completes s stars_const u h = can_stars_const s h
completes s (group b) u h = can_group s b h
completes s (group_close b i) u h = can_group_close s b i h
completes s (direct b i) u h = can_direct s b i h
completes s (size b i) u h = can_size s b i h
completes s (size_close b i) u h = can_size_close s b i h
completes s (parameters b i) u h = can_parameters s b i h
completes s (parameters_more b i now later) u h = can_more s b i now later h
completes s (parameters_next b i c) u h = can_parameters_next s b i c h

pub complete : (r : Tree) → Fits r → is_unit (sort r) ≡ false → stands (sort r) (state r) ≡ true → Completed r
complete r f u h = completes (sort r) (state r) u h r f refl refl
