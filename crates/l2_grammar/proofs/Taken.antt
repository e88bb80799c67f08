-- A whole construct is taken where its sort may stand.
use Rattle.std.proofs.Common.{◌≡◌, ◌≤◌, ℕ, Bool, true, false, cond, leb, refl, sym, ap, ◌∙◌, subst, arith}
use Rattle.l2_grammar.specs.Networks.{level_of, wanted_by}
use Rattle.l2_grammar.specs.Nesting.{declares_in, opens, on_child, stands, value_at, is_unit, is_item, is_declarator, names, naming, own_naming, grouped, takes_type, ends_declaration, specifies, defines, behind_value, behind_inside, behind_group, behind_declarator, behind_statement, behind_item, behind_declaration, behind_first, behind_parameter, behind_next_parameter}
use Rattle.std.proofs.lemmas.Bool.{le-leb, leb-true}
use Rattle.l2_grammar.proofs.Bools.{cond_true, both, and, no}
use Rattle.l2_grammar.specs.States.{Items, lone, listed, behind_else, Naming, named, optional, absent, Sort, unit, external, item, for_first, member, parameter, declarator, enclosed, operand, inside, sizeof_operand, initialiser, nowhere, Right, binary, assignment, conditional, cast, prefix, update, Shape, nameless, State, none, fresh, have, right, sizing, paren, index, index_close, call, call_more, call_next, quest, quest_close, block, if_test, if_close, then_part, then_done, else_part, head_test, head_close, body, do_body, do_while, do_test, do_close, for_init, for_second, for_second_close, for_third, for_close, case_value, colon, returning, semicolon, statement, typed, members, enum_value, enum_value_close, declared, init_value, init_close, next_declarator, function_block, braces, brace_more, brace_next, group, group_close, size, size_close, parameters, parameters_next, Outcome, value, stated, declaration, type, declares}

-- what every place takes where this sort of construct may stand
abbrev pub done : Sort → Outcome → Bool
done (operand l) value = true
done inside value = true
done inside (type a v) = true
done sizeof_operand value = true
done initialiser value = true
done for_first value = true
done for_first declaration = true
done (item b) (stated c) = true
done (item b) declaration = declares_in b
done external declaration = true
done member declaration = true
done parameter (type a v) = true
done (declarator n) (declares h) = names n h
done (enclosed n) (declares h) = names n h
done (enclosed n) (type a v) = true
done s o = false

done_value : (l : ℕ) (o : Outcome) → done (operand l) o ≡ true → o ≡ value
done_value l value d = refl
done_value l o d = absurd (cc)

done_sizeof : (o : Outcome) → done sizeof_operand o ≡ true → o ≡ value
done_sizeof value d = refl
done_sizeof o d = absurd (cc)

done_initialiser : (o : Outcome) → done initialiser o ≡ true → o ≡ value
done_initialiser value d = refl
done_initialiser o d = absurd (cc)

taken_value : (s : Sort) (x : State) (o : Outcome) → stands s x ≡ true → o ≡ value → stands s (behind_value x o) ≡ true
taken_value s x o g e = subst (λ z. stands s (behind_value x z) ≡ true) (sym e) g

taken_statement : (s : Sort) (f : Bool → State) (i : Items) (o : Outcome) → declares_in i ≡ false → ((b : Bool) → stands s (f b) ≡ true) → done (item i) o ≡ true → stands s (behind_statement f o) ≡ true
taken_statement s f i (stated b) u g d = g b
taken_statement s f i declaration u g d = absurd (no d u)
taken_statement s f i o u g d = absurd (cc)

taken_item : (s : Sort) (x : State) (o : Outcome) → stands s x ≡ true → done (item listed) o ≡ true → stands s (behind_item x o) ≡ true
taken_item s x (stated b) g d = g
taken_item s x declaration g d = g
taken_item s x o g d = absurd (cc)

taken_member : (s : Sort) (x : State) (o : Outcome) → stands s x ≡ true → done member o ≡ true → stands s (behind_declaration x o) ≡ true
taken_member s x declaration g d = g
taken_member s x o g d = absurd (cc)

taken_external : (s : Sort) (o : Outcome) → stands s fresh ≡ true → done (cond (is_unit s) external nowhere) o ≡ true → stands s (behind_declaration fresh o) ≡ true
unfolding stands
taken_external unit declaration g d = refl
taken_external unit o g d = absurd (cc)
taken_external s o g d = absurd (cc)

taken_inside : (s : Sort) (o : Outcome) (c : Bool) → takes_type s ≡ c → value_at 16 s ≡ true → done (cond c inside (operand 1)) o ≡ true → stands s (behind_inside o) ≡ true
unfolding stands
taken_inside s value true e g d = g
taken_inside s (type a v) true e g d = e
taken_inside s value false e g d = g
taken_inside s o true e g d = absurd (cc)
taken_inside s o false e g d = absurd (cc)

taken_first : (s : Sort) (o : Outcome) → is_item s ≡ true → done for_first o ≡ true → stands s (behind_first o) ≡ true
unfolding stands
taken_first s value g d = g
taken_first s declaration g d = g
taken_first s o g d = absurd (cc)

taken_declarator : (s : Sort) (n : Naming) (f : Shape → State) (o : Outcome) → ((h : Shape) → names n h ≡ true → stands s (f h) ≡ true) → done (declarator n) o ≡ true → stands s (behind_declarator n f o) ≡ true
taken_declarator s n f (declares h) g d = subst (λ z. stands s z ≡ true) (sym (cond_true (names n h) (f h) none d)) (g h d)
taken_declarator s n f o g d = absurd (cc)

taken_parameter : (s : Sort) (b : Bool) (h : Shape) (c : Bool) (o : Outcome) → stands s (parameters b h) ≡ true → done parameter o ≡ true → stands s (behind_parameter b h c o) ≡ true
unfolding stands
taken_parameter s b h c (type a v) g d = g
taken_parameter s b h c o g d = absurd (cc)

taken_next : (s : Sort) (b : Bool) (h : Shape) (c : Bool) (o : Outcome) → stands s (parameters b h) ≡ true → done parameter o ≡ true → stands s (behind_next_parameter b h c o) ≡ true
unfolding stands
taken_next s b h c (type a v) g d = g
taken_next s b h c o g d = absurd (cc)

taken_group : (s : Sort) (b : Bool) (n : Naming) (o : Outcome) → own_naming s ≡ n → is_declarator s ≡ true → done (grouped n) o ≡ true → stands s (behind_group n b o) ≡ true
unfolding stands
taken_group s b named (declares h) e g d = subst (λ z. stands s z ≡ true) (sym (cond_true (names named h) (group_close b h) none d)) (and _ _ g (ap (λ z. names z h) e ∙ d))
taken_group s b n (declares h) e g d = subst (λ z. stands s z ≡ true) (sym (cond_true (names n h) (group_close b h) none d)) (and _ _ g (ap (λ z. names z h) e ∙ d))
taken_group s b named (type a v) e g d = absurd (cc)
taken_group s b optional (type a v) e g d = and _ _ g (ap (λ z. names z nameless) e)
taken_group s b absent (type a v) e g d = and _ _ g (ap (λ z. names z nameless) e)
taken_group s b named o e g d = absurd (cc)
taken_group s b n o e g d = absurd (cc)

right_stands : (s : Sort) (r : Right) → stands s (right r) ≡ true → stands s (have (level_of r)) ≡ true
unfolding stands
right_stands s r h = let p = both (value_at (level_of r) s) (leb (wanted_by r) 16) h in and _ _ p.0 (le-leb (level_of r) 16 (low r (leb-true _ _ p.1)))
  where
    low : (r : Right) → wanted_by r ≤ 16 → level_of r ≤ 16
    low (binary l) w = omega arith
    low assignment w = omega arith
    low conditional w = omega arith
    low cast w = omega arith
    low prefix w = omega arith
    low update w = omega arith

pub right_whole : (s : Sort) (r : Right) → stands s (right r) ≡ true → stands s (have (level_of r)) ≡ true
right_whole s r h = right_stands s r h

-- what stands where its sort may stand is taken there when it is whole
pub taken_whole : (s : Sort) (q : State) (o : Outcome) → stands s q ≡ true → done (opens s q) o ≡ true → stands s (on_child s q o) ≡ true
unfolding on_child opens stands
taken_whole s fresh o h d = taken_external s o h d
taken_whole s (right r) o h d = taken_value s (have (level_of r)) o (right_stands s r h) (done_value (wanted_by r) o d)
taken_whole s sizing o h d = taken_value s (have 15) o (and _ _ h refl) (done_sizeof o d)
taken_whole s paren o h d = taken_inside s o (takes_type s) refl h d
taken_whole s index o h d = taken_value s index_close o h (done_value 1 o d)
taken_whole s call o h d = taken_value s call_more o h (done_value 2 o d)
taken_whole s call_next o h d = taken_value s call_more o h (done_value 2 o d)
taken_whole s quest o h d = taken_value s quest_close o h (done_value 1 o d)
taken_whole s block o h d = taken_item s block o h d
taken_whole s if_test o h d = taken_value s if_close o h (done_value 1 o d)
taken_whole s then_part o h d = taken_statement s then_done lone o refl (λ b. h) d
taken_whole s else_part o h d = taken_statement s statement behind_else o refl (λ b. h) d
taken_whole s head_test o h d = taken_value s head_close o h (done_value 1 o d)
taken_whole s body o h d = taken_statement s statement lone o refl (λ b. h) d
taken_whole s do_body o h d = taken_statement s (λ b. do_while) lone o refl (λ b. h) d
taken_whole s do_test o h d = taken_value s do_close o h (done_value 1 o d)
taken_whole s for_init o h d = taken_first s o h d
taken_whole s for_second o h d = taken_value s for_second_close o h (done_value 1 o d)
taken_whole s for_third o h d = taken_value s for_close o h (done_value 1 o d)
taken_whole s case_value o h d = taken_value s colon o h (done_value 3 o d)
taken_whole s returning o h d = taken_value s semicolon o h (done_value 1 o d)
taken_whole s (typed w y) o h d = taken_declarator s (naming s) (λ i. declared w i (defines w i)) o (λ i e. and _ _ h e) d
taken_whole s (members w) o h d = taken_member s (members w) o h d
taken_whole s (enum_value w) o h d = taken_value s (enum_value_close w) o h (done_value 3 o d)
taken_whole s (init_value w) o h d = taken_value s (init_close w) o h (done_initialiser o d)
taken_whole s (next_declarator w) o h d = let p = both (ends_declaration s) (specifies s w) h in taken_declarator s (naming s) (λ i. declared w i false) o (λ i e. and _ _ p.1 e) d
taken_whole s function_block o h d = taken_item s function_block o h d
taken_whole s braces o h d = taken_value s brace_more o h (done_initialiser o d)
taken_whole s brace_next o h d = taken_value s brace_more o h (done_initialiser o d)
taken_whole s (group b) o h d = taken_group s b (own_naming s) o refl h d
taken_whole s (size b i) o h d = taken_value s (size_close b i) o h (done_value 1 o d)
taken_whole s (parameters b i) o h d = taken_parameter s b i true o h d
taken_whole s (parameters_next b i c) o h d = taken_next s b i c o h d
taken_whole s q o h d = absurd (cc)
