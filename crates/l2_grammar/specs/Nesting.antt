-- The grammar: which constructs stand in which, and what a whole one is to the one round it.
use Rattle.std.specs.Prelude.{ℕ, Bool, true, false, cond, not, ◌&&◌, ◌||◌, leb}
use Rattle.l2_grammar.specs.Networks.{level_of, wanted_by, starred}
use Rattle.l2_grammar.specs.States.{Items, lone, listed, behind_else, Naming, named, optional, absent, Sort, unit, external, item, for_first, member, parameter, declarator, enclosed, operand, inside, sizeof_operand, initialiser, nowhere, Storage, automatic, typedef, Named, nothing, Shape, nameless, function, State, none, fresh, unit_end, have, right, sizing, sized, paren, paren_close, typed_close, index, index_close, call, call_more, call_next, member_name, quest, quest_close, block, if_test, if_close, then_part, then_done, else_part, head_test, head_close, body, do_body, do_while, do_test, do_close, for_init, for_init_close, for_second, for_second_close, for_third, for_close, case_value, colon, returning, semicolon, statement, before_type, typed, struct_word, enum_word, members, enumerators, enumerator, enum_value, enum_value_close, enum_comma, declared, init_value, init_close, next_declarator, declaration_end, function_block, braces, brace_more, brace_next, braced, stars, stars_const, group, group_close, direct, size, size_close, parameters, parameters_more, parameters_next, Outcome, unfinished, value, stated, declaration, type, declares}

abbrev pub is_unit : Sort → Bool
is_unit unit = true
is_unit s = false

-- where an expression may stand
abbrev pub values : Sort → Bool
values (item b) = true
values for_first = true
values (operand l) = true
values inside = true
values sizeof_operand = true
values initialiser = true
values s = false

-- the level that it must have there
abbrev pub least : Sort → ℕ
least (operand l) = l
least sizeof_operand = 15
least initialiser = 2
least s = 1

-- where an expression of this level may stand
abbrev pub value_at : ℕ → Sort → Bool
value_at l s = values s && (leb (least s) l)

-- where `(` may have the name of a type behind it: where a cast may stand, and behind `sizeof`
abbrev pub takes_type : Sort → Bool
takes_type sizeof_operand = true
takes_type s = value_at 14 s

-- the naming of the declarators in it
abbrev pub naming : Sort → Naming
naming parameter = optional
naming (enclosed n) = optional
naming inside = absent
naming s = named

-- the naming of a declarator itself
abbrev pub own_naming : Sort → Naming
own_naming (declarator n) = n
own_naming (enclosed n) = n
own_naming s = named

abbrev pub grouped : Naming → Sort
grouped named = declarator named
grouped n = enclosed n

-- whether a declarator of this shape has the name that it must, or has none where none may be
abbrev pub is_named : Shape → Bool
is_named nameless = false
is_named h = true

abbrev pub names : Naming → Shape → Bool
names named h = is_named h
names optional h = true
names absent nameless = true
names absent h = false

-- what may stand in a construct that is in this state
unfoldable pub opens : Sort → State → Sort
opens s fresh = cond (is_unit s) external nowhere
opens s (right r) = operand (wanted_by r)
opens s sizing = sizeof_operand
opens s paren = cond (takes_type s) inside (operand 1)
opens s index = operand 1
opens s call = operand 2
opens s call_next = operand 2
opens s quest = operand 1
opens s block = item listed
opens s if_test = operand 1
opens s then_part = item lone
opens s else_part = item behind_else
opens s head_test = operand 1
opens s body = item lone
opens s do_body = item lone
opens s do_test = operand 1
opens s for_init = for_first
opens s for_second = operand 1
opens s for_third = operand 1
opens s case_value = operand 3
opens s returning = operand 1
opens s (typed w y) = declarator (naming s)
opens s (members w) = member
opens s (enum_value w) = operand 3
opens s (init_value w) = initialiser
opens s (next_declarator w) = declarator (naming s)
opens s function_block = item listed
opens s braces = initialiser
opens s brace_next = initialiser
opens s (group b) = grouped (own_naming s)
opens s (size b h) = operand 1
opens s (parameters b h) = parameter
opens s (parameters_next b h c) = parameter
opens s q = nowhere

abbrev pub is_nothing : Named → Bool
is_nothing nothing = true
is_nothing y = false

-- what a construct in this state is as a whole
unfoldable pub outcome : State → Outcome
outcome (have l) = value
outcome sized = value
outcome braced = value
outcome (statement b) = stated b
outcome (then_done b) = stated false
outcome declaration_end = declaration
outcome (typed w y) = type false (is_nothing y)
outcome (declared w h b) = type (is_named h) false
outcome stars = declares nameless
outcome stars_const = declares nameless
outcome (direct b h) = declares (starred b h)
outcome q = unfinished

abbrev pub behind_value : State → Outcome → State
behind_value q value = q
behind_value q o = none

abbrev pub behind_statement : (Bool → State) → Outcome → State
behind_statement f (stated b) = f b
behind_statement f o = none

abbrev pub behind_item : State → Outcome → State
behind_item q (stated b) = q
behind_item q declaration = q
behind_item q o = none

abbrev pub behind_declaration : State → Outcome → State
behind_declaration q declaration = q
behind_declaration q o = none

abbrev pub behind_inside : Outcome → State
behind_inside value = paren_close
behind_inside (type a v) = typed_close
behind_inside o = none

abbrev pub behind_first : Outcome → State
behind_first value = for_init_close
behind_first declaration = for_second
behind_first o = none

-- only the first declarator of a declaration can be a function's definition, and only where all parameters have names (C11 6.9.1)
abbrev pub defines : Storage → Shape → Bool
defines typedef h = false
defines w (function b) = b
defines w h = false

abbrev pub behind_declarator : Naming → (Shape → State) → Outcome → State
behind_declarator n f (declares h) = cond (names n h) (f h) none
behind_declarator n f o = none

-- a parameter without a name, but `void` alone, makes a prototype
abbrev pub behind_parameter : Bool → Shape → Bool → Outcome → State
behind_parameter b h c (type a v) = parameters_more b h (c && (a || v)) (c && a)
behind_parameter b h c o = none

abbrev pub behind_next_parameter : Bool → Shape → Bool → Outcome → State
behind_next_parameter b h c (type a v) = parameters_more b h (c && a) (c && a)
behind_next_parameter b h c o = none

abbrev pub behind_group : Naming → Bool → Outcome → State
behind_group n b (declares h) = cond (names n h) (group_close b h) none
behind_group n b (type a v) = parameters_more b nameless false false
behind_group n b o = none

-- a construct of this sort, in this state, behind a construct that stands in it
unfoldable pub on_child : Sort → State → Outcome → State
on_child s fresh o = behind_declaration fresh o
on_child s (right r) o = behind_value (have (level_of r)) o
on_child s sizing o = behind_value (have 15) o
on_child s paren o = behind_inside o
on_child s index o = behind_value index_close o
on_child s call o = behind_value call_more o
on_child s call_next o = behind_value call_more o
on_child s quest o = behind_value quest_close o
on_child s block o = behind_item block o
on_child s if_test o = behind_value if_close o
on_child s then_part o = behind_statement then_done o
on_child s else_part o = behind_statement statement o
on_child s head_test o = behind_value head_close o
on_child s body o = behind_statement statement o
on_child s do_body o = behind_statement (λ b. do_while) o
on_child s do_test o = behind_value do_close o
on_child s for_init o = behind_first o
on_child s for_second o = behind_value for_second_close o
on_child s for_third o = behind_value for_close o
on_child s case_value o = behind_value colon o
on_child s returning o = behind_value semicolon o
on_child s (typed w y) o = behind_declarator (naming s) (λ h. declared w h (defines w h)) o
on_child s (members w) o = behind_declaration (members w) o
on_child s (enum_value w) o = behind_value (enum_value_close w) o
on_child s (init_value w) o = behind_value (init_close w) o
on_child s (next_declarator w) o = behind_declarator (naming s) (λ h. declared w h false) o
on_child s function_block o = behind_item function_block o
on_child s braces o = behind_value brace_more o
on_child s brace_next o = behind_value brace_more o
on_child s (group b) o = behind_group (own_naming s) b o
on_child s (size b h) o = behind_value (size_close b h) o
on_child s (parameters b h) o = behind_parameter b h true o
on_child s (parameters_next b h c) o = behind_next_parameter b h c o
on_child s q o = none

abbrev pub is_external : Sort → Bool
is_external external = true
is_external s = false

abbrev pub is_item : Sort → Bool
is_item (item b) = true
is_item s = false

abbrev pub is_sizeof : Sort → Bool
is_sizeof sizeof_operand = true
is_sizeof s = false

abbrev pub is_initialiser : Sort → Bool
is_initialiser initialiser = true
is_initialiser s = false

abbrev pub is_automatic : Storage → Bool
is_automatic automatic = true
is_automatic w = false

abbrev pub is_typedef : Storage → Bool
is_typedef typedef = true
is_typedef w = false

abbrev pub declares_in : Items → Bool
declares_in listed = true
declares_in b = false

-- where specifiers with such words of storage may stand
abbrev pub specifies : Sort → Storage → Bool
specifies external w = true
specifies (item b) w = declares_in b && not (is_typedef w)
specifies for_first w = not (is_typedef w)
specifies member w = is_automatic w
specifies parameter w = is_automatic w
specifies (enclosed n) w = is_automatic w
specifies inside w = is_automatic w
specifies s w = false

-- where a declarator may have an initialiser
abbrev pub initialises : Sort → Storage → Bool
initialises external w = not (is_typedef w)
initialises (item b) w = declares_in b && not (is_typedef w)
initialises for_first w = not (is_typedef w)
initialises s w = false

-- where a declaration ends with `;`
abbrev pub ends_declaration : Sort → Bool
ends_declaration external = true
ends_declaration (item b) = declares_in b
ends_declaration for_first = true
ends_declaration member = true
ends_declaration s = false

abbrev pub is_declarator : Sort → Bool
is_declarator (declarator n) = true
is_declarator (enclosed n) = true
is_declarator s = false

abbrev pub shaped : Sort → Shape → Bool
shaped s h = is_declarator s && (names (own_naming s) h)

-- which states a construct of this sort may be in
unfoldable pub stands : Sort → State → Bool
stands s none = false
stands s fresh = is_unit s
stands s unit_end = is_unit s
stands s (have l) = value_at l s && leb l 16
stands s (right r) = value_at (level_of r) s && leb (wanted_by r) 16
stands s sizing = value_at 15 s
stands s sized = is_sizeof s
stands s typed_close = takes_type s
stands s paren = value_at 16 s
stands s paren_close = value_at 16 s
stands s index = value_at 16 s
stands s index_close = value_at 16 s
stands s call = value_at 16 s
stands s call_more = value_at 16 s
stands s call_next = value_at 16 s
stands s member_name = value_at 16 s
stands s quest = value_at 3 s
stands s quest_close = value_at 3 s
stands s (before_type w) = specifies s w
stands s (typed w y) = specifies s w
stands s (struct_word w) = specifies s w
stands s (enum_word w) = specifies s w
stands s (members w) = specifies s w
stands s (enumerators w) = specifies s w
stands s (enumerator w) = specifies s w
stands s (enum_value w) = specifies s w
stands s (enum_value_close w) = specifies s w
stands s (enum_comma w) = specifies s w
stands s (declared w h b) = specifies s w && (names (naming s) h)
stands s (init_value w) = initialises s w
stands s (init_close w) = initialises s w
stands s (next_declarator w) = ends_declaration s && specifies s w
stands s declaration_end = ends_declaration s
stands s function_block = is_external s
stands s braces = is_initialiser s
stands s brace_more = is_initialiser s
stands s brace_next = is_initialiser s
stands s braced = is_initialiser s
stands s stars = is_declarator s
stands s stars_const = is_declarator s
stands s (group b) = is_declarator s
stands s (group_close b h) = shaped s h
stands s (direct b h) = shaped s h
stands s (size b h) = shaped s h
stands s (size_close b h) = shaped s h
stands s (parameters b h) = shaped s h
stands s (parameters_more b h now later) = shaped s h
stands s (parameters_next b h c) = shaped s h
stands s q = is_item s
