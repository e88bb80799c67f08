-- The states of the grammar's networks, as definitions name them.
pub use Rattle.l2_grammar.specs.declared.states.Naming.{Naming}
pub use Rattle.l2_grammar.specs.declared.states.Naming.TheVariants.{Named as named, Optional as optional, Absent as absent}
pub use Rattle.l2_grammar.specs.declared.states.Items.{Items}
pub use Rattle.l2_grammar.specs.declared.states.Items.TheVariants.{Lone as lone, Listed as listed, BehindElse as behind_else}
pub use Rattle.l2_grammar.specs.declared.states.Level.{Level}
pub use Rattle.l2_grammar.specs.declared.states.Level.TheVariants.{Comma as comma_level, Assignment as assignment_level, Conditional as conditional_level}
pub use Rattle.l2_grammar.specs.declared.states.Sort.{Sort}
pub use Rattle.l2_grammar.specs.declared.states.Sort.TheVariants.{Unit as unit, External as external, Item as item, ForFirst as for_first, Member as member, Parameter as parameter, Declarator as declarator, Enclosed as enclosed, Operand as operand, Inside as inside, SizeofOperand as sizeof_operand, Initialiser as initialiser, Nowhere as nowhere}
pub use Rattle.l2_grammar.specs.declared.states.Right.{Right}
pub use Rattle.l2_grammar.specs.declared.states.Right.TheVariants.{Binary as binary, Assignment as assignment, Conditional as conditional, Cast as cast, Prefix as prefix, Update as update}
pub use Rattle.l2_grammar.specs.declared.states.Storage.{Storage}
pub use Rattle.l2_grammar.specs.declared.states.Storage.TheVariants.{Automatic as automatic, Stored as stored, Typedef as typedef}
pub use Rattle.l2_grammar.specs.declared.states.Length.{Length}
pub use Rattle.l2_grammar.specs.declared.states.Length.TheVariants.{NoLength as no_length, Short as short, Long as long, LongLong as long_long}
pub use Rattle.l2_grammar.specs.declared.states.Core.{Core}
pub use Rattle.l2_grammar.specs.declared.states.Core.TheVariants.{NoCore as no_core, Int as int, Char as char}
pub use Rattle.l2_grammar.specs.declared.states.Named.{Named}
pub use Rattle.l2_grammar.specs.declared.states.Named.TheVariants.{Number as number, Nothing as nothing, Other as other, StructTag as struct_tag, EnumTag as enum_tag, Tagged as tagged}
pub use Rattle.l2_grammar.specs.declared.states.Shape.{Shape}
pub use Rattle.l2_grammar.specs.declared.states.Shape.TheVariants.{Nameless as nameless, NameOnly as name_only, Function as function, Derived as derived}
pub use Rattle.l2_grammar.specs.declared.states.State.{State}
pub use Rattle.l2_grammar.specs.declared.states.State.TheVariants.{None as none, Fresh as fresh, UnitEnd as unit_end, Have as have, Right as right, Sizing as sizing, Sized as sized, Paren as paren, ParenClose as paren_close, TypedClose as typed_close, Index as index, IndexClose as index_close, Call as call, CallMore as call_more, CallNext as call_next, MemberName as member_name, Quest as quest, QuestClose as quest_close, Word as word, Block as block, IfOpen as if_open, IfTest as if_test, IfClose as if_close, ThenPart as then_part, ThenDone as then_done, ElsePart as else_part, HeadOpen as head_open, HeadTest as head_test, HeadClose as head_close, Body as body, DoBody as do_body, DoWhile as do_while, DoOpen as do_open, DoTest as do_test, DoClose as do_close, ForOpen as for_open, ForInit as for_init, ForInitClose as for_init_close, ForSecond as for_second, ForSecondClose as for_second_close, ForThird as for_third, ForClose as for_close, CaseValue as case_value, Colon as colon, Returning as returning, Semicolon as semicolon, Statement as statement, BeforeType as before_type, Typed as typed, StructWord as struct_word, EnumWord as enum_word, Members as members, Enumerators as enumerators, Enumerator as enumerator, EnumValue as enum_value, EnumValueClose as enum_value_close, EnumComma as enum_comma, Declared as declared, InitValue as init_value, InitClose as init_close, NextDeclarator as next_declarator, DeclarationEnd as declaration_end, FunctionBlock as function_block, Braces as braces, BraceMore as brace_more, BraceNext as brace_next, Braced as braced, Stars as stars, StarsConst as stars_const, Group as group, GroupClose as group_close, Direct as direct, Size as size, SizeClose as size_close, Parameters as parameters, ParametersMore as parameters_more, ParametersNext as parameters_next}
pub use Rattle.l2_grammar.specs.declared.states.Outcome.{Outcome}
pub use Rattle.l2_grammar.specs.declared.states.Outcome.TheVariants.{Unfinished as unfinished, Value as value, Stated as stated, Declaration as declaration, Specified as type, Declares as declares}
