-- Expressions, types and items begin where they are said to.
use Rattle.std.proofs.Common.{refl, Bool, true, false, ◌∷◌, Option, None, Some}
use Rattle.l2_syntax.specs.declared.place.Place.{Place}
use Rattle.l2_grammar.specs.declared.states.Sort.{Sort}
use Rattle.l2_grammar.specs.Trees.{Seen, Tree, begin, token, child, spell}
use Rattle.l2_tree.specs.declared.expression.Tag.{Tag}
use Rattle.l2_tree.specs.Trees.{ExprTree, Name, Number, Text, Parenthesised, Index, Call, Member, PostUpdate, Update, Unary, Sizeof, SizeofType, Cast, Binary, Conditional, Assign, Comma, ExprTrees, no_exprs, and_expr, SpecifierTree, Word, TypeName, Struct, StructBody, Enum, EnumBody, SpecifierTrees, first_specifier, and_specifier, DeclarationTrees, no_declarations, and_declaration, EnumeratorTree, Plain, Valued, EnumeratorTrees, first_enumerator, and_enumerator, ParameterTree, Bare, Declared, InitialiserTree, Expression, Braced, InitialiserTrees, first_initialiser, and_initialiser}
use Rattle.l2_tree.specs.Spelling.{comma_if, has_arguments, tag_onto, run_expr, arguments_onto, specifier_onto, specifiers_onto, members_onto, enumerator_onto, enumerators_onto, run_parameter, run_initialiser, initialisers_onto}
use Rattle.l2_tree_laws.specs.Places.{first_place, specifier_place, type_place, parameter_place, initialiser_place, BeginsAt}

-- a construct that begins there, as a record, so that it is found
pub record Starts (r : Tree) (p : Place) : Type 0 where
  pub starts : BeginsAt r p

by_first : {s : Sort} {t : Seen} → Starts (token (begin s) t) t.at
by_first {t = t} = record { starts = λ m. (t, m, refl, refl) }

by_token : {r : Tree} {t : Seen} {p : Place} → Starts r p → Starts (token r t) p
by_token {t = t} i = record { starts = λ m. i.starts (t ∷ m) }

by_child : {r b : Tree} {p : Place} → Starts r p → Starts (child r b) p
by_child {b = b} i = record { starts = λ m. i.starts (spell b m) }

by_comma : {r : Tree} {p : Place} (b : Bool) → Starts r p → Starts (comma_if b r) p
by_comma true i = by_token i
by_comma false i = i

arguments_start : {r : Tree} {p : Place} (es : ExprTrees) → Starts r p → Starts (arguments_onto r es) p
arguments_start no_exprs i = i
arguments_start (and_expr es e) i = by_child (by_comma (has_arguments es) (arguments_start es i))

pub expr_starts : (s : Sort) (e : ExprTree) → Starts (run_expr s e) (first_place e)
expr_starts s (Name n p) = by_first
expr_starts s (Number v y p) = by_first
expr_starts s (Text p) = by_first
expr_starts s (Parenthesised p e) = by_token (by_child by_first)
expr_starts s (Index a p i) = by_token (by_child (by_token (expr_starts s a)))
expr_starts s (Call f p es) = by_token (arguments_start es (by_token (expr_starts s f)))
expr_starts s (Member a o p n q) = by_token (by_token (expr_starts s a))
expr_starts s (PostUpdate a o p) = by_token (expr_starts s a)
expr_starts s (Update o p a) = by_child by_first
expr_starts s (Unary o p a) = by_child by_first
expr_starts s (Sizeof p a) = by_child by_first
expr_starts s (SizeofType p q t) = by_child by_first
expr_starts s (Cast p t a) = by_child (by_token (by_child by_first))
expr_starts s (Binary a o p b) = by_child (by_token (expr_starts s a))
expr_starts s (Conditional a p b c) = by_child (by_token (by_child (by_token (expr_starts s a))))
expr_starts s (Assign a o p b) = by_child (by_token (expr_starts s a))
expr_starts s (Comma a b) = by_child (by_token (expr_starts s a))

tag_starts : {r : Tree} {p : Place} (t : Option Tag) → Starts r p → Starts (tag_onto r t) p
tag_starts None i = i
tag_starts (Some t) i = by_token i

members_start : {r : Tree} {p : Place} (ds : DeclarationTrees) → Starts r p → Starts (members_onto r ds) p
members_start no_declarations i = i
members_start (and_declaration ds d) i = by_child (members_start ds i)

enumerator_starts : {r : Tree} {p : Place} (e : EnumeratorTree) → Starts r p → Starts (enumerator_onto r e) p
enumerator_starts (Plain n q) i = by_token i
enumerator_starts (Valued n q o e) i = by_child (by_token (by_token i))

enumerators_start : {r : Tree} {p : Place} (es : EnumeratorTrees) → Starts r p → Starts (enumerators_onto r es) p
enumerators_start (first_enumerator e) i = enumerator_starts e i
enumerators_start (and_enumerator es e) i = enumerator_starts e (by_token (enumerators_start es i))

specifier_starts : {r : Tree} {p : Place} (x : SpecifierTree) → Starts r p → Starts (specifier_onto r x) p
specifier_starts (Word w q) i = by_token i
specifier_starts (TypeName n q) i = by_token i
specifier_starts (Struct q t) i = by_token (by_token i)
specifier_starts (StructBody q t o ds) i = by_token (members_start ds (by_token (tag_starts t (by_token i))))
specifier_starts (Enum q t) i = by_token (by_token i)
specifier_starts (EnumBody q t o es b) i = by_token (by_comma b (enumerators_start es (by_token (tag_starts t (by_token i)))))

first_starts : (s : Sort) (x : SpecifierTree) → Starts (specifier_onto (begin s) x) (specifier_place x)
first_starts s (Word w q) = by_first
first_starts s (TypeName n q) = by_first
first_starts s (Struct q t) = by_token by_first
first_starts s (StructBody q t o ds) = by_token (members_start ds (by_token (tag_starts t by_first)))
first_starts s (Enum q t) = by_token by_first
first_starts s (EnumBody q t o es b) = by_token (by_comma b (enumerators_start es (by_token (tag_starts t by_first))))

pub type_starts : (s : Sort) (xs : SpecifierTrees) → Starts (specifiers_onto (begin s) xs) (type_place xs)
type_starts s (first_specifier x) = first_starts s x
type_starts s (and_specifier xs x) = specifier_starts x (type_starts s xs)

pub parameter_starts : (s : Sort) (t : ParameterTree) → Starts (run_parameter s t) (parameter_place t)
parameter_starts s (Bare xs) = type_starts s xs
parameter_starts s (Declared xs d) = by_child (type_starts s xs)

items_start : {r : Tree} {p : Place} (ns : InitialiserTrees) → Starts r p → Starts (initialisers_onto r ns) p
items_start (first_initialiser n) i = by_child i
items_start (and_initialiser ns n) i = by_child (by_token (items_start ns i))

pub initialiser_starts : (s : Sort) (n : InitialiserTree) → Starts (run_initialiser s n) (initialiser_place n)
initialiser_starts s (Expression e) = expr_starts s e
initialiser_starts s (Braced p ns b) = by_token (by_comma b (items_start ns by_first))
