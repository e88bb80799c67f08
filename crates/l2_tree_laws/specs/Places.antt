-- Where an expression, a type and an item of an initialiser begin.
use Rattle.std.specs.Prelude.{◌≡◌, List, ◌∷◌}
use Rattle.l2_syntax.specs.declared.place.Place.{Place}
use Rattle.l2_grammar.specs.declared.states.Sort.{Sort}
use Rattle.l2_grammar.specs.Trees.{Seen, Tree, begin, spell}
use Rattle.l2_tree.specs.Trees.{ExprTree, Name, Number, Text, Parenthesised, Index, Call, Member, PostUpdate, Update, Unary, Sizeof, SizeofType, Cast, Binary, Conditional, Assign, Comma, SpecifierTree, Word, TypeName, Struct, StructBody, Enum, EnumBody, SpecifierTrees, first_specifier, and_specifier, ParameterTree, Bare, Declared, InitialiserTree, Expression, Braced}
use Rattle.l2_tree.specs.Spelling.{run_expr, run_parameter, run_initialiser, specifiers_onto}

-- the place of an expression's first token
abbrev pub first_place : ExprTree → Place
first_place (Name n p) = p
first_place (Number v y p) = p
first_place (Text p) = p
first_place (Parenthesised p e) = p
first_place (Index a p i) = first_place a
first_place (Call f p es) = first_place f
first_place (Member a o p n q) = first_place a
first_place (PostUpdate a o p) = first_place a
first_place (Update o p a) = p
first_place (Unary o p a) = p
first_place (Sizeof p a) = p
first_place (SizeofType p q t) = p
first_place (Cast p t a) = p
first_place (Binary a o p b) = first_place a
first_place (Conditional a p b c) = first_place a
first_place (Assign a o p b) = first_place a
first_place (Comma a b) = first_place a

abbrev pub specifier_place : SpecifierTree → Place
specifier_place (Word w p) = p
specifier_place (TypeName n p) = p
specifier_place (Struct p t) = p
specifier_place (StructBody p t q ds) = p
specifier_place (Enum p t) = p
specifier_place (EnumBody p t q es b) = p

-- the place of the first of some specifiers: that of a type's first token
abbrev pub type_place : SpecifierTrees → Place
type_place (first_specifier x) = specifier_place x
type_place (and_specifier xs x) = type_place xs

abbrev pub parameter_place : ParameterTree → Place
parameter_place (Bare xs) = type_place xs
parameter_place (Declared xs d) = type_place xs

abbrev pub initialiser_place : InitialiserTree → Place
initialiser_place (Expression e) = first_place e
initialiser_place (Braced p ns b) = p

-- a construct begins at this place, whatever stands behind it
abbrev pub BeginsAt : Tree → Place → Type 0
BeginsAt r p = (m : List Seen) → (t : Seen) × (ts : List Seen) × (spell r m ≡ t ∷ ts) × (t.at ≡ p)

abbrev pub FirstPlaceLaw : Type 0
FirstPlaceLaw = (s : Sort) (e : ExprTree) → BeginsAt (run_expr s e) (first_place e)

abbrev pub TypePlaceLaw : Type 0
TypePlaceLaw = (s : Sort) (xs : SpecifierTrees) → BeginsAt (specifiers_onto (begin s) xs) (type_place xs)

abbrev pub ParameterPlaceLaw : Type 0
ParameterPlaceLaw = (s : Sort) (t : ParameterTree) → BeginsAt (run_parameter s t) (parameter_place t)

abbrev pub InitialiserPlaceLaw : Type 0
InitialiserPlaceLaw = (s : Sort) (n : InitialiserTree) → BeginsAt (run_initialiser s n) (initialiser_place n)
