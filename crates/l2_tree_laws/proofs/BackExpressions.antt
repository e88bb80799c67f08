-- What is built of the run of an expression, of a type or of a declaration is that expression, type or declaration.
use Rattle.std.proofs.Common.{refl, ◌∙◌, ap, Bool, true, false, List, [], ◌∷◌, Option, None, Some}
use Rattle.l2_syntax.specs.declared.place.Place.{Place}
use Rattle.l2_syntax.specs.declared.token.Mark.TheVariants as mark
use Rattle.l2_syntax.specs.declared.token.TokenKind.TheVariants as kind
use Rattle.l2_grammar.specs.declared.states.Sort.{Sort}
use Rattle.l2_grammar.specs.Marks.{is}
use Rattle.l2_grammar.specs.Trees.{Tree, begin, child}
use Rattle.l2_tree.specs.declared.expression.Pointer.{Pointer}
use Rattle.l2_tree.specs.Trees.{ExprTree, Name, Number, Text, Parenthesised, Index, Call, Member, PostUpdate, Update, Unary, Sizeof, SizeofType, Cast, Binary, Conditional, Assign, Comma, ExprTrees, no_exprs, and_expr, SpecifierTree, Word, TypeName, Struct, StructBody, Enum, EnumBody, SpecifierTrees, first_specifier, and_specifier, EnumeratorTree, Plain, Valued, EnumeratorTrees, first_enumerator, and_enumerator, ParameterTree, Bare, Declared, ParameterTrees, no_parameters, and_parameter, DeclaratorTree, Declarator, CoreTree, Absent, Named, Group, SuffixTree, Array, ArrayOf, Parameters, SuffixTrees, no_suffixes, and_suffix, InitialiserTree, Expression, Braced, InitialiserTrees, first_initialiser, and_initialiser, DeclaredTree, Uninitialised, Initialised, DeclaredTrees, no_declarators, and_declarator, DeclarationTree, Declaration, DeclarationTrees, no_declarations, and_declaration, ExternalTree}
use Rattle.l2_tree.specs.Spelling.{nowhere, mark_at, closed, comma_if, has_arguments, has_parameters, run_expr, arguments_onto, specifier_onto, specifiers_onto, members_onto, enumerator_onto, enumerators_onto, run_parameter, parameters_onto, core_onto, suffix_onto, suffixes_onto, run_declarator, run_initialiser, initialisers_onto, declared_onto, declarators_onto, declaration_onto}
use Rattle.l2_tree.specs.Build.{Part, leaf, node, built, parts_of, and_then, only, heads, tail, expr_of, add_specifier, specifiers, members, enumerators, add_enumerator, behind_enumerator, pointers, declarator_of, parameter_of, parameter_behind, initialiser_of, behind_item, declared, declaration_of}
use Rattle.l2_tree_laws.proofs.Runs.{Runs, RunsIf, by_begin, by_token, by_child, as_runs, if_any, if_token, if_child, as_if}
use Rattle.l2_tree_laws.proofs.Firsts.{initialiser_expr}
use Rattle.l2_tree_laws.proofs.BackMarks.{word_opens_no_brace}
use Rattle.l2_tree_laws.proofs.BackSteps.{Whole, whole_expr, binary_goes, assign_goes, comma_goes, index_goes, conditional_goes, member_goes, update_goes, called, first_argument_goes, argument_goes, call_goes, unary_begins, update_begins, sizeof_begins, parenthesis_begins, cast_begins, sizeof_type_begins}
use Rattle.l2_tree_laws.proofs.BackDeclarators.{with, word_goes, struct_goes, struct_body_goes, plain_struct_goes, members_end, enum_goes, enum_body_goes, plain_enum_goes, plain_enumerator_goes, valued_goes, enumerator_comma, enumerators_end, enumerators_last, pointed, pointers_go, suffixed, no_suffix_next, named_goes, group_goes, absent_goes, array_goes, array_of_goes, listed, first_parameter_goes, parameter_goes, parameters_end, typed_next, item_goes, next_item_goes, braces_end, braces_last}
use Rattle.l2_tree_laws.proofs.BackDeclarations.{At, Ends, uninitialised_ends, initialised_ends, Listed, at_next, Declares, behind_specifiers, at_first, closes, itself, declares}

-- ---- one more of a list

and_argument : {r v : Tree} {e : ExprTree} (a : ExprTree) (p : Place) (es : ExprTrees) → Runs expr_of r (called a p es) → Whole expr_of v e → Runs expr_of (child (comma_if (has_arguments es) r) v) (called a p (and_expr es e))
and_argument a p no_exprs i j = as_runs (by_child i) (first_argument_goes a p j)
and_argument a p (and_expr es d) i j = as_runs (by_child (by_token i)) (argument_goes a p es d j)

-- nothing behind the bracket says that a group stands there
abbrev no_parameter_next : Place → List Part → Bool
no_parameter_next p m = no_suffix_next (leaf (kind.Mark mark.OpenParenthesis) p ∷ m)

and_parameter_runs : {r v : Tree} {t : ParameterTree} (qs : List Pointer) (c : CoreTree) (xs : SuffixTrees) (p : Place) (ts : ParameterTrees) → RunsIf (no_parameter_next p) declarator_of r (listed qs c xs p ts) → Whole parameter_of v t →
    RunsIf (no_parameter_next p) declarator_of (child (comma_if (has_parameters ts) r) v) (listed qs c xs p (and_parameter ts t))
unfolding is
and_parameter_runs qs c xs p no_parameters i j = if_any (as_runs (if_child i (typed_next p j)) (first_parameter_goes qs c xs p j))
and_parameter_runs qs c xs p (and_parameter ts u) i j = if_any (as_runs (by_child (if_token i (λ m. refl))) (parameter_goes qs c xs p ts u j))

array_of_runs : {r v : Tree} {e : ExprTree} (qs : List Pointer) (c : CoreTree) (xs : SuffixTrees) (p : Place) → RunsIf no_suffix_next declarator_of r (suffixed qs c xs) → Whole expr_of v e →
    Runs declarator_of (closed (child (mark_at r mark.OpenBracket p) v) mark.CloseBracket) (suffixed qs c (and_suffix xs (ArrayOf p e)))
unfolding is
array_of_runs {v = v} qs c xs p i j = record { goes = λ m. i.goes (leaf (kind.Mark mark.OpenBracket) p ∷ node (built (parts_of v)) ∷ leaf (kind.Mark mark.CloseBracket) nowhere ∷ m) refl ∙ array_of_goes qs c xs p j m }

array_runs : {r : Tree} (qs : List Pointer) (c : CoreTree) (xs : SuffixTrees) (p : Place) → RunsIf no_suffix_next declarator_of r (suffixed qs c xs) → Runs declarator_of (closed (mark_at r mark.OpenBracket p) mark.CloseBracket) (suffixed qs c (and_suffix xs (Array p)))
unfolding is
array_runs qs c xs p i = record { goes = λ m. i.goes (leaf (kind.Mark mark.OpenBracket) p ∷ leaf (kind.Mark mark.CloseBracket) nowhere ∷ m) refl ∙ array_goes qs c xs p m }

parameters_begin : {r : Tree} (qs : List Pointer) (c : CoreTree) (xs : SuffixTrees) (p : Place) → RunsIf no_suffix_next declarator_of r (suffixed qs c xs) → RunsIf (no_parameter_next p) declarator_of (mark_at r mark.OpenParenthesis p) (listed qs c xs p no_parameters)
parameters_begin qs c xs p i = record { goes = λ m d. i.goes (leaf (kind.Mark mark.OpenParenthesis) p ∷ m) d }

parameters_close : {r : Tree} (qs : List Pointer) (c : CoreTree) (xs : SuffixTrees) (p : Place) (ts : ParameterTrees) → RunsIf (no_parameter_next p) declarator_of r (listed qs c xs p ts) → Runs declarator_of (closed r mark.CloseParenthesis) (suffixed qs c (and_suffix xs (Parameters p ts)))
unfolding is
parameters_close qs c xs p ts i = as_runs (if_token i (λ m. refl)) (parameters_end qs c xs p ts)

-- who reads specifiers
pub data Reader : Type 0 where
  parameter : Reader
  declaration : Reader
  external : Reader

abbrev pub Read : Reader → Type 0
Read parameter = ParameterTree
Read declaration = DeclarationTree
Read external = ExternalTree

abbrev pub Answer : Reader → Type 0
Answer k = Option (Read k)

abbrev Follows : Type 0
Follows = Option (SpecifierTrees × List Part)

member_runs : {R : Type 0} {g : List Part → R} {r v : Tree} {d : DeclarationTree} (h : Follows → R) (f : DeclarationTrees → SpecifierTrees) (ds : DeclarationTrees) → Runs g r (λ m. h (members f ds m)) → Whole declaration_of v d → Runs g (child r v) (λ m. h (members f (and_declaration ds d) m))
member_runs h f ds i j = as_runs (by_child i) (λ m. ap h (with (λ d. members f (and_declaration ds d) m) j))

abbrev parameter_behind_specifiers : Follows → Option ParameterTree
parameter_behind_specifiers x = and_then x (λ f. parameter_behind f.0 f.1)

declared_whole : {r v : Tree} {d : DeclaratorTree} (xs : SpecifierTrees) → RunsIf (heads mark.OpenBrace) parameter_of r (λ m. parameter_behind_specifiers (specifiers (Some xs) m)) → Whole declarator_of v d → Whole parameter_of (child r v) (Declared xs d)
declared_whole {v = v} xs i j = record { is_whole = i.goes (node (built (parts_of v)) ∷ []) refl ∙ with (λ d. Some (Declared xs d)) j }

member_whole : {r : Tree} (xs : SpecifierTrees) (ds : DeclaredTrees) → RunsIf (heads mark.OpenBrace) declaration_of r (λ m. behind_specifiers declared (specifiers (Some xs) m)) → Listed declaration_of r itself xs ds →
    Whole declaration_of (closed (declarators_onto r ds) mark.Semicolon) (Declaration xs ds)
member_whole xs ds i l = record { is_whole = (closes declared itself xs declares i ds l).goes [] }

-- ---- the forms

mutual
  unfolding is

  pub of_expr : (s : Sort) (e : ExprTree) → Runs expr_of (run_expr s e) (tail e)
  of_expr s (Name n p) = by_token by_begin
  of_expr s (Number v y p) = by_token by_begin
  of_expr s (Text p) = by_token by_begin
  of_expr s (Parenthesised p e) = as_runs (by_token (by_child (by_token by_begin))) (parenthesis_begins p (whole_expr (of_expr _ e)))
  of_expr s (Index a p i) = as_runs (by_token (by_child (by_token (of_expr s a)))) (index_goes a p (whole_expr (of_expr _ i)))
  of_expr s (Call a p es) = as_runs (by_token (of_arguments a p (by_token (of_expr s a)) es)) (call_goes a p es)
  of_expr s (Member a o p n q) = as_runs (by_token (by_token (of_expr s a))) (member_goes a o p n q)
  of_expr s (PostUpdate a o p) = as_runs (by_token (of_expr s a)) (update_goes a o p)
  of_expr s (Update o p a) = as_runs (by_child (by_token by_begin)) (update_begins o p (whole_expr (of_expr _ a)))
  of_expr s (Unary o p a) = as_runs (by_child (by_token by_begin)) (unary_begins o p (whole_expr (of_expr _ a)))
  of_expr s (Sizeof p a) = as_runs (by_child (by_token by_begin)) (sizeof_begins p (whole_expr (of_expr _ a)))
  of_expr s (SizeofType p q t) = as_runs (by_child (by_token by_begin)) (sizeof_type_begins p q (of_parameter _ t))
  of_expr s (Cast p t a) = as_runs (by_child (by_token (by_child (by_token by_begin)))) (cast_begins p (of_parameter _ t) (whole_expr (of_expr _ a)))
  of_expr s (Binary a o p b) = as_runs (by_child (by_token (of_expr s a))) (binary_goes a o p (whole_expr (of_expr _ b)))
  of_expr s (Conditional a p b c) = as_runs (by_child (by_token (by_child (by_token (of_expr s a))))) (conditional_goes a p (whole_expr (of_expr _ b)) (whole_expr (of_expr _ c)))
  of_expr s (Assign a o p b) = as_runs (by_child (by_token (of_expr s a))) (assign_goes a o p (whole_expr (of_expr _ b)))
  of_expr s (Comma a b) = as_runs (by_child (by_token (of_expr s a))) (comma_goes a (whole_expr (of_expr _ b)))

  of_arguments : {r : Tree} (a : ExprTree) (p : Place) → Runs expr_of r (called a p no_exprs) → (es : ExprTrees) → Runs expr_of (arguments_onto r es) (called a p es)
  of_arguments a p i no_exprs = i
  of_arguments a p i (and_expr es e) = and_argument a p es (of_arguments a p i es) (whole_expr (of_expr _ e))

  of_specifier : (k : Reader) {g : List Part → Answer k} {r : Tree} (h : Follows → Answer k) (o : Option SpecifierTrees) → RunsIf (heads mark.OpenBrace) g r (λ m. h (specifiers o m)) → (x : SpecifierTree) →
      RunsIf (heads mark.OpenBrace) g (specifier_onto r x) (λ m. h (specifiers (Some (add_specifier o x)) m))
  of_specifier k h o i (Word w p) = if_any (as_runs (if_token i (λ m. word_opens_no_brace w)) (λ m. ap h (word_goes o w p m)))
  of_specifier k h o i (TypeName n p) = if_any (as_runs (if_token i (λ m. refl)) (λ m. refl))
  of_specifier k h o i (Struct p t) = as_if (by_token (if_token i (λ m. refl))) (λ m d. ap h (struct_goes o p t m d))
  of_specifier k h o i (StructBody p None q ds) = if_any (as_runs (by_token (of_members k h (λ ds. add_specifier o (StructBody p None q ds)) (as_runs (by_token (if_token i (λ m. refl))) (λ m. ap h (plain_struct_goes o p q m))) ds))
      (λ m. ap h (members_end (λ ds. add_specifier o (StructBody p None q ds)) ds m)))
  of_specifier k h o i (StructBody p (Some t) q ds) = if_any (as_runs (by_token (of_members k h (λ ds. add_specifier o (StructBody p (Some t) q ds)) (as_runs (by_token (by_token (if_token i (λ m. refl)))) (λ m. ap h (struct_body_goes o p t q m))) ds))
      (λ m. ap h (members_end (λ ds. add_specifier o (StructBody p (Some t) q ds)) ds m)))
  of_specifier k h o i (Enum p t) = as_if (by_token (if_token i (λ m. refl))) (λ m d. ap h (enum_goes o p t m d))
  of_specifier k h o i (EnumBody p None q es false) = if_any (as_runs (if_token (of_enumerators k h (λ es b. add_specifier o (EnumBody p None q es b)) (as_runs (by_token (if_token i (λ m. refl))) (λ m. ap h (plain_enum_goes o p q m))) es) (λ m. refl))
      (λ m. ap h (enumerators_end (λ es b. add_specifier o (EnumBody p None q es b)) es m)))
  of_specifier k h o i (EnumBody p None q es true) = if_any (as_runs (by_token (if_token (of_enumerators k h (λ es b. add_specifier o (EnumBody p None q es b)) (as_runs (by_token (if_token i (λ m. refl))) (λ m. ap h (plain_enum_goes o p q m))) es) (λ m. refl)))
      (λ m. ap h (enumerators_last (λ es b. add_specifier o (EnumBody p None q es b)) es m)))
  of_specifier k h o i (EnumBody p (Some t) q es false) = if_any (as_runs (if_token (of_enumerators k h (λ es b. add_specifier o (EnumBody p (Some t) q es b)) (as_runs (by_token (by_token (if_token i (λ m. refl)))) (λ m. ap h (enum_body_goes o p t q m))) es) (λ m. refl))
      (λ m. ap h (enumerators_end (λ es b. add_specifier o (EnumBody p (Some t) q es b)) es m)))
  of_specifier k h o i (EnumBody p (Some t) q es true) = if_any (as_runs (by_token (if_token (of_enumerators k h (λ es b. add_specifier o (EnumBody p (Some t) q es b)) (as_runs (by_token (by_token (if_token i (λ m. refl)))) (λ m. ap h (enum_body_goes o p t q m))) es) (λ m. refl)))
      (λ m. ap h (enumerators_last (λ es b. add_specifier o (EnumBody p (Some t) q es b)) es m)))

  pub of_specifiers : (k : Reader) {g : List Part → Answer k} {r : Tree} (h : Follows → Answer k) → Runs g r (λ m. h (specifiers None m)) → (xs : SpecifierTrees) → RunsIf (heads mark.OpenBrace) g (specifiers_onto r xs) (λ m. h (specifiers (Some xs) m))
  of_specifiers k h i (first_specifier x) = of_specifier k h None (if_any i) x
  of_specifiers k h i (and_specifier xs x) = of_specifier k h (Some xs) (of_specifiers k h i xs) x

  of_members : (k : Reader) {g : List Part → Answer k} {r : Tree} (h : Follows → Answer k) (f : DeclarationTrees → SpecifierTrees) → Runs g r (λ m. h (members f no_declarations m)) → (ds : DeclarationTrees) → Runs g (members_onto r ds) (λ m. h (members f ds m))
  of_members k h f i no_declarations = i
  of_members k h f i (and_declaration ds d) = member_runs h f ds (of_members k h f i ds) (of_member _ d)

  of_enumerator : (k : Reader) {g : List Part → Answer k} {r : Tree} (h : Follows → Answer k) (f : EnumeratorTrees → Bool → SpecifierTrees) (o : Option EnumeratorTrees) → RunsIf (heads mark.CloseBrace) g r (λ m. h (enumerators f o m)) → (e : EnumeratorTree) →
      RunsIf (heads mark.Equal) g (enumerator_onto r e) (λ m. h (behind_enumerator f (add_enumerator o e) m))
  of_enumerator k h f o i (Plain n p) = as_if (if_token i (λ m. refl)) (λ m d. ap h (plain_enumerator_goes f o n p m d))
  of_enumerator k h f o i (Valued n p q e) = if_any (as_runs (by_child (by_token (if_token i (λ m. refl)))) (λ m. ap h (valued_goes f o n p q (whole_expr (of_expr _ e)) m)))

  of_enumerators : (k : Reader) {g : List Part → Answer k} {r : Tree} (h : Follows → Answer k) (f : EnumeratorTrees → Bool → SpecifierTrees) → Runs g r (λ m. h (enumerators f None m)) → (es : EnumeratorTrees) → RunsIf (heads mark.Equal) g (enumerators_onto r es) (λ m. h (behind_enumerator f es m))
  of_enumerators k h f i (first_enumerator e) = of_enumerator k h f None (if_any i) e
  of_enumerators k h f i (and_enumerator es e) = of_enumerator k h f (Some es) (as_if (if_token (of_enumerators k h f i es) (λ m. refl)) (λ m d. ap h (enumerator_comma f es m d))) e

  pub of_parameter : (s : Sort) (t : ParameterTree) → Whole parameter_of (run_parameter s t) t
  of_parameter s (Bare xs) = record { is_whole = (of_specifiers parameter parameter_behind_specifiers by_begin xs).goes [] refl }
  of_parameter s (Declared xs d) = declared_whole xs (of_specifiers parameter parameter_behind_specifiers by_begin xs) (of_declarator _ d)

  of_parameters : {r : Tree} (qs : List Pointer) (c : CoreTree) (xs : SuffixTrees) (p : Place) → RunsIf (no_parameter_next p) declarator_of r (listed qs c xs p no_parameters) → (ts : ParameterTrees) → RunsIf (no_parameter_next p) declarator_of (parameters_onto r ts) (listed qs c xs p ts)
  of_parameters qs c xs p i no_parameters = i
  of_parameters qs c xs p i (and_parameter ts t) = and_parameter_runs qs c xs p ts (of_parameters qs c xs p i ts) (of_parameter _ t)

  pub of_declarator : (s : Sort) (d : DeclaratorTree) → Whole declarator_of (run_declarator s d) d
  of_declarator s (Declarator ps c xs) = record { is_whole = (of_suffixes ps c (of_core ps (pointers_go [] ps (if_any by_begin)) c) xs).goes [] refl }

  of_core : {r : Tree} (qs : List Pointer) → RunsIf (heads mark.Const) declarator_of r (λ m. pointed (pointers qs m)) → (c : CoreTree) → RunsIf no_suffix_next declarator_of (core_onto r c) (suffixed qs c no_suffixes)
  of_core qs i Absent = absent_goes qs i
  of_core qs i (Named n p) = if_any (as_runs (if_token i (λ m. refl)) (named_goes qs n p))
  of_core qs i (Group p d) = if_any (as_runs (by_token (by_child (if_token i (λ m. refl)))) (group_goes qs p (of_declarator _ d)))

  of_suffix : {r : Tree} (qs : List Pointer) (c : CoreTree) (xs : SuffixTrees) → RunsIf no_suffix_next declarator_of r (suffixed qs c xs) → (x : SuffixTree) → Runs declarator_of (suffix_onto r x) (suffixed qs c (and_suffix xs x))
  of_suffix qs c xs i (Array p) = array_runs qs c xs p i
  of_suffix qs c xs i (ArrayOf p e) = array_of_runs qs c xs p i (whole_expr (of_expr _ e))
  of_suffix qs c xs i (Parameters p ts) = parameters_close qs c xs p ts (of_parameters qs c xs p (parameters_begin qs c xs p i) ts)

  of_suffixes : {r : Tree} (qs : List Pointer) (c : CoreTree) → RunsIf no_suffix_next declarator_of r (suffixed qs c no_suffixes) → (xs : SuffixTrees) → RunsIf no_suffix_next declarator_of (suffixes_onto r xs) (suffixed qs c xs)
  of_suffixes qs c i no_suffixes = i
  of_suffixes qs c i (and_suffix xs x) = if_any (of_suffix qs c xs (of_suffixes qs c i xs) x)

  pub of_initialiser : (s : Sort) (n : InitialiserTree) → Whole initialiser_of (run_initialiser s n) n
  of_initialiser s (Expression e) = record { is_whole = initialiser_expr (parts_of (run_expr s e)) e ((of_expr s e).goes []) }
  of_initialiser s (Braced p ns false) = record { is_whole = (as_runs (by_token (of_initialisers p (by_token by_begin) ns)) (braces_end p ns)).goes [] }
  of_initialiser s (Braced p ns true) = record { is_whole = (as_runs (by_token (by_token (of_initialisers p (by_token by_begin) ns))) (braces_last p ns)).goes [] }

  of_initialisers : {r : Tree} (p : Place) → Runs initialiser_of r (λ m. initialiser_of (leaf (kind.Mark mark.OpenBrace) p ∷ m)) → (ns : InitialiserTrees) → Runs initialiser_of (initialisers_onto r ns) (behind_item p ns)
  of_initialisers p i (first_initialiser n) = as_runs (by_child i) (item_goes p (of_initialiser _ n))
  of_initialisers p i (and_initialiser ns n) = as_runs (by_child (by_token (of_initialisers p i ns))) (next_item_goes p ns (of_initialiser _ n))

  of_declared : (k : Reader) {g : List Part → Answer k} {r : Tree} {f : Option DeclarationTree → Answer k} {xs : SpecifierTrees} {ds : DeclaredTrees} → At g r f xs ds → (d : DeclaredTree) → Ends g (declared_onto r d) f xs (and_declarator ds d)
  of_declared k i (Uninitialised d) = uninitialised_ends i (of_declarator _ d)
  of_declared k i (Initialised d p n) = initialised_ends i (of_declarator _ d) (of_initialiser _ n)

  pub of_declarators : (k : Reader) (g : List Part → Answer k) (r : Tree) (f : Option DeclarationTree → Answer k) (xs : SpecifierTrees) → At g r f xs no_declarators → (ds : DeclaredTrees) → Listed g r f xs ds
  of_declarators k g r f xs i no_declarators = i
  of_declarators k g r f xs i (and_declarator ds d) = of_declared k (at_next g r f xs ds (of_declarators k g r f xs i ds)) d

  of_member : (s : Sort) (d : DeclarationTree) → Whole declaration_of (declaration_onto (begin s) d) d
  of_member s (Declaration xs ds) = member_whole xs ds (of_specifiers declaration (behind_specifiers declared) by_begin xs)
      (of_declarators declaration declaration_of _ itself xs (at_first declared itself xs declares (of_specifiers declaration (behind_specifiers declared) by_begin xs)) ds)

-- ---- declarations

-- a declaration, whoever reads it
pub of_declaration : (k : Reader) {g : List Part → Answer k} {r : Tree} (b : SpecifierTrees → List Part → Answer k) (f : Option DeclarationTree → Answer k) → Declares b f → Runs g r (λ m. behind_specifiers b (specifiers None m)) →
    (d : DeclarationTree) → Runs g (declaration_onto r d) (λ m. f (only m d))
of_declaration k {g = g} b f o i (Declaration xs ds) = closes b f xs o (of_specifiers k (behind_specifiers b) i xs) ds (of_declarators k g _ f xs (at_first b f xs o (of_specifiers k (behind_specifiers b) i xs)) ds)
