-- What a declarator's name is: nothing, an object, a function, or what is made of one.
use Rattle.std.proofs.Common.{◌≡◌, refl, ap, sym, ◌∙◌, subst, Bool, true, false, List, [], ◌∷◌, Option, None, Some, is_some}
use Rattle.l2_syntax.specs.declared.place.Place.{Place}
use Rattle.l2_grammar.specs.declared.states.Shape.{Shape}
use Rattle.l2_grammar.specs.declared.states.Shape.TheVariants as shape
use Rattle.l2_grammar.specs.Networks.{applied, indexed, starred}
use Rattle.l2_grammar.specs.Nesting as nesting
use Rattle.l2_tree.specs.declared.expression.Pointer.{Pointer}
use Rattle.l2_tree.specs.Trees.{DeclaratorTree, Declarator, CoreTree, Absent, Named, Group, SuffixTree, Parameters, SuffixTrees, no_suffixes, and_suffix, ParameterTrees}
use Rattle.l2_tree.specs.Build.{some_or}
use Rattle.l2_tree_names.specs.Declarators.{core_name, Round, behind, first_suffix, last_pointer, round_of, nearest, core_nearest, parameters_in}
use Rattle.l2_well_formed.specs.Expressions.{has_name, may_define}
use Rattle.l2_well_formed.specs.WellFormed.{Defines}

abbrev pub suffix_shape : Shape → SuffixTree → Shape
suffix_shape h (Parameters p ps) = applied h (may_define ps)
suffix_shape h x = indexed h

abbrev pub suffixes_shape : Shape → SuffixTrees → Shape
suffixes_shape h no_suffixes = h
suffixes_shape h (and_suffix xs x) = suffix_shape (suffixes_shape h xs) x

abbrev pub has_pointers : List Pointer → Bool
has_pointers [] = false
has_pointers (p ∷ ps) = true

abbrev mutual
  pub shape_of : DeclaratorTree → Shape
  shape_of (Declarator ps c xs) = starred (has_pointers ps) (suffixes_shape (core_shape c) xs)

  pub core_shape : CoreTree → Shape
  core_shape Absent = shape.Nameless
  core_shape (Named n p) = shape.NameOnly
  core_shape (Group p d) = shape_of d

-- ---- names

indexed_named : (h : Shape) → nesting.is_named (indexed h) ≡ nesting.is_named h
indexed_named shape.NameOnly = refl
indexed_named h = refl

applied_named : (h : Shape) (b : Bool) → nesting.is_named (applied h b) ≡ nesting.is_named h
applied_named shape.NameOnly b = refl
applied_named h b = refl

starred_named : (b : Bool) (h : Shape) → nesting.is_named (starred b h) ≡ nesting.is_named h
starred_named true shape.NameOnly = refl
starred_named b h = refl

suffix_named : (h : Shape) (x : SuffixTree) → nesting.is_named (suffix_shape h x) ≡ nesting.is_named h
suffix_named h (Parameters p ps) = applied_named h (may_define ps)
suffix_named h x = indexed_named h

suffixes_named : (h : Shape) (xs : SuffixTrees) → nesting.is_named (suffixes_shape h xs) ≡ nesting.is_named h
suffixes_named h no_suffixes = refl
suffixes_named h (and_suffix xs x) = suffix_named (suffixes_shape h xs) x ∙ suffixes_named h xs

mutual
  pub shape_named : (d : DeclaratorTree) → nesting.is_named (shape_of d) ≡ has_name d
  shape_named (Declarator ps c xs) = starred_named (has_pointers ps) (suffixes_shape (core_shape c) xs) ∙ suffixes_named (core_shape c) xs ∙ core_named c

  core_named : (c : CoreTree) → nesting.is_named (core_shape c) ≡ is_some (core_name c)
  core_named Absent = refl
  core_named (Named n p) = refl
  core_named (Group p d) = shape_named d

-- ---- functions

-- what stands nearest round the name, by the shape
abbrev Near : Shape → Option Round → Type 0
Near shape.NameOnly o = o ≡ None
Near (shape.Function b) o = (p : Place) × (ps : ParameterTrees) × (o ≡ Some (behind (Parameters p ps))) × (may_define ps ≡ b)
Near h o = Unit {0}

-- one more suffix
later : (o : Option Round) (y : Option SuffixTree) (x : SuffixTree) (r : Round) → round_of o y None ≡ Some r → round_of o (some_or y (λ z. Some z) (Some x)) None ≡ Some r
later (Some s) y x r e = e
later None (Some z) x r e = e
later None None x r e = absurd (cc)

first : (o : Option Round) (y : Option SuffixTree) (x : SuffixTree) → round_of o y None ≡ None → round_of o (some_or y (λ z. Some z) (Some x)) None ≡ Some (behind x)
first (Some s) y x e = absurd (cc)
first None (Some z) x e = absurd (cc)
first None None x e = refl

suffix_near : (h : Shape) (o : Option Round) (y : Option SuffixTree) (x : SuffixTree) → Near h (round_of o y None) → Near (suffix_shape h x) (round_of o (some_or y (λ z. Some z) (Some x)) None)
suffix_near shape.Nameless o y (Parameters p ps) i = tt
suffix_near shape.Nameless o y x i = tt
suffix_near shape.NameOnly o y (Parameters p ps) i = (p, ps, first o y (Parameters p ps) i, refl)
suffix_near shape.NameOnly o y x i = tt
suffix_near (shape.Function b) o y (Parameters p ps) i = (i.0, i.1, later o y (Parameters p ps) (behind (Parameters i.0 i.1)) i.2, i.3)
suffix_near (shape.Function b) o y x i = (i.0, i.1, later o y x (behind (Parameters i.0 i.1)) i.2, i.3)
suffix_near shape.Derived o y (Parameters p ps) i = tt
suffix_near shape.Derived o y x i = tt

round_alone : (o : Option Round) → round_of o None None ≡ o
round_alone None = refl
round_alone (Some r) = refl

suffixes_near : (h : Shape) (o : Option Round) (xs : SuffixTrees) → Near h o → Near (suffixes_shape h xs) (round_of o (first_suffix xs) None)
suffixes_near h o no_suffixes i = subst (Near h) (sym (round_alone o)) i
suffixes_near h o (and_suffix xs x) i = suffix_near (suffixes_shape h xs) o (first_suffix xs) x (suffixes_near h o xs i)

pointer_near : (h : Shape) (o : Option Round) (y : Option SuffixTree) (ps : List Pointer) → Near h (round_of o y None) → Near (starred (has_pointers ps) h) (round_of o y (last_pointer ps))
pointer_near h o y [] i = i
pointer_near shape.NameOnly o y (p ∷ ps) i = tt
pointer_near (shape.Function b) o y (p ∷ ps) i = (i.0, i.1, go o y (last_pointer (p ∷ ps)) (behind (Parameters i.0 i.1)) i.2, i.3)
  where
    go : (o : Option Round) (y : Option SuffixTree) (q : Option Pointer) (r : Round) → round_of o y None ≡ Some r → round_of o y q ≡ Some r
    go (Some s) y q r e = e
    go None (Some z) q r e = e
    go None None q r e = absurd (cc)
pointer_near h o y (p ∷ ps) i = tt

mutual
  shape_near : (d : DeclaratorTree) → Near (shape_of d) (nearest d)
  shape_near (Declarator ps c xs) = pointer_near (suffixes_shape (core_shape c) xs) (core_nearest c) (first_suffix xs) ps (suffixes_near (core_shape c) (core_nearest c) xs (core_near c))

  core_near : (c : CoreTree) → Near (core_shape c) (core_nearest c)
  core_near Absent = tt
  core_near (Named n p) = refl
  core_near (Group p d) = shape_near d

-- the name of a function that may be defined so
pub shape_defines : (d : DeclaratorTree) → shape_of d ≡ shape.Function true → Defines d
shape_defines d e = let i = subst (λ h. Near h (nearest d)) e (shape_near d) in record { name = sym (shape_named d) ∙ ap nesting.is_named e; parameters = i.1; are = ap parameters_in i.2; may = i.3 }
