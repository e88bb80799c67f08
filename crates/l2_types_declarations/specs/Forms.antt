-- What a declarator makes of the type before it, and where that type begins (C11 6.7.6, for integers).
use Rattle.std.specs.Prelude.{Bool, true, false, ◌&&◌, ◌||◌, ◌==◌, length, Option, Some}
use Rattle.l2_syntax.specs.declared.place.Place.{Place}
use Rattle.l2_tree.specs.declared.operators.SpecifierWord.{SpecifierWord}
use Rattle.l2_tree.specs.declared.operators.SpecifierWord.TheVariants as word
use Rattle.l2_tree.specs.Trees.{SpecifierTree, Word, SpecifierTrees, first_specifier, and_specifier, DeclaratorTree, Declarator, CoreTree, Group, SuffixTrees, no_suffixes, and_suffix, ParameterTrees}
use Rattle.l2_tree.specs.Build.{some_or}
use Rattle.l2_tree_names.specs.Declarators.{parameters_of}
use Rattle.l2_tree_names.specs.Specifiers.{base_place}

-- ---- specifiers

abbrev pub is_const : SpecifierWord → Bool
is_const word.Const = true
is_const w = false

abbrev pub const_word : SpecifierTree → Bool
const_word (Word w p) = is_const w
const_word x = false

abbrev pub has_const : SpecifierTrees → Bool
has_const (first_specifier x) = const_word x
has_const (and_specifier xs x) = has_const xs || const_word x

abbrev pub start_of_text : Place
start_of_text = record { offset = 0; line = 1; col = 1 }

-- where a type begins: at the first specifier that is no word of storage
abbrev pub type_start : SpecifierTrees → Place
type_start xs = some_or (base_place xs) (λ p. p) start_of_text

-- ---- declarators

abbrev pub no_suffix : SuffixTrees → Bool
no_suffix no_suffixes = true
no_suffix (and_suffix xs x) = false

abbrev pub one_suffix : SuffixTrees → Bool
one_suffix no_suffixes = false
one_suffix (and_suffix xs x) = no_suffix xs

abbrev mutual
  -- nothing stands round the name but parentheses
  pub is_bare : DeclaratorTree → Bool
  is_bare (Declarator ps c xs) = length ps == 0 && no_suffix xs && is_bare_core c

  pub is_bare_core : CoreTree → Bool
  is_bare_core (Group p d) = is_bare d
  is_bare_core c = true

abbrev mutual
  -- one thing stands behind the name, and nothing else round it
  pub is_lone : DeclaratorTree → Bool
  is_lone (Declarator ps c xs) = length ps == 0 && (one_suffix xs && is_bare_core c || no_suffix xs && is_lone_core c)

  pub is_lone_core : CoreTree → Bool
  is_lone_core (Group p d) = is_lone d
  is_lone_core c = false

-- what a declarator makes of a type: the type itself; a function that gives it; or what isn't in the profile
pub data Form : Type 0 where
  Plainly : Form
  Making : ParameterTrees → Form
  Beyond : Form

abbrev pub lone_form : Bool → Option ParameterTrees → Form
lone_form true (Some ps) = Making ps
lone_form l ps = Beyond

abbrev pub form_by : Bool → Bool → Option ParameterTrees → Form
form_by true l ps = Plainly
form_by false l ps = lone_form l ps

abbrev pub form : DeclaratorTree → Form
form d = form_by (is_bare d) (is_lone d) (parameters_of d)
