-- Every declaration that has begun goes on to a whole one.
use Rattle.std.proofs.Common.{◌≡◌, Bool, true, false, not, refl, ap}
use Rattle.l2_syntax.specs.declared.token.Mark.TheVariants as mark
use Rattle.l2_syntax.specs.declared.token.TokenKind.TheVariants as kind
use Rattle.l2_grammar.specs.Marks.{is}
use Rattle.l2_grammar.specs.Networks.{on_token}
use Rattle.l2_grammar.specs.Nesting.{declares_in, opens, outcome, on_child, stands, is_external, names, naming, ends_declaration, specifies, initialises, is_typedef, defines}
use Rattle.l2_grammar.proofs.Bools.{both, and}
use Rattle.l2_grammar.proofs.Whole.{Can, can_stop, can_token, can_child, sign, least_of, name_of, can_value}
use Rattle.l2_grammar.specs.Trees.{Fits}
use Rattle.l2_grammar.specs.States.{lone, listed, behind_else, named, Sort, external, item, for_first, member, parameter, declarator, enclosed, inside, initialiser, Storage, no_length, int, Named, number, struct_tag, enum_tag, tagged, Shape, name_only, State, before_type, typed, struct_word, enum_word, members, enumerators, enumerator, enum_value, enum_value_close, enum_comma, declared, init_value, init_close, next_declarator, declaration_end, function_block, declares}

-- declarations
pub can_end : (s : Sort) → ends_declaration s ≡ true → Can s declaration_end
unfolding outcome
can_end external h = can_stop external declaration_end refl
can_end (item listed) h = can_stop (item listed) declaration_end refl
can_end (item lone) h = absurd (cc)
can_end (item behind_else) h = absurd (cc)
can_end for_first h = can_stop for_first declaration_end refl
can_end member h = can_stop member declaration_end refl
can_end s h = absurd (cc)

pub can_declared : (s : Sort) (w : Storage) (i : Shape) (b : Bool) → specifies s w ≡ true → Can s (declared w i b)
unfolding on_token stands outcome is
can_declared external w i b h = can_token external (declared w i b) declaration_end (sign mark.Semicolon) refl refl (can_end external refl)
can_declared (item listed) w i b h = can_token (item listed) (declared w i b) declaration_end (sign mark.Semicolon) refl refl (can_end (item listed) refl)
can_declared (item lone) w i b h = absurd (cc)
can_declared (item behind_else) w i b h = absurd (cc)
can_declared for_first w i b h = can_token for_first (declared w i b) declaration_end (sign mark.Semicolon) refl refl (can_end for_first refl)
can_declared member w i b h = can_token member (declared w i b) declaration_end (sign mark.Semicolon) refl refl (can_end member refl)
can_declared parameter w i b h = can_stop parameter (declared w i b) refl
can_declared (enclosed n) w i b h = can_stop (enclosed n) (declared w i b) refl
can_declared inside w i b h = can_stop inside (declared w i b) refl
can_declared s w i b h = absurd (cc)

pub name_fits : Fits (name_of (declarator named))
unfolding on_token stands
name_fits = (tt, refl)

pub can_named : (s : Sort) (q : State) (w : Storage) (b : Bool) → opens s q ≡ declarator named → on_child s q (declares name_only) ≡ declared w name_only b → naming s ≡ named → specifies s w ≡ true → Can s q
unfolding on_token stands outcome
can_named s q w b o e n h = can_child s q (declared w name_only b) (name_of (declarator named)) name_fits o e (and _ _ h (ap (λ z. names z name_only) n)) (can_declared s w name_only b h)

pub can_typed : (s : Sort) (w : Storage) (y : Named) → specifies s w ≡ true → Can s (typed w y)
unfolding on_child opens outcome
can_typed external w y h = can_named external (typed w y) w (defines w name_only) refl refl refl h
can_typed (item listed) w y h = can_named (item listed) (typed w y) w (defines w name_only) refl refl refl h
can_typed (item lone) w y h = absurd (cc)
can_typed (item behind_else) w y h = absurd (cc)
can_typed for_first w y h = can_named for_first (typed w y) w (defines w name_only) refl refl refl h
can_typed member w y h = can_named member (typed w y) w (defines w name_only) refl refl refl h
can_typed parameter w y h = can_stop parameter (typed w y) refl
can_typed (enclosed n) w y h = can_stop (enclosed n) (typed w y) refl
can_typed inside w y h = can_stop inside (typed w y) refl
can_typed s w y h = absurd (cc)

pub can_next : (s : Sort) (w : Storage) → ends_declaration s ≡ true → specifies s w ≡ true → Can s (next_declarator w)
unfolding on_child opens
can_next external w e h = can_named external (next_declarator w) w false refl refl refl h
can_next (item listed) w e h = can_named (item listed) (next_declarator w) w false refl refl refl h
can_next (item lone) w e h = absurd (cc)
can_next (item behind_else) w e h = absurd (cc)
can_next for_first w e h = can_named for_first (next_declarator w) w false refl refl refl h
can_next member w e h = can_named member (next_declarator w) w false refl refl refl h
can_next s w e h = absurd (cc)

pub can_before : (s : Sort) (w : Storage) → specifies s w ≡ true → Can s (before_type w)
unfolding on_token stands
can_before s w h = can_token s (before_type w) (typed w (number false no_length int)) (sign mark.Int) refl h (can_typed s w (number false no_length int) h)

pub can_tag : (s : Sort) (q : State) (w : Storage) (y : Named) → on_token s q (kind.Word 0) ≡ typed w y → specifies s w ≡ true → Can s q
unfolding stands
can_tag s q w y e h = can_token s q (typed w y) (kind.Word 0) e h (can_typed s w y h)

pub can_struct : (s : Sort) (w : Storage) → specifies s w ≡ true → Can s (struct_word w)
unfolding on_token is
can_struct s w h = can_tag s (struct_word w) w struct_tag refl h

pub can_enum : (s : Sort) (w : Storage) → specifies s w ≡ true → Can s (enum_word w)
unfolding on_token is
can_enum s w h = can_tag s (enum_word w) w enum_tag refl h

pub can_brace : (s : Sort) (q : State) (w : Storage) → on_token s q (sign mark.CloseBrace) ≡ typed w tagged → specifies s w ≡ true → Can s q
unfolding stands
can_brace s q w e h = can_token s q (typed w tagged) (sign mark.CloseBrace) e h (can_typed s w tagged h)

pub can_members : (s : Sort) (w : Storage) → specifies s w ≡ true → Can s (members w)
unfolding on_token is
can_members s w h = can_brace s (members w) w refl h

pub can_enumerator : (s : Sort) (w : Storage) → specifies s w ≡ true → Can s (enumerator w)
unfolding on_token is
can_enumerator s w h = can_brace s (enumerator w) w refl h

pub can_enumerators : (s : Sort) (w : Storage) → specifies s w ≡ true → Can s (enumerators w)
unfolding on_token stands
can_enumerators s w h = can_token s (enumerators w) (enumerator w) (kind.Word 0) refl h (can_enumerator s w h)

pub can_enum_value_close : (s : Sort) (w : Storage) → specifies s w ≡ true → Can s (enum_value_close w)
unfolding on_token is
can_enum_value_close s w h = can_brace s (enum_value_close w) w refl h

pub can_enum_value : (s : Sort) (w : Storage) → specifies s w ≡ true → Can s (enum_value w)
unfolding on_child opens stands
can_enum_value s w h = can_value s (enum_value w) (enum_value_close w) 3 refl refl refl h (can_enum_value_close s w h)

pub can_enum_comma : (s : Sort) (w : Storage) → specifies s w ≡ true → Can s (enum_comma w)
unfolding on_token is
can_enum_comma s w h = can_brace s (enum_comma w) w refl h

initialises_ends : (s : Sort) (w : Storage) → initialises s w ≡ true → ends_declaration s ≡ true
initialises_ends external w h = refl
initialises_ends (item b) w h = (both (declares_in b) (not (is_typedef w)) h).0
initialises_ends for_first w h = refl
initialises_ends s w h = absurd (cc)

pub can_init_close : (s : Sort) (w : Storage) → initialises s w ≡ true → Can s (init_close w)
unfolding on_token stands is
can_init_close s w h = can_token s (init_close w) declaration_end (sign mark.Semicolon) refl (initialises_ends s w h) (can_end s (initialises_ends s w h))

pub can_init : (s : Sort) (w : Storage) → initialises s w ≡ true → Can s (init_value w)
unfolding on_token on_child opens stands outcome is
can_init s w h = can_child s (init_value w) (init_close w) (least_of initialiser) (tt, refl) refl refl h (can_init_close s w h)

pub can_function : (s : Sort) → is_external s ≡ true → Can s function_block
unfolding on_token stands is
can_function external h = can_token external function_block declaration_end (sign mark.CloseBrace) refl refl (can_end external refl)
can_function s h = absurd (cc)
