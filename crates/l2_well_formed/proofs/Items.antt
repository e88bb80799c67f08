-- How statements begin, and how a declaration ends.
use Rattle.std.proofs.Common.{◌≡◌, ◌≤◌, ◌⊎◌, inl, inr, refl, ap, ◌∙◌, subst, ℕ, true, false, Option, Some, arith}
use Rattle.l2_syntax.specs.declared.token.Mark.TheVariants as mark
use Rattle.l2_syntax.specs.declared.token.TokenKind.TheVariants as kind
use Rattle.l2_grammar.specs.declared.states.Items.TheVariants as items
use Rattle.l2_grammar.specs.declared.states.Sort.{Sort}
use Rattle.l2_grammar.specs.declared.states.Sort.TheVariants as sort
use Rattle.l2_grammar.specs.declared.states.Naming.TheVariants as naming
use Rattle.l2_grammar.specs.declared.states.Storage.{Storage}
use Rattle.l2_grammar.specs.declared.states.Storage.TheVariants as storage
use Rattle.l2_grammar.specs.declared.states.Named.{Named}
use Rattle.l2_grammar.specs.declared.states.Named.TheVariants as named
use Rattle.l2_grammar.specs.declared.states.State.{State}
use Rattle.l2_grammar.specs.declared.states.State.TheVariants as st
use Rattle.l2_grammar.specs.Marks.{is}
use Rattle.l2_grammar.specs.Networks.{on_token}
use Rattle.l2_grammar.specs.Nesting as nesting
use Rattle.l2_grammar.specs.Nesting.{values, is_item, is_declarator, specifies, initialises, defines, stands, on_child, opens, outcome as outcome_of}
use Rattle.l2_grammar.specs.Trees.{Tree, sort as sort_of, state as state_of, Fits}
use Rattle.l2_tree.specs.Trees.{DeclaredTrees, no_declarators, and_declarator, DeclarationTree, Declaration, SpecifierTrees}
use Rattle.l2_tree.specs.Spelling.{has_declarators, closed, specifiers_onto, declarators_onto, declaration_onto}
use Rattle.l2_tree_laws.specs.Specifiers.{Base, tagged, nothing, other_of}
use Rattle.l2_well_formed.specs.WellFormed.{Tags, FormedDeclaration, without_initialisers}
use Rattle.l2_well_formed.proofs.Steps.{no_none}
use Rattle.l2_well_formed.proofs.Tokens.{Follows}
use Rattle.l2_well_formed.proofs.Counts.{Ready, stored_words}
use Rattle.l2_well_formed.proofs.Specifiers.{Kind, kinds, is_typed}
use Rattle.l2_well_formed.proofs.Declarations.{specifiers_sort, Typing, typing, typing_names, Ended}
use Rattle.l2_well_formed.proofs.Formed.{specifiers_formed, declarators_formed}

-- ---- how a statement begins

pub block_state : (z : Sort) → is_item z ≡ true → on_token z st.Fresh (kind.Mark mark.OpenBrace) ≡ st.Block
unfolding on_token is
block_state (sort.Item items.Lone) v = refl
block_state (sort.Item b) v = refl
block_state z v = absurd (cc)

pub while_state : (z : Sort) → is_item z ≡ true → on_token z st.Fresh (kind.Mark mark.While) ≡ st.HeadOpen
unfolding on_token is
while_state (sort.Item items.Lone) v = refl
while_state (sort.Item b) v = refl
while_state z v = absurd (cc)

pub switch_state : (z : Sort) → is_item z ≡ true → on_token z st.Fresh (kind.Mark mark.Switch) ≡ st.HeadOpen
unfolding on_token is
switch_state (sort.Item items.Lone) v = refl
switch_state (sort.Item b) v = refl
switch_state z v = absurd (cc)

pub do_state : (z : Sort) → is_item z ≡ true → on_token z st.Fresh (kind.Mark mark.Do) ≡ st.DoBody
unfolding on_token is
do_state (sort.Item items.Lone) v = refl
do_state (sort.Item b) v = refl
do_state z v = absurd (cc)

pub for_state : (z : Sort) → is_item z ≡ true → on_token z st.Fresh (kind.Mark mark.For) ≡ st.ForOpen
unfolding on_token is
for_state (sort.Item items.Lone) v = refl
for_state (sort.Item b) v = refl
for_state z v = absurd (cc)

pub case_state : (z : Sort) → is_item z ≡ true → on_token z st.Fresh (kind.Mark mark.Case) ≡ st.CaseValue
unfolding on_token is
case_state (sort.Item items.Lone) v = refl
case_state (sort.Item b) v = refl
case_state z v = absurd (cc)

pub default_state : (z : Sort) → is_item z ≡ true → on_token z st.Fresh (kind.Mark mark.Default) ≡ st.Colon
unfolding on_token is
default_state (sort.Item items.Lone) v = refl
default_state (sort.Item b) v = refl
default_state z v = absurd (cc)

pub break_state : (z : Sort) → is_item z ≡ true → on_token z st.Fresh (kind.Mark mark.Break) ≡ st.Semicolon
unfolding on_token is
break_state (sort.Item items.Lone) v = refl
break_state (sort.Item b) v = refl
break_state z v = absurd (cc)

pub continue_state : (z : Sort) → is_item z ≡ true → on_token z st.Fresh (kind.Mark mark.Continue) ≡ st.Semicolon
unfolding on_token is
continue_state (sort.Item items.Lone) v = refl
continue_state (sort.Item b) v = refl
continue_state z v = absurd (cc)

pub return_state : (z : Sort) → is_item z ≡ true → on_token z st.Fresh (kind.Mark mark.Return) ≡ st.Returning
unfolding on_token is
return_state (sort.Item items.Lone) v = refl
return_state (sort.Item b) v = refl
return_state z v = absurd (cc)

pub empty_state : (z : Sort) → is_item z ≡ true → on_token z st.Fresh (kind.Mark mark.Semicolon) ≡ st.Statement true
unfolding on_token is
empty_state (sort.Item items.Lone) v = refl
empty_state (sort.Item b) v = refl
empty_state z v = absurd (cc)

pub label_state : (z : Sort) (n : ℕ) → is_item z ≡ true → on_token z st.Fresh (kind.Word n) ≡ st.Word
unfolding on_token is
label_state (sort.Item items.Lone) n v = refl
label_state (sort.Item b) n v = refl
label_state z n v = absurd (cc)

pub if_state : (z : Sort) → is_item z ≡ true → stands z (on_token z st.Fresh (kind.Mark mark.If)) ≡ true → on_token z st.Fresh (kind.Mark mark.If) ≡ st.IfOpen
unfolding on_token is
if_state (sort.Item items.Lone) v h = refl
if_state (sort.Item items.BehindElse) v h = absurd (no_none (sort.Item items.BehindElse) h)
if_state (sort.Item b) v h = refl
if_state z v h = absurd (cc)

pub no_if : stands (sort.Item items.BehindElse) (on_token (sort.Item items.BehindElse) st.Fresh (kind.Mark mark.If)) ≡ true → ⊥
unfolding on_token
no_if h = no_none (sort.Item items.BehindElse) h

pub item_values : (z : Sort) → is_item z ≡ true → values z ≡ true
item_values (sort.Item b) v = refl
item_values z v = absurd (cc)

pub item_naming : (z : Sort) → is_item z ≡ true → nesting.naming z ≡ naming.Named
item_naming (sort.Item b) v = refl
item_naming z v = absurd (cc)

pub semicolon_follows : Follows (kind.Mark mark.Semicolon) 0 (st.Statement true)
unfolding is
semicolon_follows = record { colon = refl; most = refl; wants = refl; state = refl }

-- ---- a declaration

one_stored : (w : Storage) → stored_words w ≤ 1
one_stored storage.Stored = (omega arith)
one_stored w = (omega arith)

alone_tags : (s : Sort) (w : Storage) (y : Named) (o : Option Base) → stands s (on_token s (st.Typed w y) (kind.Mark mark.Semicolon)) ≡ true → Kind y o → (x : _) × (o ≡ Some (tagged x))
unfolding on_token
alone_tags sort.Member w y o h i = absurd (no_none sort.Member h)
alone_tags s w named.StructTag o h i = i
alone_tags s w named.EnumTag o h i = i
alone_tags s w named.Tagged o h i = i
alone_tags s w y o h i = absurd (no_none s h)

alone_end : (s : Sort) (w : Storage) (y : Named) → stands s (on_token s (st.Typed w y) (kind.Mark mark.Semicolon)) ≡ true → on_token s (st.Typed w y) (kind.Mark mark.Semicolon) ≡ st.DeclarationEnd
unfolding on_token
alone_end sort.Member w y h = absurd (no_none sort.Member h)
alone_end s w named.StructTag h = refl
alone_end s w named.EnumTag h = refl
alone_end s w named.Tagged h = refl
alone_end s w y h = absurd (no_none s h)

end_state : (s : Sort) (ds : DeclaredTrees) (q : State) (w : Storage) (y : Named) → Ended ds q w y → stands s (on_token s q (kind.Mark mark.Semicolon)) ≡ true → on_token s q (kind.Mark mark.Semicolon) ≡ st.DeclarationEnd
unfolding on_token is
end_state s no_declarators q w y e h = ap (λ z. on_token s z (kind.Mark mark.Semicolon)) e ∙ alone_end s w y (subst (λ z. stands s (on_token s z (kind.Mark mark.Semicolon)) ≡ true) e h)
end_state s (and_declarator ds d) q w y (inl e) h = ap (λ z. on_token s z (kind.Mark mark.Semicolon)) e.2
end_state s (and_declarator ds d) q w y (inr e) h = ap (λ z. on_token s z (kind.Mark mark.Semicolon)) e

pub record DeclarationDone (n : ℕ) (d : DeclarationTree) (r : Tree) : Type 0 where
  pub formed : FormedDeclaration n d
  pub state : state_of (declaration_onto r d) ≡ st.DeclarationEnd
  pub plain : ((xs : SpecifierTrees) (t : Typing r xs) → initialises (sort_of r) t.words ≡ false) → without_initialisers d ≡ true

tags_or : (r : Tree) (xs : SpecifierTrees) (ds : DeclaredTrees) (t : Typing r xs) → is_typed (state_of r) ≡ false → Fits (closed (declarators_onto (specifiers_onto r xs) ds) mark.Semicolon) → (has_declarators ds ≡ true) ⊎ Tags xs
tags_or r xs no_declarators t i f =
    let a = specifiers_onto r xs in inr (alone_tags (sort_of a) t.words t.name (other_of xs) (subst (λ q. stands (sort_of a) (on_token (sort_of a) q (kind.Mark mark.Semicolon)) ≡ true) t.state f.1) (kinds r xs i t.words t.name t.state))
tags_or r xs (and_declarator ds d) t i f = inl refl

pub declaration_formed : (n : ℕ) (d : DeclarationTree) (r : Tree) → Ready r nothing → is_typed (state_of r) ≡ false → nesting.naming (sort_of r) ≡ naming.Named → ((xs : SpecifierTrees) (t : Typing r xs) → stored_words t.words ≤ n) → Fits (declaration_onto r d) → DeclarationDone n d r
declaration_formed n (Declaration xs ds) r i j k h f =
    let t = typing r xs ds i f in let a = specifiers_onto r xs in
    let y = declarators_formed ds a t.words t.name t.state (ap nesting.naming (specifiers_sort r xs) ∙ k) f.0 in
    record {
      formed = (typing_names r xs n i t (h xs t), specifiers_formed xs r t.fits, tags_or r xs ds t j f, y.formed);
      state = end_state (sort_of (declarators_onto a ds)) ds (state_of (declarators_onto a ds)) t.words t.name y.ended f.1;
      plain = λ g. y.plain (ap (λ s. initialises s t.words) (specifiers_sort r xs) ∙ g xs t);
    }

pub stored_once : (r : Tree) (xs : SpecifierTrees) (t : Typing r xs) → stored_words t.words ≤ 1
stored_once r xs t = one_stored t.words
