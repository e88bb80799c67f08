-- Every step keeps what was read, and from every state some tokens make the outermost construct whole.
use Rattle.std.proofs.Common.{◌≡◌, List, [], ◌∷◌, ◌++◌, ◌⊎◌, inl, inr, Bool, true, false, cond, refl, sym, ap, ◌∙◌, subst}
use Rattle.l2_syntax.specs.declared.place.Place.{Place}
use Rattle.l2_syntax.specs.declared.token.TokenKind.TheVariants as kind
use Rattle.l2_grammar.specs.States.{Sort, unit, fresh, unit_end}
use Rattle.l2_grammar.specs.Networks.{on_token}
use Rattle.l2_grammar.specs.Nesting.{opens, outcome, stands, is_unit}
use Rattle.l2_grammar.specs.Trees.{Seen, Tree, token, child, spell, sort, state, Fits}
use Rattle.l2_grammar.specs.Reader.{Next, Stop, To, takes, begins, step}
use Rattle.l2_grammar.specs.Law.{IsUnit}
use Rattle.l2_grammar.proofs.Nests.{no_unit, unit_state}
use Rattle.l2_grammar.proofs.Taken.{done, taken_whole}
use Rattle.l2_grammar.proofs.Whole.{Completed}
use Rattle.l2_grammar.proofs.Complete.{complete}

-- what was read for the constructs round it, and then more
abbrev pub before : List Tree → List Seen → List Seen
before [] m = m
before (p ∷ ks) m = before ks (spell p m)

-- where the construct stands, in an outermost one of this sort
abbrev pub StandsIn : Sort → List Tree → Tree → Type 0
StandsIn s [] r = sort r ≡ s
StandsIn s (p ∷ ks) r = (opens (sort p) (state p) ≡ sort r) × Fits p × (stands (sort p) (state p) ≡ true) × StandsIn s ks p

abbrev pub Good : Sort → List Tree → Tree → Type 0
Good s ks r = Fits r × (stands (sort r) (state r) ≡ true) × StandsIn s ks r

abbrev pub Kept : Sort → (List Seen → List Seen) → Next → Type 0
Kept s X Stop = Unit {0}
Kept s X (To r ks) = Good s ks r × ((m : List Seen) → X m ≡ before ks (spell r m))

pub kept_cond : (s : Sort) (X : List Seen → List Seen) (b : Bool) (x y : Next) → (b ≡ true → Kept s X x) → (b ≡ false → Kept s X y) → Kept s X (cond b x y)
kept_cond s X true x y p q = p refl
kept_cond s X false x y p q = q refl

-- a construct in the place of one of its sort
pub moved : (s : Sort) (ks : List Tree) (r x : Tree) → sort x ≡ sort r → StandsIn s ks r → StandsIn s ks x
moved s [] r x e g = e ∙ g
moved s (p ∷ ks) r x e g = (g.0 ∙ sym e, g.1, g.2, g.3)

pub kept_step : (s : Sort) (ks : List Tree) (r : Tree) (t : Seen) → Good s ks r → Kept s (λ m. before ks (spell r (t ∷ m))) (step ks r t)
kept_step s [] r t g =
    kept_cond s _ (takes (sort r) (state r) t.kind) _ _ (λ e. (((g.0, e), e, g.2), λ m. refl))
    (λ n. kept_cond s _ (begins (sort r) (state r) t.kind) _ _ (λ e. (((tt, e), e, (refl, g.0, g.1, g.2)), λ m. refl)) (λ n. tt))
kept_step s (p ∷ ks) r t g =
    kept_cond s _ (takes (sort r) (state r) t.kind) _ _ (λ e. (((g.0, e), e, g.2), λ m. refl))
    (λ n. kept_cond s _ (begins (sort r) (state r) t.kind) _ _ (λ e. (((tt, e), e, (refl, g.0, g.1, g.2)), λ m. refl))
    (λ n. kept_cond s _ (stands (sort p) (state (child p r))) _ _ (λ e. kept_step s ks (child p r) t ((g.2.1, g.0, g.2.0, e), e, moved s ks p (child p r) refl g.2.3)) (λ n. tt)))

-- some whole construct begins so
pub record Begun (P : Tree → Type 0) (X : List Seen → List Seen) : Type 0 where
  pub tree : Tree
  pub rest : List Seen
  pub whole : P tree
  pub spells : spell tree [] ≡ X rest

abbrev anywhere : Place
anywhere = record { offset = 0; line = 1; col = 1 }

abbrev last : Seen
last = record { kind = kind.End; at = anywhere }

end_stands : stands unit (on_token unit fresh kind.End) ≡ true
unfolding stands on_token
end_stands = refl

end_ends : on_token unit fresh kind.End ≡ unit_end
unfolding on_token
end_ends = refl

finish_unit : (r : Tree) → Good unit [] r → Begun IsUnit (λ m. spell r m)
finish_unit r g = go (unit_state (state r) (subst (λ s. stands s (state r) ≡ true) g.2 g.1))
  where
    go : (state r ≡ fresh) ⊎ (state r ≡ unit_end) → Begun IsUnit (λ m. spell r m)
    go (inl e) = record {
      tree = token r last;
      rest = last ∷ [];
      whole = record {
        fits = (g.0, subst (λ s. stands s (on_token s (state r) kind.End) ≡ true) (sym g.2) (subst (λ q. stands unit (on_token unit q kind.End) ≡ true) (sym e) end_stands));
        sorted = g.2;
        ended = ap (λ s. on_token s (state r) kind.End) g.2 ∙ ap (λ q. on_token unit q kind.End) e ∙ end_ends;
      };
      spells = refl;
    }
    go (inr e) = record { tree = r; rest = []; whole = record { fits = g.0; sorted = g.2; ended = e }; spells = refl }

finish_child : (P : Tree → Type 0) (ks : List Tree) (p r : Tree) (c : Completed r) → Begun P (λ m. before ks (spell p (spell c.tree m))) → Begun P (λ m. before ks (spell p (spell r m)))
finish_child P ks p r c b = record { tree = b.tree; rest = c.rest ++ b.rest; whole = b.whole; spells = b.spells ∙ ap (λ x. before ks (spell p x)) (c.spells b.rest) }

-- where the outermost construct can be made whole, so can each in it be before
pub finish_in : (P : Tree → Type 0) (s : Sort) → ((r : Tree) → Good s [] r → Begun P (λ m. spell r m)) → (ks : List Tree) (r : Tree) → Good s ks r → Begun P (λ m. before ks (spell r m))
finish_in P s f [] r g = f r g
finish_in P s f (p ∷ ks) r g =
    let u : is_unit (sort r) ≡ false = subst (λ x. is_unit x ≡ false) g.2.0 (no_unit (sort p) (state p)) in
    let c = complete r g.0 u g.1 in
    let d : done (opens (sort p) (state p)) (outcome (state c.tree)) ≡ true = subst (λ x. done x (outcome (state c.tree)) ≡ true) (sym g.2.0) c.whole in
    let h = taken_whole (sort p) (state p) (outcome (state c.tree)) g.2.2 d in
    finish_child P ks p r c (finish_in P s f ks (child p c.tree) ((g.2.1, c.fits, g.2.0 ∙ sym c.sorted, h), h, moved s ks p (child p c.tree) refl g.2.3))

pub finish_at : (ks : List Tree) (r : Tree) → Good unit ks r → Begun IsUnit (λ m. before ks (spell r m))
finish_at ks r g = finish_in IsUnit unit finish_unit ks r g
