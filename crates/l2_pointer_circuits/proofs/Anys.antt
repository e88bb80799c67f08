-- Tests made one after another, of which one is true.
use Rattle.std.proofs.Common.{◌≡◌, ℕ, Bool, true, false, not, refl, ap, ◌∙◌, List, [], ◌∷◌, ◌++◌}
use Rattle.l2_gates.specs.Gates.{Lit, F, Made, Bit, or}
use Rattle.l2_gates.specs.Models.{both, some_of, value, Ok, Gives, Below, Makes, Extends}
use Rattle.l2_gates.proofs.Values.{value_F, or_gives}
use Rattle.l2_gates.proofs.Made.{below_up, ext_refl, ext_then, makes_or}
use Rattle.l2_pointer_circuits.specs.Tests.{any_from, any}

pub or_is : (x y : Bool) → not (both (not x) (not y)) ≡ some_of x y
or_is true y = refl
or_is false true = refl
or_is false false = refl

-- a truth value, or one of these
abbrev pub some_from : {X : Type 0} → (X → Bool) → Bool → List X → Bool
some_from g r [] = r
some_from g r (x ∷ xs) = some_from g (some_of r (g x)) xs

-- of each
abbrev pub Each : {X : Type 0} → (X → Type 0) → List X → Type 0
Each P [] = Unit {0}
Each P (x ∷ xs) = P x × Each P xs

pub each_append : {X : Type 0} (P : X → Type 0) (xs ys : List X) → Each P xs → Each P ys → Each P (xs ++ ys)
each_append P [] ys h k = k
each_append P (x ∷ xs) ys (h, hs) k = (h, each_append P xs ys hs k)

pub each_map : {X : Type 0} (P Q : X → Type 0) → ((x : X) → P x → Q x) → (xs : List X) → Each P xs → Each Q xs
each_map P Q f [] h = tt
each_map P Q f (x ∷ xs) (h, hs) = (f x h, each_map P Q f xs hs)

pub any_append : {X : Type 0} (f : X → Made → Bit) (xs ys : List X) (r : Lit) (m : Made) → any_from f (xs ++ ys) r m ≡ any_from f ys (any_from f xs r m).bit (any_from f xs r m).made
any_append f [] ys r m = refl
any_append f (x ∷ xs) ys r m = any_append f xs ys (or r (f x m).bit (f x m).made).bit (or r (f x m).bit (f x m).made).made

pub some_append : {X : Type 0} (g : X → Bool) (xs ys : List X) (r : Bool) → some_from g r (xs ++ ys) ≡ some_from g (some_from g r xs) ys
some_append g [] ys r = refl
some_append g (x ∷ xs) ys r = some_append g xs ys (some_of r (g x))

some_of_false : (r : Bool) → some_of r false ≡ r
some_of_false true = refl
some_of_false false = refl

-- none of these is true
pub some_none : {X : Type 0} (g : X → Bool) (r : Bool) (xs : List X) → Each (λ x. g x ≡ false) xs → some_from g r xs ≡ r
some_none g r [] h = refl
some_none g r (x ∷ xs) (h, hs) = ap (λ b. some_from g (some_of r b) xs) h ∙ ap (λ b. some_from g b xs) (some_of_false r) ∙ some_none g r xs hs

pub some_same : {X : Type 0} (g h : X → Bool) (r : Bool) (xs : List X) → Each (λ x. g x ≡ h x) xs → some_from g r xs ≡ some_from h r xs
some_same g h r [] e = refl
some_same g h r (x ∷ xs) (e, es) = ap (λ b. some_from g (some_of r b) xs) e ∙ some_same g h (some_of r (h x)) xs es

module _ (v : ℕ → Bool) (truth : v 0 ≡ true) where
  -- each test gives its value, wherever it is made
  abbrev pub Tells : {X : Type 0} → (X → Made → Bit) → (X → Bool) → X → Type 0
  Tells f g x = (m : Made) → Gives v m (g x) (f x m)

  any_from_gives : {X : Type 0} (f : X → Made → Bit) (g : X → Bool) (xs : List X) (r : Lit) (m : Made) → Each (Tells f g) xs → Gives v m (some_from g (value v r) xs) (any_from f xs r m)
  any_from_gives f g [] r m h = λ ok. record { before = ok; is = refl }
  any_from_gives f g (x ∷ xs) r m (h, hs) = λ ok.
      let e = f x m in
      let k = or r e.bit e.made in
      let later = any_from_gives f g xs k.bit k.made hs ok in
      let gk = or_gives v truth r e.bit e.made later.before in
      let ge = h m gk.before in
      record { before = ge.before; is = later.is ∙ ap (λ b. some_from g b xs) (gk.is ∙ or_is (value v r) (value v e.bit) ∙ ap (some_of (value v r)) ge.is) }

  pub any_gives : {X : Type 0} (f : X → Made → Bit) (g : X → Bool) (xs : List X) (m : Made) → Each (Tells f g) xs → Gives v m (some_from g false xs) (any f xs m)
  any_gives f g xs m h = λ ok.
      let r = any_from_gives f g xs F m h ok in
      record { before = r.before; is = r.is ∙ ap (λ b. some_from g b xs) (value_F v truth) }

-- ---- what is made

-- each test is made, wherever it is made later
abbrev pub MadeLater : {X : Type 0} → Made → (X → Made → Bit) → X → Type 0
MadeLater m f x = (m' : Made) → Extends m m' → Makes m' (f x m')

any_from_made : {X : Type 0} (f : X → Made → Bit) (m m' : Made) (xs : List X) (r : Lit) → Each (MadeLater m f) xs → Extends m m' → Below m'.next r → Makes m' (any_from f xs r m')
any_from_made f m m' [] r h x b = record { bit = b; extends = ext_refl m' x.sound }
any_from_made f m m' (y ∷ xs) r (h, hs) x b =
    let e = f y m' in
    let ge = h m' x in
    let k = or r e.bit e.made in
    let gk = makes_or e.made ge.extends.sound r e.bit (below_up m'.next e.made.next r ge.extends.grows b) ge.bit in
    let ext = ext_then m' e.made k.made ge.extends gk.extends in
    let later = any_from_made f m k.made xs k.bit hs (ext_then m m' k.made x ext) gk.bit in
    record { bit = later.bit; extends = ext_then m' k.made (any_from f xs k.bit k.made).made ext later.extends }

pub any_made : {X : Type 0} (f : X → Made → Bit) (m m' : Made) (xs : List X) → Each (MadeLater m f) xs → Extends m m' → Below m'.next F → Makes m' (any f xs m')
any_made f m m' xs h x b = any_from_made f m m' xs F h x b

-- ---- clauses before

module _ (v : ℕ → Bool) (truth : v 0 ≡ true) where
  -- where the clauses with a test are true, those before were
  abbrev pub Backs : {X : Type 0} → (X → Made → Bit) → X → Type 0
  Backs f x = (m : Made) → Ok v (f x m).made → Ok v m

  pub any_back : {X : Type 0} (f : X → Made → Bit) (xs : List X) (r : Lit) (m : Made) → Each (Backs f) xs → Ok v (any_from f xs r m).made → Ok v m
  any_back f [] r m h ok = ok
  any_back f (x ∷ xs) r m (h, hs) ok =
      let e = f x m in
      let k = or r e.bit e.made in
      h m (or_gives v truth r e.bit e.made (any_back f xs k.bit k.made hs ok)).before

pub each_is : {X : Type 0} (P : X → Type 0) → ((x : X) → P x) → (xs : List X) → Each P xs
each_is P h [] = tt
each_is P h (x ∷ xs) = (h x, each_is P h xs)
