-- Tests made one after another, as far as they have come.
use Rattle.std.proofs.Common.{◌≡◌, ℕ, suc, ◌+◌, ◌<◌, ◌&&◌, Bool, true, false, if◌then◌else◌, refl, sym, ap, ◌∙◌, List, [], ◌∷◌, length, get_or, drop, add-one, arith}
use Rattle.std.proofs.lemmas.List.{drop_more}
use Rattle.l2_gates.specs.Gates.{Lit, Made, Bit}
use Rattle.l2_runs.specs.declared.cells.CellType.{CellType}
use Rattle.l2_runs.specs.declared.member.Member.{Member}
use Rattle.l2_runs.specs.declared.member.Member.TheVariants.{Null, Invalid, Object}
use Rattle.l2_runs.specs.Fits.{Layout}
use Rattle.l2_runs.specs.Store.{Address}
use Rattle.l2_code.specs.Values.{same_type, begins_with}
use Rattle.l2_pointer_circuits.specs.Tests.{any_from, objects, place, places_from, places}
use Rattle.l2_pointer_circuits.proofs.Anys.{any_append}

-- one step more of a circuit that goes through members
one_more : (W : List Member → Lit → Made → Bit) → ((x : Member) (rest : List Member) (r : Lit) (m : Made) → W (x ∷ rest) r m ≡ W rest (W (x ∷ []) r m).bit (W (x ∷ []) r m).made)
    → (set : List Member) (i : ℕ) (x d : Member) (low bit : Lit) (old new : Made) (whole : Bit) → i < length set → x ≡ get_or set i d → bit ≡ (W (x ∷ []) low old).bit → new ≡ (W (x ∷ []) low old).made
    → W (drop i set) low old ≡ whole → W (drop (i + 1) set) bit new ≡ whole
one_more W first set i x d low bit old new whole h is eb em inv =
    (λ j. W (drop (i + 1) set) (eb j) (em j))
    ∙ sym (first x (drop (i + 1) set) low old)
    ∙ ap (λ y. W (y ∷ drop (i + 1) set) low old) is
    ∙ ap (λ l. W l low old) (sym (drop_more set i d h))
    ∙ inv

pub more_places : (f : Address → Made → Bit) (cells : Layout) (types : List CellType) (set : List Member) (i : ℕ) (x d : Member) (low bit : Lit) (old new : Made) (whole : Bit) → i < length set → x ≡ get_or set i d
    → bit ≡ (any_from f (places cells types (objects (x ∷ []))) low old).bit → new ≡ (any_from f (places cells types (objects (x ∷ []))) low old).made
    → any_from f (places cells types (objects (drop i set))) low old ≡ whole → any_from f (places cells types (objects (drop (i + 1) set))) bit new ≡ whole
more_places f cells types = one_more (λ xs r m. any_from f (places cells types (objects xs)) r m) first
  where
    first : (x : Member) (rest : List Member) (r : Lit) (m : Made)
        → any_from f (places cells types (objects (x ∷ rest))) r m ≡ any_from f (places cells types (objects rest)) (any_from f (places cells types (objects (x ∷ []))) r m).bit (any_from f (places cells types (objects (x ∷ []))) r m).made
    first Null rest r m = refl
    first Invalid rest r m = refl
    first (Object o) rest r m =
        let here = places_from types o 0 (cells o) in
        any_append f here (places cells types (objects rest)) r m
        ∙ ap (λ b. any_from f (places cells types (objects rest)) b.bit b.made) (sym (any_append f here [] r m))

-- one place more
pub more_cells : (f : Address → Made → Bit) (types : List CellType) (o i : ℕ) (cells : List CellType) (c : CellType) (stands : Bool) (low bit : Lit) (old new : Made) (whole : Bit) → i < length cells
    → stands ≡ begins_with types (drop i cells)
    → bit ≡ (any_from f (if stands then place o i ∷ [] else []) low old).bit → new ≡ (any_from f (if stands then place o i ∷ [] else []) low old).made
    → any_from f (places_from types o i (drop i cells)) low old ≡ whole → any_from f (places_from types o (i + 1) (drop (i + 1) cells)) bit new ≡ whole
more_cells f types o i cells c stands low bit old new whole h st eb em inv =
    let rest = places_from types o (suc i) (drop (i + 1) cells) in
    let here = λ (b : Bool). any_from f (if b then place o i ∷ [] else []) low old in
    let split = drop_more cells i c h in
    let first = begins_with types (get_or cells i c ∷ drop (i + 1) cells) in
    (λ j. any_from f (places_from types o (add-one i j) (drop (i + 1) cells)) (eb j) (em j))
    ∙ ap (λ b. any_from f rest (here b).bit (here b).made) (st ∙ ap (begins_with types) split)
    ∙ sym (any_append f (if first then place o i ∷ [] else []) rest low old)
    ∙ ap (λ l. any_from f (places_from types o i l) low old) (sym split)
    ∙ inv

-- a longer list begins no shorter one
pub too_long : (types cells : List CellType) → length cells < length types → false ≡ begins_with types cells
too_long [] cells h = absurd (omega arith)
too_long (t ∷ types) [] h = refl
too_long (t ∷ types) (c ∷ cells) h = go (same_type t c) (too_long types cells (omega arith))
  where
    go : (b : Bool) → false ≡ begins_with types cells → false ≡ (b && begins_with types cells)
    go true e = e
    go false e = refl
