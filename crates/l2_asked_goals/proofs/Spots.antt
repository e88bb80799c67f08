-- What a point says of the variables of rows, and where they stand.
use Rattle.std.proofs.Common.{◌≡◌, ℕ, zero, suc, ◌+◌, ◌≤◌, ◌<◌, Bool, true, false, ℤ, refl, sym, ap, ◌∙◌, subst, List, [], ◌∷◌, length, map, arith}
use Rattle.std.specs.List.{Contains}
use Rattle.l2_runs.specs.declared.cells.CellValue.TheVariants.{Number}
use Rattle.l2_templates.specs.declared.point.LoopPoint.{LoopPoint}
use Rattle.l2_code.specs.declared.action.Operand.{Operand}
use Rattle.l2_code.specs.declared.action.Operand.TheVariants.{Constant, Temp}
use Rattle.l2_code.specs.Values.{is_true}
use Rattle.l2_code.specs.Trees.{CodeTree}
use Rattle.l2_code.specs.Modes.{types_of}
use Rattle.l2_ssa.specs.Steps.{Step, Choose, Take, Half, Point, Among, Compute, Alive, Pick, Row, Lower, Apart, Both, But, Either, Merge, bit, values_of, IsBefore, AreBefore, InOrder}
use Rattle.l2_gates.specs.Gates.{F, same, Made, start}
use Rattle.l2_gates.specs.Models.{value, Ok, Below}
use Rattle.l2_gates.proofs.Bools.{by_test}
use Rattle.l2_blast.specs.Sorts.{Truth, sorts_of, AreNumbers, AreTyped}
use Rattle.l2_blast.specs.Words.{Env, name, first, literal, wide_words}
use Rattle.l2_blast_laws.specs.Law.{shown, solution, IsSized, WordsShow}
use Rattle.l2_blast_laws.specs.Behind.{behind, AreAsSaid}
use Rattle.l2_blast_laws.proofs.Given.{circuits}
use Rattle.l2_blast_laws.proofs.Envs.{name_below}
use Rattle.l2_blast_laws.proofs.Making.{F_below, first_below}
use Rattle.l2_blast_laws.proofs.Folds.{Folds, all_made, start_sound}
use Rattle.l2_blast_laws.proofs.Opening.{open_is_made}
use Rattle.l2_blast_laws.proofs.Solving.{Agree as SortsAgree, own_sorts, all_sorted, total, numbers_show_behind}
use Rattle.l2_grown_models.specs.Asking.{open_of, meaning_at}
use Rattle.l2_asked_goals.specs.Spots.{Spot, spots_of, AllAsSaid}

bit_is : (b : Bool) → is_true (bit b) ≡ b
bit_is true = refl
bit_is false = refl

same_bits : (a b : Bool) → bit a ≡ bit b → a ≡ b
same_bits a b e = sym (bit_is a) ∙ ap is_true e ∙ bit_is b

before_all : (n all : ℕ) (a : Operand) → n ≤ all → IsBefore n a → IsBefore all a
before_all n all (Constant x) l b = tt
before_all n all (Temp i) l b = omega (arith, l, b)

are_before : (n all : ℕ) (as' : List Operand) → n ≤ all → AreBefore n as' → AreBefore all as'
are_before n all [] l b = tt
are_before n all (a ∷ rest) l b = (before_all n all a l b.0, are_before n all rest l b.1)

-- the variable is there, and the values are those of numbers' names
pub record IsSpot (xs : List Step) (base : Made) (s : Spot) : Type 0 where
  pub own : Below base.next s.own
  pub before : AreBefore (length xs) s.vars
  pub numbers : AreNumbers (sorts_of xs) s.vars

abbrev pub AreSpots : List Step → Made → List Spot → Type 0
AreSpots xs base [] = Unit {0}
AreSpots xs base (s ∷ ss) = IsSpot xs base s × AreSpots xs base ss

pub spot_at : (xs : List Step) (base : Made) (ss : List Spot) → AreSpots xs base ss → (s : Spot) → Contains ss s → IsSpot xs base s
spot_at xs base [] h s (k, lt, is) = absurd (omega (arith, lt))
spot_at xs base (x ∷ ss) h s (zero, lt, is) = subst (IsSpot xs base) is h.0
spot_at xs base (x ∷ ss) h s (suc k, lt, is) = spot_at xs base ss h.1 s (k, omega (arith, lt), is)

module _ (c : CodeTree) (sized : IsSized (open_of c)) (xs : List Step) (r : InOrder 0 xs) (ty : AreTyped (types_of c) (sorts_of xs) xs) where
  abbrev env : Env
  env = (behind (open_of c) xs start).env

  abbrev base : Made
  base = (behind (open_of c) xs start).made

  folds : Folds start (behind (open_of c) xs start)
  folds = all_made circuits (open_of c) open_is_made xs [] start (start_sound circuits (open_of c) open_is_made) tt

  own_below : (n : ℕ) → Below base.next (first (name env n).bits)
  own_below n = first_below base.next (name env n).bits (F_below base folds.extends.sound) (name_below base.next env n folds.below)

  pub numbers : (v : ℕ → Bool) → v 0 ≡ true → Ok v base → (vars : List Operand) → AreBefore (length xs) vars → AreNumbers (sorts_of xs) vars
      → (zs : List ℤ) × (values_of (solution env v) vars ≡ map Number zs) × WordsShow v (wide_words env vars) zs
  numbers v one ok vars b h = numbers_show_behind circuits (open_of c) sized open_is_made start (start_sound circuits (open_of c) open_is_made) xs r ty v one ok vars b h

  own_shown : (v : ℕ → Bool) → v 0 ≡ true → Ok v base → (n : ℕ) → n < length xs → sorts_of xs n ≡ Truth 1 → solution env v n ≡ bit (value v (first (name env n).bits))
  own_shown v one ok n l e =
      ap (λ k. shown v k (name env n).bits) (all_sorted circuits (open_of c) sized open_is_made start (start_sound circuits (open_of c) open_is_made) xs r ty v one ok n
      (let z = total circuits (open_of c) sized open_is_made start (start_sound circuits (open_of c) open_is_made) xs r ty v one ok in omega (arith, l, z)) ∙ e)

  -- ---- where the variables are

  spots_there : (ys : List Step) (n : ℕ) → InOrder n ys → AreTyped (types_of c) (sorts_of xs) ys → n + length ys ≡ length xs → AreSpots xs base (spots_of env n ys)
  spots_there [] n o h e = tt
  spots_there (Row g l i vars ∷ ys) n o h e =
      let rest = spots_there ys (suc n) o.1 h.1 (omega (arith, e)) in
      by_test (AreSpots xs base) (same (literal env g) F) (spots_of env (suc n) ys) _ (λ t. rest)
      (λ t. (record { own = own_below n; before = are_before n (length xs) vars (omega (arith, e)) o.0.1; numbers = h.0.1 }, rest))
  spots_there (Lower g l old now ∷ ys) n o h e =
      let rest = spots_there ys (suc n) o.1 h.1 (omega (arith, e)) in
      by_test (AreSpots xs base) (same (literal env g) F) (spots_of env (suc n) ys) _ (λ t. rest) (λ t. (record { own = own_below n; before = tt; numbers = tt }, rest))
  spots_there (Choose g ∷ ys) n o h e = spots_there ys (suc n) o.1 h.1 (omega (arith, e))
  spots_there (Take g ty' ∷ ys) n o h e = spots_there ys (suc n) o.1 h.1 (omega (arith, e))
  spots_there (Half g ∷ ys) n o h e = spots_there ys (suc n) o.1 h.1 (omega (arith, e))
  spots_there (Point g p q ∷ ys) n o h e = spots_there ys (suc n) o.1 h.1 (omega (arith, e))
  spots_there (Among g p q set ∷ ys) n o h e = spots_there ys (suc n) o.1 h.1 (omega (arith, e))
  spots_there (Compute g z set ∷ ys) n o h e = spots_there ys (suc n) o.1 h.1 (omega (arith, e))
  spots_there (Alive g p flags ∷ ys) n o h e = spots_there ys (suc n) o.1 h.1 (omega (arith, e))
  spots_there (Pick g p q i ty' z w ∷ ys) n o h e = spots_there ys (suc n) o.1 h.1 (omega (arith, e))
  spots_there (Apart g p q ∷ ys) n o h e = spots_there ys (suc n) o.1 h.1 (omega (arith, e))
  spots_there (Both p q ∷ ys) n o h e = spots_there ys (suc n) o.1 h.1 (omega (arith, e))
  spots_there (But p q ∷ ys) n o h e = spots_there ys (suc n) o.1 h.1 (omega (arith, e))
  spots_there (Either p q ∷ ys) n o h e = spots_there ys (suc n) o.1 h.1 (omega (arith, e))
  spots_there (Merge g i ty' p q ∷ ys) n o h e = spots_there ys (suc n) o.1 h.1 (omega (arith, e))

  pub all_there : AreSpots xs base (spots_of env 0 xs)
  all_there = spots_there xs 0 r ty (omega arith)

  -- ---- what a point says

  module _ (q : List LoopPoint) (v : ℕ → Bool) (one : v 0 ≡ true) (ok : Ok v base) where
    abbrev Said : ℕ → List Step → Type 0
    Said n ys = AreAsSaid (meaning_at c q) env (solution env v) n ys

    to_spots : (ys : List Step) (n : ℕ) → AreTyped (types_of c) (sorts_of xs) ys → SortsAgree (sorts_of xs) n ys → n + length ys ≡ length xs → Said n ys → AllAsSaid c q env v (spots_of env n ys)
    to_spots [] n h a e s = tt
    to_spots (Row g l i vars ∷ ys) n h a e s =
        let rest = to_spots ys (suc n) h.1 a.1 (omega (arith, e)) s.1 in
        by_test (AllAsSaid c q env v) (same (literal env g) F) (spots_of env (suc n) ys) _ (λ t. rest)
        (λ t. (same_bits _ _ (sym (own_shown v one ok n (omega (arith, e)) a.0) ∙ s.0 t), rest))
    to_spots (Lower g l old now ∷ ys) n h a e s =
        let rest = to_spots ys (suc n) h.1 a.1 (omega (arith, e)) s.1 in
        by_test (AllAsSaid c q env v) (same (literal env g) F) (spots_of env (suc n) ys) _ (λ t. rest)
        (λ t. (same_bits _ _ (sym (own_shown v one ok n (omega (arith, e)) a.0) ∙ s.0 t), rest))
    to_spots (Choose g ∷ ys) n h a e s = to_spots ys (suc n) h.1 a.1 (omega (arith, e)) s.1
    to_spots (Take g ty' ∷ ys) n h a e s = to_spots ys (suc n) h.1 a.1 (omega (arith, e)) s.1
    to_spots (Half g ∷ ys) n h a e s = to_spots ys (suc n) h.1 a.1 (omega (arith, e)) s.1
    to_spots (Point g p q' ∷ ys) n h a e s = to_spots ys (suc n) h.1 a.1 (omega (arith, e)) s.1
    to_spots (Among g p q' set ∷ ys) n h a e s = to_spots ys (suc n) h.1 a.1 (omega (arith, e)) s.1
    to_spots (Compute g z set ∷ ys) n h a e s = to_spots ys (suc n) h.1 a.1 (omega (arith, e)) s.1
    to_spots (Alive g p flags ∷ ys) n h a e s = to_spots ys (suc n) h.1 a.1 (omega (arith, e)) s.1
    to_spots (Pick g p q' i ty' z w ∷ ys) n h a e s = to_spots ys (suc n) h.1 a.1 (omega (arith, e)) s.1
    to_spots (Apart g p q' ∷ ys) n h a e s = to_spots ys (suc n) h.1 a.1 (omega (arith, e)) s.1
    to_spots (Both p q' ∷ ys) n h a e s = to_spots ys (suc n) h.1 a.1 (omega (arith, e)) s.1
    to_spots (But p q' ∷ ys) n h a e s = to_spots ys (suc n) h.1 a.1 (omega (arith, e)) s.1
    to_spots (Either p q' ∷ ys) n h a e s = to_spots ys (suc n) h.1 a.1 (omega (arith, e)) s.1
    to_spots (Merge g i ty' p q' ∷ ys) n h a e s = to_spots ys (suc n) h.1 a.1 (omega (arith, e)) s.1

    from_spots : (ys : List Step) (n : ℕ) → AreTyped (types_of c) (sorts_of xs) ys → SortsAgree (sorts_of xs) n ys → n + length ys ≡ length xs → AllAsSaid c q env v (spots_of env n ys) → Said n ys
    from_spots [] n h a e s = tt
    from_spots (Row g l i vars ∷ ys) n h a e s =
        by_test (λ ss. AllAsSaid c q env v ss → Said n (Row g l i vars ∷ ys)) (same (literal env g) F) (spots_of env (suc n) ys) _
        (λ t d. ((λ p. absurd (cc)), from_spots ys (suc n) h.1 a.1 (omega (arith, e)) d))
        (λ t d. ((λ p. own_shown v one ok n (omega (arith, e)) a.0 ∙ ap bit d.0), from_spots ys (suc n) h.1 a.1 (omega (arith, e)) d.1)) s
    from_spots (Lower g l old now ∷ ys) n h a e s =
        by_test (λ ss. AllAsSaid c q env v ss → Said n (Lower g l old now ∷ ys)) (same (literal env g) F) (spots_of env (suc n) ys) _
        (λ t d. ((λ p. absurd (cc)), from_spots ys (suc n) h.1 a.1 (omega (arith, e)) d))
        (λ t d. ((λ p. own_shown v one ok n (omega (arith, e)) a.0 ∙ ap bit d.0), from_spots ys (suc n) h.1 a.1 (omega (arith, e)) d.1)) s
    from_spots (Choose g ∷ ys) n h a e s = (tt, from_spots ys (suc n) h.1 a.1 (omega (arith, e)) s)
    from_spots (Take g ty' ∷ ys) n h a e s = (tt, from_spots ys (suc n) h.1 a.1 (omega (arith, e)) s)
    from_spots (Half g ∷ ys) n h a e s = (tt, from_spots ys (suc n) h.1 a.1 (omega (arith, e)) s)
    from_spots (Point g p q' ∷ ys) n h a e s = (tt, from_spots ys (suc n) h.1 a.1 (omega (arith, e)) s)
    from_spots (Among g p q' set ∷ ys) n h a e s = (tt, from_spots ys (suc n) h.1 a.1 (omega (arith, e)) s)
    from_spots (Compute g z set ∷ ys) n h a e s = (tt, from_spots ys (suc n) h.1 a.1 (omega (arith, e)) s)
    from_spots (Alive g p flags ∷ ys) n h a e s = (tt, from_spots ys (suc n) h.1 a.1 (omega (arith, e)) s)
    from_spots (Pick g p q' i ty' z w ∷ ys) n h a e s = (tt, from_spots ys (suc n) h.1 a.1 (omega (arith, e)) s)
    from_spots (Apart g p q' ∷ ys) n h a e s = (tt, from_spots ys (suc n) h.1 a.1 (omega (arith, e)) s)
    from_spots (Both p q' ∷ ys) n h a e s = (tt, from_spots ys (suc n) h.1 a.1 (omega (arith, e)) s)
    from_spots (But p q' ∷ ys) n h a e s = (tt, from_spots ys (suc n) h.1 a.1 (omega (arith, e)) s)
    from_spots (Either p q' ∷ ys) n h a e s = (tt, from_spots ys (suc n) h.1 a.1 (omega (arith, e)) s)
    from_spots (Merge g i ty' p q' ∷ ys) n h a e s = (tt, from_spots ys (suc n) h.1 a.1 (omega (arith, e)) s)

    pub spots_said : Said 0 xs → AllAsSaid c q env v (spots_of env 0 xs)
    spots_said s = to_spots xs 0 ty (own_sorts xs) (omega arith) s

    pub said_spots : AllAsSaid c q env v (spots_of env 0 xs) → Said 0 xs
    said_spots s = from_spots xs 0 ty (own_sorts xs) (omega arith) s
