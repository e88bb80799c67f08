-- What words of pointers show.
use Rattle.std.proofs.Common.{◌≡◌, ℕ, zero, suc, ◌+◌, ◌≤◌, ◌<◌, Bool, true, false, if◌then◌else◌, pos, Some, refl, sym, ap, ◌∙◌, subst, List, [], ◌∷◌, ◌++◌, length, take, drop, arith}
use Rattle.std.specs.Prelude.{nat_eq, nat_le}
use Rattle.std.specs.Ordering.{int_eq}
use Rattle.std.proofs.lemmas.Int.{ints}
use Rattle.l2_gates.specs.Gates.{Lit, Made}
use Rattle.l2_gates.specs.Models.{both, value, Gives}
use Rattle.l2_gates.proofs.Values.{and_gives}
use Rattle.l2_circuits.specs.Words.{choose}
use Rattle.l2_circuit_laws.specs.Values.{values, number}
use Rattle.l2_circuit_laws.specs.Law.{picked}
use Rattle.l2_circuit_laws.specs.Shows.{Shows}
use Rattle.l2_circuit_laws.proofs.Products.{choose_gives, columns_size}
use Rattle.l2_circuit_laws.proofs.Shown.{same_of_length, length_of_same}
use Rattle.l2_circuit_laws.proofs.Choices.{choices_show}
use Rattle.l2_circuits.specs.declared.columns.Kind.TheVariants.{Choose}
use Rattle.l2_runs.specs.declared.cells.CellType.TheVariants.{Pointer}
use Rattle.l2_runs.specs.declared.cells.CellValue.{CellValue}
use Rattle.l2_runs.specs.declared.cells.CellValue.TheVariants.{Number, Null, Invalid, At}
use Rattle.l2_runs.specs.Fits.{Layout}
use Rattle.l2_runs.specs.Store.{Address}
use Rattle.l2_runs.specs.Back.{where_so, pointer_of}
use Rattle.l2_code.specs.WellFormed.{IsConstant}
use Rattle.l2_pointer_circuits.specs.Words.{selector, offset, half, pointer_word, is_half, at_bit, pick_word}
use Rattle.l2_pointer_circuits.specs.Shows.{pointer_at, ShowsPointer}
use Rattle.l2_pointer_circuits.specs.Law.{HalvesShow, PointersShow, PointerChoicesShow, is_at, IsPlace, PlacesAre, PicksAre}
use Rattle.l2_pointer_circuits.proofs.Halves.{selector_length, offset_length, selector_of_halves, offset_of_halves, half_shown, half_length, half_number, half_gives}
use Rattle.l2_pointer_circuits.proofs.Values.{at_is}

-- ---- two halves side by side

pub append_length : (a b : List Lit) → length (a ++ b) ≡ length a + length b
append_length [] b = omega arith
append_length (x ∷ a) b = let h = append_length a b in omega arith

pub halves_show_numbers : (v : ℕ → Bool) (s f : List Lit) → length s ≡ 17 → length f ≡ 17 → (k j : ℕ) → number (values v s) ≡ k → number (values v f) ≡ j → ShowsPointer v (s ++ f) (pointer_at k j)
halves_show_numbers v s f a b k j e g = record {
  size = append_length s f ∙ omega arith;
  is = (λ i. pointer_at ((ap (λ w. number (values v w)) (selector_of_halves s f a) ∙ e) i) ((ap (λ w. number (values v w)) (offset_of_halves s f a) ∙ g) i));
}

-- a pointer is that of its selector and its offset
pointer_is : (cells : Layout) (k j : ℕ) (x : CellValue) → pointer_of cells (pos k) (pos j) ≡ Some x → pointer_at k j ≡ x
pointer_is cells zero zero x e = go (int_eq (pos 0) (pos 0)) e
  where
    go : (b : Bool) → where_so Null b ≡ Some x → Null ≡ x
    go true e = cc
    go false e = cc
pointer_is cells zero (suc j) x e = go (int_eq (pos (suc j)) (pos 0)) (grind (arith, ints)) e
  where
    go : (b : Bool) → b ≡ false → where_so Null b ≡ Some x → At 131071 (suc j) ≡ x
    go true n e = cc
    go false n e = cc
pointer_is cells (suc zero) zero x e = go (int_eq (pos 0) (pos 0)) e
  where
    go : (b : Bool) → where_so Invalid b ≡ Some x → Invalid ≡ x
    go true e = cc
    go false e = cc
pointer_is cells (suc zero) (suc j) x e = go (int_eq (pos (suc j)) (pos 0)) (grind (arith, ints)) e
  where
    go : (b : Bool) → b ≡ false → where_so Invalid b ≡ Some x → At 0 (suc j) ≡ x
    go true n e = cc
    go false n e = cc
pointer_is cells (suc (suc n)) j x e = go (nat_le j (length (cells (suc n)))) e
  where
    go : (b : Bool) → where_so (At (suc n) j) b ≡ Some x → At (suc n) j ≡ x
    go true e = cc
    go false e = cc

pub halves_show : HalvesShow
halves_show v truth cells s f k j x a b p q e =
    subst (ShowsPointer v (s ++ f)) (pointer_is cells k j x e) (halves_show_numbers v s f p.size q.size k j (half_shown v s k a p) (half_shown v f j b q))

pub pointers_show : PointersShow
pointers_show v truth cells small x h = go x h
  where
    halves : (k j : ℕ) → k < 131072 → j < 131072 → ShowsPointer v (half k ++ half j) (pointer_at k j)
    halves k j a b = halves_show_numbers v (half k) (half j) (half_length v truth k) (half_length v truth j) k j (half_number v truth k a) (half_number v truth j b)

    at : (o f : ℕ) → 1 ≤ o → o ≤ 131070 → f < 131072 → ShowsPointer v (half (suc o) ++ half f) (At o f)
    at zero f a b c = absurd (omega arith)
    at (suc n) f a b c = halves (suc (suc n)) f (omega arith) c

    go : (x : CellValue) → IsConstant cells Pointer x → ShowsPointer v (pointer_word x) x
    go (Number z) h = absurd h
    go Null h = halves 0 0 (omega arith) (omega arith)
    go Invalid h = halves 1 0 (omega arith) (omega arith)
    go (At o f) (some, small_offset) = at o f (small.some o some) (small.few o some) small_offset

-- ---- choices

-- what a word shows depends on its values alone
same_values : (v : ℕ → Bool) (a b : List Lit) (x : CellValue) → length b ≡ length a → values v b ≡ values v a → ShowsPointer v a x → ShowsPointer v b x
same_values v a b x l e s = record {
  size = l ∙ s.size;
  is = (λ i. pointer_at (number (selectors i)) (number (offsets i))) ∙ s.is;
}
  where
    -- equal values of words in two parts have equal parts
    first_part : (n : ℕ) (a b : List Lit) → values v b ≡ values v a → values v (take n b) ≡ values v (take n a)
    first_part zero a b e = refl
    first_part (suc n) [] [] e = refl
    first_part (suc n) [] (y ∷ b) e = cc
    first_part (suc n) (x ∷ a) [] e = cc
    first_part (suc n) (x ∷ a) (y ∷ b) e = let h : value v y ≡ value v x = cc in let t : values v b ≡ values v a = cc in (λ i. h i ∷ first_part n a b t i)

    second_part : (n : ℕ) (a b : List Lit) → values v b ≡ values v a → values v (drop n b) ≡ values v (drop n a)
    second_part zero a b e = e
    second_part (suc n) [] [] e = refl
    second_part (suc n) [] (y ∷ b) e = cc
    second_part (suc n) (x ∷ a) [] e = cc
    second_part (suc n) (x ∷ a) (y ∷ b) e = let t : values v b ≡ values v a = cc in second_part n a b t

    selectors : values v (selector b) ≡ values v (selector a)
    selectors = first_part 17 a b e

    offsets : values v (offset b) ≡ values v (offset a)
    offsets = second_part 17 a b e

picked_pointer : (v : ℕ → Bool) (t : Bool) (a b bits : List Lit) (x y : CellValue) → length bits ≡ 34 → values v bits ≡ picked t (values v a) (values v b) → ShowsPointer v a x → ShowsPointer v b y → ShowsPointer v bits (picked t x y)
picked_pointer v true a b bits x y l e s t = same_values v a bits x (l ∙ sym s.size) e s
picked_pointer v false a b bits x y l e s t = same_values v b bits y (l ∙ sym t.size) e t

pub pointer_choices_show : PointerChoicesShow
pointer_choices_show v truth c a b x y m s t ok =
    let same = same_of_length a b (s.size ∙ sym t.size) in
    let r = choose_gives v truth c a b m same ok in
    let w = choose c a b m in
    let l = length_of_same w.bits a (columns_size Choose a b c m same) ∙ s.size in
    let shown = picked_pointer v (value v c) a b w.bits x y l r.is s t in
    record { before = r.before; size = l; shows = λ z e. subst (ShowsPointer v w.bits) (some_is (picked (value v c) x y) z e) shown }
  where
    some_is : (x z : CellValue) → Some x ≡ Some z → x ≡ z
    some_is x z e = cc

-- ---- places

module _ (v : ℕ → Bool) (truth : v 0 ≡ true) where
  pub at_gives : (p : Address) (a : List Lit) (m : Made) → IsPlace p → length a ≡ 34
      → Gives v m (both (nat_eq (number (values v (selector a))) (suc p.object)) (nat_eq (number (values v (offset a))) p.offset)) (at_bit p a m)
  unfolding at_bit
  at_gives p a m h e = λ ok.
      let s = is_half (suc p.object) (selector a) m in
      let o = is_half p.offset (offset a) s.made in
      let g = and_gives v truth s.bit o.bit o.made ok in
      let go = half_gives v truth p.offset (offset a) s.made h.offset_to (offset_length a e) g.before in
      let small : suc p.object < 131072 = (let t = h.object_to in omega arith) in
      let gs = half_gives v truth (suc p.object) (selector a) m small (selector_length a e) go.before in
      record { before = gs.before; is = g.is ∙ (λ i. both (gs.is i) (go.is i)) }

pub places_are : PlacesAre
places_are v truth p a x m h s = λ ok.
    let g = at_gives v truth p a m h s.size ok in
    record { before = g.before; is = g.is ∙ at_is p (number (values v (selector a))) (number (values v (offset a))) h ∙ ap (is_at p) s.is }

pub picks_are : PicksAre
picks_are v truth p a x m h s = record {
  numbers = λ n b c y z sb sc ok.
      (let e = at_bit p a m in
      let g = choices_show v truth n e.bit b c y z e.made sb sc ok in
      let r = places_are v truth p a x m h s g.before in
      record { before = r.before; shows = subst (Shows v n (pick_word p a b c m).bits) (ap (λ t. picked t y z) r.is ∙ picked_is (is_at p x) y z) g.shows });
  pointers = λ b c y z sb sc ok.
      (let e = at_bit p a m in
      let g = pointer_choices_show v truth e.bit b c y z e.made sb sc ok in
      let r = places_are v truth p a x m h s g.before in
      record { before = r.before; size = g.size; shows = λ w q. g.shows w (ap Some (ap (λ t. picked t y z) r.is ∙ picked_is (is_at p x) y z) ∙ q) });
}
  where
    picked_is : {X : Type 0} (t : Bool) (y z : X) → picked t y z ≡ (if t then y else z)
    picked_is true y z = refl
    picked_is false y z = refl
