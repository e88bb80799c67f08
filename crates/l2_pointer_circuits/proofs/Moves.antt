-- Moves of pointers.
use Rattle.std.proofs.Common.{◌≡◌, ℕ, zero, suc, ◌+◌, ◌*◌, ◌^◌, ◌≤◌, ◌<◌, Bool, true, false, not, if◌then◌else◌, ℤ, pos, negsuc, ◌+ℤ◌, ◌*ℤ◌, int_lt, unsigned_abs, Some, None, refl, sym, ap, ◌∙◌, subst, List, [], ◌∷◌, ◌++◌, length, arith}
use Rattle.std.specs.Prelude.{nat_eq, nat_le}
use Rattle.std.proofs.lemmas.Int.{ints, unsigned_abs-mul}
use Rattle.std.proofs.lemmas.Nat.{mul-le}
use Rattle.std.proofs.lemmas.Bool.Decides.{nat_tests}
use Rattle.std.proofs.Math.Nat.{mod-eq_of_lt}
use Rattle.l2_gates.specs.Gates.{Lit, T, F, Made, negated, and}
use Rattle.l2_gates.specs.Models.{both, value, Ok}
use Rattle.l2_gates.proofs.Values.{negated_value, and_gives}
use Rattle.l2_circuits.specs.declared.columns.Kind.TheVariants.{Add, Equal}
use Rattle.l2_circuits.specs.Words.{resized, sum, lts, eq, top_negated, negated_word}
use Rattle.l2_circuits.specs.Products.{mul}
use Rattle.l2_circuit_laws.specs.Values.{values, bit_number, number}
use Rattle.l2_circuit_laws.specs.Shows.{Shows, Gains, IsSigned}
use Rattle.l2_circuit_laws.proofs.Columns.{columns_add}
use Rattle.l2_circuit_laws.proofs.Shown.{sums_show, products_show}
use Rattle.l2_circuit_laws.proofs.Signed.{less_shows}
use Rattle.l2_circuit_laws.proofs.Constants.{constants_show, extensions_show}
use Rattle.l2_runs.specs.declared.cells.CellValue.{CellValue}
use Rattle.l2_runs.specs.declared.cells.CellValue.TheVariants.{Number, At}
use Rattle.l2_runs.specs.declared.member.Member.{Member}
use Rattle.l2_runs.specs.declared.member.Member.TheVariants as member
use Rattle.l2_runs.specs.Members.{has, targets, Within}
use Rattle.l2_runs.specs.Fits.{Layout}
use Rattle.l2_code.specs.Values.{place_in, moved, is_some}
use Rattle.l2_code.specs.WellFormed.{IsFactor, IsWhole}
use Rattle.l2_pointer_circuits.specs.Words.{selector, offset, half, is_half, factor, extended_offset, moved_offset, low_half}
use Rattle.l2_pointer_circuits.specs.Tests.{objects, long, within_bit}
use Rattle.l2_pointer_circuits.specs.Shows.{pointer_at, ShowsPointer, IsSmall, HaveCells}
use Rattle.l2_pointer_circuits.specs.Law.{MovesShow, MovesAre}
use Rattle.l2_pointer_circuits.proofs.Halves.{selector_length, offset_length, under_half, half_shows, half_gives}
use Rattle.l2_pointer_circuits.proofs.Values.{zero_suc, apart, itself, IsReal}
use Rattle.l2_pointer_circuits.proofs.Anys.{some_from, each_map, each_is, some_none, Tells, any_gives, Backs, any_back}
use Rattle.l2_pointer_circuits.proofs.Shown.{append_length, halves_show_numbers}
use Rattle.l2_pointer_circuits.proofs.Sets.{IsObjectNumber, object_numbers, real_of, hits}

-- ---- how far a move reaches

abs_factor : (z : ℤ) → IsFactor z → unsigned_abs z ≤ 65536
abs_factor (pos n) (a, b) = omega (arith, ints)
abs_factor (negsuc n) (a, b) = omega (arith, ints)

abs_whole : (z : ℤ) → IsWhole (Number z) → unsigned_abs z ≤ 18446744073709551616
abs_whole (pos n) (a, b) = omega (arith, ints)
abs_whole (negsuc n) (a, b) = omega (arith, ints)

product_small : (n by : ℤ) → IsWhole (Number n) → IsFactor by → unsigned_abs (n *ℤ by) ≤ 18446744073709551616 * 65536
product_small n by h k = subst (λ z. z ≤ 18446744073709551616 * 65536) (sym (unsigned_abs-mul n by)) (mul-le (unsigned_abs n) (unsigned_abs by) 18446744073709551616 65536 (abs_whole n h) (abs_factor by k))

wide : (f : ℕ) (y : ℤ) → f < 131072 → unsigned_abs y ≤ 18446744073709551616 * 65536 → IsSigned 96 (pos f +ℤ y)
wide f (pos n) h k = record { from = omega (arith, ints); to = omega (arith, ints) }
wide f (negsuc n) h k = record { from = omega (arith, ints); to = omega (arith, ints) }

wide_number : (n : ℕ) → n ≤ 65536 → IsSigned 96 (pos n)
wide_number n h = record { from = omega (arith, ints); to = omega (arith, ints) }

turned_sum : (f : ℕ) (y : ℤ) → y +ℤ pos f ≡ pos f +ℤ y
turned_sum f y = omega (arith, ints)

-- ---- words that are cut

joined : (x n m p q t : ℕ) → q ≡ 2 * p → n ≡ m + p * t → x + 2 * n ≡ x + 2 * m + q * t
joined x n m p q t e f = let k : q * t ≡ 2 * (p * t) = ap (λ z. z * t) e ∙ grind arith in omega arith

cut_is : (v : ℕ → Bool) (k : ℕ) (a : List Lit) → k ≤ length a → (t : ℕ) × (number (values v a) ≡ number (values v (resized k F a)) + 2 ^ k * t)
cut_is v zero a h = (number (values v a), omega arith)
cut_is v (suc k) [] h = absurd (omega arith)
cut_is v (suc k) (x ∷ a) h =
    let r = cut_is v k a (omega arith) in
    (r.0, joined (bit_number (value v x)) (number (values v a)) (number (values v (resized k F a))) (2 ^ k) (2 ^ suc k) r.0 (grind arith) r.1)

pub resized_length : (k : ℕ) (fill : Lit) (a : List Lit) → length (resized k fill a) ≡ k
resized_length zero fill a = refl
resized_length (suc k) fill [] = ap suc (resized_length k fill [])
resized_length (suc k) fill (x ∷ a) = ap suc (resized_length k fill a)

low_length : (a : List Lit) → length (low_half a) ≡ 17
unfolding low_half
low_length a = resized_length 17 F a

-- the lowest 17 bits of a number of 96 bits
cut_half : (v : ℕ → Bool) (a : List Lit) (g : ℕ) → g ≤ 65536 → Shows v 96 a (pos g) → number (values v (low_half a)) ≡ g
unfolding low_half
cut_half v a g h s =
    let r = cut_is v 17 a (let e = s.size in omega arith) in
    let low = number (values v (resized 17 F a)) in
    let small : low < 131072 = under_half v (resized 17 F a) (resized_length 17 F a) in
    let whole : number (values v a) ≡ g = s.number ∙ mod-eq_of_lt (omega arith) in
    few low r.0 g small h (sym r.1 ∙ whole)
  where
    few : (low t g : ℕ) → low < 131072 → g ≤ 65536 → low + 131072 * t ≡ g → low ≡ g
    few low zero g a b e = omega arith
    few low (suc t) g a b e = absurd (omega arith)

-- ---- where a moved pointer lies

abbrev pub lies_in : Layout → ℤ → ℕ → Bool
lies_in cells x o = both (not (int_lt x (pos 0))) (not (int_lt (pos (length (cells o))) x))

lands : (cells : Layout) (o : ℕ) (x : ℤ) → lies_in cells x o ≡ is_some (place_in o (length (cells o)) x)
lands cells o (pos f) = ap (λ b. both (not b) (not (int_lt (pos (length (cells o))) (pos f)))) low ∙ go (nat_le f (length (cells o))) refl
  where
    low : int_lt (pos f) (pos 0) ≡ false
    low = grind (arith, ints)

    go : (b : Bool) → nat_le f (length (cells o)) ≡ b → not (int_lt (pos (length (cells o))) (pos f)) ≡ is_some (if nat_le f (length (cells o)) then Some (At o f) else None)
    go true e =
        let l : f ≤ length (cells o) = grind (arith, nat_tests) in
        let n : int_lt (pos (length (cells o))) (pos f) ≡ false = grind (arith, ints) in
        ap not n ∙ sym (ap (λ b. is_some (if b then Some (At o f) else None)) e)
    go false e =
        let l : length (cells o) < f = grind (arith, nat_tests) in
        let n : int_lt (pos (length (cells o))) (pos f) ≡ true = grind (arith, ints) in
        ap not n ∙ sym (ap (λ b. is_some (if b then Some (At o f) else None)) e)
lands cells o (negsuc f) = ap (λ b. both (not b) (not (int_lt (pos (length (cells o))) (negsuc f)))) low
  where
    low : int_lt (negsuc f) (pos 0) ≡ true
    low = grind (arith, ints)

moves_are_so : (cells : Layout) → IsSmall cells → (set : List Member) → HaveCells cells set → (by n : ℤ) (s f : ℕ) → IsReal (pointer_at s f) → Within (targets (pointer_at s f)) (has set)
    → some_from (λ o. both (nat_eq s (suc o)) (lies_in cells (pos f +ℤ n *ℤ by) o)) false (objects set) ≡ is_some (moved cells by (pointer_at s f) (Number n))
moves_are_so cells small set have by n zero zero r w =
    some_none (λ o. both (nat_eq 0 (suc o)) (lies_in cells (pos 0 +ℤ n *ℤ by) o)) false (objects set)
    (each_map IsObjectNumber (λ o. both (nat_eq 0 (suc o)) (lies_in cells (pos 0 +ℤ n *ℤ by) o) ≡ false) (λ o h. ap (λ b. both b (lies_in cells (pos 0 +ℤ n *ℤ by) o)) (zero_suc o)) (objects set) (object_numbers cells small set have))
moves_are_so cells small set have by n zero (suc f) r w = absurd (let h = r.1 in omega arith)
moves_are_so cells small set have by n (suc zero) zero r w =
    some_none (λ o. both (nat_eq 1 (suc o)) (lies_in cells (pos 0 +ℤ n *ℤ by) o)) false (objects set)
    (each_map IsObjectNumber (λ o. both (nat_eq 1 (suc o)) (lies_in cells (pos 0 +ℤ n *ℤ by) o) ≡ false) (λ o h. ap (λ b. both b (lies_in cells (pos 0 +ℤ n *ℤ by) o)) (apart 1 (suc o) (let k = h.from in omega arith))) (objects set) (object_numbers cells small set have))
moves_are_so cells small set have by n (suc zero) (suc f) r w = absurd (let h = r.0 in omega arith)
moves_are_so cells small set have by n (suc (suc k)) f r w =
    hits (suc k) (lies_in cells (pos f +ℤ n *ℤ by)) false set
    ∙ ap (λ b. both b (lies_in cells (pos f +ℤ n *ℤ by) (suc k))) (w (member.Object (suc k)) (itself (suc k)))
    ∙ lands cells (suc k) (pos f +ℤ n *ℤ by)

-- ---- circuits

module _ (v : ℕ → Bool) (truth : v 0 ≡ true) where
  pub extended_shows : (k : ℕ) (a : List Lit) → 17 ≤ k → length a ≡ 34 → Shows v k (extended_offset k a) (pos (number (values v (offset a))))
  unfolding extended_offset
  extended_shows k a h e =
      let l = offset_length a e in
      let small = under_half v (offset a) l in
      extensions_show v truth false 17 k (offset a) (pos (number (values v (offset a)))) (omega arith) h (record { from = omega (arith, ints); to = omega (arith, ints) }) (half_shows v (offset a) l)

  factor_shows : (by : ℤ) → Shows v 96 (factor by) by
  unfolding factor
  factor_shows by = constants_show v truth 96 by

  offset_gains : (by n : ℤ) (a b : List Lit) (m : Made) → length a ≡ 34 → Shows v 96 b n → Ok v (moved_offset by a b m).made
      → Gains v m 96 (moved_offset by a b m).bits (pos (number (values v (offset a))) +ℤ n *ℤ by)
  unfolding moved_offset
  offset_gains by n a b m e s ok =
      let p = mul b (factor by) m in
      let from = extended_offset 96 a in
      let O = number (values v (offset a)) in
      let okp = (columns_add v truth Add p.bits from F p.made ok).before in
      let gp = products_show v truth 96 b (factor by) n by m s (factor_shows by) okp in
      let gs = sums_show v truth 96 p.bits from (n *ℤ by) (pos O) p.made gp.shows (extended_shows 96 a (omega arith) e) ok in
      record { before = gp.before; shows = subst (Shows v 96 (sum p.bits from F p.made).bits) (turned_sum O (n *ℤ by)) gs.shows }

  long_shows : (k : ℕ) → Shows v 96 (long k) (pos k)
  unfolding long
  long_shows k = constants_show v truth 96 (pos k)

  within_gives : (cells : Layout) → IsSmall cells → (a x : List Lit) (z : ℤ) → length a ≡ 34 → IsSigned 96 z → Shows v 96 x z → (o : ℕ) → IsObjectNumber o
      → Tells v truth (within_bit cells a x) (λ o. both (nat_eq (number (values v (selector a))) (suc o)) (lies_in cells z o)) o
  unfolding within_bit
  within_gives cells small a x z e fit s o h = λ m ok.
      let c = length (cells o) in
      let n = is_half (suc o) (selector a) m in
      let l = lts x (long 0) n.made in
      let u = lts (long c) x l.made in
      let k = and (negated l.bit) (negated u.bit) u.made in
      let g = and_gives v truth n.bit k.bit k.made ok in
      let gk = and_gives v truth (negated l.bit) (negated u.bit) u.made g.before in
      let gu = less_shows v truth true 96 (long c) x (pos c) z l.made (omega arith) (wide_number c (small.short o)) fit (long_shows c) s gk.before in
      let gl = less_shows v truth true 96 x (long 0) z (pos 0) n.made (omega arith) fit (wide_number 0 (omega arith)) s (long_shows 0) gu.before in
      let few : suc o < 131072 = (let t = h.to in omega arith) in
      let gn = half_gives v truth (suc o) (selector a) m few (selector_length a e) gl.before in
      record {
        before = gn.before;
        is = g.is ∙ (λ i. both (gn.is i) ((gk.is ∙ (λ j. both ((negated_value v l.bit ∙ ap not gl.is) j) ((negated_value v u.bit ∙ ap not gu.is) j))) i));
      }

  -- clauses before
  eq_back : (a b : List Lit) (m : Made) → Ok v (eq a b m).made → Ok v m
  eq_back a b m ok = (columns_add v truth Equal a b T m ok).before

  lts_back : (a b : List Lit) (m : Made) → Ok v (lts a b m).made → Ok v m
  lts_back a b m ok = (columns_add v truth Add (top_negated a) (negated_word (top_negated b)) T m ok).before

  within_back : (cells : Layout) (a x : List Lit) (o : ℕ) → Backs v truth (within_bit cells a x) o
  unfolding within_bit
  within_back cells a x o m ok =
      let c = length (cells o) in
      let n = is_half (suc o) (selector a) m in
      let l = lts x (long 0) n.made in
      let u = lts (long c) x l.made in
      let k = and (negated l.bit) (negated u.bit) u.made in
      let g = and_gives v truth n.bit k.bit k.made ok in
      let gk = and_gives v truth (negated l.bit) (negated u.bit) u.made g.before in
      eq_back (selector a) (half (suc o)) m (lts_back x (long 0) n.made (lts_back (long c) x l.made gk.before))

-- ---- the laws

pub moves_law : MovesAre
moves_law v truth cells small set have by n a b x m hb hn s sb w = λ ok.
    let S = number (values v (selector a)) in
    let O = number (values v (offset a)) in
    let y = moved_offset by a b m in
    let z = pos O +ℤ n *ℤ by in
    let test = within_bit cells a y.bits in
    let fit = wide O (n *ℤ by) (under_half v (offset a) (offset_length a s.size)) (product_small n by hn hb) in
    let oky = any_back v truth test (objects set) F y.made (each_is (Backs v truth test) (within_back v truth cells a y.bits) (objects set)) ok in
    let gy = offset_gains v truth by n a b m s.size sb oky in
    let says = λ (o : ℕ). both (nat_eq S (suc o)) (lies_in cells z o) in
    let tells = each_map IsObjectNumber (Tells v truth test says) (within_gives v truth cells small a y.bits z s.size fit gy.shows) (objects set) (object_numbers cells small set have) in
    let g = any_gives v truth test says (objects set) y.made tells ok in
    let real = subst IsReal (sym s.is) (real_of cells small set have x w) in
    let wp = subst (λ q. Within (targets q) (has set)) (sym s.is) w in
    record { before = gy.before; is = g.is ∙ moves_are_so cells small set have by n S O real wp ∙ ap (λ q. is_some (moved cells by q (Number n))) s.is }

-- a place where a move ends
pub record Ends (cells : Layout) (o : ℕ) (z : ℤ) (y : CellValue) : Type 0 where
  pub offset : ℕ
  pub is : z ≡ pos offset
  pub within : offset ≤ length (cells o)
  pub at : At o offset ≡ y

ends_at : (cells : Layout) (o : ℕ) (z : ℤ) (y : CellValue) → place_in o (length (cells o)) z ≡ Some y → Ends cells o z y
ends_at cells o (pos f) y e = go (nat_le f (length (cells o))) refl e
  where
    go : (b : Bool) → nat_le f (length (cells o)) ≡ b → (if b then Some (At o f) else None) ≡ Some y → Ends cells o (pos f) y
    go true q e = record { offset = f; is = refl; within = grind (arith, nat_tests); at = cc }
    go false q e = cc
ends_at cells o (negsuc f) y e = cc

module _ (v : ℕ → Bool) (truth : v 0 ≡ true) where
  moved_shows : (cells : Layout) → IsSmall cells → (by n : ℤ) (a x : List Lit) (s f : ℕ) (y : CellValue) → IsReal (pointer_at s f) → length a ≡ 34 → number (values v (selector a)) ≡ s
      → Shows v 96 x (pos f +ℤ n *ℤ by) → moved cells by (pointer_at s f) (Number n) ≡ Some y → ShowsPointer v (selector a ++ low_half x) y
  moved_shows cells small by n a x zero zero y r l e s q = cc
  moved_shows cells small by n a x zero (suc f) y r l e s q = absurd (let h = r.1 in omega arith)
  moved_shows cells small by n a x (suc zero) zero y r l e s q = cc
  moved_shows cells small by n a x (suc zero) (suc f) y r l e s q = absurd (let h = r.0 in omega arith)
  moved_shows cells small by n a x (suc (suc k)) f y r l e s q =
      let d = ends_at cells (suc k) (pos f +ℤ n *ℤ by) y q in
      let low : d.offset ≤ 65536 = (let h = d.within in let g = small.short (suc k) in omega arith) in
      let c = cut_half v x d.offset low (subst (Shows v 96 x) d.is s) in
      subst (ShowsPointer v (selector a ++ low_half x)) d.at
      (halves_show_numbers v (selector a) (low_half x) (selector_length a l) (low_length x) (suc (suc k)) d.offset e c)

pub moves_show : MovesShow
moves_show v truth cells small set have by n a b x m hb hn s sb w ok =
    let S = number (values v (selector a)) in
    let O = number (values v (offset a)) in
    let y = moved_offset by a b m in
    let gy = offset_gains v truth by n a b m s.size sb ok in
    let real = subst IsReal (sym s.is) (real_of cells small set have x w) in
    record {
      before = gy.before;
      size = append_length (selector a) (low_half y.bits) ∙ (λ i. selector_length a s.size i + low_length y.bits i);
      shows = λ p q. moved_shows v truth cells small by n a y.bits S O p real s.size refl gy.shows (ap (λ t. moved cells by t (Number n)) s.is ∙ q);
    }
