-- The values of tests on pointers.
use Rattle.std.proofs.Common.{◌≡◌, ℕ, zero, suc, ◌<◌, Bool, true, false, not, if◌then◌else◌, pos, refl, sym, ap, ◌∙◌, subst, List, [], ◌∷◌, length, arith}
use Rattle.std.specs.Prelude.{nat_eq, nat_lt}
use Rattle.l2_gates.specs.Gates.{Lit, T, Made, negated, and, or, known}
use Rattle.l2_gates.specs.Models.{both, some_of, value, Gives}
use Rattle.l2_gates.proofs.Bools.{both_assoc, both_true}
use Rattle.l2_gates.proofs.Values.{negated_value, and_gives, or_gives}
use Rattle.l2_circuits.specs.Words.{eq, ltu, opposite}
use Rattle.l2_circuit_laws.specs.Values.{values, number}
use Rattle.l2_circuit_laws.proofs.Numbers.{equal_gives, less_gives}
use Rattle.l2_circuit_laws.proofs.Shown.{same_of_length}
use Rattle.l2_runs.specs.declared.member.Member.{Member}
use Rattle.l2_runs.specs.declared.member.Member.TheVariants.{Null, Invalid, Object}
use Rattle.l2_runs.specs.Members.{has, targets, Within}
use Rattle.l2_runs.specs.Fits.{Layout}
use Rattle.l2_runs.specs.Back.{pointer_of}
use Rattle.l2_code.specs.Values.{is_not_null, is_not_invalid, has_cells, same_object}
use Rattle.l2_pointer_circuits.specs.Words.{selector, offset, half, is_half, at_bit}
use Rattle.l2_pointer_circuits.specs.Tests.{selector_of, isnt_bit, Flag, live_from, places, objects, same_bit, is_bit}
use Rattle.l2_pointer_circuits.specs.Shows.{pointer_at, IsSmall, is_live}
use Rattle.l2_pointer_circuits.specs.Law.{IsPlace, NullIs, InvalidIs, AreFlags, LiveIs, CellsAre, SameIs, is_of, AmongIs}
use Rattle.l2_pointer_circuits.proofs.Halves.{selector_length, half_shown, half_length, half_number, half_gives}
use Rattle.l2_pointer_circuits.proofs.Values.{IsReal, null_is, invalid_is, same_is, flag_value, flag_values, live_is}
use Rattle.l2_pointer_circuits.proofs.Anys.{or_is, each_map, Tells, any_gives}
use Rattle.l2_pointer_circuits.proofs.Shown.{at_gives}
use Rattle.l2_pointer_circuits.proofs.Sets.{IsNumbered, members_numbered, real_of, is_value, among_is_so}
use Rattle.l2_pointer_circuits.proofs.Cells.{at_value, places_fit, cells_are_so}

-- ---- what a pointer isn't

null_lacks : (set : List Member) (s f : ℕ) → IsReal (pointer_at s f) → Within (targets (pointer_at s f)) (has set) → has set Null ≡ false → true ≡ is_not_null (pointer_at s f)
null_lacks set zero zero r w e = let h = w Null refl in cc
null_lacks set zero (suc f) r w e = refl
null_lacks set (suc zero) zero r w e = refl
null_lacks set (suc zero) (suc f) r w e = refl
null_lacks set (suc (suc n)) f r w e = refl

invalid_lacks : (set : List Member) (s f : ℕ) → IsReal (pointer_at s f) → Within (targets (pointer_at s f)) (has set) → has set Invalid ≡ false → true ≡ is_not_invalid (pointer_at s f)
invalid_lacks set zero zero r w e = refl
invalid_lacks set zero (suc f) r w e = refl
invalid_lacks set (suc zero) zero r w e = let h = w Invalid refl in cc
invalid_lacks set (suc zero) (suc f) r w e = refl
invalid_lacks set (suc (suc n)) f r w e = refl

module _ (v : ℕ → Bool) (truth : v 0 ≡ true) where
  isnt_gives : (x : Member) (set : List Member) (a : List Lit) (m : Made) (b : Bool) → selector_of x < 131072 → length a ≡ 34 → not (nat_eq (number (values v (selector a))) (selector_of x)) ≡ b → (has set x ≡ false → true ≡ b)
      → Gives v m b (isnt_bit x set a m)
  isnt_gives x set a m b h e there lacks = go (has set x) refl
    where
      go : (t : Bool) → has set x ≡ t → Gives v m b (if t then opposite (is_half (selector_of x) (selector a) m) else known T m)
      go true q = λ ok.
          let g = half_gives v truth (selector_of x) (selector a) m h (selector_length a e) ok in
          record { before = g.before; is = negated_value v (is_half (selector_of x) (selector a) m).bit ∙ ap not g.is ∙ there }
      go false q = λ ok. record { before = ok; is = truth ∙ lacks q }

  -- ---- live flags

  live_from_gives : (flags : List Flag) (a : List Lit) (r : Lit) (m : Made) → AreFlags flags → length a ≡ 34
      → Gives v m (both (value v r) (flag_values v (number (values v (selector a))) flags)) (live_from flags a r m)
  live_from_gives [] a r m h e = λ ok. record { before = ok; is = sym (both_true (value v r)) }
  live_from_gives (t ∷ rest) a r m (from, to, hs) e = λ ok.
      let n = is_half (suc t.object) (selector a) m in
      let o = or (negated n.bit) t.live n.made in
      let k = and r o.bit o.made in
      let later = live_from_gives rest a k.bit k.made hs e ok in
      let gk = and_gives v truth r o.bit o.made later.before in
      let go = or_gives v truth (negated n.bit) t.live n.made gk.before in
      let gn = half_gives v truth (suc t.object) (selector a) m (omega arith) (selector_length a e) go.before in
      let s = number (values v (selector a)) in
      let flag : value v o.bit ≡ flag_value v s t = go.is ∙ or_is (value v (negated n.bit)) (value v t.live) ∙ ap (λ b. some_of b (value v t.live)) (negated_value v n.bit ∙ ap not gn.is) in
      record {
        before = gn.before;
        is = later.is ∙ ap (λ b. both b (flag_values v s rest)) (gk.is ∙ ap (both (value v r)) flag) ∙ both_assoc (value v r) (flag_value v s t) (flag_values v s rest);
      }

  -- ---- one object

  same_gives : (a b : List Lit) (m : Made) → length a ≡ 34 → length b ≡ 34
      → Gives v m (both (nat_eq (number (values v (selector a))) (number (values v (selector b)))) (both (not (nat_eq (number (values v (selector a))) 0)) (not (nat_eq (number (values v (selector a))) 1)))) (same_bit a b m)
  same_gives a b m ea eb = λ ok.
      let e = eq (selector a) (selector b) m in
      let n = is_half 0 (selector a) e.made in
      let i = is_half 1 (selector a) n.made in
      let k = and (negated n.bit) (negated i.bit) i.made in
      let g = and_gives v truth e.bit k.bit k.made ok in
      let gk = and_gives v truth (negated n.bit) (negated i.bit) i.made g.before in
      let gi = half_gives v truth 1 (selector a) n.made (omega arith) (selector_length a ea) gk.before in
      let gn = half_gives v truth 0 (selector a) e.made (omega arith) (selector_length a ea) gi.before in
      let ge = equal_gives v truth (selector a) (selector b) m (same_of_length (selector a) (selector b) (selector_length a ea ∙ sym (selector_length b eb))) gn.before in
      record {
        before = ge.before;
        is = g.is ∙ (λ j. both (ge.is j) ((gk.is ∙ (λ l. both ((negated_value v n.bit ∙ ap not gn.is) l) ((negated_value v i.bit ∙ ap not gi.is) l))) j));
      }

  -- ---- members

  two_halves : (cells : Layout) (s f : List Lit) (x n : ℕ) (m : Made) → x < 131072 → length s ≡ 17 → length f ≡ 17
      → Gives v m (both (nat_eq (number (values v s)) x) (nat_eq (number (values v f)) 0)) (let e = is_half x s m in let t = is_half 0 f e.made in and e.bit t.bit t.made)
  two_halves cells s f x n m h a b = λ ok.
      let e = is_half x s m in
      let t = is_half 0 f e.made in
      let g = and_gives v truth e.bit t.bit t.made ok in
      let gt = half_gives v truth 0 f e.made (omega arith) b g.before in
      let ge = half_gives v truth x s m h a gt.before in
      record { before = ge.before; is = g.is ∙ (λ j. both (ge.is j) (gt.is j)) }

  member_gives : (cells : Layout) → IsSmall cells → (s f : List Lit) → length s ≡ 17 → length f ≡ 17 → (x : Member) → IsNumbered x
      → Tells v truth (is_bit cells s f) (is_value cells (number (values v s)) (number (values v f))) x
  member_gives cells small s f a b Null h = λ m. two_halves cells s f 0 0 m (omega arith) a b
  member_gives cells small s f a b Invalid h = λ m. two_halves cells s f 1 0 m (omega arith) a b
  member_gives cells small s f a b (Object o) h = λ m ok.
      let c = length (cells o) in
      let e = is_half (suc o) s m in
      let t = ltu (half c) f e.made in
      let g = and_gives v truth e.bit (negated t.bit) t.made ok in
      let gt = less_gives v truth (half c) f e.made (same_of_length (half c) f (half_length v truth c ∙ sym b)) g.before in
      let few : suc o < 131072 = (let k = h.to in omega arith) in
      let short : c < 131072 = (let k = small.short o in omega arith) in
      let ge = half_gives v truth (suc o) s m few a gt.before in
      record {
        before = ge.before;
        is = g.is ∙ (λ j. both (ge.is j) ((negated_value v t.bit ∙ ap not (gt.is ∙ ap (λ n. nat_lt n (number (values v f))) (half_number v truth c short))) j));
      }

-- ---- the laws

pub null_law : NullIs
null_law v truth cells small set have a x m s w =
    let real = real_of cells small set have x w in
    let S = number (values v (selector a)) in
    let O = number (values v (offset a)) in
    let r = subst IsReal (sym s.is) real in
    let wp = subst (λ y. Within (targets y) (has set)) (sym s.is) w in
    isnt_gives v truth Null set a m (is_not_null x) (omega arith) s.size (null_is S O r ∙ ap is_not_null s.is) (λ e. null_lacks set S O r wp e ∙ ap is_not_null s.is)

pub invalid_law : InvalidIs
invalid_law v truth cells small set have a x m s w =
    let real = real_of cells small set have x w in
    let S = number (values v (selector a)) in
    let O = number (values v (offset a)) in
    let r = subst IsReal (sym s.is) real in
    let wp = subst (λ y. Within (targets y) (has set)) (sym s.is) w in
    isnt_gives v truth Invalid set a m (is_not_invalid x) (omega arith) s.size (invalid_is S O r ∙ ap is_not_invalid s.is) (λ e. invalid_lacks set S O r wp e ∙ ap is_not_invalid s.is)

pub live_law : LiveIs
live_law v truth flags a x m h s = λ ok.
    let g = live_from_gives v truth flags a T m h s.size ok in
    let S = number (values v (selector a)) in
    record {
      before = g.before;
      is = g.is ∙ ap (λ b. both b (flag_values v S flags)) truth ∙ live_is v S (number (values v (offset a))) flags h ∙ ap (is_live v flags) s.is;
    }

pub cells_law : CellsAre
cells_law v truth cells small set types some a x m s w = λ ok.
    let S = number (values v (selector a)) in
    let O = number (values v (offset a)) in
    let all = places cells types (objects set) in
    let tells = each_map IsPlace (Tells v truth (λ p. at_bit p a) (at_value S O)) (λ p h m. at_gives v truth p a m h s.size) all (places_fit cells small types (objects set)) in
    let g = any_gives v truth (λ p. at_bit p a) (at_value S O) all m tells ok in
    let wp = subst (λ y. Within (targets y) (has set)) (sym s.is) w in
    record { before = g.before; is = g.is ∙ cells_are_so cells small types set some S O wp ∙ ap (has_cells cells types) s.is }

pub same_law : SameIs
same_law v truth cells small set have a b x y m s t w = λ ok.
    let r = subst IsReal (sym s.is) (real_of cells small set have x w) in
    let g = same_gives v truth a b m s.size t.size ok in
    record {
      before = g.before;
      is = g.is ∙ same_is (number (values v (selector a))) (number (values v (offset a))) (number (values v (selector b))) (number (values v (offset b))) r ∙ (λ i. same_object (s.is i) (t.is i));
    }

pub among_law : AmongIs
among_law v truth cells small set have s f k j m hk hj p q = λ ok.
    let all = members_numbered cells small set have in
    let S = number (values v s) in
    let O = number (values v f) in
    let tells = each_map IsNumbered (Tells v truth (is_bit cells s f) (is_value cells S O)) (member_gives v truth cells small s f p.size q.size) set all in
    let g = any_gives v truth (is_bit cells s f) (is_value cells S O) set m tells ok in
    record { before = g.before; is = g.is ∙ among_is_so cells set all S O ∙ (λ i. is_of set (pointer_of cells (pos (half_shown v s k hk p i)) (pos (half_shown v f j hj q i)))) }
