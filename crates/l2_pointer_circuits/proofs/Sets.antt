-- Members of sets, and the places and objects that tests go through.
use Rattle.std.proofs.Common.{◌≡◌, ℕ, zero, suc, ◌≤◌, ◌<◌, ◌||◌, Bool, true, false, not, pos, refl, sym, ap, ◌∙◌, List, [], ◌∷◌, length, arith}
use Rattle.std.specs.Prelude.{nat_eq, nat_lt, nat_le}
use Rattle.std.specs.Ordering.{int_eq}
use Rattle.std.proofs.lemmas.Int.{ints}
use Rattle.std.proofs.lemmas.Bool.{eqb-true}
use Rattle.std.proofs.lemmas.Bool.Decides.{nat_tests}
use Rattle.l2_gates.specs.Models.{both, some_of}
use Rattle.l2_gates.proofs.Bools.{both_false, both_true}
use Rattle.l2_runs.specs.declared.cells.CellValue.{CellValue}
use Rattle.l2_runs.specs.declared.cells.CellValue.TheVariants as value
use Rattle.l2_runs.specs.declared.member.Member.{Member}
use Rattle.l2_runs.specs.declared.member.Member.TheVariants.{Null, Invalid, Object}
use Rattle.l2_runs.specs.Members.{same_member, has, targets, is_in, Within}
use Rattle.l2_runs.specs.Fits.{Layout}
use Rattle.l2_runs.specs.Back.{where_so, pointer_of}
use Rattle.l2_pointer_circuits.specs.Tests.{objects}
use Rattle.l2_pointer_circuits.specs.Shows.{IsSmall, HaveCells}
use Rattle.l2_pointer_circuits.specs.Law.{is_of}
use Rattle.l2_pointer_circuits.proofs.Values.{zero_suc, suc_zero, apart, beyond, itself, IsReal}
use Rattle.l2_pointer_circuits.proofs.Anys.{some_from, Each, each_map, some_same}

-- ---- numbers of objects

pub record IsObjectNumber (o : ℕ) : Type 0 where
  pub from : 1 ≤ o
  pub to : o ≤ 131070

pub number_of_object : (cells : Layout) → IsSmall cells → (o : ℕ) → 0 < length (cells o) → IsObjectNumber o
number_of_object cells s o h = record { from = s.some o h; to = s.few o h }

pub real_of : (cells : Layout) → IsSmall cells → (set : List Member) → HaveCells cells set → (x : CellValue) → Within (targets x) (has set) → IsReal x
real_of cells s set h (value.Number z) w = tt
real_of cells s set h value.Null w = tt
real_of cells s set h value.Invalid w = tt
real_of cells s set h (value.At o f) w = let k = h o (w (Object o) (itself o)) in (s.some o k, s.few o k)

has_later : (x : Member) (set : List Member) (m : Member) → has set m ≡ true → has (x ∷ set) m ≡ true
has_later x set m h = go (same_member x m) h
  where
    go : (b : Bool) → has set m ≡ true → (b || has set m) ≡ true
    go true h = refl
    go false h = h

cells_later : (cells : Layout) (x : Member) (set : List Member) → HaveCells cells (x ∷ set) → HaveCells cells set
cells_later cells x set h = λ o e. h o (has_later x set (Object o) e)

first_cells : (cells : Layout) (o : ℕ) (set : List Member) → HaveCells cells (Object o ∷ set) → 0 < length (cells o)
first_cells cells o set h = h o (ap (λ b. b || has set (Object o)) (itself o))

pub object_numbers : (cells : Layout) → IsSmall cells → (set : List Member) → HaveCells cells set → Each IsObjectNumber (objects set)
object_numbers cells s [] h = tt
object_numbers cells s (Null ∷ set) h = object_numbers cells s set (cells_later cells Null set h)
object_numbers cells s (Invalid ∷ set) h = object_numbers cells s set (cells_later cells Invalid set h)
object_numbers cells s (Object o ∷ set) h = (number_of_object cells s o (first_cells cells o set h), object_numbers cells s set (cells_later cells (Object o) set h))

abbrev pub IsNumbered : Member → Type 0
IsNumbered Null = Unit {0}
IsNumbered Invalid = Unit {0}
IsNumbered (Object o) = IsObjectNumber o

pub members_numbered : (cells : Layout) → IsSmall cells → (set : List Member) → HaveCells cells set → Each IsNumbered set
members_numbered cells s [] h = tt
members_numbered cells s (Null ∷ set) h = (tt, members_numbered cells s set (cells_later cells Null set h))
members_numbered cells s (Invalid ∷ set) h = (tt, members_numbered cells s set (cells_later cells Invalid set h))
members_numbered cells s (Object o ∷ set) h = (number_of_object cells s o (first_cells cells o set h), members_numbered cells s set (cells_later cells (Object o) set h))

-- ---- one object among members

pub again : (r h b : Bool) → some_of (some_of r b) (both h b) ≡ some_of r (both true b)
again true h b = refl
again false h true = refl
again false h false = both_false h

pub nothing : (r : Bool) → some_of r false ≡ r
nothing true = refl
nothing false = refl

-- one test is of object t, which is true just where the set has it
pub hits : (t : ℕ) (w : ℕ → Bool) (r : Bool) (set : List Member) → some_from (λ o. both (nat_eq (suc t) (suc o)) (w o)) r (objects set) ≡ some_of r (both (has set (Object t)) (w t))
hits t w r [] = sym (nothing r)
hits t w r (Null ∷ set) = hits t w r set
hits t w r (Invalid ∷ set) = hits t w r set
hits t w r (Object o ∷ set) = go (λ q. hits t w q set) (nat_eq o t) refl
  where
    turned : (b : Bool) → nat_eq o t ≡ b → nat_eq (suc t) (suc o) ≡ b
    turned true e = let q = eqb-true o t e in grind (arith, nat_tests)
    turned false e = grind (arith, nat_tests)

    go : ((q : Bool) → some_from (λ o. both (nat_eq (suc t) (suc o)) (w o)) q (objects set) ≡ some_of q (both (has set (Object t)) (w t)))
        → (b : Bool) → nat_eq o t ≡ b → some_from (λ o. both (nat_eq (suc t) (suc o)) (w o)) (some_of r (both (nat_eq (suc t) (suc o)) (w o))) (objects set) ≡ some_of r (both (nat_eq o t || has set (Object t)) (w t))
    go rest true e =
        ap (λ b. some_from (λ o. both (nat_eq (suc t) (suc o)) (w o)) (some_of r (both b (w o))) (objects set)) (turned true e)
        ∙ rest (some_of r (w o))
        ∙ ap (λ n. some_of (some_of r (w n)) (both (has set (Object t)) (w t))) (eqb-true o t e)
        ∙ again r (has set (Object t)) (w t)
        ∙ sym (ap (λ b. some_of r (both (b || has set (Object t)) (w t))) e)
    go rest false e =
        ap (λ b. some_from (λ o. both (nat_eq (suc t) (suc o)) (w o)) (some_of r (both b (w o))) (objects set)) (turned false e)
        ∙ rest (some_of r false)
        ∙ ap (λ q. some_of q (both (has set (Object t)) (w t))) (nothing r)
        ∙ sym (ap (λ b. some_of r (both (b || has set (Object t)) (w t))) e)

-- ---- a selector and an offset of some member

-- what the test of a member says of them
abbrev pub is_value : Layout → ℕ → ℕ → Member → Bool
is_value cells s f Null = both (nat_eq s 0) (nat_eq f 0)
is_value cells s f Invalid = both (nat_eq s 1) (nat_eq f 0)
is_value cells s f (Object o) = both (nat_eq s (suc o)) (not (nat_lt (length (cells o)) f))

member_hits : (t : Member) (b r : Bool) (set : List Member) → some_from (λ x. both (same_member x t) b) r set ≡ some_of r (both (has set t) b)
member_hits t b r [] = sym (nothing r)
member_hits t b r (x ∷ set) = member_hits t b (some_of r (both (same_member x t) b)) set ∙ joined (same_member x t) (has set t) r b
  where
    joined : (a h r b : Bool) → some_of (some_of r (both a b)) (both h b) ≡ some_of r (both (a || h) b)
    joined true h r b = again r h b
    joined false h r b = ap (λ q. some_of q (both h b)) (nothing r)

-- just where a test says yes
where_so_is : (set : List Member) (x : CellValue) (b : Bool) → both (is_in (has set) x) b ≡ is_of set (where_so x b)
where_so_is set x true = both_true (is_in (has set) x)
where_so_is set x false = both_false (is_in (has set) x)

none_at : (f : ℕ) → nat_eq f 0 ≡ int_eq (pos f) (pos 0)
none_at zero = go (nat_eq 0 0) refl
  where
    go : (b : Bool) → nat_eq 0 0 ≡ b → nat_eq 0 0 ≡ int_eq (pos 0) (pos 0)
    go b e = grind (arith, ints, nat_tests)
none_at (suc n) = suc_zero n ∙ grind (arith, ints)

pub not_over : (c f : ℕ) → not (nat_lt c f) ≡ nat_le f c
not_over c f = go (nat_lt c f) refl
  where
    go : (b : Bool) → nat_lt c f ≡ b → not b ≡ nat_le f c
    go true e = grind (arith, nat_tests)
    go false e = grind (arith, nat_tests)

null_value : (cells : Layout) (f : ℕ) (x : Member) → IsNumbered x → is_value cells 0 f x ≡ both (same_member x Null) (nat_eq f 0)
null_value cells f Null h = ap (λ b. both b (nat_eq f 0)) (itself 0)
null_value cells f Invalid h = ap (λ b. both b (nat_eq f 0)) (zero_suc 0)
null_value cells f (Object o) h = ap (λ b. both b (not (nat_lt (length (cells o)) f))) (zero_suc o)

invalid_value : (cells : Layout) (f : ℕ) (x : Member) → IsNumbered x → is_value cells 1 f x ≡ both (same_member x Invalid) (nat_eq f 0)
invalid_value cells f Null h = ap (λ b. both b (nat_eq f 0)) (suc_zero 0)
invalid_value cells f Invalid h = ap (λ b. both b (nat_eq f 0)) (itself 1)
invalid_value cells f (Object o) h = let k = h.from in ap (λ b. both b (not (nat_lt (length (cells o)) f))) (apart 1 (suc o) (omega arith))

object_value : (cells : Layout) (n f : ℕ) (x : Member) → IsNumbered x → is_value cells (suc (suc n)) f x ≡ both (same_member x (Object (suc n))) (not (nat_lt (length (cells (suc n))) f))
object_value cells n f Null h = ap (λ b. both b (nat_eq f 0)) (suc_zero (suc n))
object_value cells n f Invalid h = ap (λ b. both b (nat_eq f 0)) (beyond (suc (suc n)) 1 (omega arith))
object_value cells n f (Object o) h = go (nat_eq o (suc n)) refl
  where
    go : (b : Bool) → nat_eq o (suc n) ≡ b → both (nat_eq (suc (suc n)) (suc o)) (not (nat_lt (length (cells o)) f)) ≡ both (nat_eq o (suc n)) (not (nat_lt (length (cells (suc n))) f))
    go true e = let q = eqb-true o (suc n) e in let s : nat_eq (suc (suc n)) (suc o) ≡ nat_eq o (suc n) = grind (arith, nat_tests) in
        ap (λ b. both b (not (nat_lt (length (cells o)) f))) s ∙ ap (λ k. both (nat_eq o (suc n)) (not (nat_lt (length (cells k)) f))) q
    go false e = let s : nat_eq (suc (suc n)) (suc o) ≡ false = grind (arith, nat_tests) in
        ap (λ b. both b (not (nat_lt (length (cells o)) f))) s ∙ sym (ap (λ b. both b (not (nat_lt (length (cells (suc n))) f))) e)

pub among_is_so : (cells : Layout) (set : List Member) → Each IsNumbered set → (s f : ℕ) → some_from (is_value cells s f) false set ≡ is_of set (pointer_of cells (pos s) (pos f))
among_is_so cells set h zero f =
    some_same (is_value cells 0 f) (λ x. both (same_member x Null) (nat_eq f 0)) false set (each_map IsNumbered (λ x. is_value cells 0 f x ≡ both (same_member x Null) (nat_eq f 0)) (null_value cells f) set h)
    ∙ member_hits Null (nat_eq f 0) false set ∙ ap (both (has set Null)) (none_at f) ∙ where_so_is set value.Null (int_eq (pos f) (pos 0))
among_is_so cells set h (suc zero) f =
    some_same (is_value cells 1 f) (λ x. both (same_member x Invalid) (nat_eq f 0)) false set (each_map IsNumbered (λ x. is_value cells 1 f x ≡ both (same_member x Invalid) (nat_eq f 0)) (invalid_value cells f) set h)
    ∙ member_hits Invalid (nat_eq f 0) false set ∙ ap (both (has set Invalid)) (none_at f) ∙ where_so_is set value.Invalid (int_eq (pos f) (pos 0))
among_is_so cells set h (suc (suc n)) f =
    let b = not (nat_lt (length (cells (suc n))) f) in
    some_same (is_value cells (suc (suc n)) f) (λ x. both (same_member x (Object (suc n))) b) false set
    (each_map IsNumbered (λ x. is_value cells (suc (suc n)) f x ≡ both (same_member x (Object (suc n))) b) (object_value cells n f) set h)
    ∙ member_hits (Object (suc n)) b false set ∙ ap (both (has set (Object (suc n)))) (not_over (length (cells (suc n))) f) ∙ where_so_is set (value.At (suc n) f) (nat_le f (length (cells (suc n))))
