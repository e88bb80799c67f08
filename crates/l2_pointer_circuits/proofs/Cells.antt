-- The places at which cells of some types stand.
use Rattle.std.proofs.Common.{◌≡◌, ℕ, zero, suc, ◌+◌, ◌≤◌, ◌<◌, ◌||◌, Bool, true, false, if◌then◌else◌, refl, sym, ap, ◌∙◌, List, [], ◌∷◌, length, drop, arith}
use Rattle.std.specs.Prelude.{nat_eq}
use Rattle.std.proofs.lemmas.Bool.{eqb-true}
use Rattle.std.proofs.lemmas.Bool.Decides.{nat_tests}
use Rattle.l2_gates.specs.Models.{both, some_of}
use Rattle.l2_gates.proofs.Bools.{both_false}
use Rattle.l2_runs.specs.declared.cells.CellType.{CellType}
use Rattle.l2_runs.specs.declared.member.Member.{Member}
use Rattle.l2_runs.specs.declared.member.Member.TheVariants.{Null, Invalid, Object}
use Rattle.l2_runs.specs.Members.{has, targets, Within}
use Rattle.l2_runs.specs.Fits.{Layout}
use Rattle.l2_runs.specs.Store.{Address}
use Rattle.l2_code.specs.Values.{begins_with, has_cells}
use Rattle.l2_pointer_circuits.specs.Tests.{objects, place, places_from, places}
use Rattle.l2_pointer_circuits.specs.Shows.{pointer_at, IsSmall}
use Rattle.l2_pointer_circuits.specs.Law.{IsPlace}
use Rattle.l2_pointer_circuits.proofs.Values.{zero_suc, itself}
use Rattle.l2_pointer_circuits.proofs.Anys.{some_from, Each, each_append, some_append, some_none}
use Rattle.l2_pointer_circuits.proofs.Sets.{again, nothing}

-- ---- places fit their halves

places_from_fit : (types : List CellType) (o f : ℕ) (cells : List CellType) → 1 ≤ o → o ≤ 131070 → f + length cells ≤ 65536 → Each IsPlace (places_from types o f cells)
places_from_fit types o f [] a b l = tt
places_from_fit types o f (c ∷ cells) a b l =
    each_append IsPlace (if begins_with types (c ∷ cells) then place o f ∷ [] else []) (places_from types o (suc f) cells) (go (begins_with types (c ∷ cells)))
    (places_from_fit types o (suc f) cells a b (omega arith))
  where
    go : (t : Bool) → Each IsPlace (if t then place o f ∷ [] else [])
    go true = (record { object_from = a; object_to = b; offset_to = omega arith }, tt)
    go false = tt

pub places_fit : (cells : Layout) → IsSmall cells → (types : List CellType) (os : List ℕ) → Each IsPlace (places cells types os)
places_fit cells s types [] = tt
places_fit cells s types (o ∷ os) = each_append IsPlace (places_from types o 0 (cells o)) (places cells types os) (one (cells o) (s.some o) (s.few o) (s.short o)) (places_fit cells s types os)
  where
    one : (cs : List CellType) → (0 < length cs → 1 ≤ o) → (0 < length cs → o ≤ 131070) → length cs ≤ 65536 → Each IsPlace (places_from types o 0 cs)
    one [] a b l = tt
    one (c ∷ cs) a b l = places_from_fit types o 0 (c ∷ cs) (a (omega arith)) (b (omega arith)) (omega arith)

-- ---- at which of them a pointer is

-- what the test of a place says of a selector and an offset
abbrev pub at_value : ℕ → ℕ → Address → Bool
at_value s f p = both (nat_eq s (suc p.object)) (nat_eq f p.offset)

elsewhere : (types : List CellType) (s x o f : ℕ) (cells : List CellType) → nat_eq s (suc o) ≡ false → Each (λ p. at_value s x p ≡ false) (places_from types o f cells)
elsewhere types s x o f [] e = tt
elsewhere types s x o f (c ∷ cells) e =
    each_append (λ p. at_value s x p ≡ false) (if begins_with types (c ∷ cells) then place o f ∷ [] else []) (places_from types o (suc f) cells) (go (begins_with types (c ∷ cells)))
    (elsewhere types s x o (suc f) cells e)
  where
    go : (t : Bool) → Each (λ p. at_value s x p ≡ false) (if t then place o f ∷ [] else [])
    go true = (ap (λ b. both b (nat_eq x f)) e, tt)
    go false = tt

before : (types : List CellType) (s x o f : ℕ) (cells : List CellType) → x < f → Each (λ p. at_value s x p ≡ false) (places_from types o f cells)
before types s x o f [] h = tt
before types s x o f (c ∷ cells) h =
    each_append (λ p. at_value s x p ≡ false) (if begins_with types (c ∷ cells) then place o f ∷ [] else []) (places_from types o (suc f) cells) (go (begins_with types (c ∷ cells)))
    (before types s x o (suc f) cells (omega arith))
  where
    no : nat_eq x f ≡ false
    no = grind (arith, nat_tests)

    go : (t : Bool) → Each (λ p. at_value s x p ≡ false) (if t then place o f ∷ [] else [])
    go true = (ap (both (nat_eq s (suc o))) no ∙ both_false (nat_eq s (suc o)), tt)
    go false = tt

drop_none : {X : Type 0} (k : ℕ) → drop {A = X} k [] ≡ []
drop_none zero = refl
drop_none (suc k) = refl

none_begins : (types : List CellType) (k : ℕ) → 0 < length types → begins_with types (drop k []) ≡ false
none_begins [] k h = absurd (omega arith)
none_begins (t ∷ types) k h = ap (begins_with (t ∷ types)) (drop_none k)

-- in the pointer's own object it is the offset that tells
own : (types : List CellType) (o f k x : ℕ) (cells : List CellType) (r : Bool) → 0 < length types → x ≡ f + k → some_from (at_value (suc o) x) r (places_from types o f cells) ≡ some_of r (begins_with types (drop k cells))
own types o f k x [] r h e = sym (nothing r) ∙ ap (some_of r) (sym (none_begins types k h))
own types o f zero x (c ∷ cells) r h e =
    some_append (at_value (suc o) x) (if begins_with types (c ∷ cells) then place o f ∷ [] else []) (places_from types o (suc f) cells) r
    ∙ some_none (at_value (suc o) x) (some_from (at_value (suc o) x) r (if begins_with types (c ∷ cells) then place o f ∷ [] else [])) (places_from types o (suc f) cells) (before types (suc o) x o (suc f) cells (omega arith))
    ∙ go (begins_with types (c ∷ cells))
  where
    here : at_value (suc o) x (place o f) ≡ true
    here = ap (λ b. both b (nat_eq x f)) (itself (suc o)) ∙ grind (arith, nat_tests)

    go : (t : Bool) → some_from (at_value (suc o) x) r (if t then place o f ∷ [] else []) ≡ some_of r t
    go true = ap (some_of r) here
    go false = sym (nothing r)
own types o f (suc k) x (c ∷ cells) r h e =
    some_append (at_value (suc o) x) (if begins_with types (c ∷ cells) then place o f ∷ [] else []) (places_from types o (suc f) cells) r
    ∙ ap (λ b. some_from (at_value (suc o) x) b (places_from types o (suc f) cells)) (go (begins_with types (c ∷ cells)))
    ∙ own types o (suc f) k x cells r h (omega arith)
  where
    not_here : at_value (suc o) x (place o f) ≡ false
    not_here = let no : nat_eq x f ≡ false = grind (arith, nat_tests) in ap (both (nat_eq (suc o) (suc o))) no ∙ both_false (nat_eq (suc o) (suc o))

    go : (t : Bool) → some_from (at_value (suc o) x) r (if t then place o f ∷ [] else []) ≡ r
    go true = ap (some_of r) not_here ∙ nothing r
    go false = refl

-- over the objects of a set
pub cells_hit : (cells : Layout) (types : List CellType) (t x : ℕ) (r : Bool) (set : List Member) → 0 < length types
    → some_from (at_value (suc t) x) r (places cells types (objects set)) ≡ some_of r (both (has set (Object t)) (begins_with types (drop x (cells t))))
cells_hit cells types t x r [] h = sym (nothing r)
cells_hit cells types t x r (Null ∷ set) h = cells_hit cells types t x r set h
cells_hit cells types t x r (Invalid ∷ set) h = cells_hit cells types t x r set h
cells_hit cells types t x r (Object o ∷ set) h =
    some_append (at_value (suc t) x) (places_from types o 0 (cells o)) (places cells types (objects set)) r ∙ go (λ q. cells_hit cells types t x q set h) (nat_eq o t) refl
  where
    B : Bool
    B = begins_with types (drop x (cells t))

    go : ((q : Bool) → some_from (at_value (suc t) x) q (places cells types (objects set)) ≡ some_of q (both (has set (Object t)) B))
        → (b : Bool) → nat_eq o t ≡ b → some_from (at_value (suc t) x) (some_from (at_value (suc t) x) r (places_from types o 0 (cells o))) (places cells types (objects set)) ≡ some_of r (both (nat_eq o t || has set (Object t)) B)
    go rest true e =
        ap (λ n. some_from (at_value (suc t) x) (some_from (at_value (suc t) x) r (places_from types n 0 (cells n))) (places cells types (objects set))) (eqb-true o t e)
        ∙ ap (λ q. some_from (at_value (suc t) x) q (places cells types (objects set))) (own types t 0 x x (cells t) r h (omega arith))
        ∙ rest (some_of r B) ∙ again r (has set (Object t)) B ∙ sym (ap (λ b. some_of r (both (b || has set (Object t)) B)) e)
    go rest false e =
        let no : nat_eq (suc t) (suc o) ≡ false = grind (arith, nat_tests) in
        ap (λ q. some_from (at_value (suc t) x) q (places cells types (objects set))) (some_none (at_value (suc t) x) r (places_from types o 0 (cells o)) (elsewhere types (suc t) x o 0 (cells o) no))
        ∙ rest r ∙ sym (ap (λ b. some_of r (both (b || has set (Object t)) B)) e)

-- a selector of no object
pub cells_miss : (cells : Layout) (types : List CellType) (x : ℕ) (os : List ℕ) → Each (λ p. at_value 0 x p ≡ false) (places cells types os)
cells_miss cells types x [] = tt
cells_miss cells types x (o ∷ os) =
    each_append (λ p. at_value 0 x p ≡ false) (places_from types o 0 (cells o)) (places cells types os) (elsewhere types 0 x o 0 (cells o) (zero_suc o)) (cells_miss cells types x os)

no_cells : (types cells : List CellType) (x : ℕ) → 0 < length types → (0 < length cells → ⊥) → begins_with types (drop x cells) ≡ false
no_cells types [] x h n = none_begins types x h
no_cells types (c ∷ cells) x h n = absurd (n (omega arith))

pub cells_are_so : (cells : Layout) → IsSmall cells → (types : List CellType) (set : List Member) → 0 < length types → (s f : ℕ) → Within (targets (pointer_at s f)) (has set)
    → some_from (at_value s f) false (places cells types (objects set)) ≡ has_cells cells types (pointer_at s f)
cells_are_so cells small types set h zero zero w = some_none (at_value 0 0) false (places cells types (objects set)) (cells_miss cells types 0 (objects set))
cells_are_so cells small types set h zero (suc f) w =
    some_none (at_value 0 (suc f)) false (places cells types (objects set)) (cells_miss cells types (suc f) (objects set))
    ∙ sym (no_cells types (cells 131071) (suc f) h (λ k. let l = small.few 131071 k in omega arith))
cells_are_so cells small types set h (suc zero) zero w =
    cells_hit cells types 0 0 false set h ∙ ap (both (has set (Object 0))) (no_cells types (cells 0) 0 h (λ k. let l = small.some 0 k in omega arith)) ∙ both_false (has set (Object 0))
cells_are_so cells small types set h (suc zero) (suc f) w =
    let e = no_cells types (cells 0) (suc f) h (λ k. let l = small.some 0 k in omega arith) in
    cells_hit cells types 0 (suc f) false set h ∙ ap (both (has set (Object 0))) e ∙ both_false (has set (Object 0)) ∙ sym e
cells_are_so cells small types set h (suc (suc n)) f w =
    cells_hit cells types (suc n) f false set h ∙ ap (λ b. both b (begins_with types (drop f (cells (suc n))))) (w (Object (suc n)) (itself (suc n)))
