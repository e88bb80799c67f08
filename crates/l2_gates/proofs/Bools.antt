-- Truth values.
use Rattle.std.proofs.Common.{◌≡◌, Bool, true, false, not, refl, sym}
use Rattle.std.specs.Prelude.{if◌then◌else◌}
use Rattle.l2_gates.specs.Models.{both, some_of, differ, chosen}

pub both_false : (a : Bool) → both a false ≡ false
both_false true = refl
both_false false = refl

pub both_true : (a : Bool) → both a true ≡ a
both_true true = refl
both_true false = refl

pub both_self : (a : Bool) → both a a ≡ a
both_self true = refl
both_self false = refl

pub both_not : (a : Bool) → both (not a) a ≡ false
both_not true = refl
both_not false = refl

pub both_assoc : (a b c : Bool) → both (both a b) c ≡ both a (both b c)
both_assoc true b c = refl
both_assoc false b c = refl

pub both_first : (a b : Bool) → both a b ≡ true → a ≡ true
both_first true b e = refl
both_first false b e = e

pub both_second : (a b : Bool) → both a b ≡ true → b ≡ true
both_second true b e = e
both_second false b e = absurd (cc)

pub not_not : (a : Bool) → not (not a) ≡ a
not_not true = refl
not_not false = refl

pub differ_false : (a : Bool) → differ a false ≡ a
differ_false true = refl
differ_false false = refl

pub differ_true : (a : Bool) → differ a true ≡ not a
differ_true true = refl
differ_true false = refl

pub differ_self : (a : Bool) → differ a a ≡ false
differ_self true = refl
differ_self false = refl

pub differ_not : (a : Bool) → differ (not a) a ≡ true
differ_not true = refl
differ_not false = refl

pub chosen_same : (c a : Bool) → chosen c a a ≡ a
chosen_same true a = refl
chosen_same false a = refl

pub chosen_or : (c b : Bool) → not (both (not c) (not b)) ≡ chosen c true b
chosen_or true b = refl
chosen_or false b = not_not b

pub chosen_or_self : (c b : Bool) → not (both (not c) (not b)) ≡ chosen c c b
chosen_or_self true b = refl
chosen_or_self false b = not_not b

pub chosen_and : (c b : Bool) → both (not c) b ≡ chosen c false b
chosen_and true b = refl
chosen_and false b = refl

pub chosen_and_not : (c b : Bool) → both (not c) b ≡ chosen c (not c) b
chosen_and_not true b = refl
chosen_and_not false b = refl

pub chosen_implies : (c a : Bool) → not (both (not (not c)) (not a)) ≡ chosen c a true
chosen_implies true a = not_not a
chosen_implies false a = refl

pub chosen_implies_not : (c a : Bool) → not (both (not (not c)) (not a)) ≡ chosen c a (not c)
chosen_implies_not true a = not_not a
chosen_implies_not false a = refl

pub chosen_both : (c a : Bool) → both c a ≡ chosen c a false
chosen_both true a = refl
chosen_both false a = refl

pub chosen_both_self : (c a : Bool) → both c a ≡ chosen c a c
chosen_both_self true a = refl
chosen_both_self false a = refl

-- what the clauses of a new variable say
pub and_bits : (n a b : Bool) → both (some_of (not n) (some_of a false)) (both (some_of (not n) (some_of b false)) (both (some_of n (some_of (not a) (some_of (not b) false))) true)) ≡ true → n ≡ both a b
and_bits true true true h = refl
and_bits true true false h = sym h
and_bits true false b h = sym h
and_bits false true true h = h
and_bits false true false h = refl
and_bits false false b h = refl

pub xor_bits : (n a b : Bool) → both (some_of (not n) (some_of a (some_of b false))) (both (some_of (not n) (some_of (not a) (some_of (not b) false))) (both (some_of n (some_of (not a) (some_of b false))) (both (some_of n (some_of a (some_of (not b) false))) true))) ≡ true → n ≡ differ a b
xor_bits true true true h = sym h
xor_bits true true false h = refl
xor_bits true false true h = refl
xor_bits true false false h = sym h
xor_bits false true true h = refl
xor_bits false true false h = h
xor_bits false false true h = h
xor_bits false false false h = refl

pub mux_bits : (n c a b : Bool) → both (some_of (not c) (some_of (not a) (some_of n false))) (both (some_of (not c) (some_of a (some_of (not n) false))) (both (some_of c (some_of (not b) (some_of n false))) (both (some_of c (some_of b (some_of (not n) false))) true))) ≡ true → n ≡ chosen c a b
mux_bits true true true b h = refl
mux_bits true true false b h = sym h
mux_bits true false a true h = refl
mux_bits true false a false h = sym h
mux_bits false true true b h = h
mux_bits false true false b h = refl
mux_bits false false a true h = h
mux_bits false false a false h = refl

-- one of two values, by a test whose outcome is kept
pub by_test : {X : Type 0} (P : X → Type 0) (t : Bool) (x y : X) → (t ≡ true → P x) → (t ≡ false → P y) → P (if t then x else y)
by_test P true x y p q = p refl
by_test P false x y p q = q refl
