-- Circuits that go bit by bit, as far as they have come.
use Rattle.std.proofs.Common.{◌≡◌, ℕ, ◌≤◌, min, ℤ, List, [], ◌∷◌, ◌++◌, length, drop, refl, sym, ap, ◌∙◌, arith}
use Rattle.std.proofs.lemmas.List.{drop_all, append-nil}
use Rattle.std.proofs.Math.Decide.{dec_lt}
use Rattle.l2_gates.specs.Gates.{Lit, Made, literals_of}
use Rattle.l2_circuits.specs.declared.columns.Kind.{Kind}
use Rattle.l2_circuits.specs.Words.{Sum, columns}

-- these bits, and then those of a sum
abbrev pub after : List Lit → Sum → Sum
after bits s = record { bits = bits ++ s.bits; carry = s.carry; made = s.made }

no_second : (kind : Kind) (a : List Lit) (c : Lit) (m : Made) → columns kind a [] c m ≡ record { bits = []; carry = c; made = m }
no_second kind [] c m = refl
no_second kind (x ∷ a) c m = refl

past : (kind : Kind) (a b : List ℤ) (i : ℕ) (c : Lit) (m : Made) → min (length a) (length b) ≤ i
    → columns kind (literals_of (drop i a)) (literals_of (drop i b)) c m ≡ record { bits = []; carry = c; made = m }
past kind a b i c m h = elim (dec_lt i (length a)) [
  | yes p ↦ ap (λ l. columns kind (literals_of (drop i a)) (literals_of l) c m) (drop_all i b (omega arith)) ∙ no_second kind (literals_of (drop i a)) c m
  | no q ↦ ap (λ l. columns kind (literals_of l) (literals_of (drop i b)) c m) (drop_all i a (omega arith))
]

-- behind the last column
pub ended : (kind : Kind) (a b : List ℤ) (i : ℕ) (bits : List Lit) (c : Lit) (m : Made) (whole : Sum) → min (length a) (length b) ≤ i
    → after bits (columns kind (literals_of (drop i a)) (literals_of (drop i b)) c m) ≡ whole → record { bits = bits; carry = c; made = m } ≡ whole
ended kind a b i bits c m whole h inv =
    ap (λ l. record { bits = l; carry = c; made = m }) (sym (append-nil bits)) ∙ sym (ap (after bits) (past kind a b i c m h)) ∙ inv
