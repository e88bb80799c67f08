-- Circuits of products and quotients.
use Rattle.std.specs.Prelude.{ℕ, suc, Bool, if◌then◌else◌, List, [], ◌∷◌, length}
use Rattle.l2_gates.specs.Gates.{Lit, F, Made, xor}
use Rattle.l2_circuits.specs.Words.{Word, known_word, top, resized, zeros, where_true, sum, sub, choose}

-- ---- products

-- all but the last, behind this one
abbrev pub behind : Lit → List Lit → List Lit
behind x [] = []
behind x (a ∷ rest) = x ∷ behind a rest

-- adds a to p for each bit of b, doubled from bit to bit
abbrev pub mul_from : List Lit → List Lit → List Lit → Made → Word
mul_from a [] p m = known_word p m
mul_from a (b ∷ bs) p m =
    let r = where_true a b m in
    let s = sum p r.bits F r.made in
    mul_from (behind F a) bs s.bits s.made

abbrev pub mul : List Lit → List Lit → Made → Word
mul a b m = mul_from a b (zeros a) m

-- ---- quotients without signs

pub record Divided : Type 0 where
  pub quotient : List Lit
  pub rest : List Lit
  pub made : Made

-- one bit more of the dividend
abbrev pub divide_bit : Lit → List Lit → Divided → Divided
divide_bit a b d =
    let r = behind a d.rest in
    let s = sub r b d.made in
    let c = choose s.carry s.bits r s.made in
    record { quotient = s.carry ∷ d.quotient; rest = c.bits; made = c.made }

-- by a divisor that has one bit more than the dividend, from the top bit down
abbrev pub divide_by : List Lit → List Lit → Made → Divided
divide_by [] b m = record { quotient = []; rest = zeros b; made = m }
divide_by (a ∷ rest) b m = divide_bit a b (divide_by rest b m)

-- the rest has no more bits than the dividend
abbrev pub narrowed : ℕ → Divided → Divided
narrowed n d = record d { rest = resized n F d.rest }

abbrev pub divide : List Lit → List Lit → Made → Divided
divide a b m = narrowed (length a) (divide_by a (resized (suc (length b)) F b) m)

-- ---- quotients with signs

-- the negated number where the literal is true
abbrev pub turned : Lit → List Lit → Made → Word
turned c a m = let s = sub (zeros a) a m in choose c s.bits a s.made

-- the quotient of the absolute values is negated where the signs differ, the rest where the dividend is negative
abbrev pub divide_signed : List Lit → List Lit → Made → Divided
divide_signed a b m =
    let x = turned (top a) a m in
    let y = turned (top b) b x.made in
    let d = divide x.bits y.bits y.made in
    let s = xor (top a) (top b) d.made in
    let q = turned s.bit d.quotient s.made in
    let r = turned (top a) d.rest q.made in
    record { quotient = q.bits; rest = r.bits; made = r.made }

abbrev pub quotients : Bool → List Lit → List Lit → Made → Divided
quotients signed a b m = if signed then divide_signed a b m else divide a b m
