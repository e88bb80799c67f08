-- Lists and words as far as they have come.
use Rattle.std.proofs.Common.{◌≡◌, ℕ, suc, ◌+◌, ◌-◌, ◌<◌, ◌≤◌, ℤ, List, [], ◌∷◌, ◌++◌, replicate, sym, ap, ◌∙◌, arith, append_assoc}
use Rattle.std.proofs.lemmas.List.{map-append, append-nil}
use Rattle.std.specs.Prelude.{Bool, if◌then◌else◌}
use Rattle.l2_runs.specs.declared.member.Member.{Member}
use Rattle.l2_runs.specs.declared.member.Member.TheVariants.{Object}
use Rattle.l2_gates.specs.Gates.{Lit, F, Made, fresh, literal_of, literals_of}
use Rattle.l2_circuits.specs.Words.{Word}
use Rattle.l2_blast.specs.Words.{fresh_word, objects_from}

-- these bits, and then those of a word
abbrev pub after : List Lit → Word → Word
after bits w = record { bits = bits ++ w.bits; made = w.made }

pushed : (word : List ℤ) (x : ℤ) (rest : List Lit) → literals_of (word ++ x ∷ []) ++ rest ≡ literals_of word ++ literal_of x ∷ rest
pushed word x rest = ap (λ l. l ++ rest) (map-append literal_of word (x ∷ [])) ∙ append_assoc (literals_of word) (literal_of x ∷ []) rest

-- one more new variable
pub fresh_more : (width i : ℕ) (word next : List ℤ) (x : ℤ) (m k : Made) (whole : Word) → i < width → next ≡ word ++ x ∷ [] → literal_of x ≡ (fresh m).bit → k ≡ (fresh m).made
    → after (literals_of word) (fresh_word (width - i) m) ≡ whole → after (literals_of next) (fresh_word (width - (i + 1)) k) ≡ whole
fresh_more width i word next x m k whole h n e f inv =
    let q : width - i ≡ suc (width - (i + 1)) = omega arith in
    ap (λ z. after (literals_of z) (fresh_word (width - (i + 1)) k)) n
    ∙ ap (λ z. after (literals_of (word ++ x ∷ [])) (fresh_word (width - (i + 1)) z)) f
    ∙ (λ j. record { bits = pushed word x (fresh_word (width - (i + 1)) (fresh m).made).bits j; made = (fresh_word (width - (i + 1)) (fresh m).made).made })
    ∙ ap (λ b. record { bits = literals_of word ++ b ∷ (fresh_word (width - (i + 1)) (fresh m).made).bits; made = (fresh_word (width - (i + 1)) (fresh m).made).made }) e
    ∙ ap (λ z. after (literals_of word) (fresh_word z m)) (sym q) ∙ inv

pub fresh_ended : (width i : ℕ) (bits : List Lit) (m : Made) (whole : Word) → width ≤ i → after bits (fresh_word (width - i) m) ≡ whole → record { bits = bits; made = m } ≡ whole
fresh_ended width i bits m whole h inv =
    let q : width - i ≡ 0 = omega arith in
    ap (λ l. record { bits = l; made = m }) (sym (append-nil bits)) ∙ ap (λ z. after bits (fresh_word z m)) (sym q) ∙ inv

pub blank_more : (width i : ℕ) (word next : List ℤ) (x : ℤ) (whole : List Lit) → i < width → next ≡ word ++ x ∷ [] → literal_of x ≡ F
    → literals_of word ++ replicate (width - i) F ≡ whole → literals_of next ++ replicate (width - (i + 1)) F ≡ whole
blank_more width i word next x whole h n e inv =
    let q : width - i ≡ suc (width - (i + 1)) = omega arith in
    ap (λ z. literals_of z ++ replicate (width - (i + 1)) F) n ∙ pushed word x (replicate (width - (i + 1)) F)
    ∙ ap (λ b. literals_of word ++ b ∷ replicate (width - (i + 1)) F) e ∙ ap (λ z. literals_of word ++ replicate z F) (sym q) ∙ inv

-- one more object of a set
pub objects_more : (set : Member → Bool) (count i k : ℕ) (old next : List Member) (here : Bool) (whole : List Member) → i < count → k ≡ i + 1 → here ≡ set (Object k)
    → next ≡ old ++ (if here then Object k ∷ [] else []) → old ++ objects_from set (1 + i) (count - i) ≡ whole → next ++ objects_from set (1 + (i + 1)) (count - (i + 1)) ≡ whole
objects_more set count i k old next here whole h e is n inv =
    let a : 1 + i ≡ k = omega (arith, e) in
    let b : count - i ≡ suc (count - (i + 1)) = omega (arith, h) in
    let c : 1 + (i + 1) ≡ suc k = omega (arith, e) in
    ap (λ l. l ++ objects_from set (1 + (i + 1)) (count - (i + 1))) n
    ∙ ap (λ j. (old ++ (if here then Object k ∷ [] else [])) ++ objects_from set j (count - (i + 1))) c
    ∙ ap (λ t. (old ++ (if t then Object k ∷ [] else [])) ++ objects_from set (suc k) (count - (i + 1))) is
    ∙ append_assoc old (if set (Object k) then Object k ∷ [] else []) (objects_from set (suc k) (count - (i + 1)))
    ∙ sym (λ j. old ++ objects_from set (a j) (b j)) ∙ inv
