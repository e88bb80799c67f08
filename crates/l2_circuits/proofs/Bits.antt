-- Words that are made bit by bit without a gate.
use Rattle.std.proofs.Common.{◌≡◌, ℕ, zero, suc, ◌+◌, ◌-◌, ◌<◌, ◌/◌, ◌%◌, ◌==◌, ℤ, List, [], ◌∷◌, ◌++◌, length, get_or, drop, replicate, Some, slice_get, refl, sym, ap, ◌∙◌, arith, add-one, append_assoc}
use Rattle.std.proofs.lemmas.List.{map-append, length-map, drop-map}
use Rattle.l2_gates.specs.Gates.{Lit, F, literal_of, literals_of}
use Rattle.l2_circuits.specs.Words.{top, resized, digits, literal_if}

top_at : (a : List ℤ) (i : ℕ) (x : ℤ) → suc i ≡ length a → Some x ≡ slice_get a i → top (literals_of a) ≡ literal_of x
top_at [] i x h e = cc
top_at (a ∷ []) zero x h e = let q : a ≡ x = cc in ap literal_of q
top_at (a ∷ []) (suc i) x h e = absurd (omega arith)
top_at (a ∷ b ∷ rest) zero x h e = absurd (omega arith)
top_at (a ∷ b ∷ rest) (suc i) x h e = top_at (b ∷ rest) i x (omega arith) e

pub top_of : (a : List ℤ) (x : ℤ) → 0 < length a → Some x ≡ slice_get a (length a - 1) → top (literals_of a) ≡ literal_of x
top_of a x h e = top_at a (length a - 1) x (omega arith) e

pub pushed : (word : List ℤ) (x : ℤ) (rest : List Lit) → literals_of (word ++ x ∷ []) ++ rest ≡ literals_of word ++ literal_of x ∷ rest
pushed word x rest = ap (λ l. l ++ rest) (map-append literal_of word (x ∷ [])) ∙ append_assoc (literals_of word) (literal_of x ∷ []) rest

resized_at : (n : ℕ) (fill : ℤ) (a : List ℤ) (i : ℕ) → resized (suc n) (literal_of fill) (literals_of (drop i a)) ≡ literal_of (get_or a i fill) ∷ resized n (literal_of fill) (literals_of (drop (suc i) a))
resized_at n fill [] zero = refl
resized_at n fill [] (suc i) = refl
resized_at n fill (x ∷ a) zero = refl
resized_at n fill (x ∷ a) (suc i) = resized_at n fill a i

-- one more bit of a word that is resized
pub resized_more : (width i : ℕ) (fill bit : ℤ) (a word next : List ℤ) (whole : List Lit) → i < width → next ≡ word ++ bit ∷ [] → bit ≡ get_or a i fill
    → literals_of word ++ resized (width - i) (literal_of fill) (literals_of (drop i a)) ≡ whole
    → literals_of next ++ resized (width - (i + 1)) (literal_of fill) (literals_of (drop (i + 1) a)) ≡ whole
resized_more width i fill bit a word next whole h n e inv =
    let rest = resized (width - (i + 1)) (literal_of fill) (literals_of (drop (i + 1) a)) in
    let q : suc (width - (i + 1)) ≡ width - i = omega arith in
    ap (λ w. literals_of w ++ rest) n ∙ pushed word bit rest
    ∙ ap (λ x. literals_of word ++ literal_of x ∷ rest) e
    ∙ ap (λ n. literals_of word ++ literal_of (get_or a i fill) ∷ resized (width - (i + 1)) (literal_of fill) (literals_of (drop n a))) (add-one i)
    ∙ ap (λ l. literals_of word ++ l) (sym (resized_at (width - (i + 1)) fill a i))
    ∙ ap (λ n. literals_of word ++ resized n (literal_of fill) (literals_of (drop i a))) q
    ∙ inv

-- one more digit
pub digits_more : (width i left : ℕ) (bit : ℤ) (word next : List ℤ) (whole : List Lit) → i < width → next ≡ word ++ bit ∷ [] → literal_of bit ≡ literal_if (left % 2 == 1)
    → literals_of word ++ digits (width - i) left ≡ whole → literals_of next ++ digits (width - (i + 1)) (left / 2) ≡ whole
digits_more width i left bit word next whole h n e inv =
    let rest = digits (width - (i + 1)) (left / 2) in
    let q : suc (width - (i + 1)) ≡ width - i = omega arith in
    ap (λ w. literals_of w ++ rest) n ∙ pushed word bit rest
    ∙ ap (λ x. literals_of word ++ x ∷ rest) e
    ∙ ap (λ n. literals_of word ++ digits n left) q
    ∙ inv

pub literals_length : (a : List ℤ) → length (literals_of a) ≡ length a
literals_length a = length-map a literal_of

pub literals_drop : (a : List ℤ) (n : ℕ) → drop n (literals_of a) ≡ literals_of (drop n a)
literals_drop a n = drop-map literal_of n a

pub literals_append : (a b : List ℤ) → literals_of (a ++ b) ≡ literals_of a ++ literals_of b
literals_append a b = map-append literal_of a b

-- one more literal that is false
pub falses_more : (k i : ℕ) (bit : ℤ) (word next : List ℤ) (whole : List Lit) → i < k → next ≡ word ++ bit ∷ [] → literal_of bit ≡ F
    → literals_of word ++ replicate (k - i) F ≡ whole → literals_of next ++ replicate (k - (i + 1)) F ≡ whole
falses_more k i bit word next whole h n e inv =
    let rest = replicate (k - (i + 1)) F in
    let q : suc (k - (i + 1)) ≡ k - i = omega arith in
    ap (λ w. literals_of w ++ rest) n ∙ pushed word bit rest ∙ ap (λ x. literals_of word ++ x ∷ rest) e ∙ ap (λ m. literals_of word ++ replicate m F) q ∙ inv
