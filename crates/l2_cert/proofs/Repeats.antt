-- Words that spell a list of items up to a word that spells none.
use Rattle.std.proofs.Common.{◌≡◌, ◌≢◌, ◌⊎◌, inl, inr, List, [], ◌∷◌, ◌++◌, map, refl, sym, ap, drop, get_or, ◌∙◌, append_assoc}
use Rattle.std.specs.List.{All}
use Rattle.std.proofs.lemmas.List.Elements.{All-head, All-tail}
use Rattle.std.proofs.lemmas.List.{map-append}
use Rattle.l2_cert.specs.Words.{Word}

-- the word behind some items is the last one, or spells an item
pub next_item : {A : Type 0} (Is : A → Type 0) (spell : A → Word) (last : Word) → ((a : A) → Is a → spell a ≢ last) → (xs ys : List A) (first : Word) (rest more : List Word) → All Is xs → All Is ys → map spell xs ++ first ∷ rest ≡ map spell ys ++ last ∷ more → (first ≡ last) ⊎ ((a : A) × Is a × (first ≡ spell a))
next_item Is spell last apart [] [] first rest more all others is = inl (ap (λ l. get_or l 0 []) is)
next_item Is spell last apart [] (y ∷ ys) first rest more all others is = inr (y, All-head Is y ys others, ap (λ l. get_or l 0 []) is)
next_item Is spell last apart (x ∷ xs) [] first rest more all others is = absurd (apart x (All-head Is x xs all) (ap (λ l. get_or l 0 []) is))
next_item Is spell last apart (x ∷ xs) (y ∷ ys) first rest more all others is = next_item Is spell last apart xs ys first rest more (All-tail Is x xs all) (All-tail Is y ys others) (ap (drop 1) is)

-- some items alone aren't all of it
pub not_over : {A : Type 0} (Is : A → Type 0) (spell : A → Word) (last : Word) → ((a : A) → Is a → spell a ≢ last) → (xs ys : List A) (more : List Word) → All Is xs → map spell xs ++ [] ≢ map spell ys ++ last ∷ more
not_over Is spell last apart [] [] more all is = cc
not_over Is spell last apart [] (y ∷ ys) more all is = cc
not_over Is spell last apart (x ∷ xs) [] more all is = absurd (apart x (All-head Is x xs all) (ap (λ l. get_or l 0 []) is))
not_over Is spell last apart (x ∷ xs) (y ∷ ys) more all is = not_over Is spell last apart xs ys more (All-tail Is x xs all) (ap (drop 1) is)

-- the same words are the same items
pub same_items : {A : Type 0} (Is : A → Type 0) (spell : A → Word) (last : Word) → ((a : A) → Is a → spell a ≢ last) → ((a b : A) → Is a → Is b → spell a ≡ spell b → a ≡ b) → (xs ys : List A) (rest more : List Word) → All Is xs → All Is ys → map spell xs ++ last ∷ rest ≡ map spell ys ++ last ∷ more → (xs ≡ ys) × (rest ≡ more)
same_items Is spell last apart same [] [] rest more all others is = (refl, ap (drop 1) is)
same_items Is spell last apart same [] (y ∷ ys) rest more all others is = absurd (apart y (All-head Is y ys others) (sym (ap (λ l. get_or l 0 []) is)))
same_items Is spell last apart same (x ∷ xs) [] rest more all others is = absurd (apart x (All-head Is x xs all) (ap (λ l. get_or l 0 []) is))
same_items Is spell last apart same (x ∷ xs) (y ∷ ys) rest more all others is =
    let head = same x y (All-head Is x xs all) (All-head Is y ys others) (ap (λ l. get_or l 0 []) is) in
    let tail = same_items Is spell last apart same xs ys rest more (All-tail Is x xs all) (All-tail Is y ys others) (ap (drop 1) is) in
    (λ i. head i ∷ tail.0 i, tail.1)

-- one more item
pub more_words : {A : Type 0} (spell : A → Word) (words : List Word) (xs : List A) (x : A) (rest : List Word) → words ≡ map spell xs ++ spell x ∷ rest → words ≡ map spell (xs ++ x ∷ []) ++ rest
more_words spell words xs x rest is = is ∙ sym (append_assoc (map spell xs) (spell x ∷ []) rest) ∙ ap (λ l. l ++ rest) (sym (map-append spell xs (x ∷ [])))
