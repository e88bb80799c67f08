-- A line cut at its spaces.
use Rattle.std.proofs.Common.{◌≡◌, ◌≢◌, ℕ, Bool, true, false, cond, List, [], ◌∷◌, ◌++◌, refl, sym, ap, ◌∙◌, ⊎_elim, ◌==◌}
use Rattle.std.proofs.lemmas.Bool.Decides.{eqb_tells}
use Rattle.std.proofs.lemmas.Bool.{eqb-true}
use Rattle.std.proofs.lemmas.List.Elements.{All-head, All-tail}
use Rattle.l2_cert.specs.Words.{HasNoSpace, Word, before_first_word, spaced, words_of}

is_other : (b : ℕ) → b ≢ 32 → (b == 32) ≡ false
is_other b other = ⊎_elim (λ same. absurd (other same.1)) (λ so. so.0) (eqb_tells b 32)

-- behind a word and its space the next one begins
pub words_of-spaced : (word rest : List ℕ) → HasNoSpace word → words_of (word ++ 32 ∷ rest) ≡ word ∷ words_of rest
words_of-spaced [] rest whole = refl
words_of-spaced (b ∷ word) rest whole =
    ap (λ test. cond test ([] ∷ words_of (word ++ 32 ∷ rest)) (before_first_word b (words_of (word ++ 32 ∷ rest)))) (is_other b (All-head (λ b. b ≢ 32) b word whole))
    ∙ ap (before_first_word b) (words_of-spaced word rest (All-tail (λ b. b ≢ 32) b word whole))

-- what has no space is one word
pub words_of-one : (word : List ℕ) → HasNoSpace word → words_of word ≡ word ∷ []
words_of-one [] whole = refl
words_of-one (b ∷ word) whole =
    ap (λ test. cond test ([] ∷ words_of word) (before_first_word b (words_of word))) (is_other b (All-head (λ b. b ≢ 32) b word whole))
    ∙ ap (before_first_word b) (words_of-one word (All-tail (λ b. b ≢ 32) b word whole))

-- a line has a word
pub some_word : (text : List ℕ) → words_of text ≢ []
some_word [] is = cc
some_word (b ∷ text) is = go (b == 32) is
  where
    first : (words : List Word) → before_first_word b words ≢ []
    first [] same = cc
    first (w ∷ words) same = cc

    go : (test : Bool) → cond test ([] ∷ words_of text) (before_first_word b (words_of text)) ≢ []
    go true same = cc
    go false same = first (words_of text) same

-- the words of a line, joined, are the line
pub joined : (text : List ℕ) → spaced (words_of text) ≡ text
joined [] = refl
joined (b ∷ text) = go (b == 32) refl (words_of text) (joined text) (some_word text)
  where
    front : (b : ℕ) (words : List Word) → spaced (before_first_word b words) ≡ b ∷ spaced words
    front b [] = refl
    front b (w ∷ []) = refl
    front b (w ∷ v ∷ words) = refl

    behind : (words : List Word) → words ≢ [] → spaced ([] ∷ words) ≡ 32 ∷ spaced words
    behind [] some = absurd (some refl)
    behind (w ∷ words) some = refl

    go : (test : Bool) → (b == 32) ≡ test → (words : List Word) → spaced words ≡ text → words ≢ [] → spaced (cond (b == 32) ([] ∷ words) (before_first_word b words)) ≡ b ∷ text
    go true is words rest some = ap (λ t. spaced (cond t ([] ∷ words) (before_first_word b words))) is ∙ behind words some ∙ (λ i. sym (eqb-true b 32 is) i ∷ rest i)
    go false is words rest some = ap (λ t. spaced (cond t ([] ∷ words) (before_first_word b words))) is ∙ front b words ∙ ap (λ t. b ∷ t) rest
