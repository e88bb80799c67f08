-- Pieces of a text and its tokens.
use Rattle.std.proofs.Common.{◌≡◌, ◌≢◌, ℕ, zero, suc, ◌+◌, ◌<◌, ◌≤◌, Bool, true, false, cond, List, [], ◌∷◌, ◌++◌, length, drop, take, get_or, refl, sym, ap, subst, ◌∙◌, ⊎_elim, ◌==◌, append_assoc, append-nil, arith}
use Rattle.std.specs.List.{All}
use Rattle.std.proofs.lemmas.Bool.Decides.{eqb_tells}
use Rattle.std.proofs.lemmas.List.{at_drop_more, take-append-drop, length-take-le, length-drop, get_or-drop, take_more}
use Rattle.std.proofs.lemmas.List.Elements.{All-head, All-tail, All-nil, All-cons, All-append}
use Rattle.l2_lines.specs.Lines.{IsLine, ended}
use Rattle.l2_dimacs.specs.Tokens.{token, before_first, pieces, ends_line, is_blank, lines, words_at, line_words, line_tokens, tokens_from}

-- a first piece that isn't cut
pub front_piece : (cuts : ℕ → Bool) (word rest : List ℕ) (more : List (List ℕ)) → All (λ b. cuts b ≡ false) word → pieces cuts rest ≡ [] ∷ more → pieces cuts (word ++ rest) ≡ word ∷ more
front_piece cuts [] rest more all is = is
front_piece cuts (b ∷ word) rest more all is =
    ap (λ test. cond test ([] ∷ pieces cuts (word ++ rest)) (before_first b (pieces cuts (word ++ rest)))) (All-head (λ b. cuts b ≡ false) b word all)
    ∙ ap (before_first b) (front_piece cuts word rest more (All-tail (λ b. cuts b ≡ false) b word all) is)

-- what stands behind a cut
pub behind_cut : (cuts : ℕ → Bool) (b : ℕ) (bs : List ℕ) → cuts b ≡ true → pieces cuts (b ∷ bs) ≡ [] ∷ pieces cuts bs
behind_cut cuts b bs is = ap (λ test. cond test ([] ∷ pieces cuts bs) (before_first b (pieces cuts bs))) is

-- ---- words of a line

skip_blank : (n b : ℕ) (bs : List ℕ) → is_blank b ≡ true → line_words n (b ∷ bs) ≡ line_words n bs
skip_blank n b bs is = ap (words_at n) (behind_cut is_blank b bs is)

pub skip_more : (n : ℕ) (text : List ℕ) (i : ℕ) → i < length text → is_blank (get_or text i 0) ≡ true → line_words n (drop i text) ≡ line_words n (drop (i + 1) text)
skip_more n text i within is = at_drop_more (line_words n) text i 0 within ∙ skip_blank n (get_or text i 0) (drop (i + 1) text) is

pub starts : (rest : List ℕ) → (0 < length rest → is_blank (get_or rest 0 0) ≡ true) → (more : List (List ℕ)) × (pieces is_blank rest ≡ [] ∷ more)
starts [] is = ([], refl)
starts (b ∷ bs) is = (pieces is_blank bs, behind_cut is_blank b bs (is (omega arith)))

pub word_then : (n : ℕ) (word rest : List ℕ) → 0 < length word → All (λ b. is_blank b ≡ false) word → (0 < length rest → is_blank (get_or rest 0 0) ≡ true) → line_words n (word ++ rest) ≡ token n word ∷ line_words n rest
word_then n [] rest some all is = absurd (omega (arith, some))
word_then n (b ∷ word) rest some all is =
    let (more, so) = starts rest is in
    ap (words_at n) (front_piece is_blank (b ∷ word) rest more all so) ∙ ap (λ ps. token n (b ∷ word) ∷ words_at n ps) (sym so)

-- ---- tokens of a line

is_other : (b c : ℕ) → b ≢ c → (b == c) ≡ false
is_other b c other = ⊎_elim (λ same. absurd (other same.1)) (λ so. so.0) (eqb_tells b c)

pub skipped : (n : ℕ) (line : List ℕ) → 0 < length line → get_or line 0 0 ≡ 99 → line_tokens n line ≡ []
skipped n [] some is = refl
skipped n (b ∷ bs) some is = ap (λ b. cond (b == 99) [] (line_words n (b ∷ bs))) is

pub unskipped : (n : ℕ) (line : List ℕ) → (0 < length line → get_or line 0 0 ≢ 99) → line_tokens n line ≡ line_words n line
unskipped n [] other = refl
unskipped n (b ∷ bs) other = ap (λ test. cond test [] (line_words n (b ∷ bs))) (is_other b 99 (other (omega arith)))

-- ---- lines

unlike : (line : List ℕ) → IsLine line → All (λ b. ends_line b ≡ false) line
unlike [] all = All-nil (λ b. ends_line b ≡ false)
unlike (b ∷ line) all = All-cons (λ b. ends_line b ≡ false) b line (is_other b 10 (All-head (λ b. b ≢ 10) b line all)) (unlike line (All-tail (λ b. b ≢ 10) b line all))

pub first_of_lines : (text line rest : List ℕ) → IsLine line → text ≡ ended line ++ rest → lines text ≡ line ∷ lines rest
first_of_lines text line rest whole is =
    ap lines (is ∙ append_assoc line (10 ∷ []) rest) ∙ front_piece ends_line line (10 ∷ rest) (lines rest) (unlike line whole) (behind_cut ends_line 10 rest refl)

pub only_line : (text : List ℕ) → IsLine text → lines text ≡ text ∷ []
only_line text whole = ap lines (sym (append-nil text)) ∙ front_piece ends_line text [] [] (unlike text whole) refl

-- the next line, as it is kept
pub next_tokens : (n m : ℕ) (text line here : List ℕ) (rest : List ℕ) → m ≡ n + 1 → lines text ≡ line ∷ lines rest → ((n : ℕ) → line_tokens n line ≡ line_words n here) → line_words m here ++ tokens_from (suc m) (lines rest) ≡ tokens_from (suc n) (lines text)
next_tokens n m text line here rest count is same =
    let next : m ≡ suc n = omega (arith, count) in
    ap (λ k. line_words k here ++ tokens_from (suc k) (lines rest)) next
    ∙ ap (λ ts. ts ++ tokens_from (suc (suc n)) (lines rest)) (sym (same (suc n)))
    ∙ ap (tokens_from (suc n)) (sym is)

pub no_bytes : (xs : List ℕ) → take 0 xs ≡ []
no_bytes [] = refl
no_bytes (x ∷ xs) = refl

pub last_tokens : (n m : ℕ) (text here rest : List ℕ) → rest ≡ [] → m ≡ n + 1 → IsLine text → ((n : ℕ) → line_tokens n text ≡ line_words n here) → line_words m here ++ tokens_from (suc m) (lines rest) ≡ tokens_from (suc n) (lines text)
last_tokens n m text here rest empty count whole same =
    let next : m ≡ suc n = omega (arith, count) in
    ap (λ r. line_words m here ++ tokens_from (suc m) (lines r)) empty
    ∙ ap (λ k. line_words k here ++ []) next
    ∙ ap (λ ts. ts ++ []) (sym (same (suc n)))
    ∙ ap (tokens_from (suc n)) (sym (only_line text whole))

-- ---- how many lines there are

some_piece : (cuts : ℕ → Bool) (text : List ℕ) → 1 ≤ length (pieces cuts text)
some_piece cuts [] = omega arith
some_piece cuts (b ∷ bs) = go (cuts b) (some_piece cuts bs)
  where
    first : (ps : List (List ℕ)) → 1 ≤ length ps → 1 ≤ length (before_first b ps)
    first [] some = omega (arith, some)
    first (p ∷ ps) some = some

    go : (test : Bool) → 1 ≤ length (pieces cuts bs) → 1 ≤ length (cond test ([] ∷ pieces cuts bs) (before_first b (pieces cuts bs)))
    go true some = omega (arith, some)
    go false some = first (pieces cuts bs) some

same_count : (b : ℕ) (ps : List (List ℕ)) → 1 ≤ length ps → length (before_first b ps) ≡ length ps
same_count b [] some = absurd (omega (arith, some))
same_count b (p ∷ ps) some = refl

pub line_more : (text : List ℕ) (i : ℕ) → i < length text → get_or text i 0 ≡ 10 → length (lines (drop i text)) ≡ suc (length (lines (drop (i + 1) text)))
line_more text i within is =
    at_drop_more (λ t. length (lines t)) text i 0 within
    ∙ ap length (ap (λ b. lines (b ∷ drop (i + 1) text)) is ∙ behind_cut ends_line 10 (drop (i + 1) text) refl)

pub line_same : (text : List ℕ) (i : ℕ) → i < length text → get_or text i 0 ≢ 10 → length (lines (drop i text)) ≡ length (lines (drop (i + 1) text))
line_same text i within other =
    let rest = drop (i + 1) text in
    let b = get_or text i 0 in
    at_drop_more (λ t. length (lines t)) text i 0 within
    ∙ ap (λ test. length (cond test ([] ∷ lines rest) (before_first b (lines rest)))) (is_other b 10 other)
    ∙ same_count b (lines rest) (some_piece ends_line rest)

pub some_left : (n : ℕ) (xs : List ℕ) → length (take n xs) ≢ 0 → 0 < length xs
some_left zero [] some = absurd (some refl)
some_left (suc n) [] some = absurd (some refl)
some_left n (x ∷ xs) some = omega arith

-- a line cut behind its first word
pub cut_behind : (n : ℕ) (behind word rest : List ℕ) (k : ℕ) → word ≡ take k behind → rest ≡ drop k behind → k ≤ length behind → 0 < length behind → is_blank (get_or behind 0 0) ≡ false →
    All (λ b. is_blank b ≡ false) (take k behind) → (k < length behind → is_blank (get_or behind k 0) ≡ true) → line_words n behind ≡ token n word ∷ line_words n rest
cut_behind n behind word rest zero front back within some first all ends =
    let clash : false ≡ true = sym first ∙ ends some in cc
cut_behind n behind word rest (suc k) front back within some first all ends =
    ap (line_words n) (sym (take-append-drop (suc k) behind))
    ∙ word_then n (take (suc k) behind) (drop (suc k) behind) (omega (arith, length-take-le (suc k) behind within)) all starts_so
    ∙ (λ i. token n (sym front i) ∷ line_words n (sym back i))
  where
    starts_so : 0 < length (drop (suc k) behind) → is_blank (get_or (drop (suc k) behind) 0 0) ≡ true
    starts_so more =
        let at : suc k + 0 ≡ suc k = omega arith in
        ap is_blank (get_or-drop (suc k) behind 0 0 ∙ ap (λ i. get_or behind i 0) at) ∙ ends (omega (arith, more, length-drop (suc k) behind))

pub not_blank_more : (text : List ℕ) (i : ℕ) → i < length text → All (λ b. is_blank b ≡ false) (take i text) → is_blank (get_or text i 0) ≡ false → All (λ b. is_blank b ≡ false) (take (i + 1) text)
not_blank_more text i within all next =
    subst (All (λ b. is_blank b ≡ false)) (sym (take_more text i 0 within)) (All-append (λ b. is_blank b ≡ false) (take i text) (get_or text i 0 ∷ []) all (All-cons (λ b. is_blank b ≡ false) (get_or text i 0) [] next (All-nil (λ b. is_blank b ≡ false))))
