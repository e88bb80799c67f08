-- A text cut into its lines, line by line.
use Rattle.std.proofs.Common.{◌≡◌, ◌≢◌, ℕ, ◌+◌, ◌<◌, Bool, true, false, not, cond, List, [], ◌∷◌, ◌++◌, length, refl, sym, ap, subst, ◌∙◌, ⊎_elim, inl, inr, arith, ◌^◌, ◌≤◌, drop, get_or}
use Rattle.std.specs.List.{concat, list_all}
use Rattle.std.specs.Str.Parse.{AllDigits}
use Rattle.std.specs.Fmt.{decimal}
use Rattle.std.proofs.lemmas.List.{length-append}
use Rattle.std.proofs.lemmas.Bool.Decides.{eqb_tells}
use Rattle.std.proofs.lemmas.Bool.{eqb-false, eqb-true}
use Rattle.std.specs.Prelude.{◌==◌, ◌&&◌, ⊤}
use Rattle.std.proofs.lemmas.Fmt.{decimal_is_IsNumeral_wide}
use Rattle.std.proofs.lemmas.Str.Parse.{digit_from_value}
use Rattle.std.proofs.lemmas.List.Elements.{All-nil, All-cons, All-head, All-tail}
use Rattle.l2_lines.specs.Lines.{AreLines, IsEnded, IsLine, before_first_line, ended, lines_of}

-- ---- where lines end

is_other : (b : ℕ) → b ≢ 10 → (b == 10) ≡ false
is_other b other = ⊎_elim (λ same. absurd (other same.1)) (λ so. so.0) (eqb_tells b 10)

-- behind a whole line the next one begins
pub lines_of-ended : (line rest : List ℕ) → IsLine line → lines_of (ended line ++ rest) ≡ ended line ∷ lines_of rest
lines_of-ended [] rest whole = refl
lines_of-ended (b ∷ line) rest whole =
    ap (λ test. cond test ((10 ∷ []) ∷ lines_of (ended line ++ rest)) (before_first_line b (lines_of (ended line ++ rest)))) (is_other b (All-head (λ b. b ≢ 10) b line whole))
    ∙ ap (before_first_line b) (lines_of-ended line rest (All-tail (λ b. b ≢ 10) b line whole))

-- what no LF ends is the last line
pub lines_of-open : (b : ℕ) (line : List ℕ) → IsLine (b ∷ line) → lines_of (b ∷ line) ≡ (b ∷ line) ∷ []
lines_of-open b [] whole = ap (λ test. cond test ((10 ∷ []) ∷ []) ((b ∷ []) ∷ [])) (is_other b (All-head (λ b. b ≢ 10) b [] whole))
lines_of-open b (c ∷ line) whole =
    ap (λ test. cond test ((10 ∷ []) ∷ lines_of (c ∷ line)) (before_first_line b (lines_of (c ∷ line)))) (is_other b (All-head (λ b. b ≢ 10) b (c ∷ line) whole))
    ∙ ap (before_first_line b) (lines_of-open c line (All-tail (λ b. b ≢ 10) b (c ∷ line) whole))

-- whole lines, one after another
abbrev pub AllEnded : List (List ℕ) → Type 0
AllEnded [] = ⊤
AllEnded (text ∷ lines) = IsEnded text × AllEnded lines

pub all_ended-append : (xs ys : List (List ℕ)) → AllEnded xs → AllEnded ys → AllEnded (xs ++ ys)
all_ended-append [] ys first then = then
all_ended-append (x ∷ xs) ys first then = (first.0, all_ended-append xs ys first.1 then)

-- whole lines joined are cut into the same lines
pub lines_of-concat : (lines : List (List ℕ)) → AllEnded lines → lines_of (concat lines) ≡ lines
lines_of-concat [] all = refl
lines_of-concat (text ∷ lines) ((line, whole, is), all) =
    ap (λ t. lines_of (t ++ concat lines)) is
    ∙ lines_of-ended line (concat lines) whole
    ∙ (λ i. sym is i ∷ lines_of-concat lines all i)

-- each of some whole lines has an LF
pub ended_among : (before : List (List ℕ)) (text : List ℕ) (after : List (List ℕ)) → AllEnded (before ++ text ∷ after) → IsEnded text
ended_among [] text after all = all.0
ended_among (_ ∷ before) text after all = ended_among before text after all.1

-- and what has no LF is none of them
pub open_is_no_line : (b : ℕ) (line whole : List ℕ) → IsLine (b ∷ line) → b ∷ line ≢ ended whole
open_is_no_line b line whole unended same = clash whole (subst IsLine same unended)
  where
    clash : (xs : List ℕ) → IsLine (ended xs) → ⊥
    clash [] all = All-head (λ b. b ≢ 10) 10 [] all refl
    clash (x ∷ xs) all = clash xs (All-tail (λ b. b ≢ 10) x (ended xs) all)

-- ---- words that have no LF

both : (x : Bool) (y : Bool) → (not x && y) ≡ true → (x ≡ false) × (y ≡ true)
both true y test = let no : false ≡ true = test in cc
both false y test = (refl, test)

pub plain : (xs : List ℕ) → list_all (λ b. not (b == 10)) xs ≡ true → IsLine xs
plain [] test = All-nil (λ b. b ≢ 10)
plain (x ∷ xs) test =
    let parts = both (x == 10) (list_all (λ b. not (b == 10)) xs) test in
    All-cons (λ b. b ≢ 10) x xs (eqb-false x 10 parts.0) (plain xs parts.1)

digits_are_line : (ds : List ℕ) → AllDigits 10 ds → IsLine ds
digits_are_line [] digits = All-nil (λ b. b ≢ 10)
digits_are_line (c ∷ cs) digits = All-cons (λ b. b ≢ 10) c cs (λ same. omega (arith, digit_from_value c digits.0)) (digits_are_line cs digits.1)

pub decimal_is_line : (n : ℕ) → n < 10 ^ 64 → IsLine (decimal n)
decimal_is_line n small = digits_are_line (decimal n) (decimal_is_IsNumeral_wide n small).0.1

-- ---- one line after another

ended_some : (xs : List ℕ) → [] ≢ ended xs
ended_some [] is = cc
ended_some (x ∷ xs) is = cc

-- lines are the same where they are with their LF
pub same_line : (xs ys : List ℕ) → ended xs ≡ ended ys → xs ≡ ys
same_line [] [] is = refl
same_line [] (y ∷ ys) is = absurd (ended_some ys (ap (drop 1) is))
same_line (x ∷ xs) [] is = absurd (ended_some xs (sym (ap (drop 1) is)))
same_line (x ∷ xs) (y ∷ ys) is =
    let first : x ≡ y = ap (λ l. get_or l 0 0) is in
    λ i. first i ∷ same_line xs ys (ap (drop 1) is) i

-- what stands behind a line is shorter than both
pub rest_shorter : (text line rest : List ℕ) → text ≡ ended line ++ rest → length rest + 1 ≤ length text
rest_shorter text line rest is = omega (arith, ap length is, length-append (ended line) rest, length-append line (10 ∷ []))

-- ---- the lines are the text

joined_first : (b : ℕ) (lines : List (List ℕ)) → concat (before_first_line b lines) ≡ b ∷ concat lines
joined_first b [] = refl
joined_first b (line ∷ lines) = refl

pub concat-lines_of : (text : List ℕ) → concat (lines_of text) ≡ text
concat-lines_of [] = refl
concat-lines_of (b ∷ text) = go (b == 10) refl (concat-lines_of text)
  where
    go : (test : Bool) → (b == 10) ≡ test → concat (lines_of text) ≡ text → concat (lines_of (b ∷ text)) ≡ b ∷ text
    go true is rest = ap (λ t. concat (cond t ((10 ∷ []) ∷ lines_of text) (before_first_line b (lines_of text)))) is ∙ (λ i. sym (eqb-true b 10 is) i ∷ rest i)
    go false is rest = ap (λ t. concat (cond t ((10 ∷ []) ∷ lines_of text) (before_first_line b (lines_of text)))) is ∙ joined_first b (lines_of text) ∙ ap (λ x. b ∷ x) rest

longer : (b : ℕ) (text : List ℕ) → b ≢ 10 → IsEnded text → IsEnded (b ∷ text)
longer b text other (line, whole, is) = (b ∷ line, All-cons (λ b. b ≢ 10) b line other whole, ap (λ t. b ∷ t) is)

first_grows : (b : ℕ) (lines : List (List ℕ)) → b ≢ 10 → AreLines lines → AreLines (before_first_line b lines)
first_grows b [] other are = inr (All-cons (λ b. b ≢ 10) b [] other (All-nil (λ b. b ≢ 10)), omega arith)
first_grows b (text ∷ []) other (inl whole) = inl (longer b text other whole)
first_grows b (text ∷ []) other (inr unended) = inr (All-cons (λ b. b ≢ 10) b text other unended.0, omega arith)
first_grows b (text ∷ next ∷ lines) other are = (longer b text other are.0, are.1)

line_before : (lines : List (List ℕ)) → AreLines lines → AreLines ((10 ∷ []) ∷ lines)
line_before [] are = inl ([], All-nil (λ b. b ≢ 10), refl)
line_before (text ∷ lines) are = (([], All-nil (λ b. b ≢ 10), refl), are)

pub lines_of_are : (text : List ℕ) → AreLines (lines_of text)
lines_of_are [] = tt
lines_of_are (b ∷ text) = go (b == 10) refl (lines_of_are text)
  where
    go : (test : Bool) → (b == 10) ≡ test → AreLines (lines_of text) → AreLines (lines_of (b ∷ text))
    go true is rest = subst (λ t. AreLines (cond t ((10 ∷ []) ∷ lines_of text) (before_first_line b (lines_of text)))) (sym is) (line_before (lines_of text) rest)
    go false is rest = subst (λ t. AreLines (cond t ((10 ∷ []) ∷ lines_of text) (before_first_line b (lines_of text)))) (sym is) (first_grows b (lines_of text) (eqb-false b 10 is) rest)
