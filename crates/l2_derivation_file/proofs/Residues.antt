-- Lines of a derivation file, one by one.
use Rattle.std.proofs.Common.{◌≡◌, ◌≢◌, ℕ, zero, suc, ◌+◌, ◌-◌, ◌<◌, ◌≤◌, ◌^◌, List, [], ◌∷◌, ◌++◌, length, map, drop, get_or, codes, refl, sym, ap, subst, ◌∙◌, append_assoc, append-nil, ◌↔◌, arith}
use Rattle.std.specs.List.{All}
use Rattle.std.specs.Fmt.{decimal, signed_decimal}
use Rattle.std.proofs.lemmas.List.{length-append}
use Rattle.std.proofs.lemmas.List.Elements.{All-nil, All-cons, All-head, All-tail, All-append}
use Rattle.l2_cnf.specs.Steps.{Step}
use Rattle.l2_lines.specs.Lines.{ended}
use Rattle.l2_lines.proofs.Cuts.{same_line}
use Rattle.l2_lines.proofs.Decimals.{decimal_injective_wide}
use Rattle.l2_cert.specs.Words.{IsWord, Word, spaced, words_of}
use Rattle.l2_cert.specs.Certificate.{IsGoal, IsLiteral, IsNumber, IsStep, step_line}
use Rattle.l2_cert.proofs.Plain.{AreWords, decimal_is_word, signed_is_word, these, words_again}
use Rattle.l2_cert.proofs.Spaces.{joined}
use Rattle.l2_cert.proofs.Unique.{same_step}
use Rattle.l2_derivation_file.specs.File.{count_text, file_lines, header, last_text, lines_behind, step_text}
use Rattle.l2_derivation_file.specs.Reading.{IsRest}

-- ---- a step as a line

spelt : {A : Type 0} (Is : A → Type 0) (spell : A → Word) → ((a : A) → Is a → IsWord (spell a)) → (xs : List A) → All Is xs → All IsWord (map spell xs)
spelt Is spell word [] all = All-nil IsWord
spelt Is spell word (x ∷ xs) all = All-cons IsWord (spell x) (map spell xs) (word x (All-head Is x xs all)) (spelt Is spell word xs (All-tail Is x xs all))

number : (n : ℕ) → n < 2 ^ 64 → IsWord (decimal n)
number n small = decimal_is_word n (omega (arith, small))

pub of_words : (s : Step) → IsStep s → AreWords (step_line s)
of_words s is =
    let numbers = All-append IsWord (map decimal s.hints) (decimal 0 ∷ []) (spelt IsNumber decimal (λ n fits. number n (omega (arith, fits.1))) s.hints is.hints) (All-cons IsWord (decimal 0) [] (number 0 (omega arith)) (All-nil IsWord)) in
    these (decimal s.number) (map signed_decimal s.clause ++ decimal 0 ∷ (map decimal s.hints ++ decimal 0 ∷ [])) (number s.number (omega (arith, is.number.1)))
    (All-append IsWord (map signed_decimal s.clause) (decimal 0 ∷ (map decimal s.hints ++ decimal 0 ∷ []))
    (spelt IsLiteral signed_decimal (λ z fits. signed_is_word z (omega (arith, fits.1))) s.clause is.clause)
    (All-cons IsWord (decimal 0) (map decimal s.hints ++ decimal 0 ∷ []) (number 0 (omega arith)) numbers))

pub step_words : (line : List ℕ) (s : Step) → IsStep s → ended line ≡ step_text s → words_of line ≡ step_line s
step_words line s is same = ap words_of (same_line line (spaced (step_line s)) same) ∙ words_again (step_line s) (of_words s is)

pub step_spelt : (line : List ℕ) (s : Step) → words_of line ≡ step_line s → ended line ≡ step_text s
step_spelt line s is = ap ended (sym (joined line) ∙ ap spaced is)

same_text : (s t : Step) → IsStep s → IsStep t → step_text s ≡ step_text t → s ≡ t
same_text s t first second is = same_step s t first second (sym (words_again (step_line s) (of_words s first)) ∙ step_words (spaced (step_line s)) t second is)

not_empty : (xs ys : List Word) (y : Word) → [] ≢ xs ++ y ∷ ys
not_empty [] ys y is = cc
not_empty (x ∷ xs) ys y is = cc

end_is_no_step : (s : Step) → IsStep s → ended last_text ≢ step_text s
end_is_no_step s is same =
    let words : codes "end" ∷ [] ≡ step_line s = step_words last_text s is same in
    not_empty (map signed_decimal s.clause) (map decimal s.hints ++ decimal 0 ∷ []) (decimal 0) (ap (drop 1) words)

-- ---- the number of steps

same_count : (m n : ℕ) → m < 2 ^ 62 → n < 2 ^ 62 → count_text m ≡ count_text n → m ≡ n
same_count m n first second is = decimal_injective_wide m n (omega (arith, first)) (omega (arith, second)) (ap (drop 6) is)

-- ---- from line to line

pub header_goes : (line : List ℕ) → line ≡ header → (rest : List (List ℕ)) (steps : List Step) → (IsGoal steps × (ended line ∷ rest ≡ file_lines steps)) ↔ (IsGoal steps × (rest ≡ ended (count_text (length steps)) ∷ lines_behind steps))
header_goes line is rest steps = (λ (goal, same). (goal, ap (drop 1) same), λ (goal, same). (goal, λ i. ended (is i) ∷ same i))

pub header_stops : (line : List ℕ) → line ≢ header → (rest : List (List ℕ)) (steps : List Step) → ¬ (IsGoal steps × (ended line ∷ rest ≡ file_lines steps))
header_stops line other rest steps (goal, same) = other (same_line line header (ap (λ l. get_or l 0 []) same))

pub count_goes : (before : List Step) (n : ℕ) (line : List ℕ) → before ≡ [] → n < 2 ^ 62 → line ≡ count_text n → (rest : List (List ℕ)) (steps : List Step) → (IsGoal steps × (ended line ∷ rest ≡ ended (count_text (length steps)) ∷ lines_behind steps)) ↔ (IsGoal steps × IsRest before n rest steps)
count_goes before n line none small is rest steps = (forth, back)
  where
    forth : IsGoal steps × (ended line ∷ rest ≡ ended (count_text (length steps)) ∷ lines_behind steps) → IsGoal steps × IsRest before n rest steps
    forth (goal, same) =
        let text : line ≡ count_text (length steps) = same_line line (count_text (length steps)) (ap (λ l. get_or l 0 []) same) in
        let count : n ≡ length steps = same_count n (length steps) small goal.0 (sym is ∙ text) in
        (goal, record { more = steps; whole = ap (λ b. b ++ steps) (sym none); count = sym count; lines = ap (drop 1) same })

    back : IsGoal steps × IsRest before n rest steps → IsGoal steps × (ended line ∷ rest ≡ ended (count_text (length steps)) ∷ lines_behind steps)
    back (goal, r) =
        let all : steps ≡ r.more = r.whole ∙ ap (λ b. b ++ r.more) none in
        let text : line ≡ count_text (length steps) = is ∙ ap count_text (sym r.count ∙ ap length (sym all)) in
        (goal, λ i. ended (text i) ∷ (r.lines ∙ ap lines_behind (sym all)) i)

pub count_stops : (line : List ℕ) → ((n : ℕ) → n < 2 ^ 62 → line ≢ count_text n) → (rest : List (List ℕ)) (steps : List Step) → ¬ (IsGoal steps × (ended line ∷ rest ≡ ended (count_text (length steps)) ∷ lines_behind steps))
count_stops line none rest steps (goal, same) = none (length steps) goal.0 (same_line line (count_text (length steps)) (ap (λ l. get_or l 0 []) same))

one_of : (before more : List Step) (t : Step) (steps : List Step) → steps ≡ before ++ t ∷ more → IsGoal steps → IsStep t
one_of before more t steps is goal = go before (subst (All IsStep) is goal.1)
  where
    go : (before : List Step) → All IsStep (before ++ t ∷ more) → IsStep t
    go [] all = All-head IsStep t more all
    go (s ∷ before) all = go before (All-tail IsStep s (before ++ t ∷ more) all)

-- the first step that is left
pub record Next (before : List Step) (m : ℕ) (line : List ℕ) (rest : List (List ℕ)) (steps : List Step) : Type 0 where
  pub step : Step
  pub is_step : IsStep step
  pub text : ended line ≡ step_text step
  pub left : IsRest (before ++ step ∷ []) m rest steps

next_of : (before : List Step) (m : ℕ) (line : List ℕ) (rest : List (List ℕ)) (steps : List Step) → 1 ≤ m → IsGoal steps → IsRest before m (ended line ∷ rest) steps → Next before (m - 1) line rest steps
next_of before m line rest steps some goal r = go r.more r.whole r.count r.lines
  where
    go : (more : List Step) → steps ≡ before ++ more → length more ≡ m → ended line ∷ rest ≡ lines_behind more → Next before (m - 1) line rest steps
    go [] whole count lines = absurd (omega (arith, some, count))
    go (t ∷ more) whole count lines = record {
      step = t;
      is_step = one_of before more t steps whole goal;
      text = ap (λ l. get_or l 0 []) lines;
      left = record { more = more; whole = whole ∙ sym (append_assoc before (t ∷ []) more); count = omega (arith, count); lines = ap (drop 1) lines };
    }

pub step_goes : (before : List Step) (m : ℕ) (line : List ℕ) (s : Step) → 1 ≤ m → IsStep s → ended line ≡ step_text s → (rest : List (List ℕ)) (steps : List Step) → (IsGoal steps × IsRest before m (ended line ∷ rest) steps) ↔ (IsGoal steps × IsRest (before ++ s ∷ []) (m - 1) rest steps)
step_goes before m line s some is same rest steps = (forth, back)
  where
    forth : IsGoal steps × IsRest before m (ended line ∷ rest) steps → IsGoal steps × IsRest (before ++ s ∷ []) (m - 1) rest steps
    forth (goal, r) =
        let next = next_of before m line rest steps some goal r in
        (goal, subst (λ x. IsRest (before ++ x ∷ []) (m - 1) rest steps) (same_text next.step s next.is_step is (sym next.text ∙ same)) next.left)

    back : IsGoal steps × IsRest (before ++ s ∷ []) (m - 1) rest steps → IsGoal steps × IsRest before m (ended line ∷ rest) steps
    back (goal, r) = (
      goal,
      record {
        more = s ∷ r.more;
        whole = r.whole ∙ append_assoc before (s ∷ []) r.more;
        count = omega (arith, some, r.count);
        lines = λ i. same i ∷ r.lines i;
      },
    )

pub step_stops : (before : List Step) (m : ℕ) (line : List ℕ) → 1 ≤ m → ((s : Step) → IsStep s → words_of line ≢ step_line s) → (rest : List (List ℕ)) (steps : List Step) → ¬ (IsGoal steps × IsRest before m (ended line ∷ rest) steps)
step_stops before m line some none rest steps (goal, r) =
    let next = next_of before m line rest steps some goal r in
    none next.step next.is_step (step_words line next.step next.is_step next.text)

-- behind the last step
last_of : (before : List Step) (m : ℕ) (lines : List (List ℕ)) (steps : List Step) → m ≡ 0 → IsRest before m lines steps → (steps ≡ before) × (lines ≡ ended last_text ∷ [])
last_of before m lines steps none r = go r.more r.whole r.count r.lines
  where
    go : (more : List Step) → steps ≡ before ++ more → length more ≡ m → lines ≡ lines_behind more → (steps ≡ before) × (lines ≡ ended last_text ∷ [])
    go [] whole count is = (whole ∙ append-nil before, is)
    go (t ∷ more) whole count is = absurd (omega (arith, none, count))

pub end_goes : (before : List Step) (m : ℕ) (line : List ℕ) → m ≡ 0 → All IsStep before → length before + m < 2 ^ 62 → line ≡ last_text → (rest : List (List ℕ)) (steps : List Step) → (IsGoal steps × IsRest before m (ended line ∷ rest) steps) ↔ ((rest ≡ []) × (steps ≡ before))
end_goes before m line none all few is rest steps = (
  λ (goal, r). let last = last_of before m (ended line ∷ rest) steps none r in (ap (drop 1) last.1, last.0),
  λ (over, same).
      let small : length steps < 2 ^ 62 = omega (arith, few, ap length same) in
      ((small, subst (All IsStep) (sym same) all), record { more = []; whole = same ∙ sym (append-nil before); count = sym none; lines = λ i. ended (is i) ∷ over i }),
)

pub end_stops : (before : List Step) (m : ℕ) (line : List ℕ) → m ≡ 0 → line ≢ last_text → (rest : List (List ℕ)) (steps : List Step) → ¬ (IsGoal steps × IsRest before m (ended line ∷ rest) steps)
end_stops before m line none other rest steps (goal, r) =
    let last = last_of before m (ended line ∷ rest) steps none r in
    other (same_line line last_text (ap (λ l. get_or l 0 []) last.1))

pub no_end : (before : List Step) (m : ℕ) (steps : List Step) → ¬ IsRest before m [] steps
no_end before m steps r = go r.more r.lines
  where
    go : (more : List Step) → [] ≢ lines_behind more
    go [] is = cc
    go (t ∷ more) is = cc

-- ---- so many more steps

abbrev one_step : Step
one_step = record { number = 1; clause = []; hints = [] }

one_step_is : IsStep one_step
one_step_is = record { number = (omega arith, omega arith); clause = All-nil IsLiteral; hints = All-nil IsNumber }

abbrev ones : ℕ → List Step
ones zero = []
ones (suc m) = one_step ∷ ones m

ones_are : (m : ℕ) → All IsStep (ones m)
ones_are zero = All-nil IsStep
ones_are (suc m) = All-cons IsStep one_step (ones m) one_step_is (ones_are m)

ones_count : (m : ℕ) → length (ones m) ≡ m
ones_count zero = refl
ones_count (suc m) = let rest = ones_count m in omega (arith, rest)

pub can_end : (before : List Step) (m : ℕ) → All IsStep before → length before + m < 2 ^ 62 → (lines : List (List ℕ)) × (steps : List Step) × IsGoal steps × IsRest before m lines steps
can_end before m all few = (
  lines_behind (ones m),
  before ++ ones m,
  (let count = ones_count m in omega (arith, few, count, length-append before (ones m)), All-append IsStep before (ones m) all (ones_are m)),
  record { more = ones m; whole = refl; count = ones_count m; lines = refl },
)

pub steps_more : (before : List Step) (s : Step) (m : ℕ) → All IsStep before → length before + m < 2 ^ 62 → 1 ≤ m → IsStep s → All IsStep (before ++ s ∷ []) × (length (before ++ s ∷ []) + (m - 1) < 2 ^ 62)
steps_more before s m all few some is = (All-append IsStep before (s ∷ []) all (All-cons IsStep s [] is (All-nil IsStep)), omega (arith, few, some, length-append before (s ∷ [])))
