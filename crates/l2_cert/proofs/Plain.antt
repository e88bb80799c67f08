-- The lines of a certificate are lines of words.
use Rattle.std.proofs.Common.{◌≡◌, ◌≢◌, ℕ, zero, suc, ◌<◌, ◌^◌, ◌+◌, ℤ, pos, negsuc, nat_abs, Bool, true, false, not, ◌==◌, ◌&&◌, Option, Some, None, List, [], ◌∷◌, ◌++◌, length, map, codes, refl, sym, ap, subst, ◌∙◌, arith}
use Rattle.std.specs.List.{All, list_all}
use Rattle.std.specs.Fmt.{decimal, signed_decimal}
use Rattle.std.specs.Str.Parse.{AllDigits}
use Rattle.std.proofs.lemmas.Int.{ints}
use Rattle.std.proofs.lemmas.Fmt.{decimal_is_IsNumeral_wide}
use Rattle.std.proofs.lemmas.Str.Parse.{digit_from_value}
use Rattle.std.proofs.lemmas.Bool.{eqb-false}
use Rattle.std.proofs.lemmas.List.Elements.{All-nil, All-cons, All-head, All-tail, All-append}
use Rattle.l2_cnf.specs.Steps.{Step}
use Rattle.l2_templates.specs.declared.form.Form.{Form}
use Rattle.l2_templates.specs.declared.form.Row.{Row}
use Rattle.l2_templates.specs.declared.point.LoopPoint.{LoopPoint}
use Rattle.l2_templates.specs.declared.point.LoopPoint.TheVariants.{Bottom, Rows}
use Rattle.l2_lines.specs.Lines.{IsLine}
use Rattle.l2_lines.proofs.Cuts.{AllEnded}
use Rattle.l2_cert.specs.declared.cert.Cert.{Cert}
use Rattle.l2_cert.specs.declared.cert.CertKind.{CertKind}
use Rattle.l2_cert.specs.declared.cert.CertKind.TheVariants.{Safe, Terminating}
use Rattle.l2_cert.specs.Words.{HasNoSpace, IsWord, Word, line_of, spaced, words_of}
use Rattle.l2_cert.specs.Certificate.{kind_word, kind_line, checks_word, checks_line, first_line, copies_line, loops_line, bottom_line, rows_line, row_line, ranks_line, rank_line, goals_line, goal_line, step_line, end_line, form_words, second_words, sign_word, bound_words, loop_lines, rank_lines, loops_lines, goal_lines, goals_lines, head_lines, before_goals, file_lines, IsBound, IsForm, IsRow, IsStep, IsLoop, IsGoal, IsLiteral, IsNumber, AreRankings, RanksFit, InGrammar}
use Rattle.l2_cert.proofs.Spaces.{words_of-one, words_of-spaced}

-- ---- words

both : (x y : Bool) → (not x && not y) ≡ true → (x ≡ false) × (y ≡ false)
both true y test = let clash : false ≡ true = test in cc
both false true test = let clash : false ≡ true = test in cc
both false false test = (refl, refl)

one_of : (x : Bool) (y : Bool) → (x && y) ≡ true → (x ≡ true) × (y ≡ true)
one_of true y test = (refl, test)
one_of false y test = let clash : false ≡ true = test in cc

-- bytes that are looked at one by one
pub written : (xs : Word) → list_all (λ b. not (b == 32) && not (b == 10)) xs ≡ true → IsWord xs
written [] test = All-nil (λ b. (b ≢ 32) × (b ≢ 10))
written (x ∷ xs) test =
    let parts = one_of (not (x == 32) && not (x == 10)) (list_all (λ b. not (b == 32) && not (b == 10)) xs) test in
    let no = both (x == 32) (x == 10) parts.0 in
    All-cons (λ b. (b ≢ 32) × (b ≢ 10)) x xs (eqb-false x 32 no.0, eqb-false x 10 no.1) (written xs parts.1)

digits_are_word : (ds : List ℕ) → AllDigits 10 ds → IsWord ds
digits_are_word [] digits = All-nil (λ b. (b ≢ 32) × (b ≢ 10))
digits_are_word (c ∷ cs) digits = All-cons (λ b. (b ≢ 32) × (b ≢ 10)) c cs (λ same. omega (arith, same, digit_from_value c digits.0), λ same. omega (arith, same, digit_from_value c digits.0)) (digits_are_word cs digits.1)

pub decimal_is_word : (n : ℕ) → n < 2 ^ 128 → IsWord (decimal n)
decimal_is_word n small = digits_are_word (decimal n) (decimal_is_IsNumeral_wide n (omega (arith, small))).0.1

pub signed_is_word : (z : ℤ) → nat_abs z < 2 ^ 127 → IsWord (signed_decimal z)
signed_is_word (pos n) small = decimal_is_word n (omega (arith, ints, small))
signed_is_word (negsuc n) small = All-cons (λ b. (b ≢ 32) × (b ≢ 10)) 45 (decimal (suc n)) (λ same. omega (arith, same), λ same. omega (arith, same)) (decimal_is_word (suc n) (omega (arith, ints, small)))

-- ---- lines of words

-- words, at least one
pub record AreWords (words : List Word) : Type 0 where
  pub some : words ≢ []
  pub all : All IsWord words

pub these : (word : Word) (words : List Word) → IsWord word → All IsWord words → AreWords (word ∷ words)
these word words first all = record { some = λ same. cc; all = All-cons IsWord word words first all }

one : (word : Word) → IsWord word → All IsWord (word ∷ [])
one word is = All-cons IsWord word [] is (All-nil IsWord)

two : (v w : Word) → IsWord v → IsWord w → All IsWord (v ∷ w ∷ [])
two v w first second = All-cons IsWord v (w ∷ []) first (one w second)

three : (u v w : Word) → IsWord u → IsWord v → IsWord w → All IsWord (u ∷ v ∷ w ∷ [])
three u v w first second third = All-cons IsWord u (v ∷ w ∷ []) first (two v w second third)

no_space : (word : Word) → IsWord word → HasNoSpace word
no_space [] is = All-nil (λ b. b ≢ 32)
no_space (b ∷ word) is = All-cons (λ b. b ≢ 32) b word (All-head (λ b. (b ≢ 32) × (b ≢ 10)) b word is).0 (no_space word (All-tail (λ b. (b ≢ 32) × (b ≢ 10)) b word is))

no_end : (word : Word) → IsWord word → IsLine word
no_end [] is = All-nil (λ b. b ≢ 10)
no_end (b ∷ word) is = All-cons (λ b. b ≢ 10) b word (All-head (λ b. (b ≢ 32) × (b ≢ 10)) b word is).1 (no_end word (All-tail (λ b. (b ≢ 32) × (b ≢ 10)) b word is))

-- a line that is cut at its spaces is its words again
pub words_again : (words : List Word) → AreWords words → words_of (spaced words) ≡ words
words_again [] are = absurd (are.some refl)
words_again (word ∷ []) are = words_of-one word (no_space word (All-head IsWord word [] are.all))
words_again (word ∷ next ∷ words) are =
    let rest = All-tail IsWord word (next ∷ words) are.all in
    words_of-spaced word (spaced (next ∷ words)) (no_space word (All-head IsWord word (next ∷ words) are.all))
    ∙ ap (λ ws. word ∷ ws) (words_again (next ∷ words) (record { some = λ same. cc; all = rest }))

spaced_is_line : (words : List Word) → All IsWord words → IsLine (spaced words)
spaced_is_line [] all = All-nil (λ b. b ≢ 10)
spaced_is_line (word ∷ []) all = no_end word (All-head IsWord word [] all)
spaced_is_line (word ∷ next ∷ words) all =
    All-append (λ b. b ≢ 10) word (32 ∷ spaced (next ∷ words)) (no_end word (All-head IsWord word (next ∷ words) all))
    (All-cons (λ b. b ≢ 10) 32 (spaced (next ∷ words)) (λ same. omega (arith, same)) (spaced_is_line (next ∷ words) (All-tail IsWord word (next ∷ words) all)))

pub lines_ended : (lines : List (List Word)) → All AreWords lines → AllEnded (map line_of lines)
lines_ended [] all = tt
lines_ended (words ∷ lines) all = ((spaced words, spaced_is_line words (All-head AreWords words lines all).all, refl), lines_ended lines (All-tail AreWords words lines all))

-- ---- the lines of a certificate

number : (n : ℕ) → n < 2 ^ 64 → IsWord (decimal n)
number n small = decimal_is_word n (omega (arith, small))

sign : (plus : Bool) → IsWord (sign_word plus)
sign true = written (codes "+") refl
sign false = written (codes "-") refl

form_are : (f : Form) → IsForm f → All IsWord (form_words f)
form_are f is = All-cons IsWord (sign_word f.plus) (decimal f.first ∷ second_words f.second f.second_plus) (sign f.plus) (All-cons IsWord (decimal f.first) (second_words f.second f.second_plus) (number f.first (omega (arith, is.first_small))) (second f.second f.second_plus is.second_small))
  where
    second : (n : ℕ) (plus : Bool) → n < 2 ^ 32 → All IsWord (second_words n plus)
    second zero plus small = All-nil IsWord
    second (suc n) plus small = two (sign_word plus) (decimal (suc n)) (sign plus) (number (suc n) (omega (arith, small)))

kind_is : (kind : CertKind) → IsWord (kind_word kind)
kind_is Safe = written (codes "safe") refl
kind_is Terminating = written (codes "terminating") refl

checks_is : (overflow : Bool) → IsWord (checks_word overflow)
checks_is true = written (codes "overflow") refl
checks_is false = written (codes "plain") refl

each : {A B : Type 0} (P : A → Type 0) (Q : B → Type 0) (f : A → B) → ((a : A) → P a → Q (f a)) → (xs : List A) → All P xs → All Q (map f xs)
each P Q f is [] all = All-nil Q
each P Q f is (x ∷ xs) all = All-cons Q (f x) (map f xs) (is x (All-head P x xs all)) (each P Q f is xs (All-tail P x xs all))

row_are : (row : Row) → IsRow row → AreWords (row_line row)
row_are row is = these (codes "row") (bound_words row.bound ++ form_words row.form) (written (codes "row") refl) (behind row.bound is.bounded)
  where
    behind : (bound : Option ℤ) → IsBound bound → All IsWord (bound_words bound ++ form_words row.form)
    behind None fits = absurd fits
    behind (Some (pos n)) fits = All-cons IsWord (signed_decimal (pos n)) (form_words row.form) (signed_is_word (pos n) (omega (arith, ints, fits.1))) (form_are row.form is.formed)
    behind (Some (negsuc n)) fits = All-cons IsWord (signed_decimal (negsuc n)) (form_words row.form) (signed_is_word (negsuc n) (omega (arith, ints, fits.0))) (form_are row.form is.formed)

rank_are : (f : Form) → IsForm f → AreWords (rank_line f)
rank_are f is = these (codes "rank") (form_words f) (written (codes "rank") refl) (form_are f is)

step_are : (s : Step) → IsStep s → AreWords (step_line s)
step_are s is =
    these (decimal s.number) (map signed_decimal s.clause ++ decimal 0 ∷ (map decimal s.hints ++ decimal 0 ∷ [])) (number s.number (omega (arith, is.number.1)))
    (All-append IsWord (map signed_decimal s.clause) (decimal 0 ∷ (map decimal s.hints ++ decimal 0 ∷ []))
    (each IsLiteral IsWord signed_decimal (λ z fits. signed_is_word z (omega (arith, fits.1))) s.clause is.clause)
    (All-cons IsWord (decimal 0) (map decimal s.hints ++ decimal 0 ∷ []) (number 0 (omega arith))
    (All-append IsWord (map decimal s.hints) (decimal 0 ∷ []) (each IsNumber IsWord decimal (λ n fits. number n (omega (arith, fits.1))) s.hints is.hints) (one (decimal 0) (number 0 (omega arith))))))

numbered_are : (word : Word) (n : ℕ) → IsWord word → n < 2 ^ 64 → AreWords (word ∷ decimal n ∷ [])
numbered_are word n is small = these word (decimal n ∷ []) is (one (decimal n) (number n small))

loop_are : (i : ℕ) (p : LoopPoint) → i < 2 ^ 64 → IsLoop p → All AreWords (loop_lines i p)
loop_are i Bottom small is = All-cons AreWords (bottom_line i) [] (these (codes "loop") (decimal i ∷ codes "bottom" ∷ []) (written (codes "loop") refl) (two (decimal i) (codes "bottom") (number i small) (written (codes "bottom") refl))) (All-nil AreWords)
loop_are i (Rows rows) small is =
    All-cons AreWords (rows_line i (length rows)) (map row_line rows)
    (these (codes "loop") (decimal i ∷ codes "rows" ∷ decimal (length rows) ∷ []) (written (codes "loop") refl) (three (decimal i) (codes "rows") (decimal (length rows)) (number i small) (written (codes "rows") refl) (number (length rows) (omega (arith, is.0)))))
    (each IsRow AreWords row_line row_are rows is.1)

ranking_are : (i : ℕ) (forms : List Form) → i < 2 ^ 64 → length forms < 2 ^ 32 → All IsForm forms → All AreWords (rank_lines i forms)
ranking_are i forms small few all =
    All-cons AreWords (ranks_line i (length forms)) (map rank_line forms)
    (these (codes "ranks") (decimal i ∷ decimal (length forms) ∷ []) (written (codes "ranks") refl) (two (decimal i) (decimal (length forms)) (number i small) (number (length forms) (omega (arith, few)))))
    (each IsForm AreWords rank_line rank_are forms all)

safe_are : (i : ℕ) (point : List LoopPoint) → i + length point < 2 ^ 64 → All IsLoop point → All AreWords (loops_lines i point [])
safe_are i [] small all = All-nil AreWords
safe_are i (p ∷ point) small all =
    All-append AreWords (loop_lines i p) (loops_lines (suc i) point []) (loop_are i p (omega (arith, small)) (All-head IsLoop p point all)) (safe_are (suc i) point (omega (arith, small)) (All-tail IsLoop p point all))

terminating_are : (i : ℕ) (point : List LoopPoint) (ranks : List (List Form)) → i + length point < 2 ^ 64 → All IsLoop point → AreRankings point ranks → All AreWords (loops_lines i point ranks)
terminating_are i [] ranks small all are = All-nil AreWords
terminating_are i (p ∷ point) [] small all are = absurd are
terminating_are i (p ∷ point) (forms ∷ ranks) small all are =
    All-append AreWords (loop_lines i p ++ rank_lines i forms) (loops_lines (suc i) point ranks)
    (All-append AreWords (loop_lines i p) (rank_lines i forms) (loop_are i p (omega (arith, small)) (All-head IsLoop p point all)) (ranking_are i forms (omega (arith, small)) are.0.0 are.0.2))
    (terminating_are (suc i) point ranks (omega (arith, small)) (All-tail IsLoop p point all) are.1)

loops_are : (kind : CertKind) (point : List LoopPoint) (ranks : List (List Form)) → length point < 2 ^ 32 → All IsLoop point → RanksFit kind point ranks → All AreWords (loops_lines 1 point ranks)
loops_are Safe point ranks few all none = subst (λ rs. All AreWords (loops_lines 1 point rs)) (sym none) (safe_are 1 point (omega (arith, few)) all)
loops_are Terminating point ranks few all are = terminating_are 1 point ranks (omega (arith, few)) all are

goals_are : (j : ℕ) (goals : List (List Step)) → j + length goals < 2 ^ 64 → All IsGoal goals → All AreWords (goals_lines j goals)
goals_are j [] small all = All-nil AreWords
goals_are j (steps ∷ goals) small all =
    let is = All-head IsGoal steps goals all in
    All-append AreWords (goal_lines j steps) (goals_lines (suc j) goals)
    (All-cons AreWords (goal_line j (length steps)) (map step_line steps)
    (these (codes "goal") (decimal j ∷ codes "lines" ∷ decimal (length steps) ∷ []) (written (codes "goal") refl) (three (decimal j) (codes "lines") (decimal (length steps)) (number j (omega (arith, small))) (written (codes "lines") refl) (number (length steps) (omega (arith, is.0)))))
    (each IsStep AreWords step_line step_are steps is.1))
    (goals_are (suc j) goals (omega (arith, small)) (All-tail IsGoal steps goals all))

head_are : (c : Cert) → InGrammar c → All AreWords (head_lines c (length c.point))
head_are c fits =
    All-cons AreWords first_line (kind_line c.kind ∷ checks_line c.overflow ∷ copies_line c.k ∷ loops_line (length c.point) ∷ []) (these (codes "2ls") (codes "certificate" ∷ codes "1" ∷ []) (written (codes "2ls") refl) (two (codes "certificate") (codes "1") (written (codes "certificate") refl) (written (codes "1") refl)))
    (All-cons AreWords (kind_line c.kind) (checks_line c.overflow ∷ copies_line c.k ∷ loops_line (length c.point) ∷ []) (these (codes "kind") (kind_word c.kind ∷ []) (written (codes "kind") refl) (one (kind_word c.kind) (kind_is c.kind)))
    (All-cons AreWords (checks_line c.overflow) (copies_line c.k ∷ loops_line (length c.point) ∷ []) (these (codes "checks") (checks_word c.overflow ∷ []) (written (codes "checks") refl) (one (checks_word c.overflow) (checks_is c.overflow)))
    (All-cons AreWords (copies_line c.k) (loops_line (length c.point) ∷ []) (numbered_are (codes "k") c.k (written (codes "k") refl) (omega (arith, fits.most_copies)))
    (All-cons AreWords (loops_line (length c.point)) [] (numbered_are (codes "loops") (length c.point) (written (codes "loops") refl) (omega (arith, fits.loops))) (All-nil AreWords)))))

pub file_are : (c : Cert) → InGrammar c → All AreWords (file_lines c)
file_are c fits =
    All-append AreWords ((before_goals c ++ goals_line (length c.goals) ∷ []) ++ goals_lines 1 c.goals) (end_line ∷ [])
    (All-append AreWords (before_goals c ++ goals_line (length c.goals) ∷ []) (goals_lines 1 c.goals)
    (All-append AreWords (before_goals c) (goals_line (length c.goals) ∷ [])
    (All-append AreWords (head_lines c (length c.point)) (loops_lines 1 c.point c.ranks) (head_are c fits) (loops_are c.kind c.point c.ranks fits.loops fits.point fits.ranks))
    (All-cons AreWords (goals_line (length c.goals)) [] (numbered_are (codes "goals") (length c.goals) (written (codes "goals") refl) (omega (arith, fits.goal_count))) (All-nil AreWords)))
    (goals_are 1 c.goals (omega (arith, fits.goal_count)) fits.goals))
    (All-cons AreWords end_line [] (these (codes "end") [] (written (codes "end") refl) (All-nil IsWord)) (All-nil AreWords))
