-- The lines of values files: which line may follow some others.
use Rattle.std.proofs.Common.{◌≡◌, ◌≢◌, ◌⊎◌, inl, inr, ℕ, ◌+◌, ◌<◌, ◌≤◌, ℤ, pos, negsuc, suc, List, [], ◌∷◌, ◌++◌, map, length, get_or, drop, codes, refl, sym, ap, subst, ◌∙◌, append_assoc, append-nil, arith}
use Rattle.std.specs.Fmt.{decimal, signed_decimal}
use Rattle.std.specs.List.{All, concat}
use Rattle.std.proofs.lemmas.Int.{ints}
use Rattle.std.proofs.lemmas.List.Elements.{All-cons, All-head, All-tail, All-append}
use Rattle.l2_lines.specs.Lines.{lines_of, IsLine, ended, Begins, GoesOnInNone, IsFirstBad}
use Rattle.l2_lines.proofs.Cuts.{AllEnded, all_ended-append, decimal_is_line, ended_among, lines_of-concat, lines_of-ended, lines_of-open, open_is_no_line, plain, same_line}
use Rattle.l2_witness.specs.declared.reading.Stage.{Stage}
use Rattle.l2_witness.specs.declared.reading.Stage.TheVariants.{Header, Turns, Choices, Over}
use Rattle.l2_witness.specs.ValuesFile.{header, turns_line, choice_line, last_line, file_lines, spelling, IsChoice, InRange, IsFile}
use Rattle.l2_witness.specs.declared.reading.Reading.{Reading}
use Rattle.l2_witness.specs.Read.{Keeps, lines_before, seen}
use Rattle.std.specs.Prelude.{FitsSigned}
use Rattle.std.specs.Int.{w128}
use Rattle.std.proofs.lemmas.List.Folds.{concat-append}
use Rattle.std.proofs.lemmas.List.{map-append, take_more}
use Rattle.std.proofs.Common.{take}
use Rattle.l2_lines.proofs.Decimals.{decimal_injective_wide, signed_decimal_injective_wide}

-- ---- the line that comes next

pub header_next : (text : List ℕ) → Begins IsFile (text ∷ []) → text ≡ header
header_next text (more, (turns, choices, range, is)) = ap (λ l. get_or l 0 []) is

pub turns_next : (text : List ℕ) → Begins IsFile (header ∷ text ∷ []) → (turns : ℕ) × (turns ≤ 100000000) × (text ≡ turns_line turns)
turns_next text (more, (turns, choices, range, is)) = (turns, range.turns_within, ap (λ l. get_or l 1 []) is)

last_is_no_choice : (choice : ℤ) → last_line ≢ choice_line choice
last_is_no_choice choice is = let first : 101 ≡ 99 = ap (λ l. get_or l 0 0) is in omega (arith, first)

next_of : (choices given : List ℤ) (text : List ℕ) (more : List (List ℕ)) → All IsChoice choices → (map choice_line given ++ text ∷ []) ++ more ≡ map choice_line choices ++ last_line ∷ [] → (text ≡ last_line) ⊎ ((choice : ℤ) × IsChoice choice × (text ≡ choice_line choice))
next_of [] [] text more all is = inl (ap (λ l. get_or l 0 []) is)
next_of [] (g ∷ given) text more all is = absurd (last_is_no_choice g (sym (ap (λ l. get_or l 0 []) is)))
next_of (c ∷ choices) [] text more all is = inr (c, All-head IsChoice c choices all, ap (λ l. get_or l 0 []) is)
next_of (c ∷ choices) (g ∷ given) text more all is = next_of choices given text more (All-tail IsChoice c choices all) (ap (drop 1) is)

pub choice_next : (turns : ℕ) (given : List ℤ) (text : List ℕ) → Begins IsFile ((header ∷ turns_line turns ∷ map choice_line given) ++ text ∷ []) → (text ≡ last_line) ⊎ ((choice : ℤ) × IsChoice choice × (text ≡ choice_line choice))
choice_next turns given text (more, (others, choices, range, is)) = next_of choices given text more range.choices_within (ap (drop 2) is)

none_after : (choices given : List ℤ) (text : List ℕ) (more : List (List ℕ)) → ((map choice_line given ++ last_line ∷ []) ++ text ∷ []) ++ more ≢ map choice_line choices ++ last_line ∷ []
none_after [] [] text more is = let rest : text ∷ more ≡ [] = ap (drop 1) is in cc
none_after [] (g ∷ given) text more is = last_is_no_choice g (sym (ap (λ l. get_or l 0 []) is))
none_after (c ∷ choices) [] text more is = last_is_no_choice c (ap (λ l. get_or l 0 []) is)
none_after (c ∷ choices) (g ∷ given) text more is = none_after choices given text more (ap (drop 1) is)

pub over_next : (turns : ℕ) (given : List ℤ) (text : List ℕ) → ¬ Begins IsFile (file_lines turns given ++ text ∷ [])
over_next turns given text (more, (others, choices, range, is)) = none_after choices given text more (ap (drop 2) is)

-- ---- what was read begins a file, and is one where all of it was read

pub begins_before : (stage : Stage) (turns : ℕ) (choices : List ℤ) → InRange turns choices → Begins IsFile (lines_before stage turns choices)
begins_before Header turns choices range = (file_lines turns choices, (turns, choices, range, refl))
begins_before Turns turns choices range = (turns_line turns ∷ (map choice_line choices ++ last_line ∷ []), (turns, choices, range, refl))
begins_before Choices turns choices range = (last_line ∷ [], (turns, choices, range, refl))
begins_before Over turns choices range = ([], (turns, choices, range, append-nil (file_lines turns choices)))

not_all : (given choices : List ℤ) → map choice_line given ≢ map choice_line choices ++ last_line ∷ []
not_all [] [] is = cc
not_all [] (c ∷ choices) is = cc
not_all (g ∷ given) [] is = last_is_no_choice g (sym (ap (λ l. get_or l 0 []) is))
not_all (g ∷ given) (c ∷ choices) is = not_all given choices (ap (drop 1) is)

pub unfinished : (stage : Stage) (turns : ℕ) (given : List ℤ) → stage ≢ Over → ¬ IsFile (lines_before stage turns given)
unfinished Header turns given early (others, choices, range, is) = cc
unfinished Turns turns given early (others, choices, range, is) = let rest : [] ≡ turns_line others ∷ (map choice_line choices ++ last_line ∷ []) = ap (drop 1) is in cc
unfinished Choices turns given early (others, choices, range, is) = not_all given choices (ap (drop 2) is)
unfinished Over turns given early file = early refl

-- ---- each line of a file ends with its LF

choices_ended : (choices : List ℤ) → All IsChoice choices → AllEnded (map choice_line choices)
choices_ended [] all = tt
choices_ended (c ∷ choices) all = ((codes "choice " ++ signed_decimal c, All-append (λ b. b ≢ 10) (codes "choice ") (signed_decimal c) (plain (codes "choice ") refl) (signed c (All-head IsChoice c choices all)), refl), choices_ended choices (All-tail IsChoice c choices all))
  where
    signed : (c : ℤ) → IsChoice c → IsLine (signed_decimal c)
    signed (pos n) fits = decimal_is_line n (omega (arith, ints, fits.0, fits.1))
    signed (negsuc n) fits = All-cons (λ b. b ≢ 10) 45 (decimal (suc n)) (λ same. omega (arith, same)) (decimal_is_line (suc n) (omega (arith, ints, fits.0, fits.1)))

pub file_ended : (turns : ℕ) (choices : List ℤ) → InRange turns choices → AllEnded (file_lines turns choices)
file_ended turns choices range = (
  (codes "2ls values 1", plain (codes "2ls values 1") refl, refl),
  (
    (codes "turns " ++ decimal turns, All-append (λ b. b ≢ 10) (codes "turns ") (decimal turns) (plain (codes "turns ") refl) (decimal_is_line turns (omega (arith, range.turns_within))), refl),
    all_ended-append (map choice_line choices) (last_line ∷ []) (choices_ended choices range.choices_within) ((codes "end", plain (codes "end") refl, refl), tt),
  ),
)

-- so a line without one is in no file
pub open_line : (before : List (List ℕ)) (text : List ℕ) → 0 < length text → IsLine text → GoesOnInNone IsFile before (lines_of text)
open_line before [] some whole = absurd (omega arith)
open_line before (b ∷ text) some whole = subst (GoesOnInNone IsFile before) (sym (lines_of-open b text whole)) stops
  where
    stops : ¬ Begins IsFile (before ++ (b ∷ text) ∷ [])
    stops (more, (turns, choices, range, is)) =
        let all : AllEnded (before ++ (b ∷ text) ∷ more) = subst AllEnded (sym is ∙ append_assoc before ((b ∷ text) ∷ []) more) (file_ended turns choices range) in
        let found = ended_among before (b ∷ text) more all in
        open_is_no_line b text found.0 whole found.2

pub bad_line : (before : List (List ℕ)) (text line rest : List ℕ) → IsLine line → text ≡ ended line ++ rest → ¬ Begins IsFile (before ++ ended line ∷ []) → GoesOnInNone IsFile before (lines_of text)
bad_line before text line rest whole is stops = subst (GoesOnInNone IsFile before) (sym (ap lines_of is ∙ lines_of-ended line rest whole)) stops

-- ---- a file has no bad line

pub spelling_lines : (bytes : List ℕ) (turns : ℕ) (choices : List ℤ) → InRange turns choices → bytes ≡ spelling turns choices → lines_of bytes ≡ file_lines turns choices
spelling_lines bytes turns choices range is = ap lines_of is ∙ lines_of-concat (file_lines turns choices) (file_ended turns choices range)

goes_on : (before rest : List (List ℕ)) → IsFile (before ++ rest) → ¬ GoesOnInNone IsFile before rest
goes_on before [] file stops = stops (subst IsFile (append-nil before) file)
goes_on before (line ∷ rest) file stops = stops (rest, subst IsFile (sym (append_assoc before (line ∷ []) rest)) file)

pub bad_is_no_file : (bytes : List ℕ) (n turns : ℕ) (choices : List ℤ) → IsFirstBad IsFile (lines_of bytes) n → InRange turns choices → bytes ≢ spelling turns choices
bad_is_no_file bytes n turns choices (before, rest, parts, count, begins, stops) range is =
    goes_on before rest (turns, choices, range, sym parts ∙ spelling_lines bytes turns choices range is) stops

pub first_bad : (bytes : List ℕ) (r : Reading) (line : ℕ) (rest : List (List ℕ)) → lines_of bytes ≡ seen r ++ rest → line ≡ length (seen r) + 1 → Keeps r → GoesOnInNone IsFile (seen r) rest → IsFirstBad IsFile (lines_of bytes) line
first_bad bytes r line rest parts count keeps stops = (seen r, rest, parts, count, begins_before r.stage r.turns r.choices.items keeps.in_range, stops)

-- ---- a file spells one list of values

pub choice_fits : (choice : ℤ) → IsChoice choice → FitsSigned w128 choice
choice_fits (pos n) fits = record { sfits = omega (arith, ints, fits.0, fits.1) }
choice_fits (negsuc n) fits = record { sfits = omega (arith, ints, fits.0, fits.1) }

same_choice : (c d : ℤ) → IsChoice c → IsChoice d → choice_line c ≡ choice_line d → c ≡ d
same_choice c d first second is = signed_decimal_injective_wide c d (choice_fits c first) (choice_fits d second) (ap (drop 7) (same_line (codes "choice " ++ signed_decimal c) (codes "choice " ++ signed_decimal d) is))

same_choices : (cs ds : List ℤ) → All IsChoice cs → All IsChoice ds → map choice_line cs ++ last_line ∷ [] ≡ map choice_line ds ++ last_line ∷ [] → cs ≡ ds
same_choices [] [] first second is = refl
same_choices [] (d ∷ ds) first second is = absurd (last_is_no_choice d (ap (λ l. get_or l 0 []) is))
same_choices (c ∷ cs) [] first second is = absurd (last_is_no_choice c (sym (ap (λ l. get_or l 0 []) is)))
same_choices (c ∷ cs) (d ∷ ds) first second is =
    let head = same_choice c d (All-head IsChoice c cs first) (All-head IsChoice d ds second) (ap (λ l. get_or l 0 []) is) in
    let tail = same_choices cs ds (All-tail IsChoice c cs first) (All-tail IsChoice d ds second) (ap (drop 1) is) in
    λ i. head i ∷ tail i

same_turns : (m n : ℕ) → m ≤ 100000000 → n ≤ 100000000 → turns_line m ≡ turns_line n → m ≡ n
same_turns m n first second is = decimal_injective_wide m n (omega arith) (omega arith) (ap (drop 6) (same_line (codes "turns " ++ decimal m) (codes "turns " ++ decimal n) is))

pub same_values : (m n : ℕ) (cs ds : List ℤ) → InRange m cs → InRange n ds → file_lines m cs ≡ file_lines n ds → (m ≡ n) × (cs ≡ ds)
same_values m n cs ds first second is = (
  same_turns m n first.turns_within second.turns_within (ap (λ l. get_or l 1 []) is),
  same_choices cs ds first.choices_within second.choices_within (ap (drop 2) is),
)

-- ---- the step of the loop that reads

pub empty : (xs : List ℕ) → length xs ≡ 0 → xs ≡ []
empty [] none = refl
empty (x ∷ xs) none = absurd (omega arith)

pub bytes_more : (bytes text line rest : List ℕ) (lines : List (List ℕ)) → bytes ≡ concat lines ++ text → text ≡ ended line ++ rest → bytes ≡ concat (lines ++ ended line ∷ []) ++ rest
bytes_more bytes text line rest lines so is =
    so ∙ ap (λ t. concat lines ++ t) is
    ∙ sym (ap (λ x. x ++ rest) (concat-append lines (ended line ∷ [])) ∙ ap (λ x. (concat lines ++ x) ++ rest) (append-nil (ended line)) ∙ append_assoc (concat lines) (ended line) rest)

pub lines_more : (bytes text line rest : List ℕ) (lines : List (List ℕ)) → lines_of bytes ≡ lines ++ lines_of text → IsLine line → text ≡ ended line ++ rest → lines_of bytes ≡ (lines ++ ended line ∷ []) ++ lines_of rest
lines_more bytes text line rest lines so whole is =
    so ∙ ap (λ t. lines ++ lines_of t) is ∙ ap (λ ls. lines ++ ls) (lines_of-ended line rest whole) ∙ sym (append_assoc lines (ended line ∷ []) (lines_of rest))

-- where the lines of a whole file are read, no other values are spelt by these bytes
pub only_values : (bytes : List ℕ) (stage : Stage) (m n : ℕ) (cs ds : List ℤ) → stage ≡ Over → lines_of bytes ≡ lines_before stage m cs ++ [] → InRange m cs → InRange n ds → bytes ≡ spelling n ds → (m ≡ n) × (cs ≡ ds)
only_values bytes stage m n cs ds over so first second is =
    same_values m n cs ds first second
    (sym (so ∙ append-nil (lines_before stage m cs) ∙ ap (λ s. lines_before s m cs) over) ∙ spelling_lines bytes n ds second is)

-- ---- the step of the loop that writes

pub written_more : (choices : List ℤ) (i : ℕ) (d : ℤ) → i < length choices → concat (map choice_line (take (i + 1) choices)) ≡ concat (map choice_line (take i choices)) ++ choice_line (get_or choices i d)
written_more choices i d inside =
    ap (λ cs. concat (map choice_line cs)) (take_more choices i d inside)
    ∙ ap concat (map-append choice_line (take i choices) (get_or choices i d ∷ []))
    ∙ concat-append (map choice_line (take i choices)) (choice_line (get_or choices i d) ∷ [])
    ∙ ap (λ x. concat (map choice_line (take i choices)) ++ x) (append-nil (choice_line (get_or choices i d)))

pub written_all : (turns : ℕ) (choices : List ℤ) → ((header ++ turns_line turns) ++ concat (map choice_line choices)) ++ last_line ≡ spelling turns choices
written_all turns choices =
    append_assoc (header ++ turns_line turns) (concat (map choice_line choices)) last_line
    ∙ ap (λ x. (header ++ turns_line turns) ++ x) (sym (concat-append (map choice_line choices) (last_line ∷ [])))
    ∙ append_assoc header (turns_line turns) (concat (map choice_line choices ++ last_line ∷ []))
