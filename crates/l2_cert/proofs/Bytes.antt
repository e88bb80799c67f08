-- The bytes of a certificate, and the first line that no certificate has.
use Rattle.std.proofs.Common.{◌≡◌, ◌≢◌, inl, inr, ℕ, ◌+◌, ◌<◌, List, [], ◌∷◌, ◌++◌, length, map, refl, sym, ap, subst, ◌∙◌, get_or, drop, append_assoc, append-nil, arith}
use Rattle.std.specs.List.{All, concat}
use Rattle.std.proofs.lemmas.List.{length-map, map-append}
use Rattle.std.proofs.lemmas.List.Folds.{concat-append}
use Rattle.std.proofs.lemmas.List.Elements.{All-head, All-tail, All-nil, All-cons}
use Rattle.l2_lines.specs.Lines.{Begins, GoesOnInNone, IsFirstBad, IsLine, ended, lines_of}
use Rattle.l2_lines.proofs.Cuts.{AllEnded, ended_among, lines_of-concat, lines_of-ended, lines_of-open, open_is_no_line, same_line}
use Rattle.l2_cert.specs.declared.cert.Cert.{Cert}
use Rattle.l2_cert.specs.Words.{Word, line_of, spaced, words_of}
use Rattle.l2_cert.specs.Certificate.{IsFile, InGrammar, file_lines, spelling}
use Rattle.l2_cert.specs.Machine.{State, Goes, GoesBy, at, nothing, AtFirst, Done}
use Rattle.l2_cert.specs.Kept.{Kept, seen}
use Rattle.l2_cert.specs.declared.reading.Reading.{Reading}
use Rattle.l2_cert.specs.declared.reading.Stage.{Stage}
use Rattle.l2_cert.specs.declared.reading.Stage.TheVariants.{First, Kind, Checks, Copies, Loops, Loop, Row, Ranks, Rank, Goals, Goal, Step, End, Over}
use Rattle.l2_cert.specs.Reading.{StopsAt, place_at, state_of}
use Rattle.l2_cert.proofs.Finish.{begins}
use Rattle.l2_cert.proofs.Goes.{goes_on_by}
use Rattle.l2_cert.proofs.Spaces.{joined}
use Rattle.l2_cert.proofs.Plain.{AreWords, file_are, lines_ended, words_again}
use Rattle.l2_cert.proofs.Unique.{one_end, parted}
use Rattle.l2_cert.proofs.Whole.{file_goes, then_by}

-- what was read from the beginning
pub record WasRead (s : State) : Type 0 where
  pub kept : Kept s
  pub goes : GoesBy (at AtFirst nothing) (seen s) s

same_words : (v w : List Word) → AreWords v → AreWords w → line_of v ≡ line_of w → v ≡ w
same_words v w first second is = sym (words_again v first) ∙ ap words_of (same_line (spaced v) (spaced w) is) ∙ words_again w second

front_are : (xs ys : List (List Word)) → All AreWords (xs ++ ys) → All AreWords xs
front_are [] ys all = All-nil AreWords
front_are (x ∷ xs) ys all = All-cons AreWords x xs (All-head AreWords x (xs ++ ys) all) (front_are xs ys (All-tail AreWords x (xs ++ ys) all))

-- lines that begin others, and the line behind them
line_behind : (xs all : List (List Word)) (line : List ℕ) (more : List (List ℕ)) → All AreWords xs → All AreWords all → map line_of xs ++ line ∷ more ≡ map line_of all → (words : List Word) × (rest : List (List Word)) × (all ≡ xs ++ words ∷ rest) × (line ≡ line_of words) × AreWords words
line_behind [] [] line more first second is = cc
line_behind [] (y ∷ all) line more first second is = (y, all, refl, ap (λ l. get_or l 0 []) is, All-head AreWords y all second)
line_behind (x ∷ xs) [] line more first second is = cc
line_behind (x ∷ xs) (y ∷ all) line more first second is =
    let same = same_words x y (All-head AreWords x xs first) (All-head AreWords y all second) (ap (λ l. get_or l 0 []) is) in
    let (words, rest, so, spelt, are) = line_behind xs all line more (All-tail AreWords x xs first) (All-tail AreWords y all second) (ap (drop 1) is) in
    (words, rest, (λ i. sym same i ∷ so i), spelt, are)

same_lines : (xs ys : List (List Word)) → All AreWords xs → All AreWords ys → map line_of xs ≡ map line_of ys → xs ≡ ys
same_lines [] [] first second is = refl
same_lines [] (y ∷ ys) first second is = cc
same_lines (x ∷ xs) [] first second is = cc
same_lines (x ∷ xs) (y ∷ ys) first second is =
    let head = same_words x y (All-head AreWords x xs first) (All-head AreWords y ys second) (ap (λ l. get_or l 0 []) is) in
    let tail = same_lines xs ys (All-tail AreWords x xs first) (All-tail AreWords y ys second) (ap (drop 1) is) in
    λ i. head i ∷ tail i

seen_are : (s : State) → WasRead s → All AreWords (seen s)
seen_are s read = let (c, more, fits, is) = begins s read.kept in front_are (seen s) more (subst (All AreWords) is (file_are c fits))

pub lines_begin : (s : State) → WasRead s → Begins IsFile (map line_of (seen s))
lines_begin s read = let (c, more, fits, is) = begins s read.kept in (map line_of more, (c, fits, sym (ap (map line_of) is ∙ map-append line_of (seen s) more)))

-- a line that isn't taken is in no certificate there
pub no_line : (s : State) (line : List ℕ) → WasRead s → ((t : State) → ¬ Goes s (words_of line) t) → ¬ Begins IsFile (map line_of (seen s) ++ ended line ∷ [])
no_line s line read none (more, (c, fits, is)) =
    let (words, rest, so, spelt, are) = line_behind (seen s) (file_lines c) (ended line) more (seen_are s read) (file_are c fits) (sym (append_assoc (map line_of (seen s)) (ended line ∷ []) more) ∙ is) in
    let all : GoesBy (at AtFirst nothing) (seen s ++ words ∷ rest) (at Done c) = subst (λ ls. GoesBy (at AtFirst nothing) ls (at Done c)) so (file_goes c fits) in
    let (mid, before, after) = parted (at AtFirst nothing) (at Done c) (seen s) (words ∷ rest) all in
    let same : mid ≡ s = one_end (at AtFirst nothing) mid s (seen s) before read.goes in
    let cut : words ≡ words_of line = sym (words_again words are) ∙ ap words_of (sym (same_line line (spaced words) spelt)) in
    none after.0 (subst (λ ws. Goes s ws after.0) cut (subst (λ x. Goes x words after.0) same after.1))

-- what is no whole certificate yet is none
pub not_whole : (s : State) → WasRead s → ((c : Cert) → s ≢ at Done c) → ¬ IsFile (map line_of (seen s))
not_whole s read early (c, fits, is) =
    let same = same_lines (seen s) (file_lines c) (seen_are s read) (file_are c fits) is in
    early c (one_end (at AtFirst nothing) s (at Done c) (file_lines c) (subst (λ ls. GoesBy (at AtFirst nothing) ls s) same read.goes) (file_goes c fits))

-- the lines of the bytes of a certificate
pub spelling_lines : (bytes : List ℕ) (c : Cert) → InGrammar c → bytes ≡ spelling c → lines_of bytes ≡ map line_of (file_lines c)
spelling_lines bytes c fits is = ap lines_of is ∙ lines_of-concat (map line_of (file_lines c)) (lines_ended (file_lines c) (file_are c fits))

-- a line without its LF is in none
pub open_line : (before : List (List ℕ)) (text : List ℕ) → 0 < length text → IsLine text → GoesOnInNone IsFile before (lines_of text)
open_line before [] some whole = absurd (omega arith)
open_line before (b ∷ text) some whole = subst (GoesOnInNone IsFile before) (sym (lines_of-open b text whole)) stops
  where
    stops : ¬ Begins IsFile (before ++ (b ∷ text) ∷ [])
    stops (more, (c, fits, is)) =
        let all : AllEnded (before ++ (b ∷ text) ∷ more) = subst AllEnded (sym is ∙ append_assoc before ((b ∷ text) ∷ []) more) (lines_ended (file_lines c) (file_are c fits)) in
        let found = ended_among before (b ∷ text) more all in
        open_is_no_line b text found.0 whole found.2

pub stopped : (s : State) (text line rest : List ℕ) → WasRead s → IsLine line → text ≡ ended line ++ rest → ((t : State) → ¬ Goes s (words_of line) t) → GoesOnInNone IsFile (map line_of (seen s)) (lines_of text)
stopped s text line rest read whole is none = subst (GoesOnInNone IsFile (map line_of (seen s))) (sym (ap lines_of is ∙ lines_of-ended line rest whole)) (no_line s line read none)

goes_on : (before rest : List (List ℕ)) → IsFile (before ++ rest) → ¬ GoesOnInNone IsFile before rest
goes_on before [] file stops = stops (subst IsFile (append-nil before) file)
goes_on before (line ∷ rest) file stops = stops (rest, subst IsFile (sym (append_assoc before (line ∷ []) rest)) file)

-- bytes with a bad line spell no certificate
pub bad_is_no_file : (bytes : List ℕ) (n : ℕ) (c : Cert) → IsFirstBad IsFile (lines_of bytes) n → InGrammar c → bytes ≢ spelling c
bad_is_no_file bytes n c (before, rest, parts, count, begun, stops) fits is =
    goes_on before rest (c, fits, sym parts ∙ spelling_lines bytes c fits is) stops

-- and what was read whole is the one certificate that they spell
pub only_one : (bytes : List ℕ) (c d : Cert) → WasRead (at Done c) → lines_of bytes ≡ map line_of (file_lines c) → InGrammar d → bytes ≡ spelling d → c ≡ d
only_one bytes c d read lines fits is =
    let same = same_lines (file_lines c) (file_lines d) (seen_are (at Done c) read) (file_are d fits) (sym lines ∙ spelling_lines bytes d fits is) in
    let end = one_end (at AtFirst nothing) (at Done c) (at Done d) (file_lines d) (subst (λ ls. GoesBy (at AtFirst nothing) ls (at Done c)) same read.goes) (file_goes d fits) in
    ap (λ s. s.cert) end

-- ---- one more line

pub read_more : (s t : State) (line : List ℕ) → WasRead s → Goes s (words_of line) t → WasRead t × (map line_of (seen t) ≡ map line_of (seen s) ++ ended line ∷ [])
read_more s t line read goes =
    let stands = goes_on_by s t (words_of line ∷ []) read.kept (t, goes, refl) in
    let by : GoesBy (at AtFirst nothing) (seen s ++ words_of line ∷ []) t = then_by (at AtFirst nothing) s t (seen s) (words_of line ∷ []) read.goes (t, goes, refl) in (
      record { kept = stands.kept; goes = subst (λ ls. GoesBy (at AtFirst nothing) ls t) (sym stands.lines_are) by },
      ap (map line_of) stands.lines_are ∙ map-append line_of (seen s) (words_of line ∷ []) ∙ ap (λ text. map line_of (seen s) ++ ended text ∷ []) (joined line),
    )

pub read_nothing : WasRead (at AtFirst nothing)
read_nothing = record { kept = record { no_loop = refl; no_ranking = refl; no_goal = refl }; goes = refl }

pub bytes_more : (bytes text line rest : List ℕ) (lines : List (List ℕ)) → bytes ≡ concat lines ++ text → text ≡ ended line ++ rest → bytes ≡ concat (lines ++ ended line ∷ []) ++ rest
bytes_more bytes text line rest lines so is =
    so ∙ ap (λ t. concat lines ++ t) is
    ∙ sym (ap (λ x. x ++ rest) (concat-append lines (ended line ∷ [])) ∙ ap (λ x. (concat lines ++ x) ++ rest) (append-nil (ended line)) ∙ append_assoc (concat lines) (ended line) rest)

pub lines_more : (bytes text line rest : List ℕ) (lines : List (List ℕ)) → lines_of bytes ≡ lines ++ lines_of text → IsLine line → text ≡ ended line ++ rest → lines_of bytes ≡ (lines ++ ended line ∷ []) ++ lines_of rest
lines_more bytes text line rest lines so whole is =
    so ∙ ap (λ t. lines ++ lines_of t) is ∙ ap (λ ls. lines ++ ls) (lines_of-ended line rest whole) ∙ sym (append_assoc lines (ended line ∷ []) (lines_of rest))

-- where a line isn't taken, it is the first bad one
pub first_bad : (bytes : List ℕ) (s : State) (line : ℕ) (rest : List (List ℕ)) → lines_of bytes ≡ map line_of (seen s) ++ rest → line ≡ length (seen s) + 1 → WasRead s → GoesOnInNone IsFile (map line_of (seen s)) rest → IsFirstBad IsFile (lines_of bytes) line
first_bad bytes s line rest parts count read stops = (map line_of (seen s), rest, parts, (let same = length-map (seen s) line_of in omega (arith, count, same)), lines_begin s read, stops)

pub stops_there : (s : State) (text : List ℕ) → 0 < length text → WasRead s → StopsAt s text → GoesOnInNone IsFile (map line_of (seen s)) (lines_of text)
stops_there s text some read (inl whole) = open_line (map line_of (seen s)) text some whole
stops_there s text some read (inr (line, rest, whole, is, none)) = stopped s text line rest read whole is none

pub empty : (xs : List ℕ) → length xs ≡ 0 → xs ≡ []
empty [] none = refl
empty (x ∷ xs) none = absurd (omega arith)

-- a reading that isn't over
not_over : (stage : Stage) (r : Reading) → stage ≢ Over → place_at stage r ≢ Done
not_over First r early is = cc
not_over Kind r early is = cc
not_over Checks r early is = cc
not_over Copies r early is = cc
not_over Loops r early is = cc
not_over Loop r early is = cc
not_over Row r early is = cc
not_over Ranks r early is = cc
not_over Rank r early is = cc
not_over Goals r early is = cc
not_over Goal r early is = cc
not_over Step r early is = cc
not_over End r early is = cc
not_over Over r early is = early refl

pub too_early : (r : Reading) → r.stage ≢ Over → (c : Cert) → state_of r ≢ at Done c
too_early r early c is = not_over r.stage r early (ap (λ s. s.place) is)
