-- From the lines that were read to the whole file.
use Rattle.std.proofs.Common.{◌≡◌, ◌≢◌, inl, inr, ℕ, ◌+◌, ◌-◌, ◌<◌, ◌≤◌, ◌^◌, Bool, true, false, not, List, [], ◌∷◌, ◌++◌, length, map, codes, refl, sym, ap, subst, ◌∙◌, append_assoc, append-nil, ◌↔◌, arith}
use Rattle.std.specs.List.{All, concat}
use Rattle.std.specs.Fmt.{decimal}
use Rattle.std.proofs.lemmas.List.{length-append, map-append, take_more}
use Rattle.std.proofs.lemmas.List.Folds.{concat-append}
use Rattle.std.proofs.lemmas.List.Elements.{All-nil, All-cons, All-head, All-tail, All-append}
use Rattle.std.proofs.Common.{take, get_or}
use Rattle.l2_cnf.specs.Steps.{Step}
use Rattle.l2_lines.specs.Lines.{Begins, GoesOnInNone, IsFirstBad, IsLine, ended, lines_of}
use Rattle.l2_lines.proofs.Cuts.{AllEnded, all_ended-append, decimal_is_line, ended_among, lines_of-concat, lines_of-ended, lines_of-open, open_is_no_line, plain}
use Rattle.l2_cert.specs.Words.{Word, words_of}
use Rattle.l2_cert.specs.Certificate.{IsGoal, IsStep, step_line}
use Rattle.l2_cert.proofs.Plain.{AreWords, lines_ended}
use Rattle.l2_cert.proofs.Bytes.{bytes_more, lines_more}
use Rattle.l2_derivation_file.specs.declared.reading.Reading.{Reading}
use Rattle.l2_derivation_file.specs.declared.reading.Stage.{Stage}
use Rattle.l2_derivation_file.specs.declared.reading.Stage.TheVariants.{Header, Count, Steps, Over}
use Rattle.l2_derivation_file.specs.File.{IsFile, count_text, file_lines, header, last_text, lines_behind, spelling, step_text}
use Rattle.l2_derivation_file.specs.Reading.{Completes, CompletesAt, Goes, IsRest, Kept, KeptAt, ReadsLine, Stops, StopsAt}
use Rattle.l2_derivation_file.proofs.Residues.{can_end, count_goes, count_stops, end_goes, end_stops, header_goes, header_stops, no_end, of_words, step_goes, step_spelt, step_stops, steps_more}

-- ---- by stages

pub goes_from : (r s : Reading) (line : List ℕ) (stage : Stage) → r.stage ≡ stage → ((rest : List (List ℕ)) (steps : List Step) → CompletesAt stage r (ended line ∷ rest) steps ↔ Completes s rest steps) → Goes r line s
goes_from r s line stage is f = λ rest steps. subst (λ x. CompletesAt x r (ended line ∷ rest) steps ↔ Completes s rest steps) (sym is) (f rest steps)

pub stops_from : (r : Reading) (line : List ℕ) (stage : Stage) → r.stage ≡ stage → ((rest : List (List ℕ)) (steps : List Step) → ¬ CompletesAt stage r (ended line ∷ rest) steps) → Stops r line
stops_from r line stage is f = λ rest steps. subst (λ x. ¬ CompletesAt x r (ended line ∷ rest) steps) (sym is) (f rest steps)

pub kept_from : (r : Reading) (stage : Stage) → r.stage ≡ stage → Kept r → KeptAt stage r
kept_from r stage is kept = subst (λ x. KeptAt x r) is kept

-- ---- what was read can be finished

no_steps : IsGoal []
no_steps = (omega arith, All-nil IsStep)

abbrev pub CanEnd : Stage → Reading → Type 0
CanEnd stage r = (rest : List (List ℕ)) × (steps : List Step) × CompletesAt stage r rest steps

can_complete : (r : Reading) → Kept r → CanEnd r.stage r
can_complete r kept = go r.stage kept
  where
    go : (stage : Stage) → KeptAt stage r → CanEnd stage r
    go Header k = (file_lines [], [], (no_steps, refl))
    go Count k = (ended (count_text 0) ∷ lines_behind [], [], (no_steps, refl))
    go Steps k = let (lines, steps, goal, rest) = can_end r.steps r.to_come k.0 k.1 in (lines, steps, (goal, rest))
    go Over k = ([], r.steps, (refl, refl))

-- ---- the loop

pub record WasRead (bytes text : List ℕ) (line : ℕ) (r : Reading) : Type 0 where
  pub seen : List (List ℕ)
  pub whole : bytes ≡ concat seen ++ text
  pub lines : lines_of bytes ≡ seen ++ lines_of text
  pub stands : (rest : List (List ℕ)) (steps : List Step) → (IsGoal steps × (seen ++ rest ≡ file_lines steps)) ↔ Completes r rest steps
  pub kept : Kept r
  pub counted : line ≡ length seen + 1

pub read_nothing : (bytes : List ℕ) (r : Reading) → r.stage ≡ Header → r.steps ≡ [] → WasRead bytes bytes 1 r
read_nothing bytes r stage none = record {
  seen = [];
  whole = refl;
  lines = refl;
  stands = λ rest steps. subst (λ s. (IsGoal steps × (rest ≡ file_lines steps)) ↔ CompletesAt s r rest steps) (sym stage) ((λ x. x), (λ x. x));
  kept = subst (λ s. KeptAt s r) (sym stage) none;
  counted = refl;
}

pub read_more : (bytes text behind : List ℕ) (line : ℕ) (r s : Reading) → WasRead bytes text line r → ReadsLine r s text behind → Kept s → WasRead bytes behind (line + 1) s
read_more bytes text behind line r s w (first, is_line, is, goes) kept = record {
  seen = w.seen ++ ended first ∷ [];
  whole = bytes_more bytes text first behind w.seen w.whole is;
  lines = lines_more bytes text first behind w.seen w.lines is_line is;
  stands = λ rest steps.
      let step = goes rest steps in
      let all = w.stands (ended first ∷ rest) steps in
      let same = append_assoc w.seen (ended first ∷ []) rest in
      (λ (goal, so). step.0 (all.0 (goal, sym same ∙ so)), λ c. let back = all.1 (step.1 c) in (back.0, same ∙ back.1));
  kept = kept;
  counted = omega (arith, w.counted, length-append w.seen (ended first ∷ []));
}

begun : (bytes text : List ℕ) (line : ℕ) (r : Reading) (w : WasRead bytes text line r) → Begins IsFile w.seen
begun bytes text line r w =
    let (rest, steps, completes) = can_complete r w.kept in
    let all = (w.stands rest steps).1 completes in
    (rest, (steps, all.0, all.1))

-- each line of a file ends with its LF
only : (words : List Word) → AreWords words → All AreWords (words ∷ [])
only words are = All-cons AreWords words [] are (All-nil AreWords)

all_ended : (steps : List Step) → IsGoal steps → AllEnded (file_lines steps)
all_ended steps goal = (
  (header, plain header refl, refl),
  (
    (count_text (length steps), All-append (λ b. b ≢ 10) (codes "lines ") (decimal (length steps)) (plain (codes "lines ") refl) (decimal_is_line (length steps) (omega (arith, goal.0))), refl),
    all_ended-append (map step_text steps) (ended last_text ∷ []) (each steps goal.1) ((last_text, plain last_text refl, refl), tt),
  ),
)
  where
    each : (steps : List Step) → All IsStep steps → AllEnded (map step_text steps)
    each [] all = tt
    each (s ∷ steps) all = ((lines_ended (step_line s ∷ []) (only (step_line s) (of_words s (All-head IsStep s steps all)))).0, each steps (All-tail IsStep s steps all))

open_line : (before : List (List ℕ)) (text : List ℕ) → 0 < length text → IsLine text → GoesOnInNone IsFile before (lines_of text)
open_line before [] some whole = absurd (omega arith)
open_line before (b ∷ text) some whole = subst (GoesOnInNone IsFile before) (sym (lines_of-open b text whole)) stops
  where
    stops : ¬ Begins IsFile (before ++ (b ∷ text) ∷ [])
    stops (more, (steps, goal, is)) =
        let all : AllEnded (before ++ (b ∷ text) ∷ more) = subst AllEnded (sym is ∙ append_assoc before ((b ∷ text) ∷ []) more) (all_ended steps goal) in
        let found = ended_among before (b ∷ text) more all in
        open_is_no_line b text found.0 whole found.2

no_line : (bytes text first : List ℕ) (line : ℕ) (r : Reading) (w : WasRead bytes text line r) → Stops r first → ¬ Begins IsFile (w.seen ++ ended first ∷ [])
no_line bytes text first line r w stops (more, (steps, goal, is)) =
    stops more steps ((w.stands (ended first ∷ more) steps).0 (goal, sym (append_assoc w.seen (ended first ∷ []) more) ∙ is))

goes_on_in_none : (bytes text : List ℕ) (line : ℕ) (r : Reading) (w : WasRead bytes text line r) → 0 < length text → StopsAt r text → GoesOnInNone IsFile w.seen (lines_of text)
goes_on_in_none bytes text line r w some (inl whole) = open_line w.seen text some whole
goes_on_in_none bytes text line r w some (inr (first, behind, is_line, is, stops)) =
    subst (GoesOnInNone IsFile w.seen) (sym (ap lines_of is ∙ lines_of-ended first behind is_line)) (no_line bytes text first line r w stops)

pub stopped : (bytes text : List ℕ) (line : ℕ) (r : Reading) → WasRead bytes text line r → 0 < length text → StopsAt r text → IsFirstBad IsFile (lines_of bytes) line
stopped bytes text line r w some stops = (w.seen, lines_of text, w.lines, w.counted, begun bytes text line r w, goes_on_in_none bytes text line r w some stops)

pub empty : (xs : List ℕ) → length xs ≡ 0 → xs ≡ []
empty [] none = refl
empty (x ∷ xs) none = absurd (omega arith)

pub ended_early : (bytes text : List ℕ) (line : ℕ) (r : Reading) → WasRead bytes text line r → length text ≡ 0 → ((steps : List Step) → ¬ Completes r [] steps) → IsFirstBad IsFile (lines_of bytes) line
ended_early bytes text line r w none stops = (
  w.seen,
  [],
  w.lines ∙ ap (λ t. w.seen ++ lines_of t) (empty text none),
  w.counted,
  begun bytes text line r w,
  λ (steps, goal, is). stops steps ((w.stands [] steps).0 (goal, append-nil w.seen ∙ is)),
)

pub is_spelt : (bytes text : List ℕ) (line : ℕ) (r : Reading) → WasRead bytes text line r → length text ≡ 0 → ((steps : List Step) → Completes r [] steps ↔ (steps ≡ r.steps)) → IsGoal r.steps × (bytes ≡ spelling r.steps)
is_spelt bytes text line r w none so =
    let all = (w.stands [] r.steps).1 ((so r.steps).1 refl) in
    (all.0, w.whole ∙ ap (λ t. concat w.seen ++ t) (empty text none) ∙ append-nil (concat w.seen) ∙ ap concat (sym (append-nil w.seen) ∙ all.1))

spelling_lines : (bytes : List ℕ) (steps : List Step) → IsGoal steps → bytes ≡ spelling steps → lines_of bytes ≡ file_lines steps
spelling_lines bytes steps goal is = ap lines_of is ∙ lines_of-concat (file_lines steps) (all_ended steps goal)

pub only_steps : (bytes text : List ℕ) (line : ℕ) (r : Reading) → WasRead bytes text line r → length text ≡ 0 → ((steps : List Step) → Completes r [] steps ↔ (steps ≡ r.steps)) → (steps : List Step) → IsGoal steps → bytes ≡ spelling steps → r.steps ≡ steps
only_steps bytes text line r w none so steps goal is =
    let lines : w.seen ++ [] ≡ file_lines steps = sym (w.lines ∙ ap (λ t. w.seen ++ lines_of t) (empty text none)) ∙ spelling_lines bytes steps goal is in
    sym ((so steps).0 ((w.stands [] steps).0 (goal, lines)))

goes_on : (before rest : List (List ℕ)) → IsFile (before ++ rest) → ¬ GoesOnInNone IsFile before rest
goes_on before [] file stops = stops (subst IsFile (append-nil before) file)
goes_on before (line ∷ rest) file stops = stops (rest, subst IsFile (sym (append_assoc before (line ∷ []) rest)) file)

-- bytes with a bad line spell no steps
pub bad_is_no_file : (bytes : List ℕ) (n : ℕ) (steps : List Step) → IsFirstBad IsFile (lines_of bytes) n → IsGoal steps → bytes ≢ spelling steps
bad_is_no_file bytes n steps (before, rest, parts, count, begins, stops) goal is =
    goes_on before rest (steps, goal, sym parts ∙ spelling_lines bytes steps goal is) stops

-- ---- the step of the loop that writes

pub written_more : (steps : List Step) (i : ℕ) (d : Step) → i < length steps → concat (map step_text (take (i + 1) steps)) ≡ concat (map step_text (take i steps)) ++ step_text (get_or steps i d)
written_more steps i d inside =
    ap (λ xs. concat (map step_text xs)) (take_more steps i d inside)
    ∙ ap concat (map-append step_text (take i steps) (get_or steps i d ∷ []))
    ∙ concat-append (map step_text (take i steps)) (step_text (get_or steps i d) ∷ [])
    ∙ ap (λ x. concat (map step_text (take i steps)) ++ x) (append-nil (step_text (get_or steps i d)))

pub written_all : (steps : List Step) → ((codes "2ls derivation 1\nlines " ++ (decimal (length steps) ++ codes "\n")) ++ concat (map step_text steps)) ++ ended last_text ≡ spelling steps
written_all steps =
    append_assoc (codes "2ls derivation 1\nlines " ++ (decimal (length steps) ++ codes "\n")) (concat (map step_text steps)) (ended last_text)
    ∙ append_assoc (codes "2ls derivation 1\nlines ") (decimal (length steps) ++ codes "\n") (concat (map step_text steps) ++ ended last_text)
    ∙ ap (λ t. codes "2ls derivation 1\nlines " ++ t) (ap (λ t. (decimal (length steps) ++ codes "\n") ++ t) last)
  where
    last : concat (map step_text steps) ++ ended last_text ≡ concat (lines_behind steps)
    last = ap (λ t. concat (map step_text steps) ++ t) (sym (append-nil (ended last_text))) ∙ sym (concat-append (map step_text steps) (ended last_text ∷ []))

-- ---- a step that is taken

pub step_taken : (r s : Reading) (line : List ℕ) (x : Step) → r.stage ≡ Steps → s.stage ≡ r.stage → 1 ≤ r.to_come → IsStep x → words_of line ≡ step_line x → s.steps ≡ r.steps ++ x ∷ [] → s.to_come ≡ r.to_come - 1 → Goes r line s
step_taken r s line x stage same some is words steps to_come = goes_from r s line Steps stage (λ rest all.
    subst (λ z. (IsGoal all × IsRest r.steps r.to_come (ended line ∷ rest) all) ↔ CompletesAt z s rest all) (sym (same ∙ stage))
    (subst (λ ys. (IsGoal all × IsRest r.steps r.to_come (ended line ∷ rest) all) ↔ (IsGoal all × IsRest ys s.to_come rest all)) (sym steps)
    (subst (λ m. (IsGoal all × IsRest r.steps r.to_come (ended line ∷ rest) all) ↔ (IsGoal all × IsRest (r.steps ++ x ∷ []) m rest all)) (sym to_come)
    (step_goes r.steps r.to_come line x some is (step_spelt line x words) rest all))))

pub step_kept : (r s : Reading) (x : Step) → r.stage ≡ Steps → s.stage ≡ r.stage → Kept r → 1 ≤ r.to_come → IsStep x → s.steps ≡ r.steps ++ x ∷ [] → s.to_come ≡ r.to_come - 1 → Kept s
step_kept r s x stage same kept some is steps to_come =
    let k = kept_from r Steps stage kept in
    let more = steps_more r.steps x r.to_come k.0 k.1 some is in
    subst (λ z. KeptAt z s) (sym (same ∙ stage))
    (subst (λ ys. All IsStep ys × (length ys + s.to_come < 2 ^ 62)) (sym steps) (subst (λ m. All IsStep (r.steps ++ x ∷ []) × (length (r.steps ++ x ∷ []) + m < 2 ^ 62)) (sym to_come) more))

pub step_not_taken : (r : Reading) (line : List ℕ) → r.stage ≡ Steps → 1 ≤ r.to_come → ((x : Step) → IsStep x → words_of line ≢ step_line x) → Stops r line
step_not_taken r line stage some none = stops_from r line Steps stage (λ rest all. step_stops r.steps r.to_come line some none rest all)

-- the line behind the last step
pub end_taken : (r : Reading) (line : List ℕ) → r.stage ≡ Steps → Kept r → r.to_come ≡ 0 → line ≡ last_text → (rest : List (List ℕ)) (all : List Step) → Completes r (ended line ∷ rest) all ↔ ((rest ≡ []) × (all ≡ r.steps))
end_taken r line stage kept none is rest all =
    let k = kept_from r Steps stage kept in
    subst (λ z. CompletesAt z r (ended line ∷ rest) all ↔ ((rest ≡ []) × (all ≡ r.steps))) (sym stage) (end_goes r.steps r.to_come line none k.0 k.1 is rest all)

pub end_kept : (r : Reading) → r.stage ≡ Steps → Kept r → r.to_come ≡ 0 → IsGoal r.steps
end_kept r stage kept none = let k = kept_from r Steps stage kept in (omega (arith, none, k.1), k.0)

pub end_not_taken : (r : Reading) (line : List ℕ) → r.stage ≡ Steps → r.to_come ≡ 0 → line ≢ last_text → Stops r line
end_not_taken r line stage none other = stops_from r line Steps stage (λ rest all. end_stops r.steps r.to_come line none other rest all)

-- the number of steps
pub count_taken : (r s : Reading) (line : List ℕ) (n : ℕ) → r.stage ≡ Count → Kept r → s.stage ≡ Steps → s.steps ≡ r.steps → s.to_come ≡ n → n < 2 ^ 62 → line ≡ count_text n → Goes r line s
count_taken r s line n stage kept next steps to_come small is = goes_from r s line Count stage (λ rest all.
    subst (λ z. CompletesAt Count r (ended line ∷ rest) all ↔ CompletesAt z s rest all) (sym next)
    (subst (λ m. CompletesAt Count r (ended line ∷ rest) all ↔ (IsGoal all × IsRest s.steps m rest all)) (sym to_come)
    (count_goes s.steps n line (steps ∙ kept_from r Count stage kept) small is rest all)))

pub count_kept : (r s : Reading) (n : ℕ) → r.stage ≡ Count → Kept r → s.stage ≡ Steps → s.steps ≡ r.steps → s.to_come ≡ n → n < 2 ^ 62 → Kept s
count_kept r s n stage kept next steps to_come small =
    let none : s.steps ≡ [] = steps ∙ kept_from r Count stage kept in
    subst (λ z. KeptAt z s) (sym next) (subst (All IsStep) (sym none) (All-nil IsStep), omega (arith, small, to_come, ap length none))

pub count_not_taken : (r : Reading) (line : List ℕ) → r.stage ≡ Count → ((n : ℕ) → n < 2 ^ 62 → line ≢ count_text n) → Stops r line
count_not_taken r line stage none = stops_from r line Count stage (λ rest all. count_stops line none rest all)

-- the first line
pub header_taken : (r : Reading) (line : List ℕ) → r.stage ≡ Header → line ≡ header → (rest : List (List ℕ)) (all : List Step) → Completes r (ended line ∷ rest) all ↔ (IsGoal all × (rest ≡ ended (count_text (length all)) ∷ lines_behind all))
header_taken r line stage is rest all =
    subst (λ z. CompletesAt z r (ended line ∷ rest) all ↔ (IsGoal all × (rest ≡ ended (count_text (length all)) ∷ lines_behind all))) (sym stage) (header_goes line is rest all)

pub header_not_taken : (r : Reading) (line : List ℕ) → r.stage ≡ Header → line ≢ header → Stops r line
header_not_taken r line stage other = stops_from r line Header stage (λ rest all. header_stops line other rest all)

-- where a line is compared
pub equal_lines : (x : Bool) → false ≡ not x → x ≡ true
equal_lines true is = refl
equal_lines false is = is

-- ---- the end of the text

pub whole_where_over : (r : Reading) → r.stage ≡ Over → (all : List Step) → Completes r [] all ↔ (all ≡ r.steps)
whole_where_over r stage all = subst (λ z. CompletesAt z r [] all ↔ (all ≡ r.steps)) (sym stage) ((λ x. x.1), (λ is. (refl, is)))

pub part_elsewhere : (r : Reading) (stage : Stage) → r.stage ≡ stage → stage ≢ Over → (all : List Step) → ¬ Completes r [] all
part_elsewhere r Header is other all = subst (λ z. ¬ CompletesAt z r [] all) (sym is) (λ x. let clash = x.1 in cc)
part_elsewhere r Count is other all = subst (λ z. ¬ CompletesAt z r [] all) (sym is) (λ x. let clash = x.1 in cc)
part_elsewhere r Steps is other all = subst (λ z. ¬ CompletesAt z r [] all) (sym is) (λ x. no_end r.steps r.to_come all x.1)
part_elsewhere r Over is other all = absurd (other refl)
