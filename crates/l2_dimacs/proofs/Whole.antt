-- From the tokens that were read to the whole text.
use Rattle.std.proofs.Common.{◌≡◌, ◌≢◌, ℕ, zero, suc, ◌+◌, ◌-◌, ◌<◌, ◌≤◌, ◌^◌, ℤ, pos, negsuc, nat_abs, List, [], ◌∷◌, ◌++◌, length, codes, refl, sym, ap, subst, ◌∙◌, append_assoc, append-nil, Contains, ◌↔◌, inl, inr, Bool, true, false, arith}
use Rattle.std.specs.List.{All}
use Rattle.std.specs.Prelude.{MatchBool, nat_eq}
use Rattle.std.proofs.lemmas.Bool.{eqb-true, eqb-false}
use Rattle.std.proofs.lemmas.List.{length-append}
use Rattle.std.proofs.lemmas.List.Elements.{All-nil, All-cons, All-append, Contains-append_cases, Contains-append_left, Contains-append_right}
use Rattle.l2_cnf.proofs.Laws.{one_in}
use Rattle.l2_cnf.specs.Lit.{IsLiteral, positive}
use Rattle.l2_cnf.specs.Logic.{AllWithin}
use Rattle.l2_dimacs.specs.declared.reading.Reading.{Reading}
use Rattle.l2_dimacs.specs.declared.reading.Stage.{Stage}
use Rattle.l2_dimacs.specs.declared.reading.Stage.TheVariants.{Format, Name, Variables, Count, Clauses, Over}
use Rattle.l2_dimacs.specs.Tokens.{Token, token, tokens, lines}
use Rattle.l2_dimacs.specs.Profile.{AreClauses, AreSpelt, Begins, HasCnf, HasCount, HasVariables, IsBody, IsFile, IsFormula, IsNumber, IsRefused, at_token, at_end, Spells, flat, most_variables}
use Rattle.l2_dimacs.specs.Reading.{Completes, CompletesAt, Goes, IsRest, Kept, KeptAt, Stops, numbers_of}
use Rattle.l2_dimacs.proofs.Spelling.{one_number, small_number}
use Rattle.l2_dimacs.proofs.Clauses.{flat-append}
use Rattle.l2_dimacs.proofs.Rest.{body_is, can_end, early, item_stops, next_goes, percent_goes, percent_stops, whole_is}

-- ---- by stages

pub goes_from : (r s : Reading) (t : Token) (stage : Stage) → r.stage ≡ stage → ((rest : List Token) (v : ℕ) (clauses : List (List ℤ)) → CompletesAt stage r (t ∷ rest) v clauses ↔ Completes s rest v clauses) → Goes r t s
goes_from r s t stage is f = λ rest v clauses. subst (λ x. CompletesAt x r (t ∷ rest) v clauses ↔ Completes s rest v clauses) (sym is) (f rest v clauses)

pub stops_from : (r : Reading) (t : Token) (stage : Stage) → r.stage ≡ stage → ((rest : List Token) (v : ℕ) (clauses : List (List ℤ)) → ¬ CompletesAt stage r (t ∷ rest) v clauses) → Stops r t
stops_from r t stage is f = λ rest v clauses. subst (λ x. ¬ CompletesAt x r (t ∷ rest) v clauses) (sym is) (f rest v clauses)

-- the greatest variable, on the line
pub variables_go : (line m : ℕ) (t : Token) → t.line ≡ line → IsNumber t.word m → m ≤ most_variables → (rest : List Token) (v : ℕ) (clauses : List (List ℤ)) → HasVariables line (t ∷ rest) v clauses ↔ ((v ≡ m) × HasCount line m rest clauses)
variables_go line m t here number most rest v clauses = (
  λ (same, other, within, rest_is). let is : v ≡ m = one_number t.word v m other number in (is, subst (λ k. HasCount line k rest clauses) is rest_is),
  λ (is, rest_is). (here, subst (IsNumber t.word) (sym is) number, subst (λ k. k ≤ most_variables) (sym is) most, subst (λ k. HasCount line k rest clauses) (sym is) rest_is),
)

-- the number of clauses, on the line
pub count_goes : (line v count : ℕ) (ds : List (List ℤ)) (part : List ℤ) (t : Token) → t.line ≡ line → IsNumber t.word count → ds ≡ [] → part ≡ [] → (rest : List Token) (w : ℕ) (clauses : List (List ℤ)) → ((w ≡ v) × HasCount line v (t ∷ rest) clauses) ↔ ((w ≡ v) × IsRest v (flat ds ++ part) (length ds + count) rest clauses)
count_goes line v count ds part t here number none empty rest w clauses = (
  λ (is, (other, same, spelt, body)).
      let counted : other ≡ length ds + count = omega (arith, one_number t.word other count spelt number, ap length none) in
      (is, subst (λ l. IsRest v l (length ds + count) rest clauses) (sym start) (subst (λ k. IsRest v [] k rest clauses) counted ((body_is v other rest clauses).0 body))),
  λ (is, r).
      let counted : length ds + count ≡ count = omega (arith, ap length none) in
      (is, (count, here, number, (body_is v count rest clauses).1 (subst (λ k. IsRest v [] k rest clauses) counted (subst (λ l. IsRest v l (length ds + count) rest clauses) start r)))),
)
  where
    start : flat ds ++ part ≡ []
    start = ap (λ d. flat d ++ part) none ∙ empty

-- the end of a clause
pub end_goes : (v m n : ℕ) (ds es : List (List ℤ)) (part more : List ℤ) (t : Token) → Spells v (pos 0) t.word → es ≡ ds ++ part ∷ [] → more ≡ [] → n ≡ m - 1 → 1 ≤ m → (rest : List Token) (clauses : List (List ℤ)) → IsRest v (flat ds ++ part) (length ds + m) (t ∷ rest) clauses ↔ IsRest v (flat es ++ more) (length es + n) rest clauses
end_goes v m n ds es part more t spells is empty fewer some rest clauses =
    subst (λ l. IsRest v (flat ds ++ part) (length ds + m) (t ∷ rest) clauses ↔ IsRest v l (length es + n) rest clauses) (sym numbers)
    (subst (λ k. IsRest v (flat ds ++ part) (length ds + m) (t ∷ rest) clauses ↔ IsRest v ((flat ds ++ part) ++ pos 0 ∷ []) k rest clauses) counted
    (next_goes v (length ds + m) (pos 0) (flat ds ++ part) t spells rest clauses))
  where
    numbers : flat es ++ more ≡ (flat ds ++ part) ++ pos 0 ∷ []
    numbers = ap (λ l. flat es ++ l) empty ∙ append-nil (flat es) ∙ ap flat is ∙ flat-append ds (part ∷ []) ∙ sym (append_assoc (flat ds) part (pos 0 ∷ []))

    counted : length ds + m ≡ length es + n
    counted = omega (arith, fewer, some, ap length is, length-append ds (part ∷ []))

-- a literal
pub literal_goes : (v m n : ℕ) (l : ℤ) (ds es : List (List ℤ)) (part more : List ℤ) (t : Token) → Spells v l t.word → es ≡ ds → more ≡ part ++ l ∷ [] → n ≡ m → (rest : List Token) (clauses : List (List ℤ)) → IsRest v (flat ds ++ part) (length ds + m) (t ∷ rest) clauses ↔ IsRest v (flat es ++ more) (length es + n) rest clauses
literal_goes v m n l ds es part more t spells is grown same rest clauses =
    subst (λ x. IsRest v (flat ds ++ part) (length ds + m) (t ∷ rest) clauses ↔ IsRest v x (length es + n) rest clauses) (sym numbers)
    (subst (λ k. IsRest v (flat ds ++ part) (length ds + m) (t ∷ rest) clauses ↔ IsRest v ((flat ds ++ part) ++ l ∷ []) k rest clauses) counted
    (next_goes v (length ds + m) l (flat ds ++ part) t spells rest clauses))
  where
    numbers : flat es ++ more ≡ (flat ds ++ part) ++ l ∷ []
    numbers = (λ i. flat (is i) ++ grown i) ∙ sym (append_assoc (flat ds) part (l ∷ []))

    counted : length ds + m ≡ length es + n
    counted = omega (arith, same, ap length is)

-- the same of the variables that are told
pub both : (w v : ℕ) (A B : Type 0) → A ↔ B → ((w ≡ v) × A) ↔ ((w ≡ v) × B)
both w v A B so = (λ (is, a). (is, so.0 a), λ (is, b). (is, so.1 b))

pub clauses_more : (ds es : List (List ℤ)) (part : List ℤ) → AreClauses ds → All IsLiteral part → es ≡ ds ++ part ∷ [] → AreClauses es
clauses_more ds es part all literals is = subst AreClauses (sym is) (All-append (All IsLiteral) ds (part ∷ []) all (All-cons (All IsLiteral) part [] literals (All-nil (All IsLiteral))))

pub literals_more : (part more : List ℤ) (l : ℤ) → All IsLiteral part → IsLiteral l → more ≡ part ++ l ∷ [] → All IsLiteral more
literals_more part more l all literal is = subst (All IsLiteral) (sym is) (All-append IsLiteral part (l ∷ []) all (All-cons IsLiteral l [] literal (All-nil IsLiteral)))

-- ---- a token of the clauses

kept_at : (r : Reading) (stage : Stage) → r.stage ≡ stage → Kept r → KeptAt stage r
kept_at r stage is kept = subst (λ x. KeptAt x r) is kept

-- where both are within the clauses, over the same variables
within_clauses : (r s : Reading) (t : Token) → r.stage ≡ Clauses → s.stage ≡ r.stage → s.variables ≡ r.variables →
    ((rest : List Token) (clauses : List (List ℤ)) → IsRest r.variables (numbers_of r) (length r.clauses + r.to_come) (t ∷ rest) clauses ↔ IsRest r.variables (numbers_of s) (length s.clauses + s.to_come) rest clauses) → Goes r t s
within_clauses r s t stage same variables f = goes_from r s t Clauses stage (λ rest v clauses.
    subst (λ x. CompletesAt Clauses r (t ∷ rest) v clauses ↔ CompletesAt x s rest v clauses) (sym (same ∙ stage))
    (subst (λ w. CompletesAt Clauses r (t ∷ rest) v clauses ↔ ((v ≡ w) × IsRest w (numbers_of s) (length s.clauses + s.to_come) rest clauses)) (sym variables)
    (both v r.variables (IsRest r.variables (numbers_of r) (length r.clauses + r.to_come) (t ∷ rest) clauses) (IsRest r.variables (numbers_of s) (length s.clauses + s.to_come) rest clauses) (f rest clauses))))

-- the clause that was read is ended
abbrev pub Ends : Reading → Reading → Type 0
Ends r s = (s.clauses ≡ r.clauses ++ r.part.items ∷ []) × (s.part.items ≡ []) × (s.to_come ≡ r.to_come - 1)

pub ended_goes : (r s : Reading) (t : Token) → r.stage ≡ Clauses → s.stage ≡ r.stage → s.variables ≡ r.variables → 1 ≤ r.to_come → t.word ≡ codes "0" → Ends r s → Goes r t s
ended_goes r s t stage same variables some word ends =
    within_clauses r s t stage same variables (end_goes r.variables r.to_come s.to_come r.clauses s.clauses r.part.items s.part.items t word ends.0 ends.1 ends.2 some)

pub ended_kept : (r s : Reading) → r.stage ≡ Clauses → s.stage ≡ r.stage → Kept r → Ends r s → Kept s
ended_kept r s stage same kept ends =
    let k = kept_at r Clauses stage kept in
    subst (λ x. KeptAt x s) (sym (same ∙ stage)) (clauses_more r.clauses s.clauses r.part.items k.0 k.1 ends.0, subst (All IsLiteral) (sym ends.1) (All-nil IsLiteral), λ none. ends.1)

-- a literal is pushed
abbrev pub Pushes : ℕ → Bool → Reading → Reading → Type 0
Pushes var sign r s = (l : ℤ) × (nat_abs l ≡ var) × (positive l ≡ sign) × (s.part.items ≡ r.part.items ++ l ∷ [])

pub pushed_goes : (r s : Reading) (t : Token) (l : ℤ) → r.stage ≡ Clauses → s.stage ≡ r.stage → s.variables ≡ r.variables → s.clauses ≡ r.clauses → s.to_come ≡ r.to_come → Spells r.variables l t.word → s.part.items ≡ r.part.items ++ l ∷ [] → Goes r t s
pushed_goes r s t l stage same variables clauses to_come spells part =
    within_clauses r s t stage same variables (literal_goes r.variables r.to_come s.to_come l r.clauses s.clauses r.part.items s.part.items t spells clauses part to_come)

pub pushed_kept : (r s : Reading) (l : ℤ) → r.stage ≡ Clauses → s.stage ≡ r.stage → s.clauses ≡ r.clauses → s.to_come ≡ r.to_come → 1 ≤ r.to_come → Kept r → 1 ≤ nat_abs l → s.part.items ≡ r.part.items ++ l ∷ [] → Kept s
pushed_kept r s l stage same clauses to_come some kept literal part =
    let k = kept_at r Clauses stage kept in
    subst (λ x. KeptAt x s) (sym (same ∙ stage)) (subst AreClauses (sym clauses) k.0, literals_more r.part.items s.part.items l k.1 literal part, λ none. absurd (omega (arith, none, to_come, some)))

pub item_stops_at : (r : Reading) (t : Token) → r.stage ≡ Clauses → Kept r → 1 ≤ r.to_come → ((z : ℤ) → ¬ Spells r.variables z t.word) → Stops r t
item_stops_at r t stage kept some none =
    let k = kept_at r Clauses stage kept in
    stops_from r t Clauses stage (λ rest v clauses (is, more). item_stops r.variables r.to_come r.clauses r.part.items t k.0 k.1 some none rest clauses more)

-- ---- behind the last clause

counted : (r : Reading) → r.to_come ≡ 0 → length r.clauses + r.to_come ≡ length r.clauses + 0
counted r none = ap (λ m. length r.clauses + m) none

pub percent_goes_at : (r : Reading) (t : Token) → r.stage ≡ Clauses → Kept r → r.to_come ≡ 0 → t.word ≡ codes "%" → (rest : List Token) (v : ℕ) (clauses : List (List ℤ)) → Completes r (t ∷ rest) v clauses ↔ ((v ≡ r.variables) × (clauses ≡ r.clauses))
percent_goes_at r t stage kept none percent rest v clauses =
    let k = kept_at r Clauses stage kept in
    subst (λ x. CompletesAt x r (t ∷ rest) v clauses ↔ ((v ≡ r.variables) × (clauses ≡ r.clauses))) (sym stage)
    (both v r.variables (IsRest r.variables (numbers_of r) (length r.clauses + r.to_come) (t ∷ rest) clauses) (clauses ≡ r.clauses)
    (percent_goes r.variables (length r.clauses + r.to_come) r.clauses r.part.items t k.0 (k.2 none) (counted r none) percent rest clauses))

pub percent_stops_at : (r : Reading) (t : Token) → r.stage ≡ Clauses → Kept r → r.to_come ≡ 0 → t.word ≢ codes "%" → Stops r t
percent_stops_at r t stage kept none other =
    let k = kept_at r Clauses stage kept in
    stops_from r t Clauses stage (λ rest v clauses (is, more). percent_stops r.variables (length r.clauses + r.to_come) r.clauses r.part.items t k.0 (k.2 none) (counted r none) other rest clauses more)

abbrev pub IsWhole : Reading → Type 0
IsWhole r = (v : ℕ) (clauses : List (List ℤ)) → Completes r [] v clauses ↔ ((v ≡ r.variables) × (clauses ≡ r.clauses))

abbrev pub IsPart : Reading → Type 0
IsPart r = (v : ℕ) (clauses : List (List ℤ)) → ¬ Completes r [] v clauses

pub whole_at : (r : Reading) → r.stage ≡ Clauses → Kept r → r.to_come ≡ 0 → IsWhole r
whole_at r stage kept none v clauses =
    let k = kept_at r Clauses stage kept in
    subst (λ x. CompletesAt x r [] v clauses ↔ ((v ≡ r.variables) × (clauses ≡ r.clauses))) (sym stage)
    (both v r.variables (IsRest r.variables (numbers_of r) (length r.clauses + r.to_come) [] clauses) (clauses ≡ r.clauses)
    (whole_is r.variables (length r.clauses + r.to_come) r.clauses r.part.items clauses k.0 (k.2 none) (counted r none)))

pub part_at : (r : Reading) → r.stage ≡ Clauses → Kept r → r.to_come ≢ 0 → IsPart r
part_at r stage kept some v clauses =
    let k = kept_at r Clauses stage kept in
    subst (λ x. ¬ CompletesAt x r [] v clauses) (sym stage) (λ (is, more). early r.variables r.to_come r.clauses r.part.items clauses k.0 k.1 some more)

pub test_whole : (r : Reading) → r.stage ≡ Clauses → Kept r → (b : Bool) → nat_eq r.to_come 0 ≡ b → MatchBool b (IsWhole r) (IsPart r)
test_whole r stage kept true is = whole_at r stage kept (eqb-true r.to_come 0 is)
test_whole r stage kept false is = part_at r stage kept (eqb-false r.to_come 0 is)

-- ---- the number of clauses is small

pub few_clauses : (ts : List Token) (v : ℕ) (clauses : List (List ℤ)) → IsFormula ts v clauses → (length clauses < 10 ^ 18) × (v ≤ most_variables)
few_clauses [] v clauses file = absurd file
few_clauses (p ∷ []) v clauses file = absurd file.1
few_clauses (p ∷ name ∷ []) v clauses file = absurd file.1.2
few_clauses (p ∷ name ∷ variables ∷ []) v clauses file = absurd file.1.2.3
few_clauses (p ∷ name ∷ variables ∷ count ∷ ts) v clauses file =
    let (n, here, number, body) = file.1.2.3 in
    (subst (λ m. m < 10 ^ 18) (sym body.all) (small_number count.word n number), file.1.2.2)

-- ---- what was read can be finished

zero_number : IsNumber (codes "0") 0
zero_number = record { some = omega arith; most = omega arith; digits = (omega arith, tt); value = refl }

no_clauses : (v : ℕ) → IsBody v 0 [] []
no_clauses v = record { front = []; tail = []; parts = refl; spelt = tt; ends = tt; literals = All-nil (All IsLiteral); all = refl }

no_count : (line v : ℕ) → HasCount line v (token line (codes "0") ∷ []) []
no_count line v = (0, refl, zero_number, no_clauses v)

no_variables : (line : ℕ) → HasVariables line (token line (codes "0") ∷ token line (codes "0") ∷ []) 0 []
no_variables line = (refl, zero_number, omega arith, no_count line 0)

no_name : (line : ℕ) → HasCnf line (token line (codes "cnf") ∷ token line (codes "0") ∷ token line (codes "0") ∷ []) 0 []
no_name line = (refl, refl, no_variables line)

abbrev pub CanEnd : Stage → Reading → Type 0
CanEnd stage r = (rest : List Token) × (v : ℕ) × (clauses : List (List ℤ)) × CompletesAt stage r rest v clauses

pub can_complete : (r : Reading) → Kept r → CanEnd r.stage r
can_complete r kept = go r.stage kept
  where
    go : (stage : Stage) → KeptAt stage r → CanEnd stage r
    go Format k = (token 1 (codes "p") ∷ token 1 (codes "cnf") ∷ token 1 (codes "0") ∷ token 1 (codes "0") ∷ [], 0, [], (refl, no_name 1))
    go Name k = (token r.line (codes "cnf") ∷ token r.line (codes "0") ∷ token r.line (codes "0") ∷ [], 0, [], no_name r.line)
    go Variables k = (token r.line (codes "0") ∷ token r.line (codes "0") ∷ [], 0, [], no_variables r.line)
    go Count k = (token r.line (codes "0") ∷ [], r.variables, [], (refl, no_count r.line r.variables))
    go Clauses k = let (ts, clauses, rest) = can_end r.variables r.to_come r.clauses r.part.items k.0 k.1 k.2 in (ts, r.variables, clauses, (refl, rest))
    go Over k = ([], r.variables, r.clauses, (refl, refl))

-- ---- the loop

-- tokens were read
pub record WasRead (text : List ℕ) (left : List Token) (r : Reading) : Type 0 where
  pub before : List Token
  pub parts : tokens text ≡ before ++ left
  pub stands : (rest : List Token) (v : ℕ) (clauses : List (List ℤ)) → IsFormula (before ++ rest) v clauses ↔ Completes r rest v clauses
  pub kept : Kept r

pub read_nothing : (text : List ℕ) (left : List Token) (r : Reading) → left ≡ tokens text → r.stage ≡ Format → r.clauses ≡ [] → r.part.items ≡ [] → WasRead text left r
read_nothing text left r is stage none empty = record {
  before = [];
  parts = sym is;
  stands = λ rest v clauses. subst (λ s. IsFormula rest v clauses ↔ CompletesAt s r rest v clauses) (sym stage) ((λ x. x), (λ x. x));
  kept = subst (λ s. KeptAt s r) (sym stage) (none, empty);
}

pub read_more : (text : List ℕ) (left rest : List Token) (t : Token) (r s : Reading) → WasRead text left r → left ≡ t ∷ rest → Goes r t s → Kept s → WasRead text rest s
read_more text left rest t r s w is goes kept = record {
  before = w.before ++ t ∷ [];
  parts = w.parts ∙ ap (λ l. w.before ++ l) is ∙ sym (append_assoc w.before (t ∷ []) rest);
  stands = λ more v clauses.
      let step = goes more v clauses in
      let whole = w.stands (t ∷ more) v clauses in
      let same = append_assoc w.before (t ∷ []) more in
      (λ f. step.0 (whole.0 (subst (λ ts. IsFormula ts v clauses) same f)), λ c. subst (λ ts. IsFormula ts v clauses) (sym same) (whole.1 (step.1 c)));
  kept = kept;
}

begun : (text : List ℕ) (left : List Token) (r : Reading) → (w : WasRead text left r) → Begins w.before
begun text left r w =
    let (rest, v, clauses, completes) = can_complete r w.kept in
    (rest, v, clauses, (w.stands rest v clauses).1 completes)

pub refused_at : (text : List ℕ) (left rest : List Token) (t : Token) (r : Reading) → WasRead text left r → left ≡ t ∷ rest → Stops r t → IsRefused text t.line
refused_at text left rest t r w is stops =
    at_token w.before t rest (w.parts ∙ ap (λ l. w.before ++ l) is) (begun text left r w) none refl
  where
    none : ¬ Begins (w.before ++ t ∷ [])
    none (more, v, clauses, formula) = stops more v clauses ((w.stands (t ∷ more) v clauses).0 (subst (λ ts. IsFormula ts v clauses) (append_assoc w.before (t ∷ []) more) formula))

all_of : (text : List ℕ) (left : List Token) (r : Reading) → left ≡ [] → (w : WasRead text left r) → tokens text ≡ w.before ++ []
all_of text left r none w = w.parts ∙ ap (λ l. w.before ++ l) none

pub file_is : (text : List ℕ) (left : List Token) (r : Reading) → left ≡ [] → WasRead text left r → (v : ℕ) (clauses : List (List ℤ)) → IsFile text v clauses ↔ Completes r [] v clauses
file_is text left r none w v clauses =
    let same = all_of text left r none w in
    let whole = w.stands [] v clauses in
    (λ f. whole.0 (subst (λ ts. IsFormula ts v clauses) same f), λ c. subst (λ ts. IsFormula ts v clauses) (sym same) (whole.1 c))

pub refused_end : (text : List ℕ) (left : List Token) (r : Reading) (n : ℕ) → left ≡ [] → WasRead text left r → ((v : ℕ) (clauses : List (List ℤ)) → ¬ Completes r [] v clauses) → n ≡ length (lines text) → IsRefused text n
refused_end text left r n none w stops is =
    at_end (subst Begins (sym (all_of text left r none w ∙ append-nil w.before)) (begun text left r w)) (λ v clauses f. stops v clauses ((file_is text left r none w v clauses).0 f)) is

-- ---- a text that is refused is no formula

pub refused_is_no_file : (text : List ℕ) (n v : ℕ) (clauses : List (List ℤ)) → IsRefused text n → ¬ IsFile text v clauses
refused_is_no_file text n v clauses (at_token before t behind parts begins none is) file =
    none (behind, v, clauses, subst (λ ts. IsFormula ts v clauses) (parts ∙ sym (append_assoc before (t ∷ []) behind)) file)
refused_is_no_file text n v clauses (at_end begins none is) file = none v clauses file

-- ---- no variable is beyond the greatest

abbrev Small : ℕ → ℤ → Type 0
Small v z = nat_abs z ≤ v

spelt_small : (v : ℕ) (z : ℤ) (word : List ℕ) → Spells v z word → Small v z
spelt_small v (pos zero) word spells = omega arith
spelt_small v (pos (suc n)) word spells = spells.0
spelt_small v (negsuc n) word spells = spells.0

all_small : (v : ℕ) (numbers : List ℤ) (ts : List Token) → AreSpelt v numbers ts → (z : ℤ) → Contains numbers z → Small v z
all_small v [] ts spelt z has = absurd (omega (arith, has.1))
all_small v (y ∷ numbers) [] spelt z has = absurd spelt
all_small v (y ∷ numbers) (t ∷ ts) spelt z has = elim (Contains-append_cases (y ∷ []) numbers z has) [
  | inl first ↦ subst (Small v) (one_in y z first) (spelt_small v y t.word spelt.0)
  | inr rest ↦ all_small v numbers ts spelt.1 z rest
]

flat_has : (clauses : List (List ℤ)) (clause : List ℤ) (l : ℤ) → Contains clauses clause → Contains clause l → Contains (flat clauses) l
flat_has [] clause l among has = absurd (omega (arith, among.1))
flat_has (c ∷ clauses) clause l among has = elim (Contains-append_cases (c ∷ []) clauses clause among) [
  | inl first ↦ Contains-append_left c (pos 0 ∷ flat clauses) l (subst (λ x. Contains x l) (sym (one_of c clause first)) has)
  | inr rest ↦ Contains-append_right c (pos 0 ∷ flat clauses) l (Contains-append_right (pos 0 ∷ []) (flat clauses) l (flat_has clauses clause l rest has))
]
  where
    one_of : (c clause : List ℤ) → Contains (c ∷ []) clause → c ≡ clause
    one_of c clause (zero, within, is) = is
    one_of c clause (suc i, within, is) = absurd (omega (arith, within))

body_within : (v count : ℕ) (ts : List Token) (clauses : List (List ℤ)) → IsBody v count ts clauses → AllWithin v clauses
body_within v count ts clauses b clause among l has = all_small v (flat clauses) b.front b.spelt l (flat_has clauses clause l among has)

pub file_within : (ts : List Token) (v : ℕ) (clauses : List (List ℤ)) → IsFormula ts v clauses → AllWithin v clauses
file_within [] v clauses file = absurd file
file_within (p ∷ []) v clauses file = absurd file.1
file_within (p ∷ name ∷ []) v clauses file = absurd file.1.2
file_within (p ∷ name ∷ variables ∷ []) v clauses file = absurd file.1.2.3
file_within (p ∷ name ∷ variables ∷ count ∷ ts) v clauses file = let (n, here, number, body) = file.1.2.3 in body_within v n ts clauses body

-- ---- where all was read

pub whole_file : (text : List ℕ) (left : List Token) (r : Reading) → left ≡ [] → WasRead text left r → IsWhole r → IsFile text r.variables r.clauses
whole_file text left r none w whole = (file_is text left r none w r.variables r.clauses).1 ((whole r.variables r.clauses).1 (refl, refl))
