-- The hints of a clause that is learnt: reasons in the trail's order, and then the clause of the conflict.
use Rattle.std.proofs.Common.{◌≡◌, ◌≢◌, ◌⊎◌, inl, inr, ℕ, ◌+◌, ◌-◌, ◌<◌, ◌≤◌, List, ◌++◌, [], ◌∷◌, length, reverse, get_or, map, refl, sym, ap, ◌∙◌, subst, arith, Bool}
use Rattle.std.specs.Prelude.{ℤ, pos, nat_abs, neg_ℤ, Contains}
use Rattle.std.proofs.lemmas.List.{reverse-append}
use Rattle.std.proofs.lemmas.List.Elements.{Contains-append_left, Contains-push, Contains-push_cases}
use lib.IntN.{neg_ℤ-neg_ℤ}
use Rattle.l2_cnf.specs.Trail.{AreApart}
use Rattle.l2_cnf.specs.Logic.{AllWithin}
use Rattle.l2_cnf.specs.Steps.{IsUnit, HasNumber, clause_of, Leads, IsStep}
use Rattle.l2_cnf.proofs.Trails.{AreApart-push}
use Rattle.l2_cnf.proofs.Laws.{nat_abs-neg_ℤ}
use Rattle.l2_cnf.proofs.Derivations.{Contains-map, Contains-unmap}
use Rattle.l2_watch.specs.Past.{IsReason}
use Rattle.l2_watch.specs.Board.{Board, IsBoard}
use Rattle.l2_cdcl.specs.Analysis.{AreUnmarked, IsFalseBefore, IsOpen, IsMore, HasVariable, IsLeft, IsPoint}
use Rattle.l2_cdcl.specs.Chain.{Chain, IsLater, IsResolved}
use Rattle.l2_cdcl.specs.Level.{IsPresent}
use Rattle.l2_cdcl.proofs.Analyses.{open_end, open_others, open_rest, open_left, cause_zero, cause_some}
use Rattle.l2_cdcl.proofs.Targets.{later_false, point_over}

pub reverse-push : (numbers : List ℕ) (n : ℕ) → reverse (numbers ++ n ∷ []) ≡ n ∷ reverse numbers
reverse-push numbers n = reverse-append numbers (n ∷ [])

-- more literals are false, and more are resolved
pub Chain-more : (clauses : List (List ℤ)) (few many less resolved : ℤ → Type 0) (hints : List ℕ) → ((m : ℤ) → few m → many m) → ((l : ℤ) → less l → resolved l) → Chain clauses few less hints → Chain clauses many resolved hints
unfolding Chain
Chain-more clauses few many less resolved hints more later chain true_ones false_ones unset = chain true_ones (λ m h. false_ones m (more m h)) (λ l r. unset l (later l r))

-- a hint before others
leads_before : (clauses : List (List ℤ)) (true_ones : List ℤ) (hint : ℕ) (hints : List ℕ) (l : ℤ) → HasNumber clauses hint → IsUnit true_ones (clause_of clauses hint) l → Leads clauses (true_ones ++ l ∷ []) hints → Leads clauses true_ones (hint ∷ hints)
leads_before clauses true_ones hint [] l number unit leads = absurd leads
leads_before clauses true_ones hint (next ∷ hints) l number unit leads = (number, (l, unit, leads))

-- the clause of the conflict
pub chain_start : (clauses : List (List ℤ)) (hint : ℕ) (resolved : ℤ → Type 0) → HasNumber clauses hint → Chain clauses (Contains (clause_of clauses hint)) resolved (hint ∷ [])
unfolding Chain
chain_start clauses hint resolved number true_ones false_ones unset = (number, λ m h. false_ones m h)

-- a reason before the others
pub chain_step : (clauses : List (List ℤ)) (before after resolved : ℤ → Type 0) (hint : ℕ) (hints : List ℕ) (l : ℤ) → HasNumber clauses hint → Contains (clause_of clauses hint) l
    → ((m : ℤ) → Contains (clause_of clauses hint) m → m ≢ l → after m) → ((m : ℤ) → before m → (m ≡ neg_ℤ l) ⊎ after m) → ((x : ℤ) → resolved x → nat_abs l ≢ nat_abs x)
    → Chain clauses before resolved hints → Chain clauses after (λ x. (x ≡ l) ⊎ resolved x) (hint ∷ hints)
unfolding Chain
chain_step clauses before after resolved hint hints l number stands others rest apart chain true_ones false_ones unset =
    let leads : Leads clauses (true_ones ++ l ∷ []) hints = chain (true_ones ++ l ∷ [])
    (λ m h. elim (rest m h) [
      | inl e ↦ subst (Contains (true_ones ++ l ∷ [])) (sym (neg_ℤ-neg_ℤ l) ∙ ap neg_ℤ (sym e)) (Contains-push true_ones l)
      | inr still ↦ Contains-append_left true_ones (l ∷ []) (neg_ℤ m) (false_ones m still)
    ])
    (λ x r m h. elim (Contains-push_cases true_ones l m h) [
      | inl old ↦ unset x (inr r) m old
      | inr e ↦ λ same. apart x r (ap nat_abs e ∙ same)
    ]) in
    leads_before clauses true_ones hint hints l number (record { stands = stands; unset = unset l (inl refl); others = λ m h ne. false_ones m (others m h ne) }) leads

-- where a trace begins
pub chain_begin : (clauses : List (List ℤ)) (trail : List ℤ) (low start k conflict : ℕ) (marks : List Bool) (aside : List ℤ) (numbers : List ℕ) → conflict < length clauses → start ≤ k → AreUnmarked trail marks (k + 1) (length trail)
    → ((m : ℤ) → Contains (get_or clauses conflict []) m → IsOpen trail low start (length trail) marks aside m) → numbers ≡ (conflict + 1) ∷ [] → Chain clauses (IsOpen trail low start (k + 1) marks aside) (IsLater trail k) (reverse numbers)
chain_begin clauses trail low start k conflict marks aside numbers h first none all e =
    let n : conflict + 1 - 1 ≡ conflict = omega arith in
    let here : clause_of clauses (conflict + 1) ≡ get_or clauses conflict [] = ap (λ i. get_or clauses i []) n in
    subst (Chain clauses (IsOpen trail low start (k + 1) marks aside) (IsLater trail k)) (sym (ap reverse e))
    (Chain-more clauses (Contains (clause_of clauses (conflict + 1))) (IsOpen trail low start (k + 1) marks aside) (IsLater trail k) (IsLater trail k) ((conflict + 1) ∷ [])
    (λ m c. open_end trail low start (k + 1) (length trail) marks aside none (omega (arith, first)) m (all m (subst (λ x. Contains x m) here c))) (λ l r. r)
    (chain_start clauses (conflict + 1) (IsLater trail k) (omega arith, omega (arith, h))))

-- a step of the trace, from k to p
pub chain_resolve : (clauses : List (List ℤ)) (trail : List ℤ) (low start k p reason : ℕ) (marks marks' : List Bool) (aside aside' : List ℤ) (numbers numbers' : List ℕ) → AreApart trail → k < length trail → start ≤ p → p < k
    → reason ≢ 0 → reason - 1 < length clauses → IsReason trail k (get_or clauses (reason - 1) []) → IsMore marks marks' aside aside' → ((m : ℤ) → Contains (get_or clauses (reason - 1) []) m → m ≢ get_or trail k (pos 0) → IsOpen trail low start (length trail) marks' aside' m)
    → AreUnmarked trail marks' (p + 1) k → numbers' ≡ numbers ++ reason ∷ [] → Chain clauses (IsOpen trail low start (k + 1) marks aside) (IsLater trail k) (reverse numbers) → Chain clauses (IsOpen trail low start (p + 1) marks' aside') (IsLater trail p) (reverse numbers')
chain_resolve clauses trail low start k p reason marks marks' aside aside' numbers numbers' apart h first last some within is more others none e chain =
    let l : ℤ = get_or trail k (pos 0) in
    subst (Chain clauses (IsOpen trail low start (p + 1) marks' aside') (IsLater trail p)) (sym (ap reverse e ∙ reverse-push numbers reason))
    (Chain-more clauses (IsOpen trail low start k marks' aside') (IsOpen trail low start (p + 1) marks' aside') (λ x. (x ≡ l) ⊎ IsLater trail k x) (IsLater trail p) (reason ∷ reverse numbers)
    (open_end trail low start (p + 1) k marks' aside' none (omega (arith, first)))
    (λ x r. elim r [
      | inl s ↦ (k, last, h, sym s)
      | inr (j, b, c, f) ↦ (j, omega (arith, b, last), c, f)
    ])
    (chain_step clauses (IsOpen trail low start (k + 1) marks aside) (IsOpen trail low start k marks' aside') (IsLater trail k) reason (reverse numbers) l (omega (arith, some), omega (arith, some, within)) is.stands
    (open_others trail low start k (get_or clauses (reason - 1) []) marks' aside' apart h is others)
    (λ m open_one. open_rest trail low start k marks marks' aside aside' m more open_one)
    (λ x (j, b, c, f) same. apart k j b c (same ∙ ap nat_abs (sym f)))
    chain))

-- where a trace ends
pub chain_point : (clauses : List (List ℤ)) (trail : List ℤ) (low start k : ℕ) (marks : List Bool) (aside : List ℤ) (numbers : List ℕ) → AreUnmarked trail marks start k → Chain clauses (IsOpen trail low start (k + 1) marks aside) (IsLater trail k) (reverse numbers) → Chain clauses (IsLeft trail low k aside) (IsLater trail k) (reverse numbers)
chain_point clauses trail low start k marks aside numbers none chain = Chain-more clauses (IsOpen trail low start (k + 1) marks aside) (IsLeft trail low k aside) (IsLater trail k) (IsLater trail k) (reverse numbers) (open_left trail low start k marks aside none) (λ l r. r) chain

-- the hints of the clause that is learnt, whose variables aren't those that were resolved
pub chain_leads : (clauses : List (List ℤ)) (trail : List ℤ) (low k : ℕ) (aside : List ℤ) (u : ℤ) (hints : List ℕ) → low ≡ 0 → AreApart trail → k < length trail → ((m : ℤ) → Contains aside m → IsFalseBefore trail k m) → get_or trail k (pos 0) ≡ neg_ℤ u
    → Chain clauses (IsLeft trail low k aside) (IsResolved trail k aside) hints → Leads clauses (map neg_ℤ (aside ++ u ∷ [])) hints
unfolding Chain
chain_leads clauses trail low k aside u hints none apart within below at chain =
    let clause : List ℤ = aside ++ u ∷ [] in
    -- a literal that was resolved has none of these variables
    let clash : (i j : ℕ) (l m : ℤ) → i < j → j < length trail → get_or trail i (pos 0) ≡ neg_ℤ (neg_ℤ m) → get_or trail j (pos 0) ≡ l → nat_abs m ≡ nat_abs l → ⊥ = λ i j l m f c g e same. apart i j f c (ap nat_abs (g ∙ neg_ℤ-neg_ℤ m) ∙ same ∙ ap nat_abs (sym e)) in
    chain (map neg_ℤ clause)
    (λ m left. elim left [
      | inl e ↦ Contains-map clause m (subst (Contains clause) (sym (neg_ℤ-neg_ℤ u) ∙ ap neg_ℤ (sym at) ∙ sym e) (Contains-push aside u))
      | inr (inl put) ↦ Contains-map clause m (Contains-append_left aside (u ∷ []) m put)
      | inr (inr (j, b, e)) ↦ absurd (omega (arith, b, none))
    ])
    (λ l resolved m h same. elim (Contains-push_cases aside u (neg_ℤ m) (Contains-unmap clause m h)) [
      | inl put ↦ elim resolved [
        | inl (j, b, c, e) ↦ (let there = below (neg_ℤ m) put in clash there.0 j l m (omega (arith, there.1, b)) c there.2 e same)
        | inr (j, b, e, none_of) ↦ none_of (neg_ℤ m) put (nat_abs-neg_ℤ m ∙ same)
      ]
      | inr s ↦ elim resolved [
        | inl (j, b, c, e) ↦ clash k j l m b c (at ∙ ap neg_ℤ s) e same
        | inr (j, b, e, none_of) ↦ apart j k b within (ap nat_abs e ∙ sym same ∙ sym (ap nat_abs (at ∙ ap neg_ℤ s ∙ neg_ℤ-neg_ℤ m)))
      ]
    ])

-- what made a literal true where nothing was decided
pub root_cause : (b : Board) (k : ℕ) → IsBoard b → b.levels ≡ [] → k < length b.past.literals → (get_or b.past.reasons k 0 ≢ 0) × (get_or b.past.reasons k 0 - 1 < length b.clauses) × (IsReason b.past.literals k (get_or b.clauses (get_or b.past.reasons k 0 - 1) []))
root_cause b k is none within =
    let reason : ℕ = get_or b.past.reasons k 0 in
    let cause = is.caused k within in
    let some : reason ≢ 0 = λ z. (let decided = cause_zero b.clauses b.past.literals b.levels k reason cause z in absurd (omega (arith, decided.1, ap length none))) in
    let told = cause_some b.clauses b.past.literals b.levels k reason cause some in
    (some, told.0, told.1)

-- a variable of the clauses is at most their greatest
known_within : (n : ℕ) (clauses : List (List ℤ)) (v : ℕ) → AllWithin n clauses → HasVariable clauses v → v ≤ n
known_within n clauses v within (clause, there, (m, stands, e)) = omega (arith, within clause there m stands, e)

-- the step by which the clause of a point is learnt
pub point_step : (b : Board) (low start k n : ℕ) (aside clause : List ℤ) (u : ℤ) (hints : List ℕ) → IsBoard b → IsPresent b low start → IsPoint b.clauses b.past.literals low start k aside → u ≡ neg_ℤ (get_or b.past.literals k (pos 0)) → clause ≡ aside ++ u ∷ [] → low ≡ 0 → AllWithin n b.clauses
    → Chain b.clauses (IsLeft b.past.literals low k aside) (IsResolved b.past.literals k aside) hints → IsStep b.clauses n (length b.clauses + 1) clause hints
point_step b low start k n aside clause u hints is present point e same none within chain =
    let trail = b.past.literals in
    let at : get_or trail k (pos 0) ≡ neg_ℤ u = sym (neg_ℤ-neg_ℤ _) ∙ ap neg_ℤ (sym e) in
    let var : nat_abs (get_or trail k (pos 0)) ≡ nat_abs u = ap nat_abs at ∙ nat_abs-neg_ℤ u in
    let below : (m : ℤ) → Contains aside m → IsFalseBefore trail k m = λ m h. later_false trail start k m point.first (point.below m h) in
    let over = point_over b low start k aside u is present point e in
    rw same (record {
      number_is = refl;
      over = λ l h. (
        (over l h).0,
        elim (Contains-push_cases aside u l h) [
          | inl put ↦ known_within n b.clauses (nat_abs l) within (point.known l put)
          | inr s ↦ omega (arith, known_within n b.clauses (nat_abs (get_or trail k (pos 0))) within point.here, var, ap nat_abs s)
        ],
      );
      apart = AreApart-push aside u point.apart (λ m h clash.
          let there = below m h in
          is.apart there.0 k there.1 point.within (ap nat_abs there.2 ∙ nat_abs-neg_ℤ m ∙ clash ∙ sym var));
      leads = chain_leads b.clauses trail low k aside u hints none is.apart point.within below at chain;
    })
