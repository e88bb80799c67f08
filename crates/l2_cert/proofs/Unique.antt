-- A line makes one state of another, so bytes spell at most one certificate.
use Rattle.std.proofs.Common.{◌≡◌, ◌≢◌, inl, inr, ℕ, zero, suc, ◌^◌, ◌<◌, ℤ, pos, negsuc, Bool, true, false, Option, Some, None, List, [], ◌∷◌, ◌++◌, length, map, refl, sym, ap, subst, ◌∙◌, get_or, drop, arith, FitsSigned}
use Rattle.std.specs.Int.{w128}
use Rattle.std.specs.Fmt.{decimal, signed_decimal}
use Rattle.std.proofs.lemmas.Int.{ints}
use Rattle.l2_cnf.specs.Steps.{Step}
use Rattle.l2_templates.specs.declared.form.Form.{Form}
use Rattle.l2_templates.specs.declared.form.Row.{Row}
use Rattle.l2_templates.specs.declared.point.LoopPoint.TheVariants.{Bottom}
use Rattle.l2_lines.proofs.Decimals.{decimal_injective_wide, signed_decimal_injective_wide}
use Rattle.l2_cert.specs.declared.cert.Cert.{Cert}
use Rattle.l2_cert.specs.declared.cert.CertKind.{CertKind}
use Rattle.l2_cert.specs.declared.cert.CertKind.TheVariants.{Safe, Terminating}
use Rattle.l2_cert.specs.Words.{Word}
use Rattle.l2_cert.specs.Certificate.{kind_word, checks_word, bottom_line, rows_line, row_line, step_line, form_words, second_words, sign_word, bound_words, IsBound, IsForm, IsSecond, IsRow, IsStep, IsNumber, IsLiteral}
use Rattle.l2_cert.specs.Machine.{Place, State, at, Goes, GoesBy, AtFirst, AtKind, AtChecks, AtCopies, AtLoops, AtLoop, AtRow, AtRanks, AtRank, AtGoals, AtGoal, AtStep, AtEnd, Done, rows_left, forms_left, goals_left, loops_left, steps_left, with_loop}
use Rattle.l2_cert.proofs.Numerals.{literal_is_not_zero, number_is_not_zero, same_literal, same_number}
use Rattle.l2_cert.proofs.Repeats.{same_items}

same_decimal : (m n : ℕ) → m < 2 ^ 64 → n < 2 ^ 64 → decimal m ≡ decimal n → m ≡ n
same_decimal m n first second is = decimal_injective_wide m n (omega (arith, first)) (omega (arith, second)) is

same_kind : (a b : CertKind) → kind_word a ≡ kind_word b → a ≡ b
same_kind Safe Safe is = refl
same_kind Terminating Terminating is = refl
same_kind Safe Terminating is = let byte : 115 ≡ 116 = ap (λ w. get_or w 0 0) is in absurd (omega (arith, byte))
same_kind Terminating Safe is = let byte : 116 ≡ 115 = ap (λ w. get_or w 0 0) is in absurd (omega (arith, byte))

same_checks : (a b : Bool) → checks_word a ≡ checks_word b → a ≡ b
same_checks true true is = refl
same_checks false false is = refl
same_checks true false is = let byte : 111 ≡ 112 = ap (λ w. get_or w 0 0) is in absurd (omega (arith, byte))
same_checks false true is = let byte : 112 ≡ 111 = ap (λ w. get_or w 0 0) is in absurd (omega (arith, byte))

same_sign : (a b : Bool) → sign_word a ≡ sign_word b → a ≡ b
same_sign true true is = refl
same_sign false false is = refl
same_sign true false is = let byte : 43 ≡ 45 = ap (λ w. get_or w 0 0) is in absurd (omega (arith, byte))
same_sign false true is = let byte : 45 ≡ 43 = ap (λ w. get_or w 0 0) is in absurd (omega (arith, byte))

same_second : (v w : ℕ) (m n : ℕ) (a b : Bool) → m < 2 ^ 32 → n < 2 ^ 32 → IsSecond v m a → IsSecond w n b → second_words m a ≡ second_words n b → (m ≡ n) × (a ≡ b)
same_second v w zero zero a b small fits first second is = (refl, first ∙ sym second)
same_second v w zero (suc n) a b small fits first second is = cc
same_second v w (suc m) zero a b small fits first second is = cc
same_second v w (suc m) (suc n) a b small fits first second is =
    (same_decimal (suc m) (suc n) (omega (arith, small)) (omega (arith, fits)) (ap (λ l. get_or l 1 []) is), same_sign a b (ap (λ l. get_or l 0 []) is))

pub same_form : (f g : Form) → IsForm f → IsForm g → form_words f ≡ form_words g → f ≡ g
same_form f g first second is =
    let plus = same_sign f.plus g.plus (ap (λ l. get_or l 0 []) is) in
    let variable = same_decimal f.first g.first (omega (arith, first.first_small)) (omega (arith, second.first_small)) (ap (λ l. get_or l 1 []) is) in
    let rest = same_second f.first g.first f.second g.second f.second_plus g.second_plus first.second_small second.second_small first.second_is second.second_is (ap (drop 2) is) in
    λ i. record { first = variable i; plus = plus i; second = rest.0 i; second_plus = rest.1 i }

bound_fits : (z : ℤ) → IsBound (Some z) → FitsSigned w128 z
bound_fits (pos n) fits = record { sfits = omega (arith, ints, fits.0, fits.1) }
bound_fits (negsuc n) fits = record { sfits = omega (arith, ints, fits.0, fits.1) }

same_bound : (a b : Option ℤ) (f g : Form) → IsBound a → IsBound b → bound_words a ++ form_words f ≡ bound_words b ++ form_words g → (a ≡ b) × (form_words f ≡ form_words g)
same_bound None b f g first second is = absurd first
same_bound (Some y) None f g first second is = absurd second
same_bound (Some y) (Some z) f g first second is =
    (ap Some (signed_decimal_injective_wide y z (bound_fits y first) (bound_fits z second) (ap (λ l. get_or l 0 []) is)), ap (drop 1) is)

pub same_row : (r s : Row) → IsRow r → IsRow s → row_line r ≡ row_line s → r ≡ s
same_row r s first second is =
    let parts = same_bound r.bound s.bound r.form s.form first.bounded second.bounded (ap (drop 1) is) in
    let form = same_form r.form s.form first.formed second.formed parts.1 in
    λ i. record { form = form i; bound = parts.0 i }

pub same_step : (s t : Step) → IsStep s → IsStep t → step_line s ≡ step_line t → s ≡ t
same_step s t first second is =
    let number = same_number s.number t.number first.number second.number (ap (λ l. get_or l 0 []) is) in
    let clause = same_items IsLiteral signed_decimal (decimal 0) literal_is_not_zero same_literal s.clause t.clause (map decimal s.hints ++ decimal 0 ∷ []) (map decimal t.hints ++ decimal 0 ∷ []) first.clause second.clause (ap (drop 1) is) in
    let hints = same_items IsNumber decimal (decimal 0) number_is_not_zero same_number s.hints t.hints [] [] first.hints second.hints clause.1 in
    λ i. record { number = number i; clause = clause.0 i; hints = hints.0 i }

-- one less on both sides
same_left : (n m k : ℕ) → n ≡ suc m → n ≡ suc k → m ≡ k
same_left n m k first second = omega (arith, first, second)

no_rows_at_bottom : (i j r : ℕ) → bottom_line i ≢ rows_line j r
no_rows_at_bottom i j r is = let byte : 98 ≡ 114 = ap (λ l. get_or (get_or l 2 []) 0 0) is in absurd (omega (arith, byte))

pub one_way : (place : Place) (c : Cert) (line : List Word) (t u : State) → Goes (at place c) line t → Goes (at place c) line u → t ≡ u
one_way AtFirst c line t u (is, next) (so, then) = next ∙ sym then
one_way AtKind c line t u (a, is, next) (b, so, then) =
    let same = same_kind a b (ap (λ l. get_or l 1 []) (sym is ∙ so)) in
    next ∙ ap (λ k. at AtChecks (record c { kind = k })) same ∙ sym then
one_way AtChecks c line t u (a, is, next) (b, so, then) =
    let same = same_checks a b (ap (λ l. get_or l 1 []) (sym is ∙ so)) in
    next ∙ ap (λ o. at AtCopies (record c { overflow = o })) same ∙ sym then
one_way AtCopies c line t u (a, some, most, is, next) (b, more, least, so, then) =
    let same = same_decimal a b (omega (arith, most)) (omega (arith, least)) (ap (λ l. get_or l 1 []) (sym is ∙ so)) in
    next ∙ ap (λ k. at AtLoops (record c { k = k })) same ∙ sym then
one_way AtLoops c line t u (a, small, is, next) (b, fits, so, then) =
    let same = same_decimal a b (omega (arith, small)) (omega (arith, fits)) (ap (λ l. get_or l 1 []) (sym is ∙ so)) in
    next ∙ ap (λ n. at (loops_left n) c) same ∙ sym then
one_way (AtLoop n) c line t u (m, left, inl (is, next)) (k, rest, inl (so, then)) =
    next ∙ ap (λ m. with_loop m c Bottom) (same_left n m k left rest) ∙ sym then
one_way (AtLoop n) c line t u (m, left, inl (is, next)) (k, rest, inr (r, fits, so, then)) = absurd (no_rows_at_bottom (suc (length c.point)) (suc (length c.point)) r (sym is ∙ so))
one_way (AtLoop n) c line t u (m, left, inr (r, small, is, next)) (k, rest, inl (so, then)) = absurd (no_rows_at_bottom (suc (length c.point)) (suc (length c.point)) r (sym so ∙ is))
one_way (AtLoop n) c line t u (m, left, inr (r, small, is, next)) (k, rest, inr (q, fits, so, then)) =
    let count = same_decimal r q (omega (arith, small)) (omega (arith, fits)) (ap (λ l. get_or l 3 []) (sym is ∙ so)) in
    let one = same_left n m k left rest in
    next ∙ (λ i. rows_left (one i) c (count i) []) ∙ sym then
one_way (AtRow n r rows) c line t u (m, a, left, fits, is, next) (k, b, rest, are, so, then) =
    let same = same_row a b fits are (sym is ∙ so) in
    let one = same_left r m k left rest in
    next ∙ (λ i. rows_left n c (one i) (rows ++ same i ∷ [])) ∙ sym then
one_way (AtRanks n) c line t u (a, small, may, is, next) (b, fits, can, so, then) =
    let same = same_decimal a b (omega (arith, small)) (omega (arith, fits)) (ap (λ l. get_or l 2 []) (sym is ∙ so)) in
    next ∙ ap (λ m. forms_left n c m []) same ∙ sym then
one_way (AtRank n r forms) c line t u (m, f, left, fits, is, next) (k, g, rest, are, so, then) =
    let same = same_form f g fits are (ap (drop 1) (sym is ∙ so)) in
    let one = same_left r m k left rest in
    next ∙ (λ i. forms_left n c (one i) (forms ++ same i ∷ [])) ∙ sym then
one_way AtGoals c line t u (a, small, is, next) (b, fits, so, then) =
    let same = same_decimal a b (omega (arith, small)) (omega (arith, fits)) (ap (λ l. get_or l 1 []) (sym is ∙ so)) in
    next ∙ ap (λ n. at (goals_left n) c) same ∙ sym then
one_way (AtGoal n) c line t u (m, r, left, small, is, next) (k, q, rest, fits, so, then) =
    let count = same_decimal r q (omega (arith, small)) (omega (arith, fits)) (ap (λ l. get_or l 3 []) (sym is ∙ so)) in
    let one = same_left n m k left rest in
    next ∙ (λ i. steps_left (one i) c (count i) []) ∙ sym then
one_way (AtStep n r steps) c line t u (m, a, left, fits, is, next) (k, b, rest, are, so, then) =
    let same = same_step a b fits are (sym is ∙ so) in
    let one = same_left r m k left rest in
    next ∙ (λ i. steps_left n c (one i) (steps ++ same i ∷ [])) ∙ sym then
one_way AtEnd c line t u (is, next) (so, then) = next ∙ sym then
one_way Done c line t u first second = absurd first

pub one_end : (s t u : State) (lines : List (List Word)) → GoesBy s lines t → GoesBy s lines u → t ≡ u
one_end s t u [] first second = sym first ∙ second
one_end s t u (line ∷ lines) (mid, goes, rest) (other, also, then) =
    let same : mid ≡ other = one_way s.place s.cert line mid other goes also in
    one_end other t u lines (subst (λ x. GoesBy x lines t) same rest) then

-- where lines go from, by their first ones
pub parted : (s t : State) (xs ys : List (List Word)) → GoesBy s (xs ++ ys) t → (mid : State) × GoesBy s xs mid × GoesBy mid ys t
parted s t [] ys goes = (s, refl, goes)
parted s t (x ∷ xs) ys (next, first, rest) =
    let (mid, before, after) = parted next t xs ys rest in
    (mid, (next, first, before), after)
