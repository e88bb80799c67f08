-- Where the lines of a certificate fit a program, its point and rankings are over the variables of the code's loops.
use Rattle.std.proofs.Common.{◌≡◌, inl, inr, ℕ, zero, suc, ◌+◌, ◌==◌, ◌&&◌, Bool, true, false, if◌then◌else◌, ℤ, List, [], ◌∷◌, ◌++◌, length, map, Option, Some, None, slice_get, refl, sym, ap, ◌∙◌, subst, arith}
use Rattle.std.specs.List.{All, list_all, list_any}
use Rattle.std.proofs.lemmas.Bool.Decides.{nat_tests}
use Rattle.std.proofs.lemmas.List.Elements.{All-nil, All-cons, All-head, All-tail}
use Rattle.l2_runs.specs.Numbers.{at_number}
use Rattle.l2_program.specs.declared.program.LoopInfo.{LoopInfo}
use Rattle.l2_program.specs.Programs.{ProgramTree}
use Rattle.l2_templates.specs.declared.form.Form.{Form}
use Rattle.l2_templates.specs.declared.form.Row as rust
use Rattle.l2_templates.specs.declared.point.LoopPoint.{LoopPoint}
use Rattle.l2_templates.specs.declared.point.LoopPoint.TheVariants.{Bottom, Rows}
use Rattle.l2_templates.specs.Domains.{is_in}
use Rattle.l2_lower.specs.Code.{code, code_loop}
use Rattle.l2_cuts.specs.Points.{point_at, ranks_at, or_bottom, or_no_forms}
use Rattle.l2_ssa.specs.Law.{loop_vars}
use Rattle.l2_ssa_points.specs.Places.{vars_of, or_no_ranks}
use Rattle.l2_ssa_points.specs.Law.{IsFormOver}
use Rattle.l2_cert.specs.declared.cert.Cert.{Cert}
use Rattle.l2_cert.specs.declared.cert.CertKind.{CertKind}
use Rattle.l2_cert.specs.declared.cert.CertKind.TheVariants.{Safe, Terminating}
use Rattle.l2_cert.specs.Certificate as cert
use Rattle.l2_cert.specs.Certificate.{InGrammar, AreRankings, RanksFit}
use Rattle.l2_row_circuits.specs.Law.{IsBound}
use Rattle.l2_goal_laws.specs.Fits.{IsFormOf, IsRowOf, IsLoopOf, AreOf}
use Rattle.l2_fitting.specs.Said.{Said, Row, Component, Loops, head_said, rows_said, loop_said, first_ranks_said, behind_first, loops_said}
use Rattle.l2_fitting.specs.Fitting.{is_form_of, row_fits, fits, NamesFit, stands_behind, is_among, variables}
use Rattle.l2_check.specs.Accepting.{ranks_of, ranks_of_kind}

-- ---- a form

abbrev pub info_vars : Option LoopInfo → List ℕ
info_vars None = []
info_vars (Some loop) = loop.vars

both_true : (a b : Bool) → (a && b) ≡ true → (a ≡ true) × (b ≡ true)
both_true true true h = (refl, refl)
both_true true false h = absurd (cc h)
both_true false b h = absurd (cc h)

equal_is : (n m : ℕ) → (n == m) ≡ true → n ≡ m
equal_is n m e = grind (arith, nat_tests)

form_over : (o : Option LoopInfo) (f : Form) → is_form_of o f ≡ true → IsFormOver (info_vars o) f
form_over None f h = absurd (cc h)
form_over (Some loop) f h = go (f.second == 0) refl (both_true (list_all (is_in loop.vars) (variables f)) (list_any (is_in loop.mods) (variables f)) h).0
  where
    go : (b : Bool) → (f.second == 0) ≡ b → list_all (is_in loop.vars) (if b then f.first ∷ [] else f.first ∷ f.second ∷ []) ≡ true → IsFormOver loop.vars f
    go true e k = record { first = (both_true (is_in loop.vars f.first) true k).0; second = inl (equal_is f.second 0 e) }
    go false e k =
        let t = both_true (is_in loop.vars f.first) (is_in loop.vars f.second && true) k in
        record { first = t.0; second = inr (both_true (is_in loop.vars f.second) true t.1).0 }

second_plain : (first second : ℕ) (plus : Bool) → cert.IsSecond first second plus → second ≡ 0 → plus ≡ true
second_plain first zero plus h e = h
second_plain first (suc n) plus h e = absurd (cc e)

form_of : (o : Option LoopInfo) (f : Form) → is_form_of o f ≡ true → cert.IsForm f → IsFormOf (info_vars o) f
form_of o f h g = record { over = form_over o f h; plain = second_plain f.first f.second f.second_plus g.second_is }

bound_of : (b : Option ℤ) → cert.IsBound b → IsBound b
bound_of None h = absurd h
bound_of (Some z) h = h

row_of : (o : Option LoopInfo) (thresholds : List ℤ) (before : Option Form) (row : rust.Row) → row_fits o thresholds before row ≡ true → cert.IsRow row → IsRowOf (info_vars o) row
row_of o thresholds before row h g =
    let both = (both_true (is_form_of o row.form && stands_behind before row.form) (is_among thresholds row.bound) h).0 in
    record { form = form_of o row.form (both_true (is_form_of o row.form) (stands_behind before row.form) both).0 g.formed; bound = bound_of row.bound g.bounded }

-- ---- lines of a loop

module _ (p : ProgramTree) where
  abbrev pub Fit : Said → Type 0
  Fit s = fits p s ≡ true

  front_of : (xs ys : List Said) → All Fit (xs ++ ys) → All Fit xs
  front_of [] ys h = All-nil Fit
  front_of (x ∷ xs) ys h = All-cons Fit x xs (All-head Fit x (xs ++ ys) h) (front_of xs ys (All-tail Fit x (xs ++ ys) h))

  back_of : (xs ys : List Said) → All Fit (xs ++ ys) → All Fit ys
  back_of [] ys h = h
  back_of (x ∷ xs) ys h = back_of xs ys (All-tail Fit x (xs ++ ys) h)

  abbrev pub vars_at : ℕ → List ℕ
  vars_at l = info_vars (at_number p.loops l)

  rows_of : (l : ℕ) (before : Option Form) (rows : List rust.Row) → All Fit (rows_said l before rows) → All cert.IsRow rows → All (IsRowOf (vars_at l)) rows
  rows_of l before [] h g = All-nil (IsRowOf (vars_at l))
  rows_of l before (row ∷ rows) h g =
      All-cons (IsRowOf (vars_at l)) row rows
      (row_of (at_number p.loops l) p.thresholds before row (All-head Fit (Row l before row) (rows_said l (Some row.form) rows) h) (All-head cert.IsRow row rows g))
      (rows_of l (Some row.form) rows (All-tail Fit (Row l before row) (rows_said l (Some row.form) rows) h) (All-tail cert.IsRow row rows g))

  loop_of : (l : ℕ) (q : LoopPoint) → All Fit (loop_said l q) → cert.IsLoop q → IsLoopOf (vars_at l) q
  loop_of l Bottom h g = tt
  loop_of l (Rows rows) h g = rows_of l None rows (All-tail Fit _ (rows_said l None rows) h) g.1

  forms_of : (l : ℕ) (forms : List Form) → All Fit (map (Component l) forms) → All cert.IsForm forms → All (IsFormOf (vars_at l)) forms
  forms_of l [] h g = All-nil (IsFormOf (vars_at l))
  forms_of l (f ∷ forms) h g =
      All-cons (IsFormOf (vars_at l)) f forms
      (form_of (at_number p.loops l) f (All-head Fit (Component l f) (map (Component l) forms) h) (All-head cert.IsForm f forms g))
      (forms_of l forms (All-tail Fit (Component l f) (map (Component l) forms) h) (All-tail cert.IsForm f forms g))

  -- ---- all loops

  -- n, and as many more
  abbrev pub up : ℕ → ℕ → ℕ
  up n zero = n
  up n (suc i) = up (suc n) i

  point_of : (n : ℕ) (point : List LoopPoint) (ranks : List (List Form)) → All Fit (loops_said (suc n) point ranks) → All cert.IsLoop point
      → (i : ℕ) → IsLoopOf (vars_at (suc (up n i))) (or_bottom (slice_get point i))
  point_of n [] ranks h g i = tt
  point_of n (q ∷ point) ranks h g zero =
      loop_of (suc n) q (front_of (loop_said (suc n) q) (first_ranks_said (suc n) ranks) (front_of (loop_said (suc n) q ++ first_ranks_said (suc n) ranks) (loops_said (suc (suc n)) point (behind_first ranks)) h)) (All-head cert.IsLoop q point g)
  point_of n (q ∷ point) ranks h g (suc i) =
      point_of (suc n) point (behind_first ranks) (back_of (loop_said (suc n) q ++ first_ranks_said (suc n) ranks) (loops_said (suc (suc n)) point (behind_first ranks)) h) (All-tail cert.IsLoop q point g) i

  rankings_of : (n : ℕ) (point : List LoopPoint) (ranks : List (List Form)) → All Fit (loops_said (suc n) point ranks) → AreRankings point ranks
      → (i : ℕ) → All (IsFormOf (vars_at (suc (up n i)))) (or_no_forms (slice_get ranks i))
  rankings_of n [] [] h g i = All-nil (IsFormOf (vars_at (suc (up n i))))
  rankings_of n [] (forms ∷ ranks) h g i = absurd g
  rankings_of n (q ∷ point) [] h g i = absurd g
  rankings_of n (q ∷ point) (forms ∷ ranks) h g zero =
      forms_of (suc n) forms
      (All-tail Fit _ (map (Component (suc n)) forms) (back_of (loop_said (suc n) q) (first_ranks_said (suc n) (forms ∷ ranks)) (front_of (loop_said (suc n) q ++ first_ranks_said (suc n) (forms ∷ ranks)) (loops_said (suc (suc n)) point ranks) h)))
      g.0.2
  rankings_of n (q ∷ point) (forms ∷ ranks) h g (suc i) =
      rankings_of (suc n) point ranks (back_of (loop_said (suc n) q ++ first_ranks_said (suc n) (forms ∷ ranks)) (loops_said (suc (suc n)) point ranks) h) g.1 i

-- ---- the whole

up_is : (p : ProgramTree) (n i : ℕ) → up p n i ≡ n + i
up_is p n zero = omega arith
up_is p n (suc i) = let h = up_is p (suc n) i in omega (arith, h)

vars_get : (loops : List LoopInfo) (i : ℕ) → info_vars (slice_get loops i) ≡ loop_vars (slice_get (map code_loop loops) i)
vars_get [] i = refl
vars_get (x ∷ loops) zero = refl
vars_get (x ∷ loops) (suc i) = vars_get loops i

same_vars : (p : ProgramTree) (i : ℕ) → vars_at p (suc (up p 0 i)) ≡ vars_of (code p) (suc i)
same_vars p i =
    let h = up_is p 0 i in
    let e : up p 0 i ≡ i = omega (arith, h) in
    ap (λ n. vars_at p (suc n)) e ∙ vars_get p.loops i

length_map : (loops : List LoopInfo) → length (map code_loop loops) ≡ length loops
length_map [] = refl
length_map (x ∷ loops) = ap suc (length_map loops)

module _ (p : ProgramTree) (c : Cert) (g : InGrammar c) (h : NamesFit p c) where
  lines : All (Fit p) (loops_said 1 c.point c.ranks)
  lines = back_of p (head_said c) (loops_said 1 c.point c.ranks) h

  counted : length c.point ≡ length p.loops
  counted = equal_is (length c.point) (length p.loops) (h 4 (Loops 0) (omega arith))

  rows : (l : ℕ) → IsLoopOf (vars_of (code p) l) (point_at c.point l)
  rows zero = tt
  rows (suc i) = subst (λ vs. IsLoopOf vs (point_at c.point (suc i))) (same_vars p i) (point_of p 0 c.point c.ranks lines g.point i)

  none_ranked : (vs : List ℕ) (l : ℕ) → All (IsFormOf vs) (ranks_at [] l)
  none_ranked vs zero = All-nil (IsFormOf vs)
  none_ranked vs (suc i) = All-nil (IsFormOf vs)

  rankings : (kind : CertKind) → RanksFit kind c.point c.ranks → (l : ℕ) → All (IsFormOf (vars_of (code p) l)) (ranks_at (or_no_ranks (ranks_of_kind kind c.ranks)) l)
  rankings Safe e l = none_ranked (vars_of (code p) l) l
  rankings Terminating a zero = All-nil (IsFormOf (vars_of (code p) 0))
  rankings Terminating a (suc i) = subst (λ vs. All (IsFormOf vs) (ranks_at c.ranks (suc i))) (same_vars p i) (rankings_of p 0 c.point c.ranks lines a i)

  pub are_of : AreOf (code p) c.point (ranks_of c)
  are_of = record { loops = counted ∙ sym (length_map p.loops); rows = rows; rankings = rankings c.kind g.ranks }
