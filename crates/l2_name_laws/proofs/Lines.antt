-- The lines of a certificate.
use Rattle.std.proofs.Common.{◌≡◌, ℕ, zero, suc, ◌+◌, Bool, true, false, ℤ, List, [], ◌∷◌, ◌++◌, length, map, Option, Some, None, refl, sym, ap, ◌∙◌, subst, if◌then◌else◌, slice_get, Contains, arith}
use Rattle.std.specs.Prelude.{◌==◌, ◌&&◌, ◌||◌, is_some}
use Rattle.std.specs.List.{All, list_any}
use Rattle.std.specs.Ordering.{int_eq}
use Rattle.std.proofs.lemmas.Int.{ints}
use Rattle.std.proofs.lemmas.List.Elements.{All-nil, All-cons, All-head, All-tail}
use Rattle.l2_runs.specs.Numbers.{at_number}
use Rattle.l2_program.specs.declared.program.LoopInfo.{LoopInfo}
use Rattle.l2_program.specs.Programs.{ProgramTree}
use Rattle.l2_meaning.specs.Lawful.{IsLawful}
use Rattle.l2_meaning.specs.Rising.{Rise}
use Rattle.l2_meaning.proofs.LoopObjects.{loop_objects}
use Rattle.l2_templates.specs.declared.form.Form.{Form}
use Rattle.l2_templates.specs.declared.form.Row as rust
use Rattle.l2_templates.specs.declared.families.Family.{Family}
use Rattle.l2_templates.specs.declared.families.Family.TheVariants.{Octagons}
use Rattle.l2_templates.specs.declared.point.LoopPoint.{LoopPoint}
use Rattle.l2_templates.specs.declared.point.LoopPoint.TheVariants.{Bottom, Rows}
use Rattle.l2_templates.specs.Domains.{row_list}
use Rattle.l2_templates.specs.Points.{bounded, bounded_loop}
use Rattle.l2_templates.specs.Rows.{bounded_rows}
use Rattle.l2_cuts.specs.Points.{ranks_at}
use Rattle.l2_cuts.specs.Rankings.{candidates, octagons_of}
use Rattle.l2_cuts.specs.Strongest.{IsBoundOf, HaveBounds, IsLoopPointOf, AreLoopPointsOf, IsPointOf}
use Rattle.l2_cert.specs.declared.cert.Cert.{Cert}
use Rattle.l2_fitting.specs.Said.{Said, Component, rows_said, loop_said, first_ranks_said, behind_first, loops_said, said}
use Rattle.l2_fitting.specs.Fitting.{is_form_of, stands_behind, is_among, row_fits, fits, NamesFit}
use Rattle.l2_name_laws.specs.Naming.{AreCandidates, DomainsFit}
use Rattle.l2_name_laws.proofs.Orders.{is_itself, Each, each_append, each_so, Ordered}
use Rattle.l2_name_laws.proofs.Forms.{rows_ordered, rows_of_loop}

-- ---- lists

each_all : {A : Type 0} (P : A → Type 0) (xs : List A) → Each P xs → All P xs
each_all P [] h = All-nil P
each_all P (x ∷ xs) h = All-cons P x xs h.0 (each_all P xs h.1)

all_each : {A : Type 0} (P : A → Type 0) (xs : List A) → All P xs → Each P xs
all_each P [] h = tt
all_each P (x ∷ xs) h = (All-head P x xs h, all_each P xs (All-tail P x xs h))

each_at : {A : Type 0} (P : A → Type 0) (xs : List A) (x : A) → Each P xs → Contains xs x → P x
each_at P [] x h (i, l, e) = absurd (omega (arith, l))
each_at P (y ∷ xs) x h (zero, l, e) = subst P e h.0
each_at P (y ∷ xs) x h (suc i, l, e) = each_at P xs x h.1 (i, omega (arith, l), e)

same_int : (z : ℤ) → int_eq z z ≡ true
same_int z = grind (arith, ints)

or_true : (b : Bool) → (b || true) ≡ true
or_true true = refl
or_true false = refl

listed : (bounds : List ℤ) (b : ℤ) → Contains bounds b → list_any (int_eq b) bounds ≡ true
listed [] b (i, l, e) = absurd (omega (arith, l))
listed (x ∷ bounds) b (zero, l, e) = let k : int_eq b x ≡ true = ap (int_eq b) e ∙ same_int b in ap (λ t. t || list_any (int_eq b) bounds) k
listed (x ∷ bounds) b (suc i, l, e) = ap (λ t. int_eq b x || t) (listed bounds b (i, omega (arith, l), e)) ∙ or_true (int_eq b x)

-- ---- the rows that have a bound

each_bounded : (P : Form → Type 0) (rows : List rust.Row) → Each P (map (λ row. row.form) rows) → Each P (map (λ row. row.form) (bounded_rows rows))
each_bounded P [] h = tt
each_bounded P (r ∷ rows) h = go (is_some r.bound) (each_bounded P rows h.1)
  where
    go : (b : Bool) → Each P (map (λ row. row.form) (bounded_rows rows)) → Each P (map (λ row. row.form) (if b then r ∷ bounded_rows rows else bounded_rows rows))
    go true k = (h.0, k)
    go false k = k

ordered_bounded : (rows : List rust.Row) → Ordered (map (λ row. row.form) rows) → Ordered (map (λ row. row.form) (bounded_rows rows))
ordered_bounded [] h = tt
ordered_bounded (r ∷ rows) h = go (is_some r.bound) (ordered_bounded rows h.1)
  where
    go : (b : Bool) → Ordered (map (λ row. row.form) (bounded_rows rows)) → Ordered (map (λ row. row.form) (if b then r ∷ bounded_rows rows else bounded_rows rows))
    go true k = (each_bounded (λ g. stands_behind (Some r.form) g ≡ true) rows h.0, k)
    go false k = k

among : (bounds : List ℤ) (rows : List rust.Row) → HaveBounds bounds rows → Each (λ (row : rust.Row). is_among bounds row.bound ≡ true) (bounded_rows rows)
among bounds [] h = tt
among bounds (r ∷ rows) h = go r.bound refl h.0 (among bounds rows h.1)
  where
    go : (o : Option ℤ) → r.bound ≡ o → IsBoundOf bounds r.bound → Each (λ (row : rust.Row). is_among bounds row.bound ≡ true) (bounded_rows rows)
        → Each (λ (row : rust.Row). is_among bounds row.bound ≡ true) (if is_some r.bound then r ∷ bounded_rows rows else bounded_rows rows)
    go None e k rest = subst (λ o. Each (λ (row : rust.Row). is_among bounds row.bound ≡ true) (if is_some o then r ∷ bounded_rows rows else bounded_rows rows)) (sym e) rest
    go (Some b) e k rest =
        subst (λ o. Each (λ (row : rust.Row). is_among bounds row.bound ≡ true) (if is_some o then r ∷ bounded_rows rows else bounded_rows rows)) (sym e)
        (ap (is_among bounds) e ∙ listed bounds b (subst (IsBoundOf bounds) e k), rest)

-- ---- lines

module _ (p : ProgramTree) where
  abbrev Fit : Said → Type 0
  Fit s = fits p s ≡ true

  three : (a b c : Bool) → a ≡ true → b ≡ true → c ≡ true → (a && (b && c)) ≡ true
  three a b c x y z = λ i. x i && (y i && z i)

  rows_fit : (l : ℕ) (loop : LoopInfo) (before : Option Form) (rows : List rust.Row) → at_number p.loops l ≡ Some loop → Each (λ f. is_form_of (Some loop) f ≡ true) (map (λ row. row.form) rows)
      → Each (λ f. stands_behind before f ≡ true) (map (λ row. row.form) rows) → Ordered (map (λ row. row.form) rows) → Each (λ (row : rust.Row). is_among p.thresholds row.bound ≡ true) rows → Each Fit (rows_said l before rows)
  rows_fit l loop before [] e f b o a = tt
  rows_fit l loop before (r ∷ rows) e f b o a = (
    ap (λ x. row_fits x p.thresholds before r) e ∙ (λ i. (f.0 i && b.0 i) && a.0 i),
    rows_fit l loop (Some r.form) rows e f.1 o.0 o.1 a.1,
  )

  any_first : (rows : List Form) → Each (λ f. stands_behind None f ≡ true) rows
  any_first [] = tt
  any_first (f ∷ fs) = (refl, any_first fs)

  loop_fits : (family : Family) (l : ℕ) (loop : LoopInfo) (x : LoopPoint) → at_number p.loops l ≡ Some loop → Rise loop.vars → IsLoopPointOf family p.thresholds loop x → Each Fit (loop_said l (bounded_loop x))
  loop_fits family l loop Bottom e r h = (refl, tt)
  loop_fits family l loop (Rows rows) e r h =
      let of : Each (λ f. is_form_of (Some loop) f ≡ true) (map (λ row. row.form) rows) = subst (Each (λ f. is_form_of (Some loop) f ≡ true)) (sym h.0) (rows_of_loop loop family r) in
      let o : Ordered (map (λ row. row.form) rows) = subst Ordered (sym h.0) (rows_ordered loop family r) in
      (refl, rows_fit l loop None (bounded_rows rows) e (each_bounded (λ f. is_form_of (Some loop) f ≡ true) rows of) (any_first (map (λ row. row.form) (bounded_rows rows))) (ordered_bounded rows o) (among p.thresholds rows h.1))

  components_fit : (l : ℕ) (forms : List Form) → Each (λ f. is_form_of (at_number p.loops l) f ≡ true) forms → Each Fit (map (Component l) forms)
  components_fit l [] h = tt
  components_fit l (f ∷ fs) h = (h.0, components_fit l fs h.1)

  -- of the loops from number l on
  abbrev RanksFit : ℕ → List (List Form) → Type 0
  RanksFit l ranks = (j : ℕ) (loop : LoopInfo) → at_number p.loops (l + j) ≡ Some loop → Each (λ f. is_form_of (Some loop) f ≡ true) (ranks_at ranks (suc j))

  ranks_fit : (l : ℕ) (loop : LoopInfo) → at_number p.loops l ≡ Some loop → (ranks : List (List Form)) → RanksFit l ranks → Each Fit (first_ranks_said l ranks)
  ranks_fit l loop e [] h = tt
  ranks_fit l loop e (forms ∷ ranks) h =
      let here : at_number p.loops (l + 0) ≡ Some loop = ap (at_number p.loops) (omega arith) ∙ e in
      (refl, components_fit l forms (subst (λ x. Each (λ f. is_form_of x f ≡ true) forms) (sym e) (h 0 loop here)))

  ranks_behind : (l : ℕ) (ranks : List (List Form)) → RanksFit l ranks → RanksFit (suc l) (behind_first ranks)
  ranks_behind l [] h j loop e = tt
  ranks_behind l (forms ∷ ranks) h j loop e = let there : at_number p.loops (l + suc j) ≡ Some loop = ap (at_number p.loops) (omega arith) ∙ e in h (suc j) loop there

  number_behind : (done : List LoopInfo) (loop : LoopInfo) (rest : List LoopInfo) → slice_get (done ++ loop ∷ rest) (length done) ≡ Some loop
  number_behind [] loop rest = refl
  number_behind (x ∷ done) loop rest = number_behind done loop rest

  one_more : (done : List LoopInfo) (loop : LoopInfo) (rest : List LoopInfo) → (done ++ loop ∷ []) ++ rest ≡ done ++ loop ∷ rest
  one_more [] loop rest = refl
  one_more (x ∷ done) loop rest = ap (λ xs. x ∷ xs) (one_more done loop rest)

  longer : (done : List LoopInfo) (loop : LoopInfo) → length (done ++ loop ∷ []) ≡ suc (length done)
  longer [] loop = refl
  longer (x ∷ done) loop = ap suc (longer done loop)

  loops_fit : (family : Family) → ((l : ℕ) (loop : LoopInfo) → at_number p.loops l ≡ Some loop → Rise loop.vars) → (done rest : List LoopInfo) → done ++ rest ≡ p.loops → (q : List LoopPoint) (ranks : List (List Form))
      → AreLoopPointsOf family p.thresholds rest q → RanksFit (suc (length done)) ranks → Each Fit (loops_said (suc (length done)) (bounded q) ranks)
  loops_fit family rise done [] e [] ranks h r = tt
  loops_fit family rise done [] e (x ∷ q) ranks h r = absurd h
  loops_fit family rise done (loop ∷ rest) e [] ranks h r = tt
  loops_fit family rise done (loop ∷ rest) e (x ∷ q) ranks h r =
      let at : at_number p.loops (suc (length done)) ≡ Some loop = ap (λ xs. slice_get xs (length done)) (sym e) ∙ number_behind done loop rest in
      each_append Fit (loop_said (suc (length done)) (bounded_loop x) ++ first_ranks_said (suc (length done)) ranks) (loops_said (suc (suc (length done))) (bounded q) (behind_first ranks))
      (each_append Fit (loop_said (suc (length done)) (bounded_loop x)) (first_ranks_said (suc (length done)) ranks)
      (loop_fits family (suc (length done)) loop x at (rise (suc (length done)) loop at) h.0) (ranks_fit (suc (length done)) loop at ranks r))
      (subst (λ n. Each Fit (loops_said (suc n) (bounded q) (behind_first ranks))) (longer done loop)
      (loops_fit family rise (done ++ loop ∷ []) rest (one_more done loop rest ∙ e) q (behind_first ranks) h.1
      (subst (λ n. RanksFit (suc n) (behind_first ranks)) (sym (longer done loop)) (ranks_behind (suc (length done)) ranks r))))

  -- ---- rankings of candidates

  candidates_fit : ((l : ℕ) (loop : LoopInfo) → at_number p.loops l ≡ Some loop → Rise loop.vars) → (l : ℕ) (x : Option LoopInfo) → at_number p.loops l ≡ x → (forms : List Form)
      → Each (λ f. Contains (octagons_of x) f) forms → Each (λ f. is_form_of x f ≡ true) forms
  candidates_fit rise l None e forms h = each_so (λ f. Contains [] f) (λ f. is_form_of None f ≡ true) forms (λ f (i, k, q). absurd (omega (arith, k))) h
  candidates_fit rise l (Some loop) e forms h =
      each_so (λ f. Contains (row_list Octagons loop.vars loop.mods) f) (λ f. is_form_of (Some loop) f ≡ true) forms
      (λ f k. each_at (λ f. is_form_of (Some loop) f ≡ true) (row_list Octagons loop.vars loop.mods) f (rows_of_loop loop Octagons (rise l loop e)) k) h

  how_many : (family : Family) (loops : List LoopInfo) (q : List LoopPoint) → AreLoopPointsOf family p.thresholds loops q → length (bounded q) ≡ length loops
  how_many family [] [] h = refl
  how_many family [] (x ∷ q) h = absurd h
  how_many family (loop ∷ loops) [] h = absurd h
  how_many family (loop ∷ loops) (x ∷ q) h = ap suc (how_many family loops q h.1)

  module _ (lawful : IsLawful p) (family : Family) (q : List LoopPoint) (h : IsPointOf p family p.thresholds q) (c : Cert) (e : c.point ≡ bounded q) (r : AreCandidates p c.ranks) where
    rises : (l : ℕ) (loop : LoopInfo) → at_number p.loops l ≡ Some loop → Rise loop.vars
    rises l loop at = (loop_objects p lawful l loop at).vars_rise

    ranked : RanksFit 1 c.ranks
    ranked j loop at =
        let one_less : suc j ≡ 1 + j = omega arith in
        let there : at_number p.loops (suc j) ≡ Some loop = ap (at_number p.loops) one_less ∙ at in
        candidates_fit rises (suc j) (Some loop) there (ranks_at c.ranks (suc j))
        (subst (λ x. Each (λ f. Contains (octagons_of x) f) (ranks_at c.ranks (suc j))) there (all_each (λ f. Contains (candidates p (suc j)) f) (ranks_at c.ranks (suc j)) (r (suc j) loop there)))

    counted : (length c.point == length p.loops) ≡ true
    counted = ap (λ n. n == length p.loops) (ap length e ∙ how_many family p.loops q h) ∙ is_itself (length p.loops)

    names : NamesFit p c
    names = each_all Fit (said c) (refl, (refl, (refl, (refl, (counted, subst (λ x. Each Fit (loops_said 1 x c.ranks)) (sym e) (loops_fit family rises [] p.loops refl q c.ranks h ranked))))))

pub domains_fit : DomainsFit
domains_fit p lawful family q h c e r = names p lawful family q h c e r
