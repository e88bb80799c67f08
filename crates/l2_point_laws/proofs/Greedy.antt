-- Where each loop has its greedy list, the lists rank the loops.
use Rattle.std.proofs.Common.{◌≡◌, ℕ, zero, suc, ◌<◌, ◌≤◌, ℤ, int_lt, Bool, true, false, cond, List, [], ◌∷◌, ◌++◌, length, Some, ◌⊎◌, inl, inr, refl, sym, ap, ◌∙◌, subst, if◌then◌else◌, arith}
use Rattle.std.specs.Prelude.{◌==◌, ◌&&◌, not, nat_le}
use Rattle.std.specs.Ordering.{int_eq}
use Rattle.std.proofs.lemmas.Int.{ints}
use native.Mathlib.Decide.{dec_lt}
use Rattle.l2_runs.specs.declared.member.Member.{Member}
use Rattle.l2_runs.specs.Numbers.{at_number}
use Rattle.l2_runs.specs.Store.{Store}
use Rattle.l2_runs.specs.Runs.{Fallen}
use Rattle.l2_runs.specs.Loops.{events}
use Rattle.l2_run_laws.specs.Watches.{HoldAll, alone}
use Rattle.l2_run_laws.proofs.Judging.{FailsAt, hold_alone, hold_before, judge}
use Rattle.l2_run_laws.proofs.Agreeing.{Any, NoneOf, FallsNow, Alike, TestsAgree, falls_so, falls_too}
use Rattle.l2_run_laws.proofs.Meeting.{TestsMeet}
use Rattle.l2_program.specs.declared.program.LoopInfo.{LoopInfo}
use Rattle.l2_program.specs.Programs.{ProgramTree}
use Rattle.l2_templates.specs.declared.form.Form.{Form}
use Rattle.l2_templates.specs.declared.point.LoopPoint.{LoopPoint}
use Rattle.l2_templates.specs.declared.point.LoopPoint.TheVariants.{Bottom}
use Rattle.l2_templates.specs.Forms.{row_value, lower_than}
use Rattle.l2_meaning.specs.Execution.{run_program}
use Rattle.l2_cuts.specs.Points.{values_of, point_at, rows_of, ranks_at, lowers}
use Rattle.l2_cuts.specs.Cuts.{cut_limit, rows_at, watch, watched, cut_end, row_end, Infers, TurnsPass, RankProves}
use Rattle.l2_cuts.specs.Rankings.{keeps, rises, falls, keep_all, unless_so, Serves, IsFirstServing, candidates, IsGreedy, RanksAre}
use Rattle.l2_cut_laws.proofs.PointFacts.{hold_append, hold_left, hold_right}
use Rattle.l2_cut_laws.proofs.Following.{start, end_of, fell, is_fallen}
use Rattle.l2_cut_laws.proofs.Consequences.{agreeing, none_fall}

abbrev Passes : Type 0
Passes = ℕ → Store → Store → Bool

-- ---- watches

bottom_holds : (q : LoopPoint) (a b : Store) → q ≡ Bottom → HoldAll (rows_of q) a b → ⊥
bottom_holds q a b e h = let k : HoldAll (rows_of Bottom) a b = subst (λ x. HoldAll (rows_of x) a b) e h in let c : false ≡ true = k.0 in cc

module _ (p : ProgramTree) (sets : ℕ → Member → Bool) (k : ℕ) (q : List LoopPoint) where
  abbrev Pass : Passes → Type 0
  Pass w = TurnsPass p sets k q w

  -- a watch passes where a stricter one does, but for loops at Bottom
  pub implied : (w v : Passes) → ((l : ℕ) (a b : Store) → (point_at q l ≡ Bottom) ⊎ (w l a b ≡ true → v l a b ≡ true)) → Pass w → Pass v
  implied w v weaker pass choices h =
      let limit = cut_limit p sets k q in
      let x = run_program p limit (watched q w) (start p choices 0) in
      let y = run_program p limit (watched q v) (start p choices 0) in
      let f = fell choices 0 y h in
      let g = falls_too x y f.0 f.1 (agreeing p limit Any (watched q w) (watched q v) tests choices 0) f.2 in
      pass choices (is_fallen (cut_end p sets k q (watched q w) choices) g.0 g.1 (end_of choices 0 x (Fallen g.0 g.1) g.2))
    where
      tests : TestsAgree Any (watched q w) (watched q v)
      tests false l a s = inl refl
      tests true l a s = by_rows (judge l a s.store (rows_at q l))
        where
          by_watch : HoldAll (rows_at q l) a s.store → HoldAll (watch q w l) a s.store ⊎ FailsAt l a s.store (watch q w l) → Alike Any true (events true l (rows_at q l ++ watch q w l) a s) (events true l (rows_at q l ++ watch q v l) a s)
          by_watch h (inr f) = inr (refl, subst (λ r. FallsNow Any r) (sym (hold_before l a s.store true (rows_at q l) (watch q w l) h s.choices s ∙ f.alone s.choices s)) tt)
          by_watch h (inl j) = elim (weaker l a s.store) [
            | inl e ↦ absurd (bottom_holds (point_at q l) a s.store e h)
            | inr m ↦ inl (hold_before l a s.store true (rows_at q l) (watch q w l) h s.choices s ∙ hold_alone l a s.store true (watch q w l) j s.choices s
                ∙ sym (hold_before l a s.store true (rows_at q l) (watch q v l) h s.choices s ∙ hold_alone l a s.store true (watch q v l) (m j.0, tt) s.choices s))
          ]

          by_rows : HoldAll (rows_at q l) a s.store ⊎ FailsAt l a s.store (rows_at q l) → Alike Any true (events true l (rows_at q l ++ watch q w l) a s) (events true l (rows_at q l ++ watch q v l) a s)
          by_rows (inr f) = inl (f.before (watch q w l) s.choices s ∙ sym (f.before (watch q v l) s.choices s))
          by_rows (inl h) = by_watch h (judge l a s.store (watch q w l))

  -- where a point infers, what always passes does
  pub all_pass : Infers p sets k q → Pass (λ l a b. true)
  all_pass infers choices h =
      let limit = cut_limit p sets k q in
      let x = run_program p limit (watched q (λ l a b. true)) (start p choices 0) in
      let y = run_program p limit (alone (rows_at q)) (start p choices 0) in
      let f = fell choices 0 x h in
      infers choices (is_fallen (row_end p sets k q choices) f.0 f.1 (end_of choices 0 y (Fallen f.0 f.1) (falls_so x y f.0 f.1 (agreeing p limit NoneOf (watched q (λ l a b. true)) (alone (rows_at q)) tests choices 0) f.2)))
    where
      tests : TestsAgree NoneOf (watched q (λ l a b. true)) (alone (rows_at q))
      tests false l a s = inl refl
      tests true l a s = by_rows (judge l a s.store (rows_at q l))
        where
          by_rows : HoldAll (rows_at q l) a s.store ⊎ FailsAt l a s.store (rows_at q l) → Alike NoneOf true (events true l (rows_at q l ++ watch q (λ l a b. true) l) a s) (events true l (rows_at q l) a s)
          by_rows (inr f) = inl (f.before (watch q (λ l a b. true) l) s.choices s ∙ sym (f.alone s.choices s))
          by_rows (inl h) = inl (hold_before l a s.store true (rows_at q l) (watch q (λ l a b. true) l) h s.choices s ∙ hold_alone l a s.store true (watch q (λ l a b. true) l) (refl, tt) s.choices s ∙ sym (hold_alone l a s.store true (rows_at q l) h s.choices s))

  and_true : (x y : Bool) → (x && y) ≡ true → (x ≡ true) × (y ≡ true)
  and_true true y h = (refl, h)
  and_true false y h = cc

  true_and : (x y : Bool) → x ≡ true → y ≡ true → (x && y) ≡ true
  true_and true y e f = f
  true_and false y e f = cc

  -- two watches that pass do so together
  pub both_pass : (w v : Passes) → Pass w → Pass v → Pass (λ l a b. w l a b && v l a b)
  both_pass w v first second =
      none_fall p sets k q q q (watched q (λ l a b. w l a b && v l a b)) (watched q w) (watched q v) (λ l st h. (h, h)) meet (λ l st t h. (h, h)) first second
    where
      meet : TestsMeet (watched q (λ l a b. w l a b && v l a b) true) (watched q w true) (watched q v true)
      meet = record {
        hold = λ l a b h.
            let rows = hold_left (rows_at q l) (watch q (λ l a b. w l a b && v l a b) l) a b h in
            let last = hold_right (rows_at q l) (watch q (λ l a b. w l a b && v l a b) l) a b h in
            let parts = and_true (w l a b) (v l a b) last.0 in
            (hold_append (rows_at q l) (watch q w l) a b rows (parts.0, tt), hold_append (rows_at q l) (watch q v l) a b rows (parts.1, tt));
        fail = λ l a b h j.
            let rows = hold_left (rows_at q l) (watch q w l) a b h in
            let one = hold_right (rows_at q l) (watch q w l) a b h in
            let two = hold_right (rows_at q l) (watch q v l) a b j in
            hold_append (rows_at q l) (watch q (λ l a b. w l a b && v l a b) l) a b rows (true_and (w l a b) (v l a b) one.0 two.0, tt);
      }

  of_both : (w v u : Passes) → ((l : ℕ) (a b : Store) → w l a b ≡ true → v l a b ≡ true → u l a b ≡ true) → Pass w → Pass v → Pass u
  of_both w v u join first second =
      implied (λ l a b. w l a b && v l a b) u (λ l a b. inr (λ h. let parts = and_true (w l a b) (v l a b) h in join l a b parts.0 parts.1)) (both_pass w v first second)

  -- ---- one loop

  serving : (l : ℕ) (fs cs : List Form) (f : Form) → IsFirstServing p sets k q l fs cs f → Serves p sets k q l fs f
  serving l fs [] f h = absurd h
  serving l fs (c ∷ cs) f (inl h) = h.1
  serving l fs (c ∷ cs) f (inr h) = serving l fs cs f h.1

  and_assoc : (x y z : Bool) → (x && (y && z)) ≡ ((x && y) && z)
  and_assoc true y z = refl
  and_assoc false y z = refl

  keep_more : (fs : List Form) (g : Form) (a b : Store) → keep_all (fs ++ g ∷ []) a b ≡ (keep_all fs a b && (keeps g a b && true))
  keep_more [] g a b = refl
  keep_more (f ∷ fs) g a b = ap (λ x. keeps f a b && x) (keep_more fs g a b) ∙ and_assoc (keeps f a b) (keep_all fs a b) (keeps g a b && true)

  -- a turn that keeps the first forms lowers the list, or raises its first form, or keeps that one too and doesn't lower the others
  turn_lowers : (first same up down rest : Bool) → (same ≡ false → down ≡ false → up ≡ true) → not (first && up) ≡ true → not ((first && (same && true)) && not rest) ≡ true → not (first && not (cond same rest down)) ≡ true
  turn_lowers false same up down rest tri h j = refl
  turn_lowers true true up down rest tri h j = j
  turn_lowers true false up true rest tri h j = refl
  turn_lowers true false up false rest tri h j = let e = tri refl refl in let c : not up ≡ true = h in let d : not up ≡ false = ap not e in cc

  three_ways : (x y : ℤ) → int_eq y x ≡ false → int_lt y x ≡ false → int_lt x y ≡ true
  three_ways x y h j = grind (arith, ints, h, j)

  by_loop : (m l : ℕ) (x y z : Bool) → (not x ≡ true → not y ≡ true → not z ≡ true) → (if m == l then not x else true) ≡ true → (if m == l then not y else true) ≡ true → (if m == l then not z else true) ≡ true
  by_loop m l x y z join = go (m == l)
    where
      go : (same : Bool) → (if same then not x else true) ≡ true → (if same then not y else true) ≡ true → (if same then not z else true) ≡ true
      go true h j = join h j
      go false h j = refl

  abbrev left : List Form → List Form → Store → Store → Bool
  left fs gs a b = keep_all fs a b && not (lower_than gs (values_of a) (values_of b))

  greedy_pass : (l : ℕ) (fs gs : List Form) → IsGreedy p sets k q l fs gs → Pass (unless_so l (left fs gs))
  greedy_pass l fs [] h = implied (unless_so l (keep_all fs)) (unless_so l (left fs [])) (λ m a b. inr (λ w. by_loop m l (keep_all fs a b) (keep_all fs a b) (left fs [] a b) (λ x y. none_left (keep_all fs a b) x) w w)) h
    where
      none_left : (x : Bool) → not x ≡ true → not (x && not false) ≡ true
      none_left true e = e
      none_left false e = refl
  greedy_pass l fs (g ∷ gs) h =
      of_both (unless_so l (λ a b. keep_all fs a b && rises g a b)) (unless_so l (left (fs ++ g ∷ []) gs)) (unless_so l (left fs (g ∷ gs)))
      (λ m a b. by_loop m l (keep_all fs a b && rises g a b) (left (fs ++ g ∷ []) gs a b) (left fs (g ∷ gs) a b)
      (λ x y. turn_lowers (keep_all fs a b) (keeps g a b) (rises g a b) (falls g a b) (lower_than gs (values_of a) (values_of b)) (three_ways (row_value g (values_of a)) (row_value g (values_of b))) x
      (subst (λ z. not (z && not (lower_than gs (values_of a) (values_of b))) ≡ true) (keep_more fs g a b) y)))
      (serving l fs (candidates p l) g h.0).0 (greedy_pass l (fs ++ g ∷ []) gs h.1)

  -- ---- all loops

  module _ (r : List (List Form)) where
    -- the loops up to this one lower their lists
    abbrev up_to : ℕ → Passes
    up_to n l a b = if nat_le l n then lowers r l a b else true

    next_loop : (n l : ℕ) (a b : Store) → up_to n l a b ≡ true → unless_so (suc n) (left [] (ranks_at r (suc n))) l a b ≡ true → up_to (suc n) l a b ≡ true
    next_loop n l a b h j = go (dec_lt l (suc n)) (dec_lt (suc n) l)
      where
        low : l < suc n → nat_le l n ≡ true
        low lt = grind (arith, lt)

        same_loop : l ≡ suc n → lowers r l a b ≡ true
        same_loop e =
            let t : (l == suc n) ≡ true = grind (arith, e) in
            let d : not (not (lowers r (suc n) a b)) ≡ true = subst (λ x. (if x then not (left [] (ranks_at r (suc n)) a b) else true) ≡ true) t j in
            subst (λ m. lowers r m a b ≡ true) (sym e) (twice (lowers r (suc n) a b) d)
          where
            twice : (x : Bool) → not (not x) ≡ true → x ≡ true
            twice true d = refl
            twice false d = d

        go : Dec (l < suc n) → Dec (suc n < l) → up_to (suc n) l a b ≡ true
        go (yes lt) other =
            let e : lowers r l a b ≡ true = subst (λ x. (if x then lowers r l a b else true) ≡ true) (low lt) h in
            let t : nat_le l (suc n) ≡ true = grind (arith, lt) in
            subst (λ x. (if x then lowers r l a b else true) ≡ true) (sym t) e
        go (no ge) (yes gt) = let t : nat_le l (suc n) ≡ false = grind (arith, gt) in subst (λ x. (if x then lowers r l a b else true) ≡ true) (sym t) refl
        go (no ge) (no le) =
            let e : l ≡ suc n = omega (arith, ge, le) in
            let t : nat_le l (suc n) ≡ true = grind (arith, e) in
            subst (λ x. (if x then lowers r l a b else true) ≡ true) (sym t) (same_loop e)

    loops_pass : Infers p sets k q → (n : ℕ) → ((l : ℕ) → 1 ≤ l → l ≤ n → IsGreedy p sets k q l [] (ranks_at r l)) → Pass (up_to n)
    loops_pass infers zero greedy = implied (λ l a b. true) (up_to zero) at (all_pass infers)
      where
        at : (l : ℕ) (a b : Store) → (point_at q l ≡ Bottom) ⊎ (true ≡ true → up_to zero l a b ≡ true)
        at zero a b = inl refl
        at (suc l) a b = inr (λ e. let t : nat_le (suc l) 0 ≡ false = grind arith in subst (λ x. (if x then lowers r (suc l) a b else true) ≡ true) (sym t) refl)
    loops_pass infers (suc n) greedy =
        of_both (up_to n) (unless_so (suc n) (left [] (ranks_at r (suc n)))) (up_to (suc n)) (next_loop n)
        (loops_pass infers n (λ l some le. greedy l some (omega (arith, le)))) (greedy_pass (suc n) [] (ranks_at r (suc n)) (greedy (suc n) (omega arith) (omega arith)))

past_bottom : (q : List LoopPoint) (l : ℕ) → length q < l → point_at q l ≡ Bottom
past_bottom q zero h = refl
past_bottom [] (suc l) h = refl
past_bottom (x ∷ q) (suc zero) h = absurd (omega (arith, h))
past_bottom (x ∷ q) (suc (suc l)) h = past_bottom q (suc l) (omega (arith, h))

has_loop : (loops : List LoopInfo) (l : ℕ) → 1 ≤ l → l ≤ length loops → (loop : LoopInfo) × (at_number loops l ≡ Some loop)
has_loop loops zero some h = absurd (omega (arith, some))
has_loop [] (suc l) some h = absurd (omega (arith, h))
has_loop (x ∷ loops) (suc zero) some h = (x, refl)
has_loop (x ∷ loops) (suc (suc l)) some h = has_loop loops (suc l) (omega arith) (omega (arith, h))

pub greedy_ranks : (p : ProgramTree) (sets : ℕ → Member → Bool) (k : ℕ) (q : List LoopPoint) (r : List (List Form)) → Infers p sets k q → length q ≡ length p.loops → RanksAre p sets k q (Some r) → RankProves p sets k q r
greedy_ranks p sets k q r infers long ranks =
    implied p sets k q (up_to p sets k q r (length p.loops)) (lowers r) at
    (loops_pass p sets k q r infers (length p.loops) (λ l some le. ranks.1 l (has_loop p.loops l some le)))
  where
    at : (l : ℕ) (a b : Store) → (point_at q l ≡ Bottom) ⊎ (up_to p sets k q r (length p.loops) l a b ≡ true → lowers r l a b ≡ true)
    at l a b = go (dec_lt (length p.loops) l)
      where
        go : Dec (length p.loops < l) → (point_at q l ≡ Bottom) ⊎ (up_to p sets k q r (length p.loops) l a b ≡ true → lowers r l a b ≡ true)
        go (yes gt) = inl (past_bottom q l (omega (arith, long, gt)))
        go (no le) = inr (λ h. let t : nat_le l (length p.loops) ≡ true = grind (arith, le) in subst (λ x. (if x then lowers r l a b else true) ≡ true) t h)
