-- Greedy lists by what turns do are those of the program; and what is stuck has no list at all.
use Rattle.std.proofs.Common.{◌≡◌, ℕ, zero, suc, ℤ, int_lt, Bool, true, false, List, [], ◌∷◌, ◌++◌, Some, None, inl, inr, refl, sym, ap, subst, if◌then◌else◌, arith}
use Rattle.std.specs.Prelude.{◌==◌, ◌&&◌, not, Option, Contains}
use Rattle.std.specs.Ordering.{int_eq}
use Rattle.std.proofs.lemmas.Int.{ints}
use Rattle.l2_runs.specs.declared.member.Member.{Member}
use Rattle.l2_runs.specs.Numbers.{at_number}
use Rattle.l2_runs.specs.Store.{Store}
use Rattle.l2_program.specs.Programs.{ProgramTree}
use Rattle.l2_templates.specs.declared.form.Form.{Form}
use Rattle.l2_templates.specs.declared.point.LoopPoint.{LoopPoint}
use Rattle.l2_templates.specs.Forms.{row_value, lower_than}
use Rattle.l2_cuts.specs.Points.{values_of, ranks_at, or_no_forms, lowers}
use Rattle.l2_cuts.specs.Cuts.{Infers, RankProves}
use Rattle.l2_cuts.specs.Rankings.{keeps, rises, falls, keep_all, unless_so, NoTurn, SomeTurn, octagons_of, candidates, Serves, IsFirstServing, NoneServes, IsGreedy, IsStuck, IsLoop, RanksAre}
use Rattle.l2_cut_laws.proofs.Consequences.{passing_infers}
use Rattle.l2_point_laws.proofs.Greedy.{implied, both_pass}
use Rattle.l2_rank.specs.Greedy as by_turns
use Rattle.l2_rank_laws.specs.Moves.{moves, SomeMove, SomeStay}
use Rattle.l2_rank_laws.proofs.Asking.{no_turn, not_both, never_so}

module _ (p : ProgramTree) (sets : ℕ → Member → Bool) (k : ℕ) (q : List LoopPoint) where
  -- ---- greedy lists

  module _ (infers : Infers p sets k q) (l : ℕ) where
    abbrev Moves : List Form → Form → Bool → Type 0
    Moves = SomeMove p sets k q l

    abbrev Stays : List Form → Type 0
    Stays = SomeStay p sets k q l

    serves_too : (fs : List Form) (f : Form) → by_turns.Serves Moves fs f → Serves p sets k q l fs f
    serves_too fs f h = (no_turn p sets k q l (λ old new. keep_all fs old new && rises f old new) infers h.0, h.1)

    serves_back : (fs : List Form) (f : Form) → Serves p sets k q l fs f → by_turns.Serves Moves fs f
    serves_back fs f h = (not_both p sets k q l (λ old new. keep_all fs old new && rises f old new) h.0, h.1)

    first_too : (fs cs : List Form) (f : Form) → by_turns.IsFirstServing Moves fs cs f → IsFirstServing p sets k q l fs cs f
    first_too fs [] f h = h
    first_too fs (c ∷ cs) f (inl h) = inl (h.0, serves_too fs f h.1)
    first_too fs (c ∷ cs) f (inr h) = inr ((λ s. h.0 (serves_back fs c s)), first_too fs cs f h.1)

    none_too : (fs cs : List Form) → by_turns.NoneServes Moves fs cs → NoneServes p sets k q l fs cs
    none_too fs [] h = tt
    none_too fs (c ∷ cs) h = ((λ s. h.0 (serves_back fs c s)), none_too fs cs h.1)

    greedy_too : (fs gs : List Form) → by_turns.IsGreedy Moves Stays (candidates p l) fs gs → IsGreedy p sets k q l fs gs
    greedy_too fs [] h = no_turn p sets k q l (keep_all fs) infers h
    greedy_too fs (g ∷ gs) h = (first_too fs (candidates p l) g h.0, greedy_too (fs ++ g ∷ []) gs h.1)

    stuck_too : (fs gs : List Form) → by_turns.IsStuck Moves Stays (candidates p l) fs gs → IsStuck p sets k q l fs gs
    stuck_too fs [] h = (h.0, none_too fs (candidates p l) h.1)
    stuck_too fs (g ∷ gs) h = (first_too fs (candidates p l) g h.0, stuck_too (fs ++ g ∷ []) gs h.1)

  forms_alike : (r : Option (List Form)) → by_turns.or_no_forms r ≡ or_no_forms r
  forms_alike None = refl
  forms_alike (Some r) = refl

  pub ranks_too : (r : Option (List (List Form))) → Infers p sets k q → by_turns.AreRanks (SomeMove p sets k q) (SomeStay p sets k q) p.loops r → RanksAre p sets k q r
  ranks_too (Some r) infers h = (h.0, at)
    where
      at : (l : ℕ) → IsLoop p l → IsGreedy p sets k q l [] (ranks_at r l)
      at l (loop, e) =
          subst (IsGreedy p sets k q l []) (forms_alike (at_number r l))
          (greedy_too infers l [] (by_turns.or_no_forms (at_number r l))
          (subst (λ o. by_turns.IsGreedy (SomeMove p sets k q l) (SomeStay p sets k q l) (octagons_of o) [] (by_turns.or_no_forms (at_number r l))) (sym e) (h.1 l loop e)))
  ranks_too None infers (l, loop, e, (fs, h)) =
      (l, (loop, e), (fs, stuck_too infers l [] fs (subst (λ o. by_turns.IsStuck (SomeMove p sets k q l) (SomeStay p sets k q l) (octagons_of o) [] fs) (sym e) h)))

  -- ---- what keeps its value

  still : (f : Form) (a b : Store) (up : Bool) → keeps f a b ≡ true → moves up f a b ≡ false
  still f a b true h = apart (row_value f (values_of a)) (row_value f (values_of b)) h
    where
      apart : (x y : ℤ) → int_eq y x ≡ true → int_lt x y ≡ false
      apart x y h = grind (arith, ints, h)
  still f a b false h = apart (row_value f (values_of a)) (row_value f (values_of b)) h
    where
      apart : (x y : ℤ) → int_eq y x ≡ true → int_lt y x ≡ false
      apart x y h = grind (arith, ints, h)

  never_moves : (fs : List Form) (f : Form) (up : Bool) → Contains fs f → (a b : Store) → (keep_all fs a b && moves up f a b) ≡ false
  never_moves [] f up h a b = absurd (omega (arith, h.1))
  never_moves (g ∷ fs) f up (zero, h, e) a b = go (keeps g a b) refl
    where
      rest : (x y : Bool) → y ≡ false → (x && y) ≡ false
      rest true y e = e
      rest false y e = refl

      go : (x : Bool) → keeps g a b ≡ x → ((x && keep_all fs a b) && moves up f a b) ≡ false
      go false d = refl
      go true d = rest (keep_all fs a b) (moves up f a b) (subst (λ z. moves up z a b ≡ false) e (still g a b up d))
  never_moves (g ∷ fs) f up (suc i, h, e) a b = go (keeps g a b) (never_moves fs f up (i, omega (arith, h), e) a b)
    where
      go : (x : Bool) → (keep_all fs a b && moves up f a b) ≡ false → ((x && keep_all fs a b) && moves up f a b) ≡ false
      go false r = refl
      go true r = r

  pub kept : (l : ℕ) (fs : List Form) (f : Form) (up : Bool) → Contains fs f → ¬ SomeMove p sets k q l fs f up
  kept l fs f up h = never_so p sets k q l (λ old new. keep_all fs old new && moves up f old new) (never_moves fs f up h)

  -- ---- stuck

  -- the forms behind which no candidate serves though turns are left
  record IsDead (l : ℕ) : Type 0 where
    forms : List Form
    stays : SomeTurn p sets k q l (keep_all forms)
    none : NoneServes p sets k q l forms (candidates p l)

  dead : (l : ℕ) (fs gs : List Form) → IsStuck p sets k q l fs gs → IsDead l
  dead l fs [] h = record { forms = fs; stays = h.0; none = h.1 }
  dead l fs (g ∷ gs) h = dead l (fs ++ g ∷ []) gs h.1

  none_at : (l : ℕ) (fs cs : List Form) (f : Form) → NoneServes p sets k q l fs cs → Contains cs f → ¬ Serves p sets k q l fs f
  none_at l fs [] f h c = absurd (omega (arith, c.1))
  none_at l fs (g ∷ cs) f h (zero, c, e) = subst (λ x. ¬ Serves p sets k q l fs x) e h.0
  none_at l fs (g ∷ cs) f h (suc i, c, e) = none_at l fs cs f h.1 (i, omega (arith, c), e)

  abbrev Passes : Type 0
  Passes = ℕ → Store → Store → Bool

  three_ways : (x y : ℤ) → int_eq y x ≡ false → int_lt y x ≡ false → int_lt x y ≡ true
  three_ways x y h j = grind (arith, ints, h, j)

  up_only : (x y : ℤ) → int_lt x y ≡ true → (int_eq y x ≡ false) × (int_lt y x ≡ false)
  up_only x y h = (grind (arith, ints, h), grind (arith, ints, h))

  -- a turn that rises lowers nothing
  no_rise : (t first up same down rest : Bool) → (up ≡ true → (same ≡ false) × (down ≡ false)) → (if t then not (first && not (if same then rest else down)) else true) ≡ true → (if t then not (first && up) else true) ≡ true
  no_rise false first up same down rest apart h = refl
  no_rise true false up same down rest apart h = refl
  no_rise true true false same down rest apart h = refl
  no_rise true true true same down rest apart h =
      let e = apart refl in
      let c : not (not (if false then rest else false)) ≡ true = subst (λ d. not (not (if false then rest else d)) ≡ true) e.1 (subst (λ s. not (not (if s then rest else down)) ≡ true) e.0 h) in c

  -- a turn that neither rises nor falls is lowered by the other forms
  by_rest : (t first up same down rest : Bool) → (same ≡ false → down ≡ false → up ≡ true)
      → ((if t then not (first && not (if same then rest else down)) else true) && (if t then not (first && up) else true)) ≡ true → (if t then not (first && down) else true) ≡ true → (if t then not (first && not rest) else true) ≡ true
  by_rest false first up same down rest tri h j = refl
  by_rest true false up same down rest tri h j = refl
  by_rest true true up same down true tri h j = refl
  by_rest true true up same true false tri h j = j
  by_rest true true true true false false tri h j = h
  by_rest true true false true false false tri h j = h
  by_rest true true true false false false tri h j = h
  by_rest true true false false false false tri h j = let e : false ≡ true = tri refl refl in cc

  module _ (infers : Infers p sets k q) (l : ℕ) (d : IsDead l) where
    abbrev stay : Store → Store → Bool
    stay a b = keep_all d.forms a b

    abbrev low : List Form → Store → Store → Bool
    low gs a b = stay a b && not (lower_than gs (values_of a) (values_of b))

    claim : (gs : List Form) → ((f : Form) → Contains gs f → Contains (candidates p l) f) → NoTurn p sets k q l (low gs) → ⊥
    claim [] all pass =
        not_both p sets k q l stay (implied p sets k q (unless_so l (low [])) (unless_so l stay) (λ m a b. inr (λ h. same (m == l) (stay a b) h)) pass) d.stays
      where
        same : (t x : Bool) → (if t then not (x && true) else true) ≡ true → (if t then not x else true) ≡ true
        same false x h = refl
        same true true h = h
        same true false h = refl
    claim (g ∷ gs) all pass =
        let rise = implied p sets k q (unless_so l (low (g ∷ gs))) (unless_so l (λ a b. stay a b && rises g a b))
        (λ m a b. inr (no_rise (m == l) (stay a b) (rises g a b) (keeps g a b) (falls g a b) (lower_than gs (values_of a) (values_of b)) (up_only (row_value g (values_of a)) (row_value g (values_of b))))) pass in
        let fall = no_turn p sets k q l (λ a b. stay a b && falls g a b) infers (λ s. none_at l d.forms (candidates p l) g d.none (all g (0, omega arith, refl)) (rise, s)) in
        let two = both_pass p sets k q (unless_so l (low (g ∷ gs))) (unless_so l (λ a b. stay a b && rises g a b)) pass rise in
        let three = both_pass p sets k q (λ m a b. unless_so l (low (g ∷ gs)) m a b && unless_so l (λ a b. stay a b && rises g a b) m a b) (unless_so l (λ a b. stay a b && falls g a b)) two fall in
        claim gs (λ f h. all f (Rattle.std.proofs.lemmas.List.Elements.Contains-append_right (g ∷ []) gs f h))
        (implied p sets k q (λ m a b. (unless_so l (low (g ∷ gs)) m a b && unless_so l (λ a b. stay a b && rises g a b) m a b) && unless_so l (λ a b. stay a b && falls g a b) m a b) (unless_so l (low gs))
        (λ m a b. inr (λ h. let parts = and_true (unless_so l (low (g ∷ gs)) m a b && unless_so l (λ a b. stay a b && rises g a b) m a b) (unless_so l (λ a b. stay a b && falls g a b) m a b) h in
        by_rest (m == l) (stay a b) (rises g a b) (keeps g a b) (falls g a b) (lower_than gs (values_of a) (values_of b)) (three_ways (row_value g (values_of a)) (row_value g (values_of b))) parts.0 parts.1)) three)
      where
        and_true : (x y : Bool) → (x && y) ≡ true → (x ≡ true) × (y ≡ true)
        and_true true y h = (refl, h)
        and_true false y h = cc

  pub stuck : RanksAre p sets k q None → (r : List (List Form)) → ((l : ℕ) (f : Form) → Contains (ranks_at r l) f → Contains (candidates p l) f) → ¬ RankProves p sets k q r
  stuck (l, loop, (fs, h)) r all proves =
      let infers = passing_infers p sets k q (lowers r) proves in
      let d = dead l [] fs h in
      claim infers l d (ranks_at r l) (all l) (implied p sets k q (lowers r) (unless_so l (low infers l d (ranks_at r l))) (λ m a b. inr (at m a b (keep_all d.forms a b))) proves)
    where
      at : (m : ℕ) (a b : Store) (x : Bool) → lowers r m a b ≡ true → (if m == l then not (x && not (lower_than (ranks_at r l) (values_of a) (values_of b))) else true) ≡ true
      at m a b x h = go (m == l) refl
        where
          lowered : (x y : Bool) → y ≡ true → not (x && not y) ≡ true
          lowered true y e = ap (λ z. not (not z)) e
          lowered false y e = refl

          go : (t : Bool) → (m == l) ≡ t → (if t then not (x && not (lower_than (ranks_at r l) (values_of a) (values_of b))) else true) ≡ true
          go false e = refl
          go true e = lowered x (lower_than (ranks_at r l) (values_of a) (values_of b)) (subst (λ n. lowers r n a b ≡ true) (Rattle.l2_point_laws.proofs.Reaching.equal_numbers m l e) h)
