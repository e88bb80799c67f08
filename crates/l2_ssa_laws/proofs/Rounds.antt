-- What a solution shows of the copies of a loop's turn, where rankings are asked for.
use Rattle.std.proofs.Common.{◌≡◌, inl, inr, ℕ, zero, suc, Bool, true, false, not, refl, sym, ap, ◌∙◌, subst, List, [], ◌∷◌, Option, Some, None}
use Rattle.std.specs.Prelude.{◌&&◌}
use Rattle.l2_runs.specs.declared.outcome.Outcome.TheVariants.{Stopped}
use Rattle.l2_runs.specs.Store.{Store}
use Rattle.l2_runs.specs.Runs.{Over, Result, Go, Halt, on_go, done}
use Rattle.l2_runs.specs.Loops.{Tests, events, or_events}
use Rattle.l2_code.specs.declared.action.Operand.{Operand}
use Rattle.l2_code.specs.Values.{Temps, operand_value, is_true}
use Rattle.l2_code.specs.Machine.{Way, On, Out, close}
use Rattle.l2_supply.specs.Supply.{Supply, left, right, Place, place_of, at, Come, Goes, Ends, Supplied, on_goes, come_of}
use Rattle.l2_supply.specs.Going.{seen, tested_with}
use Rattle.l2_ssa.specs.Steps.{Step, Names, on, Meaning, Solves}
use Rattle.l2_ssa.specs.Walks as walks
use Rattle.l2_ssa.specs.Walks.{Setting, Slot, Walk, Frame, Given, pair, nothing, past, joined, is_last, copy_frame, count_steps, count_name, behind, walk_copies, end_turn}
use Rattle.l2_ssa.specs.Law.{Matches}
use Rattle.l2_ssa.proofs.Shows.{Spot, Off, At, Standing, Stands, Begins, Stops, then_come, joined_stops, solves_first, solves_second}
use Rattle.l2_ssa.proofs.Labels.{bit_on}
use Rattle.l2_ssa.proofs.Frames.{outs_of, let_out, allow, NotStuck}
use Rattle.l2_ssa.proofs.Copies.{counts, leaves, pass, turns, way_of, ComeHolds}
use Rattle.l2_ssa_laws.specs.Rankings.{Watch, rank_tests}
use Rattle.l2_ssa_laws.proofs.Shown.{Shown, joined_shown}
use Rattle.l2_ssa_laws.proofs.Ends.{Closing, turn_closes, turn_off}

module _ (m : Meaning) (s : Names) (g : Setting) (types : m.types ≡ g.types) (ranked : g.ranks ≡ true) (watched : ℕ → Watch) where
  abbrev Stand : Operand → List Slot → Spot → Type 0
  Stand p slots q = Stands m s g p slots q

  abbrev Show : walks.Out → Come Way → Type 0
  Show o e = Shown m s g watched o e

  abbrev Stop : walks.Out → Type 0
  Stop o = Stops m s g o

  behind_shows : (hs : List Operand) (xs : List Step) (o : walks.Out) (e : Come Way) → Show o e → Show (behind hs xs o) e
  behind_shows hs xs o e (inl h) = inl (record { shows = record { after = h.shows.after; entries = h.shows.entries; events = h.shows.events }; quiet = h.quiet })
  behind_shows hs xs o e (inr h) = inr h

  behind_stops : (hs : List Operand) (xs : List Step) (o : walks.Out) → Stop o → Stop (behind hs xs o)
  behind_stops hs xs o h = record { after = h.after; entries = h.entries; events = h.events }

  -- the end of a turn, and what follows
  go_shows : (et rest : walks.Out) (u : Unit {0}) (p q : Place) (next : Place → Come (Unit {0} × ℕ)) (outs : ℕ → Bool) → Closing m s g types watched et p (Goes u q)
      → (NotStuck (next p) → Stand et.after.path et.after.slots (At p.store) → Show rest (allow outs (way_of (next p))))
      → (Stand et.after.path et.after.slots Off → Stop rest)
      → NotStuck (next q) → Show (joined nothing et rest) (allow outs (way_of (next q)))
  go_shows et rest u p q next outs (inr h) go off ns = absurd h
  go_shows et rest u p q next outs (inl h) go off ns =
      subst (λ z. Show (joined nothing et rest) (allow outs (way_of (next z)))) (sym h.closes.closed.0)
      (joined_shown m s g watched nothing et rest (Goes (On (λ i. operand_value s (et.after.temps i))) p) (λ t z. allow outs (way_of (next p)))
      (inl (record {
        shows = record { after = record { stands = h.closes.closed.1; temps = λ i. refl }; entries = h.closes.entries; events = h.closes.closed.2 };
        quiet = h.quiet;
      }))
      (λ t z e b. go (subst (λ y. NotStuck (next y)) h.closes.closed.0 ns) h.closes.closed.1) off)

  ends_shows : (et rest : walks.Out) (p q : Place) (x : Rattle.l2_runs.specs.Runs.End) → Closing m s g types watched et p (Ends x q) → (Stand et.after.path et.after.slots Off → Stop rest) → Show (joined nothing et rest) (Ends x q)
  ends_shows et rest p q x h off = joined_shown m s g watched nothing et rest (Ends x q) (λ t z. Ends x q) (as_shown h) (λ t z e b. no_ways e) off
    where
      as_shown : Closing m s g types watched et p (Ends x q) → Show et (Ends x q)
      as_shown (inl k) = inl (record { shows = record { after = record { stands = k.closes.closed.0; temps = tt }; entries = k.closes.entries; events = k.closes.closed.1 }; quiet = k.quiet })
      as_shown (inr k) = inr k

      no_ways : {t : Temps} {z : Place} → Ends x q ≡ Goes (On t) z → Show rest (Ends x q)
      no_ways e = cc

  end_shows : (et rest : walks.Out) (p : Place) (r : Result (Unit {0})) (lv : Bool) (next : Supplied (Unit {0} × ℕ)) (v : Supply) (outs : ℕ → Bool) → Closing m s g types watched et p (come_of r)
      → NotStuck (on_goes (come_of (on_go r (λ u. done (tt {0}, None)))) (λ x q. pass lv next x v q))
      → (NotStuck (next v p) → Stand et.after.path et.after.slots (At p.store) → Show rest (allow outs (way_of (next v p))))
      → (Stand et.after.path et.after.slots Off → Stop rest)
      → Show (joined nothing et rest) (allow outs (way_of (on_goes (come_of (on_go r (λ u. done (tt {0}, None)))) (λ x q. pass lv next x v q))))
  end_shows et rest p (Go u st) true next v outs h ns go off = go_shows et rest u p (place_of st) (next v) outs h go off ns
  end_shows et rest p (Go u st) false next v outs h ns go off = go_shows et rest u p (place_of st) (next v) outs h go off ns
  end_shows et rest p (Halt e st) lv next v outs h ns go off = ends_shows et rest p (place_of st) e h off

  module _ (l : ℕ) (body : Frame → Operand → ℕ → Walk → walks.Out) (turn : Bool → Supplied Way) (fs : List Frame) (temps : ℕ → Operand) (t : Temps) (same : (i : ℕ) → operand_value s (temps i) ≡ t i)
      (Inv : Store → Type 0)
      (body_shows : (f : Frame) (d : Operand) (n : ℕ) (w : Walk) (p : Place) (u : Supply) → Begins m s g w (Standing t p) → Inv p.store → Solves m s n (body f d n w).steps → Matches g.types.objects s (body f d n w).given u
      → NotStuck (turn (on s d) u p) → Show (body f d n w) (allow (outs_of s (f ∷ fs)) (turn (on s d) u p)))
      (body_stops : (f : Frame) (d : Operand) (n : ℕ) (w : Walk) → Stand w.path w.slots Off → Solves m s n (body f d n w).steps → Stop (body f d n w))
      (body_holds : (c : Bool) (u : Supply) (p : Place) → Inv p.store → ComeHolds Inv (turn c u p)) where
    abbrev all_tests : Tests
    all_tests = rank_tests m.row m.lower g watched

    abbrev pub tested : Bool → Supplied (Unit {0} × Option ℕ)
    tested d = tested_with all_tests l d (seen (λ w. (tt {0}, close w)) (turn d))

    -- what follows a turn that has come to this
    abbrev whole : Bool → Store → Bool → Supplied (Unit {0} × ℕ) → Supply → Come Way → Come (Unit {0} × ℕ)
    whole d old lv next v e =
        on_goes (on_goes (on_goes e (λ w q. Goes (tt {0}, close w) q)) (λ x q. come_of (or_events d l (all_tests d l) old x (at q [] 0)))) (λ x q. pass lv next x v q)

    out_same : (last z : Bool) (b : Operand) (j : ℕ) (p : Place) (next : Supplied (Unit {0} × ℕ)) (v : Supply) → z ≡ on s b
        → let_out (outs_of s (copy_frame last b ∷ fs) j) j p ≡ allow (outs_of s fs) (way_of (pass (leaves last z) next (tt {0}, Some j) v p))
    out_same true z b j p next v e = refl
    out_same false z b j p next v e = go z (on s b) e
      where
        go : (z x : Bool) → z ≡ x → let_out (not x && outs_of s fs j) j p ≡ allow (outs_of s fs) (way_of (pass (not z) next (tt {0}, Some j) v p))
        go true true e = refl
        go true false e = cc
        go false true e = cc
        go false false e = refl

    let_out_then : (x : Bool) (j : ℕ) (p : Place) (k : Temps → Place → Come Way) → then_come m s g (let_out x j p) k ≡ let_out x j p
    let_out_then true j p k = refl
    let_out_then false j p k = refl

    no_fall : (x : Bool) (j : ℕ) (p : Place) (u : Temps) (z : Place) → let_out x j p ≡ Goes (On u) z → ⊥
    no_fall true j p u z e = cc
    no_fall false j p u z e = cc

    -- a turn, its end, and what follows
    copy_shows : (last z : Bool) (b : Operand) → z ≡ on s b → (d : Bool) (old : Store) (next : Supplied (Unit {0} × ℕ)) (v : Supply) (given : Given) (o rest : walks.Out) (e : Come Way)
        → Show o (allow (outs_of s (copy_frame last b ∷ fs)) e) → NotStuck (whole d old (leaves last z) next v e) → ComeHolds Inv e
        → ((p : Place) → Inv p.store → Stand o.after.path o.after.slots (At p.store) → NotStuck (whole d old (leaves last z) next v (Goes (On t) p)) → Show rest (allow (outs_of s fs) (way_of (whole d old (leaves last z) next v (Goes (On t) p)))))
        → (Stand o.after.path o.after.slots Off → Stop rest)
        → Show (joined given o rest) (allow (outs_of s fs) (way_of (whole d old (leaves last z) next v e)))
    copy_shows last z b q d old next v given o rest (Goes (On c) p) h ns inv go off =
        joined_shown m s g watched given o rest (Goes (On c) p) (λ t q. allow (outs_of s fs) (way_of (whole d old (leaves last z) next v (Goes (On c) p)))) h (λ u y e bg. go p inv (here u y e bg) ns) off
      where
        here : (u : Temps) (y : Place) → Goes (On c) p ≡ Goes (On u) y → Begins m s g o.after (Standing u y) → Stand o.after.path o.after.slots (At p.store)
        here u y e bg = subst (λ y. Stand o.after.path o.after.slots (At y.store)) (sym (place_is e)) bg.stands
          where
            place_is : Goes (On c) p ≡ Goes (On u) y → p ≡ y
            place_is e = cc
    copy_shows last z b q d old next v given o rest (Goes (Out j) p) h ns inv go off =
        subst (Show (joined given o rest)) (let_out_then (outs_of s (copy_frame last b ∷ fs) j) j p (λ t q. Ends (Over Stopped) q) ∙ out_same last z b j p next v q)
        (joined_shown m s g watched given o rest (let_out (outs_of s (copy_frame last b ∷ fs) j) j p) (λ t q. Ends (Over Stopped) q) h
        (λ u y e bg. absurd (no_fall (outs_of s (copy_frame last b ∷ fs) j) j p u y e)) off)
    copy_shows last z b q d old next v given o rest (Ends e p) h ns inv go off =
        joined_shown m s g watched given o rest (Ends e p) (λ t q. Ends e p) h (λ u y i bg. absurd (no_way u y i)) off
      where
        no_way : (u : Temps) (y : Place) → Ends e p ≡ Goes (On u) y → ⊥
        no_way u y i = cc

    -- ---- counting

    count_is : (last z : Bool) (p b c : Operand) (n : ℕ) → on s p ≡ true → z ≡ on s b → Solves m s n (count_steps last p b c) → on s (count_name last c n) ≡ counts last z (on s c)
    count_is true z p b c n guard e ok = refl
    count_is false z p b c n guard e ok = ap is_true (ok.0 guard) ∙ bit_on (on s c && not (on s b)) ∙ ap (λ x. on s c && not x) (sym e)

    unstuck : (d : Bool) (old : Store) (lv : Bool) (next : Supplied (Unit {0} × ℕ)) (v : Supply) (e : Come Way) → NotStuck (whole d old lv next v e) → NotStuck e
    unstuck d old lv next v (Goes w p) h = tt
    unstuck d old lv next v (Ends e p) h = h

    -- ---- all copies

    module _ (b c : Operand) where
      pub copies_stop : (k n : ℕ) (w : Walk) → Stand w.path w.slots Off → Solves m s n (walk_copies g body l (g.kind l) b c temps k n w).steps → Stop (walk_copies g body l (g.kind l) b c temps k n w)
      copies_stop zero n w h ok = record { after = (refl, h.1); entries = tt; events = tt }
      copies_stop (suc k) n w h ok =
          let x = count_steps (is_last k) w.path b c in
          let d = count_name (is_last k) c n in
          let o = body (copy_frame (is_last k) b) d (past n x) (record w { temps = temps }) in
          let n1 = past (past n x) o.steps in
          let et = end_turn g (g.kind l) d l w.slots n1 o.after in
          let rest = walk_copies g body l (g.kind l) b c temps k (past n1 et.steps) et.after in
          let ok1 = solves_second m s g n x _ ok in
          let ok2 = solves_second m s g (past n x) o.steps _ ok1 in
          let so = body_stops (copy_frame (is_last k) b) d (past n x) (record w { temps = temps }) h (solves_first m s g (past n x) o.steps _ ok1) in
          let se = turn_off m s g types watched ranked d l w.slots n1 o.after so.after (g.kind l) (solves_first m s g n1 et.steps _ ok2) in
          behind_stops (w.path ∷ []) x (joined (pair o.given rest.given) o (joined nothing et rest))
          (joined_stops m s g (pair o.given rest.given) o (joined nothing et rest) so (joined_stops m s g nothing et rest se (copies_stop k (past n1 et.steps) et.after se.after (solves_second m s g n1 et.steps _ ok2))))

      module _ (z : Bool) (back : z ≡ on s b) where
        pub copies_show : (k n : ℕ) (w : Walk) (p : Place) (u : Supply) → Stand w.path w.slots (At p.store) → Inv p.store → Solves m s n (walk_copies g body l (g.kind l) b c temps k n w).steps
            → Matches g.types.objects s (walk_copies g body l (g.kind l) b c temps k n w).given u → NotStuck (turns tested z (on s c) k u p)
            → Show (walk_copies g body l (g.kind l) b c temps k n w) (allow (outs_of s fs) (way_of (turns tested z (on s c) k u p)))
        copies_show zero n w p u h inv ok mt ns = inl (record { shows = record { after = record { stands = (refl, h.1); temps = tt }; entries = tt; events = tt }; quiet = tt })
        copies_show (suc k) n w p u h inv ok mt ns =
            let x = count_steps (is_last k) w.path b c in
            let d = count_name (is_last k) c n in
            let o = body (copy_frame (is_last k) b) d (past n x) (record w { temps = temps }) in
            let n1 = past (past n x) o.steps in
            let et = end_turn g (g.kind l) d l w.slots n1 o.after in
            let rest = walk_copies g body l (g.kind l) b c temps k (past n1 et.steps) et.after in
            let ok1 = solves_second m s g n x _ ok in
            let ok2 = solves_second m s g (past n x) o.steps _ ok1 in
            let oke = solves_first m s g n1 et.steps _ ok2 in
            let okq = solves_second m s g n1 et.steps _ ok2 in
            let dc = count_is (is_last k) z w.path b c n h.0 back (solves_first m s g n x _ ok) in
            let next = turns tested z (on s c) k in
            let ns' = subst (λ y. NotStuck (whole y p.store (leaves (is_last k) z) next (right u) (turn y (left u) p))) (sym dc) ns in
            behind_shows (w.path ∷ []) x (joined (pair o.given rest.given) o (joined nothing et rest)) _
            (subst (λ y. Show (joined (pair o.given rest.given) o (joined nothing et rest)) (allow (outs_of s fs) (way_of (whole y p.store (leaves (is_last k) z) next (right u) (turn y (left u) p))))) dc
            (copy_shows (is_last k) z b back (on s d) p.store next (right u) (pair o.given rest.given) o (joined nothing et rest) (turn (on s d) (left u) p)
            (body_shows (copy_frame (is_last k) b) d (past n x) (record w { temps = temps }) p (left u) (record { stands = h; temps = same }) inv (solves_first m s g (past n x) o.steps _ ok1) mt.0
            (unstuck (on s d) p.store (leaves (is_last k) z) next (right u) (turn (on s d) (left u) p) ns'))
            ns' (body_holds (on s d) (left u) p inv)
            (λ p' inv' st nst. end_shows et rest p' (events (on s d) l (all_tests (on s d) l) p.store (at p' [] 0)) (leaves (is_last k) z) next (right u) (outs_of s fs)
            (turn_closes m s g types watched ranked l d w.slots p.store h.2 n1 o.after p' st (on s d) refl oke) nst
            (λ nsn stn. copies_show k (past n1 et.steps) et.after p' (right u) stn inv' okq mt.1 nsn)
            (λ off. copies_stop k (past n1 et.steps) et.after off okq))
            (λ off. let se = turn_off m s g types watched ranked d l w.slots n1 o.after off (g.kind l) oke in
            joined_stops m s g nothing et rest se (copies_stop k (past n1 et.steps) et.after se.after okq))))
