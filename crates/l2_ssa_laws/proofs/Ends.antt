-- What a solution shows at the end of a turn where rankings are asked for.
use Rattle.std.proofs.Common.{◌≡◌, ◌⊎◌, inl, inr, ℕ, zero, suc, Bool, true, false, not, refl, sym, ap, ◌∙◌, subst, List, [], ◌∷◌, ◌++◌}
use Rattle.std.specs.Prelude.{◌&&◌}
use Rattle.l2_runs.specs.Store.{Store}
use Rattle.l2_runs.specs.Runs.{State, Fallen, Result, Go, Halt, on_go, demand}
use Rattle.l2_runs.specs.Loops.{Test, events, bottom}
use Rattle.l2_code.specs.declared.action.Operand.{Operand}
use Rattle.l2_code.specs.declared.action.Operand.TheVariants.{Temp}
use Rattle.l2_code.specs.Values.{is_true}
use Rattle.l2_supply.specs.Supply.{Place, place_of, at, Come, Goes, Ends, come_of}
use Rattle.l2_ssa.specs.Steps.{Both, Names, on, bit, Meaning, Solves, values_of}
use Rattle.l2_ssa.specs.Walks as walks
use Rattle.l2_ssa.specs.Walks.{Setting, Slot, Walk, Kind, Bottom, Plain, Rows, RowGoal, RankGoal, Event, event, nothing, past, with_path, end_rows, end_rank, end_turn, vars_now, joined}
use Rattle.l2_ssa.specs.Law.{row_tests}
use Rattle.l2_ssa.proofs.Shows.{Spot, Off, At, SlotsRead, Stands, AllFalse, OneIf, Stops, is_shown, shut_both, joined_stops, solves_first, solves_second}
use Rattle.l2_ssa.proofs.Labels.{bit_on}
use Rattle.l2_ssa.proofs.Heads.{vars_read}
use Rattle.l2_ssa.proofs.Turns.{Closes, rows_close, rows_off}
use Rattle.l2_ssa_laws.specs.Rankings.{Watch, Unwatched, Passing, Ranked, rows_of, watch_of, lowers, rank_tests}
use Rattle.l2_ssa_laws.proofs.Shown.{unranked, unranked_both, others, AllQuiet, quiet_both, Falls, event_right}

pub app_nil : {A : Type 0} (xs : List A) → xs ++ [] ≡ xs
app_nil [] = refl
app_nil (x ∷ xs) = ap (λ ys. x ∷ ys) (app_nil xs)

-- tests, and others behind them
events_both : (b : Bool) (l : ℕ) (ts ws : List Test) (old : Store) (s : State) → events b l (ts ++ ws) old s ≡ on_go (events b l ts old s) (λ u. events b l ws old)
events_both b l [] ws old s = refl
events_both b l (t ∷ ts) ws old s = go (demand b (Fallen l t.row) (t.holds old s.store) s) (λ z. events_both b l ts ws old z)
  where
    go : (x : Result (Unit {0})) → ((z : State) → events b l (ts ++ ws) old z ≡ on_go (events b l ts old z) (λ u. events b l ws old))
        → on_go x (λ u. events b l (ts ++ ws) old) ≡ on_go (on_go x (λ u. events b l ts old)) (λ u. events b l ws old)
    go (Go u z) h = h z
    go (Halt e z) h = refl

rows_kept : (g : Setting) (q c : Operand) (l i more n : ℕ) (w : Walk) → unranked (end_rows g q c l i more n w).events ≡ (end_rows g q c l i more n w).events
rows_kept g q c l i zero n w = refl
rows_kept g q c l i (suc more) n w = ap (λ es. record { goal = RowGoal l i; literal = Temp (suc (suc n)) } ∷ es) (rows_kept g q c l (suc i) more (suc (suc (suc (suc n)))) (with_path w (Temp (suc (suc (suc n))))))

module _ (m : Meaning) (s : Names) (g : Setting) (types : m.types ≡ g.types) (watched : ℕ → Watch) where
  abbrev Stand : Operand → List Slot → Spot → Type 0
  Stand p slots q = Stands m s g p slots q

  pub record Calm (o : walks.Out) (p : Place) (e : Come (Unit {0})) : Type 0 where
    pub closes : Closes m s g types (others o) p e
    pub quiet : AllQuiet m s g watched o.events

  -- where the end of a turn leads: no watched ranking has failed yet, or one fails here
  abbrev pub Closing : walks.Out → Place → Come (Unit {0}) → Type 0
  Closing o p e = Calm o p e ⊎ Falls m s g watched o.events e

  rows_quiet : (q c : Operand) (l i more n : ℕ) (w : Walk) → AllQuiet m s g watched (end_rows g q c l i more n w).events
  rows_quiet q c l i zero n w = tt
  rows_quiet q c l i (suc more) n w = (tt, rows_quiet q c l (suc i) more (suc (suc (suc (suc n)))) (with_path w (Temp (suc (suc (suc n))))))

  -- ---- the event of a ranking

  module _ (q c : Operand) (l : ℕ) (old : List Slot) (n : ℕ) (w : Walk) where
    abbrev rank : walks.Out
    rank = end_rank g true q c l old n w

    abbrev literal : Operand
    literal = Temp (suc (suc n))

    literal_is : (a b low : Bool) → Solves m s n rank.steps → on s w.path ≡ a → on s c ≡ b → on s (Temp (suc n)) ≡ low → on s literal ≡ ((a && b) && not low)
    literal_is a b low ok h k j =
        ap is_true ok.1.1.0 ∙ bit_on (on s (Temp n) && not (on s (Temp (suc n))))
        ∙ (λ i. (ap is_true ok.0 ∙ bit_on (on s w.path && on s c) ∙ (λ i. h i && k i)) i && not (j i))

    shut : Solves m s n rank.steps → on s w.path ≡ false → on s literal ≡ false
    shut ok h = literal_is false (on s c) (on s (Temp (suc n))) ok h refl refl

    uncounted : Solves m s n rank.steps → on s c ≡ false → on s literal ≡ false
    uncounted ok h = literal_is (on s w.path) false (on s (Temp (suc n))) ok refl h refl ∙ none (on s w.path) (not (on s (Temp (suc n))))
      where
        none : (x y : Bool) → ((x && false) && y) ≡ false
        none true y = refl
        none false y = refl

    counted : (low : Bool) → Solves m s n rank.steps → on s q ≡ true → on s w.path ≡ true → on s c ≡ true → (a b : Store) → SlotsRead m s g old a → SlotsRead m s g w.slots b → lowers m.lower g l a b ≡ low → on s literal ≡ not low
    counted low ok guard h k a b x y z =
        literal_is true true low ok h k
        (ap is_true (ok.1.0 guard) ∙ bit_on (m.lower l (values_of s (vars_now old (g.vars l))) (values_of s (vars_now w.slots (g.vars l))))
        ∙ (λ i. m.lower l (vars_read m s g types old a (g.vars l) x i) (vars_read m s g types w.slots b (g.vars l) y i)) ∙ z)

    pub rank_off : Solves m s n rank.steps → Stand w.path w.slots Off → Stops m s g rank
    rank_off ok h = record { after = h; entries = tt; events = (shut ok h.0, tt) }

  -- ---- rows, and a ranking behind them

  module _ (r : ℕ) (c : Operand) (l : ℕ) (slots : List Slot) (old : Store) (reads : SlotsRead m s g slots old) (n : ℕ) (w : Walk) (p : Place) (h : Stand w.path w.slots (At p.store)) where
    abbrev rows : walks.Out
    rows = end_rows g w.path c l 1 r n w

    abbrev n1 : ℕ
    n1 = past n rows.steps

    abbrev behind : walks.Out
    behind = rank w.path c l slots n1 rows.after

    abbrev both : walks.Out
    both = joined nothing rows behind

    kept : unranked both.events ≡ rows.events
    kept = unranked_both rows.events behind.events ∙ ap (λ es. es ++ []) (rows_kept g w.path c l 1 r n w) ∙ app_nil rows.events

    quiet : (watched l ≡ Ranked → on s (literal w.path c l slots n1 rows.after) ≡ false) → AllQuiet m s g watched both.events
    quiet k = quiet_both m s g watched rows.events behind.events (rows_quiet w.path c l 1 r n w) (k, tt)

    calm_go : (u v : Unit {0}) (q : Place) → Closes m s g types rows p (Goes u q) → (watched l ≡ Ranked → on s (literal w.path c l slots n1 rows.after) ≡ false) → Closing both p (Goes v q)
    calm_go u v q k j = inl (record {
      closes = record { closed = (k.closed.0, k.closed.1, subst (AllFalse m s g) (sym kept) k.closed.2); entries = shut_both m s g rows.entries [] k.entries tt };
      quiet = quiet j;
    })

    module _ (ok : Solves m s n1 behind.steps) where
      calm_end : (x : Rattle.l2_runs.specs.Runs.End) (q : Place) → Closes m s g types rows p (Ends x q) → Closing both p (Ends x q)
      calm_end x q k = inl (record {
        closes = record { closed = (k.closed.0, subst (OneIf m s g (is_shown g x) x) (sym kept) k.closed.1); entries = shut_both m s g rows.entries [] k.entries tt };
        quiet = quiet (λ z. shut w.path c l slots n1 rows.after ok k.closed.0.0);
      })

      uncounted_close : on s c ≡ false → (x : Result (Unit {0})) → Closes m s g types rows p (come_of x) → Closing both p (come_of x)
      uncounted_close e (Go u z) k = calm_go u u (place_of z) k (λ j. uncounted w.path c l slots n1 rows.after ok e)
      uncounted_close e (Halt x z) k = calm_end x (place_of z) k

      watched_close : g.kind l ≡ Rows r → on s c ≡ true → (x : Result (Unit {0})) → Closes m s g types rows p (come_of x) → (t : Watch) → watched l ≡ t
          → Closing both p (come_of (on_go x (λ u. events true l (watch_of m.lower g t (Rows r) l) old)))
      watched_close kd e (Halt x z) k t wt = calm_end x (place_of z) k
      watched_close kd e (Go u z) k Unwatched wt = calm_go u tt (place_of z) k (λ j. let a = wt in let b = j in cc)
      watched_close kd e (Go u z) k Passing wt = calm_go u tt (place_of z) k (λ j. let a = wt in let b = j in cc)
      watched_close kd e (Go u z) k Ranked wt = go (lowers m.lower g l old z.store) refl
        where
          literal_at : (low : Bool) → lowers m.lower g l old z.store ≡ low → on s (literal w.path c l slots n1 rows.after) ≡ not low
          literal_at low j =
              counted w.path c l slots n1 rows.after low ok h.0 k.closed.1.0 e old z.store reads
              (subst (λ q. SlotsRead m s g rows.after.slots q.store) (sym k.closed.0) k.closed.1.2) j

          go : (low : Bool) → lowers m.lower g l old z.store ≡ low → Closing both p (come_of (on_go (demand true (Fallen l (suc r)) low z) (λ v. events true l [] old)))
          go true j = calm_go u tt (place_of z) k (λ i. literal_at true j)
          go false j = inr ((wt, (r, kd, refl)), event_right m s g watched (RankGoal l) rows.events behind.events (inl (refl, literal_at false j)))

  -- ---- ends of turns

  bottom_calm : (c : Operand) (l n : ℕ) (w : Walk) (p : Place) (e : Come (Unit {0})) → Closes m s g types (record (walks.stepped (Both w.path c ∷ []) (with_path w walks.F)) { events = event (RowGoal l 0) (Temp n) }) p e
      → Closing (record (walks.stepped (Both w.path c ∷ []) (with_path w walks.F)) { events = event (RowGoal l 0) (Temp n) }) p e
  bottom_calm c l n w p e h = inl (record { closes = go e h; quiet = (tt, tt) })
    where
      go : (e : Come (Unit {0})) → Closes m s g types (record (walks.stepped (Both w.path c ∷ []) (with_path w walks.F)) { events = event (RowGoal l 0) (Temp n) }) p e
          → Closes m s g types (others (record (walks.stepped (Both w.path c ∷ []) (with_path w walks.F)) { events = event (RowGoal l 0) (Temp n) })) p e
      go (Goes u q) h = record { closed = h.closed; entries = h.entries }
      go (Ends x q) h = record { closed = h.closed; entries = h.entries }

  module _ (ranked : g.ranks ≡ true) (l : ℕ) (c : Operand) (slots : List Slot) (old : Store) (reads : SlotsRead m s g slots old) (n : ℕ) (w : Walk) (p : Place) (h : Stand w.path w.slots (At p.store)) where
    counted_at : (b : Bool) → on s c ≡ b → s n ≡ bit (on s w.path && on s c) → on s (Temp n) ≡ b
    counted_at b e k = ap is_true k ∙ bit_on (on s w.path && on s c) ∙ (λ i. h.0 i && e i)

    rows_done : (r : ℕ) (b : Bool) → on s c ≡ b → Solves m s n (rows r c l slots old reads n w p h).steps → Closes m s g types (rows r c l slots old reads n w p h) p (come_of (events b l (row_tests m.row g l 1 r) old (at p [] 0)))
    rows_done r b e ok = rows_close m s g types w.path c h.0 b e old l 1 r n w p h ok

    -- with the setting's rankings
    with_rank : (r : ℕ) (e : Come (Unit {0})) → (Solves m s n (both r c l slots old reads n w p h).steps → Closing (both r c l slots old reads n w p h) p e)
        → Solves m s n (end_turn g (Rows r) c l slots n w).steps → Closing (end_turn g (Rows r) c l slots n w) p e
    with_rank r e =
        subst (λ rk. Solves m s n (joined nothing (rows r c l slots old reads n w p h) (end_rank g rk w.path c l slots (n1 r c l slots old reads n w p h) (rows r c l slots old reads n w p h).after)).steps
        → Closing (joined nothing (rows r c l slots old reads n w p h) (end_rank g rk w.path c l slots (n1 r c l slots old reads n w p h) (rows r c l slots old reads n w p h).after)) p e) (sym ranked)

    at_true : (kind : Kind) → g.kind l ≡ kind → on s c ≡ true → Solves m s n (end_turn g kind c l slots n w).steps
        → Closing (end_turn g kind c l slots n w) p (come_of (events true l (rows_of m.row g kind l ++ watch_of m.lower g (watched l) kind l) old (at p [] 0)))
    at_true Bottom kd e ok = bottom_calm c l n w p (Ends (Fallen l 0) p) (record { closed = ((refl, h.1), inl (refl, counted_at true e ok.0, tt)); entries = tt })
    at_true Plain kd e ok = go (watched l)
      where
        go : (t : Watch) → Closing (end_turn g Plain c l slots n w) p (come_of (events true l (watch_of m.lower g t Plain l) old (at p [] 0)))
        go Unwatched = inl (record { closes = record { closed = (refl, h, tt); entries = tt }; quiet = tt })
        go Passing = inl (record { closes = record { closed = (refl, h, tt); entries = tt }; quiet = tt })
        go Ranked = inl (record { closes = record { closed = (refl, h, tt); entries = tt }; quiet = tt })
    at_true (Rows r) kd e ok =
        with_rank r _
        (λ k. subst (λ x. Closing (both r c l slots old reads n w p h) p (come_of x)) (sym (events_both true l (row_tests m.row g l 1 r) (watch_of m.lower g (watched l) (Rows r) l) old (at p [] 0)))
        (watched_close r c l slots old reads n w p h (solves_second m s g n (rows r c l slots old reads n w p h).steps _ k) kd e
        (events true l (row_tests m.row g l 1 r) old (at p [] 0)) (rows_done r true e (solves_first m s g n (rows r c l slots old reads n w p h).steps _ k)) (watched l) refl)) ok

    at_false : (kind : Kind) → g.kind l ≡ kind → on s c ≡ false → Solves m s n (end_turn g kind c l slots n w).steps
        → Closing (end_turn g kind c l slots n w) p (come_of (events false l (rows_of m.row g kind l) old (at p [] 0)))
    at_false Bottom kd e ok = bottom_calm c l n w p (come_of (events false l bottom old (at p [] 0))) (record { closed = ((refl, h.1), (counted_at false e ok.0, tt)); entries = tt })
    at_false Plain kd e ok = inl (record { closes = record { closed = (refl, h, tt); entries = tt }; quiet = tt })
    at_false (Rows r) kd e ok =
        with_rank r _
        (λ k. uncounted_close r c l slots old reads n w p h (solves_second m s g n (rows r c l slots old reads n w p h).steps _ k) e
        (events false l (row_tests m.row g l 1 r) old (at p [] 0)) (rows_done r false e (solves_first m s g n (rows r c l slots old reads n w p h).steps _ k))) ok

    pub turn_closes : (b : Bool) → on s c ≡ b → Solves m s n (end_turn g (g.kind l) c l slots n w).steps
        → Closing (end_turn g (g.kind l) c l slots n w) p (come_of (events b l (rank_tests m.row m.lower g watched b l) old (at p [] 0)))
    turn_closes true e ok = at_true (g.kind l) refl e ok
    turn_closes false e ok = at_false (g.kind l) refl e ok

  -- where the path is off
  module _ (ranked : g.ranks ≡ true) (c : Operand) (l : ℕ) (slots : List Slot) (n : ℕ) (w : Walk) (h : Stand w.path w.slots Off) where
    pub turn_off : (kind : Kind) → Solves m s n (end_turn g kind c l slots n w).steps → Stops m s g (end_turn g kind c l slots n w)
    turn_off Bottom ok = record { after = (refl, h.1); entries = tt; events = (ap is_true ok.0 ∙ bit_on (on s w.path && on s c) ∙ ap (λ x. x && on s c) h.0, tt) }
    turn_off Plain ok = record { after = h; entries = tt; events = tt }
    turn_off (Rows r) ok =
        subst (λ rk. Solves m s n (joined nothing (end_rows g w.path c l 1 r n w) (end_rank g rk w.path c l slots (past n (end_rows g w.path c l 1 r n w).steps) (end_rows g w.path c l 1 r n w).after)).steps
        → Stops m s g (joined nothing (end_rows g w.path c l 1 r n w) (end_rank g rk w.path c l slots (past n (end_rows g w.path c l 1 r n w).steps) (end_rows g w.path c l 1 r n w).after))) (sym ranked)
        (λ k. let first = rows_off m s g types w.path c l 1 r n w h (solves_first m s g n (end_rows g w.path c l 1 r n w).steps _ k) in
        joined_stops m s g nothing (end_rows g w.path c l 1 r n w) (end_rank g true w.path c l slots (past n (end_rows g w.path c l 1 r n w).steps) (end_rows g w.path c l 1 r n w).after) first
        (rank_off w.path c l slots (past n (end_rows g w.path c l 1 r n w).steps) (end_rows g w.path c l 1 r n w).after (solves_second m s g n (end_rows g w.path c l 1 r n w).steps _ k) first.after)) ok
