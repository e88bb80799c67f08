-- What a solution shows at the end of a turn.
use Rattle.std.proofs.Common.{◌≡◌, inl, ℕ, zero, suc, Bool, true, false, not, refl, sym, ap, ◌∙◌, subst, List, [], ◌∷◌, ◌++◌}
use Rattle.std.specs.Prelude.{◌&&◌}
use Rattle.l2_runs.specs.Store.{Store}
use Rattle.l2_runs.specs.Runs.{Fallen, on_go, demand}
use Rattle.l2_runs.specs.Loops.{Test, events, bottom}
use Rattle.l2_code.specs.declared.action.Operand.{Operand}
use Rattle.l2_code.specs.declared.action.Operand.TheVariants.{Temp}
use Rattle.l2_code.specs.Values.{is_true}
use Rattle.l2_supply.specs.Supply.{Place, at, Come, Goes, Ends, come_of}
use Rattle.l2_ssa.specs.Steps.{Names, on, bit, Meaning, Solves, values_of}
use Rattle.l2_ssa.specs.Walks as walks
use Rattle.l2_ssa.specs.Walks.{Setting, Slot, Walk, Kind, Bottom, Plain, Rows, RowGoal, past, with_path, end_rows, end_rank, end_turn, vars_now, joined}
use Rattle.l2_ssa.specs.Law.{row_holds, row_tests, rank_test, tests_of}
use Rattle.l2_ssa.proofs.Shows.{Spot, Off, At, Stands, AllShut, AllFalse, OneIf, Stops, is_shown, false_both, false_if, if_false, solves_first, solves_second}
use Rattle.l2_ssa.proofs.Labels.{bit_on}
use Rattle.l2_ssa.proofs.Heads.{vars_read}

module _ (m : Meaning) (s : Names) (g : Setting) (types : m.types ≡ g.types) where
  abbrev pub Stand : Operand → List Slot → Spot → Type 0
  Stand p slots q = Stands m s g p slots q

  on_both : (n : ℕ) (a b : Operand) → s n ≡ bit (on s a && on s b) → on s (Temp n) ≡ (on s a && on s b)
  on_both n a b q = ap is_true q ∙ bit_on (on s a && on s b)

  on_but : (n : ℕ) (a b : Operand) → s n ≡ bit (on s a && not (on s b)) → on s (Temp n) ≡ (on s a && not (on s b))
  on_but n a b q = ap is_true q ∙ bit_on (on s a && not (on s b))

  -- where the end of a turn leads
  abbrev pub Closed : walks.Out → Place → Come (Unit {0}) → Type 0
  Closed o p (Goes u q) = (q ≡ p) × Stand o.after.path o.after.slots (At p.store) × AllFalse m s g o.events
  Closed o p (Ends e q) = Stand o.after.path o.after.slots Off × OneIf m s g (is_shown g e) e o.events

  pub record Closes (o : walks.Out) (p : Place) (e : Come (Unit {0})) : Type 0 where
    pub closed : Closed o p e
    pub entries : AllShut m s g o.entries

  -- ---- where the path is off

  pub rows_off : (q c : Operand) (l i more n : ℕ) (w : Walk) → Stand w.path w.slots Off → Solves m s n (end_rows g q c l i more n w).steps → Stops m s g (end_rows g q c l i more n w)
  rows_off q c l i zero n w h ok = record { after = h; entries = tt; events = tt }
  rows_off q c l i (suc more) n w h ok =
      let r = rows_off q c l (suc i) more (suc (suc (suc (suc n)))) (with_path w (Temp (suc (suc (suc n))))) (on_both (suc (suc (suc n))) w.path (Temp (suc n)) ok.1.1.1.0 ∙ ap (λ x. x && on s (Temp (suc n))) h.0, h.1)
      ok.1.1.1.1 in
      record {
        after = r.after;
        entries = r.entries;
        events = (on_but (suc (suc n)) (Temp n) (Temp (suc n)) ok.1.1.0 ∙ ap (λ x. x && not (on s (Temp (suc n)))) (on_both n w.path c ok.0 ∙ ap (λ x. x && on s c) h.0), r.events);
      }

  -- ---- rows

  row_event : (q c : Operand) (l i n : ℕ) (w : Walk) (st : Store) (b t : Bool) → on s q ≡ true → Stand w.path w.slots (At st) → on s c ≡ b → row_holds m.row g l i st ≡ t
      → s n ≡ bit (on s w.path && on s c) → (on s q ≡ true → s (suc n) ≡ bit (m.row l i (values_of s (vars_now w.slots (g.vars l))))) → s (suc (suc n)) ≡ bit (on s (Temp n) && not (on s (Temp (suc n))))
      → s (suc (suc (suc n))) ≡ bit (on s w.path && on s (Temp (suc n))) → (on s (Temp (suc (suc n))) ≡ (b && not t)) × (on s (Temp (suc (suc (suc n)))) ≡ t)
  row_event q c l i n w st b t guard h e d x y z v =
      let r : on s (Temp (suc n)) ≡ t = ap is_true (y guard) ∙ bit_on (m.row l i (values_of s (vars_now w.slots (g.vars l)))) ∙ ap (m.row l i) (vars_read m s g types w.slots st (g.vars l) h.2) ∙ d in (
        on_but (suc (suc n)) (Temp n) (Temp (suc n)) z ∙ (λ j. (on_both n w.path c x ∙ (λ k. h.0 k && e k)) j && not (r j)),
        on_both (suc (suc (suc n))) w.path (Temp (suc n)) v ∙ (λ j. h.0 j && r j),
      )

  and_false : (x : Bool) → (x && false) ≡ false
  and_false true = refl
  and_false false = refl

  module _ (q c : Operand) (guard : on s q ≡ true) (b : Bool) (counted : on s c ≡ b) (old : Store) (l : ℕ) where
    pub rows_close : (i more n : ℕ) (w : Walk) (p : Place) → Stand w.path w.slots (At p.store) → Solves m s n (end_rows g q c l i more n w).steps
        → Closes (end_rows g q c l i more n w) p (come_of (events b l (row_tests m.row g l i more) old (at p [] 0)))
    rows_close i zero n w p h ok = record { closed = (refl, h, tt); entries = tt }
    rows_close i (suc more) n w p h ok = go (row_holds m.row g l i p.store) refl b refl
        (λ k. rows_close (suc i) more (suc (suc (suc (suc n)))) (with_path w (Temp (suc (suc (suc n))))) p k ok.1.1.1.1)
        (λ k. rows_off q c l (suc i) more (suc (suc (suc (suc n)))) (with_path w (Temp (suc (suc (suc n))))) k ok.1.1.1.1)
      where
        facts : (t : Bool) → row_holds m.row g l i p.store ≡ t → (on s (Temp (suc (suc n))) ≡ (b && not t)) × (on s (Temp (suc (suc (suc n)))) ≡ t)
        facts t d = row_event q c l i n w p.store b t guard h counted d ok.0 ok.1.0 ok.1.1.0 ok.1.1.1.0

        with_false : (e : Come (Unit {0})) → on s (Temp (suc (suc n))) ≡ false → Closes (end_rows g q c l (suc i) more (suc (suc (suc (suc n)))) (with_path w (Temp (suc (suc (suc n)))))) p e → Closes (end_rows g q c l i (suc more) n w) p e
        with_false (Goes u p') z k = record { closed = (k.closed.0, k.closed.1, (z, k.closed.2)); entries = k.entries }
        with_false (Ends e p') z k = record { closed = (k.closed.0, false_if m s g (is_shown g e) e (walks.event (RowGoal l i) (Temp (suc (suc n)))) _ (z, tt) k.closed.1); entries = k.entries }

        go : (t : Bool) → row_holds m.row g l i p.store ≡ t → (b' : Bool) → b ≡ b'
            → (Stand (Temp (suc (suc (suc n)))) w.slots (At p.store) → Closes (end_rows g q c l (suc i) more (suc (suc (suc (suc n)))) (with_path w (Temp (suc (suc (suc n)))))) p (come_of (events b l (row_tests m.row g l (suc i) more) old (at p [] 0))))
            → (Stand (Temp (suc (suc (suc n)))) w.slots Off → Stops m s g (end_rows g q c l (suc i) more (suc (suc (suc (suc n)))) (with_path w (Temp (suc (suc (suc n)))))))
            → Closes (end_rows g q c l i (suc more) n w) p (come_of (on_go (demand b' (Fallen l i) t (at p [] 0)) (λ u. events b l (row_tests m.row g l (suc i) more) old)))
        go true d b' f next off = with_false (come_of (events b l (row_tests m.row g l (suc i) more) old (at p [] 0))) ((facts true d).0 ∙ and_false b) (next ((facts true d).1, h.1, h.2))
        go false d true f next off =
            let r = off ((facts false d).1, h.1) in
            record { closed = (r.after, inl (refl, (facts false d).0 ∙ ap (λ x. x && true) f, r.events)); entries = r.entries }
        go false d false f next off =
            let r = off ((facts false d).1, h.1) in
            record { closed = (r.after, ((facts false d).0 ∙ ap (λ x. x && true) f, r.events)); entries = r.entries }

  -- ---- ends of turns

  app_nil : {A : Type 0} (xs : List A) → xs ++ [] ≡ xs
  app_nil [] = refl
  app_nil (x ∷ xs) = ap (λ ys. x ∷ ys) (app_nil xs)

  -- where no rankings are asked for
  rank_close : (rk : Bool) → rk ≡ false → (q c : Operand) (l : ℕ) (old : List Slot) (n : ℕ) (o : walks.Out) (p : Place) (e : Come (Unit {0})) → Closes o p e → Closes (joined walks.nothing o (end_rank g rk q c l old n o.after)) p e
  rank_close true d q c l old n o p e h = cc
  rank_close false d q c l old n o p (Goes u p') h = record { closed = (h.closed.0, h.closed.1, false_both m s g o.events [] h.closed.2 tt); entries = Rattle.l2_ssa.proofs.Shows.shut_both m s g o.entries [] h.entries tt }
  rank_close false d q c l old n o p (Ends e p') h = record { closed = (h.closed.0, if_false m s g (is_shown g e) e o.events [] h.closed.1 tt); entries = Rattle.l2_ssa.proofs.Shows.shut_both m s g o.entries [] h.entries tt }

  rank_off : (rk : Bool) → rk ≡ false → (q c : Operand) (l : ℕ) (old : List Slot) (n : ℕ) (o : walks.Out) → Stops m s g o → Stops m s g (joined walks.nothing o (end_rank g rk q c l old n o.after))
  rank_off true d q c l old n o h = cc
  rank_off false d q c l old n o h = record { after = h.after; entries = Rattle.l2_ssa.proofs.Shows.shut_both m s g o.entries [] h.entries tt; events = false_both m s g o.events [] h.events tt }

  rank_tests : (rk : Bool) → rk ≡ false → (l k : ℕ) (ts : List Test) → ts ++ rank_test m.lower g rk l k ≡ ts
  rank_tests true d l k ts = cc
  rank_tests false d l k ts = app_nil ts

  bottom_close : (b : Bool) (l : ℕ) (old : Store) (n : ℕ) (c : Operand) (w : Walk) (p : Place) → Rattle.l2_ssa.proofs.Shows.Sized m s g 1 g.objects w.slots → on s (Temp n) ≡ b
      → Closes (record (walks.stepped (Rattle.l2_ssa.specs.Steps.Both w.path c ∷ []) (with_path w walks.F)) { events = walks.event (RowGoal l 0) (Temp n) }) p (come_of (events b l bottom old (at p [] 0)))
  bottom_close true l old n c w p h e = record { closed = ((refl, h), inl (refl, e, tt)); entries = tt }
  bottom_close false l old n c w p h e = record { closed = ((refl, h), (e, tt)); entries = tt }

  module _ (plain : g.ranks ≡ false) where
    pub turn_close : (kind : Kind) (c : Operand) (b : Bool) → on s c ≡ b → (l : ℕ) (slots : List Slot) (old : Store) (n : ℕ) (w : Walk) (p : Place) → Stand w.path w.slots (At p.store) → Solves m s n (end_turn g kind c l slots n w).steps
        → Closes (end_turn g kind c l slots n w) p (come_of (events b l (tests_of m.row m.lower g kind l) old (at p [] 0)))
    turn_close Bottom c b e l slots old n w p h ok = bottom_close b l old n c w p h.1 (on_both n w.path c ok.0 ∙ (λ i. h.0 i && e i))
    turn_close Plain c b e l slots old n w p h ok = record { closed = (refl, h, tt); entries = tt }
    turn_close (Rows r) c b e l slots old n w p h ok =
        subst (λ ts. Closes (end_turn g (Rows r) c l slots n w) p (come_of (events b l ts old (at p [] 0)))) (sym (rank_tests g.ranks plain l (suc r) (row_tests m.row g l 1 r)))
        (rank_close g.ranks plain w.path c l slots _ (end_rows g w.path c l 1 r n w) p _
        (rows_close w.path c h.0 b e old l 1 r n w p h (solves_first m s g n (end_rows g w.path c l 1 r n w).steps _ ok)))

    pub turn_off : (kind : Kind) (c : Operand) (l : ℕ) (slots : List Slot) (n : ℕ) (w : Walk) → Stand w.path w.slots Off → Solves m s n (end_turn g kind c l slots n w).steps → Stops m s g (end_turn g kind c l slots n w)
    turn_off Bottom c l slots n w h ok = record { after = (refl, h.1); entries = tt; events = (on_both n w.path c ok.0 ∙ ap (λ x. x && on s c) h.0, tt) }
    turn_off Plain c l slots n w h ok = record { after = h; entries = tt; events = tt }
    turn_off (Rows r) c l slots n w h ok =
        rank_off g.ranks plain w.path c l slots _ (end_rows g w.path c l 1 r n w) (rows_off w.path c l 1 r n w h (solves_first m s g n (end_rows g w.path c l 1 r n w).steps _ ok))
