-- What a solution shows of a run that watches rankings: until a ranking fails, what it shows of every run.
use Rattle.std.proofs.Common.{◌≡◌, ◌⊎◌, inl, inr, ℕ, false, refl, sym, ap, subst, List, [], ◌∷◌, ◌++◌}
use Rattle.l2_runs.specs.Runs.{End, Over, Fallen}
use Rattle.l2_code.specs.Values.{Temps}
use Rattle.l2_code.specs.Machine.{Way, On, Out}
use Rattle.l2_supply.specs.Supply.{Place, Come, Goes, Ends}
use Rattle.l2_ssa.specs.Steps.{Names, on, Meaning}
use Rattle.l2_ssa.specs.Law.{HasEvent}
use Rattle.l2_ssa.specs.Walks as walks
use Rattle.l2_ssa.specs.Walks.{Setting, Goal, RowGoal, RankGoal, CheckGoal, Event, Given, joined}
use Rattle.l2_ssa.proofs.Shows.{Off, Standing, Stands, Begins, Shows, Stops, AllFalse, then_come, joined_shows}
use Rattle.l2_ssa_laws.specs.Rankings.{Watch, Ranked, IsWatch}

-- ---- events but those of rankings

abbrev pub keep : Goal → Event → List Event → List Event
keep (RowGoal l i) e es = e ∷ es
keep (RankGoal l) e es = es
keep (CheckGoal c) e es = e ∷ es

abbrev pub unranked : List Event → List Event
unranked [] = []
unranked (e ∷ es) = keep e.goal e (unranked es)

pub unranked_both : (es fs : List Event) → unranked (es ++ fs) ≡ unranked es ++ unranked fs
unranked_both [] fs = refl
unranked_both (e ∷ es) fs = go e.goal (unranked_both es fs)
  where
    go : (x : Goal) → unranked (es ++ fs) ≡ unranked es ++ unranked fs → keep x e (unranked (es ++ fs)) ≡ keep x e (unranked es) ++ unranked fs
    go (RowGoal l i) h = ap (λ ys. e ∷ ys) h
    go (RankGoal l) h = h
    go (CheckGoal c) h = ap (λ ys. e ∷ ys) h

abbrev pub others : walks.Out → walks.Out
others o = record o { events = unranked o.events }

module _ (m : Meaning) (s : Names) (g : Setting) (watched : ℕ → Watch) where
  -- ---- no watched loop's ranking has failed

  abbrev pub Quiet : Goal → Event → Type 0
  Quiet (RowGoal l i) e = Unit {0}
  Quiet (RankGoal l) e = watched l ≡ Ranked → on s e.literal ≡ false
  Quiet (CheckGoal c) e = Unit {0}

  abbrev pub AllQuiet : List Event → Type 0
  AllQuiet [] = Unit {0}
  AllQuiet (e ∷ es) = Quiet e.goal e × AllQuiet es

  pub quiet_both : (es fs : List Event) → AllQuiet es → AllQuiet fs → AllQuiet (es ++ fs)
  quiet_both [] fs h k = k
  quiet_both (e ∷ es) fs h k = (h.0, quiet_both es fs h.1 k)

  quiet_one : (x : Goal) (e : Event) → on s e.literal ≡ false → Quiet x e
  quiet_one (RowGoal l i) e h = tt
  quiet_one (RankGoal l) e h = λ k. h
  quiet_one (CheckGoal c) e h = tt

  pub false_quiet : (es : List Event) → AllFalse m s g es → AllQuiet es
  false_quiet [] h = tt
  false_quiet (e ∷ es) h = (quiet_one e.goal e h.0, false_quiet es h.1)

  pub false_unranked : (es : List Event) → AllFalse m s g es → AllFalse m s g (unranked es)
  false_unranked [] h = tt
  false_unranked (e ∷ es) h = go e.goal (false_unranked es h.1)
    where
      go : (x : Goal) → AllFalse m s g (unranked es) → AllFalse m s g (keep x e (unranked es))
      go (RowGoal l i) k = (h.0, k)
      go (RankGoal l) k = k
      go (CheckGoal c) k = (h.0, k)

  -- ---- one has failed

  abbrev pub FallsAt : End → List Event → Type 0
  FallsAt (Over o) es = ⊥
  FallsAt (Fallen l i) es = IsWatch g.kind watched l i × HasEvent s (RankGoal l) es

  abbrev pub Falls : {A : Type 0} → List Event → Come A → Type 0
  Falls es (Goes a p) = ⊥
  Falls es (Ends x p) = FallsAt x es

  pub event_left : (goal : Goal) (es fs : List Event) → HasEvent s goal es → HasEvent s goal (es ++ fs)
  event_left goal [] fs h = absurd h
  event_left goal (e ∷ es) fs (inl h) = inl h
  event_left goal (e ∷ es) fs (inr h) = inr (event_left goal es fs h)

  pub event_right : (goal : Goal) (es fs : List Event) → HasEvent s goal fs → HasEvent s goal (es ++ fs)
  event_right goal [] fs h = h
  event_right goal (e ∷ es) fs h = inr (event_right goal es fs h)

  falls_at_left : (x : End) (es fs : List Event) → FallsAt x es → FallsAt x (es ++ fs)
  falls_at_left (Over o) es fs h = h
  falls_at_left (Fallen l i) es fs h = (h.0, event_left (RankGoal l) es fs h.1)

  falls_at_right : (x : End) (es fs : List Event) → FallsAt x fs → FallsAt x (es ++ fs)
  falls_at_right (Over o) es fs h = h
  falls_at_right (Fallen l i) es fs h = (h.0, event_right (RankGoal l) es fs h.1)

  pub falls_left : {A : Type 0} (e : Come A) (es fs : List Event) → Falls es e → Falls (es ++ fs) e
  falls_left (Goes a p) es fs h = h
  falls_left (Ends x p) es fs h = falls_at_left x es fs h

  pub falls_right : {A : Type 0} (e : Come A) (es fs : List Event) → Falls fs e → Falls (es ++ fs) e
  falls_right (Goes a p) es fs h = h
  falls_right (Ends x p) es fs h = falls_at_right x es fs h

  -- ---- what the solution shows

  pub record Still (o : walks.Out) (e : Come Way) : Type 0 where
    pub shows : Shows m s g (others o) e
    pub quiet : AllQuiet o.events

  abbrev pub Shown : walks.Out → Come Way → Type 0
  Shown o e = Still o e ⊎ Falls o.events e

  pub still_stops : (o : walks.Out) → Stops m s g o → Stops m s g (others o)
  still_stops o h = record { after = h.after; entries = h.entries; events = false_unranked o.events h.events }

  -- ---- one walk after another

  still_joined : (given : Given) (o p : walks.Out) (e : Come Way) → Shows m s g (joined given (others o) (others p)) e → AllQuiet o.events → AllQuiet p.events → Still (joined given o p) e
  still_joined given o p e h j k = record {
    shows = subst (λ es. Shows m s g (record (joined given o p) { events = es }) e) (sym (unranked_both o.events p.events)) h;
    quiet = quiet_both o.events p.events j k;
  }

  pub joined_shown : (given : Given) (o p : walks.Out) (e : Come Way) (k : Temps → Place → Come Way) → Shown o e
      → ((t : Temps) (q : Place) → e ≡ Goes (On t) q → Begins m s g o.after (Standing t q) → Shown p (k t q))
      → (Stands m s g o.after.path o.after.slots Off → Stops m s g p)
      → Shown (joined given o p) (then_come m s g e k)
  joined_shown given o p (Goes (On t) q) k (inl h) go off = next (go t q refl h.shows.after)
    where
      next : Shown p (k t q) → Shown (joined given o p) (k t q)
      next (inl j) = inl (still_joined given o p (k t q) (joined_shows m s g given (others o) (others p) (Goes (On t) q) k h.shows j.shows) h.quiet j.quiet)
      next (inr j) = inr (falls_right (k t q) o.events p.events j)
  joined_shown given o p (Goes (Out n) q) k (inl h) go off =
      let j = off h.shows.after.stands in
      inl (still_joined given o p (Goes (Out n) q) (joined_shows m s g given (others o) (others p) (Goes (Out n) q) k h.shows (still_stops p j)) h.quiet (false_quiet p.events j.events))
  joined_shown given o p (Ends x q) k (inl h) go off =
      let j = off h.shows.after.stands in
      inl (still_joined given o p (Ends x q) (joined_shows m s g given (others o) (others p) (Ends x q) k h.shows (still_stops p j)) h.quiet (false_quiet p.events j.events))
  joined_shown given o p (Goes w q) k (inr h) go off = absurd h
  joined_shown given o p (Ends x q) k (inr h) go off = inr (falls_at_left x o.events p.events h)
