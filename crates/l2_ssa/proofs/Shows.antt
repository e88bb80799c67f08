-- What a solution shows of a walk: at most one path is true, and its objects are the run's.
use Rattle.std.proofs.Common.{◌≡◌, ◌⊎◌, inl, inr, ℕ, zero, suc, Bool, true, false, not, List, [], ◌∷◌, ◌++◌}
use Rattle.l2_runs.specs.declared.outcome.Outcome.TheVariants.{Ended, Stopped, Broken, OutOfChoices, OutOfTurns}
use Rattle.l2_runs.specs.declared.cells.CellValue.{CellValue}
use Rattle.l2_runs.specs.Store.{Store, Object}
use Rattle.l2_runs.specs.Runs.{End, Over, Fallen}
use Rattle.l2_code.specs.declared.action.Operand.{Operand}
use Rattle.l2_code.specs.Values.{Temps, operand_value}
use Rattle.l2_code.specs.Machine.{Way, On, Out}
use Rattle.l2_supply.specs.Supply.{Place, Come, Goes, Ends}
use Rattle.l2_ssa.specs.Steps.{Step, Names, on, Meaning, Solves}
use Rattle.l2_ssa.specs.Law.{end_of}
use Rattle.l2_ssa.specs.Walks as walks
use Rattle.l2_ssa.specs.Walks.{Setting, Goal, RowGoal, RankGoal, CheckGoal, Kind, Bottom, Plain, Rows, Slot, Walk, Entry, Event, Given, past, goes_on, joined}

-- ---- where runs stand

pub data Spot : Type 0 where
  Off : Spot
  At : Store → Spot

pub data Start : Type 0 where
  Nowhere : Start
  Standing : Temps → Place → Start

abbrev pub spot : Start → Spot
spot Nowhere = Off
spot (Standing t p) = At p.store

-- where a run by a supply stands when it has come to this
abbrev pub fallen : Come Way → Start
fallen (Goes (On t) p) = Standing t p
fallen (Goes (Out n) p) = Nowhere
fallen (Ends e p) = Nowhere

-- whether an end is an event: where rankings are asked for, checks are stops
abbrev pub is_shown : Setting → End → Bool
is_shown g (Over Ended) = false
is_shown g (Over Stopped) = false
is_shown g (Over (Broken c)) = not g.ranks
is_shown g (Over OutOfChoices) = false
is_shown g (Over OutOfTurns) = false
is_shown g (Fallen l row) = true

abbrev pub SameLength : {X Y : Type 0} → List X → List Y → Type 0
SameLength [] [] = Unit {0}
SameLength [] (y ∷ ys) = ⊥
SameLength (x ∷ xs) [] = ⊥
SameLength (x ∷ xs) (y ∷ ys) = SameLength xs ys

module _ (m : Meaning) (s : Names) (g : Setting) where
  abbrev pub CellsRead : List Operand → List CellValue → Type 0
  CellsRead [] [] = Unit {0}
  CellsRead [] (v ∷ vs) = ⊥
  CellsRead (x ∷ xs) [] = ⊥
  CellsRead (x ∷ xs) (v ∷ vs) = (operand_value s x ≡ v) × CellsRead xs vs

  abbrev pub SlotsRead : List Slot → List Object → Type 0
  SlotsRead [] [] = Unit {0}
  SlotsRead [] (o ∷ os) = ⊥
  SlotsRead (x ∷ xs) [] = ⊥
  SlotsRead (x ∷ xs) (o ∷ os) = (CellsRead x.cells o.cells × (on s x.live ≡ o.live)) × SlotsRead xs os

  -- so many objects from a number on, each with its cells
  abbrev pub Sized : ℕ → ℕ → List Slot → Type 0
  Sized o zero [] = Unit {0}
  Sized o zero (x ∷ xs) = ⊥
  Sized o (suc n) [] = ⊥
  Sized o (suc n) (x ∷ xs) = SameLength (g.types.objects o) x.cells × Sized (suc o) n xs

  abbrev pub Stands : Operand → List Slot → Spot → Type 0
  Stands p slots Off = (on s p ≡ false) × Sized 1 g.objects slots
  Stands p slots (At st) = (on s p ≡ true) × Sized 1 g.objects slots × SlotsRead slots st

  abbrev pub TempsShow : (ℕ → Operand) → Start → Type 0
  TempsShow temps Nowhere = Unit {0}
  TempsShow temps (Standing t p) = (n : ℕ) → operand_value s (temps n) ≡ t n

  pub record Begins (w : Walk) (st : Start) : Type 0 where
    pub stands : Stands w.path w.slots (spot st)
    pub temps : TempsShow w.temps st

  -- ---- entries and events

  abbrev pub AllShut : List Entry → Type 0
  AllShut [] = Unit {0}
  AllShut (e ∷ es) = Stands e.path e.slots Off × AllShut es

  abbrev pub OneOpen : ℕ → Store → List Entry → Type 0
  OneOpen n st [] = ⊥
  OneOpen n st (e ∷ es) = ((e.depth ≡ n) × Stands e.path e.slots (At st) × AllShut es) ⊎ (Stands e.path e.slots Off × OneOpen n st es)

  abbrev pub EntriesShow : List Entry → Come Way → Type 0
  EntriesShow es (Goes (On t) p) = AllShut es
  EntriesShow es (Goes (Out n) p) = OneOpen n p.store es
  EntriesShow es (Ends e p) = AllShut es

  abbrev pub AllFalse : List Event → Type 0
  AllFalse [] = Unit {0}
  AllFalse (e ∷ es) = (on s e.literal ≡ false) × AllFalse es

  abbrev pub OneTrue : End → List Event → Type 0
  OneTrue k [] = ⊥
  OneTrue k (e ∷ es) = ((end_of g e.goal ≡ k) × (on s e.literal ≡ true) × AllFalse es) ⊎ ((on s e.literal ≡ false) × OneTrue k es)

  abbrev pub OneIf : Bool → End → List Event → Type 0
  OneIf true k es = OneTrue k es
  OneIf false k es = AllFalse es

  abbrev pub EventsShow : List Event → Come Way → Type 0
  EventsShow es (Goes w p) = AllFalse es
  EventsShow es (Ends e p) = OneIf (is_shown g e) e es

  -- the solution shows where the run came to
  pub record Shows (o : walks.Out) (e : Come Way) : Type 0 where
    pub after : Begins o.after (fallen e)
    pub entries : EntriesShow o.entries e
    pub events : EventsShow o.events e

  -- what a run that was stopped shows
  pub record Stops (o : walks.Out) : Type 0 where
    pub after : Stands o.after.path o.after.slots Off
    pub entries : AllShut o.entries
    pub events : AllFalse o.events

  -- ---- one walk after another

  pub shut_both : (es fs : List Entry) → AllShut es → AllShut fs → AllShut (es ++ fs)
  shut_both [] fs h k = k
  shut_both (e ∷ es) fs h k = (h.0, shut_both es fs h.1 k)

  shut_open : (n : ℕ) (st : Store) (es fs : List Entry) → AllShut es → OneOpen n st fs → OneOpen n st (es ++ fs)
  shut_open n st [] fs h k = k
  shut_open n st (e ∷ es) fs h k = inr (h.0, shut_open n st es fs h.1 k)

  open_shut : (n : ℕ) (st : Store) (es fs : List Entry) → OneOpen n st es → AllShut fs → OneOpen n st (es ++ fs)
  open_shut n st [] fs h k = absurd h
  open_shut n st (e ∷ es) fs (inl h) k = inl (h.0, h.1, shut_both es fs h.2 k)
  open_shut n st (e ∷ es) fs (inr h) k = inr (h.0, open_shut n st es fs h.1 k)

  shut_shows : (es fs : List Entry) (e : Come Way) → AllShut es → EntriesShow fs e → EntriesShow (es ++ fs) e
  shut_shows es fs (Goes (On t) p) h k = shut_both es fs h k
  shut_shows es fs (Goes (Out n) p) h k = shut_open n p.store es fs h k
  shut_shows es fs (Ends e p) h k = shut_both es fs h k

  pub false_both : (es fs : List Event) → AllFalse es → AllFalse fs → AllFalse (es ++ fs)
  false_both [] fs h k = k
  false_both (e ∷ es) fs h k = (h.0, false_both es fs h.1 k)

  false_true : (k : End) (es fs : List Event) → AllFalse es → OneTrue k fs → OneTrue k (es ++ fs)
  false_true c [] fs h k = k
  false_true c (e ∷ es) fs h k = inr (h.0, false_true c es fs h.1 k)

  true_false : (k : End) (es fs : List Event) → OneTrue k es → AllFalse fs → OneTrue k (es ++ fs)
  true_false c [] fs h k = absurd h
  true_false c (e ∷ es) fs (inl h) k = inl (h.0, h.1, false_both es fs h.2 k)
  true_false c (e ∷ es) fs (inr h) k = inr (h.0, true_false c es fs h.1 k)

  pub false_if : (b : Bool) (k : End) (es fs : List Event) → AllFalse es → OneIf b k fs → OneIf b k (es ++ fs)
  false_if true c es fs h k = false_true c es fs h k
  false_if false c es fs h k = false_both es fs h k

  pub if_false : (b : Bool) (k : End) (es fs : List Event) → OneIf b k es → AllFalse fs → OneIf b k (es ++ fs)
  if_false true c es fs h k = true_false c es fs h k
  if_false false c es fs h k = false_both es fs h k

  false_shows : (es fs : List Event) (e : Come Way) → AllFalse es → EventsShow fs e → EventsShow (es ++ fs) e
  false_shows es fs (Goes w p) h k = false_both es fs h k
  false_shows es fs (Ends e p) h k = false_if (is_shown g e) e es fs h k

  -- what follows, where the first has fallen
  abbrev pub Follows : walks.Out → Come Way → (Temps → Place → Come Way) → Type 0
  Follows o (Goes (On t) p) k = Shows o (k t p)
  Follows o (Goes (Out n) p) k = Stops o
  Follows o (Ends e p) k = Stops o

  abbrev pub then_come : Come Way → (Temps → Place → Come Way) → Come Way
  then_come (Goes (On t) p) k = k t p
  then_come (Goes (Out n) p) k = Goes (Out n) p
  then_come (Ends e p) k = Ends e p

  pub joined_shows : (given : Given) (o p : walks.Out) (e : Come Way) (k : Temps → Place → Come Way) → Shows o e → Follows p e k → Shows (joined given o p) (then_come e k)
  joined_shows given o p (Goes (On t) q) k h f = record { after = f.after; entries = shut_shows o.entries p.entries (k t q) h.entries f.entries; events = false_shows o.events p.events (k t q) h.events f.events }
  joined_shows given o p (Goes (Out n) q) k h f = record {
    after = record { stands = f.after; temps = tt };
    entries = open_shut n q.store o.entries p.entries h.entries f.entries;
    events = false_both o.events p.events h.events f.events;
  }
  joined_shows given o p (Ends e q) k h f = record {
    after = record { stands = f.after; temps = tt };
    entries = shut_both o.entries p.entries h.entries f.entries;
    events = if_false (is_shown g e) e o.events p.events h.events f.events;
  }

  pub joined_stops : (given : Given) (o p : walks.Out) → Stops o → Stops p → Stops (joined given o p)
  joined_stops given o p h k = record { after = k.after; entries = shut_both o.entries p.entries h.entries k.entries; events = false_both o.events p.events h.events k.events }

  -- ---- steps one behind another

  pub solves_first : (n : ℕ) (xs ys : List Step) → Solves m s n (xs ++ ys) → Solves m s n xs
  solves_first n [] ys h = tt
  solves_first n (x ∷ xs) ys h = (h.0, solves_first (suc n) xs ys h.1)

  pub solves_second : (n : ℕ) (xs ys : List Step) → Solves m s n (xs ++ ys) → Solves m s (past n xs) ys
  solves_second n [] ys h = h
  solves_second n (x ∷ xs) ys h = solves_second (suc n) xs ys h.1
