-- Cut runs follow real runs, or fall: what is closed under one run after another.
-- A cut run is given by whether its failures count, and by whether it has the watches behind its rows.
use Rattle.std.proofs.Common.{◌≡◌, ℕ, ℤ, Bool, true, false, List, [], ◌∷◌, ◌++◌, ◌⊎◌, inl, inr, refl, sym, ap, ◌∙◌, subst, append_assoc}
use Rattle.std.specs.Prelude.{◌||◌, ◌==◌}
use Rattle.l2_runs.specs.declared.cells.CellValue.{CellValue}
use Rattle.l2_runs.specs.declared.outcome.Outcome.TheVariants.{Ended, Stopped, Broken, OutOfChoices, OutOfTurns}
use Rattle.l2_runs.specs.Store.{Store, Address}
use Rattle.l2_runs.specs.Runs.{State, End, Over, Fallen, Result, Go, Halt, Run, on_go, and_then, done, over, either, take_choice, choose, read, write, enliven, bury, demand, check}
use Rattle.l2_run_laws.proofs.Kept.{KeptAt, Kept}

-- a state with this store and these choices
abbrev pub at : Store → List ℤ → State → State
at st cs s = record s { store = st; choices = cs }

-- a run came to this end
abbrev pub EndsIn : {A : Type 0} → Result A → End → Type 0
EndsIn (Go a s) e = ⊥
EndsIn (Halt f s) e = f ≡ e

abbrev pub Cuts : Type 0 → Type 0
Cuts A = Bool → Bool → Run A

-- some choices take f at the one store to g at the other, in every way
pub record Drives {A : Type 0} (f g : Cuts A) (a b : Store) : Type 0 where
  pub cs : List ℤ
  pub runs : (counted watched : Bool) (rest : List ℤ) (s : State) → f counted watched (at a (cs ++ rest) s) ≡ g counted watched (at b rest s)

-- some choices take the cut run from one store to the other with this value
abbrev pub Simulates : {A : Type 0} → Cuts A → Store → Store → A → Type 0
Simulates cut a b x = Drives cut (λ counted watched. done x) a b

-- some choices bring a run to this end
pub record Halts {A : Type 0} (r : Run A) (st : Store) (e : End) : Type 0 where
  pub cs : List ℤ
  pub runs : (s : State) → EndsIn (r (at st cs s)) e

-- some choices bring the cut run without watches to a row that fails
pub record Falls {A : Type 0} (cut : Cuts A) (st : Store) : Type 0 where
  pub loop : ℕ
  pub row : ℕ
  pub by : Halts (cut true false) st (Fallen loop row)

-- what the cut run can do about the real run's end
abbrev pub Meets : {A : Type 0} → Cuts A → Store → End → Type 0
Meets cut st (Over Ended) = (counted watched : Bool) → Halts (cut counted watched) st (Over Ended)
Meets cut st (Over Stopped) = Unit {0}
Meets cut st (Over (Broken c)) = (watched : Bool) → Halts (cut true watched) st (Over (Broken c))
Meets cut st (Over OutOfChoices) = Unit {0}
Meets cut st (Over OutOfTurns) = Unit {0}
Meets cut st (Fallen l row) = Halts (cut true true) st (Fallen l row)

abbrev pub Matched : {A : Type 0} → Cuts A → Store → Result A → Type 0
Matched cut st (Go a s) = Simulates cut st s.store a
Matched cut st (Halt e s) = Meets cut st e

-- from such a store, the cut run can do what the real run does, or can fall at a row
pub record Follows {A : Type 0} (Pre : Store → Type 0) (real : Run A) (cut : Cuts A) : Type 0 where
  pub by : (s : State) → Pre s.store → Falls cut s.store ⊎ Matched cut s.store (real s)

-- ---- driving

pub drives_here : {A : Type 0} (f : Cuts A) (a : Store) → Drives f f a a
drives_here f a = record { cs = []; runs = λ b w rest s. refl }

pub drives_on : {A : Type 0} (f g h : Cuts A) (a b c : Store) → Drives f g a b → Drives g h b c → Drives f h a c
drives_on f g h a b c p q = record {
  cs = p.cs ++ q.cs;
  runs = λ y w rest s. ap (λ cs. f y w (at a cs s)) (append_assoc p.cs q.cs rest) ∙ p.runs y w (q.cs ++ rest) s ∙ q.runs y w rest s;
}

-- what follows a simulated start
pub drives_then : {A B : Type 0} (c : Cuts A) (h : Bool → Bool → A → Run B) (a b : Store) (x : A) → Simulates c a b x → Drives (λ y w. and_then (c y w) (h y w)) (λ y w. h y w x) a b
drives_then c h a b x p = record { cs = p.cs; runs = λ y w rest s. ap (λ r. on_go r (h y w)) (p.runs y w rest s) }

drives_halts : {A : Type 0} (f g : Cuts A) (a b : Store) (y w : Bool) (e : End) → Drives f g a b → Halts (g y w) b e → Halts (f y w) a e
drives_halts f g a b y w e p q = record {
  cs = p.cs ++ q.cs;
  runs = λ s. subst (λ r. EndsIn r e) (sym (p.runs y w q.cs s)) (q.runs s);
}

pub drives_falls : {A : Type 0} (f g : Cuts A) (a b : Store) → Drives f g a b → Falls g b → Falls f a
drives_falls f g a b p q = record { loop = q.loop; row = q.row; by = drives_halts f g a b true false (Fallen q.loop q.row) p q.by }

pub drives_meets : {A : Type 0} (f g : Cuts A) (a b : Store) (e : End) → Drives f g a b → Meets g b e → Meets f a e
drives_meets f g a b (Over Ended) p m = λ y w. drives_halts f g a b y w (Over Ended) p (m y w)
drives_meets f g a b (Over Stopped) p m = tt
drives_meets f g a b (Over (Broken c)) p m = λ w. drives_halts f g a b true w (Over (Broken c)) p (m w)
drives_meets f g a b (Over OutOfChoices) p m = tt
drives_meets f g a b (Over OutOfTurns) p m = tt
drives_meets f g a b (Fallen l row) p m = drives_halts f g a b true true (Fallen l row) p m

-- ---- a run that is over stays so

ends_on : {A B : Type 0} (x : Result A) (f : A → Run B) (e : End) → EndsIn x e → EndsIn (on_go x f) e
ends_on (Go a s) f e h = absurd h
ends_on (Halt e' s) f e h = h

halts_first : {A B : Type 0} (r : Run A) (f : A → Run B) (st : Store) (e : End) → Halts r st e → Halts (and_then r f) st e
halts_first r f st e h = record { cs = h.cs; runs = λ s. ends_on (r (at st h.cs s)) f e (h.runs s) }

pub falls_first : {A B : Type 0} (c : Cuts A) (h : Bool → Bool → A → Run B) (st : Store) → Falls c st → Falls (λ y w. and_then (c y w) (h y w)) st
falls_first c h st q = record { loop = q.loop; row = q.row; by = halts_first (c true false) (h true false) st (Fallen q.loop q.row) q.by }

pub meets_first : {A B : Type 0} (c : Cuts A) (h : Bool → Bool → A → Run B) (st : Store) (e : End) → Meets c st e → Meets (λ y w. and_then (c y w) (h y w)) st e
meets_first c h st (Over Ended) m = λ y w. halts_first (c y w) (h y w) st (Over Ended) (m y w)
meets_first c h st (Over Stopped) m = tt
meets_first c h st (Over (Broken n)) m = λ w. halts_first (c true w) (h true w) st (Over (Broken n)) (m w)
meets_first c h st (Over OutOfChoices) m = tt
meets_first c h st (Over OutOfTurns) m = tt
meets_first c h st (Fallen l row) m = halts_first (c true true) (h true true) st (Fallen l row) m

-- ---- one run after another

pub drives_matched : {A : Type 0} (f g : Cuts A) (a b : Store) (y : Result A) → Drives f g a b → Falls g b ⊎ Matched g b y → Falls f a ⊎ Matched f a y
drives_matched f g a b y p (inl q) = inl (drives_falls f g a b p q)
drives_matched f g a b (Go x s) p (inr m) = inr (drives_on f g (λ k w. done x) a b s.store p m)
drives_matched f g a b (Halt e s) p (inr m) = inr (drives_meets f g a b e p m)

then_at : {A B : Type 0} {Mid : Store → Type 0} {P : A → Type 0} (c : Cuts A) (f : A → Run B) (h : Bool → Bool → A → Run B) (st : Store) (x : Result A) → KeptAt Mid P x → Falls c st ⊎ Matched c st x → ((a : A) → P a → Follows Mid (f a) (λ y w. h y w a)) → Falls (λ y w. and_then (c y w) (h y w)) st ⊎ Matched (λ y w. and_then (c y w) (h y w)) st (on_go x f)
then_at c f h st x k (inl q) next = inl (falls_first c h st q)
then_at c f h st (Go a s) k (inr m) next =
    drives_matched (λ y w. and_then (c y w) (h y w)) (λ y w. h y w a) st s.store (f a s) (drives_then c h st s.store a m) ((next a k.0).by s k.1)
then_at c f h st (Halt e s) k (inr m) next = inr (meets_first c h st e m)

-- the first run leads to stores from which the second one is followed
pub then_follows : {A B : Type 0} {Pre Mid : Store → Type 0} {P : A → Type 0} {r : Run A} {c : Cuts A} {f : A → Run B} {h : Bool → Bool → A → Run B} → Kept Pre Mid P r → Follows Pre r c → ((a : A) → P a → Follows Mid (f a) (λ y w. h y w a)) → Follows Pre (and_then r f) (λ y w. and_then (c y w) (h y w))
then_follows {r = r} {c = c} {f = f} {h = h} kept first next = record { by = λ s g. then_at c f h s.store (r s) (kept.by s g) (first.by s g) next }

pub done_follows : {A : Type 0} {Pre : Store → Type 0} (a : A) → Follows Pre (done a) (λ y w. done a)
done_follows a = record { by = λ s g. inr (drives_here (λ y w. done a) s.store) }

pub ended_follows : {A : Type 0} {Pre : Store → Type 0} → Follows Pre (over {A = A} (Over Ended)) (λ y w. over (Over Ended))
ended_follows = record { by = λ s g. inr (λ y w. record { cs = []; runs = λ r. refl }) }

pub choose_follows : {Pre : Store → Type 0} → Follows Pre choose (λ y w. choose)
choose_follows = record { by = λ s g. at_choices s s.choices }
  where
    at_choices : (s : State) (cs : List ℤ) → Falls (λ y w. choose) s.store ⊎ Matched (λ y w. choose) s.store (take_choice cs s)
    at_choices s [] = inr tt
    at_choices s (c ∷ cs) = inr (record { cs = c ∷ []; runs = λ y w rest t. refl })

pub read_follows : {Pre : Store → Type 0} (a : Address) → Follows Pre (read a) (λ y w. read a)
read_follows a = record { by = λ s g. inr (record { cs = []; runs = λ y w rest t. refl }) }

pub write_follows : {Pre : Store → Type 0} (a : Address) (v : CellValue) → Follows Pre (write a v) (λ y w. write a v)
write_follows a v = record { by = λ s g. inr (record { cs = []; runs = λ y w rest t. refl }) }

pub enliven_follows : {Pre : Store → Type 0} (n : ℕ) → Follows Pre (enliven n) (λ y w. enliven n)
enliven_follows n = record { by = λ s g. inr (record { cs = []; runs = λ y w rest t. refl }) }

pub bury_follows : {Pre : Store → Type 0} (n : ℕ) → Follows Pre (bury n) (λ y w. bury n)
bury_follows n = record { by = λ s g. inr (record { cs = []; runs = λ y w rest t. refl }) }

pub check_follows : {Pre : Store → Type 0} (n : ℕ) (ok : Bool) → Follows Pre (check true n ok) (λ y w. check y n ok)
check_follows n ok = record { by = λ s g. by_test (n == 0 || ok) s }
  where
    by_test : (ok : Bool) (s : State) → Falls (λ y w. demand y (Over (Broken n)) ok) s.store ⊎ Matched (λ y w. demand y (Over (Broken n)) ok) s.store (demand true (Over (Broken n)) ok s)
    by_test true s = inr (record { cs = []; runs = λ y w rest t. refl })
    by_test false s = inr (λ w. record { cs = []; runs = λ t. refl })

pub either_follows : {A : Type 0} {Pre : Store → Type 0} (b : Bool) {x y : Run A} {c d : Cuts A} → Follows Pre x c → Follows Pre y d → Follows Pre (either b x y) (λ k w. either b (c k w) (d k w))
either_follows true h j = record { by = λ s g. h.by s g }
either_follows false h j = record { by = λ s g. j.by s g }

-- from fewer stores
pub fewer_follow : {A : Type 0} {Pre Less : Store → Type 0} {r : Run A} {c : Cuts A} → ((st : Store) → Less st → Pre st) → Follows Pre r c → Follows Less r c
fewer_follow less h = record { by = λ s g. h.by s (less s.store g) }
