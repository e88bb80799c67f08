-- Which objects a run changes, and whose lifetimes it begins.
use Rattle.std.proofs.Common.{◌≡◌, ℕ, zero, suc, ℤ, Bool, true, false, List, [], ◌∷◌, length, ◌⊎◌, inl, inr, refl, sym, ◌∙◌}
use Rattle.std.specs.Prelude.{◌||◌, ◌==◌, slice_get, slice_set}
use Rattle.std.proofs.Math.ListN.{length-set}
use Rattle.l2_runs.specs.declared.cells.CellValue.{CellValue}
use Rattle.l2_runs.specs.declared.outcome.Outcome.TheVariants.{Broken}
use Rattle.l2_runs.specs.Numbers.{set_number}
use Rattle.l2_runs.specs.Store.{Object, Store, Address, or_nothing, object_at, with_live}
use Rattle.l2_runs.specs.Runs.{State, End, Over, Result, Go, Halt, Run, on_go, and_then, done, over, either, take_choice, choose, read, write, enliven, demand, check}

-- ---- an object of a changed store

after : (P : ℕ → Object → Type 0) (store : Store) (i : ℕ) (o : Object) → P i o → ((j : ℕ) → P j (or_nothing (slice_get store j))) → (j : ℕ) → P j (or_nothing (slice_get (slice_set store i o) j))
after P [] i o h all j = all j
after P (x ∷ xs) zero o h all zero = h
after P (x ∷ xs) zero o h all (suc j) = all (suc j)
after P (x ∷ xs) (suc i) o h all zero = all zero
after P (x ∷ xs) (suc i) o h all (suc j) = after (λ k. P (suc k)) xs i o h (λ k. all (suc k)) j

-- what holds of the new object, and of all before, holds of all
pub at_set : (P : ℕ → Object → Type 0) (store : Store) (m : ℕ) (o : Object) → P m o → ((n : ℕ) → P n (object_at store n)) → (n : ℕ) → P n (object_at (set_number store m o) n)
at_set P store zero o h all n = all n
at_set P store (suc i) o h all zero = all zero
at_set P store (suc i) o h all (suc j) = after (λ k. P (suc k)) store i o h (λ k. all (suc k)) j

pub length_set : (store : Store) (m : ℕ) (o : Object) → length (set_number store m o) ≡ length store
length_set store zero o = refl
length_set store (suc i) o = length-set store i o

dead_there : (store : Store) (i : ℕ) (o : Object) → o.live ≡ false → (or_nothing (slice_get (slice_set store i o) i)).live ≡ false
dead_there [] i o e = refl
dead_there (x ∷ xs) zero o e = e
dead_there (x ∷ xs) (suc i) o e = dead_there xs i o e

pub dead_at : (store : Store) (m : ℕ) → (object_at (with_live store m false) m).live ≡ false
dead_at store zero = refl
dead_at store (suc i) = dead_there store i (record (object_at store (suc i)) { live = false }) refl

-- ---- frames

-- the stores differ at most at the cells of some objects, and at the lifetimes of some
pub record Frame (Changed Opened : ℕ → Type 0) (a b : Store) : Type 0 where
  pub long : length a ≡ length b
  pub wide : (n : ℕ) → length (object_at a n).cells ≡ length (object_at b n).cells
  pub same : (n : ℕ) → (Changed n → ⊥) → (object_at a n).cells ≡ (object_at b n).cells
  pub live : (n : ℕ) → (Opened n → ⊥) → (object_at a n).live ≡ (object_at b n).live

abbrev pub NoObject : ℕ → Type 0
NoObject n = ⊥

abbrev pub Dead : (ℕ → Type 0) → Store → Type 0
Dead Which st = (n : ℕ) → Which n → (object_at st n).live ≡ false

pub frame_refl : (Changed Opened : ℕ → Type 0) (a : Store) → Frame Changed Opened a a
frame_refl Changed Opened a = record { long = refl; wide = λ n. refl; same = λ n h. refl; live = λ n h. refl }

pub frame_on : {Changed OA OB O : ℕ → Type 0} (a b c : Store) → ((n : ℕ) → OA n → O n) → ((n : ℕ) → OB n → O n) → Frame Changed OA a b → Frame Changed OB b c → Frame Changed O a c
frame_on a b c first second h k = record {
  long = h.long ∙ k.long;
  wide = λ n. h.wide n ∙ k.wide n;
  same = λ n out. h.same n out ∙ k.same n out;
  live = λ n out. h.live n (λ o. out (first n o)) ∙ k.live n (λ o. out (second n o));
}

pub frame_trans : (Changed Opened : ℕ → Type 0) (a b c : Store) → Frame Changed Opened a b → Frame Changed Opened b c → Frame Changed Opened a c
frame_trans Changed Opened a b c h k = frame_on a b c (λ n o. o) (λ n o. o) h k

-- the dead stay dead, but for those that are opened
pub still_dead : {Changed O D : ℕ → Type 0} (a b : Store) → Frame Changed O a b → ((n : ℕ) → D n → O n → ⊥) → Dead D a → Dead D b
still_dead a b f apart h n d = sym (f.live n (apart n d)) ∙ h n d

module _ (Changed : ℕ → Type 0) where
  abbrev pub FramedAt : {A : Type 0} → (ℕ → Type 0) → Store → Result A → Type 0
  FramedAt O st (Go a s) = Frame Changed O st s.store
  FramedAt O st (Halt e s) = Unit {0}

  -- from stores where some objects are dead
  pub record Frames {A : Type 0} (D O : ℕ → Type 0) (r : Run A) : Type 0 where
    pub by : (s : State) → Dead D s.store → FramedAt O s.store (r s)

  framed_on : {B : Type 0} {OA OB O : ℕ → Type 0} (a b : Store) (y : Result B) → ((n : ℕ) → OA n → O n) → ((n : ℕ) → OB n → O n) → Frame Changed OA a b → FramedAt OB b y → FramedAt O a y
  framed_on a b (Go x r) first second h k = frame_on a b r.store first second h k
  framed_on a b (Halt e r) first second h k = tt

  pub then_framed : {A B : Type 0} {D DB OA OB O : ℕ → Type 0} (st : Store) (x : Result A) (f : A → Run B) → ((n : ℕ) → OA n → O n) → ((n : ℕ) → OB n → O n) → ((n : ℕ) → DB n → D n) → ((n : ℕ) → DB n → OA n → ⊥) → Dead D st → FramedAt OA st x → ((a : A) → Frames DB OB (f a)) → FramedAt O st (on_go x f)
  then_framed st (Go a s) f first second within apart dead h next =
      framed_on st s.store (f a s) first second h ((next a).by s (still_dead st s.store h apart (λ n d. dead n (within n d))))
  then_framed st (Halt e s) f first second within apart dead h next = tt

  -- one run, and then another that opens what is dead still
  pub then_opens : {A B : Type 0} {DA DB OA OB : ℕ → Type 0} {r : Run A} {f : A → Run B} → ((n : ℕ) → DB n → OA n → ⊥) → Frames DA OA r → ((a : A) → Frames DB OB (f a)) → Frames (λ n. DA n ⊎ DB n) (λ n. OA n ⊎ OB n) (and_then r f)
  then_opens {r = r} {f = f} apart h next = record {
    by = λ s dead. then_framed s.store (r s) f (λ n o. inl o) (λ n o. inr o) (λ n d. inr d) apart dead (h.by s (λ n d. dead n (inl d))) next;
  }

  -- where the first opens nothing
  pub then_frames : {A B : Type 0} {D O : ℕ → Type 0} {r : Run A} {f : A → Run B} → Frames D NoObject r → ((a : A) → Frames D O (f a)) → Frames D O (and_then r f)
  then_frames {r = r} {f = f} h next = record { by = λ s dead. then_framed s.store (r s) f (λ n o. absurd o) (λ n o. o) (λ n d. d) (λ n d o. o) dead (h.by s dead) next }

  pub fewer_frames : {A : Type 0} {D DB O OB : ℕ → Type 0} {r : Run A} → ((n : ℕ) → D n → DB n) → ((n : ℕ) → O n → OB n) → Frames D O r → Frames DB OB r
  fewer_frames {A = A} {O = O} {OB = OB} {r = r} dead opened h = record { by = λ s d. wider s.store (r s) (h.by s (λ n x. d n (dead n x))) }
    where
      wider : (st : Store) (x : Result A) → FramedAt O st x → FramedAt OB st x
      wider st (Go a s) f = record { long = f.long; wide = f.wide; same = f.same; live = λ n out. f.live n (λ o. out (opened n o)) }
      wider st (Halt e s) f = tt

  -- where no object need be dead, and none is opened
  abbrev pub Stays : {A : Type 0} → Run A → Type 0
  Stays r = Frames NoObject NoObject r

  pub stays : {A : Type 0} {D O : ℕ → Type 0} {r : Run A} → Stays r → Frames D O r
  stays h = fewer_frames (λ n d. absurd d) (λ n o. absurd o) h

  pub done_frames : {A : Type 0} {D O : ℕ → Type 0} (a : A) → Frames D O (done a)
  done_frames {O = O} a = record { by = λ s d. frame_refl Changed O s.store }

  pub over_frames : {A : Type 0} {D O : ℕ → Type 0} (e : End) → Frames D O (over {A = A} e)
  over_frames e = record { by = λ s d. tt }

  pub either_frames : {A : Type 0} {D O : ℕ → Type 0} (b : Bool) {x y : Run A} → Frames D O x → Frames D O y → Frames D O (either b x y)
  either_frames true h k = record { by = λ s d. h.by s d }
  either_frames false h k = record { by = λ s d. k.by s d }

  pub choose_frames : {D O : ℕ → Type 0} → Frames D O choose
  choose_frames {O = O} = record { by = λ s d. at_choices s s.choices }
    where
      at_choices : (s : State) (cs : List ℤ) → FramedAt O s.store (take_choice cs s)
      at_choices s [] = tt
      at_choices s (c ∷ cs) = frame_refl Changed O s.store

  pub read_frames : {D O : ℕ → Type 0} (a : Address) → Frames D O (read a)
  read_frames {O = O} a = record { by = λ s d. frame_refl Changed O s.store }

  pub write_frames : {D O : ℕ → Type 0} (a : Address) (v : CellValue) → Changed a.object → Frames D O (write a v)
  write_frames a v h = record { by = λ s d. written s.store }
    where
      written : {O : ℕ → Type 0} (st : Store) → Frame Changed O st (set_number st a.object (record (object_at st a.object) { cells = slice_set (object_at st a.object).cells a.offset v }))
      written st = record {
        long = sym (length_set st a.object _);
        wide = at_set (λ n x. length (object_at st n).cells ≡ length x.cells) st a.object _ (sym (length-set (object_at st a.object).cells a.offset v)) (λ n. refl);
        same = at_set (λ n x. (Changed n → ⊥) → (object_at st n).cells ≡ x.cells) st a.object _ (λ out. absurd (out h)) (λ n out. refl);
        live = λ n out. at_set (λ n x. (object_at st n).live ≡ x.live) st a.object _ refl (λ n. refl) n;
      }

  lives : {O : ℕ → Type 0} (st : Store) (m : ℕ) (live : Bool) → O m → Frame Changed O st (with_live st m live)
  lives {O} st m live h = record {
    long = sym (length_set st m _);
    wide = at_set (λ n x. length (object_at st n).cells ≡ length x.cells) st m _ refl (λ n. refl);
    same = λ n out. at_set (λ n x. (object_at st n).cells ≡ x.cells) st m _ refl (λ n. refl) n;
    live = at_set (λ n x. (O n → ⊥) → (object_at st n).live ≡ x.live) st m _ (λ out. absurd (out h)) (λ n out. refl);
  }

  pub enliven_frames : {D O : ℕ → Type 0} (m : ℕ) → O m → Frames D O (enliven m)
  enliven_frames m h = record { by = λ s d. lives s.store m true h }

  pub check_frames : {D O : ℕ → Type 0} (c : ℕ) (ok : Bool) → Frames D O (check true c ok)
  check_frames {O = O} c ok = record { by = λ s d. by_test (c == 0 || ok) s }
    where
      by_test : (ok : Bool) (s : State) → FramedAt O s.store (demand true (Over (Broken c)) ok s)
      by_test true s = frame_refl Changed O s.store
      by_test false s = tt
