-- Points in which one loop's rows are set, and tests that keep their numbers.
use Rattle.std.proofs.Common.{◌≡◌, ℕ, zero, suc, ◌+◌, ◌≤◌, ◌<◌, Bool, List, [], ◌∷◌, ◌++◌, length, map, refl, sym, ap, slice_get, arith}
use Rattle.std.specs.Prelude.{slice_set, ◌&&◌}
use Rattle.std.specs.List.{list_all}
use Rattle.l2_runs.specs.declared.member.Member.{Member}
use Rattle.l2_runs.specs.Numbers.{set_number}
use Rattle.l2_runs.specs.Store.{Store}
use Rattle.l2_runs.specs.Loops.{Cut, Test, numbered}
use Rattle.l2_runs.specs.Back.{back}
use Rattle.l2_program.specs.Programs.{ProgramTree}
use Rattle.l2_templates.specs.declared.form.Row.{Row}
use Rattle.l2_templates.specs.declared.point.LoopPoint.{LoopPoint}
use Rattle.l2_templates.specs.declared.point.LoopPoint.TheVariants.{Bottom, Rows}
use Rattle.l2_templates.specs.Forms.{row_holds}
use Rattle.l2_meaning.specs.Execution.{cells_of}
use Rattle.l2_cuts.specs.Points.{or_bottom, point_at, row_test, starts, values_of}
use Rattle.l2_cuts.specs.Cuts.{mods_of, cut_limit}
use Rattle.l2_renumber_laws.specs.Renumbered.{AreRenumbered, nothing, same, extra, never, all_hold}

-- ---- one loop's rows are set

set_here : (q : List LoopPoint) (n : ℕ) (x : LoopPoint) (rows : List Row) → or_bottom (slice_get q n) ≡ Rows rows → or_bottom (slice_get (slice_set q n x) n) ≡ x
set_here [] n x rows e = absurd (no_rows e)
  where
    no_rows : Bottom ≡ Rows rows → ⊥
    no_rows e = cc
set_here (y ∷ q) zero x rows e = refl
set_here (y ∷ q) (suc n) x rows e = set_here q n x rows e

set_there : (q : List LoopPoint) (n m : ℕ) (x : LoopPoint) → (n ≡ m → ⊥) → or_bottom (slice_get (slice_set q n x) m) ≡ or_bottom (slice_get q m)
set_there [] n m x e = refl
set_there (y ∷ q) zero zero x e = absurd (e refl)
set_there (y ∷ q) zero (suc m) x e = refl
set_there (y ∷ q) (suc n) zero x e = refl
set_there (y ∷ q) (suc n) (suc m) x e = set_there q n m x (λ k. e (ap suc k))

pub point_here : (q : List LoopPoint) (l : ℕ) (x : LoopPoint) (rows : List Row) → point_at q l ≡ Rows rows → point_at (set_number q l x) l ≡ x
point_here q zero x rows e = absurd (no_rows e)
  where
    no_rows : Bottom ≡ Rows rows → ⊥
    no_rows e = cc
point_here q (suc n) x rows e = set_here q n x rows e

pub point_there : (q : List LoopPoint) (l m : ℕ) (x : LoopPoint) → (l ≡ m → ⊥) → point_at (set_number q l x) m ≡ point_at q m
point_there q zero m x e = refl
point_there q (suc n) zero x e = refl
point_there q (suc n) (suc m) x e = set_there q n m x (λ k. e (ap suc k))

-- ---- back starts

pub limit_same : (p : ProgramTree) (sets : ℕ → Member → Bool) (k : ℕ) (q q' : List LoopPoint) → ((l : ℕ) (st : Store) → starts q' l st ≡ starts q l st) → cut_limit p sets k q' ≡ cut_limit p sets k q
limit_same p sets k q q' e = ap (λ (s : ℕ → Store → Bool). Cut k (back (cells_of p) sets (mods_of p) s)) (λ i l st. e l st i)

-- ---- tests

-- rows hold together whatever their numbers are
pub rows_hold : (n : ℕ) (rows : List Row) (a b : Store) → all_hold (numbered n (map row_test rows)) a b ≡ list_all (λ row. row_holds row (values_of b)) rows
rows_hold n [] a b = refl
rows_hold n (r ∷ rows) a b = ap (λ t. row_holds r (values_of b) && t) (rows_hold (suc n) rows a b)

-- the same tests by the same numbers
pub identical : (number : ℕ → ℕ) → ((i : ℕ) → number i ≡ i) → (ts : List Test) → AreRenumbered number ts ts
identical number f [] = nothing
identical number f (t ∷ ts) = same (sym (f t.row)) (λ a b. refl) (identical number f ts)

-- the same tests by numbers one greater
pub shifted : (number : ℕ → ℕ) (hs : List (Store → Store → Bool)) (n : ℕ) → ((i : ℕ) → n ≤ i → i < n + length hs → number i ≡ suc i) → AreRenumbered number (numbered n hs) (numbered (suc n) hs)
shifted number [] n f = nothing
shifted number (h ∷ hs) n f = same (sym (f n (omega arith) (omega arith))) (λ a b. refl) (shifted number hs (suc n) (λ i l k. f i (omega (arith, l)) (omega (arith, k))))

-- tests and others behind them
pub appended : (number : ℕ → ℕ) (ts us ts' us' : List Test) → AreRenumbered number ts us → AreRenumbered number ts' us' → AreRenumbered number (ts ++ ts') (us ++ us')
appended number [] [] ts' us' nothing k = k
appended number (t ∷ ts) [] ts' us' h k = elim h [ ]
appended number (t ∷ ts) (u ∷ us) ts' us' (same row holds rest) k = same row holds (appended number ts us ts' us' rest k)
appended number ts (u ∷ us) ts' us' (extra holds rest) k = extra holds (appended number ts us ts' us' rest k)
appended number (t ∷ ts) (u ∷ us) ts' us' (never row first second) k = never row first second
