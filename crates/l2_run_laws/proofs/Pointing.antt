-- Runs keep pointers in their objects' sets, where what is written is in them.
use Rattle.std.proofs.Common.{ℕ, zero, suc, pos, Bool, true, false, List, [], ◌∷◌}
use Rattle.std.specs.Prelude.{slice_index_or, slice_set}
use Rattle.l2_runs.specs.declared.cells.CellValue.{CellValue}
use Rattle.l2_runs.specs.declared.cells.CellValue.TheVariants.{Number}
use Rattle.l2_runs.specs.declared.member.Member.{Member}
use Rattle.l2_runs.specs.Store.{Store, Address, object_at, with_live}
use Rattle.l2_runs.specs.Fits.{Layout, StoreFits}
use Rattle.l2_runs.specs.Members.{targets, Within}
use Rattle.l2_runs.specs.Runs.{Result, Go, Halt, Run, read, write, enliven, bury, bury_all}
use Rattle.l2_runs.specs.Keeps.{ResultFits, Keeps}
use Rattle.l2_run_laws.specs.Watches.{CellsIn, InSets}
use Rattle.l2_run_laws.proofs.Kept.{KeptAt, Kept, Always, then_kept, done_kept}
use Rattle.l2_run_laws.proofs.Frames.{at_set}

pub cells_within : (a b : Member → Bool) (vs : List CellValue) → Within a b → CellsIn a vs → CellsIn b vs
cells_within a b [] w h = tt
cells_within a b (v ∷ vs) w h = (λ m t. w m (h.0 m t), cells_within a b vs w h.1)

in_set : (set : Member → Bool) (vs : List CellValue) (f : ℕ) (v : CellValue) → Within (targets v) set → CellsIn set vs → CellsIn set (slice_set vs f v)
in_set set [] f v w h = tt
in_set set (x ∷ xs) zero v w h = (w, h.1)
in_set set (x ∷ xs) (suc f) v w h = (h.0, in_set set xs f v w h.1)

in_index : (set : Member → Bool) (vs : List CellValue) (f : ℕ) → CellsIn set vs → Within (targets (slice_index_or vs f (Number (pos 0)))) set
in_index set [] f h = λ m t. cc
in_index set (x ∷ xs) zero h = h.0
in_index set (x ∷ xs) (suc f) h = in_index set xs f h.1

module _ (sets : ℕ → Member → Bool) where
  abbrev pub Inside : {A : Type 0} → (A → Type 0) → Run A → Type 0
  Inside P r = Kept (InSets sets) (InSets sets) P r

  pub read_inside : (a : Address) → Inside (λ v. Within (targets v) (sets a.object)) (read a)
  read_inside a = record { by = λ s h. (in_index (sets a.object) (object_at s.store a.object).cells a.offset (h.cells a.object), h) }

  pub write_inside : (a : Address) (v : CellValue) → Within (targets v) (sets a.object) → Inside Always (write a v)
  write_inside a v w = record {
    by = λ s h. (
      tt,
      record {
        cells = at_set (λ k x. CellsIn (sets k) x.cells) s.store a.object (record (object_at s.store a.object) { cells = slice_set (object_at s.store a.object).cells a.offset v })
            (in_set (sets a.object) (object_at s.store a.object).cells a.offset v w (h.cells a.object)) h.cells;
      },
    );
  }

  lives : (st : Store) (m : ℕ) (live : Bool) → InSets sets st → InSets sets (with_live st m live)
  lives st m live h = record { cells = at_set (λ k x. CellsIn (sets k) x.cells) st m (record (object_at st m) { live = live }) (h.cells m) h.cells }

  pub enliven_inside : (m : ℕ) → Inside Always (enliven m)
  enliven_inside m = record { by = λ s h. (tt, lives s.store m true h) }

  pub bury_inside : (ms : List ℕ) → Inside Always (bury_all ms)
  bury_inside [] = done_kept tt tt
  bury_inside (m ∷ ms) = then_kept {P = Always} {r = bury m} (record { by = λ s h. (tt, lives s.store m false h) }) (λ u p. bury_inside ms)

  -- ---- types and sets

  module _ (cells : Layout) where
    -- each cell holds a value of its type, and points to members of its object's set alone
    pub record IsSound (st : Store) : Type 0 where
      pub fits : StoreFits cells st
      pub inside : InSets sets st

    pub both : {A : Type 0} {IsCheck : ℕ → Type 0} {P Q : A → Type 0} {r : Run A} → Keeps cells IsCheck P r → Inside Q r → Kept IsSound IsSound (λ a. P a × Q a) r
    both {A = A} {IsCheck = IsCheck} {P = P} {Q = Q} {r = r} typed pointing = record { by = λ s h. pair (r s) (typed.by s h.fits) (pointing.by s h.inside) }
      where
        pair : (x : Result A) → ResultFits cells IsCheck P x → KeptAt (InSets sets) Q x → KeptAt IsSound (λ a. P a × Q a) x
        pair (Go a s) f k = ((f.0, k.0), record { fits = f.1; inside = k.1 })
        pair (Halt e s) f k = tt
