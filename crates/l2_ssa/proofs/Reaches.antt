-- Reads and writes through pointers.
use Rattle.std.proofs.Common.{arith, ◌≡◌, ◌⊎◌, inl, inr, ℕ, zero, suc, ◌+◌, ◌<◌, ◌≤◌, Bool, true, false, refl, sym, ap, ◌∙◌, subst, List, [], ◌∷◌, ◌++◌, Option, Some, None, IfSome, cond}
use Rattle.std.specs.Prelude.{◌&&◌, ◌==◌, pos, slice_get, slice_set, slice_index_or}
use Rattle.std.proofs.lemmas.Bool.{eqb-true, and_parts}
use Rattle.l2_runs.specs.declared.cells.CellType.{CellType}
use Rattle.l2_runs.specs.declared.cells.CellValue.{CellValue}
use Rattle.l2_runs.specs.declared.cells.CellValue.TheVariants.{Number, Null, Invalid, At}
use Rattle.l2_runs.specs.declared.member.Member.{Member}
use Rattle.l2_runs.specs.declared.member.Member.TheVariants as member
use Rattle.l2_runs.specs.Fits.{Layout}
use Rattle.l2_runs.specs.Store as runs
use Rattle.l2_runs.specs.Store.{Store, Object, Address, or_nothing, object_at}
use Rattle.l2_code.specs.declared.action.Operand.{Operand}
use Rattle.l2_code.specs.declared.action.Operand.TheVariants.{Temp}
use Rattle.l2_code.specs.Values.{operand_value, same_type, is_type, cell_of}
use Rattle.l2_code_laws.specs.Holding.{CellsHold, StoreHolds}
use Rattle.l2_code.specs.Sets.{Family}
use Rattle.l2_ssa.specs.Steps.{Pick, Names, on, Meaning, Holds, Solves, is_at}
use Rattle.l2_ssa.specs.Walks as walks
use Rattle.l2_ssa.specs.Walks.{Setting, Slot, Walk, Place, places_in, candidates, read_steps, write_steps, with_cell}
use Rattle.l2_ssa.proofs.Shows.{SlotsRead, Sized}
use Rattle.l2_ssa.proofs.Slots.{cell_reads, cell_writes, cell_stays, sized_cell}

-- ---- places

abbrev pub HasPlace : ℕ → ℕ → List Place → Type 0
HasPlace o f [] = ⊥
HasPlace o f (p ∷ ps) = ((p.object ≡ o) × (p.offset ≡ f)) ⊎ HasPlace o f ps

place_first : (o f : ℕ) (ps qs : List Place) → HasPlace o f ps → HasPlace o f (ps ++ qs)
place_first o f [] qs h = absurd h
place_first o f (p ∷ ps) qs (inl h) = inl h
place_first o f (p ∷ ps) qs (inr h) = inr (place_first o f ps qs h)

place_second : (o f : ℕ) (ps qs : List Place) → HasPlace o f qs → HasPlace o f (ps ++ qs)
place_second o f [] qs h = h
place_second o f (p ∷ ps) qs h = inr (place_second o f ps qs h)

place_next : (ty : CellType) (o f : ℕ) (b : Bool) (i : ℕ) (ps : List Place) → HasPlace o i ps → HasPlace o i (cond b (record { object = o; offset = f } ∷ ps) ps)
place_next ty o f true i ps h = inr h
place_next ty o f false i ps h = h

place_in : (ty : CellType) (o f : ℕ) (ts : List CellType) (i : ℕ) (u : CellType) → slice_get ts i ≡ Some u → same_type ty u ≡ true → HasPlace o (f + i) (places_in ty o f ts)
place_in ty o f [] i u e h = cc
place_in ty o f (t ∷ ts) zero u e h = here (same_type ty t) (subst (λ (x : CellType). same_type ty x ≡ true) (first e) h)
  where
    first : Some t ≡ Some u → u ≡ t
    first e = cc

    here : (b : Bool) → b ≡ true → HasPlace o (f + 0) (cond b (record { object = o; offset = f } ∷ places_in ty o (suc f) ts) (places_in ty o (suc f) ts))
    here true e = inl (refl, omega arith)
    here false e = cc
place_in ty o f (t ∷ ts) (suc i) u e h =
    place_next ty o f (same_type ty t) (f + suc i) (places_in ty o (suc f) ts)
    (subst (λ k. HasPlace o k (places_in ty o (suc f) ts)) (omega arith) (place_in ty o (suc f) ts i u e h))

module _ (g : Setting) (set : Member → Bool) (ty : CellType) (o f : ℕ) (u : CellType) (there : slice_get (g.types.objects o) f ≡ Some u) (like : same_type ty u ≡ true) (held : set (member.Object o) ≡ true) where
  own_places : (b : Bool) (qs : List Place) → b ≡ true → HasPlace o f ((cond b (places_in ty o 0 (g.types.objects o)) []) ++ qs)
  own_places true qs e = place_first o f (places_in ty o 0 (g.types.objects o)) qs (subst (λ k. HasPlace o k (places_in ty o 0 (g.types.objects o))) (omega arith) (place_in ty o 0 (g.types.objects o) f u there like))
  own_places false qs e = cc

  pub is_candidate : (o0 k : ℕ) → o0 ≤ o → o < o0 + k → HasPlace o f (candidates g set ty o0 k)
  is_candidate o0 zero h j = absurd (omega arith)
  is_candidate o0 (suc k) h j = go (o == o0) refl (λ a b. is_candidate (suc o0) k a b)
    where
      above : (o == o0) ≡ false → suc o0 ≤ o
      above p = grind arith

      go : (x : Bool) → (o == o0) ≡ x → (suc o0 ≤ o → o < suc o0 + k → HasPlace o f (candidates g set ty (suc o0) k)) → HasPlace o f (candidates g set ty o0 (suc k))
      go true q next = subst (λ z. HasPlace o f (candidates g set ty z (suc k))) (eqb-true o o0 q) (own_places (set (member.Object o)) (candidates g set ty (suc o) k) held)
      go false q next = place_second o f (cond (set (member.Object o0)) (places_in ty o0 0 (g.types.objects o0)) []) (candidates g set ty (suc o0) k) (next (above q) (omega arith))

-- a pointer points at this cell, whose type is like the one asked for
pub record Found (cells : Layout) (ty : CellType) (v : CellValue) (at : Address) : Type 0 where
  pub type : CellType
  pub there : slice_get (cells at.object) at.offset ≡ Some type
  pub same : same_type ty type ≡ true
  pub is : v ≡ At at.object at.offset

pub found : (cells : Layout) (ty : CellType) (v : CellValue) → IfSome (cell_of cells ty v) (Found cells ty v)
found cells ty (At o f) = go (slice_get (cells o) f) refl
  where
    pick : (u : CellType) → slice_get (cells o) f ≡ Some u → (t : Bool) → same_type ty u ≡ t → IfSome (cond t (Some (record { object = o; offset = f })) None) (Found cells ty (At o f))
    pick u e true s = record { type = u; there = e; same = s; is = refl }
    pick u e false s = tt

    go : (x : Option CellType) → slice_get (cells o) f ≡ x → IfSome (cond (is_type ty x) (Some (record { object = o; offset = f })) None) (Found cells ty (At o f))
    go None e = tt
    go (Some u) e = pick u e (same_type ty u) refl
found cells ty (Number z) = tt
found cells ty Null = tt
found cells ty Invalid = tt

-- ---- a cell that was written

there_set : (cells : Layout) (set : Member → Bool) (ts : List CellType) (vs : List CellValue) (i : ℕ) (u : CellType) (v d : CellValue) → slice_get ts i ≡ Some u → CellsHold cells set ts vs → slice_index_or (slice_set vs i v) i d ≡ v
there_set cells set [] vs i u v d e h = cc
there_set cells set (t ∷ ts) [] i u v d e h = absurd h
there_set cells set (t ∷ ts) (w ∷ vs) zero u v d e h = refl
there_set cells set (t ∷ ts) (w ∷ vs) (suc i) u v d e h = there_set cells set ts vs i u v d e h.1

no_cells : (cells : Layout) (set : Member → Bool) (ts : List CellType) (i : ℕ) (u : CellType) → slice_get ts i ≡ Some u → CellsHold cells set ts [] → ⊥
no_cells cells set [] i u e h = cc
no_cells cells set (t ∷ ts) i u e h = h

object_set : (st : Store) (i : ℕ) (x : Object) → ((or_nothing (slice_get st i)).cells ≡ [] → ⊥) → or_nothing (slice_get (slice_set st i x) i) ≡ x
object_set [] i x h = absurd (h refl)
object_set (o ∷ st) zero x h = refl
object_set (o ∷ st) (suc i) x h = object_set st i x h

number_set : (st : Store) (n : ℕ) (x : Object) → ((object_at st n).cells ≡ [] → ⊥) → object_at (Rattle.l2_runs.specs.Numbers.set_number st n x) n ≡ x
number_set st zero x h = absurd (h refl)
number_set st (suc i) x h = object_set st i x h

pub cell_set : (cells : Layout) (f : Family) (st : Store) (o i : ℕ) (u : CellType) (v : CellValue) → slice_get (cells o) i ≡ Some u → StoreHolds cells f st
    → runs.cell_at (runs.with_cell st (record { object = o; offset = i }) v) (record { object = o; offset = i }) ≡ v
cell_set cells f st o i u v e h =
    ap (λ (x : Object). slice_index_or x.cells i (Number (pos 0))) (number_set st o _ (λ z. no_cells cells (f.object o) (cells o) i u e (subst (CellsHold cells (f.object o) (cells o)) z (h.objects o))))
    ∙ there_set cells (f.object o) (cells o) (object_at st o).cells i u v (Number (pos 0)) e (h.objects o)

-- ---- steps

module _ (m : Meaning) (s : Names) (g : Setting) (a : Operand) (ty : CellType) (o f : ℕ) (at : operand_value s a ≡ At o f) where
  picked : (path : Operand) (n o' f' : ℕ) (x y : Operand) → on s path ≡ true → Holds m s n (Pick path a o' f' ty x y)
      → ((o' ≡ o) × (f' ≡ f) × (s n ≡ operand_value s x)) ⊎ ((((o' ≡ o) × (f' ≡ f)) → ⊥) × (s n ≡ operand_value s y))
  picked path n o' f' x y p h = go ((o == o') && (f == f')) refl (h p ∙ ap (λ v. cond (is_at o' f' v) (operand_value s x) (operand_value s y)) at)
    where
      go : (t : Bool) → ((o == o') && (f == f')) ≡ t → s n ≡ cond t (operand_value s x) (operand_value s y)
          → ((o' ≡ o) × (f' ≡ f) × (s n ≡ operand_value s x)) ⊎ ((((o' ≡ o) × (f' ≡ f)) → ⊥) × (s n ≡ operand_value s y))
      go true e q = let z = and_parts (o == o') (f == f') e in inl (sym (eqb-true o o' z.0), sym (eqb-true f f' z.1), q)
      go false e q = inr ((λ z. let r : ((o == o') && (f == f')) ≡ true = grind (arith, z.0, z.1) in cc), q)

  pub read_gives : (w : Walk) (c : CellValue) (ps : List Place) (v : Operand) (n : ℕ) → on s w.path ≡ true → operand_value s (walks.cell_at w.slots o f) ≡ c → Solves m s n (read_steps w a ty ps v n).steps
      → (operand_value s v ≡ c) ⊎ HasPlace o f ps → operand_value s (read_steps w a ty ps v n).value ≡ c
  read_gives w c [] v n p e ok (inl h) = h
  read_gives w c [] v n p e ok (inr h) = absurd h
  read_gives w c (x ∷ ps) v n p e ok h = go h (picked w.path n x.object x.offset (walks.cell_at w.slots x.object x.offset) v p ok.0) (λ k. read_gives w c ps (Temp n) (suc n) p e ok.1 k)
    where
      go : (operand_value s v ≡ c) ⊎ HasPlace o f (x ∷ ps)
          → ((x.object ≡ o) × (x.offset ≡ f) × (s n ≡ operand_value s (walks.cell_at w.slots x.object x.offset))) ⊎ ((((x.object ≡ o) × (x.offset ≡ f)) → ⊥) × (s n ≡ operand_value s v))
          → ((s n ≡ c) ⊎ HasPlace o f ps → operand_value s (read_steps w a ty ps (Temp n) (suc n)).value ≡ c)
          → operand_value s (read_steps w a ty (x ∷ ps) v n).value ≡ c
      go k (inl (eo, ef, q)) next = next (inl (q ∙ (λ i. operand_value s (walks.cell_at w.slots (eo i) (ef i))) ∙ e))
      go (inl k) (inr (d, q)) next = next (inl (q ∙ k))
      go (inr (inl k)) (inr (d, q)) next = absurd (d k)
      go (inr (inr k)) (inr (d, q)) next = next (inr k)

  module _ (x : Operand) (st : Store) (written : runs.cell_at (runs.with_cell st (record { object = o; offset = f }) (operand_value s x)) (record { object = o; offset = f }) ≡ operand_value s x) where
    abbrev pub after : Store
    after = runs.with_cell st (record { object = o; offset = f }) (operand_value s x)

    pub write_gives : (w : Walk) (ps : List Place) (n : ℕ) → on s w.path ≡ true → Solves m s n (write_steps a ty x ps n w).steps → (SlotsRead m s g w.slots st × HasPlace o f ps) ⊎ SlotsRead m s g w.slots after
        → SlotsRead m s g (write_steps a ty x ps n w).walk.slots after
    write_gives w [] n p ok (inl h) = absurd h.1
    write_gives w [] n p ok (inr h) = h
    write_gives w (q ∷ ps) n p ok h = go h (picked w.path n q.object q.offset x (walks.cell_at w.slots q.object q.offset) p ok.0) (λ k. write_gives (with_cell w q.object q.offset (Temp n)) ps (suc n) p ok.1 k)
      where
        go : (SlotsRead m s g w.slots st × HasPlace o f (q ∷ ps)) ⊎ SlotsRead m s g w.slots after
            → ((q.object ≡ o) × (q.offset ≡ f) × (s n ≡ operand_value s x)) ⊎ ((((q.object ≡ o) × (q.offset ≡ f)) → ⊥) × (s n ≡ operand_value s (walks.cell_at w.slots q.object q.offset)))
            → ((SlotsRead m s g (with_cell w q.object q.offset (Temp n)).slots st × HasPlace o f ps) ⊎ SlotsRead m s g (with_cell w q.object q.offset (Temp n)).slots after
            → SlotsRead m s g (write_steps a ty x ps (suc n) (with_cell w q.object q.offset (Temp n))).walk.slots after)
            → SlotsRead m s g (write_steps a ty x (q ∷ ps) n w).walk.slots after
        go (inl (r, k)) (inl (eo, ef, y)) next =
            next (inr (subst (λ z. SlotsRead m s g (with_cell w q.object q.offset (Temp n)).slots z) (λ i. runs.with_cell st (record { object = eo i; offset = ef i }) (operand_value s x)) (cell_writes m s g w st q.object q.offset (Temp n) (operand_value s x) r y)))
        go (inr r) (inl (eo, ef, y)) next =
            next (inr (cell_stays m s g w after q.object q.offset (Temp n) r (y ∙ sym written ∙ sym (λ i. runs.cell_at after (record { object = eo i; offset = ef i })))))
        go (inl (r, inl k)) (inr (d, y)) next = absurd (d k)
        go (inl (r, inr k)) (inr (d, y)) next = next (inl (cell_stays m s g w st q.object q.offset (Temp n) r (y ∙ cell_reads m s g w.slots st q.object q.offset r), k))
        go (inr r) (inr (d, y)) next = next (inr (cell_stays m s g w after q.object q.offset (Temp n) r (y ∙ cell_reads m s g w.slots after q.object q.offset r)))

pub write_sized : (m : Meaning) (s : Names) (g : Setting) (a : Operand) (ty : CellType) (x : Operand) (w : Walk) (ps : List Place) (n : ℕ) → Sized m s g 1 g.objects w.slots
    → Sized m s g 1 g.objects (write_steps a ty x ps n w).walk.slots
write_sized m s g a ty x w [] n h = h
write_sized m s g a ty x w (p ∷ ps) n h = write_sized m s g a ty x (with_cell w p.object p.offset (Temp n)) ps (suc n) (sized_cell m s g w p.object p.offset (Temp n) h)

pub write_path : (a : Operand) (ty : CellType) (x : Operand) (w : Walk) (ps : List Place) (n : ℕ) → (write_steps a ty x ps n w).walk.path ≡ w.path
write_path a ty x w [] n = refl
write_path a ty x w (p ∷ ps) n = write_path a ty x (with_cell w p.object p.offset (Temp n)) ps (suc n)

pub write_temps : (a : Operand) (ty : CellType) (x : Operand) (w : Walk) (ps : List Place) (n : ℕ) → (write_steps a ty x ps n w).walk.temps ≡ w.temps
write_temps a ty x w [] n = refl
write_temps a ty x w (p ∷ ps) n = write_temps a ty x (with_cell w p.object p.offset (Temp n)) ps (suc n)
