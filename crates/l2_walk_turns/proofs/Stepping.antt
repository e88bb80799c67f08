-- One step of the loops that merge objects, and their ends.
use Rattle.std.proofs.Common.{arith, ◌≡◌, ℕ, suc, ◌+◌, refl, sym, ap, ◌∙◌, List, [], ◌∷◌, ◌++◌}
use Rattle.std.proofs.lemmas.List.{append_assoc}
use Rattle.l2_bits.specs.Types.{bool_type}
use Rattle.l2_runs.specs.declared.cells.CellType.{CellType}
use Rattle.l2_runs.specs.declared.cells.CellType.TheVariants.{Integer}
use Rattle.l2_code.specs.declared.action.Operand.{Operand}
use Rattle.l2_ssa.specs.Walks.{Setting, Slot, Walk, same_operand, merged, merge_step, next_merge, merged_cells, merge_cells, merge_slots, merge_flags}
use Rattle.l2_walk_turns.specs.Labels.{cells_merged, flags_merged}
use Rattle.l2_walker.specs.Made.{State, setting, extended}
use Rattle.l2_walker.proofs.States.{extended_twice}
use Rattle.l2_walk_turns.proofs.Merging.{next_is}

pub no_flags : (n : ℕ) (xs : List Slot) → flags_merged n xs [] ≡ []
no_flags n [] = refl
no_flags n (x ∷ xs) = refl

pub no_flag_steps : (p h : Operand) (xs : List Slot) → merge_flags p h xs [] ≡ []
no_flag_steps p h [] = refl
no_flag_steps p h (x ∷ xs) = refl

pub no_objects : (g : Setting) (p h : Operand) (n o : ℕ) (xs : List Slot) → cells_merged g p h n o xs [] ≡ []
no_objects g p h n o [] = refl
no_objects g p h n o (x ∷ xs) = refl

pub no_object_steps : (g : Setting) (p h : Operand) (o : ℕ) (xs : List Slot) → merge_slots g p h o xs [] ≡ []
no_object_steps g p h o [] = refl
no_object_steps g p h o (x ∷ xs) = refl

pub none_brought : (n : ℕ) (ts : List CellType) (ys : List Operand) → merged_cells n ts [] ys ≡ []
none_brought n [] ys = refl
none_brought n (t ∷ ts) ys = refl

pub none_brought_steps : (p h : Operand) (ts : List CellType) (ys : List Operand) → merge_cells p h ts [] ys ≡ []
none_brought_steps p h [] ys = refl
none_brought_steps p h (t ∷ ts) ys = refl

pub none_own : (n : ℕ) (ts : List CellType) (xs : List Operand) → merged_cells n ts xs [] ≡ []
none_own n [] xs = refl
none_own n (t ∷ ts) [] = refl
none_own n (t ∷ ts) (x ∷ xs) = refl

pub none_own_steps : (p h : Operand) (ts : List CellType) (xs : List Operand) → merge_cells p h ts xs [] ≡ []
none_own_steps p h [] xs = refl
none_own_steps p h (t ∷ ts) [] = refl
none_own_steps p h (t ∷ ts) (x ∷ xs) = refl

-- a flag
pub flag_step : (s s1 : State) (F A : List Operand) (B : State) (W : Walk) (a p q h u v : Operand) (x y : Slot) (xs ys XS YS : List Slot)
    → (F ++ flags_merged s.names XS YS ≡ A) × (extended s (merge_flags p h XS YS) ≡ B) × (s.walk ≡ W)
    → XS ≡ x ∷ xs → YS ≡ y ∷ ys → u ≡ x.live → v ≡ y.live → q ≡ p
    → a ≡ merged (same_operand u v) s.names u → s1 ≡ extended s (merge_step (same_operand u v) q h (Integer bool_type) u v)
    → ((F ++ a ∷ []) ++ flags_merged s1.names xs ys ≡ A) × (extended s1 (merge_flags p h xs ys) ≡ B) × (s1.walk ≡ W)
flag_step s s1 F A B W a p q h u v x y xs ys XS YS inv dx dy eu ev eq value state = (
  append_assoc F (a ∷ []) (flags_merged s1.names xs ys)
      ∙ (λ i. F ++ (value ∙ (λ j. merged (same_operand (eu j) (ev j)) s.names (eu j))) i ∷ flags_merged (names i) xs ys)
      ∙ (λ i. F ++ flags_merged s.names (sym dx i) (sym dy i))
      ∙ inv.0,
  ap (λ t. extended t (merge_flags p h xs ys)) full
      ∙ sym (extended_twice s (merge_step (same_operand x.live y.live) p h (Integer bool_type) x.live y.live) (merge_flags p h xs ys))
      ∙ (λ i. extended s (merge_flags p h (sym dx i) (sym dy i)))
      ∙ inv.1,
  ap (λ t. t.walk) state ∙ inv.2,
)
  where
    full : s1 ≡ extended s (merge_step (same_operand x.live y.live) p h (Integer bool_type) x.live y.live)
    full = state ∙ (λ i. extended s (merge_step (same_operand (eu i) (ev i)) (eq i) h (Integer bool_type) (eu i) (ev i)))

    names : s1.names ≡ next_merge (same_operand x.live y.live) s.names
    names = ap (λ t. t.names) full ∙ next_is (same_operand x.live y.live) s.names p h (Integer bool_type) x.live y.live

-- a cell
pub cell_step : (s s1 : State) (F A : List Operand) (B : State) (W : Walk) (a p q h x y : Operand) (t : CellType) (ts TS : List CellType) (xs ys XS YS : List Operand)
    → (F ++ merged_cells s.names TS XS YS ≡ A) × (extended s (merge_cells p h TS XS YS) ≡ B) × (s.walk ≡ W)
    → TS ≡ t ∷ ts → XS ≡ x ∷ xs → YS ≡ y ∷ ys → q ≡ p
    → a ≡ merged (same_operand x y) s.names x → s1 ≡ extended s (merge_step (same_operand x y) q h t x y)
    → ((F ++ a ∷ []) ++ merged_cells s1.names ts xs ys ≡ A) × (extended s1 (merge_cells p h ts xs ys) ≡ B) × (s1.walk ≡ W)
cell_step s s1 F A B W a p q h x y t ts TS xs ys XS YS inv dt dx dy eq value state = (
  append_assoc F (a ∷ []) (merged_cells s1.names ts xs ys)
      ∙ (λ i. F ++ value i ∷ merged_cells (names i) ts xs ys)
      ∙ (λ i. F ++ merged_cells s.names (sym dt i) (sym dx i) (sym dy i))
      ∙ inv.0,
  ap (λ r. extended r (merge_cells p h ts xs ys)) full
      ∙ sym (extended_twice s (merge_step (same_operand x y) p h t x y) (merge_cells p h ts xs ys))
      ∙ (λ i. extended s (merge_cells p h (sym dt i) (sym dx i) (sym dy i)))
      ∙ inv.1,
  ap (λ r. r.walk) state ∙ inv.2,
)
  where
    full : s1 ≡ extended s (merge_step (same_operand x y) p h t x y)
    full = state ∙ (λ i. extended s (merge_step (same_operand x y) (eq i) h t x y))

    names : s1.names ≡ next_merge (same_operand x y) s.names
    names = ap (λ r. r.names) full ∙ next_is (same_operand x y) s.names p h t x y

-- the cells of an object
pub object_step : (g : Setting) (s s1 : State) (F A : List (List Operand)) (B : State) (W : Walk) (G : Setting) (a : List Operand) (p q h : Operand) (o : ℕ) (ts : List CellType) (us vs : List Operand) (x y : Slot) (xs ys XS YS : List Slot)
    → (F ++ cells_merged g p h s.names o XS YS ≡ A) × (extended s (merge_slots g p h o XS YS) ≡ B) × (s.walk ≡ W) × (setting s ≡ G)
    → XS ≡ x ∷ xs → YS ≡ y ∷ ys → ts ≡ g.types.objects o → us ≡ x.cells → vs ≡ y.cells → q ≡ p
    → a ≡ merged_cells s.names ts us vs → s1 ≡ extended s (merge_cells q h ts us vs)
    → ((F ++ a ∷ []) ++ cells_merged g p h s1.names (o + 1) xs ys ≡ A) × (extended s1 (merge_slots g p h (o + 1) xs ys) ≡ B) × (s1.walk ≡ W) × (setting s1 ≡ G)
object_step g s s1 F A B W G a p q h o ts us vs x y xs ys XS YS inv dx dy et eu ev eq value state = (
  append_assoc F (a ∷ []) (cells_merged g p h s1.names (o + 1) xs ys)
      ∙ (λ i. F ++ (value ∙ (λ j. merged_cells s.names (et j) (eu j) (ev j))) i ∷ cells_merged g p h (ap (λ r. r.names) full i) (one i) xs ys)
      ∙ (λ i. F ++ cells_merged g p h s.names o (sym dx i) (sym dy i))
      ∙ inv.0,
  (λ i. extended (full i) (merge_slots g p h (one i) xs ys))
      ∙ sym (extended_twice s (merge_cells p h (g.types.objects o) x.cells y.cells) (merge_slots g p h (suc o) xs ys))
      ∙ (λ i. extended s (merge_slots g p h o (sym dx i) (sym dy i)))
      ∙ inv.1,
  ap (λ r. r.walk) state ∙ inv.2,
  ap (λ r. setting r) state ∙ inv.3,
)
  where
    full : s1 ≡ extended s (merge_cells p h (g.types.objects o) x.cells y.cells)
    full = state ∙ (λ i. extended s (merge_cells (eq i) h (et i) (eu i) (ev i)))

    one : o + 1 ≡ suc o
    one = omega arith
