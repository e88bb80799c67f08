-- Instructions give typed steps.
use Rattle.std.proofs.Common.{◌≡◌, ℕ, zero, suc, ◌<◌, ◌≤◌, Bool, true, false, ◌==◌, if◌then◌else◌, cond, List, [], ◌∷◌, ◌++◌, length, Option, Some, None, refl, sym, subst, arith, slice_get}
use Rattle.std.proofs.lemmas.Bool.Decides.{nat_tests}
use Rattle.l2_bits.specs.declared.types.Ty.{Ty}
use Rattle.l2_bits.specs.Types.{bool_type, int_type, long_type}
use Rattle.l2_meaning.proofs.Numbers.{zero_value}
use Rattle.l2_runs.specs.declared.cells.CellType.{CellType}
use Rattle.l2_runs.specs.declared.cells.CellType.TheVariants.{Integer, Pointer}
use Rattle.l2_runs.specs.declared.cells.CellValue.TheVariants.{Number, Null, Invalid, At}
use Rattle.l2_runs.specs.declared.member.Member.{Member}
use Rattle.l2_runs.specs.declared.member.Member.TheVariants as member
use Rattle.l2_runs.specs.Numbers.{at_number}
use Rattle.l2_code.specs.declared.action.PointerOperator.TheVariants as pointers
use Rattle.l2_code.specs.declared.action.PointerOperator.{PointerOperator}
use Rattle.l2_code.specs.declared.action.Operand.{Operand}
use Rattle.l2_code.specs.declared.action.Operand.TheVariants.{Constant, Temp}
use Rattle.l2_code.specs.declared.action.Test.{Test}
use Rattle.l2_code.specs.declared.action.Test.TheVariants as test
use Rattle.l2_code.specs.declared.action.Computation.{Computation}
use Rattle.l2_code.specs.declared.action.Computation.TheVariants.{Numbers, Convert, Move, Pointers, Passes}
use Rattle.l2_code.specs.declared.action.Action.{Action}
use Rattle.l2_code.specs.declared.action.Action.TheVariants as action
use Rattle.l2_code.specs.declared.code.CodeObject.{CodeObject}
use Rattle.l2_code.specs.Trees.{CodeTree}
use Rattle.l2_code.specs.Sets.{Family, AreOver, HasCell, may_be}
use Rattle.l2_code.specs.Modes.{types_of, object_cells}
use Rattle.l2_code.specs.WellFormed as code
use Rattle.l2_code.specs.WellFormed.{Scope, Known, names_of, behind, truth_value, value_of, computation_gives, pointers_give, is_comparison, is_shift}
use Rattle.l2_ssa.specs.Steps.{Step, Flag}
use Rattle.l2_ssa.specs.Steps as steps
use Rattle.l2_ssa.specs.Walks as walks
use Rattle.l2_ssa.specs.Walks.{Setting, Walk, Frame, Block, Last, Early, Entry, Event, Slot, Place, Kind, past, F, now, slot_at, flags_of, compute_step, read_steps, read_at, write_steps, write_at, leave_steps, leave_path, candidates, zero_of, with_cell, set_of_test}
use Rattle.l2_ssa.specs.Law.{setting_of}
use Rattle.l2_blast.specs.Sorts as sorts_file
use Rattle.l2_blast.specs.Sorts.{Sort, Truth, Part, Cell, Sorts, sort_of, sort_of_operator, HasTruth, HasType, IsTruth, IsOf, IsSet, IsTyped, AreTyped, AreFlags, IsRight}
use Rattle.l2_typed_steps.specs.Direct.{IsDirectComputation, IsDirectAction, IsCellOf}
use Rattle.l2_typed_steps.specs.Law.{AreTruths}
use Rattle.l2_typed_steps.proofs.Operands.{IsKnown, AreKnown, of_now, truth_now, number_now, promoted_now}
use Rattle.l2_typed_steps.proofs.Places.{flag_truth, one_value, SlotsOk, ArePlaces, slot_at_ok, cell_ok, with_cell_ok, with_live_ok, candidates_ok, zero_ok, within}
use Rattle.l2_typed_steps.proofs.Scopes.{known_with}

-- the names from n on have the sorts of these steps
abbrev pub Named : Sorts → ℕ → List Step → Type 0
Named sorts n [] = Unit {0}
Named sorts n (x ∷ xs) = (sorts n ≡ sort_of x) × Named sorts (suc n) xs

pub named_app : (sorts : Sorts) (n : ℕ) (xs ys : List Step) → Named sorts n (xs ++ ys) → Named sorts n xs × Named sorts (past n xs) ys
named_app sorts n [] ys h = (tt, h)
named_app sorts n (x ∷ xs) ys h = let r = named_app sorts (suc n) xs ys h.1 in ((h.0, r.0), r.1)

pub has_cell : (x : Option CodeObject) → HasCell x → 0 < length (object_cells x)
has_cell None h = absurd h
has_cell (Some o) h = h

module _ (c : CodeTree) (f : Family) (over : AreOver c f) (small : (o : ℕ) → length ((types_of c).objects o) ≤ 65536) (sorts : Sorts) where
  abbrev cells : ℕ → List CellType
  cells = (types_of c).objects

  abbrev pub Typed : List Step → Type 0
  Typed xs = AreTyped (types_of c) sorts xs

  pub typed_app : (xs ys : List Step) → Typed xs → Typed ys → Typed (xs ++ ys)
  typed_app [] ys h k = k
  typed_app (x ∷ xs) ys h k = (h.0, typed_app xs ys h.1 k)

  pub truth_name : (n w : ℕ) → sorts n ≡ Truth w → IsTruth sorts (Temp n)
  truth_name n w e = subst HasTruth (sym e) tt

  pub cell_name : (n : ℕ) (ty : CellType) → sorts n ≡ Cell ty → IsOf cells sorts ty (Temp n)
  cell_name n ty e = subst (HasType ty) (sym e) refl

  pub record WalkOk (scope : Scope) (w : Walk) : Type 0 where
    pub path : IsTruth sorts w.path
    pub temps : AreKnown cells sorts scope w.temps
    pub slots : SlotsOk c sorts 1 w.slots

  abbrev pub FramesOk : List Frame → Type 0
  FramesOk [] = Unit {0}
  FramesOk (Block ∷ fs) = FramesOk fs
  FramesOk (Last ∷ fs) = FramesOk fs
  FramesOk (Early b ∷ fs) = IsTruth sorts b × FramesOk fs

  abbrev pub EntriesOk : List Entry → Type 0
  EntriesOk [] = Unit {0}
  EntriesOk (e ∷ es) = (IsTruth sorts e.path × SlotsOk c sorts 1 e.slots) × EntriesOk es

  pub record OutOk (scope : Scope) (o : walks.Out) : Type 0 where
    pub steps : Typed o.steps
    pub after : WalkOk scope o.after
    pub entries : EntriesOk o.entries
    pub events : AreTruths sorts o.events

  pub entries_app : (es ds : List Entry) → EntriesOk es → EntriesOk ds → EntriesOk (es ++ ds)
  entries_app [] ds h k = k
  entries_app (e ∷ es) ds h k = (h.0, entries_app es ds h.1 k)

  pub events_app : (es ds : List Event) → AreTruths sorts es → AreTruths sorts ds → AreTruths sorts (es ++ ds)
  events_app [] ds h k = k
  events_app (e ∷ es) ds h k = (h.0, events_app es ds h.1 k)

  -- one walk, and then another
  pub joined_ok : (given : walks.Given) (scope more : Scope) (o p : walks.Out) → OutOk scope o → OutOk more p → OutOk more (walks.joined given o p)
  joined_ok given scope more o p h k = record {
    steps = typed_app o.steps p.steps h.steps k.steps;
    after = k.after;
    entries = entries_app o.entries p.entries h.entries k.entries;
    events = events_app o.events p.events h.events k.events;
  }

  -- ---- sets

  no_members : IsSet cells (λ m. false)
  no_members o e = absurd (cc e)

  target_cells : (p o : ℕ) → 0 < length (cells p) → (p == o) ≡ true → 0 < length (cells o)
  target_cells p o h e = let same : p ≡ o = grind (arith, nat_tests) in subst (λ n. 0 < length (cells n)) same h

  pub set_ok : (scope : Scope) (a : Operand) → code.IsOperand cells scope Pointer a → IsSet cells (may_be f a)
  set_ok scope (Constant (Number z)) h = λ o e. absurd h
  set_ok scope (Constant Null) h = λ o e. absurd (cc e)
  set_ok scope (Constant Invalid) h = λ o e. absurd (cc e)
  set_ok scope (Constant (At p g)) h = λ o e. target_cells p o h.0 e
  set_ok scope (Temp t) h = λ o e. has_cell (at_number c.objects o) (over.temps t o e)

  pub object_set : (n : ℕ) → IsSet cells (f.object n)
  object_set n o e = has_cell (at_number c.objects o) (over.objects n o e)

  flag_first : (o : ℕ) (b : Bool) (xs : List Slot) (rest : List Flag) → (b ≡ true → 0 < length (cells o)) → SlotsOk c sorts 1 xs → AreFlags cells sorts rest
      → AreFlags cells sorts ((cond b (record { object = o; live = (slot_at xs o).live } ∷ []) []) ++ rest)
  flag_first o true xs rest s h k = (s refl, flag_truth cells sorts (slot_at xs o).live (slot_at_ok c sorts xs o h).live, k)
  flag_first o false xs rest s h k = k

  flags_ok : (set : Member → Bool) → IsSet cells set → (xs : List Slot) (o more : ℕ) → SlotsOk c sorts 1 xs → AreFlags cells sorts (flags_of set xs o more)
  flags_ok set s xs o zero h = tt
  flags_ok set s xs o (suc more) h = flag_first o (set (member.Object o)) xs (flags_of set xs (suc o) more) (s o) h (flags_ok set s xs (suc o) more h)

  -- ---- computations

  module _ (k : ℕ) (kind : ℕ → Kind) (ranks : Bool) (scope : Scope) (w : Walk) (ok : WalkOk scope w) where
    abbrev g : Setting
    g = setting_of c f k kind ranks

    of : (ty : CellType) (a : Operand) → code.IsOperand cells scope ty a → IsOf cells sorts ty (now w a)
    of ty a h = of_now cells sorts scope w ty a ok.temps h

    amount : (s : Bool) (ty : Ty) (b : Operand) → code.IsAmount s cells scope ty b → IsRight s cells sorts ty (now w b)
    amount true ty b h = promoted_now cells sorts scope w b ok.temps h
    amount false ty b h = of (Integer ty) b h

    -- where no left shift is tested
    plain_amount : (s : Bool) (ty : Ty) (b : Operand) → s ≡ false → code.IsAmount s cells scope ty b → IsOf cells sorts (Integer ty) (now w b)
    plain_amount true ty b e h = absurd (cc e)
    plain_amount false ty b e h = of (Integer ty) b h

    test_ok : (t : Test) → code.IsTypedTest (names_of c) scope t → IsDirectComputation (Passes t) → IsTyped (types_of c) sorts (compute_step g w (Passes t))
    test_ok (test.Division ty a b) h d = (ok.path, (of (Integer ty) a h.0, of (Integer ty) b h.1), no_members)
    test_ok (test.Shift ty b) h d = (ok.path, promoted_now cells sorts scope w b ok.temps h, no_members)
    test_ok (test.Overflow op ty a b) h d = (ok.path, (d, h.2, of (Integer ty) a h.0, plain_amount (code.is_left_shift op) ty b d h.1), no_members)
    test_ok (test.Index n a) h d = (ok.path, (h.0, promoted_now cells sorts scope w a ok.temps h.1), no_members)
    test_ok (test.IndexEnd n a) h d = (ok.path, (h.0, promoted_now cells sorts scope w a ok.temps h.1), no_members)
    test_ok (test.Null a) h d = (ok.path, of Pointer a h, set_ok scope a h)
    test_ok (test.Invalid a) h d = (ok.path, of Pointer a h, set_ok scope a h)
    test_ok (test.Live a) h d = (ok.path, of Pointer a h, flags_ok (may_be f a) (set_ok scope a h) w.slots 1 (length c.objects) ok.slots)
    test_ok (test.Cells x a) h d = (ok.path, (h.0, of Pointer a h.1), set_ok scope a h.1)
    test_ok (test.Move by a b) h d = (ok.path, (h.0, of Pointer a h.1, number_now cells sorts scope w b ok.temps h.2), set_ok scope a h.1)
    test_ok (test.Same a b) h d = (ok.path, (of Pointer a h.0, of Pointer b h.1), set_ok scope a h.0)

    pub computation_ok : (x : Computation) → code.IsTypedComputation (names_of c) scope x → IsDirectComputation x → IsTyped (types_of c) sorts (compute_step g w x)
    computation_ok (Numbers op ty a b) h d = (ok.path, (of (Integer ty) a h.0, amount (is_shift op) ty b h.1), no_members)
    computation_ok (Convert ty a) h d = (ok.path, number_now cells sorts scope w a ok.temps h, no_members)
    computation_ok (Move by a b) h d = (ok.path, (h.0, of Pointer a h.1, number_now cells sorts scope w b ok.temps h.2), set_ok scope a h.1)
    computation_ok (Pointers op a b) h d = (ok.path, (of Pointer a h.0, of Pointer b h.1), no_members)
    computation_ok (Passes t) h d = test_ok t h d

    truth_known : (n : ℕ) → sorts n ≡ Truth 32 → IsKnown cells sorts truth_value (Temp n)
    truth_known n e = record { of = subst (HasType (Integer int_type)) (sym e) (refl, refl); truth = λ x. truth_name n 32 e }

    value_known : (n : ℕ) (ty : CellType) → sorts n ≡ Cell ty → IsKnown cells sorts (value_of ty) (Temp n)
    value_known n ty e = record { of = cell_name n ty e; truth = λ x. absurd (cc x) }

    operator_known : (n : ℕ) (b : Bool) (ty : Ty) → sorts n ≡ (if b then Truth 32 else Cell (Integer ty)) → IsKnown cells sorts (if b then truth_value else value_of (Integer ty)) (Temp n)
    operator_known n true ty e = truth_known n e
    operator_known n false ty e = value_known n (Integer ty) e

    pointers_known : (n : ℕ) (op : PointerOperator) → sorts n ≡ sorts_file.sort_of_pointers op → IsKnown cells sorts (pointers_give op) (Temp n)
    pointers_known n pointers.Diff e = value_known n (Integer long_type) e
    pointers_known n pointers.Eq e = truth_known n e
    pointers_known n pointers.Ne e = truth_known n e
    pointers_known n pointers.Lt e = truth_known n e
    pointers_known n pointers.Le e = truth_known n e

    test_known : (n : ℕ) (t : Test) → sorts n ≡ sort_of (compute_step g w (Passes t)) → IsKnown cells sorts truth_value (Temp n)
    test_known n (test.Division ty a b) e = truth_known n e
    test_known n (test.Shift ty b) e = truth_known n e
    test_known n (test.Overflow op ty a b) e = truth_known n e
    test_known n (test.Index l a) e = truth_known n e
    test_known n (test.IndexEnd l a) e = truth_known n e
    test_known n (test.Null a) e = truth_known n e
    test_known n (test.Invalid a) e = truth_known n e
    test_known n (test.Live a) e = truth_known n e
    test_known n (test.Cells x a) e = truth_known n e
    test_known n (test.Move by a b) e = truth_known n e
    test_known n (test.Same a b) e = truth_known n e

    pub result_known : (n : ℕ) (x : Computation) → sorts n ≡ sort_of (compute_step g w x) → IsKnown cells sorts (computation_gives x) (Temp n)
    result_known n (Numbers op ty a b) e = operator_known n (is_comparison op) ty e
    result_known n (Convert ty a) e = value_known n (Integer ty) e
    result_known n (Move by a b) e = value_known n Pointer e
    result_known n (Pointers op a b) e = pointers_known n op e
    result_known n (Passes t) e = test_known n t e

  -- ---- reads and writes

  place_small : (ty : CellType) (p : Place) → slice_get (cells p.object) p.offset ≡ Some ty → (0 < length (cells p.object)) × (p.offset < 131072)
  place_small ty p h =
      let l : p.offset < length (cells p.object) = within (cells p.object) p.offset ty h in
      let s : length (cells p.object) ≤ 65536 = small p.object in
      (omega (arith, l), omega (arith, l, s))

  read_ok : (w : Walk) (a : Operand) (ty : CellType) (ps : List Place) (v : Operand) (n : ℕ) → IsTruth sorts w.path → SlotsOk c sorts 1 w.slots → IsOf cells sorts Pointer a → ArePlaces c sorts ty ps → IsOf cells sorts ty v
      → Named sorts n (read_steps w a ty ps v n).steps → Typed (read_steps w a ty ps v n).steps × IsOf cells sorts ty (read_steps w a ty ps v n).value
  read_ok w a ty [] v n hp hs ha ps hv named = (tt, hv)
  read_ok w a ty (p ∷ ps) v n hp hs ha places hv named =
      let s = place_small ty p places.0 in
      let r = read_ok w a ty ps (Temp n) (suc n) hp hs ha places.1 (cell_name n ty named.0) named.1 in
      (((hp, ha, s.0, s.1, cell_ok c sorts w.slots p.object p.offset ty hs places.0, hv), r.0), r.1)

  write_ok : (a : Operand) (ty : CellType) (x : Operand) (ps : List Place) (n : ℕ) (scope : Scope) (w : Walk) → WalkOk scope w → IsOf cells sorts Pointer a → ArePlaces c sorts ty ps → IsOf cells sorts ty x
      → Named sorts n (write_steps a ty x ps n w).steps → Typed (write_steps a ty x ps n w).steps × WalkOk scope (write_steps a ty x ps n w).walk
  write_ok a ty x [] n scope w h ha ps hx named = (tt, h)
  write_ok a ty x (p ∷ ps) n scope w h ha places hx named =
      let s = place_small ty p places.0 in
      let next : WalkOk scope (with_cell w p.object p.offset (Temp n)) = record { path = h.path; temps = h.temps; slots = with_cell_ok c sorts w p.object p.offset ty (Temp n) h.slots places.0 (cell_name n ty named.0) } in
      let r = write_ok a ty x ps (suc n) scope (with_cell w p.object p.offset (Temp n)) next ha places.1 hx named.1 in
      (((h.path, ha, s.0, s.1, hx, cell_ok c sorts w.slots p.object p.offset ty h.slots places.0), r.0), r.1)

  leave_ok : (fs : List Frame) (d : ℕ) (p : Operand) (n : ℕ) → FramesOk fs → IsTruth sorts p → Named sorts n (leave_steps fs d p n) → Typed (leave_steps fs d p n) × IsTruth sorts (leave_path fs d p n)
  leave_ok [] d p n h k named = (tt, k)
  leave_ok (Last ∷ fs) d p n h k named = leave_ok fs d p n h k named
  leave_ok (Early b ∷ fs) d p n h k named = let r = leave_ok fs d (Temp n) (suc n) h.1 (truth_name n 1 named.0) named.1 in (((k, h.0), r.0), r.1)
  leave_ok (Block ∷ fs) zero p n h k named = (tt, k)
  leave_ok (Block ∷ fs) (suc d) p n h k named = leave_ok fs d p n h k named

  pub with_path_ok : (scope : Scope) (w : Walk) (p : Operand) → WalkOk scope w → IsTruth sorts p → WalkOk scope (walks.with_path w p)
  with_path_ok scope w p h k = record { path = k; temps = h.temps; slots = h.slots }

  check_ok : (rk : Bool) (k : ℕ) (d a : Operand) (n : ℕ) (scope : Scope) (w : Walk) → WalkOk scope w → IsTruth sorts d → IsTruth sorts a → Named sorts n (walks.on_check rk k d a n w).steps → OutOk scope (walks.on_check rk k d a n w)
  check_ok true k d a n scope w h hd ha named = record { steps = ((h.path, ha), tt); after = with_path_ok scope w (Temp n) h (truth_name n 1 named.0); entries = tt; events = tt }
  check_ok false k d a n scope w h hd ha named =
      let t0 = truth_name n 1 named.0 in
      let t1 = truth_name (suc n) 1 named.1.0 in
      let t2 = truth_name (suc (suc n)) 1 named.1.1.0 in
      record { steps = ((h.path, hd), ((t0, ha), ((h.path, ha), tt))); after = with_path_ok scope w (Temp (suc (suc n))) h t2; entries = tt; events = (t1, tt) }

  unless_ok : (fs : List Frame) (d : ℕ) (a : Operand) (n : ℕ) (scope : Scope) (w : Walk) → WalkOk scope w → FramesOk fs → IsTruth sorts a → Named sorts n (walks.on_unless fs d a n w).steps → OutOk scope (walks.on_unless fs d a n w)
  unless_ok fs d a n scope w h hf ha named =
      let xs = leave_steps fs d (Temp n) (suc n) in
      let nm = named_app sorts (suc n) xs (steps.Both w.path a ∷ []) named.1 in
      let r = leave_ok fs d (Temp n) (suc n) hf (truth_name n 1 named.0) nm.0 in
      record {
        steps = ((h.path, ha), typed_app xs (steps.Both w.path a ∷ []) r.0 ((h.path, ha), tt));
        after = with_path_ok scope w (Temp (past (suc n) xs)) h (truth_name (past (suc n) xs) 1 nm.1.0);
        entries = ((r.1, h.slots), tt);
        events = tt;
      }

  goto_ok : (fs : List Frame) (d n : ℕ) (scope : Scope) (w : Walk) → WalkOk scope w → FramesOk fs → Named sorts n (walks.on_goto fs d n w).steps → OutOk scope (walks.on_goto fs d n w)
  goto_ok fs d n scope w h hf named =
      let r = leave_ok fs d w.path n hf h.path named in
      record { steps = r.0; after = with_path_ok scope w F h tt; entries = ((r.1, h.slots), tt); events = tt }

  module _ (k : ℕ) (kind : ℕ → Kind) (ranks : Bool) where
    abbrev s : Setting
    s = setting_of c f k kind ranks

    read_at_ok : (scope : Scope) (w : Walk) (ty : CellType) (a : Operand) (n : ℕ) → WalkOk scope w → code.IsOperand cells scope Pointer a → IsCellOf cells ty a → Named sorts n (read_at s w ty a n).steps
        → Typed (read_at s w ty a n).steps × IsOf cells sorts ty (read_at s w ty a n).value
    read_at_ok scope w ty (Constant (At o i)) n h ha d named = (tt, cell_ok c sorts w.slots o i ty h.slots d)
    read_at_ok scope w ty (Constant (Number z)) n h ha d named = (tt, zero_ok c sorts ty)
    read_at_ok scope w ty (Constant Null) n h ha d named = (tt, zero_ok c sorts ty)
    read_at_ok scope w ty (Constant Invalid) n h ha d named = (tt, zero_ok c sorts ty)
    read_at_ok scope w ty (Temp t) n h ha d named =
        read_ok w (w.temps t) ty (candidates s (f.temp t) ty 1 (length c.objects)) (zero_of ty) n h.path h.slots (of_now cells sorts scope w Pointer (Temp t) h.temps ha) (candidates_ok c sorts s refl (f.temp t) ty 1 (length c.objects)) (zero_ok c sorts ty) named

    write_at_ok : (scope : Scope) (w : Walk) (ty : CellType) (a x : Operand) (n : ℕ) → WalkOk scope w → code.IsOperand cells scope Pointer a → IsCellOf cells ty a → IsOf cells sorts ty x → Named sorts n (write_at s w ty a x n).steps
        → Typed (write_at s w ty a x n).steps × WalkOk scope (write_at s w ty a x n).walk
    write_at_ok scope w ty (Constant (At o i)) x n h ha d hx named = (tt, record { path = h.path; temps = h.temps; slots = with_cell_ok c sorts w o i ty x h.slots d hx })
    write_at_ok scope w ty (Constant (Number z)) x n h ha d hx named = (tt, h)
    write_at_ok scope w ty (Constant Null) x n h ha d hx named = (tt, h)
    write_at_ok scope w ty (Constant Invalid) x n h ha d hx named = (tt, h)
    write_at_ok scope w ty (Temp t) x n h ha d hx named =
        write_ok (w.temps t) ty x (candidates s (f.temp t) ty 1 (length c.objects)) n scope w h (of_now cells sorts scope w Pointer (Temp t) h.temps ha) (candidates_ok c sorts s refl (f.temp t) ty 1 (length c.objects)) hx named

    computed : (scope : Scope) (w : Walk) (t : ℕ) (known : Known) (a : Operand) → WalkOk scope w → IsKnown cells sorts known a → WalkOk (code.with_known scope t known) (walks.with_temp w t a)
    computed scope w t known a h ha = record { path = h.path; temps = known_with cells sorts scope w.temps t known a h.temps ha; slots = h.slots }

    of_value : (ty : CellType) (a : Operand) → IsOf cells sorts ty a → IsKnown cells sorts (value_of ty) a
    of_value ty a h = record { of = h; truth = λ x. absurd (cc x) }

    pub act_ok : (fs : List Frame) (d : Operand) (n : ℕ) (scope : Scope) (w : Walk) (x : Action) → code.IsTypedAction (names_of c) scope x → IsDirectAction cells x → WalkOk scope w → FramesOk fs → IsTruth sorts d
        → Named sorts n (walks.walk_action s fs d n w x).steps → OutOk (behind scope x) (walks.walk_action s fs d n w x)
    act_ok fs d n scope w (action.Compute t x) ty di h hf hd named = record {
      steps = (computation_ok k kind ranks scope w h x ty di, tt);
      after = computed scope w t (computation_gives x) (Temp n) h (result_known k kind ranks scope w h n x named.0);
      entries = tt;
      events = tt;
    }
    act_ok fs d n scope w (action.Read t ty a) typed di h hf hd named =
        let r = read_at_ok scope w ty a n h typed di named in
        record { steps = r.0; after = computed scope w t (value_of ty) (read_at s w ty a n).value h (of_value ty (read_at s w ty a n).value r.1); entries = tt; events = tt }
    act_ok fs d n scope w (action.Write ty a x) typed di h hf hd named =
        let r = write_at_ok scope w ty a (now w x) n h typed.0 di (of_now cells sorts scope w ty x h.temps typed.1) named in
        record { steps = r.0; after = r.1; entries = tt; events = tt }
    act_ok fs d n scope w (action.Choice t ty) typed di h hf hd named =
        record { steps = (h.path, tt); after = computed scope w t (value_of (Integer ty)) (Temp n) h (of_value (Integer ty) (Temp n) (cell_name n (Integer ty) named.0)); entries = tt; events = tt }
    act_ok fs d n scope w (action.Assume a) typed di h hf hd named =
        record { steps = ((h.path, truth_now cells sorts scope w a h.temps typed), tt); after = with_path_ok scope w (Temp n) h (truth_name n 1 named.0); entries = tt; events = tt }
    act_ok fs d n scope w (action.Check i a) typed di h hf hd named = check_ok ranks i d (now w a) n scope w h hd (truth_now cells sorts scope w a h.temps typed.1) named
    act_ok fs d n scope w (action.Unless a i) typed di h hf hd named = unless_ok fs i (now w a) n scope w h hf (truth_now cells sorts scope w a h.temps typed) named
    act_ok fs d n scope w (action.Goto i) typed di h hf hd named = goto_ok fs i n scope w h hf named
    act_ok fs d n scope w (action.Live o) typed di h hf hd named =
        record { steps = tt; after = record { path = h.path; temps = h.temps; slots = with_live_ok c sorts w o walks.T h.slots one_value }; entries = tt; events = tt }
    act_ok fs d n scope w (action.Dead o) typed di h hf hd named =
        record { steps = tt; after = record { path = h.path; temps = h.temps; slots = with_live_ok c sorts w o F h.slots (zero_value bool_type) }; entries = tt; events = tt }
    act_ok fs d n scope w action.End typed di h hf hd named = record { steps = tt; after = with_path_ok scope w F h tt; entries = tt; events = tt }
