-- What the word of each step shows.
use Rattle.std.proofs.Common.{◌≡◌, ℕ, zero, suc, ◌+◌, ◌*◌, ◌≤◌, ◌<◌, Bool, true, false, not, ℤ, pos, refl, sym, ap, ◌∙◌, subst, List, [], ◌∷◌, ◌++◌, length, Option, Some, None, IfSome, arith}
use Rattle.std.proofs.lemmas.List.{length-append}
use Rattle.std.specs.Prelude.{◌==◌, ◌&&◌, ◌||◌, if◌then◌else◌, replicate}
use Rattle.l2_bits.specs.declared.types.Ty.{Ty}
use Rattle.l2_bits.specs.Values.{IsValue, wrap}
use Rattle.l2_bits.proofs.Wraps.{wrap_value}
use Rattle.l2_runs.specs.declared.cells.CellType.{CellType}
use Rattle.l2_runs.specs.declared.cells.CellType.TheVariants.{Integer, Pointer}
use Rattle.l2_runs.specs.declared.cells.CellValue.{CellValue}
use Rattle.l2_runs.specs.declared.cells.CellValue.TheVariants.{Number, Null, Invalid, At}
use Rattle.l2_runs.specs.declared.member.Member.{Member}
use Rattle.l2_runs.specs.declared.member.Member.TheVariants as member
use Rattle.l2_runs.specs.Back.{pointer_of}
use Rattle.l2_code.specs.declared.action.Operator.{Operator}
use Rattle.l2_code.specs.declared.action.Operator.TheVariants as operator
use Rattle.l2_code.specs.declared.action.PointerOperator.{PointerOperator}
use Rattle.l2_code.specs.declared.action.PointerOperator.TheVariants as pointers
use Rattle.l2_code.specs.declared.action.Operand.{Operand}
use Rattle.l2_code.specs.declared.action.Computation.{Computation}
use Rattle.l2_code.specs.declared.action.Computation.TheVariants.{Numbers, Convert, Move, Pointers, Passes}
use Rattle.l2_code.specs.Values.{operand_value}
use Rattle.l2_ssa.specs.Steps as steps
use Rattle.l2_ssa.specs.Steps.{Step, Choose, Take, Half, Point, Among, Compute, Alive, Pick, Row, Lower, Apart, Both, But, Either, Merge, Names, on, bit, number_in, is_alive, is_among, Meaning, Holds, IsBefore, FlagsBefore, Reads}
use Rattle.l2_gates.specs.Gates.{Lit, F, negated, same, Made, Bit, fresh, and, or}
use Rattle.l2_gates.specs.Models.{value, both, Ok, Gives}
use Rattle.l2_gates.proofs.Bools.{by_test}
use Rattle.l2_gates.proofs.Values.{value_F, is_F, negated_value, and_gives, or_gives}
use Rattle.l2_circuits.specs.Words.{Word, known_word, choose}
use Rattle.l2_circuit_laws.specs.Values.{values, bit_number, number}
use Rattle.l2_circuit_laws.specs.Law.{picked}
use Rattle.l2_circuit_laws.specs.Shows.{Shows}
use Rattle.l2_circuit_laws.proofs.Choices.{choices_show}
use Rattle.l2_pointer_circuits.specs.Shows.{ShowsPointer, is_live}
use Rattle.l2_pointer_circuits.specs.Law.{is_at, is_of, AreFlags}
use Rattle.l2_blast.specs.Sorts as sorts
use Rattle.l2_blast.specs.Sorts.{Sort, Truth, Part, Cell, Sorts, width, cell_width, sort_of, sort_of_operator, sort_of_pointers, sort_of_computation, IsTruth, IsPart, IsOf, IsSet, IsTyped}
use Rattle.l2_blast.specs.Words.{Env, name, first, literal, word, members, Setting, bit_word, fresh_word, blank, unless_dead, computed_word, flag_literals, picked_word, merged_word, made_word, word_of}
use Rattle.l2_blast_laws.specs.Law.{shown, IsSized, RowHolds, meaning_of}
use Rattle.l2_blast_laws.proofs.Circuits.{Circuits}
use Rattle.l2_blast_laws.proofs.Operands.{Proper, ShownBy, part_below, value_shown, OfType, literal_is, part_is, value_is, pointer_is}
use Rattle.l2_blast_laws.proofs.Sets.{has_members}
use Rattle.l2_blast_laws.proofs.Computing.{if_some, truth_proper, have_cells, computed_is}

-- ---- truth values

both_and : (a b : Bool) → both a b ≡ (a && b)
both_and true b = refl
both_and false b = refl

or_is : (a b : Bool) → not (both (not a) (not b)) ≡ (a || b)
or_is true b = refl
or_is false true = refl
or_is false false = refl

-- ---- words

one_proper : (v : ℕ → Bool) (l : Lit) → Proper v (Truth 1) (l ∷ [])
one_proper v l = record { size = refl; truth = (omega arith, go (value v l)) }
  where
    go : (b : Bool) → bit_number b + 2 * 0 ≡ bit_number b
    go true = refl
    go false = refl

-- a truth value has a bit
abbrev HasBit : Sort → Type 0
HasBit (Truth n) = 1 ≤ n
HasBit Part = Unit {0}
HasBit (Cell ty) = Unit {0}

blank_length : (n : ℕ) → length (replicate n F) ≡ n
blank_length zero = refl
blank_length (suc n) = ap suc (blank_length n)

module _ (v : ℕ → Bool) (true_one : v 0 ≡ true) where
  blank_number : (n : ℕ) → number (values v (replicate n F)) ≡ 0
  blank_number zero = refl
  blank_number (suc n) = (λ i. bit_number (value_F v true_one i) + 2 * blank_number n i)

  blank_first : (n : ℕ) → bit_number (value v (first (replicate n F))) ≡ 0
  blank_first zero = ap bit_number (value_F v true_one)
  blank_first (suc n) = ap bit_number (value_F v true_one)

  blank_proper : (sort : Sort) → HasBit sort → Proper v sort (blank sort)
  blank_proper (Truth n) h = record { size = blank_length n; truth = (h, blank_number n ∙ sym (blank_first n)) }
  blank_proper Part h = record { size = blank_length 17; truth = tt }
  blank_proper (Cell ty) h = record { size = blank_length (cell_width ty); truth = tt }

operator_bit : (op : Operator) (ty : Ty) → HasBit (sort_of_operator op ty)
operator_bit operator.Add ty = tt
operator_bit operator.Sub ty = tt
operator_bit operator.Mul ty = tt
operator_bit operator.Div ty = tt
operator_bit operator.Rem ty = tt
operator_bit operator.Shl ty = tt
operator_bit operator.Shr ty = tt
operator_bit operator.And ty = tt
operator_bit operator.Or ty = tt
operator_bit operator.Xor ty = tt
operator_bit operator.Eq ty = omega arith
operator_bit operator.Ne ty = omega arith
operator_bit operator.Lt ty = omega arith
operator_bit operator.Le ty = omega arith

pointers_bit : (op : PointerOperator) → HasBit (sort_of_pointers op)
pointers_bit pointers.Diff = tt
pointers_bit pointers.Eq = omega arith
pointers_bit pointers.Ne = omega arith
pointers_bit pointers.Lt = omega arith
pointers_bit pointers.Le = omega arith

computation_bit : (c : Computation) → HasBit (sort_of_computation c)
computation_bit (Numbers op ty a b) = operator_bit op ty
computation_bit (Convert ty a) = tt
computation_bit (Move by a b) = tt
computation_bit (Pointers op a b) = pointers_bit op
computation_bit (Passes t) = omega arith

pub fresh_length : (n : ℕ) (m : Made) → length (fresh_word n m).bits ≡ n
fresh_length zero m = refl
fresh_length (suc n) m = ap suc (fresh_length n (fresh m).made)

place_is : (o f : ℕ) (x : CellValue) → steps.is_at o f x ≡ is_at (record { object = o; offset = f }) x
place_is o f (Number z) = refl
place_is o f Null = refl
place_is o f Invalid = refl
place_is o f (At p g) = refl

module _ (c : Circuits) (s : Setting) (sized : IsSized s) (v : ℕ → Bool) (true_one : v 0 ≡ true) (kinds : Sorts) (env : Env) (t : Names)
    (sorted : (i : ℕ) → i < length env → (name env i).sort ≡ kinds i)
    (at : (i : ℕ) → i < length env → ShownBy v (kinds i) (name env i).bits (t i)) (m : Made)
    (row : ℕ → ℕ → List CellValue → Bool) (lower : ℕ → List CellValue → List CellValue → Bool) where
  abbrev val : Operand → CellValue
  val a = operand_value t a

  abbrev pub Known : Operand → Type 0
  Known a = IsBefore (length env) a

  abbrev meant : Meaning
  meant = meaning_of s row lower

  lit : (a : Operand) → Known a → IsTruth kinds a → on t a ≡ value v (literal env a)
  lit a b h = literal_is c v true_one s.types.objects sized.small kinds env t sorted at a b h

  -- ---- paths that are F

  -- what holds where the path is true
  pub guarded : (g : Operand) → Known g → IsTruth kinds g → (sort : Sort) → HasBit sort → (w : Word) (y : CellValue) (Q : Type 0)
      → (Ok v w.made → y ≡ shown v sort w.bits → Proper v sort w.bits × Q)
      → Ok v (unless_dead (literal env g) sort m w).made → y ≡ shown v sort (unless_dead (literal env g) sort m w).bits
      → Proper v sort (unless_dead (literal env g) sort m w).bits × (on t g ≡ true → Q)
  guarded g b h sort some w y Q f ok is =
      by_test (λ (z : Word). Ok v z.made → y ≡ shown v sort z.bits → Proper v sort z.bits × (on t g ≡ true → Q)) (same (literal env g) F) (known_word (blank sort) m) w
      (λ e ok is. (blank_proper v true_one sort some, λ o. dead e o))
      (λ e ok is. let r = f ok is in (r.0, λ o. r.1)) ok is
    where
      dead : same (literal env g) F ≡ true → on t g ≡ true → Q
      dead e o = let a = is_F v true_one (literal env g) e in let q = lit g b h in cc

  -- a word that is made in any case
  always : (g : Operand) (sort : Sort) → HasBit sort → (w : Word) → Proper v sort w.bits → Proper v sort (unless_dead (literal env g) sort m w).bits
  always g sort some w p = by_test (λ (z : Word). Proper v sort z.bits) (same (literal env g) F) (known_word (blank sort) m) w (λ e. blank_proper v true_one sort some) (λ e. p)

  -- a bit that has a value
  pub asked : (n : ℕ) (b : Bit) (x : Bool) → Gives v m x b → Ok v (bit_word b).made → t n ≡ shown v (Truth 1) (bit_word b).bits → Proper v (Truth 1) (bit_word b).bits × (t n ≡ bit x)
  asked n b x h ok is = (one_proper v b.bit, is ∙ ap bit (h ok).is)

  -- ---- cells

  record CellShown (ty : CellType) (a : Operand) : Type 0 where
    proper : Proper v (Cell ty) (word (cell_width ty) env a)
    is : val a ≡ shown v (Cell ty) (word (cell_width ty) env a)

  number_of : (ty : Ty) (a : Operand) → Known a → IsOf s.types.objects kinds (Integer ty) a → OfType v ty (word ty.width env a) (val a)
  number_of ty a b h = value_is c v true_one s.types.objects sized.small kinds env t sorted at ty a b h

  pointer_shown : (a : Operand) → Known a → IsOf s.types.objects kinds Pointer a → ShowsPointer v (word 34 env a) (val a)
  pointer_shown a b h = pointer_is c v true_one s.types.objects sized.small kinds env t sorted at a b h

  cell_is : (ty : CellType) (a : Operand) → Known a → IsOf s.types.objects kinds ty a → CellShown ty a
  cell_is (Integer ty) a b h =
      let x = number_of ty a b h in
      record { proper = record { size = x.shows.shows.size; truth = tt }; is = x.is ∙ value_shown v ty (word ty.width env a) x.number x.shows }
  cell_is Pointer a b h =
      let x = pointer_shown a b h in
      record { proper = record { size = x.size; truth = tt }; is = sym x.is }

  picked_value : (ty : Ty) (b : Bool) (x y : ℤ) → IsValue ty x → IsValue ty y → IsValue ty (picked b x y)
  picked_value ty true x y h k = h
  picked_value ty false x y h k = k

  picked_number : (b : Bool) (x y : ℤ) (p q : CellValue) → p ≡ Number x → q ≡ Number y → Number (picked b x y) ≡ picked b p q
  picked_number true x y p q e f = sym e
  picked_number false x y p q e f = sym f

  chosen_cell : (ty : CellType) (h : Lit) (x y : Operand) → Known x → Known y → IsOf s.types.objects kinds ty x → IsOf s.types.objects kinds ty y
      → Ok v (choose h (word (cell_width ty) env x) (word (cell_width ty) env y) m).made
      → Proper v (Cell ty) (choose h (word (cell_width ty) env x) (word (cell_width ty) env y) m).bits
      × (shown v (Cell ty) (choose h (word (cell_width ty) env x) (word (cell_width ty) env y) m).bits ≡ picked (value v h) (val x) (val y))
  chosen_cell (Integer ty) h x y a b i j ok =
      let p = number_of ty x a i in
      let q = number_of ty y b j in
      let g = choices_show v true_one ty.width h _ _ p.number q.number m p.shows.shows q.shows.shows ok in (
        record { size = g.shows.size; truth = tt },
        sym (value_shown v ty _ (picked (value v h) p.number q.number) (record { value = picked_value ty (value v h) p.number q.number p.shows.value q.shows.value; shows = g.shows }))
            ∙ picked_number (value v h) p.number q.number (val x) (val y) p.is q.is,
      )
  chosen_cell Pointer h x y a b i j ok =
      let g = c.pointer_choices_show v true_one h _ _ (val x) (val y) m (pointer_shown x a i) (pointer_shown y b j) ok in
      (record { size = g.size; truth = tt }, (g.shows (picked (value v h) (val x) (val y)) refl).is)

  -- ---- labels

  abbrev Merged : ℕ → Operand → Operand → CellType → Operand → Operand → Word → Type 0
  Merged n g h ty x y w =
      Ok v w.made → t n ≡ shown v (Cell ty) w.bits
      → Proper v (Cell ty) w.bits × ((on t h ≡ true → t n ≡ val x) × (on t g ≡ true → on t h ≡ false → t n ≡ val y))

  merged_is : (n : ℕ) (g h : Operand) (ty : CellType) (x y : Operand) → Known g → Known h → Known x → Known y → IsTruth kinds g → IsTruth kinds h → IsOf s.types.objects kinds ty x → IsOf s.types.objects kinds ty y
      → Merged n g h ty x y (merged_word (literal env g) (literal env h) (word (cell_width ty) env x) (word (cell_width ty) env y) m)
  merged_is n g h ty x y bg bh bx by tg th tx ty' =
      by_test (Merged n g h ty x y) (same (literal env h) F) _ _
      (λ e ok is. let q = cell_is ty y by ty' in (q.proper, (λ o. dead h bh th e o, λ o d. is ∙ sym q.is)))
      (λ e. by_test (Merged n g h ty x y) (same (literal env g) F) _ _
      (λ e ok is. let q = cell_is ty x bx tx in (q.proper, (λ o. is ∙ sym q.is, λ o d. dead g bg tg e o)))
      (λ e ok is. let q = chosen_cell ty (literal env h) x y bx by tx ty' ok in
      (q.0, (λ o. is ∙ q.1 ∙ ap (λ b. picked b (val x) (val y)) (sym (lit h bh th) ∙ o), λ p o. is ∙ q.1 ∙ ap (λ b. picked b (val x) (val y)) (sym (lit h bh th) ∙ o)))))
    where
      dead : {A : Type 0} (a : Operand) → Known a → IsTruth kinds a → same (literal env a) F ≡ true → on t a ≡ true → A
      dead a b h e o = absurd (let p = is_F v true_one (literal env a) e in let q = lit a b h in cc)

  -- ---- pointers of back starts

  halves : (a : Operand) → Known a → IsPart kinds a → (k : ℕ) × (val a ≡ Number (pos k)) × (k < 131072) × (Shows v 17 (word 17 env a) (pos k))
  halves a b h = part_is c v true_one s.types.objects sized.small kinds env t sorted at a b h

  point_is : (n : ℕ) (sel off : Operand) → Known sel → Known off → IsPart kinds sel → IsPart kinds off → t n ≡ shown v (Cell Pointer) (word 17 env sel ++ word 17 env off)
      → Proper v (Cell Pointer) (word 17 env sel ++ word 17 env off) × IfSome (pointer_of s.types.objects (number_in (val sel)) (number_in (val off))) (λ x. t n ≡ x)
  point_is n sel off a b h k is =
      let p = halves sel a h in
      let q = halves off b k in (
        record { size = length-append (word 17 env sel) (word 17 env off) ∙ (λ i. p.3.size i + q.3.size i); truth = tt },
        subst (λ (o : Option CellValue). IfSome o (λ x. t n ≡ x)) (sym (λ i. pointer_of s.types.objects (number_in (p.1 i)) (number_in (q.1 i))))
            (if_some (λ x. t n ≡ x) (pointer_of s.types.objects (pos p.0) (pos q.0))
            (λ x e. is ∙ (c.halves_show v true_one s.types.objects _ _ p.0 q.0 x p.2 q.2 p.3 q.3 e).is)),
      )

  among_same : (set : Member → Bool) → IsSet s.types.objects set → (o : Option CellValue) → is_of (members s.objects set) o ≡ is_among set o
  among_same set h None = refl
  among_same set h (Some (Number z)) = refl
  among_same set h (Some Null) = has_members set s.types.objects s.objects h sized.small.some sized.counted member.Null
  among_same set h (Some Invalid) = has_members set s.types.objects s.objects h sized.small.some sized.counted member.Invalid
  among_same set h (Some (At o f)) = has_members set s.types.objects s.objects h sized.small.some sized.counted (member.Object o)

  among_is : (n : ℕ) (sel off : Operand) (set : Member → Bool) → Known sel → Known off → IsPart kinds sel → IsPart kinds off → IsSet s.types.objects set
      → Ok v (made_word s (Among sel sel off set) env m).made → t n ≡ shown v (Truth 1) (made_word s (Among sel sel off set) env m).bits
      → Proper v (Truth 1) (made_word s (Among sel sel off set) env m).bits × (t n ≡ bit (is_among set (pointer_of s.types.objects (number_in (val sel)) (number_in (val off)))))
  among_is n sel off set a b h k is_set ok is =
      let p = halves sel a h in
      let q = halves off b k in
      let hc = have_cells c s sized v true_one kinds env t sorted at m set is_set in
      let g = asked n _ (is_of (members s.objects set) (pointer_of s.types.objects (pos p.0) (pos q.0)))
      (c.among_is v true_one s.types.objects sized.small (members s.objects set) hc _ _ p.0 q.0 m p.2 q.2 p.3 q.3) ok is in
      (g.0, g.1 ∙ ap bit (among_same set is_set (pointer_of s.types.objects (pos p.0) (pos q.0)) ∙ sym (λ i. is_among set (pointer_of s.types.objects (number_in (p.1 i)) (number_in (q.1 i))))))

  -- ---- live flags

  flags_are : (flags : List steps.Flag) → sorts.AreFlags s.types.objects kinds flags → AreFlags (flag_literals env flags)
  flags_are [] h = tt
  flags_are (x ∷ rest) h = (sized.small.some x.object h.0, sized.small.few x.object h.0, flags_are rest h.2)

  live_same : (flags : List steps.Flag) (x : CellValue) → FlagsBefore (length env) flags → sorts.AreFlags s.types.objects kinds flags → is_live v (flag_literals env flags) x ≡ is_alive t x flags
  live_same [] x b h = refl
  live_same (y ∷ rest) (At o f) b h = (λ i. (not (o == y.object) || sym (lit y.live b.0 h.1) i) && live_same rest (At o f) b.1 h.2 i)
  live_same (y ∷ rest) (Number z) b h = refl
  live_same (y ∷ rest) Null b h = refl
  live_same (y ∷ rest) Invalid b h = refl

  alive_is : (n : ℕ) (a : Operand) (flags : List steps.Flag) → Known a → FlagsBefore (length env) flags → IsOf s.types.objects kinds Pointer a → sorts.AreFlags s.types.objects kinds flags
      → Ok v (made_word s (Alive a a flags) env m).made → t n ≡ shown v (Truth 32) (made_word s (Alive a a flags) env m).bits
      → Proper v (Truth 32) (made_word s (Alive a a flags) env m).bits × (t n ≡ bit (is_alive t (val a) flags))
  alive_is n a flags b k h q ok is =
      let g = c.live_is v true_one (flag_literals env flags) _ (val a) m (flags_are flags q) (pointer_shown a b h) ok in
      (truth_proper v true_one _, is ∙ ap bit (g.is ∙ live_same flags (val a) k q))

  -- ---- one place of a read or a write

  if_value : (ty : Ty) (b : Bool) (x y : ℤ) → IsValue ty x → IsValue ty y → IsValue ty (if b then x else y)
  if_value ty true x y h k = h
  if_value ty false x y h k = k

  if_number : (b : Bool) (x y : ℤ) (p q : CellValue) → p ≡ Number x → q ≡ Number y → Number (if b then x else y) ≡ (if b then p else q)
  if_number true x y p q e f = sym e
  if_number false x y p q e f = sym f

  pick_is : (n : ℕ) (a : Operand) (o f : ℕ) (ty : CellType) (x y : Operand) → Known a → Known x → Known y → IsOf s.types.objects kinds Pointer a → 0 < length (s.types.objects o) → f < 131072
      → IsOf s.types.objects kinds ty x → IsOf s.types.objects kinds ty y
      → Ok v (picked_word env a o f ty x y m).made → t n ≡ shown v (Cell ty) (picked_word env a o f ty x y m).bits
      → Proper v (Cell ty) (picked_word env a o f ty x y m).bits × (t n ≡ (if steps.is_at o f (val a) then val x else val y))
  pick_is n a o f (Integer ty) x y ba bx by ta some small tx ty' ok is =
      let p = number_of ty x bx tx in
      let q = number_of ty y by ty' in
      let at_place = is_at (record { object = o; offset = f }) (val a) in
      let k = c.picks_are v true_one (record { object = o; offset = f }) _ (val a) m (record { object_from = sized.small.some o some; object_to = sized.small.few o some; offset_to = small }) (pointer_shown a ba ta) in
      let g = k.numbers ty.width _ _ p.number q.number p.shows.shows q.shows.shows ok in (
        record { size = g.shows.size; truth = tt },
        is ∙ sym (value_shown v ty _ (if at_place then p.number else q.number) (record { value = if_value ty at_place p.number q.number p.shows.value q.shows.value; shows = g.shows }))
            ∙ if_number at_place p.number q.number (val x) (val y) p.is q.is ∙ ap (λ b. if b then val x else val y) (sym (place_is o f (val a))),
      )
  pick_is n a o f Pointer x y ba bx by ta some small tx ty' ok is =
      let at_place = is_at (record { object = o; offset = f }) (val a) in
      let k = c.picks_are v true_one (record { object = o; offset = f }) _ (val a) m (record { object_from = sized.small.some o some; object_to = sized.small.few o some; offset_to = small }) (pointer_shown a ba ta) in
      let g = k.pointers _ _ (val x) (val y) (pointer_shown x bx tx) (pointer_shown y by ty') ok in
      (record { size = g.size; truth = tt }, is ∙ (g.shows (if at_place then val x else val y) refl).is ∙ ap (λ b. if b then val x else val y) (sym (place_is o f (val a))))

  -- ---- gates

  both_is : (n : ℕ) (a b : Operand) → Known a → Known b → IsTruth kinds a → IsTruth kinds b → Ok v (bit_word (and (literal env a) (literal env b) m)).made
      → t n ≡ shown v (Truth 1) (bit_word (and (literal env a) (literal env b) m)).bits → Proper v (Truth 1) (bit_word (and (literal env a) (literal env b) m)).bits × (t n ≡ bit (on t a && on t b))
  both_is n a b p q h k ok is =
      let g = asked n _ _ (and_gives v true_one (literal env a) (literal env b) m) ok is in
      (g.0, g.1 ∙ ap bit (both_and (value v (literal env a)) (value v (literal env b)) ∙ sym (λ i. lit a p h i && lit b q k i)))

  but_is : (n : ℕ) (a b : Operand) → Known a → Known b → IsTruth kinds a → IsTruth kinds b → Ok v (bit_word (and (literal env a) (negated (literal env b)) m)).made
      → t n ≡ shown v (Truth 1) (bit_word (and (literal env a) (negated (literal env b)) m)).bits
      → Proper v (Truth 1) (bit_word (and (literal env a) (negated (literal env b)) m)).bits × (t n ≡ bit (on t a && not (on t b)))
  but_is n a b p q h k ok is =
      let g = asked n _ _ (and_gives v true_one (literal env a) (negated (literal env b)) m) ok is in
      (g.0, g.1 ∙ ap bit (both_and (value v (literal env a)) (value v (negated (literal env b))) ∙ ap (λ z. value v (literal env a) && z) (negated_value v (literal env b)) ∙ sym (λ i. lit a p h i && not (lit b q k i))))

  either_is : (n : ℕ) (a b : Operand) → Known a → Known b → IsTruth kinds a → IsTruth kinds b → Ok v (bit_word (or (literal env a) (literal env b) m)).made
      → t n ≡ shown v (Truth 1) (bit_word (or (literal env a) (literal env b) m)).bits → Proper v (Truth 1) (bit_word (or (literal env a) (literal env b) m)).bits × (t n ≡ bit (on t a || on t b))
  either_is n a b p q h k ok is =
      let g = asked n _ _ (or_gives v true_one (literal env a) (literal env b) m) ok is in
      (g.0, g.1 ∙ ap bit (or_is (value v (literal env a)) (value v (literal env b)) ∙ sym (λ i. lit a p h i || lit b q k i)))

  -- ---- all steps

  pub step_fine : (n : ℕ) (x : Step) → Reads (length env) x → IsTyped s.types kinds x → Ok v (word_of s x env m).made → t n ≡ shown v (sort_of x) (word_of s x env m).bits
      → Proper v (sort_of x) (word_of s x env m).bits × (RowHolds meant t n x → Holds meant t n x)
  step_fine n (Choose g) r h ok is = (always g (Truth 1) (omega arith) (bit_word (fresh m)) (one_proper v _), λ k. (value v (first (word_of s (Choose g) env m).bits), is))
  step_fine n (Take g ty) r h ok is = (
    always g (Cell (Integer ty)) tt (fresh_word ty.width m) (record { size = fresh_length ty.width m; truth = tt }),
    λ k. (wrap ty (pos (number (values v (word_of s (Take g ty) env m).bits))), is, wrap_value ty (pos (number (values v (word_of s (Take g ty) env m).bits)))),
  )
  step_fine n (Half g) r h ok is =
      let p = always g Part tt (fresh_word 17 m) (record { size = fresh_length 17 m; truth = tt }) in
      (p, λ k. (number (values v (word_of s (Half g) env m).bits), is, part_below v (word_of s (Half g) env m).bits p.size))
  step_fine n (Point g sel off) r h ok is =
      let q = guarded g r.0 h.0 (Cell Pointer) tt (made_word s (Point g sel off) env m) (t n) _ (λ o e. point_is n sel off r.1 r.2 h.1 h.2 e) ok is in (q.0, λ k. q.1)
  step_fine n (Among g sel off set) r h ok is =
      let q = guarded g r.0 h.0 (Truth 1) (omega arith) (made_word s (Among g sel off set) env m) (t n) _ (λ o e. among_is n sel off set r.1 r.2 h.1 h.2 h.3 o e) ok is in (q.0, λ k. q.1)
  step_fine n (Compute g x set) r h ok is =
      let q = guarded g r.0 h.0 (sort_of_computation x) (computation_bit x) (computed_word s.types s.objects set env x m) (t n) _
      (λ o e. computed_is c s sized v true_one kinds env t sorted at m set h.2 x (t n) r.1 h.1 o e) ok is in (q.0, λ k. q.1)
  step_fine n (Alive g a flags) r h ok is =
      let q = guarded g r.0 h.0 (Truth 32) (omega arith) (made_word s (Alive g a flags) env m) (t n) _ (λ o e. alive_is n a flags r.1 r.2 h.1 h.2 o e) ok is in (q.0, λ k. q.1)
  step_fine n (Pick g a o f ty x y) r h ok is =
      let q = guarded g r.0 h.0 (Cell ty) tt (picked_word env a o f ty x y m) (t n) _ (λ p e. pick_is n a o f ty x y r.1 r.2 r.3 h.1 h.2 h.3 h.4 h.5 p e) ok is in (q.0, λ k. q.1)
  step_fine n (Row g l i vars) r h ok is = (always g (Truth 1) (omega arith) (made_word s (Row g l i vars) env m) (one_proper v _), λ k. k)
  step_fine n (Lower g l old new) r h ok is = (always g (Truth 1) (omega arith) (made_word s (Lower g l old new) env m) (one_proper v _), λ k. k)
  step_fine n (Apart g a b) r h ok is =
      let q = guarded g r.0 h.0 (Truth 1) (omega arith) (made_word s (Apart g a b) env m) (t n) _ (λ o e. but_is n a b r.1 r.2 h.1 h.2 o e) ok is in (q.0, λ k. q.1)
  step_fine n (Both a b) r h ok is = let q = both_is n a b r.0 r.1 h.0 h.1 ok is in (q.0, λ k. q.1)
  step_fine n (But a b) r h ok is = let q = but_is n a b r.0 r.1 h.0 h.1 ok is in (q.0, λ k. q.1)
  step_fine n (Either a b) r h ok is = let q = either_is n a b r.0 r.1 h.0 h.1 ok is in (q.0, λ k. q.1)
  step_fine n (Merge g k ty x y) r h ok is = let q = merged_is n g k ty x y r.0 r.1 r.2 r.3 h.0 h.1 h.2 h.3 ok is in (q.0, λ z. q.1)
