-- What real runs of trees change, and whose lifetimes they begin.
use Rattle.std.proofs.Common.{ℕ, suc, Bool, true, List, [], ◌∷◌, ◌++◌, Option, Some, None, ◌⊎◌, inl, inr, refl}
use Rattle.std.specs.Prelude.{not}
use Rattle.l2_runs.specs.declared.cells.CellType.{CellType}
use Rattle.l2_runs.specs.declared.cells.CellType.TheVariants.{Integer, Pointer}
use Rattle.l2_runs.specs.declared.cells.CellValue.{CellValue}
use Rattle.l2_runs.specs.declared.member.Member.{Member}
use Rattle.l2_runs.specs.declared.outcome.Outcome.TheVariants.{Ended}
use Rattle.l2_runs.specs.Fits.{Layout}
use Rattle.l2_runs.specs.Runs.{Over, Run, and_then, done}
use Rattle.l2_runs.specs.Loops.{Tests}
use Rattle.l2_runs.specs.Operators.{unary_overflows, binary_overflows}
use Rattle.l2_run_laws.proofs.Frames.{NoObject, Frames, then_opens, then_frames, fewer_frames, done_frames, over_frames, either_frames, choose_frames, read_frames, write_frames, enliven_frames, check_frames}
use Rattle.l2_run_laws.proofs.LoopFrames.{Among, block_frames, loop_frames}
use Rattle.l2_program.specs.Checked.{Object, TypedTree, Constant, Choice, Read, Unary, Binary, Convert, Assign, Assert, CheckedTree, Block, Declare, Static, Initialise, Label, Evaluate, If, IfElse, While, Return, CheckedTrees, none, more}
use Rattle.l2_meaning.specs.Meaning.{Value, Ending, Next, Broke, Continued, Returned, Jumping, Calls, Setting, number_of, holds, write_cells, first_of, fresh, fill, declare, value, declared, past, or_rest, to_turn, while_turn, tree_loop, act, act_all}
use Rattle.l2_meaning.specs.Changes.{changes_of, changes_in, all_changes_in}
use Rattle.l2_cut_laws.proofs.Tidy.{opened, dying, all_dying, IsBare, IsTidy, AreTidy}
use Rattle.l2_cut_laws.proofs.TreeKept.{real}

-- ---- lists

pub among_left : (ms ns : List ℕ) (n : ℕ) → Among ms n → Among (ms ++ ns) n
among_left [] ns n a = absurd a
among_left (m ∷ ms) ns n (inl e) = inl e
among_left (m ∷ ms) ns n (inr a) = inr (among_left ms ns n a)

pub among_right : (ms ns : List ℕ) (n : ℕ) → Among ns n → Among (ms ++ ns) n
among_right [] ns n a = a
among_right (m ∷ ms) ns n a = inr (among_right ms ns n a)

-- the items of a block begin the lifetimes that end with it
opens_first : (s : CheckedTree) (rest : CheckedTrees) (n : ℕ) → Among (opened s) n → Among (declared (more s rest)) n
opens_first (Declare m) rest n (inl e) = inl e
opens_first (Declare m) rest n (inr a) = absurd a
opens_first (Initialise m e) rest n (inl e') = inl e'
opens_first (Initialise m e) rest n (inr a) = absurd a
opens_first (Block all) rest n a = absurd a
opens_first (Static m) rest n a = absurd a
opens_first (Label m) rest n a = absurd a
opens_first (Evaluate e) rest n a = absurd a
opens_first (If e s) rest n a = absurd a
opens_first (IfElse e s t) rest n a = absurd a
opens_first (While l named e s) rest n a = absurd a
opens_first (Return e) rest n a = absurd a

opens_later : (s : CheckedTree) (rest : CheckedTrees) (n : ℕ) → Among (declared rest) n → Among (declared (more s rest)) n
opens_later (Declare m) rest n a = inr a
opens_later (Initialise m e) rest n a = inr a
opens_later (Block all) rest n a = a
opens_later (Static m) rest n a = a
opens_later (Label m) rest n a = a
opens_later (Evaluate e) rest n a = a
opens_later (If e s) rest n a = a
opens_later (IfElse e s t) rest n a = a
opens_later (While l named e s) rest n a = a
opens_later (Return e) rest n a = a

opened_dies : (s : CheckedTree) (n : ℕ) → Among (opened s) n → Among (dying s) n
opened_dies (Declare m) n a = a
opened_dies (Initialise m e) n a = a
opened_dies (Block all) n a = absurd a
opened_dies (Static m) n a = absurd a
opened_dies (Label m) n a = absurd a
opened_dies (Evaluate e) n a = absurd a
opened_dies (If e s) n a = absurd a
opened_dies (IfElse e s t) n a = absurd a
opened_dies (While l named e s) n a = absurd a
opened_dies (Return e) n a = absurd a

declared_first : (s : CheckedTree) (rest : CheckedTrees) (n : ℕ) → Among (declared (more s rest)) n → Among (opened s) n ⊎ Among (declared rest) n
declared_first (Declare m) rest n (inl e) = inl (inl e)
declared_first (Declare m) rest n (inr a) = inr a
declared_first (Initialise m e) rest n (inl e') = inl (inl e')
declared_first (Initialise m e) rest n (inr a) = inr a
declared_first (Block all) rest n a = inr a
declared_first (Static m) rest n a = inr a
declared_first (Label m) rest n a = inr a
declared_first (Evaluate e) rest n a = inr a
declared_first (If e s) rest n a = inr a
declared_first (IfElse e s t) rest n a = inr a
declared_first (While l named e s) rest n a = inr a
declared_first (Return e) rest n a = inr a

declared_dies : (all : CheckedTrees) (n : ℕ) → Among (declared all) n → Among (all_dying all) n
declared_dies none n a = absurd a
declared_dies (more s rest) n a = elim (declared_first s rest n a) [
  | inl o ↦ among_left (dying s) (all_dying rest) n (opened_dies s n o)
  | inr d ↦ among_right (dying s) (all_dying rest) n (declared_dies rest n d)
]

pub bare_opens : (s : CheckedTree) → IsBare s → (n : ℕ) → Among (opened s) n → ⊥
bare_opens (Declare m) b n a = b
bare_opens (Initialise m e) b n a = b
bare_opens (Block all) b n a = a
bare_opens (Static m) b n a = a
bare_opens (Label m) b n a = a
bare_opens (Evaluate e) b n a = a
bare_opens (If e s) b n a = a
bare_opens (IfElse e s t) b n a = a
bare_opens (While l named e s) b n a = a
bare_opens (Return e) b n a = a

-- ---- trees

module _ (cells : Layout) (sets : ℕ → Member → Bool) (tests : Tests) (is_main : Bool) (calls : Calls) (Changed : ℕ → Type 0) where
  abbrev here : Setting
  here = real cells sets tests is_main calls

  -- changes these objects at most, whichever are dead, and begins no lifetime
  abbrev Stays : {A : Type 0} → (ℕ → Type 0) → Run A → Type 0
  Stays D r = Frames Changed D NoObject r

  finished : {A : Type 0} {D O : ℕ → Type 0} (a : A) → Frames Changed D O (done a)
  finished a = done_frames Changed a

  on : {A B : Type 0} {D O : ℕ → Type 0} {r : Run A} {f : A → Run B} → Stays D r → ((a : A) → Frames Changed D O (f a)) → Frames Changed D O (and_then r f)
  on h next = then_frames Changed h next

  write_cells_stay : {D : ℕ → Type 0} (n f : ℕ) (vs : List CellValue) → Changed n → Stays D (write_cells n f vs)
  write_cells_stay n f [] h = finished tt
  write_cells_stay n f (v ∷ vs) h = on (write_frames Changed (record { object = n; offset = f }) v h) (λ u. write_cells_stay n (suc f) vs h)

  fresh_stay : {D : ℕ → Type 0} (t : CellType) → Stays D (fresh t)
  fresh_stay (Integer ty) = on (choose_frames Changed) (λ c. finished _)
  fresh_stay Pointer = finished _

  fill_stay : {D : ℕ → Type 0} (n f : ℕ) (types : List CellType) → Changed n → Stays D (fill n f types)
  fill_stay n f [] h = finished tt
  fill_stay n f (t ∷ types) h = on (fresh_stay t) (λ v. on (write_frames Changed (record { object = n; offset = f }) v h) (λ u. fill_stay n (suc f) types h))

  pub value_stay : {D : ℕ → Type 0} (e : TypedTree) → ((n : ℕ) → Among (changes_of e) n → Changed n) → Stays D (value here true e)
  value_stay (Constant ty v) h = finished _
  value_stay (Choice ty) h = on (choose_frames Changed) (λ c. finished _)
  value_stay (Read ty (Object n)) h = on (read_frames Changed (first_of n)) (λ v. finished (v ∷ []))
  value_stay (Unary op ty c e) h = on (value_stay e h) (λ v. on (check_frames Changed c (not (unary_overflows op ty (number_of v)))) (λ u. finished _))
  value_stay (Binary op ty c a b) h =
      on (value_stay a (λ n k. h n (among_left (changes_of a) (changes_of b) n k))) (λ v. on (value_stay b (λ n k. h n (among_right (changes_of a) (changes_of b) n k)))
      (λ w. on (check_frames Changed c (not (binary_overflows op ty (number_of v) (number_of w)))) (λ u. finished _)))
  value_stay (Convert ty e) h = on (value_stay e h) (λ v. finished _)
  value_stay (Assign ty (Object m) e) h = on (value_stay e (λ n k. h n (inr k))) (λ v. on (write_cells_stay m 0 v (h m (inl refl))) (λ u. finished v))
  value_stay (Assert c e) h = on (value_stay e h) (λ v. on (check_frames Changed c (holds v)) (λ u. finished _))

  pub declare_opens : {D : ℕ → Type 0} (n : ℕ) → Changed n → Frames Changed D (Among (n ∷ [])) (declare here n)
  declare_opens {D} n h = fewer_frames Changed (λ m d. elim d [ inl a ↦ a | inr z ↦ absurd z ]) (λ m o. elim o [ inl a ↦ a | inr z ↦ absurd z ])
      (then_opens Changed {DA = D} {DB = NoObject} (λ m z o. z) (enliven_frames Changed n (inl refl)) (λ u. fill_stay {D = NoObject} n 0 (cells n) h))

  rest_frames : {D O : ℕ → Type 0} (rest : Option ℕ → Run Ending) → ((from : Option ℕ) → Frames Changed D O (rest from)) → (e : Ending) → Frames Changed D O (or_rest rest e)
  rest_frames rest h Next = record { by = λ s d. (h None).by s d }
  rest_frames rest h Broke = finished Broke
  rest_frames rest h Continued = finished Continued
  rest_frames rest h (Returned v) = finished (Returned v)
  rest_frames rest h (Jumping l) = record { by = λ s d. (h (Some l)).by s d }

  pub turn_stay : {D : ℕ → Type 0} (test : Run Value) (body : Run Ending) → Stays D test → Stays D body → Stays D (while_turn test body)
  turn_stay test body h k = on h (λ v. either_frames Changed (holds v) (on k (λ e. finished (to_turn e))) (finished (Some Next)))

  loop_stay : {D : ℕ → Type 0} (l : ℕ) (turn : Bool → Run (Option Ending)) → Stays D (turn true) → Stays D (tree_loop here l turn true)
  loop_stay {D} l turn h = on (loop_frames Changed D tests l (λ b u. and_then (turn b) (λ o. done (tt, o))) (on h (λ o. finished (tt, o)))) (λ r. finished r.1)

  pub bare_frames : {D : ℕ → Type 0} (s : CheckedTree) → IsBare s → Frames Changed D (Among (opened s)) (act here true s) → Frames Changed D NoObject (act here true s)
  bare_frames s b f = fewer_frames Changed (λ n d. d) (λ n o. bare_opens s b n o) f

  module _ (is_static : ℕ → Bool) where
    mutual
      pub act_frames : (x : CheckedTree) → ((n : ℕ) → Among (changes_in x) n → Changed n) → IsTidy is_static x → Frames Changed (Among (dying x)) (Among (opened x)) (act here true x)
      act_frames (Block all) h t = block_frames Changed (declared all) (λ n o. o) (declared_dies all) (all_frames None all h t)
      act_frames (Declare n) h t = then_opened (declare_opens {D = Among (n ∷ [])} n (h n (inl refl)))
        where
          then_opened : {O D : ℕ → Type 0} {r : Run (Unit {0})} → Frames Changed D O r → Frames Changed D O (and_then r (λ u. done Next))
          then_opened h = fewer_frames Changed (λ m d. elim d [ inl a ↦ a | inr z ↦ absurd z ]) (λ m o. elim o [ inl a ↦ a | inr z ↦ absurd z ]) (then_opens Changed {DB = NoObject} {OB = NoObject} (λ m z o. z) h (λ u. finished Next))
      act_frames (Static n) h t = finished Next
      act_frames (Initialise n e) h t =
          fewer_frames Changed (λ m d. elim d [ inl a ↦ a | inr z ↦ absurd z ]) (λ m o. elim o [ inl a ↦ a | inr z ↦ absurd z ])
          (then_opens Changed {DA = Among (n ∷ [])} {DB = NoObject} {OA = Among (n ∷ [])} {OB = NoObject} (λ m z o. z) (enliven_frames Changed n (inl refl))
          (λ u. on (value_stay {D = NoObject} e (λ m k. h m (inr k))) (λ v. on (write_cells_stay n 0 v (h n (inl refl))) (λ u. finished Next))))
      act_frames (Label n) h t = finished Next
      act_frames (Evaluate e) h t = on (value_stay e h) (λ v. finished Next)
      act_frames (If e s) h t = on (value_stay e (λ n k. h n (among_left (changes_of e) (changes_in s) n k))) (λ v. either_frames Changed (holds v) (bare_frames s t.0 (act_frames s (λ n k. h n (among_right (changes_of e) (changes_in s) n k)) t.1)) (finished Next))
      act_frames (IfElse e s z) h t =
          on (value_stay e (λ n k. h n (among_left (changes_of e ++ changes_in s) (changes_in z) n (among_left (changes_of e) (changes_in s) n k))))
          (λ v. either_frames Changed (holds v)
          (fewer_frames Changed (λ n d. among_left (dying s) (dying z) n d) (λ n o. o) (bare_frames s t.0 (act_frames s (λ n k. h n (among_left (changes_of e ++ changes_in s) (changes_in z) n (among_right (changes_of e) (changes_in s) n k))) t.1)))
          (fewer_frames Changed (λ n d. among_right (dying s) (dying z) n d) (λ n o. o) (bare_frames z t.2 (act_frames z (λ n k. h n (among_right (changes_of e ++ changes_in s) (changes_in z) n k)) t.3))))
      act_frames (While l named e s) h t =
          loop_stay l (λ b. while_turn (value here b e) (act here b s))
          (turn_stay (value here true e) (act here true s) (value_stay e (λ n k. h n (among_left (changes_of e) (changes_in s) n k)))
          (bare_frames s t.0 (act_frames s (λ n k. h n (among_right (changes_of e) (changes_in s) n k)) t.1)))
      act_frames (Return e) h t = on (value_stay e h) (λ v. either_frames Changed is_main (over_frames Changed (Over Ended)) (finished (Returned v)))

      pub all_frames : (from : Option ℕ) (all : CheckedTrees) → ((n : ℕ) → Among (all_changes_in all) n → Changed n) → AreTidy is_static all → Frames Changed (Among (all_dying all)) (Among (declared all)) (act_all here true from all)
      all_frames None none h t = finished Next
      all_frames (Some l) none h t = finished (Jumping l)
      all_frames None (more s rest) h t =
          fewer_frames Changed (λ n d. elim d [ inl a ↦ among_left (dying s) (all_dying rest) n a | inr b ↦ among_right (dying s) (all_dying rest) n b ])
          (λ n o. elim o [ inl a ↦ opens_first s rest n a | inr b ↦ opens_later s rest n b ])
          (then_opens Changed t.1 (act_frames s (λ n k. h n (among_left (changes_in s) (all_changes_in rest) n k)) t.0)
          (λ e. rest_frames (λ from. act_all here true from rest) (λ from. all_frames from rest (λ n k. h n (among_right (changes_in s) (all_changes_in rest) n k)) t.2) e))
      all_frames (Some l) (more s rest) h t =
          fewer_frames Changed (λ n d. among_right (dying s) (all_dying rest) n d) (λ n o. opens_later s rest n o)
          (all_frames (past l s) rest (λ n k. h n (among_right (changes_in s) (all_changes_in rest) n k)) t.2)
