-- Cut runs of trees follow real ones, or fall at a row.
use Rattle.std.proofs.Common.{◌≡◌, ℕ, suc, Bool, true, false, List, [], ◌∷◌, ◌++◌, Option, Some, None, inl, inr, subst}
use Rattle.std.specs.Prelude.{not}
use Rattle.l2_runs.specs.declared.cells.CellType.{CellType}
use Rattle.l2_runs.specs.declared.cells.CellType.TheVariants.{Integer, Pointer}
use Rattle.l2_runs.specs.declared.cells.CellValue.{CellValue}
use Rattle.l2_runs.specs.declared.member.Member.{Member}
use Rattle.l2_runs.specs.declared.member.Member.TheVariants.{Invalid}
use Rattle.l2_runs.specs.Store.{Store}
use Rattle.l2_runs.specs.Fits.{Layout, CellsFit}
use Rattle.l2_runs.specs.Back.{back}
use Rattle.l2_runs.specs.Runs.{Result, Go, Halt, Run, and_then, done, bury_all}
use Rattle.l2_runs.specs.Loops.{Cut, Test, Tests}
use Rattle.l2_runs.specs.Operators.{unary_overflows, binary_overflows}
use Rattle.l2_run_laws.specs.Watches.{HoldAll, cut_tests, CellsIn}
use Rattle.l2_run_laws.proofs.Kept.{KeptAt, Kept, Always, then_kept, done_kept, either_kept}
use Rattle.l2_run_laws.proofs.CutRuns.{Cuts, Simulates, Follows, then_follows, done_follows, ended_follows, choose_follows, read_follows, write_follows, enliven_follows, bury_follows, check_follows, either_follows, fewer_follow}
use Rattle.l2_run_laws.proofs.Frames.{Frame, NoObject, Dead, frame_refl, frame_trans, still_dead, FramedAt, Frames, then_frames, done_frames}
use Rattle.l2_run_laws.proofs.LoopFrames.{Among}
use Rattle.l2_run_laws.proofs.Scatters.{back_comes}
use Rattle.l2_run_laws.proofs.CutLoops.{FramedTurn, loop_follows}
use Rattle.l2_run_laws.proofs.Pointing.{IsSound}
use Rattle.l2_program.specs.Checked.{Object, TypedTree, Constant, Choice, Read, Unary, Binary, Convert, Assign, Assert, CheckedTree, Block, Declare, Static, Initialise, Label, Evaluate, If, IfElse, While, Return, CheckedTrees, none, more}
use Rattle.l2_program.specs.Types.{type_of}
use Rattle.l2_meaning.specs.Meaning.{Ending, Next, Broke, Continued, Returned, Jumping, Calls, Setting, number_of, holds, write_cells, first_of, fresh, fill, declare, value, declared, past, or_rest, to_turn, while_turn, tree_loop, act, act_all}
use Rattle.l2_meaning.specs.Execution.{declare_all}
use Rattle.l2_meaning.specs.Pointing.{may_be, StatementIsTakenIn, AreTakenIn, IsTakenIn, has_pointer}
use Rattle.l2_meaning.specs.Changes.{changes_of, changes_in}
use Rattle.l2_meaning.specs.Lawful.{Listing, IsTyped, IsTypedStatement, AreTyped, HasChecks, StatementHasChecks, HaveChecks, AreNotStatic}
use Rattle.l2_cut_laws.proofs.Tidy.{opened, dying, all_dying, IsBare, IsTidy, AreTidy, HasMods, HaveMods}
use Rattle.l2_cut_laws.proofs.LawfulTrees.{AreDistinct, widen}
use Rattle.l2_cut_laws.proofs.TreeKept.{real, value_sound, act_sound, declare_sound}
use Rattle.l2_cut_laws.proofs.TreeFrames.{among_left, among_right, value_stay, turn_stay, declare_opens, bare_frames, act_frames}

-- every object may change
abbrev pub Everything : ℕ → Type 0
Everything n = Unit {0}

-- no parameter is another one, or dies in the body
abbrev pub AreApart : List ℕ → List ℕ → Type 0
AreApart [] ds = Unit {0}
AreApart (n ∷ ns) ds = (Among (ns ++ ds) n → ⊥) × AreApart ns ds

module _ (cells : Layout) (sets : ℕ → Member → Bool) where
  -- each cell is sound, and these objects are dead
  abbrev pub Ready : List ℕ → Store → Type 0
  Ready ds st = IsSound sets cells st × Dead (Among ds) st

  pub keep_ready : {A : Type 0} {P : A → Type 0} {D O : ℕ → Type 0} {r : Run A} (ds ds' : List ℕ) → ((n : ℕ) → D n → Among ds n) → ((n : ℕ) → Among ds' n → Among ds n) → ((n : ℕ) → Among ds' n → O n → ⊥) → Kept (IsSound sets cells) (IsSound sets cells) P r → Frames Everything D O r → Kept (Ready ds) (Ready ds') P r
  keep_ready {A = A} {P = P} {O = O} {r = r} ds ds' dead fewer apart sound frames = record { by = λ s p. pair s.store p.1 (r s) (sound.by s p.0) (frames.by s (λ n d. p.1 n (dead n d))) }
    where
      pair : (st : Store) → Dead (Among ds) st → (x : Result A) → KeptAt (IsSound sets cells) P x → FramedAt Everything O st x → KeptAt (Ready ds') P x
      pair st d (Go a s) q f = (q.0, (q.1, still_dead st s.store f apart (λ n m. d n (fewer n m))))
      pair st d (Halt e s) q f = tt

module _ (cells : Layout) (no_cells : cells 0 ≡ []) (sets : ℕ → Member → Bool) (tests : Tests) (is_main : Bool) (calls : Calls) (is_static : ℕ → Bool) (first : (n : ℕ) → is_static n ≡ false → has_pointer (cells n) ≡ true → sets n Invalid ≡ true) (g : Listing) (result : List CellType) (mods : ℕ → List ℕ) (k : ℕ) (rows : ℕ → List Test) (starts : ℕ → Store → Bool) (agree : (l : ℕ) (a b : Store) → HoldAll (rows l) a b → starts l b ≡ true) (cut_calls : Bool → Calls) where
  abbrev here : Setting
  here = real cells sets tests is_main calls

  abbrev pub cut_in : Bool → Setting
  cut_in w = record { limit = Cut (suc k) (back cells sets mods starts); tests = cut_tests w rows (tests true); is_main = is_main; cells = cells; calls = cut_calls w }

  abbrev Any : Store → Type 0
  Any st = Unit {0}

  any_kept : {A : Type 0} {Pre : Store → Type 0} (r : Run A) → Kept Pre Any Always r
  any_kept {A} r = record { by = λ s p. at (r s) }
    where
      at : (x : Result A) → KeptAt Any Always x
      at (Go a s) = (tt, tt)
      at (Halt e s) = tt

  -- where the first run has no loop that needs to be followed from certain stores alone
  on : {A B : Type 0} {Pre : Store → Type 0} {r : Run A} {c : Cuts A} {f : A → Run B} {h : Bool → Bool → A → Run B} → Follows Pre r c → ((a : A) → Follows Any (f a) (λ y w. h y w a)) → Follows Pre (and_then r f) (λ y w. and_then (c y w) (h y w))
  on {r = r} first next = then_follows (any_kept r) first (λ a p. next a)

  abbrev Prepared : List ℕ → Store → Type 0
  Prepared ds st = Ready cells sets ds st

  -- ---- objects

  write_cells_follow : {Pre : Store → Type 0} (n f : ℕ) (vs : List CellValue) → Follows Pre (write_cells n f vs) (λ y w. write_cells n f vs)
  write_cells_follow n f [] = done_follows tt
  write_cells_follow n f (v ∷ vs) = on (write_follows (record { object = n; offset = f }) v) (λ u. write_cells_follow n (suc f) vs)

  fresh_follows : {Pre : Store → Type 0} (t : CellType) → Follows Pre (fresh t) (λ y w. fresh t)
  fresh_follows (Integer ty) = on choose_follows (λ c. done_follows _)
  fresh_follows Pointer = done_follows _

  fill_follows : {Pre : Store → Type 0} (n f : ℕ) (types : List CellType) → Follows Pre (fill n f types) (λ y w. fill n f types)
  fill_follows n f [] = done_follows tt
  fill_follows n f (t ∷ types) = on (fresh_follows t) (λ v. on (write_follows (record { object = n; offset = f }) v) (λ u. fill_follows n (suc f) types))

  pub declare_follows : {Pre : Store → Type 0} (n : ℕ) → Follows Pre (declare here n) (λ y w. declare (cut_in w) n)
  declare_follows n = on (enliven_follows n) (λ u. fill_follows n 0 (cells n))

  bury_all_follow : {Pre : Store → Type 0} (ms : List ℕ) → Follows Pre (bury_all ms) (λ y w. bury_all ms)
  bury_all_follow [] = done_follows tt
  bury_all_follow (m ∷ ms) = on (bury_follows m) (λ u. bury_all_follow ms)

  -- ---- expressions

  value_follows : {Pre : Store → Type 0} (e : TypedTree) → Follows Pre (value here true e) (λ y w. value (cut_in w) y e)
  value_follows (Constant ty v) = done_follows _
  value_follows (Choice ty) = on choose_follows (λ c. done_follows _)
  value_follows (Read ty (Object n)) = on (read_follows (first_of n)) (λ v. done_follows (v ∷ []))
  value_follows (Unary op ty c e) = on (value_follows e) (λ v. on (check_follows c (not (unary_overflows op ty (number_of v)))) (λ u. done_follows _))
  value_follows (Binary op ty c a b) =
      on (value_follows a) (λ v. on (value_follows b) (λ w. on (check_follows c (not (binary_overflows op ty (number_of v) (number_of w)))) (λ u. done_follows _)))
  value_follows (Convert ty e) = on (value_follows e) (λ v. done_follows _)
  value_follows (Assign ty (Object n) e) = on (value_follows e) (λ v. on (write_cells_follow n 0 v) (λ u. done_follows v))
  value_follows (Assert c e) = on (value_follows e) (λ v. on (check_follows c (holds v)) (λ u. done_follows _))

  -- ---- statements

  framed_turn : {F : Type 0} (l : ℕ) (ds : List ℕ) (st : Store) (x : Result (Unit {0} × Option F)) → Dead (Among ds) st → KeptAt (IsSound sets cells) Always x → FramedAt (Among (mods l)) NoObject st x → FramedTurn (Prepared ds) (Frame (Among (mods l)) NoObject) st x
  framed_turn l ds st (Go (u, None) s) d q f = (f, (q.1, still_dead st s.store f (λ n a o. o) d))
  framed_turn l ds st (Go (u, Some v) s) d q f = tt
  framed_turn l ds st (Halt e s) d q f = tt

  rest_follows : {Pre : Store → Type 0} (rest : Option ℕ → Run Ending) (cut : Bool → Bool → Option ℕ → Run Ending) → ((from : Option ℕ) → Follows Pre (rest from) (λ y w. cut y w from)) → (e : Ending) → Follows Pre (or_rest rest e) (λ y w. or_rest (cut y w) e)
  rest_follows rest cut h Next = record { by = λ s p. (h None).by s p }
  rest_follows rest cut h Broke = done_follows Broke
  rest_follows rest cut h Continued = done_follows Continued
  rest_follows rest cut h (Returned v) = done_follows (Returned v)
  rest_follows rest cut h (Jumping l) = record { by = λ s p. (h (Some l)).by s p }

  -- a back start comes to each head that the rows allow
  comes : (l : ℕ) (ds : List ℕ) (start a b : Store) → Prepared ds start → Frame (Among (mods l)) NoObject start b → Prepared ds b → HoldAll (rows l) a b → Simulates (λ y w. back cells sets mods starts l) start b tt
  comes l ds start a b p f q h = back_comes cells no_cells sets mods starts l start b f q.0.fits q.0.inside (agree l a b h)

  value_kept : (ds : List ℕ) (e : TypedTree) → IsTyped cells e → HasChecks g e → IsTakenIn sets e → Kept (Prepared ds) (Prepared ds) (λ v. CellsFit cells (type_of e) v × CellsIn (may_be sets e) v) (value here true e)
  value_kept ds e t c h = keep_ready cells sets {D = Among ds} {O = NoObject} ds ds (λ n d. d) (λ n d. d) (λ n d o. o) (value_sound cells sets tests is_main calls is_static first g result e t c h) (value_stay cells sets tests is_main calls Everything e (λ n k. tt))

  -- a turn of a `while`, by its test and its body
  module _ (l : ℕ) (e : TypedTree) (s : CheckedTree) (t : IsTyped cells e) (c : HasChecks g e) (h : IsTakenIn sets e) (ts : IsTypedStatement cells result s) (cs : StatementHasChecks g s) (hs : StatementIsTakenIn sets s) (bare : IsBare s) (tidy : IsTidy is_static s) (within : (n : ℕ) → Among (changes_of e ++ changes_in s) n → Among (mods l) n) where
    abbrev pub turn_here : Bool → Run (Option Ending)
    turn_here b = while_turn (value here b e) (act here b s)

    abbrev pub real_turn : Bool → Unit {0} → Run (Unit {0} × Option Ending)
    real_turn b u = and_then (turn_here b) (λ o. done (tt, o))

    abbrev cut_turn : Bool → Bool → Unit {0} → Run (Unit {0} × Option Ending)
    cut_turn y w u = and_then (while_turn (value (cut_in w) y e) (act (cut_in w) y s)) (λ o. done (tt, o))

    pub turn_sound : Kept (IsSound sets cells) (IsSound sets cells) Always (real_turn true tt)
    turn_sound =
        then_kept {P = Always}
        (then_kept (value_sound cells sets tests is_main calls is_static first g result e t c h)
        (λ v p. either_kept (holds v) (then_kept (act_sound cells sets tests is_main calls is_static first g result s ts cs hs tidy) (λ e q. done_kept (to_turn e) tt)) (done_kept (Some Next) tt)))
        (λ o p. done_kept (tt, o) tt)

    turn_framed : Frames (Among (mods l)) (Among (dying s)) NoObject (real_turn true tt)
    turn_framed =
        then_frames (Among (mods l))
        (turn_stay cells sets tests is_main calls (Among (mods l)) (value here true e) (act here true s)
        (value_stay cells sets tests is_main calls (Among (mods l)) e (λ n k. within n (among_left (changes_of e) (changes_in s) n k)))
        (bare_frames cells sets tests is_main calls (Among (mods l)) s bare (act_frames cells sets tests is_main calls (Among (mods l)) is_static s (λ n k. within n (among_right (changes_of e) (changes_in s) n k)) tidy)))
        (λ o. done_frames (Among (mods l)) (tt, o))

    while_follows : Follows (Prepared (dying s)) (act here true s) (λ y w. act (cut_in w) y s) → Follows (Prepared (dying s)) (tree_loop here l turn_here true) (λ y w. tree_loop (cut_in w) l (λ b. while_turn (value (cut_in w) b e) (act (cut_in w) b s)) y)
    while_follows body =
        on
        (loop_follows (Prepared (dying s)) l (back cells sets mods starts) rows tests (Frame (Among (mods l)) NoObject) (frame_refl (Among (mods l)) NoObject) (frame_trans (Among (mods l)) NoObject) (comes l (dying s)) Ending real_turn cut_turn k
        (on (then_follows (value_kept (dying s) e t c h) (value_follows e) (λ v p. either_follows (holds v) (on body (λ e. done_follows (to_turn e))) (done_follows (Some Next)))) (λ o. done_follows (tt, o)))
        (λ st p. framed_turn l (dying s) st.store (real_turn true tt st) p.1 (turn_sound.by st p.0) (turn_framed.by st p.1)))
        (λ r. done_follows r.1)

  mutual
    pub act_follows : (x : CheckedTree) → IsTypedStatement cells result x → StatementHasChecks g x → StatementIsTakenIn sets x → IsTidy is_static x → HasMods mods x → Follows (Prepared (dying x)) (act here true x) (λ y w. act (cut_in w) y x)
    act_follows (Block all) t c h d m = on (all_follow None all t c h d m) (λ e. on (bury_all_follow (declared all)) (λ u. done_follows e))
    act_follows (Declare n) t c h d m = on (declare_follows n) (λ u. done_follows Next)
    act_follows (Static n) t c h d m = done_follows Next
    act_follows (Initialise n e) t c h d m = on (enliven_follows n) (λ u. on (value_follows e) (λ v. on (write_cells_follow n 0 v) (λ u. done_follows Next)))
    act_follows (Label n) t c h d m = done_follows Next
    act_follows (Evaluate e) t c h d m = on (value_follows e) (λ v. done_follows Next)
    act_follows (If e s) t c h d m = then_follows (value_kept (dying s) e t.0 c.0 h.0) (value_follows e) (λ v p. either_follows (holds v) (act_follows s t.2 c.1 h.1 d.1 m) (done_follows Next))
    act_follows (IfElse e s z) t c h d m =
        then_follows (value_kept (dying s ++ dying z) e t.0 c.0 h.0) (value_follows e)
        (λ v p. either_follows (holds v)
        (fewer_follow (λ st r. (r.0, λ n a. r.1 n (among_left (dying s) (dying z) n a))) (act_follows s t.2 c.1 h.1 d.1 m.0))
        (fewer_follow (λ st r. (r.0, λ n a. r.1 n (among_right (dying s) (dying z) n a))) (act_follows z t.3 c.2 h.2 d.3 m.1)))
    act_follows (While l named e s) t c h d m = while_follows l e s t.0 c.0 h.0 t.2 c.1 h.1 d.0 d.1 m.0 (act_follows s t.2 c.1 h.1 d.1 m.1)
    act_follows (Return e) t c h d m = on (value_follows e) (λ v. either_follows is_main ended_follows (done_follows (Returned v)))

    pub all_follow : (from : Option ℕ) (all : CheckedTrees) → AreTyped cells result all → HaveChecks g all → AreTakenIn sets all → AreTidy is_static all → HaveMods mods all → Follows (Prepared (all_dying all)) (act_all here true from all) (λ y w. act_all (cut_in w) y from all)
    all_follow None none t c h d m = done_follows Next
    all_follow (Some l) none t c h d m = done_follows (Jumping l)
    all_follow None (more s rest) t c h d m =
        then_follows
        (keep_ready cells sets {D = Among (dying s)} {O = Among (opened s)} (dying s ++ all_dying rest) (all_dying rest) (λ n a. among_left (dying s) (all_dying rest) n a) (λ n a. among_right (dying s) (all_dying rest) n a) d.1
        (act_sound cells sets tests is_main calls is_static first g result s t.0 c.0 h.0 d.0) (act_frames cells sets tests is_main calls Everything is_static s (λ n k. tt) d.0))
        (fewer_follow (λ st r. (r.0, λ n a. r.1 n (among_left (dying s) (all_dying rest) n a))) (act_follows s t.0 c.0 h.0 d.0 m.0))
        (λ e p. rest_follows (λ from. act_all here true from rest) (λ y w from. act_all (cut_in w) y from rest) (λ from. all_follow from rest t.1 c.1 h.1 d.2 m.1) e)
    all_follow (Some l) (more s rest) t c h d m =
        fewer_follow (λ st r. (r.0, λ n a. r.1 n (among_right (dying s) (all_dying rest) n a))) (all_follow (past l s) rest t.1 c.1 h.1 d.2 m.1)

  -- ---- main

  params_kept : (ns ds : List ℕ) → AreApart ns ds → AreNotStatic is_static ns → Kept (Prepared (ns ++ ds)) (Prepared ds) Always (declare_all here ns)
  params_kept [] ds a h = done_kept tt tt
  params_kept (n ∷ ns) ds a h =
      then_kept
      (keep_ready cells sets {D = NoObject} {O = Among (n ∷ [])} (n ∷ ns ++ ds) (ns ++ ds) (λ m d. absurd d) (λ m d. inr d) (λ m d o. elim o [ inl e ↦ a.0 (subst (λ k. Among (ns ++ ds) k) e d) | inr z ↦ z ])
      (declare_sound cells sets tests is_main calls is_static first g result n h.0) (declare_opens cells sets tests is_main calls Everything n tt))
      (λ u q. params_kept ns ds a.1 h.1)

  params_follow : {Pre : Store → Type 0} (ns : List ℕ) → Follows Pre (declare_all here ns) (λ y w. declare_all (cut_in w) ns)
  params_follow [] = done_follows tt
  params_follow (n ∷ ns) = on (declare_follows n) (λ u. params_follow ns)

  -- the body of `main` behind its parameters
  pub main_follows : (ns : List ℕ) (x : CheckedTree) → AreApart ns (dying x) → AreNotStatic is_static ns → IsTypedStatement cells result x → StatementHasChecks g x → StatementIsTakenIn sets x → IsTidy is_static x → HasMods mods x →
      Follows (Prepared (ns ++ dying x)) (and_then (declare_all here ns) (λ u. and_then (act here true x) (λ e. done {A = Unit {0}} tt))) (λ y w. and_then (declare_all (cut_in w) ns) (λ u. and_then (act (cut_in w) y x) (λ e. done {A = Unit {0}} tt)))
  main_follows ns x a n t c h d m = then_follows (params_kept ns (dying x) a n) (params_follow ns) (λ u q. on (act_follows x t c h d m) (λ e. done_follows tt))

pub apart_from : (ns ds es : List ℕ) → ((n : ℕ) → Among ds n → Among es n) → AreDistinct (ns ++ es) → AreApart ns ds
apart_from [] ds es within h = tt
apart_from (n ∷ ns) ds es within h = (λ a. h.0 (widen ns ds ns es n (λ x. x) (within n) a), apart_from ns ds es within h.1)
