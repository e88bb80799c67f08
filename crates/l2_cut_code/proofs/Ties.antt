-- Back starts of a program and of its code.
use Rattle.std.proofs.Common.{◌≡◌, ℕ, zero, suc, ◌≤◌, Bool, true, false, nat_le, ℤ, pos, negsuc, List, [], ◌∷◌, map, length, Option, Some, None, IfSome, refl, sym, ap, ◌∙◌, arith}
use Rattle.std.proofs.lemmas.Bool.Decides.{nat_tests}
use Rattle.std.specs.Ordering.{int_eq}
use Rattle.l2_bits.specs.Values.{wrap}
use Rattle.l2_bits.proofs.Wraps.{wrap_value}
use Rattle.l2_runs.specs.declared.member.Member.{Member}
use Rattle.l2_runs.specs.declared.cells.CellType.{CellType}
use Rattle.l2_runs.specs.declared.cells.CellType.TheVariants.{Integer, Pointer}
use Rattle.l2_runs.specs.declared.cells.CellValue.{CellValue}
use Rattle.l2_runs.specs.declared.cells.CellValue.TheVariants.{Number, Null, Invalid, At}
use Rattle.l2_runs.specs.declared.outcome.Outcome.TheVariants.{Stopped}
use Rattle.l2_runs.specs.Numbers.{at_number}
use Rattle.l2_runs.specs.Store.{Store}
use Rattle.l2_runs.specs.Fits.{Layout, CellFits}
use Rattle.l2_runs.specs.Keeps.{Anything, Keeps}
use Rattle.l2_runs.specs.Members.{is_in}
use Rattle.l2_runs.specs.Runs.{Over, Run, done, stop, either}
use Rattle.l2_runs.specs.Loops.{Cut, Tests}
use Rattle.l2_runs.specs.Back.{any_value, back, on_member, pointer_of, scatter, scatter_cells, where_so}
use Rattle.l2_runs.proofs.Keeping.{choose_keep, done_keep, over_keep, then_keep, write_keep}
use Rattle.l2_runs.proofs.Stores.{fits_seam, from, from_next}
use Rattle.l2_program.specs.declared.program.LoopInfo.{LoopInfo}
use Rattle.l2_program.specs.Programs.{ProgramTree}
use Rattle.l2_meaning.specs.Execution.{cells_of, exec}
use Rattle.l2_meaning.specs.Lawful.{IsCheckOf, IsLawful}
use Rattle.l2_templates.specs.declared.point.LoopPoint.{LoopPoint}
use Rattle.l2_cuts.specs.Points.{starts}
use Rattle.l2_cuts.specs.Cuts as cuts
use Rattle.l2_cuts.specs.Cuts.{cut_limit, known_mods}
use Rattle.l2_code.specs.Sets.{Family}
use Rattle.l2_code.specs.Modes.{loop_mods, mods_of, types_of}
use Rattle.l2_lower.specs.Alike.{exec_code}
use Rattle.l2_lower.specs.Code.{code, code_loop}
use Rattle.l2_lower.proofs.Executions.{exec_law}
use Rattle.l2_lower.proofs.ProgramRuns.{program_types}
use Rattle.l2_cut_code.specs.Limits.{NameCells, point_limit}

-- ---- the same objects change

mods_listed : (loops : List LoopInfo) (n : ℕ) → loop_mods (at_number (map code_loop loops) n) ≡ known_mods (at_number loops n)
mods_listed [] zero = refl
mods_listed [] (suc n) = refl
mods_listed (l ∷ loops) zero = refl
mods_listed (l ∷ loops) (suc zero) = refl
mods_listed (l ∷ loops) (suc (suc n)) = mods_listed loops (suc n)

same_mods : (p : ProgramTree) → mods_of (code p) ≡ cuts.mods_of p
same_mods p = λ i n. mods_listed p.loops n i

pub same_limit : (p : ProgramTree) (f : Family) (k : ℕ) (q : List LoopPoint) → cut_limit p f.object k q ≡ point_limit (code p) f k q
same_limit p f k q =
    ap (λ (cells : Layout). Cut k (back cells f.object (cuts.mods_of p) (starts q))) (sym (ap (λ t. t.objects) (program_types p)))
    ∙ ap (λ (mods : ℕ → List ℕ). Cut k (back (types_of (code p)).objects f.object mods (starts q))) (sym (same_mods p))

-- ---- back starts keep the types

module _ (cells : Layout) (IsCheck : ℕ → Type 0) (sets : ℕ → Member → Bool) (over : NameCells cells sets) where
  abbrev Keep : {A : Type 0} → (A → Type 0) → Run A → Type 0
  Keep P r = Keeps cells IsCheck P r

  abbrev Near : CellValue → Type 0
  Near (Number z) = ⊥
  Near Null = Unit {0}
  Near Invalid = Unit {0}
  Near (At o i) = i ≤ length (cells o)

  near_where : (v : CellValue) (b : Bool) → (b ≡ true → Near v) → IfSome (where_so v b) Near
  near_where v true h = h refl
  near_where v false h = tt

  le_of : (a b : ℕ) → nat_le a b ≡ true → a ≤ b
  le_of a b e = grind (arith, nat_tests)

  pointer_near : (sel off : ℤ) → IfSome (pointer_of cells sel off) Near
  pointer_near (pos zero) off = near_where Null (int_eq off (pos 0)) (λ e. tt)
  pointer_near (pos (suc zero)) off = near_where Invalid (int_eq off (pos 0)) (λ e. tt)
  pointer_near (pos (suc (suc n))) (pos i) = near_where (At (suc n) i) (nat_le i (length (cells (suc n)))) (λ e. le_of i (length (cells (suc n))) e)
  pointer_near (pos (suc (suc n))) (negsuc i) = tt
  pointer_near (negsuc n) off = tt

  near_fits : (n : ℕ) (v : CellValue) → Near v → is_in (sets n) v ≡ true → CellFits cells Pointer v
  near_fits n (Number z) h e = absurd h
  near_fits n Null h e = tt
  near_fits n Invalid h e = tt
  near_fits n (At o i) h e = (over n o e, h)

  stopped : {A : Type 0} {P : A → Type 0} → Keep P (stop {A = A})
  stopped = over_keep cells IsCheck (Over Stopped) tt

  member_keep : (n : ℕ) (x : Option CellValue) → IfSome x Near → Keep (CellFits cells Pointer) (on_member (sets n) x done)
  member_keep n None h = stopped
  member_keep n (Some v) h = go (is_in (sets n) v) refl where
    go : (t : Bool) → is_in (sets n) v ≡ t → Keep (CellFits cells Pointer) (either t (done v) stop)
    go true e = done_keep cells IsCheck v (near_fits n v h e)
    go false e = stopped

  value_keep : (n : ℕ) (t : CellType) → Keep (CellFits cells t) (any_value cells (sets n) t)
  value_keep n (Integer ty) = then_keep cells IsCheck (choose_keep cells IsCheck) (λ z p. done_keep cells IsCheck (Number (wrap ty z)) (wrap_value ty z))
  value_keep n Pointer = then_keep cells IsCheck (choose_keep cells IsCheck) (λ sel p. then_keep cells IsCheck (choose_keep cells IsCheck) (λ off q. member_keep n (pointer_of cells sel off) (pointer_near sel off)))

  cells_keep : (n i : ℕ) (ts : List CellType) → from i (cells n) ≡ ts → Keep Anything (scatter_cells cells (sets n) n i ts)
  cells_keep n i [] e = done_keep cells IsCheck tt tt
  cells_keep n i (t ∷ ts) e = then_keep cells IsCheck (value_keep n t)
      (λ v p. then_keep cells IsCheck (write_keep cells IsCheck (record { object = n; offset = i }) v (fits_seam cells (cells n) i t ts v e p))
      (λ u q. cells_keep n (suc i) ts (from_next (cells n) i t ts e)))

  scatter_keep : (ns : List ℕ) → Keep Anything (scatter cells sets ns)
  scatter_keep [] = done_keep cells IsCheck tt tt
  scatter_keep (n ∷ ns) = then_keep cells IsCheck (cells_keep n 0 (cells n) refl) (λ u p. scatter_keep ns)

  passes_keep : (t : Bool) → Keep Anything (either {A = Unit {0}} t (done tt) stop)
  passes_keep true = done_keep cells IsCheck tt tt
  passes_keep false = stopped

  pub back_keep : (mods : ℕ → List ℕ) (passes : ℕ → Store → Bool) (l : ℕ) → Keep Anything (back cells sets mods passes l)
  back_keep mods passes l = then_keep cells IsCheck (scatter_keep (mods l)) (λ u p. record { by = λ s fits. (passes_keep (passes l s.store)).by s fits })

pub same_executions : (p : ProgramTree) → IsLawful p → (f : Family) → NameCells (cells_of p) f.object → (k : ℕ) (q : List LoopPoint) (tests : Tests) (choices : List ℤ) (turns : ℕ) → exec p (cut_limit p f.object k q) tests choices turns ≡ exec_code (code p) (point_limit (code p) f k q) tests choices turns
same_executions p lawful f over k q tests choices turns =
    exec_law p lawful (cut_limit p f.object k q) tests (back_keep (cells_of p) (IsCheckOf p) f.object over (cuts.mods_of p) (starts q)) choices turns
    ∙ ap (λ limit. exec_code (code p) limit tests choices turns) (same_limit p f k q)
