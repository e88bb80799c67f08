-- Loops that take their sets one after another, and walks that come to the end of a loop.
use Rattle.std.proofs.Common.{◌≡◌, ℕ, zero, suc, ◌<◌, ◌≤◌, Bool, List, [], ◌∷◌, ◌++◌, length, drop, refl, ap, sym, ◌∙◌, arith, append_assoc}
use Rattle.std.specs.Prelude.{slice_set, slice_index_or}
use Rattle.std.proofs.Math.Seq.{set-append_seam, drop-append_seam}
use Rattle.l2_runs.specs.Fits.{Layout}
use Rattle.l2_program.specs.declared.program.LoopInfo.{LoopInfo}
use Rattle.l2_program.specs.Checked.{TypedTree, CheckedTree, While}
use Rattle.l2_meaning.specs.declared.sets.LoopSets.{LoopSets}
use Rattle.l2_meaning.specs.Changes.{take_sets, sets_of_loop, changes_of, changes_in, loop_sets, function_loop_sets, functions_loop_sets}
use Rattle.l2_program.specs.Programs.{ProgramTree, FunctionTree}
use Rattle.l2_mods.specs.Walks.{WalkValue, sets_of_functions}

pub take_no_sets : (loops : List LoopInfo) → take_sets loops [] ≡ loops
take_no_sets [] = refl
take_no_sets (i ∷ loops) = refl

pub length_taken : (loops : List LoopInfo) (sets : List LoopSets) → length (take_sets loops sets) ≡ length loops
length_taken [] sets = refl
length_taken (i ∷ loops) [] = refl
length_taken (i ∷ loops) (s ∷ sets) = let r = length_taken loops sets in omega arith

pub one_more : (loops : List LoopInfo) (sets : List LoopSets) (s : LoopSets) (k : ℕ) (info : LoopInfo) → k ≡ length sets → k < length loops → info ≡ slice_index_or (take_sets loops sets) k info →
    slice_set (take_sets loops sets) k (record info { mods = s.mods; vars = s.vars }) ≡ take_sets loops (sets ++ s ∷ [])
one_more [] sets s k info e l is = absurd (omega arith)
one_more (i ∷ loops) [] s zero info e l is = ap (λ (x : LoopInfo). record x { mods = s.mods; vars = s.vars } ∷ loops) is ∙ ap (λ xs. record i { mods = s.mods; vars = s.vars } ∷ xs) (sym (take_no_sets loops))
one_more (i ∷ loops) [] s (suc k) info e l is = absurd (omega arith)
one_more (i ∷ loops) (t ∷ sets) s zero info e l is = absurd (omega arith)
one_more (i ∷ loops) (t ∷ sets) s (suc k) info e l is = ap (λ xs. record i { mods = t.mods; vars = t.vars } ∷ xs) (one_more loops sets s k info (omega arith) (omega arith) is)

pub enough : (loops : List LoopInfo) (sets : List LoopSets) (s : LoopSets) → length loops ≤ length sets → take_sets loops sets ≡ take_sets loops (sets ++ s ∷ [])
enough [] sets s l = refl
enough (i ∷ loops) [] s l = absurd (omega arith)
enough (i ∷ loops) (t ∷ sets) s l = ap (λ xs. record i { mods = t.mods; vars = t.vars } ∷ xs) (enough loops sets s (omega arith))

-- ---- the end of a loop

abbrev walked : List ℕ → List ℕ → List LoopSets → WalkValue
walked scope changed sets = record { scope = scope; changed = changed; sets = sets }

module _ (cells : Layout) (is_static : ℕ → Bool) (scope : List ℕ) (l : ℕ) (named : List ℕ) where
  changed_inside : (before test body : List ℕ) → drop (length before) ((before ++ test) ++ body) ≡ test ++ body
  changed_inside before test body = ap (drop (length before)) (append_assoc before test body) ∙ drop-append_seam before (test ++ body)

  filled : (before inner : List LoopSets) (hole sets : LoopSets) → slice_set ((before ++ hole ∷ []) ++ inner) (length before) sets ≡ before ++ sets ∷ inner
  filled before inner hole sets = ap (λ xs. slice_set xs (length before) sets) (append_assoc before (hole ∷ []) inner) ∙ set-append_seam before hole inner sets

  closed_changed : (changed test body : List ℕ) (before inner : List LoopSets) (hole : LoopSets) →
      walked scope ((changed ++ test) ++ body) (slice_set ((before ++ hole ∷ []) ++ inner) (length before) (sets_of_loop cells is_static scope l (drop (length changed) ((changed ++ test) ++ body)) named))
      ≡ walked scope (changed ++ (test ++ body)) (before ++ sets_of_loop cells is_static scope l (test ++ body) named ∷ inner)
  closed_changed changed test body before inner hole =
      ap (λ xs. walked scope ((changed ++ test) ++ body) xs) (filled before inner hole (sets_of_loop cells is_static scope l (drop (length changed) ((changed ++ test) ++ body)) named))
      ∙ ap (λ xs. walked scope ((changed ++ test) ++ body) (before ++ sets_of_loop cells is_static scope l xs named ∷ inner)) (changed_inside changed test body)
      ∙ ap (λ xs. walked scope xs (before ++ sets_of_loop cells is_static scope l (test ++ body) named ∷ inner)) (append_assoc changed test body)

-- a walk that came to the end of a loop, by the steps that it took
pub while_done : (cells : Layout) (is_static : ℕ → Bool) (w0 w1 w2 w3 : WalkValue) (l : ℕ) (named given : List ℕ) (e : TypedTree) (s tree : CheckedTree) (index from : ℕ) (hole : LoopSets) →
    tree ≡ While l named e s → from ≡ length w0.changed → index ≡ length w0.sets → given ≡ named →
    w1 ≡ record w0 { sets = w0.sets ++ hole ∷ [] } →
    w2 ≡ record w1 { changed = w1.changed ++ changes_of e } →
    w3 ≡ record w2 { changed = w2.changed ++ changes_in s; sets = w2.sets ++ loop_sets cells is_static w2.scope s } →
    walked w3.scope w3.changed (slice_set w3.sets index (sets_of_loop cells is_static w3.scope l (drop from w3.changed) given)) ≡ walked w0.scope (w0.changed ++ changes_in tree) (w0.sets ++ loop_sets cells is_static w0.scope tree)
while_done cells is_static w0 w1 w2 w3 l named given e s tree index from hole is at place same opened test body =
    ap (λ (w : WalkValue). walked w.scope w.changed (slice_set w.sets index (sets_of_loop cells is_static w.scope l (drop from w.changed) given))) whole
    ∙ ap (λ i. walked w0.scope changed (slice_set sets i (sets_of_loop cells is_static w0.scope l (drop from changed) given))) place
    ∙ ap (λ i. walked w0.scope changed (slice_set sets (length w0.sets) (sets_of_loop cells is_static w0.scope l (drop i changed) given))) at
    ∙ ap (λ ns. walked w0.scope changed (slice_set sets (length w0.sets) (sets_of_loop cells is_static w0.scope l (drop (length w0.changed) changed) ns))) same
    ∙ closed_changed cells is_static w0.scope l named w0.changed (changes_of e) (changes_in s) w0.sets (loop_sets cells is_static w0.scope s) hole
    ∙ ap (λ t. walked w0.scope (w0.changed ++ changes_in t) (w0.sets ++ loop_sets cells is_static w0.scope t)) (sym is)
  where
    changed : List ℕ
    changed = (w0.changed ++ changes_of e) ++ changes_in s

    sets : List LoopSets
    sets = (w0.sets ++ hole ∷ []) ++ loop_sets cells is_static w0.scope s

    whole : w3 ≡ walked w0.scope changed sets
    whole = body ∙ ap (λ (w : WalkValue). walked w.scope (w.changed ++ changes_in s) (w.sets ++ loop_sets cells is_static w.scope s)) (test ∙ ap (λ (w : WalkValue). walked w.scope (w.changed ++ changes_of e) w.sets) opened)

-- ---- programs

pub same_sets : (p : ProgramTree) (fs : List FunctionTree) → sets_of_functions p.objects fs ≡ functions_loop_sets p fs
same_sets p [] = refl
same_sets p (f ∷ fs) = ap (λ xs. function_loop_sets p f ++ xs) (same_sets p fs)
