-- The lists of forms that rank the loops at a point.
use Rattle.std.specs.Prelude.{◌≡◌, ℕ, ◌+◌, ◌==◌, Bool, true, not, ◌&&◌, if◌then◌else◌, ℤ, int_lt, List, [], ◌∷◌, ◌++◌, length, Option, Some, None, ◌⊎◌}
use Rattle.std.specs.Ordering.{int_eq}
use Rattle.l2_runs.specs.declared.member.Member.{Member}
use Rattle.l2_runs.specs.Numbers.{at_number}
use Rattle.l2_runs.specs.Store.{Store}
use Rattle.l2_runs.specs.Runs.{Fallen}
use Rattle.l2_program.specs.declared.program.LoopInfo.{LoopInfo}
use Rattle.l2_program.specs.Programs.{ProgramTree}
use Rattle.l2_templates.specs.declared.form.Form.{Form}
use Rattle.l2_templates.specs.declared.families.Family.TheVariants.{Octagons}
use Rattle.l2_templates.specs.declared.point.LoopPoint.{LoopPoint}
use Rattle.l2_templates.specs.Forms.{row_value}
use Rattle.l2_templates.specs.Domains.{row_list}
use Rattle.l2_cuts.specs.Points.{values_of, ranks_at}
use Rattle.l2_cuts.specs.Cuts.{rows_at, watched, cut_end, TurnsPass}

-- ---- turns

abbrev pub keeps : Form → Store → Store → Bool
keeps f old new = int_eq (row_value f (values_of new)) (row_value f (values_of old))

abbrev pub rises : Form → Store → Store → Bool
rises f old new = int_lt (row_value f (values_of old)) (row_value f (values_of new))

abbrev pub falls : Form → Store → Store → Bool
falls f old new = int_lt (row_value f (values_of new)) (row_value f (values_of old))

-- each form has one value at a turn's head and end
abbrev pub keep_all : List Form → Store → Store → Bool
keep_all [] old new = true
keep_all (f ∷ fs) old new = keeps f old new && keep_all fs old new

-- the turns of a loop that aren't so pass, and those of other loops
abbrev pub unless_so : ℕ → (Store → Store → Bool) → ℕ → Store → Store → Bool
unless_so l so m old new = if m == l then not (so old new) else true

-- no turn of a loop that counts is so
abbrev pub NoTurn : ProgramTree → (ℕ → Member → Bool) → ℕ → List LoopPoint → ℕ → (Store → Store → Bool) → Type 0
NoTurn p sets k q l so = TurnsPass p sets k q (unless_so l so)

-- some turn of a loop that counts is so
abbrev pub SomeTurn : ProgramTree → (ℕ → Member → Bool) → ℕ → List LoopPoint → ℕ → (Store → Store → Bool) → Type 0
SomeTurn p sets k q l so = (choices : List ℤ) × (cut_end p sets k q (watched q (unless_so l so)) choices ≡ Fallen l (length (rows_at q l) + 1))

-- ---- lists

abbrev pub octagons_of : Option LoopInfo → List Form
octagons_of None = []
octagons_of (Some loop) = row_list Octagons loop.vars loop.mods

-- the forms that may rank a loop, in order
abbrev pub candidates : ProgramTree → ℕ → List Form
candidates p l = octagons_of (at_number p.loops l)

-- behind these forms: of the turns on which they keep their values, the form rises on none and falls on some
abbrev pub Serves : ProgramTree → (ℕ → Member → Bool) → ℕ → List LoopPoint → ℕ → List Form → Form → Type 0
Serves p sets k q l fs f = NoTurn p sets k q l (λ old new. keep_all fs old new && rises f old new) × SomeTurn p sets k q l (λ old new. keep_all fs old new && falls f old new)

-- the first of these that serves
abbrev pub IsFirstServing : ProgramTree → (ℕ → Member → Bool) → ℕ → List LoopPoint → ℕ → List Form → List Form → Form → Type 0
IsFirstServing p sets k q l fs [] f = ⊥
IsFirstServing p sets k q l fs (c ∷ cs) f = ((c ≡ f) × Serves p sets k q l fs f) ⊎ ((¬ Serves p sets k q l fs c) × IsFirstServing p sets k q l fs cs f)

abbrev pub NoneServes : ProgramTree → (ℕ → Member → Bool) → ℕ → List LoopPoint → ℕ → List Form → List Form → Type 0
NoneServes p sets k q l fs [] = Unit {0}
NoneServes p sets k q l fs (c ∷ cs) = (¬ Serves p sets k q l fs c) × NoneServes p sets k q l fs cs

-- behind these forms the list goes on so: always with the first candidate that serves, until no turn is left
abbrev pub IsGreedy : ProgramTree → (ℕ → Member → Bool) → ℕ → List LoopPoint → ℕ → List Form → List Form → Type 0
IsGreedy p sets k q l fs [] = NoTurn p sets k q l (keep_all fs)
IsGreedy p sets k q l fs (g ∷ gs) = IsFirstServing p sets k q l fs (candidates p l) g × IsGreedy p sets k q l (fs ++ g ∷ []) gs

-- behind these forms the list goes on so to where turns are left and no candidate serves
abbrev pub IsStuck : ProgramTree → (ℕ → Member → Bool) → ℕ → List LoopPoint → ℕ → List Form → List Form → Type 0
IsStuck p sets k q l fs [] = SomeTurn p sets k q l (keep_all fs) × NoneServes p sets k q l fs (candidates p l)
IsStuck p sets k q l fs (g ∷ gs) = IsFirstServing p sets k q l fs (candidates p l) g × IsStuck p sets k q l (fs ++ g ∷ []) gs

abbrev pub IsLoop : ProgramTree → ℕ → Type 0
IsLoop p l = (loop : LoopInfo) × (at_number p.loops l ≡ Some loop)

-- the lists of all loops, or that some loop has none
abbrev pub RanksAre : ProgramTree → (ℕ → Member → Bool) → ℕ → List LoopPoint → Option (List (List Form)) → Type 0
RanksAre p sets k q (Some r) = (length r ≡ length p.loops) × ((l : ℕ) → IsLoop p l → IsGreedy p sets k q l [] (ranks_at r l))
RanksAre p sets k q None = (l : ℕ) × IsLoop p l × ((fs : List Form) × IsStuck p sets k q l [] fs)
