-- The greedy lists of forms that rank loops, by what the turns of the loops do.
use Rattle.std.specs.Prelude.{◌≡◌, ◌⊎◌, ℕ, Bool, true, false, List, [], ◌∷◌, ◌++◌, length, Option, Some, None}
use Rattle.l2_runs.specs.Numbers.{at_number}
use Rattle.l2_program.specs.declared.program.LoopInfo.{LoopInfo}
use Rattle.l2_templates.specs.declared.form.Form.{Form}
use Rattle.l2_templates.specs.declared.families.Family.TheVariants.{Octagons}
use Rattle.l2_templates.specs.Domains.{row_list}

-- of a loop: on some turn these forms keep their values, and one more rises, or falls where the last is false
module _ (Moves : List Form → Form → Bool → Type 0) where
  -- behind these forms: of the turns on which they keep their values, the form rises on none and falls on some
  abbrev pub Serves : List Form → Form → Type 0
  Serves fs f = (¬ Moves fs f true) × Moves fs f false

  -- the first of these that serves
  abbrev pub IsFirstServing : List Form → List Form → Form → Type 0
  IsFirstServing fs [] f = ⊥
  IsFirstServing fs (c ∷ cs) f = ((c ≡ f) × Serves fs f) ⊎ ((¬ Serves fs c) × IsFirstServing fs cs f)

  abbrev pub NoneServes : List Form → List Form → Type 0
  NoneServes fs [] = Unit {0}
  NoneServes fs (c ∷ cs) = (¬ Serves fs c) × NoneServes fs cs

-- the same, and: on some turn these forms keep their values; and the forms that may stand in the list, in order
module _ (Moves : List Form → Form → Bool → Type 0) (Stays : List Form → Type 0) (candidates : List Form) where
  -- behind these forms the list goes on so: always with the first candidate that serves, until no turn is left
  abbrev pub IsGreedy : List Form → List Form → Type 0
  IsGreedy fs [] = ¬ Stays fs
  IsGreedy fs (g ∷ gs) = IsFirstServing Moves fs candidates g × IsGreedy (fs ++ g ∷ []) gs

  -- behind these forms the list goes on so to where turns are left and no candidate serves
  abbrev pub IsStuck : List Form → List Form → Type 0
  IsStuck fs [] = Stays fs × NoneServes Moves fs candidates
  IsStuck fs (g ∷ gs) = IsFirstServing Moves fs candidates g × IsStuck (fs ++ g ∷ []) gs

-- the forms that may rank a loop, in order
abbrev pub candidates_of : LoopInfo → List Form
candidates_of loop = row_list Octagons loop.vars loop.mods

abbrev pub or_no_forms : Option (List Form) → List Form
or_no_forms None = []
or_no_forms (Some r) = r

-- the lists of all loops, or that some loop has none
abbrev pub AreRanks : (ℕ → List Form → Form → Bool → Type 0) → (ℕ → List Form → Type 0) → List LoopInfo → Option (List (List Form)) → Type 0
AreRanks Moves Stays loops (Some r) =
    (length r ≡ length loops) × ((l : ℕ) (loop : LoopInfo) → at_number loops l ≡ Some loop → IsGreedy (Moves l) (Stays l) (candidates_of loop) [] (or_no_forms (at_number r l)))
AreRanks Moves Stays loops None =
    (l : ℕ) × (loop : LoopInfo) × (at_number loops l ≡ Some loop) × ((fs : List Form) × IsStuck (Moves l) (Stays l) (candidates_of loop) [] fs)
