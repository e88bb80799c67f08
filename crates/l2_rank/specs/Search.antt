-- Where the search for a list of forms stands.
use Rattle.std.specs.Prelude.{◌≡◌, ℕ, Bool, true, false, cond, List, [], ◌++◌, length, slice_index_or, Contains, sum_by}
use Rattle.l2_templates.specs.declared.form.Form.{Form}
use Rattle.l2_templates.specs.Forms.{form_at}
use Rattle.l2_rank.specs.Greedy.{IsGreedy, IsStuck}

-- a candidate that isn't used counts
abbrev pub unused : Bool → ℕ
unused used = cond used 0 1

-- how many candidates aren't used
abbrev pub left : List Bool → ℕ
left used = sum_by unused used

-- there is a mark for each candidate, and what is used stands in the list
pub record AreMarked (candidates fs : List Form) (used : List Bool) : Type 0 where
  pub all : length used ≡ length candidates
  pub stand : (i : ℕ) → slice_index_or used i false ≡ true → Contains fs (form_at candidates i)

-- whatever goes on greedily behind these forms, or so to where it is stuck, does so with them from the start
pub record IsBegun (Moves : List Form → Form → Bool → Type 0) (Stays : List Form → Type 0) (candidates fs : List Form) : Type 0 where
  pub greedy : (gs : List Form) → IsGreedy Moves Stays candidates fs gs → IsGreedy Moves Stays candidates [] (fs ++ gs)
  pub stuck : (gs : List Form) → IsStuck Moves Stays candidates fs gs → IsStuck Moves Stays candidates [] (fs ++ gs)
