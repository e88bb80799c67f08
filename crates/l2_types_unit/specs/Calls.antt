-- Which functions calls lead to.
use Rattle.std.specs.Prelude.{ℕ, zero, suc, ◌&&◌, not, if◌then◌else◌, List, [], ◌∷◌, ◌++◌}
use Rattle.l2_types.specs.declared.state.Site.{Site}
use Rattle.l2_types.specs.Founds.{has}

abbrev pub with_callee : Site → List ℕ → List ℕ
with_callee c fs = if has fs c.caller && not (has fs c.function) then fs ++ c.function ∷ [] else fs

-- the functions that are among these, or that calls in them name
abbrev pub grown : List Site → List ℕ → List ℕ
grown [] fs = fs
grown (c ∷ rest) fs = grown rest (with_callee c fs)

-- the same through so many calls, one after another
abbrev pub reached : ℕ → List Site → List ℕ → List ℕ
reached zero calls fs = fs
reached (suc k) calls fs = reached k calls (grown calls fs)
