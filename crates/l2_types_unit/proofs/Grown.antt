-- Lists of functions that calls make longer, or leave as they are.
use Rattle.std.proofs.Common.{◌≡◌, ℕ, zero, suc, ◌≤◌, Bool, true, false, List, [], ◌∷◌, ◌++◌, length, refl, ap, sym, ◌∙◌, arith}
use Rattle.std.proofs.lemmas.List.{length-append}
use Rattle.std.specs.Prelude.{if◌then◌else◌, ◌&&◌, not}
use Rattle.l2_types.specs.declared.state.Site.{Site}
use Rattle.l2_types.specs.Founds.{has}
use Rattle.l2_types_unit.specs.Calls.{grown, reached}

-- a list that is longer than another, or the same
record Longer (gs fs : List ℕ) : Type 0 where
  least : length fs ≤ length gs
  same : length gs ≤ length fs → gs ≡ fs

one_call : (rest : List Site) (fs : List ℕ) (x : ℕ) (b : Bool) → ((gs : List ℕ) → Longer (grown rest gs) gs) → Longer (grown rest (if b then fs ++ x ∷ [] else fs)) fs
one_call rest fs x true longer =
    let e = length-append fs (x ∷ []) in
    let l = (longer (fs ++ x ∷ [])).least in
    record { least = omega arith; same = λ h. absurd (omega arith) }
one_call rest fs x false longer = longer fs

grown_longer : (calls : List Site) (fs : List ℕ) → Longer (grown calls fs) fs
grown_longer [] fs = record { least = omega arith; same = λ h. refl }
grown_longer (c ∷ rest) fs = one_call rest fs c.function (has fs c.caller && not (has fs c.function)) (grown_longer rest)

reached_same : (k : ℕ) (calls : List Site) (fs : List ℕ) → grown calls fs ≡ fs → reached k calls fs ≡ fs
reached_same zero calls fs e = refl
reached_same (suc k) calls fs e = ap (λ gs. reached k calls gs) e ∙ reached_same k calls fs e

-- what calls don't make longer stays so
pub no_longer : (k : ℕ) (calls : List Site) (fs gs : List ℕ) → gs ≡ grown calls fs → length gs ≡ length fs → reached k calls fs ≡ gs
no_longer k calls fs gs e h =
    let n : length (grown calls fs) ≡ length fs = ap length (sym e) ∙ h in
    let s : grown calls fs ≡ fs = (grown_longer calls fs).same (omega arith) in
    reached_same k calls fs s ∙ sym s ∙ sym e

pub ruleset still = (no_longer)
