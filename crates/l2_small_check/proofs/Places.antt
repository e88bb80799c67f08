-- The places of names, as they are written.
use Rattle.std.proofs.Common.{◌≡◌, ◌≢◌, ℕ, zero, suc, ◌+◌, ◌<◌, ◌↔◌, false, List, [], ◌∷◌, ◌++◌, length, refl, sym, ap, ◌∙◌, arith}
use Rattle.std.specs.Prelude.{slice_set, ◌||◌, ◌==◌}
use Rattle.std.proofs.Math.ListN.{get_or-append}
use Rattle.std.proofs.Math.Seq.{get_or-append_seam}
use Rattle.std.proofs.lemmas.List.{get_or-set_same, get_or-set_other, length-append}
use native.Mathlib.Decide.{ℕ_discrete, dec_lt}
use Rattle.l2_program.specs.declared.program.ObjectInfo.{ObjectInfo}
use Rattle.l2_small_check.specs.Elaboration.{Scope, is_declared}
use Rattle.l2_small_check.specs.Tables.{place_of, entry_at, ArePlaced, AreDeclared}

-- one more name without a place
pub place_of-push : (places : List ℕ) (n : ℕ) → place_of (places ++ 0 ∷ []) n ≡ place_of places n
place_of-push [] zero = refl
place_of-push [] (suc n) = refl
place_of-push (p ∷ rest) zero = refl
place_of-push (p ∷ rest) (suc n) = place_of-push rest n

pub ruleset places = (place_of-push)

pub is_declared_more : (objects : List ObjectInfo) (o : ObjectInfo) (m : ℕ) → is_declared (objects ++ o ∷ []) m ≡ (is_declared objects m || o.name == m)
is_declared_more [] o m = grind arith
is_declared_more (p ∷ rest) o m = let r = is_declared_more rest o m in grind arith

-- a name that has no place gets one behind the entries
module _ (old places : List ℕ) (n k : ℕ) (same : (m : ℕ) → place_of places m ≡ place_of old m) (new : place_of old n ≡ 0) (room : n < length places) where
  here : place_of (slice_set places n k) n ≡ k
  here = get_or-set_same places n k 0 room

  elsewhere : (m : ℕ) → m ≢ n → place_of (slice_set places n k) m ≡ place_of old m
  elsewhere m d = get_or-set_other places n m k 0 d ∙ same m

  pub placed_still : (entries : Scope) → ArePlaced entries old → ArePlaced entries (slice_set places n k)
  placed_still entries placed i l =
      let p = placed i l in
      elsewhere (entry_at entries i).name (λ e. let q = ap (place_of old) e in omega arith) ∙ p

  pub placed_more : (entries : Scope) (o : ℕ) → k ≡ length entries + 1 → ArePlaced entries old → ArePlaced (entries ++ record { name = n; object = o } ∷ []) (slice_set places n k)
  placed_more entries o e placed i l = go (dec_lt i (length entries)) where
    more : Scope
    more = entries ++ record { name = n; object = o } ∷ []

    go : Dec (i < length entries) → place_of (slice_set places n k) (entry_at more i).name ≡ i + 1
    go (yes h) =
        ap (λ d. place_of (slice_set places n k) d.name) (get_or-append entries (record { name = n; object = o } ∷ []) (record { name = 0; object = 0 }) i h)
        ∙ placed_still entries placed i h
    go (no h) =
        let size = length-append entries (record { name = n; object = o } ∷ []) in
        let last : i ≡ length entries = omega arith in
        let seam : entry_at more i ≡ record { name = n; object = o } = ap (entry_at more) last ∙ get_or-append_seam entries (record { name = n; object = o }) [] (record { name = 0; object = 0 }) in
        let sum : k ≡ i + 1 = omega arith in
        ap (λ d. place_of (slice_set places n k) d.name) seam ∙ here ∙ sum

  pub declared_more : (objects : List ObjectInfo) (o : ObjectInfo) → o.name ≡ n → k ≢ 0 → AreDeclared objects old → AreDeclared (objects ++ o ∷ []) (slice_set places n k)
  declared_more objects o e positive declared m = go (ℕ_discrete m n) where
    go : Dec (m ≡ n) → (place_of (slice_set places n k) m ≡ 0) ↔ (is_declared (objects ++ o ∷ []) m ≡ false)
    go (yes h) =
        let both = is_declared_more objects o m in
        let at : place_of (slice_set places n k) m ≡ k = ap (place_of (slice_set places n k)) h ∙ here in
        (λ q. absurd (positive (sym at ∙ q)), λ q. grind arith)
    go (no h) =
        let both = is_declared_more objects o m in
        let at = elsewhere m h in
        let (there, back) = declared m in
        (λ q. let f = there (sym at ∙ q) in grind arith, λ q. at ∙ back (grind arith))
