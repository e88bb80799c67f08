-- Lists all of whose items a file can spell.
use Rattle.std.proofs.Common.{◌≡◌, ℕ, zero, suc, ◌≤◌, ◌<◌, List, [], ◌∷◌, length, slice_index_or, arith}
use Rattle.std.specs.List.{All}
use Rattle.std.proofs.lemmas.List.Elements.{All-nil, All-cons}
use Rattle.l2_templates.specs.declared.form.Form.{Form}
use Rattle.l2_templates.specs.declared.point.LoopPoint.{LoopPoint}
use Rattle.l2_templates.specs.declared.point.LoopPoint.TheVariants.{Bottom}
use Rattle.l2_cert.specs.Certificate.{IsRanking, AreRankings}

-- those before an index, whatever stands for an item that isn't there
abbrev pub AreBefore : {A : Type 0} → (A → Type 0) → List A → ℕ → Type 0
AreBefore {A = A} P xs n = (k : ℕ) (d : A) → k < n → P (slice_index_or xs k d)

pub all_before : {A : Type 0} (P : A → Type 0) (xs : List A) (n : ℕ) → AreBefore P xs n → length xs ≤ n → All P xs
all_before P [] n f l = All-nil P
all_before P (x ∷ xs) zero f l = absurd (omega (arith, l))
all_before P (x ∷ xs) (suc n) f l = All-cons P x xs (f 0 x (omega arith)) (all_before P xs n (λ k d m. f (suc k) d (omega (arith, m))) (omega (arith, l)))

-- the same with one thing that stands there
abbrev pub AreAt : {A : Type 0} → A → (A → Type 0) → List A → ℕ → Type 0
AreAt d P xs n = (k : ℕ) → k < n → P (slice_index_or xs k d)

pub all_at : {A : Type 0} (d : A) (P : A → Type 0) (xs : List A) (n : ℕ) → AreAt d P xs n → length xs ≤ n → All P xs
all_at d P [] n f l = All-nil P
all_at d P (x ∷ xs) zero f l = absurd (omega (arith, l))
all_at d P (x ∷ xs) (suc n) f l = All-cons P x xs (f 0 (omega arith)) (all_at d P xs n (λ k m. f (suc k) (omega (arith, m))) (omega (arith, l)))

abbrev pub RankBefore : List LoopPoint → List (List Form) → ℕ → Type 0
RankBefore point ranks n = (k : ℕ) → k < n → IsRanking (slice_index_or point k Bottom) (slice_index_or ranks k [])

pub all_ranked : (point : List LoopPoint) (ranks : List (List Form)) (n : ℕ) → RankBefore point ranks n → length point ≤ n → length ranks ≡ length point → AreRankings point ranks
all_ranked [] [] n f l e = tt
all_ranked [] (x ∷ ranks) n f l e = absurd (omega (arith, e))
all_ranked (p ∷ point) [] n f l e = absurd (omega (arith, e))
all_ranked (p ∷ point) (x ∷ ranks) zero f l e = absurd (omega (arith, l))
all_ranked (p ∷ point) (x ∷ ranks) (suc n) f l e = (f 0 (omega arith), all_ranked point ranks n (λ k m. f (suc k) (omega (arith, m))) (omega (arith, l)) (omega (arith, e)))
