-- Walks along texts.
use Rattle.std.proofs.Common.{◌≡◌, ◌<◌, ◌+◌, ◌-◌, ℕ, suc, cond, true, false, Bool, List, ◌∷◌, drop, length, get_or, sym, ap, ◌∙◌, arith}
use Rattle.std.proofs.lemmas.List.{drop_more}
use Rattle.l2_pieces.specs.Fronts.{is_splice, unspliced}

unspliced_cons : (n i m : ℕ) (text rest : List ℕ) (b : ℕ) → n - i ≡ suc m → drop i text ≡ b ∷ rest → unspliced (n - i) (drop i text) ≡ cond (is_splice (drop i text)) 0 (1 + unspliced m rest)
unspliced_cons n i m text rest b e d =
    ap (λ (x : ℕ). unspliced x (drop i text)) e ∙ ap (λ (x : List ℕ). unspliced (suc m) x) d ∙ ap (λ (x : List ℕ). cond (is_splice x) 0 (1 + unspliced m rest)) (sym d)

-- one byte more
pub unspliced_more : (n i : ℕ) (text : List ℕ) → i < n → i < length text → unspliced (n - i) (drop i text) ≡ cond (is_splice (drop i text)) 0 (1 + unspliced (n - (i + 1)) (drop (i + 1) text))
unspliced_more n i text a b = let e : n - i ≡ suc (n - (i + 1)) = omega arith in unspliced_cons n i (n - (i + 1)) text (drop (i + 1) text) (get_or text i 0) e (drop_more text i 0 b)

pub unspliced_here : (n i : ℕ) (text : List ℕ) → i < n → i < length text → is_splice (drop i text) ≡ true → unspliced (n - i) (drop i text) ≡ 0
unspliced_here n i text a b s = unspliced_more n i text a b ∙ ap (λ (x : Bool). cond x 0 (1 + unspliced (n - (i + 1)) (drop (i + 1) text))) s

pub unspliced_on : (n i : ℕ) (text : List ℕ) → i < n → i < length text → is_splice (drop i text) ≡ false → unspliced (n - i) (drop i text) ≡ 1 + unspliced (n - (i + 1)) (drop (i + 1) text)
unspliced_on n i text a b s = unspliced_more n i text a b ∙ ap (λ (x : Bool). cond x 0 (1 + unspliced (n - (i + 1)) (drop (i + 1) text))) s
