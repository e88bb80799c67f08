-- The flat list of a loop, made from behind.
use Rattle.std.proofs.Common.{◌≡◌, ℕ, ◌+◌, List, [], ◌∷◌, ◌++◌, sym, ap, ◌∙◌, append_assoc}
use Rattle.l2_code.specs.Trees.{Loop, Nodes}
use Rattle.l2_listing.specs.Flat.{Instruction, Head, Close, flat, flat_of}

pub made : (l at next : ℕ) (ends : List ℕ) (xs : Nodes) (old closed body all : List Instruction)
    → at + 1 ≡ next → closed ≡ Close l ∷ old → body ≡ flat next ends xs ++ closed → all ≡ Head l ∷ body → all ≡ flat_of at ends (Loop l xs) ++ old
made l at next ends xs old closed body all q c b a =
    a ∙ ap (λ rest. Head l ∷ rest)
    (b ∙ ap (λ rest. flat next ends xs ++ rest) c ∙ sym (append_assoc (flat next ends xs) (Close l ∷ []) old) ∙ ap (λ n. (flat n ends xs ++ Close l ∷ []) ++ old) (sym q))
