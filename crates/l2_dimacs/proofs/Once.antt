-- A text is one formula at most.
use Rattle.std.proofs.Common.{◌≡◌, inl, inr, ℕ, ℤ, List, [], ◌∷◌, ◌++◌, sym, subst, ◌∙◌, append-nil, arith}
use Rattle.l2_dimacs.specs.Tokens.{Token}
use Rattle.l2_dimacs.specs.Profile.{IsBody, IsFormula, flat}
use Rattle.l2_dimacs.specs.Reading.{IsRest}
use Rattle.l2_dimacs.proofs.Spelling.{one_item, one_number, percent_spells_none}
use Rattle.l2_dimacs.proofs.Clauses.{flat_front}
use Rattle.l2_dimacs.proofs.Rest.{FirstOf, IsDone, body_is, first_of, last_of}

both_done : (before : List ℤ) (count : ℕ) (ts : List Token) (cs ds : List (List ℤ)) → IsDone before count ts cs → IsDone before count ts ds → cs ≡ ds
both_done before count ts cs ds c d = (flat_front cs ds [] c.literals d.literals (c.whole ∙ sym d.whole ∙ sym (append-nil (flat ds))) (omega (arith, c.all, d.all))).0

one_rest : (v count : ℕ) (before : List ℤ) (ts : List Token) (cs ds : List (List ℤ)) → IsRest v before count ts cs → IsRest v before count ts ds → cs ≡ ds
one_rest v count before [] cs ds c d = both_done before count [] cs ds (last_of v before count cs c) (last_of v before count ds d)
one_rest v count before (t ∷ ts) cs ds c d = go (λ b cs ds c d. one_rest v count b ts cs ds c d) (first_of v before count t ts cs c) (first_of v before count t ts ds d)
  where
    go : ((before : List ℤ) (cs ds : List (List ℤ)) → IsRest v before count ts cs → IsRest v before count ts ds → cs ≡ ds) → FirstOf v before count t ts cs → FirstOf v before count t ts ds → cs ≡ ds
    go again (inl x) (inl y) = both_done before count (t ∷ ts) cs ds x y
    go again (inl x) (inr (z, spells, more)) = absurd (percent_spells_none v z t.word x.ends spells)
    go again (inr (z, spells, more)) (inl y) = absurd (percent_spells_none v z t.word y.ends spells)
    go again (inr (z, spells, more)) (inr (y, other, rest)) = again (before ++ z ∷ []) cs ds more (subst (λ x. IsRest v (before ++ x ∷ []) count ts ds) (one_item v y z t.word other spells) rest)

pub one_formula : (ts : List Token) (v w : ℕ) (cs ds : List (List ℤ)) → IsFormula ts v cs → IsFormula ts w ds → (v ≡ w) × (cs ≡ ds)
one_formula [] v w cs ds first second = absurd first
one_formula (p ∷ []) v w cs ds first second = absurd first.1
one_formula (p ∷ name ∷ []) v w cs ds first second = absurd first.1.2
one_formula (p ∷ name ∷ variables ∷ []) v w cs ds first second = absurd first.1.2.3
one_formula (p ∷ name ∷ variables ∷ counted ∷ ts) v w cs ds first second =
    let (n, here, number, body) = first.1.2.3 in
    let (m, there, other, behind) = second.1.2.3 in
    let same : w ≡ v = one_number variables.word w v second.1.2.1 first.1.2.1 in
    let count : m ≡ n = one_number counted.word m n other number in
    let again : IsBody v n ts ds = subst (λ k. IsBody v k ts ds) count (subst (λ k. IsBody k m ts ds) same behind) in
    (sym same, one_rest v n [] ts cs ds ((body_is v n ts cs).0 body) ((body_is v n ts ds).0 again))
