-- Text that is written in pieces.
use Rattle.std.proofs.Common.{◌≡◌, ℕ, ◌+◌, ◌-◌, List, ◌++◌, length, take, drop, Option, Some, None, refl, sym, ap, ◌∙◌, append_assoc, arith}
use Rattle.std.proofs.Math.Seq.{take-add}
use Rattle.std.proofs.lemmas.List.{take_all, length-drop}
use Rattle.l2_outside.specs.Outside.{grown}

-- what is written in two pieces is written; the second piece is as `&t[d..]` gives it
pub grown_twice : (w : Option (List ℕ)) (t : List ℕ) (d n : ℕ) → grown (grown w (take d t)) (take n (take (length t - d) (drop d t))) ≡ grown w (take (d + n) t)
grown_twice None t d n = refl
grown_twice (Some all) t d n =
    let rest : take (length t - d) (drop d t) ≡ drop d t = take_all (length t - d) (drop d t) (omega (arith, length-drop d t)) in
    ap Some (append_assoc all (take d t) (take n (take (length t - d) (drop d t))) ∙ ap (λ x. all ++ (take d t ++ take n x)) rest ∙ ap (λ x. all ++ x) (sym (take-add d n t)))
