-- One name of a text more.
use Rattle.std.proofs.Common.{◌≡◌, ℕ, ◌<◌, ◌+◌, List, ◌∷◌, length, drop, get_or, Option, ap, sym, ◌∙◌}
use Rattle.std.proofs.lemmas.List.{drop_more}
use Rattle.l2_syntax.specs.declared.token.Name.{Name}
use Rattle.l2_types.specs.declared.state.Meaning.{Meaning}
use Rattle.l2_types.specs.States.{State}
use Rattle.l2_types_unit.specs.Words.{Known, known_names, meaning_in, with_meaning, with_known}

pub more_known : (n i : ℕ) (names : List Name) (w : Name) (s t : State) (m : Option Meaning) (ks : List Known) (word : List ℕ) (whole : State) →
    i < length names → w ≡ get_or names i w → m ≡ meaning_in ks word → ks ≡ known_names → word ≡ w.bytes → t ≡ with_meaning n m s →
    with_known n (drop i names) s ≡ whole → with_known (n + 1) (drop (i + 1) names) t ≡ whole
more_known n i names w s t m ks word whole h at e k b d so_far =
    let split : drop i names ≡ w ∷ drop (i + 1) names = drop_more names i w h ∙ ap (λ y. y ∷ drop (i + 1) names) (sym at) in
    let f : m ≡ meaning_in known_names w.bytes = e ∙ ap (λ z. meaning_in z word) k ∙ ap (λ z. meaning_in known_names z) b in
    ap (λ z. with_known (n + 1) (drop (i + 1) names) z) (d ∙ ap (λ z. with_meaning n z s) f)
    ∙ ap (λ l. with_known n l s) (sym split)
    ∙ so_far
