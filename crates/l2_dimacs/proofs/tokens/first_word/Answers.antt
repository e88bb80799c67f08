use Rattle.std.proofs.Common.{◌≡◌, ◌<◌, ◌+◌, ◌-◌, ◌∙◌, ℕ, List, false, length, take, drop, get_or, refl, sym, ap, arith}
use Rattle.std.proofs.lemmas.Bool.{eqb-false}
use Rattle.std.proofs.lemmas.List.{get_or-drop, length-drop, take_all}
use Rattle.l2_dimacs.specs.Tokens.{is_blank, line_words}
use Rattle.l2_dimacs.proofs.Pieces.{cut_behind}
use Rattle.l2_dimacs.proofs.tokens.first_word.Goals as goal

-- what stands behind an index, as it is cut off
behind_all : (xs : List ℕ) (i : ℕ) → take (length xs - i) (drop i xs) ≡ drop i xs
behind_all xs i = take_all (length xs - i) (drop i xs) (omega (arith, length-drop i xs))

pub returns : goal.returns
returns c =
    let line = c.args.line.now in
    let i = c.blanks.result in
    let k = c.word_length-end.result in
    let full = take (length line - i) (drop i line) in
    let none = eqb-false (length full) 0 (sym c.if-is_empty.ensures) in
    let some : 0 < length full = omega (arith, none) in
    let inside : i < length line = omega (arith, some, ap length (behind_all line i), length-drop i line) in
    let here : i + 0 ≡ i = omega arith in
    let first : is_blank (get_or full 0 0) ≡ false = ap (λ l. is_blank (get_or l 0 0)) (behind_all line i) ∙ ap is_blank (get_or-drop i line 0 0 ∙ ap (λ j. get_or line j 0) here) ∙ c.blanks.ensures.ends inside in
    let told = c.word_length-end.ensures in
    λ n. c.blanks.ensures.skips n
    ∙ ap (line_words n) (sym (behind_all line i))
    ∙ cut_behind n full (take k full) (take (length full - k) (drop k full)) k refl (behind_all full k) told.within some first told.word told.ends
