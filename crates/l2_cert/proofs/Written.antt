-- The text of a step, piece by piece.
use Rattle.std.proofs.Common.{◌≡◌, ℕ, suc, ◌+◌, ◌<◌, ◌≤◌, ℤ, List, [], ◌∷◌, ◌++◌, map, length, drop, get_or, codes, refl, sym, ap, ◌∙◌, append_assoc, append-nil, arith}
use Rattle.std.specs.List.{concat}
use Rattle.std.specs.Fmt.{decimal, signed_decimal}
use Rattle.std.proofs.lemmas.List.{at_drop_more, drop_all, drop-drop, map-append}
use Rattle.std.proofs.lemmas.List.Folds.{concat-append}
use Rattle.l2_cnf.specs.Steps.{Step}
use Rattle.l2_templates.specs.declared.form.Form.{Form}
use Rattle.l2_templates.specs.declared.point.LoopPoint.{LoopPoint}
use Rattle.l2_templates.specs.declared.point.LoopPoint.TheVariants.{Bottom}
use Rattle.l2_templates.specs.Points.{loop_at}
use Rattle.l2_cert.specs.declared.cert.Cert.{Cert}
use Rattle.l2_cert.specs.Words.{Word, line_of, spaced, text_of}
use Rattle.l2_cert.specs.Certificate.{checks_line, copies_line, first_line, kind_line, loops_line, loop_lines, rank_lines, end_line, entry_lines, goal_lines, goals_line, goals_lines, head_lines, loops_lines, spelling, step_line}
use Rattle.l2_cert.proofs.Numerals.{zero_word}

abbrev behind_space : Word → List ℕ
behind_space word = 32 ∷ word

spaced_behind : (word : Word) (words : List Word) → spaced (word ∷ words) ≡ word ++ concat (map behind_space words)
spaced_behind word [] = sym (append-nil word)
spaced_behind word (next ∷ words) = ap (λ t. word ++ 32 ∷ t) (spaced_behind next words)

each_behind : {A : Type 0} (spell : A → Word) (xs : List A) → concat (map behind_space (map spell xs)) ≡ concat (map (λ x. 32 ∷ spell x) xs)
each_behind spell [] = refl
each_behind spell (x ∷ xs) = ap (λ t. (32 ∷ spell x) ++ t) (each_behind spell xs)

-- items, and a word behind them
items_then : {A : Type 0} (spell : A → Word) (xs : List A) (word : Word) (words : List Word) → concat (map behind_space (map spell xs ++ word ∷ words)) ≡ concat (map (λ x. 32 ∷ spell x) xs) ++ ((32 ∷ word) ++ concat (map behind_space words))
items_then spell xs word words =
    ap concat (map-append behind_space (map spell xs) (word ∷ words))
    ∙ concat-append (map behind_space (map spell xs)) (map behind_space (word ∷ words))
    ∙ ap (λ t. t ++ concat (map behind_space (word ∷ words))) (each_behind spell xs)

gathered : (a b c d e f : List ℕ) → ((((a ++ b) ++ c) ++ d) ++ e) ++ f ≡ a ++ (b ++ (c ++ (d ++ (e ++ f))))
gathered a b c d e f = append_assoc (((a ++ b) ++ c) ++ d) e f ∙ append_assoc ((a ++ b) ++ c) d (e ++ f) ∙ append_assoc (a ++ b) c (d ++ (e ++ f)) ∙ append_assoc a b (c ++ (d ++ (e ++ f)))

with_end : (b c d e f g : List ℕ) → (b ++ (c ++ (d ++ (e ++ f)))) ++ g ≡ b ++ (c ++ (d ++ (e ++ (f ++ g))))
with_end b c d e f g = append_assoc b (c ++ (d ++ (e ++ f))) g ∙ ap (λ t. b ++ t) (append_assoc c (d ++ (e ++ f)) g ∙ ap (λ t. c ++ t) (append_assoc d (e ++ f) g ∙ ap (λ t. d ++ t) (append_assoc e f g)))

abbrev pub literals_text : List ℤ → List ℕ
literals_text clause = concat (map (λ z. 32 ∷ signed_decimal z) clause)

abbrev pub hints_text : List ℕ → List ℕ
hints_text hints = concat (map (λ n. 32 ∷ decimal n) hints)

step_words : (s : Step) → spaced (step_line s) ≡ decimal s.number ++ (literals_text s.clause ++ ((32 ∷ decimal 0) ++ (hints_text s.hints ++ (32 ∷ decimal 0))))
step_words s =
    spaced_behind (decimal s.number) (map signed_decimal s.clause ++ decimal 0 ∷ (map decimal s.hints ++ decimal 0 ∷ []))
    ∙ ap (λ t. decimal s.number ++ t) (items_then signed_decimal s.clause (decimal 0) (map decimal s.hints ++ decimal 0 ∷ [])
    ∙ ap (λ t. literals_text s.clause ++ ((32 ∷ decimal 0) ++ t)) (items_then decimal s.hints (decimal 0) [] ∙ ap (λ t. hints_text s.hints ++ t) (append-nil (32 ∷ decimal 0))))

pub step_written : (bytes : List ℕ) (s : Step) → ((((bytes ++ decimal s.number) ++ literals_text s.clause) ++ codes " 0") ++ hints_text s.hints) ++ (32 ∷ 48 ∷ 10 ∷ []) ≡ bytes ++ line_of (step_line s)
step_written bytes s =
    gathered bytes (decimal s.number) (literals_text s.clause) (codes " 0") (hints_text s.hints) (32 ∷ 48 ∷ 10 ∷ [])
    ∙ ap (λ t. bytes ++ t)
    (sym (with_end (decimal s.number) (literals_text s.clause) (codes " 0") (hints_text s.hints) (codes " 0") (10 ∷ []))
    ∙ ap (λ z. (decimal s.number ++ (literals_text s.clause ++ ((32 ∷ z) ++ (hints_text s.hints ++ (32 ∷ z))))) ++ 10 ∷ []) (sym zero_word)
    ∙ ap (λ t. t ++ 10 ∷ []) (sym (step_words s)))

-- ---- loops and goals, one by one

pub text_of-append : (xs ys : List (List Word)) → text_of (xs ++ ys) ≡ text_of xs ++ text_of ys
text_of-append xs ys = ap concat (map-append line_of xs ys) ∙ concat-append (map line_of xs) (map line_of ys)

one_entry : (i : ℕ) (p : LoopPoint) (point : List LoopPoint) (ranks : List (List Form)) → loops_lines i (p ∷ point) ranks ≡ entry_lines i p ranks ++ loops_lines (suc i) point (drop 1 ranks)
one_entry i p point [] = refl
one_entry i p point (r ∷ ranks) = refl

pub next_entry : (i : ℕ) (point : List LoopPoint) (ranks : List (List Form)) → i < length point → loops_lines (suc i) (drop i point) (drop i ranks) ≡ entry_lines (suc i) (loop_at point i) (drop i ranks) ++ loops_lines (suc (i + 1)) (drop (i + 1) point) (drop (i + 1) ranks)
next_entry i point ranks within =
    let count : suc i ≡ i + 1 = omega arith in
    at_drop_more (λ ps. loops_lines (suc i) ps (drop i ranks)) point i Bottom within
    ∙ one_entry (suc i) (loop_at point i) (drop (i + 1) point) (drop i ranks)
    ∙ ap (λ rs. entry_lines (suc i) (loop_at point i) (drop i ranks) ++ loops_lines (suc (suc i)) (drop (i + 1) point) rs) (drop-drop 1 i ranks)
    ∙ ap (λ n. entry_lines (suc i) (loop_at point i) (drop i ranks) ++ loops_lines (suc n) (drop (i + 1) point) (drop (i + 1) ranks)) count

pub entry_text : (bytes : List ℕ) (i : ℕ) (point : List LoopPoint) (ranks : List (List Form)) → i < length point → bytes ++ text_of (loops_lines (suc i) (drop i point) (drop i ranks)) ≡ (bytes ++ text_of (entry_lines (suc i) (loop_at point i) (drop i ranks))) ++ text_of (loops_lines (suc (i + 1)) (drop (i + 1) point) (drop (i + 1) ranks))
entry_text bytes i point ranks within =
    let first = entry_lines (suc i) (loop_at point i) (drop i ranks) in
    let rest = loops_lines (suc (i + 1)) (drop (i + 1) point) (drop (i + 1) ranks) in
    ap (λ ls. bytes ++ text_of ls) (next_entry i point ranks within) ∙ ap (λ t. bytes ++ t) (text_of-append first rest) ∙ sym (append_assoc bytes (text_of first) (text_of rest))

pub goal_text : (bytes : List ℕ) (i : ℕ) (goals : List (List Step)) (d : List Step) → i < length goals → bytes ++ text_of (goals_lines (suc i) (drop i goals)) ≡ (bytes ++ text_of (goal_lines (suc i) (get_or goals i d))) ++ text_of (goals_lines (suc (i + 1)) (drop (i + 1) goals))
goal_text bytes i goals d within =
    let count : suc i ≡ i + 1 = omega arith in
    let first = goal_lines (suc i) (get_or goals i d) in
    let rest = goals_lines (suc (i + 1)) (drop (i + 1) goals) in
    at_drop_more (λ gs. bytes ++ text_of (goals_lines (suc i) gs)) goals i d within
    ∙ ap (λ n. bytes ++ text_of (first ++ goals_lines (suc n) (drop (i + 1) goals))) count
    ∙ ap (λ t. bytes ++ t) (text_of-append first rest) ∙ sym (append_assoc bytes (text_of first) (text_of rest))

-- the whole file
pub whole_text : (c : Cert) → (((text_of (head_lines c (length c.point)) ++ text_of (loops_lines 1 c.point c.ranks)) ++ line_of (goals_line (length c.goals))) ++ text_of (goals_lines 1 c.goals)) ++ (101 ∷ 110 ∷ 100 ∷ 10 ∷ []) ≡ spelling c
whole_text c =
    let head = head_lines c (length c.point) in
    let loops = loops_lines 1 c.point c.ranks in
    let count = goals_line (length c.goals) ∷ [] in
    let goals = goals_lines 1 c.goals in
    sym (text_of-append (((head ++ loops) ++ count) ++ goals) (end_line ∷ [])
    ∙ ap (λ t. t ++ text_of (end_line ∷ [])) (text_of-append ((head ++ loops) ++ count) goals
    ∙ ap (λ t. t ++ text_of goals) (text_of-append (head ++ loops) count
    ∙ ap (λ t. t ++ text_of count) (text_of-append head loops)
    ∙ ap (λ t. (text_of head ++ text_of loops) ++ t) (append-nil (line_of (goals_line (length c.goals)))))))

pub head_written : (bytes : List ℕ) (c : Cert) → ((((bytes ++ line_of first_line) ++ line_of (kind_line c.kind)) ++ line_of (checks_line c.overflow)) ++ line_of (copies_line c.k)) ++ line_of (loops_line (length c.point)) ≡ bytes ++ text_of (head_lines c (length c.point))
head_written bytes c =
    gathered bytes (line_of first_line) (line_of (kind_line c.kind)) (line_of (checks_line c.overflow)) (line_of (copies_line c.k)) (line_of (loops_line (length c.point)))
    ∙ ap (λ t. bytes ++ (line_of first_line ++ (line_of (kind_line c.kind) ++ (line_of (checks_line c.overflow) ++ (line_of (copies_line c.k) ++ t))))) (sym (append-nil (line_of (loops_line (length c.point)))))

pub ranked : (i : ℕ) (p : LoopPoint) (ranks : List (List Form)) (d : List Form) → i < length ranks → entry_lines (suc i) p (drop i ranks) ≡ loop_lines (suc i) p ++ rank_lines (suc i) (get_or ranks i d)
ranked i p ranks d within = at_drop_more (entry_lines (suc i) p) ranks i d within

pub unranked : (i : ℕ) (p : LoopPoint) (ranks : List (List Form)) → length ranks ≤ i → entry_lines (suc i) p (drop i ranks) ≡ loop_lines (suc i) p
unranked i p ranks over = ap (entry_lines (suc i) p) (drop_all i ranks over)
