-- What is said line by line are the lines of the file.
use Rattle.std.proofs.Common.{◌≡◌, ℕ, suc, List, [], ◌∷◌, ◌++◌, length, map, refl, ap, ◌∙◌, append-nil, Option, Some, None}
use Rattle.std.proofs.lemmas.List.{map-append}
use Rattle.l2_templates.specs.declared.form.Form.{Form}
use Rattle.l2_templates.specs.declared.form.Row as rust
use Rattle.l2_templates.specs.declared.point.LoopPoint.{LoopPoint}
use Rattle.l2_templates.specs.declared.point.LoopPoint.TheVariants.{Bottom, Rows}
use Rattle.l2_cert.specs.declared.cert.Cert.{Cert}
use Rattle.l2_cert.specs.Certificate.{row_line, rank_line, rows_line, ranks_line, loop_lines, rank_lines, loops_lines, head_lines, before_goals}
use Rattle.l2_fitting.specs.Said.{Component, spelt, rows_said, loop_said, ranks_said, loops_said, said}

rows_spelt : (l : ℕ) (before : Option Form) (rows : List rust.Row) → map spelt (rows_said l before rows) ≡ map row_line rows
rows_spelt l before [] = refl
rows_spelt l before (row ∷ rows) = ap (λ t. row_line row ∷ t) (rows_spelt l (Some row.form) rows)

loop_spelt : (l : ℕ) (p : LoopPoint) → map spelt (loop_said l p) ≡ loop_lines l p
loop_spelt l Bottom = refl
loop_spelt l (Rows rows) = ap (λ t. rows_line l (length rows) ∷ t) (rows_spelt l None rows)

components_spelt : (l : ℕ) (forms : List Form) → map spelt (map (Component l) forms) ≡ map rank_line forms
components_spelt l [] = refl
components_spelt l (f ∷ forms) = ap (λ t. rank_line f ∷ t) (components_spelt l forms)

ranks_spelt : (l : ℕ) (forms : List Form) → map spelt (ranks_said l forms) ≡ rank_lines l forms
ranks_spelt l forms = ap (λ t. ranks_line l (length forms) ∷ t) (components_spelt l forms)

loops_spelt : (l : ℕ) (point : List LoopPoint) (ranks : List (List Form)) → map spelt (loops_said l point ranks) ≡ loops_lines l point ranks
loops_spelt l [] ranks = refl
loops_spelt l (p ∷ point) [] =
    map-append spelt (loop_said l p ++ []) (loops_said (suc l) point [])
    ∙ ap (λ t. map spelt t ++ map spelt (loops_said (suc l) point [])) (append-nil (loop_said l p))
    ∙ ap (λ t. t ++ map spelt (loops_said (suc l) point [])) (loop_spelt l p)
    ∙ ap (λ t. loop_lines l p ++ t) (loops_spelt (suc l) point [])
loops_spelt l (p ∷ point) (forms ∷ ranks) =
    map-append spelt (loop_said l p ++ ranks_said l forms) (loops_said (suc l) point ranks)
    ∙ ap (λ t. t ++ map spelt (loops_said (suc l) point ranks)) (map-append spelt (loop_said l p) (ranks_said l forms))
    ∙ ap (λ t. (t ++ map spelt (ranks_said l forms)) ++ map spelt (loops_said (suc l) point ranks)) (loop_spelt l p)
    ∙ ap (λ t. (loop_lines l p ++ t) ++ map spelt (loops_said (suc l) point ranks)) (ranks_spelt l forms)
    ∙ ap (λ t. (loop_lines l p ++ rank_lines l forms) ++ t) (loops_spelt (suc l) point ranks)

pub said_spelt : (c : Cert) → map spelt (said c) ≡ before_goals c
said_spelt c = ap (λ t. head_lines c (length c.point) ++ t) (loops_spelt 1 c.point c.ranks)
