-- What the lines of a certificate before its goals say of a program.
use Rattle.std.specs.Prelude.{◌≡◌, ℕ, suc, List, [], ◌∷◌, ◌++◌, length, map, Option, Some, None}
use Rattle.l2_templates.specs.declared.form.Form.{Form}
use Rattle.l2_templates.specs.declared.form.Row as rust
use Rattle.l2_templates.specs.declared.point.LoopPoint.{LoopPoint}
use Rattle.l2_templates.specs.declared.point.LoopPoint.TheVariants.{Bottom, Rows}
use Rattle.l2_cert.specs.declared.cert.Cert.{Cert}
use Rattle.l2_cert.specs.Words.{Word}
use Rattle.l2_cert.specs.Certificate.{first_line, kind_line, checks_line, copies_line, loops_line, bottom_line, rows_line, row_line, ranks_line, rank_line, before_goals}

pub data Said : Type 0 where
  -- a line that says nothing of the program
  Plain : List Word → Said
  -- how many loops there are
  Loops : ℕ → Said
  -- a row of the loop of this number, behind a row of this form, where it isn't the first
  Row : ℕ → Option Form → rust.Row → Said
  -- a component of the ranking of the loop of this number
  Component : ℕ → Form → Said

-- how the line is spelt
abbrev pub spelt : Said → List Word
spelt (Plain words) = words
spelt (Loops n) = loops_line n
spelt (Row l before row) = row_line row
spelt (Component l form) = rank_line form

-- rows of a loop, behind a row of this form
abbrev pub rows_said : ℕ → Option Form → List rust.Row → List Said
rows_said l before [] = []
rows_said l before (row ∷ rows) = Row l before row ∷ rows_said l (Some row.form) rows

abbrev pub loop_said : ℕ → LoopPoint → List Said
loop_said l Bottom = Plain (bottom_line l) ∷ []
loop_said l (Rows rows) = Plain (rows_line l (length rows)) ∷ rows_said l None rows

abbrev pub ranks_said : ℕ → List Form → List Said
ranks_said l forms = Plain (ranks_line l (length forms)) ∷ map (Component l) forms

-- the first of these rankings, where there is one
abbrev pub first_ranks_said : ℕ → List (List Form) → List Said
first_ranks_said l [] = []
first_ranks_said l (forms ∷ ranks) = ranks_said l forms

abbrev pub behind_first : List (List Form) → List (List Form)
behind_first [] = []
behind_first (forms ∷ ranks) = ranks

-- each loop from number l on, its ranking behind it where it has one
abbrev pub loops_said : ℕ → List LoopPoint → List (List Form) → List Said
loops_said l [] ranks = []
loops_said l (p ∷ point) ranks = (loop_said l p ++ first_ranks_said l ranks) ++ loops_said (suc l) point (behind_first ranks)

abbrev pub head_said : Cert → List Said
head_said c = Plain first_line ∷ Plain (kind_line c.kind) ∷ Plain (checks_line c.overflow) ∷ Plain (copies_line c.k) ∷ Loops (length c.point) ∷ []

-- what the lines before the goals say, line by line
abbrev pub said : Cert → List Said
said c = head_said c ++ loops_said 1 c.point c.ranks

-- these are the lines of the file before its goals
abbrev pub AreLines : Type 0
AreLines = (c : Cert) → map spelt (said c) ≡ before_goals c
