-- The certificate file: its lines as words, and the bytes that spell a certificate.
use Rattle.std.specs.Prelude.{◌≡◌, ⊤, ℕ, zero, suc, ◌^◌, ◌<◌, ◌≤◌, Bool, true, false, ℤ, pos, negsuc, ◌≤ℤ◌, nat_abs, Option, Some, None, List, [], ◌∷◌, ◌++◌, length, map, codes}
use Rattle.std.specs.List.{All, concat}
use Rattle.std.specs.Fmt.{decimal, signed_decimal}
use Rattle.l2_cnf.specs.Steps.{Step}
use Rattle.l2_templates.specs.declared.form.Form.{Form}
use Rattle.l2_templates.specs.declared.form.Row.{Row}
use Rattle.l2_templates.specs.declared.point.LoopPoint.{LoopPoint}
use Rattle.l2_templates.specs.declared.point.LoopPoint.TheVariants.{Bottom, Rows}
use Rattle.l2_cert.specs.declared.cert.Cert.{Cert}
use Rattle.l2_cert.specs.declared.cert.CertKind.{CertKind}
use Rattle.l2_cert.specs.declared.cert.CertKind.TheVariants.{Safe, Terminating}
use Rattle.l2_cert.specs.Words.{Word, line_of}

-- ---- the lines

abbrev pub first_line : List Word
first_line = codes "2ls" ∷ codes "certificate" ∷ codes "1" ∷ []

abbrev pub kind_word : CertKind → Word
kind_word Safe = codes "safe"
kind_word Terminating = codes "terminating"

abbrev pub kind_line : CertKind → List Word
kind_line kind = codes "kind" ∷ kind_word kind ∷ []

abbrev pub checks_word : Bool → Word
checks_word false = codes "plain"
checks_word true = codes "overflow"

abbrev pub checks_line : Bool → List Word
checks_line overflow = codes "checks" ∷ checks_word overflow ∷ []

-- a line of a word and a number
abbrev pub numbered_line : Word → ℕ → List Word
numbered_line word n = word ∷ decimal n ∷ []

abbrev pub copies_line : ℕ → List Word
copies_line k = numbered_line (codes "k") k

abbrev pub loops_line : ℕ → List Word
loops_line n = numbered_line (codes "loops") n

abbrev pub bottom_line : ℕ → List Word
bottom_line i = codes "loop" ∷ decimal i ∷ codes "bottom" ∷ []

abbrev pub rows_line : ℕ → ℕ → List Word
rows_line i rows = codes "loop" ∷ decimal i ∷ codes "rows" ∷ decimal rows ∷ []

abbrev pub sign_word : Bool → Word
sign_word true = codes "+"
sign_word false = codes "-"

-- a second variable with its sign, where there is one
abbrev pub second_words : ℕ → Bool → List Word
second_words zero plus = []
second_words (suc n) plus = sign_word plus ∷ decimal (suc n) ∷ []

abbrev pub form_words : Form → List Word
form_words f = sign_word f.plus ∷ decimal f.first ∷ second_words f.second f.second_plus

abbrev pub bound_words : Option ℤ → List Word
bound_words None = []
bound_words (Some bound) = signed_decimal bound ∷ []

abbrev pub row_line : Row → List Word
row_line row = codes "row" ∷ (bound_words row.bound ++ form_words row.form)

abbrev pub ranks_line : ℕ → ℕ → List Word
ranks_line i n = codes "ranks" ∷ decimal i ∷ decimal n ∷ []

abbrev pub rank_line : Form → List Word
rank_line f = codes "rank" ∷ form_words f

abbrev pub goals_line : ℕ → List Word
goals_line n = numbered_line (codes "goals") n

abbrev pub goal_line : ℕ → ℕ → List Word
goal_line j n = codes "goal" ∷ decimal j ∷ codes "lines" ∷ decimal n ∷ []

-- the number, then the literals and the hints, a 0 behind each of the two
abbrev pub step_line : Step → List Word
step_line s = decimal s.number ∷ (map signed_decimal s.clause ++ decimal 0 ∷ (map decimal s.hints ++ decimal 0 ∷ []))

abbrev pub end_line : List Word
end_line = codes "end" ∷ []

-- ---- the file

abbrev pub loop_lines : ℕ → LoopPoint → List (List Word)
loop_lines i Bottom = bottom_line i ∷ []
loop_lines i (Rows rows) = rows_line i (length rows) ∷ map row_line rows

abbrev pub rank_lines : ℕ → List Form → List (List Word)
rank_lines i forms = ranks_line i (length forms) ∷ map rank_line forms

-- a loop, and the first of these rankings behind it where there is one
abbrev pub entry_lines : ℕ → LoopPoint → List (List Form) → List (List Word)
entry_lines i p [] = loop_lines i p
entry_lines i p (forms ∷ ranks) = loop_lines i p ++ rank_lines i forms

-- each loop from number i on, its ranking behind it where it has one
abbrev pub loops_lines : ℕ → List LoopPoint → List (List Form) → List (List Word)
loops_lines i [] ranks = []
loops_lines i (p ∷ point) [] = loop_lines i p ++ loops_lines (suc i) point []
loops_lines i (p ∷ point) (forms ∷ ranks) = (loop_lines i p ++ rank_lines i forms) ++ loops_lines (suc i) point ranks

abbrev pub goal_lines : ℕ → List Step → List (List Word)
goal_lines j steps = goal_line j (length steps) ∷ map step_line steps

-- each goal from number j on
abbrev pub goals_lines : ℕ → List (List Step) → List (List Word)
goals_lines j [] = []
goals_lines j (steps ∷ goals) = goal_lines j steps ++ goals_lines (suc j) goals

-- what stands before the loops
abbrev pub head_lines : Cert → ℕ → List (List Word)
head_lines c loops = first_line ∷ kind_line c.kind ∷ checks_line c.overflow ∷ copies_line c.k ∷ loops_line loops ∷ []

-- what stands before the goals
abbrev pub before_goals : Cert → List (List Word)
before_goals c = head_lines c (length c.point) ++ loops_lines 1 c.point c.ranks

abbrev pub file_lines : Cert → List (List Word)
file_lines c = ((before_goals c ++ goals_line (length c.goals) ∷ []) ++ goals_lines 1 c.goals) ++ end_line ∷ []

-- the one spelling of a certificate
abbrev pub spelling : Cert → List ℕ
spelling c = concat (map line_of (file_lines c))

-- ---- what a file can spell

-- a variable, and a greater one or none, whose sign is then plus
abbrev pub IsSecond : ℕ → ℕ → Bool → Type 0
IsSecond first zero plus = plus ≡ true
IsSecond first (suc n) plus = first < suc n

pub record IsForm (f : Form) : Type 0 where
  pub some : 1 ≤ f.first
  pub first_small : f.first < 2 ^ 32
  pub second_small : f.second < 2 ^ 32
  pub second_is : IsSecond f.first f.second f.second_plus

abbrev pub IsBound : Option ℤ → Type 0
IsBound None = ⊥
IsBound (Some bound) = (negsuc (2 ^ 64) ≤ℤ bound) × (bound ≤ℤ pos (2 ^ 64))

pub record IsRow (row : Row) : Type 0 where
  pub bounded : IsBound row.bound
  pub formed : IsForm row.form

abbrev pub IsLoop : LoopPoint → Type 0
IsLoop Bottom = ⊤
IsLoop (Rows rows) = (length rows < 2 ^ 32) × All IsRow rows

-- where nothing is at the head nothing goes down
abbrev pub RanksMay : LoopPoint → ℕ → Type 0
RanksMay Bottom n = n ≡ 0
RanksMay (Rows rows) n = ⊤

abbrev pub IsRanking : LoopPoint → List Form → Type 0
IsRanking p forms = (length forms < 2 ^ 32) × RanksMay p (length forms) × All IsForm forms

-- a ranking for each loop
abbrev pub AreRankings : List LoopPoint → List (List Form) → Type 0
AreRankings [] [] = ⊤
AreRankings [] (forms ∷ ranks) = ⊥
AreRankings (p ∷ point) [] = ⊥
AreRankings (p ∷ point) (forms ∷ ranks) = IsRanking p forms × AreRankings point ranks

abbrev pub RanksFit : CertKind → List LoopPoint → List (List Form) → Type 0
RanksFit Safe point ranks = ranks ≡ []
RanksFit Terminating point ranks = AreRankings point ranks

abbrev pub IsLiteral : ℤ → Type 0
IsLiteral z = (1 ≤ nat_abs z) × (nat_abs z < 2 ^ 62)

abbrev pub IsNumber : ℕ → Type 0
IsNumber n = (1 ≤ n) × (n < 2 ^ 62)

pub record IsStep (s : Step) : Type 0 where
  pub number : IsNumber s.number
  pub clause : All IsLiteral s.clause
  pub hints : All IsNumber s.hints

abbrev pub IsGoal : List Step → Type 0
IsGoal steps = (length steps < 2 ^ 62) × All IsStep steps

-- some file spells this certificate
pub record InGrammar (c : Cert) : Type 0 where
  pub some_copies : 1 ≤ c.k
  pub most_copies : c.k ≤ 64
  pub loops : length c.point < 2 ^ 32
  pub point : All IsLoop c.point
  pub ranks : RanksFit c.kind c.point c.ranks
  pub goal_count : length c.goals < 2 ^ 32
  pub goals : All IsGoal c.goals

-- these are all the lines of some certificate
abbrev pub IsFile : List (List ℕ) → Type 0
IsFile lines = (c : Cert) × InGrammar c × (lines ≡ map line_of (file_lines c))
