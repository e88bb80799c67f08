-- What was read of a certificate, and that all of it is in range.
use Rattle.std.specs.Prelude.{◌≡◌, ℕ, suc, ◌+◌, ◌^◌, ◌<◌, ◌≤◌, List, [], ◌∷◌, ◌++◌, length, map}
use Rattle.std.specs.List.{All}
use Rattle.l2_templates.specs.declared.point.LoopPoint.{LoopPoint}
use Rattle.l2_cert.specs.declared.cert.Cert.{Cert}
use Rattle.l2_cert.specs.declared.cert.CertKind.TheVariants.{Terminating}
use Rattle.l2_cert.specs.Words.{Word}
use Rattle.l2_cert.specs.Certificate.{first_line, kind_line, checks_line, copies_line, rows_line, row_line, ranks_line, rank_line, goals_line, goal_line, step_line, head_lines, loops_lines, goals_lines, before_goals, file_lines, IsRow, IsForm, IsStep, IsLoop, IsGoal, RanksMay, RanksFit, AreRankings, InGrammar}
use Rattle.l2_cert.specs.Machine.{Place, State, AtFirst, AtKind, AtChecks, AtCopies, AtLoops, AtLoop, AtRow, AtRanks, AtRank, AtGoals, AtGoal, AtStep, AtEnd, Done}

-- ---- the lines that were read

-- where so many loops are to come
abbrev pub loops_so_far : Cert → ℕ → List (List Word)
loops_so_far c n = head_lines c (length c.point + n) ++ loops_lines 1 c.point c.ranks

abbrev pub goals_so_far : Cert → ℕ → List (List Word)
goals_so_far c n = (before_goals c ++ goals_line (length c.goals + n) ∷ []) ++ goals_lines 1 c.goals

abbrev pub seen_at : Place → Cert → List (List Word)
seen_at AtFirst c = []
seen_at AtKind c = first_line ∷ []
seen_at AtChecks c = first_line ∷ kind_line c.kind ∷ []
seen_at AtCopies c = first_line ∷ kind_line c.kind ∷ checks_line c.overflow ∷ []
seen_at AtLoops c = first_line ∷ kind_line c.kind ∷ checks_line c.overflow ∷ copies_line c.k ∷ []
seen_at (AtLoop n) c = loops_so_far c n
seen_at (AtRow n m rows) c = loops_so_far c (suc n) ++ rows_line (suc (length c.point)) (length rows + m) ∷ map row_line rows
seen_at (AtRanks n) c = loops_so_far c n
seen_at (AtRank n m forms) c = loops_so_far c n ++ ranks_line (length c.point) (length forms + m) ∷ map rank_line forms
seen_at AtGoals c = before_goals c
seen_at (AtGoal n) c = goals_so_far c n
seen_at (AtStep n m steps) c = goals_so_far c (suc n) ++ goal_line (suc (length c.goals)) (length steps + m) ∷ map step_line steps
seen_at AtEnd c = goals_so_far c 0
seen_at Done c = file_lines c

abbrev pub seen : State → List (List Word)
seen s = seen_at s.place s.cert

-- ---- what was read is in range

-- nothing but the head was read
pub record IsFresh (c : Cert) : Type 0 where
  pub no_loop : c.point ≡ []
  pub no_ranking : c.ranks ≡ []
  pub no_goal : c.goals ≡ []

abbrev pub HasCopies : Cert → Type 0
HasCopies c = (1 ≤ c.k) × (c.k ≤ 64)

-- whole loops were read, and at most so many are still to come
pub record HasLoops (c : Cert) (more : ℕ) : Type 0 where
  pub copies : HasCopies c
  pub few : length c.point + more < 2 ^ 32
  pub point : All IsLoop c.point
  pub no_goal : c.goals ≡ []

-- each loop but the last has its ranking
pub record LacksOne (c : Cert) : Type 0 where
  pub kind : c.kind ≡ Terminating
  pub front : List LoopPoint
  pub last : LoopPoint
  pub is : c.point ≡ front ++ last ∷ []
  pub ranks : AreRankings front c.ranks

pub record HasGoals (c : Cert) (more : ℕ) : Type 0 where
  pub copies : HasCopies c
  pub loops : length c.point < 2 ^ 32
  pub point : All IsLoop c.point
  pub ranks : RanksFit c.kind c.point c.ranks
  pub few : length c.goals + more < 2 ^ 32
  pub goals : All IsGoal c.goals

abbrev pub KeptAt : Place → Cert → Type 0
KeptAt AtFirst c = IsFresh c
KeptAt AtKind c = IsFresh c
KeptAt AtChecks c = IsFresh c
KeptAt AtCopies c = IsFresh c
KeptAt AtLoops c = IsFresh c × HasCopies c
KeptAt (AtLoop n) c = (1 ≤ n) × HasLoops c n × RanksFit c.kind c.point c.ranks
KeptAt (AtRow n m rows) c = (1 ≤ m) × HasLoops c (suc n) × RanksFit c.kind c.point c.ranks × (length rows + m < 2 ^ 32) × All IsRow rows
KeptAt (AtRanks n) c = HasLoops c n × LacksOne c
KeptAt (AtRank n m forms) c = (1 ≤ m) × HasLoops c n × (lacks : LacksOne c) × (length forms + m < 2 ^ 32) × RanksMay lacks.last (length forms + m) × All IsForm forms
KeptAt AtGoals c = HasLoops c 0 × RanksFit c.kind c.point c.ranks
KeptAt (AtGoal n) c = (1 ≤ n) × HasGoals c n
KeptAt (AtStep n m steps) c = (1 ≤ m) × HasGoals c (suc n) × (length steps + m < 2 ^ 62) × All IsStep steps
KeptAt AtEnd c = HasGoals c 0
KeptAt Done c = InGrammar c

abbrev pub Kept : State → Type 0
Kept s = KeptAt s.place s.cert
