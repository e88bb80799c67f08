-- One row more in front.
use Rattle.std.proofs.Common.{◌≡◌, ℕ, zero, suc, ℤ, Bool, List, [], ◌∷◌, ◌++◌, map, refl}
use Rattle.l2_runs.specs.declared.member.Member.{Member}
use Rattle.l2_runs.specs.Store.{Store}
use Rattle.l2_runs.specs.Loops.{numbered}
use Rattle.l2_run_laws.specs.Watches.{alone}
use Rattle.l2_program.specs.Programs.{ProgramTree}
use Rattle.l2_templates.specs.declared.point.LoopPoint.{LoopPoint}
use Rattle.l2_templates.specs.declared.point.LoopPoint.TheVariants.{Bottom, Rows}
use Rattle.l2_cuts.specs.Points.{point_at, row_test, rows_of}
use Rattle.l2_cuts.specs.Cuts.{rows_at, cut_end, row_end}
use Rattle.l2_renumber_laws.specs.Renumbered.{AreRenumbered, nothing, same, extra, never, renumbered_end}
use Rattle.l2_renumber_laws.specs.Fronted.{always, fronted}
use Rattle.l2_renumber_laws.proofs.Trees.{renumbering}

shifted : (n : ℕ) (hs : List (Store → Store → Bool)) (more : ℕ) → AreRenumbered suc (numbered n hs) (numbered (suc n) (hs ++ always more))
shifted n [] zero = nothing
shifted n [] (suc more) = extra (λ a b. refl) (shifted (suc n) [] more)
shifted n (h ∷ hs) more = same refl (λ a b. refl) (shifted (suc n) hs more)

fronts : (q : LoopPoint) (more : ℕ) → AreRenumbered suc (rows_of q) (fronted q more)
fronts Bottom more = never refl (λ a b. refl) (λ a b. refl)
fronts (Rows rows) more = extra (λ a b. refl) (shifted 1 (map row_test rows) more)

pub fronting : (p : ProgramTree) (sets : ℕ → Member → Bool) (k : ℕ) (q : List LoopPoint) (more : ℕ → ℕ) (choices : List ℤ) → cut_end p sets k q (alone (λ l. fronted (point_at q l) (more l))) choices ≡ renumbered_end (λ l row. suc row) (row_end p sets k q choices)
fronting p sets k q more choices = renumbering p sets k q (λ l row. suc row) (alone (rows_at q)) (alone (λ l. fronted (point_at q l) (more l))) (λ counted l. fronts (point_at q l) (more l)) choices
