-- The strongest point of the forms of a domain is the domain's.
use Rattle.std.proofs.Common.{ℕ, ℤ, Bool, List, [], ◌∷◌, map}
use Rattle.l2_runs.specs.declared.member.Member.{Member}
use Rattle.l2_program.specs.declared.program.LoopInfo.{LoopInfo}
use Rattle.l2_program.specs.Programs.{ProgramTree}
use Rattle.l2_templates.specs.declared.families.Family.{Family}
use Rattle.l2_templates.specs.declared.point.LoopPoint.{LoopPoint}
use Rattle.l2_templates.specs.declared.point.LoopPoint.TheVariants.{Bottom, Rows}
use Rattle.l2_templates.specs.Domains.{row_list}
use Rattle.l2_cuts.specs.Cuts.{Infers}
use Rattle.l2_cuts.specs.Strongest.{IsLoopPointOf, AreLoopPointsOf, IsStrongest}
use Rattle.l2_strategy.specs.Places.{IsOf, AreOf, IsStrongestOf}

module _ (family : Family) (bounds : List ℤ) where
  one : (loop : LoopInfo) (q : LoopPoint) → IsOf bounds (row_list family loop.vars loop.mods) q → IsLoopPointOf family bounds loop q
  one loop Bottom h = tt
  one loop (Rows rows) h = h

  one_back : (loop : LoopInfo) (q : LoopPoint) → IsLoopPointOf family bounds loop q → IsOf bounds (row_list family loop.vars loop.mods) q
  one_back loop Bottom h = tt
  one_back loop (Rows rows) h = h

  all : (loops : List LoopInfo) (q : List LoopPoint) → AreOf bounds (map (λ loop. row_list family loop.vars loop.mods) loops) q → AreLoopPointsOf family bounds loops q
  all [] [] h = tt
  all [] (x ∷ q) h = absurd h
  all (loop ∷ loops) [] h = absurd h
  all (loop ∷ loops) (x ∷ q) h = (one loop x h.0, all loops q h.1)

  all_back : (loops : List LoopInfo) (q : List LoopPoint) → AreLoopPointsOf family bounds loops q → AreOf bounds (map (λ loop. row_list family loop.vars loop.mods) loops) q
  all_back [] [] h = tt
  all_back [] (x ∷ q) h = absurd h
  all_back (loop ∷ loops) [] h = absurd h
  all_back (loop ∷ loops) (x ∷ q) h = (one_back loop x h.0, all_back loops q h.1)

pub strongest : (p : ProgramTree) (sets : ℕ → Member → Bool) (k : ℕ) (family : Family) (bounds : List ℤ) (q : List LoopPoint) → IsStrongestOf (Infers p sets k) bounds (map (λ loop. row_list family loop.vars loop.mods) p.loops) q → IsStrongest p sets k family bounds q
strongest p sets k family bounds q s = record {
  point = all family bounds p.loops q s.point;
  infers = s.infers;
  strongest = λ other of infers. s.strongest other (all_back family bounds p.loops other of) infers;
}
