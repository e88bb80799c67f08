-- Names that stay in scope.
use Rattle.std.proofs.Common.{[], ◌∷◌, ◌++◌, refl, arith}
use Rattle.std.proofs.Math.Seq.{take-append_seam, take-length}
use Rattle.l2_small_check.specs.Elaboration.{Scope}
use Rattle.l2_small_check.specs.Tables.{Keeps}

pub kept_trans : (a b c : Scope) → Keeps a b → Keeps b c → Keeps a c
kept_trans [] b c p q = refl
kept_trans (x ∷ a) [] c p q = grind arith
kept_trans (x ∷ a) (y ∷ b) [] p q = grind arith
kept_trans (x ∷ a) (y ∷ b) (z ∷ c) p q = let r = kept_trans a b c (grind arith) (grind arith) in grind arith

pub kept_all : (a : Scope) → Keeps a a
kept_all a = take-length a

pub kept_more : (a b : Scope) → Keeps a (a ++ b)
kept_more a b = take-append_seam a b

pub ruleset kept = (kept_trans, kept_all, kept_more)
