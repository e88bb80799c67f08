-- Objects that stay in scope.
use Rattle.std.proofs.Common.{◌≡◌, ℕ, List, [], ◌∷◌, length, take, refl, arith}
use Rattle.std.proofs.Math.Seq.{take-append_seam, take-length}
use Rattle.l2_program.specs.Checked.{CheckedTree, Block, Declare, Static, Initialise, Label, Evaluate, If, IfElse, While, Return}
use Rattle.l2_meaning.specs.Scopes.{behind}

abbrev pub Keeps : List ℕ → List ℕ → Type 0
Keeps old new = take (length old) new ≡ old

pub kept_trans : (a b c : List ℕ) → Keeps a b → Keeps b c → Keeps a c
kept_trans [] b c p q = refl
kept_trans (x ∷ a) [] c p q = grind arith
kept_trans (x ∷ a) (y ∷ b) [] p q = grind arith
kept_trans (x ∷ a) (y ∷ b) (z ∷ c) p q = let r = kept_trans a b c (grind arith) (grind arith) in grind arith

pub kept_all : (a : List ℕ) → Keeps a a
kept_all a = take-length a

pub kept_behind : (a : List ℕ) (s : CheckedTree) → Keeps a (behind a s)
kept_behind a (Block all) = take-length a
kept_behind a (Declare n) = take-append_seam a (n ∷ [])
kept_behind a (Static n) = take-length a
kept_behind a (Initialise n e) = take-append_seam a (n ∷ [])
kept_behind a (Label n) = take-length a
kept_behind a (Evaluate e) = take-length a
kept_behind a (If e s) = take-length a
kept_behind a (IfElse e s t) = take-length a
kept_behind a (While l named e s) = take-length a
kept_behind a (Return e) = take-length a

pub kept_more : (a b : List ℕ) (s : CheckedTree) → Keeps a b → Keeps a (behind b s)
kept_more a b s h = kept_trans a b (behind b s) h (kept_behind b s)
