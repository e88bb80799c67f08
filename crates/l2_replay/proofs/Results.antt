-- What a function did, where its last call did the rest.
use Rattle.std.proofs.Common.{◌≡◌, true, false, not, ℤ, ℕ, Result, Ok, Err, ap, sym, subst, ◌∙◌}
use Rattle.std.specs.Result.{IsErr, IsErrAnd}
use Rattle.l2_bits.specs.declared.types.Ty.{Ty}
use Rattle.l2_runs.specs.declared.operators.BinaryOperator.{BinaryOperator}
use Rattle.l2_runs.specs.Operators.{binary, binary_overflows}
use Rattle.l2_runs.specs.Runs as runs
use Rattle.l2_runs.specs.Runs.{State, Run, Go, Halt, on_go, either, check}
use Rattle.l2_program.specs.Checked.{TypedTree, Binary}
use Rattle.l2_meaning.specs.Meaning.{Value, Setting, number, number_of, holds, value}
use Rattle.l2_replay.specs.declared.answer.Fault.{Fault}
use Rattle.l2_replay.specs.declared.answer.Fault.TheVariants.{Over, NoMemory}
use Rattle.l2_replay.specs.Reach.{Does}

-- where one run comes to another one's beginning
pub does_from : {A B : Type 0} (given : A → B) (q r : Run B) (a s t : State) (x : Result A Fault) → q a ≡ r s → Does given r s t x → Does given q a t x
does_from given q r a s t (Ok v) e d = e ∙ d
does_from given q r a s t (Err (Over o)) e d = e ∙ d
does_from given q r a s t (Err NoMemory) e d = tt

-- what is over in a first part is over
pub does_err : {A B C D : Type 0} (given : A → B) (other : C → D) (q : Run D) (r : Run B) (k : B → Run D) (a s t : State) (f : Fault) → q a ≡ on_go (r s) k → Does given r s t (Err f) → Does other q a t (Err f)
does_err given other q r k a s t (Over o) e d = e ∙ ap (λ x. on_go x k) d
does_err given other q r k a s t NoMemory e d = tt

-- after a test
pub does_then : {A B : Type 0} (given : A → B) (q first other : Run B) (x : runs.Result Value) (a s t : State) (v : Value) (r : Result A Fault) →
    q a ≡ on_go x (λ v. either (holds v) first other) → x ≡ Go v s → holds v ≡ true → Does given first s t r → Does given q a t r
does_then given q first other x a s t v r e f h d =
    does_from given q first a s t r (e ∙ ap (λ x. on_go x (λ v. either (holds v) first other)) f ∙ ap (λ b. either b first other s) h) d

pub does_else : {A B : Type 0} (given : A → B) (q first other : Run B) (x : runs.Result Value) (a s t : State) (v : Value) (r : Result A Fault) →
    q a ≡ on_go x (λ v. either (holds v) first other) → x ≡ Go v s → holds v ≡ false → Does given other s t r → Does given q a t r
does_else given q first other x a s t v r e f h d =
    does_from given q other a s t r (e ∙ ap (λ x. on_go x (λ v. either (holds v) first other)) f ∙ ap (λ b. either b first other s) h) d

module _ (g : Setting) (op : BinaryOperator) (ty : Ty) (c : ℕ) (x y : TypedTree) (m s t : State) (a b : ℤ) (left : value g true x m ≡ Go (number a) s) (right : value g true y s ≡ Go (number b) t) where
  to_check : value g true (Binary op ty c x y) m ≡ on_go (check true c (not (binary_overflows op ty a b)) t) (λ u. Go (number (binary op ty a b)))
  to_check =
      ap (λ z. on_go z (λ v. λ s. on_go (value g true y s) (λ w. λ s. on_go (check true c (not (binary_overflows op ty (number_of v) (number_of w))) s) (λ u. Go (number (binary op ty (number_of v) (number_of w))))))) left
      ∙ ap (λ z. on_go z (λ w. λ s. on_go (check true c (not (binary_overflows op ty a (number_of w))) s) (λ u. Go (number (binary op ty a (number_of w)))))) right

  pub binary_goes : check true c (not (binary_overflows op ty a b)) t ≡ Go tt t → value g true (Binary op ty c x y) m ≡ Go (number (binary op ty a b)) t
  binary_goes e = to_check ∙ ap (λ z. on_go z (λ u. Go (number (binary op ty a b)))) e

  pub binary_fails : {C : Type 0} (given : C → Value) (f : Fault) → Does {A = Unit {0}} (λ u. tt {0}) (check true c (not (binary_overflows op ty a b))) t t (Err f) → Does given (value g true (Binary op ty c x y)) m t (Err f)
  binary_fails given f d = does_err {A = Unit {0}} (λ u. tt {0}) given (value g true (Binary op ty c x y)) (check true c (not (binary_overflows op ty a b))) (λ u. Go (number (binary op ty a b))) m t t f to_check d

-- what `?` hands on
pub does_residual : {A B : Type 0} (given : A → B) (q : Run B) (a t : State) (r : Result A Fault) (f : Fault) → IsErr r → IsErrAnd r (λ g. g ≡ f) → Does given q a t (Err f) → Does given q a t r
does_residual given q a t (Ok v) f h k d = cc
does_residual given q a t (Err g) f h k d = subst (λ x. Does given q a t (Err x)) (sym k) d
