-- How judging goes on from what a part came to.
use Rattle.std.proofs.Common.{◌≡◌, ap, sym, ◌∙◌}
use Rattle.l2_types.specs.States.{State, Seen, saw, next, state_of}
use Rattle.l2_types.specs.Meant.{MeantTree, OperandTree, value_of, valued}

pub go_on : {A B : Type 0} (r : Seen A) (f : A → State → Seen B) (a : A) (s : State) → r ≡ saw a s → next r f ≡ f a s
go_on r f a s e = ap (λ (q : Seen _). next q f) e

pub value_seen : {B : Type 0} (r : Seen MeantTree) (f : OperandTree → State → Seen B) (m : MeantTree) (x : OperandTree) (s : State)
    → r ≡ saw m s → x ≡ value_of m → next (valued r) f ≡ f x s
value_seen r f m x s e v = ap (λ (q : Seen _). next (valued q) f) e ∙ ap (λ y. f y s) (sym v)

pub ruleset steps = (go_on, value_seen)

pub state_seen : {A : Type 0} (r : Seen A) (a : A) (s : State) → r ≡ saw a s → state_of r ≡ s
state_seen r a s e = ap (λ (q : Seen _). state_of q) e

pub ruleset states = (state_seen)
