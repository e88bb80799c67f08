-- What a call comes to, said of what is equal to it.
use Rattle.std.proofs.Common.{◌≡◌, Result, Ok, Err, ◌∙◌}
use Rattle.std.specs.Prelude.{IfOk}
use Rattle.l2_types.specs.declared.error.CheckError.{CheckError}
use Rattle.l2_types.specs.States.{State, Seen, saw}

pub widened : {A B : Type 0} (f : A → B) (x y : Seen B) (r : Result A CheckError) (s : State) → x ≡ y → IfOk r (λ a. y ≡ saw (f a) s) → IfOk r (λ a. x ≡ saw (f a) s)
widened f x y (Ok a) s e h = e ∙ h
widened f x y (Err b) s e h = tt
