-- How what a walk has made is put together.
use Rattle.std.proofs.Common.{◌≡◌, ℕ, suc, refl, List, [], ◌∷◌, ◌++◌}
use Rattle.std.proofs.lemmas.List.{append_assoc}
use Rattle.l2_ssa.specs.Steps.{Step}
use Rattle.l2_ssa.specs.Walks.{Out, Given, joined, past}
use Rattle.l2_walker.specs.Made.{State, put, moved, extended}

pub past_app : (n : ℕ) (xs ys : List Step) → past n (xs ++ ys) ≡ past (past n xs) ys
past_app n [] ys = refl
past_app n (x ∷ xs) ys = past_app (suc n) xs ys

-- one walk and then another
pub put_joined : (s : State) (given : Given) (o p : Out) → put s (joined given o p) ≡ put (put s o) p
put_joined s given o p = λ i. record s {
  names = past_app s.names o.steps p.steps i;
  steps = λ rest. s.steps (append_assoc o.steps p.steps rest i);
  events = λ rest. s.events (append_assoc o.events p.events rest i);
  heads = λ rest. s.heads (append_assoc o.heads p.heads rest i);
  entries = λ rest. s.entries (append_assoc o.entries p.entries rest i);
  walk = p.after;
}

pub moved_joined : (s : State) (given : Given) (o p : Out) → moved s (joined given o p) ≡ moved (moved s o) p
moved_joined s given o p = λ i. record s { names = past_app s.names o.steps p.steps i; steps = λ rest. s.steps (append_assoc o.steps p.steps rest i); walk = p.after }

-- steps and then others
pub extended_twice : (s : State) (xs ys : List Step) → extended s (xs ++ ys) ≡ extended (extended s xs) ys
extended_twice s xs ys = λ i. record s { names = past_app s.names xs ys i; steps = λ rest. s.steps (append_assoc xs ys rest i) }
