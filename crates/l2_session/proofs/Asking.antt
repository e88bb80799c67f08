-- What a question leaves settled.
use Rattle.std.proofs.Common.{◌≡◌, ◌⊎◌, inl, inr, List, ◌++◌, [], ◌∷◌, ap, ◌∙◌, Result, Ok, Err}
use Rattle.std.specs.Prelude.{ℤ, IfOk, Contains}
use Rattle.std.proofs.lemmas.List.{append-nil}
use Rattle.std.proofs.lemmas.List.Elements.{Contains-append_left, Contains-append_right, Contains-append_cases}
use Rattle.l2_cnf.specs.Logic.{Settles}
use Rattle.l2_cnf.proofs.Growth.{Settles-grows, Settles-more}
use Rattle.l2_cdcl.specs.Learning.{IsLearning}
use Rattle.l2_cdcl.specs.Answering.{IsAnswer}
use Rattle.l2_cdcl.specs.declared.answer.Answer.{Answer}
use Rattle.l2_cdcl.specs.declared.answer.Answer.TheVariants.{Sat, Unsat}
use Rattle.l2_session.specs.Talks.{IsUnsat, IsKnown}

pub stays : (list more learnt later : List (List ℤ)) (assumptions : List ℤ) → Settles (list ++ learnt) assumptions → Settles ((list ++ more) ++ (learnt ++ later)) assumptions
stays list more learnt later assumptions settled = Settles-grows (list ++ learnt) ((list ++ more) ++ (learnt ++ later)) within assumptions settled
  where
    within : (c : List ℤ) → Contains (list ++ learnt) c → Contains ((list ++ more) ++ (learnt ++ later)) c
    within c h = elim (Contains-append_cases list learnt c h) [
      | inl k ↦ Contains-append_left (list ++ more) (learnt ++ later) c (Contains-append_left list more c k)
      | inr k ↦ Contains-append_right (list ++ more) (learnt ++ later) c (Contains-append_left learnt later c k)
    ]

learnt_known : (assumptions : List ℤ) (list learnt new : List (List ℤ)) → IsLearning assumptions list learnt new → Settles (list ++ learnt) assumptions → (new ≡ learnt) ⊎ (new ≡ learnt ++ [] ∷ [])
learnt_known assumptions list learnt new l s = elim (l.settled s) [
  | inl e ↦ inl (l.learnt ∙ ap (λ x. learnt ++ x) e ∙ append-nil learnt)
  | inr e ↦ inr (l.learnt ∙ ap (λ x. learnt ++ x) e)
]

module _ {E : Type 0} (assumptions : List ℤ) (list learnt new : List (List ℤ)) where
  pub settled : (r : Result Answer E) → IfOk r (λ a. IsAnswer assumptions list learnt new a) → IfOk r (λ a. IsUnsat a → Settles (list ++ new) assumptions)
  settled (Ok (Sat values)) h = λ no'. absurd no'
  settled (Ok (Unsat core)) h = λ u. Settles-more (list ++ new) core assumptions h.part h.settled
  settled (Err e) h = tt

  pub known : (r : Result Answer E) → IsLearning assumptions list learnt new → IfOk r (λ a. IsAnswer assumptions list learnt new a) → IfOk r (λ a. Settles (list ++ learnt) assumptions → IsKnown learnt new a)
  known (Ok (Sat values)) l h = λ s. absurd (h.1 s)
  known (Ok (Unsat core)) l h = λ s. record { unsat = tt; learnt = learnt_known assumptions list learnt new l s }
  known (Err e) l h = tt
