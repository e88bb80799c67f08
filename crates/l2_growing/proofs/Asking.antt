-- What a session's answer says of circuits.
use Rattle.std.proofs.Common.{◌≡◌, ℕ, zero, suc, Bool, true, ℤ, List, [], ◌∷◌, map, refl, sym, ap, ◌∙◌, subst, arith}
use Rattle.std.specs.Prelude.{Option, Contains}
use Rattle.l2_cnf.specs.Assignment.{completed}
use Rattle.l2_cnf.specs.Logic.{literal_true, Satisfies}
use Rattle.l2_cnf.proofs.Models.{MakesTrue-literal_true, IsSatisfied-Satisfies}
use Rattle.l2_cdcl.specs.Answering.{IsModel, IsCore, IsAnswer}
use Rattle.l2_cdcl.specs.declared.answer.Answer.{Answer}
use Rattle.l2_cdcl.specs.declared.answer.Answer.TheVariants.{Sat, Unsat}
use Rattle.l2_gates.specs.Gates.{Lit, Pos, Neg, Made, number_of, literal_of, literals_of}
use Rattle.l2_gates.specs.Models.{value}
use Rattle.l2_goals.specs.Numbers.{numbers}
use Rattle.l2_goal_laws.proofs.Words.{by_variable, by_index, all_back, all_satisfied}
use Rattle.l2_short_goals.specs.Taken.{values_of}
use Rattle.l2_said_rows.specs.Law.{AllTrue}
use Rattle.l2_growing.specs.Models.{IsModelWith, HasModelWith}
use Rattle.l2_growing.proofs.Lists.{AreLiterals}

-- the clauses of a session as those of circuits
abbrev pub made_of : ℕ → List (List ℤ) → Made
made_of n list = record { next = n; clauses = map literals_of list }

AreTrue : (ℕ → Bool) → List ℤ → Type 0
AreTrue w ls = (l : ℤ) → Contains ls l → literal_true w l ≡ true

literal_here : (w : ℕ → Bool) (l : Lit) → value (by_index w) l ≡ literal_true w (number_of l)
literal_here w (Pos n) = refl
literal_here w (Neg n) = refl

first_is : (c d : ℤ) (cs ds : List ℤ) → c ∷ cs ≡ d ∷ ds → c ≡ d
first_is c d cs ds e = cc

rest_is : (c d : ℤ) (cs ds : List ℤ) → c ∷ cs ≡ d ∷ ds → cs ≡ ds
rest_is c d cs ds e = cc

all_here : (w : ℕ → Bool) (ls : List ℤ) → numbers (literals_of ls) ≡ ls → ((l : ℤ) → Contains ls l → literal_true w l ≡ true) → AllTrue (by_index w) (literals_of ls)
all_here w [] e h = tt
all_here w (l ∷ ls) e h = (
  literal_here w (literal_of l) ∙ ap (literal_true w) (first_is (number_of (literal_of l)) l (numbers (literals_of ls)) ls e) ∙ h l (0, omega arith, refl),
  all_here w ls (rest_is (number_of (literal_of l)) l (numbers (literals_of ls)) ls e) (λ m (k, lt, is). h m (suc k, omega (arith, lt), is)),
)

all_back_true : (w : ℕ → Bool) (ls : List ℤ) → numbers (literals_of ls) ≡ ls → AllTrue (by_index w) (literals_of ls) → (l : ℤ) → Contains ls l → literal_true w l ≡ true
all_back_true w [] e t l (k, lt, is) = absurd (omega (arith, lt))
all_back_true w (x ∷ xs) e t l (zero, lt, is) =
    ap (literal_true w) (sym is ∙ sym (first_is (number_of (literal_of x)) x (numbers (literals_of xs)) xs e)) ∙ sym (literal_here w (literal_of x)) ∙ t.0
all_back_true w (x ∷ xs) e t l (suc k, lt, is) = all_back_true w xs (rest_is (number_of (literal_of x)) x (numbers (literals_of xs)) xs e) t.1 l (k, omega (arith, lt), is)

module _ (n : ℕ) (list : List (List ℤ)) (fine : AreLiterals list) (ls : List ℤ) (literals : numbers (literals_of ls) ≡ ls) where
  of_sat : (a : List (Option Bool)) → IsModel a list ls → IsModelWith (values_of a) (made_of n list) (literals_of ls)
  of_sat a m = (
    all_back (completed a) (map literals_of list) (subst (Satisfies (completed a)) (sym fine) (IsSatisfied-Satisfies a list m.clauses_met)),
    all_here (completed a) ls literals (λ l h. MakesTrue-literal_true a l (m.assumptions_met l h)),
  )

  of_unsat : (core : List ℤ) (learnt : List (List ℤ)) → IsCore core ls list learnt → ¬ HasModelWith (made_of n list) (literals_of ls)
  of_unsat core learnt is (v, m) =
      is.none (by_variable v) (subst (Satisfies (by_variable v)) fine (all_satisfied v (map literals_of list) m.0))
      (λ l h. all_back_true (by_variable v) ls literals m.1 l (is.part l h))

  same_values : (a b : List (Option Bool)) → Sat a ≡ Sat b → a ≡ b
  same_values a b e = cc

  pub sat_case : (answer : Answer) (a : List (Option Bool)) (old new : List (List ℤ)) → IsAnswer ls list old new answer → answer ≡ Sat a → IsModelWith (values_of a) (made_of n list) (literals_of ls)
  sat_case (Sat found) a old new h e = subst (λ x. IsModelWith (values_of x) (made_of n list) (literals_of ls)) (same_values found a e) (of_sat found h.0)
  sat_case (Unsat core) a old new h e = cc

  pub unsat_case : (answer : Answer) (core : List ℤ) (old new : List (List ℤ)) → IsAnswer ls list old new answer → answer ≡ Unsat core → ¬ HasModelWith (made_of n list) (literals_of ls)
  unsat_case (Sat found) core old new h e = cc
  unsat_case (Unsat some) core old new h e = of_unsat some new h
