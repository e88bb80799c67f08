-- What an assignment makes true is true in the values of all variables that it stands for.
use Rattle.std.proofs.Common.{◌≡◌, suc, zero, List, Bool, true, false, not, ap}
use Rattle.std.specs.Prelude.{ℤ, pos, negsuc, Option, unwrap_or}
use Rattle.l2_cnf.specs.Assignment.{MakesTrue, IsSatisfied, completed}
use Rattle.l2_cnf.specs.Logic.{literal_true, Satisfies}

pub MakesTrue-literal_true : (values : List (Option Bool)) (l : ℤ) → MakesTrue values l → literal_true (completed values) l ≡ true
MakesTrue-literal_true values (pos zero) h = cc
MakesTrue-literal_true values (pos (suc n)) h = ap (λ o. unwrap_or o false) h
MakesTrue-literal_true values (negsuc n) h = ap (λ o. not (unwrap_or o false)) h

pub IsSatisfied-Satisfies : (values : List (Option Bool)) (list : List (List ℤ)) → IsSatisfied values list → Satisfies (completed values) list
IsSatisfied-Satisfies values list satisfied clause h = let found = satisfied clause h in (found.0, found.1, MakesTrue-literal_true values found.0 found.2)
