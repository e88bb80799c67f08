-- An error that is passed on.
use Rattle.std.proofs.Common.{◌≡◌, Ok, Err, Result, IsErrAnd, IfErr, subst, sym}

pub passed_on : {T E : Type 0} (r : Result T E) (e : E) (P : E → Type 0) → IsErrAnd r (λ y. y ≡ e) → P e → IfErr r P
passed_on (Ok x) e P is p = tt
passed_on (Err y) e P is p = subst P (sym is) p
