-- Sets by their numbers.
use Rattle.std.specs.Prelude.{◌≡◌, ℕ, zero, suc, ◌<◌, ◌≤◌, Bool, List, [], ◌∷◌, ◌++◌, length, Some, slice_get, refl}
use Rattle.std.proofs.Common.{length-append, get_or, arith, ap, sym, subst, ◌∙◌}
use Rattle.l2_runs.specs.declared.member.Member.{Member}
use Rattle.l2_runs.specs.Members.{has, Within}
use Rattle.l2_code.specs.declared.sets.PointsTo.{PointsTo}
use Rattle.l2_code.specs.Sets.{members_of, Rises, AllRise}
use Rattle.l2_inclusions.specs.Rows.{RowsValue, members_at, AreRows, Grows, Brings, AreNumbers, AllBring}

get_kept : (xs ys : List PointsTo) (n : ℕ) → n < length xs → slice_get (xs ++ ys) n ≡ slice_get xs n
get_kept [] ys n h = absurd (omega arith)
get_kept (x ∷ xs) ys zero h = refl
get_kept (x ∷ xs) ys (suc n) h = get_kept xs ys n (omega arith)

get_last : (xs : List PointsTo) (y : PointsTo) → slice_get (xs ++ y ∷ []) (length xs) ≡ Some y
get_last [] y = refl
get_last (x ∷ xs) y = get_last xs y

pub members_kept : (xs ys : List PointsTo) (k : ℕ) → k ≤ length xs → members_at (xs ++ ys) k ≡ members_at xs k
members_kept xs ys zero h = refl
members_kept xs ys (suc k) h = ap members_of (get_kept xs ys k (omega arith))

pub members_last : (xs : List PointsTo) (y : PointsTo) → members_at (xs ++ y ∷ []) (suc (length xs)) ≡ y.members
members_last xs y = ap members_of (get_last xs y)

pub all_rise_push : (xs : List PointsTo) (y : PointsTo) → AllRise xs → Rises y.members → AllRise (xs ++ y ∷ [])
all_rise_push [] y a r = (r, tt)
all_rise_push (x ∷ xs) y a r = (a.0, all_rise_push xs y a.1 r)

pub brings_within : (xs ys : List Member) → Within (has xs) (has ys) → (m : Member) (b : Bool) → Brings ys m b → Brings xs m b
brings_within xs ys w m b p = record { to = λ e. p.to (w m e) }

pub grows_self : (r : RowsValue) → Grows r r
grows_self r = record { at = refl; more = omega arith; kept = λ k h. refl }

pub grows_push : (sets more : List PointsTo) (at : List ℕ) (y : PointsTo) → more ≡ sets ++ y ∷ [] → Grows (record { sets = sets; at = at }) (record { sets = more; at = at })
grows_push sets more at y e =
    subst (λ (zs : List PointsTo). Grows (record { sets = sets; at = at }) (record { sets = zs; at = at })) (sym e)
    (record { at = refl; more = omega (arith, length-append sets (y ∷ [])); kept = λ k h. members_kept sets (y ∷ []) k h })

pub rows_push : (sets more : List PointsTo) (at : List ℕ) (y : PointsTo) → length sets < 4294967295 → more ≡ sets ++ y ∷ [] → AreRows (record { sets = sets; at = at }) → Rises y.members → AreRows (record { sets = more; at = at })
rows_push sets more at y small e r h =
    subst (λ (zs : List PointsTo). AreRows (record { sets = zs; at = at })) (sym e)
    (record { count = omega (arith, length-append sets (y ∷ [])); numbers = λ n. omega (arith, r.numbers n, length-append sets (y ∷ [])); rise = all_rise_push sets y r.rise h })

pub value_push : (sets more : List PointsTo) (k : ℕ) (y : PointsTo) → more ≡ sets ++ y ∷ [] → k ≡ length more → members_at more k ≡ y.members
value_push sets more k y e h =
    let l : k ≡ suc (length sets) = omega (arith, h, ap length e, length-append sets (y ∷ [])) in
    subst (λ (zs : List PointsTo). members_at zs k ≡ y.members) (sym e) (subst (λ (n : ℕ). members_at (sets ++ y ∷ []) n ≡ y.members) (sym l) (members_last sets y))

pub grows_on : (a b c : RowsValue) → Grows a b → Grows b c → Grows a c
grows_on a b c p q = record {
  at = q.at ∙ p.at;
  more = omega (arith, p.more, q.more);
  kept = λ k h. q.kept k (omega (arith, p.more)) ∙ p.kept k h;
}

-- a fact of each number of a list, and of 0, holds with one more
pub each_push : (P : ℕ → Type 0) (xs : List ℕ) (x : ℕ) → ((i : ℕ) → P (get_or xs i 0)) → P x → (i : ℕ) → P (get_or (xs ++ x ∷ []) i 0)
each_push P [] x h p zero = p
each_push P [] x h p (suc i) = h 0
each_push P (y ∷ xs) x h p zero = h 0
each_push P (y ∷ xs) x h p (suc i) = each_push P xs x (λ k. h (suc k)) p i

pub numbers_push : (a b : RowsValue) (xs ys : List ℕ) (x : ℕ) → Grows a b → AreNumbers a xs → x ≤ length b.sets → ys ≡ xs ++ x ∷ [] → AreNumbers b ys
numbers_push a b xs ys x g h p e =
    subst (AreNumbers b) (sym e) (each_push (λ k. k ≤ length b.sets) xs x (λ i. omega (arith, g.more, h i)) p)

pub brings_kept : (a b : RowsValue) (k : ℕ) (m : Member) (x : Bool) → Grows a b → k ≤ length a.sets → Brings (members_at a.sets k) m x → Brings (members_at b.sets k) m x
brings_kept a b k m x g h p = subst (λ (ms : List Member). Brings ms m x) (sym (g.kept k h)) p

pub all_bring_kept : (a b : RowsValue) (xs : List ℕ) (m : Member) (x : Bool) → Grows a b → AreNumbers a xs → AllBring a xs m x → AllBring b xs m x
all_bring_kept a b xs m x g r h i = brings_kept a b (get_or xs i 0) m x g (r i) (h i)

pub all_bring_push : (a b : RowsValue) (xs ys : List ℕ) (n : ℕ) (m : Member) (x : Bool) → Grows a b → AreNumbers a xs → AllBring a xs m x → Brings (members_at b.sets n) m x
    → ys ≡ xs ++ n ∷ [] → AllBring b ys m x
all_bring_push a b xs ys n m x g r h p e =
    subst (λ (zs : List ℕ). AllBring b zs m x) (sym e)
    (each_push (λ k. Brings (members_at b.sets k) m x) xs n (λ i. brings_kept a b (get_or xs i 0) m x g (r i) (h i)) p)
