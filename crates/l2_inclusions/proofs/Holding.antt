-- What holds of each member of a set.
use Rattle.std.specs.Prelude.{◌≡◌, ℕ, ◌≤◌, Bool, true, false, ◌||◌, List, [], ◌∷◌, length, refl}
use Rattle.std.specs.List.{All}
use Rattle.std.proofs.Common.{take, sym, subst}
use Rattle.std.proofs.lemmas.List.{take_all}
use Rattle.std.proofs.lemmas.List.Elements.{All-head, All-tail}
use Rattle.l2_runs.specs.declared.member.Member.{Member}
use Rattle.l2_runs.specs.declared.member.Member.TheVariants.{Object}
use Rattle.l2_runs.specs.Members.{has, same_member}
use Rattle.l2_inclusions.specs.declared.inclusion.Inclusion.TheVariants.{Loads, Stores}
use Rattle.l2_inclusions.specs.Inclusions.{object_node, Keeps}
use Rattle.l2_inclusions.specs.Rows.{RowsValue, members_at, number_at, set_at}
use Rattle.l2_inclusions.specs.Closing.{IsPart, LoadHolds, StoreHolds}
use Rattle.l2_inclusions.proofs.Having.{same_true}

pub all_taken : {X : Type 0} (P : X → Type 0) (xs ys : List X) (i : ℕ) → All P (take i xs) → length xs ≤ i → xs ≡ ys → All P ys
all_taken P xs ys i all h e = subst (All P) e (subst (All P) (take_all i xs h) all)

pub all_has : (P : Member → Type 0) (ms : List Member) → All P ms → (m : Member) → has ms m ≡ true → P m
all_has P [] all m h = absurd (cc)
all_has P (x ∷ ms) all m h = go (same_member x m) refl h (all_has P ms (All-tail P x ms all) m)
  where
    go : (b : Bool) → same_member x m ≡ b → (b || has ms m) ≡ true → (has ms m ≡ true → P m) → P m
    go true e g later = subst P (same_true x m e) (All-head P x ms all)
    go false e g later = later g

pub loads_keep : (r : RowsValue) (p n k j : ℕ) → k ≡ number_at r p → j ≡ number_at r n → All (LoadHolds r j) (members_at r.sets k) → Keeps (set_at r) (Loads p n)
loads_keep r p n k j e f all o h =
    let there : has (members_at r.sets k) (Object o) ≡ true = subst (λ (x : ℕ). has (members_at r.sets x) (Object o) ≡ true) (sym e) h in
    subst (λ (x : ℕ). IsPart r (number_at r (object_node o)) x) f (all_has (LoadHolds r j) (members_at r.sets k) all (Object o) there)

pub stores_keep : (r : RowsValue) (p n k j : ℕ) → k ≡ number_at r p → j ≡ number_at r n → All (StoreHolds r j) (members_at r.sets k) → Keeps (set_at r) (Stores p n)
stores_keep r p n k j e f all o h =
    let there : has (members_at r.sets k) (Object o) ≡ true = subst (λ (x : ℕ). has (members_at r.sets x) (Object o) ≡ true) (sym e) h in
    subst (λ (x : ℕ). IsPart r x (number_at r (object_node o))) f (all_has (StoreHolds r j) (members_at r.sets k) all (Object o) there)
