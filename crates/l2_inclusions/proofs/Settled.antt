-- What a part of a graph is given went along edges.
use Rattle.std.specs.Prelude.{◌≡◌, ℕ, zero, suc, Bool, true, false, ◌⊎◌, List, [], ◌∷◌, length, slice_set, nat_le, refl}
use Rattle.std.proofs.lemmas.Bool.{leb-true, le-leb}
use Rattle.std.proofs.Common.{arith, get_or, set, sym, subst, ap, inl, inr, ◌∙◌}
use Rattle.l2_runs.specs.declared.member.Member.{Member}
use Rattle.l2_runs.specs.Members.{has}
use Rattle.l2_code.specs.declared.sets.PointsTo.{PointsTo}
use Rattle.l2_inclusions.specs.declared.graph.Edge.{Edge}
use Rattle.l2_inclusions.specs.Rows.{RowsValue, members_at, number_at, set_at, AreRows, Grows, Brings, AreNumbers, AllBring}
use Rattle.l2_inclusions.specs.Edges.{Leads, AllPass, EachPasses, Transfers, IsLed, Fits, GoesAlong}
use Rattle.l2_inclusions.specs.Valuation.{implies}

pub implies_by : (a b : Bool) → (a ≡ true → b ≡ true) → implies a b ≡ true
implies_by true b h = h refl
implies_by false b h = refl

pub implies_on : (a b : Bool) → implies a b ≡ true → a ≡ true → b ≡ true
implies_on true b h e = h
implies_on false b h e = absurd (cc)

-- backwards an edge keeps which nodes bring what holds of them to the root
toward_leads : (w : ℕ → Bool) (root : ℕ) (edges : List Edge) → Leads false w edges → Leads true (λ x. implies (w x) (w root)) edges
toward_leads w root edges h k d l e =
    let edge = get_or edges k d in
    implies_by (w edge.from) (w root) (λ f. implies_on (w edge.to) (w root) e (h k d l f))

-- along edges goes which nodes are brought what holds of the root
onward_leads : (w : ℕ → Bool) (root : ℕ) (edges : List Edge) → Leads false w edges → Leads false (λ x. implies (w root) (w x)) edges
onward_leads w root edges h k d l e =
    let edge = get_or edges k d in
    implies_by (w root) (w edge.to) (λ f. h k d l (implies_on (w root) (w edge.from) e f))

pub set_either : (xs : List ℕ) (i v n : ℕ) → (◌≡◌ {A = ℕ} (get_or (set xs i v) n 0) (get_or xs n 0)) ⊎ ((get_or (set xs i v) n 0 ≡ v) × (n ≡ i))
set_either [] i v n = inl refl
set_either (x ∷ xs) zero v zero = inr (refl, refl)
set_either (x ∷ xs) zero v (suc n) = inl refl
set_either (x ∷ xs) (suc i) v zero = inl refl
set_either (x ∷ xs) (suc i) v (suc n) = elim (set_either xs i v n) [ inl e ↦ inl e | inr e ↦ inr (e.0, ap (λ k. suc k) e.1) ]

pub led_more : (q : ℕ → Bool) (a b c : RowsValue) (k i n : ℕ) → c.at ≡ slice_set b.at i k → q i ≡ true → IsLed q a b k n → IsLed q a c k n
led_more q a b c k i n e h led =
    let now = ap (λ (xs : List ℕ). get_or xs n 0) e in
    elim (set_either b.at i k n) [
      | inl same ↦ elim led [ inl p ↦ inl (now ∙ (same ∙ p)) | inr p ↦ inr (now ∙ (same ∙ p.0), p.1) ]
      | inr put ↦ inr (now ∙ put.0, subst (λ (x : ℕ). q x ≡ true) (sym put.1) h)
    ]

-- what a part is given
pub record Part (edges : List Edge) (a : RowsValue) (b : RowsValue) (c : RowsValue) (root : ℕ) (list : List ℕ) (numbers : List ℕ) (k : ℕ) (reached : List ℕ) : Type 0 where
  pub rows : AreRows a
  pub back : (w : ℕ → Bool) → Leads true w edges → w root ≡ true → AllPass w list
  pub taken : (w q : ℕ → Bool) → Leads true w edges → Transfers a w q → q 0 ≡ true → AllPass w list → EachPasses q numbers
  pub grows : Grows a b
  pub union : (m : Member) (x : Bool) → AllBring a numbers m x → Brings (members_at b.sets k) m x
  pub on : (w : ℕ → Bool) → Leads false w edges → w root ≡ true → AllPass w reached
  pub sets : c.sets ≡ b.sets
  pub led : (q : ℕ → Bool) → AllPass q reached → (n : ℕ) → IsLed q b c k n

-- where the union has the member, the root may have it
union_toward : {edges : List Edge} {a b c : RowsValue} {root : ℕ} {list numbers : List ℕ} {k : ℕ} {reached : List ℕ} → Part edges a b c root list numbers k reached
    → (m : Member) (w : ℕ → Bool) → Leads false w edges → Fits a m w → has (members_at b.sets k) m ≡ true → w root ≡ true
union_toward {a = a} {root = root} {list = list} p m w leads fits =
    let v : ℕ → Bool = λ x. implies (w x) (w root) in
    let q : ℕ → Bool = λ j. implies (has (members_at a.sets j) m) (w root) in
    let back = toward_leads w root _ leads in
    let all : AllPass v list = p.back v back (implies_by (w root) (w root) (λ e. e)) in
    let each = p.taken v q back (λ x h. implies_by (set_at a x m) (w root) (λ e. implies_on (w x) (w root) h (fits x e))) refl all in
    (p.union m (w root) (λ i. record { to = implies_on (has (members_at a.sets _) m) (w root) (each i) })).to

pub part_goes : {edges : List Edge} {a b c : RowsValue} {root : ℕ} {list numbers : List ℕ} {k : ℕ} {reached : List ℕ} → Part edges a b c root list numbers k reached → GoesAlong edges a c
part_goes {edges = edges} {a = a} {b = b} {c = c} {root = root} {k = k} p = record {
  fits = λ m w leads fits n h.
      let q : ℕ → Bool = λ x. implies (w root) (w x) in
      let onto = p.on q (onward_leads w root edges leads) (implies_by (w root) (w root) (λ e. e)) in
      let now : has (members_at b.sets (number_at c n)) m ≡ true = subst (λ (sets : List PointsTo). has (members_at sets (number_at c n)) m ≡ true) p.sets h in
      elim (p.led q onto n) [
        | inl same ↦
            let e : number_at c n ≡ number_at a n = same ∙ ap (λ (xs : List ℕ). get_or xs n 0) p.grows.at in
            let old : has (members_at b.sets (number_at a n)) m ≡ true = subst (λ (j : ℕ). has (members_at b.sets j) m ≡ true) e now in
            fits n (subst (λ (ms : List Member). has ms m ≡ true) (p.grows.kept (number_at a n) (p.rows.numbers n)) old)
        | inr put ↦
            let there : has (members_at b.sets k) m ≡ true = subst (λ (j : ℕ). has (members_at b.sets j) m ≡ true) put.0 now in
            implies_on (w root) (w n) put.1 (union_toward p m w leads fits there)
      ];
}

pub goes_self : (edges : List Edge) (a : RowsValue) → GoesAlong edges a a
goes_self edges a = record { fits = λ m w leads fits. fits }

pub goes_on : (edges : List Edge) (a b c : RowsValue) → GoesAlong edges a b → GoesAlong edges b c → GoesAlong edges a c
goes_on edges a b c p q = record { fits = λ m w leads fits. q.fits m w leads (p.fits m w leads fits) }

-- what is taken are numbers of sets
pub taken_numbers : (edges : List Edge) (a : RowsValue) (list numbers : List ℕ) → AreRows a
    → ((w q : ℕ → Bool) → Leads true w edges → Transfers a w q → q 0 ≡ true → AllPass w list → EachPasses q numbers) → AreNumbers a numbers
taken_numbers edges a list numbers rows taken i =
    leb-true _ _ (taken (λ x. true) (λ k. nat_le k (length a.sets)) (λ k d l h. refl) (λ x h. le-leb (number_at a x) (length a.sets) (rows.numbers x)) (le-leb 0 (length a.sets) (omega arith)) (λ k d l. refl) i)
