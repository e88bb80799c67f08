-- Which edges are due.
use Rattle.std.specs.Prelude.{◌≡◌, ℕ, zero, suc, ◌+◌, ◌-◌, ◌<◌, ◌≤◌, ◌==◌, nat_lt, Bool, true, false, ◌||◌, ◌&&◌, if◌then◌else◌, List, [], ◌∷◌, ◌++◌, length, refl}
use Rattle.std.proofs.lemmas.Bool.{eq-eqb, eqb-true, lt-ltb, le-ltb}
use Rattle.std.proofs.Common.{arith, get_or, sym, subst, ap, ◌∙◌}
use Rattle.l2_runs.specs.declared.member.Member.{Member}
use Rattle.l2_runs.specs.declared.member.Member.TheVariants.{Null, Invalid, Object}
use Rattle.l2_runs.specs.Members.{has}
use Rattle.l2_inclusions.specs.declared.graph.Edge.{Edge}
use Rattle.l2_inclusions.specs.declared.inclusion.Inclusion.{Inclusion}
use Rattle.l2_inclusions.specs.declared.inclusion.Inclusion.TheVariants.{Has, Copies, Loads, Stores}
use Rattle.l2_inclusions.specs.Inclusions.{Family, object_node, Keeps, IsClosed}
use Rattle.l2_inclusions.specs.Rows.{RowsValue, members_at, number_at, set_at, IsInside}
use Rattle.l2_inclusions.specs.Edges.{LeadsAlong, Leads}
use Rattle.l2_inclusions.specs.Valuation.{implies, loads_may, objects_may, load_node, store_node, may_have, AreDue}
use Rattle.l2_inclusions.proofs.Settled.{implies_by, implies_on}
use Rattle.l2_inclusions.proofs.Having.{or_left, or_right}

-- ---- nodes

if_true : {A : Type 0} (b : Bool) (x y : A) → b ≡ true → (if b then x else y) ≡ x
if_true true x y e = refl
if_true false x y e = absurd (cc)

if_false : {A : Type 0} (b : Bool) (x y : A) → b ≡ false → (if b then x else y) ≡ y
if_false true x y e = absurd (cc)
if_false false x y e = refl

pub at_node : (all : List Inclusion) (r : RowsValue) (f : Family) (m : Member) (x : ℕ) → x < length r.at → may_have all r f m x ≡ f x m
at_node all r f m x h = if_true (nat_lt x (length r.at)) _ _ (lt-ltb x (length r.at) h)

pub at_load : (all : List Inclusion) (r : RowsValue) (f : Family) (m : Member) (k : ℕ) → k ≤ length r.sets → may_have all r f m (load_node r k) ≡ loads_may r f m k all
at_load all r f m k h =
    let x = load_node r k in
    let e : x - length r.at ≡ k = omega arith in
    if_false (nat_lt x (length r.at)) _ _ (le-ltb x (length r.at) (omega arith))
    ∙ (if_true (nat_lt x (suc (length r.at + length r.sets))) _ _ (lt-ltb x (suc (length r.at + length r.sets)) (omega arith))
    ∙ ap (λ (j : ℕ). loads_may r f m j all) e)

pub at_store : (all : List Inclusion) (r : RowsValue) (f : Family) (m : Member) (k : ℕ) → may_have all r f m (store_node r k) ≡ objects_may f m (members_at r.sets k)
at_store all r f m k =
    let x = store_node r k in
    let e : x - suc (length r.at + length r.sets) ≡ k = omega arith in
    if_false (nat_lt x (length r.at)) _ _ (le-ltb x (length r.at) (omega arith))
    ∙ (if_false (nat_lt x (suc (length r.at + length r.sets))) _ _ (le-ltb x (suc (length r.at + length r.sets)) (omega arith))
    ∙ ap (λ (j : ℕ). objects_may f m (members_at r.sets j)) e)

-- ---- objects of a set

and_both : (a b : Bool) → a ≡ true → b ≡ true → (a && b) ≡ true
and_both true b p q = q
and_both false b p q = p

and_first : (a b : Bool) → (a && b) ≡ true → a ≡ true
and_first true b e = refl
and_first false b e = e

and_second : (a b : Bool) → (a && b) ≡ true → b ≡ true
and_second true b e = e
and_second false b e = absurd (cc)

or_second : (a b : Bool) → a ≡ false → (a || b) ≡ true → b ≡ true
or_second true b s e = absurd (cc)
or_second false b s e = e

pub objects_all : (f : Family) (m : Member) (ms : List Member) → ((o : ℕ) → has ms (Object o) ≡ true → f (object_node o) m ≡ true) → objects_may f m ms ≡ true
objects_all f m [] h = refl
objects_all f m (Null ∷ ms) h = objects_all f m ms h
objects_all f m (Invalid ∷ ms) h = objects_all f m ms h
objects_all f m (Object p ∷ ms) h =
    and_both (f (object_node p) m) (objects_may f m ms) (h p (or_left (p == p) (has ms (Object p)) (eq-eqb p p refl))) (objects_all f m ms (λ o e. h o (or_right (p == o) (has ms (Object o)) e)))

pub objects_at : (f : Family) (m : Member) (ms : List Member) (o : ℕ) → has ms (Object o) ≡ true → objects_may f m ms ≡ true → f (object_node o) m ≡ true
objects_at f m [] o h e = absurd (cc)
objects_at f m (Null ∷ ms) o h e = objects_at f m ms o h e
objects_at f m (Invalid ∷ ms) o h e = objects_at f m ms o h e
objects_at f m (Object p ∷ ms) o h e =
    at_first (p == o) refl (λ g. objects_at f m ms o g (and_second (f (object_node p) m) (objects_may f m ms) e))
  where
    at_first : (b : Bool) → (p == o) ≡ b → (has ms (Object o) ≡ true → f (object_node o) m ≡ true) → f (object_node o) m ≡ true
    at_first true s later = subst (λ (x : ℕ). f (object_node x) m ≡ true) (eqb-true p o s) (and_first (f (object_node p) m) (objects_may f m ms) e)
    at_first false s later = later (or_second (p == o) (has ms (Object o)) s h)

-- ---- loads by the pointers of a set

pub loads_all : (r : RowsValue) (f : Family) (m : Member) (k o : ℕ) (xs : List Inclusion) → IsClosed f xs → ((p : ℕ) → number_at r p ≡ k → f p (Object o) ≡ true)
    → f (object_node o) m ≡ true → loads_may r f m k xs ≡ true
loads_all r f m k o [] closed points e = refl
loads_all r f m k o (Has n x ∷ xs) closed points e = loads_all r f m k o xs (λ j d l. closed (suc j) d (omega arith)) points e
loads_all r f m k o (Copies a b ∷ xs) closed points e = loads_all r f m k o xs (λ j d l. closed (suc j) d (omega arith)) points e
loads_all r f m k o (Stores p n ∷ xs) closed points e = loads_all r f m k o xs (λ j d l. closed (suc j) d (omega arith)) points e
loads_all r f m k o (Loads p n ∷ xs) closed points e =
    and_both (implies (number_at r p == k) (f n m)) (loads_may r f m k xs)
    (implies_by (number_at r p == k) (f n m) (λ s. closed 0 (Loads p n) (omega arith) o (points p (eqb-true (number_at r p) k s)) m e))
    (loads_all r f m k o xs (λ j d l. closed (suc j) d (omega arith)) points e)

pub loads_at : (r : RowsValue) (f : Family) (m : Member) (p n i : ℕ) (xs : List Inclusion) (d : Inclusion) → i < length xs → get_or xs i d ≡ Loads p n
    → loads_may r f m (number_at r p) xs ≡ true → f n m ≡ true
loads_at r f m p n i [] d l s e = absurd (omega arith)
loads_at r f m p n zero (x ∷ xs) d l s e =
    let first : loads_may r f m (number_at r p) (Loads p n ∷ xs) ≡ true = subst (λ (y : Inclusion). loads_may r f m (number_at r p) (y ∷ xs) ≡ true) s e in
    implies_on (number_at r p == number_at r p) (f n m) (and_first (implies (number_at r p == number_at r p) (f n m)) (loads_may r f m (number_at r p) xs) first) (eq-eqb (number_at r p) (number_at r p) refl)
loads_at r f m p n (suc i) (Has a x ∷ xs) d l s e = loads_at r f m p n i xs d (omega arith) s e
loads_at r f m p n (suc i) (Copies a b ∷ xs) d l s e = loads_at r f m p n i xs d (omega arith) s e
loads_at r f m p n (suc i) (Stores a b ∷ xs) d l s e = loads_at r f m p n i xs d (omega arith) s e
loads_at r f m p n (suc i) (Loads a b ∷ xs) d l s e =
    loads_at r f m p n i xs d (omega arith) s (and_second (implies (number_at r a == number_at r p) (f b m)) (loads_may r f m (number_at r p) xs) e)

-- ---- edges

edge_push : (w : ℕ → Bool) (edges : List Edge) (e : Edge) → Leads false w edges → LeadsAlong false w e → Leads false w (edges ++ e ∷ [])
edge_push w [] e h p zero d l = p
edge_push w [] e h p (suc k) d l = absurd (omega arith)
edge_push w (x ∷ edges) e h p zero d l = h 0 d (omega arith)
edge_push w (x ∷ edges) e h p (suc k) d l = edge_push w edges e (λ j c i. h (suc j) c (omega arith)) p k d (omega arith)

-- one more edge is due
pub due_push : (all : List Inclusion) (r : RowsValue) (edges more : List Edge) (e : Edge) → more ≡ edges ++ e ∷ []
    → ((f : Family) → IsClosed f all → IsInside (set_at r) f → (m : Member) → may_have all r f m e.from ≡ true → may_have all r f m e.to ≡ true)
    → AreDue all r edges → AreDue all r more
due_push all r edges more e s h due =
    subst (AreDue all r) (sym s) (record { leads = λ f closed inside m. edge_push (may_have all r f m) edges e (due.leads f closed inside m) (h f closed inside m) })

edge_is : (edges more : List Edge) (from to x y : ℕ) → from ≡ x → to ≡ y → more ≡ edges ++ (record { from = from; to = to }) ∷ [] → more ≡ edges ++ (record { from = x; to = y }) ∷ []
edge_is edges more from to x y p q e =
    subst (λ (b : ℕ). more ≡ edges ++ (record { from = x; to = b }) ∷ []) q (subst (λ (a : ℕ). more ≡ edges ++ (record { from = a; to = to }) ∷ []) p e)

pub due_load : (all : List Inclusion) (r : RowsValue) (edges more : List Edge) (k o from to : ℕ) → k ≤ length r.sets → has (members_at r.sets k) (Object o) ≡ true → object_node o < length r.at
    → from ≡ object_node o → to ≡ load_node r k → more ≡ edges ++ (record { from = from; to = to }) ∷ [] → AreDue all r edges → AreDue all r more
due_load all r edges more k o from to h there low p q s due =
    due_push all r edges more (record { from = object_node o; to = load_node r k }) (edge_is edges more from to (object_node o) (load_node r k) p q s)
    (λ f closed inside m e. at_load all r f m k h ∙ loads_all r f m k o all closed
    (λ p same. inside p (Object o) (subst (λ (j : ℕ). has (members_at r.sets j) (Object o) ≡ true) (sym same) there))
    (sym (at_node all r f m (object_node o) low) ∙ e))
    due

pub due_store : (all : List Inclusion) (r : RowsValue) (edges more : List Edge) (k o from to : ℕ) → has (members_at r.sets k) (Object o) ≡ true → object_node o < length r.at
    → from ≡ store_node r k → to ≡ object_node o → more ≡ edges ++ (record { from = from; to = to }) ∷ [] → AreDue all r edges → AreDue all r more
due_store all r edges more k o from to there low p q s due =
    due_push all r edges more (record { from = store_node r k; to = object_node o }) (edge_is edges more from to (store_node r k) (object_node o) p q s)
    (λ f closed inside m e. at_node all r f m (object_node o) low ∙ objects_at f m (members_at r.sets k) o there (sym (at_store all r f m k) ∙ e))
    due

-- ---- edges of inclusions

pub due_copy : (all : List Inclusion) (r : RowsValue) (edges more : List Edge) (i : ℕ) (d : Inclusion) (a b : ℕ) → i < length all → get_or all i d ≡ Copies a b → a < length r.at → b < length r.at
    → more ≡ edges ++ (record { from = a; to = b }) ∷ [] → AreDue all r edges → AreDue all r more
due_copy all r edges more i d a b l is p q s due =
    due_push all r edges more (record { from = a; to = b }) s
    (λ f closed inside m e. at_node all r f m b q ∙ subst (Keeps f) is (closed i d l) m (sym (at_node all r f m a p) ∙ e))
    due

pub due_loaded : (all : List Inclusion) (r : RowsValue) (edges more : List Edge) (i : ℕ) (d : Inclusion) (p n from : ℕ) → i < length all → get_or all i d ≡ Loads p n → n < length r.at
    → number_at r p ≤ length r.sets → from ≡ load_node r (number_at r p) → more ≡ edges ++ (record { from = from; to = n }) ∷ [] → AreDue all r edges → AreDue all r more
due_loaded all r edges more i d p n from l is q h x s due =
    due_push all r edges more (record { from = load_node r (number_at r p); to = n }) (edge_is edges more from n (load_node r (number_at r p)) n x refl s)
    (λ f closed inside m e. at_node all r f m n q ∙ loads_at r f m p n i all d l is (sym (at_load all r f m (number_at r p) h) ∙ e))
    due

pub due_stored : (all : List Inclusion) (r : RowsValue) (edges more : List Edge) (i : ℕ) (d : Inclusion) (p n to : ℕ) → i < length all → get_or all i d ≡ Stores p n → n < length r.at
    → to ≡ store_node r (number_at r p) → more ≡ edges ++ (record { from = n; to = to }) ∷ [] → AreDue all r edges → AreDue all r more
due_stored all r edges more i d p n to l is q x s due =
    due_push all r edges more (record { from = n; to = store_node r (number_at r p) }) (edge_is edges more n to n (store_node r (number_at r p)) refl x s)
    (λ f closed inside m e. at_store all r f m (number_at r p)
    ∙ objects_all f m (members_at r.sets (number_at r p)) (λ o h. subst (Keeps f) is (closed i d l) o (inside p (Object o) h) m (sym (at_node all r f m n q) ∙ e)))
    due
