-- A code asks of sets what its inclusions do.
use Rattle.std.specs.Prelude.{◌≡◌, ℕ, zero, suc, ◌+◌, Bool, true, false, if◌then◌else◌, List, [], ◌∷◌, ◌++◌, length, Some, slice_get, refl}
use Rattle.std.specs.List.{All}
use Rattle.std.proofs.Common.{arith, length-append, ap, sym, subst, ◌∙◌}
use Rattle.std.proofs.lemmas.Bool.{eq-eqb, eqb-true}
use Rattle.std.proofs.lemmas.List.{get_or_append_left, get_or-append-add}
use Rattle.std.proofs.lemmas.List.Elements.{All-append, All-cons, All-nil}
use Rattle.l2_runs.specs.declared.cells.CellValue.{CellValue}
use Rattle.l2_runs.specs.declared.cells.CellValue.TheVariants as value
use Rattle.l2_runs.specs.declared.member.Member.{Member}
use Rattle.l2_runs.specs.declared.member.Member.TheVariants.{Null, Invalid, Object}
use Rattle.l2_runs.specs.Members.{same_member, targets, Within}
use Rattle.l2_runs.specs.Numbers.{at_number}
use Rattle.l2_code.specs.declared.action.Operand.{Operand}
use Rattle.l2_code.specs.declared.action.Operand.TheVariants.{Constant, Temp}
use Rattle.l2_code.specs.declared.action.Computation.{Computation}
use Rattle.l2_code.specs.declared.action.Computation.TheVariants.{Numbers, Convert, Move, Pointers, Passes}
use Rattle.l2_code.specs.declared.action.Action.{Action}
use Rattle.l2_code.specs.declared.action.Action.TheVariants as action
use Rattle.l2_code.specs.declared.code.CodeObject.{CodeObject}
use Rattle.l2_code.specs.Trees.{Node, Do, Block, Loop, Nodes, none, more, CodeTree}
use Rattle.l2_code.specs.Sets.{Family, may_be, IsClosedResult, IsClosedAction, IsClosedNode, AreClosed, has_pointer, unwritten, AreHeld, IsClosedObject, IsClosed}
use Rattle.l2_inclusions.specs.declared.inclusion.Inclusion.{Inclusion}
use Rattle.l2_inclusions.specs.declared.inclusion.Inclusion.TheVariants.{Has, Copies, Loads, Stores}
use Rattle.l2_inclusions.specs.Inclusions as nodes
use Rattle.l2_inclusions.specs.Inclusions.{object_node, Keeps}
use Rattle.l2_inclusions.proofs.Having.{same_true}
use Rattle.l2_points.specs.Gathering.{temp_node, number_of, one_node, code_family, node_family, target_of, copies_one, copies, loads, stores_value, stores, of_result, of_action, of_node, of_nodes, of_start, of_first, of_objects, inclusions_of}
use Rattle.l2_points.proofs.Nodes.{at_object, at_temp, at_one, number_of-same}

-- ---- lists

pub all_left : {X : Type 0} (P : X → Type 0) (xs ys : List X) → All P (xs ++ ys) → All P xs
all_left P xs ys all k d l = subst P (get_or_append_left xs ys d k l) (all k d (omega (arith, length-append xs ys)))

pub all_right : {X : Type 0} (P : X → Type 0) (xs ys : List X) → All P (xs ++ ys) → All P ys
all_right P xs ys all k d l = subst P (get_or-append-add xs ys k d) (all (length xs + k) d (omega (arith, length-append xs ys)))

one : (P : Inclusion → Type 0) (x : Inclusion) → P x → All P (x ∷ [])
one P x p = All-cons P x [] p (All-nil P)

two : (P : Inclusion → Type 0) (x y : Inclusion) → P x → P y → All P (x ∷ y ∷ [])
two P x y p q = All-cons P x (y ∷ []) p (one P y q)

-- ---- targets

target_same : (v : CellValue) (a m : Member) → target_of v ≡ Some a → targets v m ≡ same_member a m
target_same (value.Number z) a m e = absurd (cc)
target_same value.Null a m e = let s : Null ≡ a = cc in ap (λ (x : Member). same_member x m) s
target_same value.Invalid a m e = let s : Invalid ≡ a = cc in ap (λ (x : Member). same_member x m) s
target_same (value.At o f) a m e = let s : Object o ≡ a = cc in ap (λ (x : Member). same_member x m) s

-- ---- from nodes to code

-- a set that has what the node of one member has, has that member
one_code : (f : nodes.Family) (a : Member) (set : Member → Bool) → f (one_node a) a ≡ true → Within (f (one_node a)) set → (m : Member) → same_member a m ≡ true → set m ≡ true
one_code f a set h w m e = subst (λ (x : Member). set x ≡ true) (same_true a m e) (w a h)

single : (f : nodes.Family) (x : Inclusion) → All (Keeps f) (x ∷ []) → Keeps f x
single f x all = all 0 x (omega arith)

both_one : (f : nodes.Family) (a : Member) (n : ℕ) → All (Keeps f) (copies_one (Some a) n) → (f (one_node a) a ≡ true) × Within (f (one_node a)) (f n)
both_one f a n all = (all 0 (Has (one_node a) a) (omega arith), all 1 (Has (one_node a) a) (omega arith))

both_store : (f : nodes.Family) (t : ℕ) (a : Member) → All (Keeps f) (stores_value t (Some a)) → (f (one_node a) a ≡ true) × Keeps f (Stores (temp_node t) (one_node a))
both_store f t a all = (all 0 (Has (one_node a) a) (omega arith), all 1 (Has (one_node a) a) (omega arith))

copied_one : (f : nodes.Family) (a : Member) (n : ℕ) → All (Keeps f) (copies_one (Some a) n) → (m : Member) → same_member a m ≡ true → f n m ≡ true
copied_one f a n all m e = let h = both_one f a n all in one_code f a (f n) h.0 h.1 m e

stored_one : (f : nodes.Family) (t : ℕ) (a : Member) → All (Keeps f) (stores_value t (Some a)) → (o : ℕ) → f (temp_node t) (Object o) ≡ true → (m : Member) → same_member a m ≡ true → f (object_node o) m ≡ true
stored_one f t a all o e m h = let b = both_store f t a all in one_code f a (f (object_node o)) b.0 (b.1 o e) m h

copies_code : (f : nodes.Family) (x : Operand) (n : ℕ) → All (Keeps f) (copies x n) → Within (may_be (code_family f) x) (f n)
copies_code f (Constant (value.Number z)) n all m e = absurd (cc)
copies_code f (Constant value.Null) n all m e = copied_one f Null n all m e
copies_code f (Constant value.Invalid) n all m e = copied_one f Invalid n all m e
copies_code f (Constant (value.At o g)) n all m e = copied_one f (Object o) n all m e
copies_code f (Temp t) n all m e = single f (Copies (temp_node t) n) all m e

loads_code : (f : nodes.Family) (a : Operand) (n : ℕ) → All (Keeps f) (loads a n) → (o : ℕ) → may_be (code_family f) a (Object o) ≡ true → Within (f (object_node o)) (f n)
loads_code f (Constant (value.Number z)) n all o e = absurd (cc)
loads_code f (Constant value.Null) n all o e = absurd (cc)
loads_code f (Constant value.Invalid) n all o e = absurd (cc)
loads_code f (Constant (value.At p g)) n all o e = subst (λ (x : ℕ). Within (f (object_node x)) (f n)) (eqb-true p o e) (single f (Copies (object_node p) n) all)
loads_code f (Temp t) n all o e = single f (Loads (temp_node t) n) all o e

stores_code : (f : nodes.Family) (a x : Operand) → All (Keeps f) (stores a x) → (o : ℕ) → may_be (code_family f) a (Object o) ≡ true → Within (may_be (code_family f) x) (f (object_node o))
stores_code f (Constant (value.Number z)) x all o e m h = absurd (cc)
stores_code f (Constant value.Null) x all o e m h = absurd (cc)
stores_code f (Constant value.Invalid) x all o e m h = absurd (cc)
stores_code f (Constant (value.At p g)) x all o e m h = subst (λ (y : ℕ). f (object_node y) m ≡ true) (eqb-true p o e) (copies_code f x (object_node p) all m h)
stores_code f (Temp t) (Constant (value.Number z)) all o e m h = absurd (cc)
stores_code f (Temp t) (Constant value.Null) all o e m h = stored_one f t Null all o e m h
stores_code f (Temp t) (Constant value.Invalid) all o e m h = stored_one f t Invalid all o e m h
stores_code f (Temp t) (Constant (value.At p g)) all o e m h = stored_one f t (Object p) all o e m h
stores_code f (Temp t) (Temp u) all o e m h = single f (Stores (temp_node t) (temp_node u)) all o e m h

result_code : (f : nodes.Family) (n : ℕ) (c : Computation) → All (Keeps f) (of_result n c) → IsClosedResult (code_family f) n c
result_code f n (Move by a b) all = copies_code f a (temp_node n) all
result_code f n (Numbers op ty a b) all = tt
result_code f n (Convert ty a) all = tt
result_code f n (Pointers op a b) all = tt
result_code f n (Passes test) all = tt

action_code : (f : nodes.Family) (a : Action) → All (Keeps f) (of_action a) → IsClosedAction (code_family f) a
action_code f (action.Compute n c) all = result_code f n c all
action_code f (action.Read n ty a) all = loads_code f a (temp_node n) all
action_code f (action.Write ty a x) all = stores_code f a x all
action_code f (action.Choice n ty) all = tt
action_code f (action.Assume a) all = tt
action_code f (action.Check c a) all = tt
action_code f (action.Unless a n) all = tt
action_code f (action.Goto n) all = tt
action_code f (action.Live o) all = tt
action_code f (action.Dead o) all = tt
action_code f action.End all = tt

mutual
  node_code : (f : nodes.Family) (x : Node) → All (Keeps f) (of_node x) → IsClosedNode (code_family f) x
  node_code f (Do a) all = action_code f a all
  node_code f (Block xs) all = nodes_code f xs all
  node_code f (Loop l xs) all = nodes_code f xs all

  nodes_code : (f : nodes.Family) (xs : Nodes) → All (Keeps f) (of_nodes xs) → AreClosed (code_family f) xs
  nodes_code f none all = tt
  nodes_code f (more x rest) all = (node_code f x (all_left (Keeps f) (of_node x) (of_nodes rest) all), nodes_code f rest (all_right (Keeps f) (of_node x) (of_nodes rest) all))

start_code : (f : nodes.Family) (n : ℕ) (vs : List CellValue) → All (Keeps f) (of_start n vs) → AreHeld (f (object_node n)) vs
start_code f n [] all = tt
start_code f n (v ∷ vs) all = (
  copies_code f (Constant v) (object_node n) (all_left (Keeps f) (copies_one (target_of v) (object_node n)) (of_start n vs) all),
  start_code f n vs (all_right (Keeps f) (copies_one (target_of v) (object_node n)) (of_start n vs) all),
)

first_code : (f : nodes.Family) (n : ℕ) (m : Member) (b : Bool) → All (Keeps f) (if b then Has (object_node n) m ∷ [] else []) → b ≡ true → f (object_node n) m ≡ true
first_code f n m true all e = single f (Has (object_node n) m) all
first_code f n m false all e = absurd (cc)

objects_code : (f : nodes.Family) (n : ℕ) (os : List CodeObject) → All (Keeps f) (of_objects n os) → (i : ℕ) (o : CodeObject) → slice_get os i ≡ Some o → IsClosedObject (f (object_node (n + i))) o
objects_code f n [] all i o e = absurd (cc)
objects_code f n (x ∷ os) all zero o e =
    let s : x ≡ o = cc in
    let k : n ≡ n + 0 = omega arith in
    let first = all_left (Keeps f) (of_first n x ++ of_start n x.start) (of_objects (suc n) os) all in
    subst (λ (y : CodeObject). IsClosedObject (f (object_node (n + 0))) y) s
    (subst (λ (j : ℕ). IsClosedObject (f (object_node j)) x) k
    (record {
      first = first_code f n (unwritten x.is_static) (has_pointer x.cells) (all_left (Keeps f) (of_first n x) (of_start n x.start) first);
      start = start_code f n x.start (all_right (Keeps f) (of_first n x) (of_start n x.start) first);
    }))
objects_code f n (x ∷ os) all (suc i) o e =
    let k : suc n + i ≡ n + suc i = omega arith in
    subst (λ (j : ℕ). IsClosedObject (f (object_node j)) o) k
    (objects_code f (suc n) os (all_right (Keeps f) (of_first n x ++ of_start n x.start) (of_objects (suc n) os) all) i o e)

pub closed_code : (f : nodes.Family) (c : CodeTree) → nodes.IsClosed f (inclusions_of c) → IsClosed c (code_family f)
closed_code f c all = record {
  actions = nodes_code f c.body (all_left (Keeps f) (of_nodes c.body) (of_objects 1 c.objects) all);
  objects = λ n o e. numbered n o e;
}
  where
    numbered : (n : ℕ) (o : CodeObject) → at_number c.objects n ≡ Some o → IsClosedObject (f (object_node n)) o
    numbered zero o e = absurd (cc)
    numbered (suc i) o e =
        let k : 1 + i ≡ suc i = omega arith in
        subst (λ (j : ℕ). IsClosedObject (f (object_node j)) o) k
        (objects_code f 1 c.objects (all_right (Keeps f) (of_nodes c.body) (of_objects 1 c.objects) all) i o e)

-- ---- from code to nodes

has_one : (f : Family) (a : Member) → node_family f (one_node a) a ≡ true
has_one f a = at_one f a a ∙ eq-eqb (number_of a) (number_of a) refl

only_one : (f : Family) (a m : Member) → node_family f (one_node a) m ≡ true → m ≡ a
only_one f a m e = number_of-same m a (eqb-true (number_of m) (number_of a) (sym (at_one f a m) ∙ e))

-- a set that has a member has what the node of that member has
within_one : (f : Family) (a : Member) (set : Member → Bool) → set a ≡ true → Within (node_family f (one_node a)) set
within_one f a set h m e = subst (λ (x : Member). set x ≡ true) (sym (only_one f a m e)) h

nodes_one : (f : Family) (a : Member) (n : ℕ) → node_family f n a ≡ true → All (Keeps (node_family f)) (copies_one (Some a) n)
nodes_one f a n h = two (Keeps (node_family f)) (Has (one_node a) a) (Copies (one_node a) n) (has_one f a) (within_one f a (node_family f n) h)

self : (a : Member) → same_member a a ≡ true
self Null = refl
self Invalid = refl
self (Object o) = eq-eqb o o refl

copies_nodes : (f : Family) (x : Operand) (n : ℕ) → Within (may_be f x) (node_family f n) → All (Keeps (node_family f)) (copies x n)
copies_nodes f (Constant (value.Number z)) n w = All-nil (Keeps (node_family f))
copies_nodes f (Constant value.Null) n w = nodes_one f Null n (w Null refl)
copies_nodes f (Constant value.Invalid) n w = nodes_one f Invalid n (w Invalid refl)
copies_nodes f (Constant (value.At o g)) n w = nodes_one f (Object o) n (w (Object o) (self (Object o)))
copies_nodes f (Temp t) n w = one (Keeps (node_family f)) (Copies (temp_node t) n) (subst (λ (set : Member → Bool). Within set (node_family f n)) (sym (at_temp f t)) w)

loads_nodes : (f : Family) (a : Operand) (n : ℕ) → ((o : ℕ) → may_be f a (Object o) ≡ true → Within (f.object o) (node_family f n)) → All (Keeps (node_family f)) (loads a n)
loads_nodes f (Constant (value.Number z)) n w = All-nil (Keeps (node_family f))
loads_nodes f (Constant value.Null) n w = All-nil (Keeps (node_family f))
loads_nodes f (Constant value.Invalid) n w = All-nil (Keeps (node_family f))
loads_nodes f (Constant (value.At o g)) n w =
    one (Keeps (node_family f)) (Copies (object_node o) n) (subst (λ (set : Member → Bool). Within set (node_family f n)) (sym (at_object f o)) (w o (self (Object o))))
loads_nodes f (Temp t) n w = one (Keeps (node_family f)) (Loads (temp_node t) n) (λ o e.
    let h : f.temp t (Object o) ≡ true = subst (λ (set : Member → Bool). set (Object o) ≡ true) (at_temp f t) e in
    subst (λ (set : Member → Bool). Within set (node_family f n)) (sym (at_object f o)) (w o h))

stores_one_nodes : (f : Family) (t : ℕ) (a : Member) → ((o : ℕ) → f.temp t (Object o) ≡ true → f.object o a ≡ true) → All (Keeps (node_family f)) (stores_value t (Some a))
stores_one_nodes f t a w = two (Keeps (node_family f)) (Has (one_node a) a) (Stores (temp_node t) (one_node a)) (has_one f a) (λ o e.
    let h : f.temp t (Object o) ≡ true = subst (λ (set : Member → Bool). set (Object o) ≡ true) (at_temp f t) e in
    subst (λ (set : Member → Bool). Within (node_family f (one_node a)) set) (sym (at_object f o)) (within_one f a (f.object o) (w o h)))

stores_nodes : (f : Family) (a x : Operand) → ((o : ℕ) → may_be f a (Object o) ≡ true → Within (may_be f x) (f.object o)) → All (Keeps (node_family f)) (stores a x)
stores_nodes f (Constant (value.Number z)) x w = All-nil (Keeps (node_family f))
stores_nodes f (Constant value.Null) x w = All-nil (Keeps (node_family f))
stores_nodes f (Constant value.Invalid) x w = All-nil (Keeps (node_family f))
stores_nodes f (Constant (value.At o g)) x w = copies_nodes f x (object_node o) (subst (λ (set : Member → Bool). Within (may_be f x) set) (sym (at_object f o)) (w o (self (Object o))))
stores_nodes f (Temp t) (Constant (value.Number z)) w = All-nil (Keeps (node_family f))
stores_nodes f (Temp t) (Constant value.Null) w = stores_one_nodes f t Null (λ o e. w o e Null refl)
stores_nodes f (Temp t) (Constant value.Invalid) w = stores_one_nodes f t Invalid (λ o e. w o e Invalid refl)
stores_nodes f (Temp t) (Constant (value.At p g)) w = stores_one_nodes f t (Object p) (λ o e. w o e (Object p) (self (Object p)))
stores_nodes f (Temp t) (Temp u) w = one (Keeps (node_family f)) (Stores (temp_node t) (temp_node u)) (λ o e.
    let h : f.temp t (Object o) ≡ true = subst (λ (set : Member → Bool). set (Object o) ≡ true) (at_temp f t) e in
    subst (λ (set : Member → Bool). Within (node_family f (temp_node u)) set) (sym (at_object f o)) (subst (λ (set : Member → Bool). Within set (f.object o)) (sym (at_temp f u)) (w o h)))

result_nodes : (f : Family) (n : ℕ) (c : Computation) → IsClosedResult f n c → All (Keeps (node_family f)) (of_result n c)
result_nodes f n (Move by a b) w = copies_nodes f a (temp_node n) (subst (λ (set : Member → Bool). Within (may_be f a) set) (sym (at_temp f n)) w)
result_nodes f n (Numbers op ty a b) w = All-nil (Keeps (node_family f))
result_nodes f n (Convert ty a) w = All-nil (Keeps (node_family f))
result_nodes f n (Pointers op a b) w = All-nil (Keeps (node_family f))
result_nodes f n (Passes test) w = All-nil (Keeps (node_family f))

action_nodes : (f : Family) (a : Action) → IsClosedAction f a → All (Keeps (node_family f)) (of_action a)
action_nodes f (action.Compute n c) w = result_nodes f n c w
action_nodes f (action.Read n ty a) w = loads_nodes f a (temp_node n) (λ o e. subst (λ (set : Member → Bool). Within (f.object o) set) (sym (at_temp f n)) (w o e))
action_nodes f (action.Write ty a x) w = stores_nodes f a x w
action_nodes f (action.Choice n ty) w = All-nil (Keeps (node_family f))
action_nodes f (action.Assume a) w = All-nil (Keeps (node_family f))
action_nodes f (action.Check c a) w = All-nil (Keeps (node_family f))
action_nodes f (action.Unless a n) w = All-nil (Keeps (node_family f))
action_nodes f (action.Goto n) w = All-nil (Keeps (node_family f))
action_nodes f (action.Live o) w = All-nil (Keeps (node_family f))
action_nodes f (action.Dead o) w = All-nil (Keeps (node_family f))
action_nodes f action.End w = All-nil (Keeps (node_family f))

mutual
  node_nodes : (f : Family) (x : Node) → IsClosedNode f x → All (Keeps (node_family f)) (of_node x)
  node_nodes f (Do a) w = action_nodes f a w
  node_nodes f (Block xs) w = nodes_nodes f xs w
  node_nodes f (Loop l xs) w = nodes_nodes f xs w

  nodes_nodes : (f : Family) (xs : Nodes) → AreClosed f xs → All (Keeps (node_family f)) (of_nodes xs)
  nodes_nodes f none w = All-nil (Keeps (node_family f))
  nodes_nodes f (more x rest) w = All-append (Keeps (node_family f)) (of_node x) (of_nodes rest) (node_nodes f x w.0) (nodes_nodes f rest w.1)

start_nodes : (f : Family) (n : ℕ) (vs : List CellValue) → AreHeld (f.object n) vs → All (Keeps (node_family f)) (of_start n vs)
start_nodes f n [] w = All-nil (Keeps (node_family f))
start_nodes f n (v ∷ vs) w =
    All-append (Keeps (node_family f)) (copies_one (target_of v) (object_node n)) (of_start n vs)
    (copies_nodes f (Constant v) (object_node n) (subst (λ (set : Member → Bool). Within (targets v) set) (sym (at_object f n)) w.0)) (start_nodes f n vs w.1)

first_nodes : (f : Family) (n : ℕ) (m : Member) (b : Bool) → (b ≡ true → f.object n m ≡ true) → All (Keeps (node_family f)) (if b then Has (object_node n) m ∷ [] else [])
first_nodes f n m true h = one (Keeps (node_family f)) (Has (object_node n) m) (subst (λ (set : Member → Bool). set m ≡ true) (sym (at_object f n)) (h refl))
first_nodes f n m false h = All-nil (Keeps (node_family f))

objects_nodes : (f : Family) (n : ℕ) (os : List CodeObject) → ((i : ℕ) (o : CodeObject) → slice_get os i ≡ Some o → IsClosedObject (f.object (n + i)) o) → All (Keeps (node_family f)) (of_objects n os)
objects_nodes f n [] w = All-nil (Keeps (node_family f))
objects_nodes f n (x ∷ os) w =
    let k : n + 0 ≡ n = omega arith in
    let here : IsClosedObject (f.object n) x = subst (λ (j : ℕ). IsClosedObject (f.object j) x) k (w 0 x refl) in
    All-append (Keeps (node_family f)) (of_first n x ++ of_start n x.start) (of_objects (suc n) os)
    (All-append (Keeps (node_family f)) (of_first n x) (of_start n x.start) (first_nodes f n (unwritten x.is_static) (has_pointer x.cells) here.first) (start_nodes f n x.start here.start))
    (objects_nodes f (suc n) os (λ i o e. let j : n + suc i ≡ suc n + i = omega arith in subst (λ (y : ℕ). IsClosedObject (f.object y) o) j (w (suc i) o e)))

pub closed_nodes : (f : Family) (c : CodeTree) → IsClosed c f → nodes.IsClosed (node_family f) (inclusions_of c)
closed_nodes f c w =
    All-append (Keeps (node_family f)) (of_nodes c.body) (of_objects 1 c.objects) (nodes_nodes f c.body w.actions)
    (objects_nodes f 1 c.objects (λ i o e. let k : suc i ≡ 1 + i = omega arith in subst (λ (j : ℕ). IsClosedObject (f.object j) o) k (w.objects (suc i) o e)))
