-- What may be read behind instructions: temporaries are numbered in the order of their instructions.
use Rattle.std.proofs.Common.{◌≡◌, ℕ, zero, suc, ◌+◌, ◌<◌, Bool, true, false, ◌==◌, if◌then◌else◌, List, [], ◌∷◌, ◌++◌, Some, refl, ap, ◌∙◌, subst, arith}
use Rattle.std.proofs.lemmas.Bool.Decides.{nat_tests}
use Rattle.l2_runs.specs.Fits.{Layout}
use Rattle.l2_code.specs.declared.action.Operand.{Operand}
use Rattle.l2_code.specs.declared.action.Action.{Action}
use Rattle.l2_code.specs.declared.action.Action.TheVariants as action
use Rattle.l2_code.specs.Trees.{Node, Do, Block, Loop}
use Rattle.l2_code.specs.WellFormed.{Known, Scope, with_known, behind, behind_node, result_of, node_results, count_from}
use Rattle.l2_blast.specs.Sorts.{Sorts}
use Rattle.l2_typed_steps.proofs.Operands.{IsKnown, AreKnown}
use Rattle.l2_typed_steps.proofs.Places.{plus}

pub plus_is : (o i : ℕ) → plus o i ≡ o + i
plus_is o zero = omega arith
plus_is o (suc i) = let h = plus_is (suc o) i in h ∙ omega arith

-- only temporaries below a number may be read
abbrev pub Below : Scope → ℕ → Type 0
Below scope lo = (t : ℕ) (k : Known) → scope t ≡ Some k → t < lo

-- what may be read before may be read behind
abbrev pub Extends : Scope → Scope → Type 0
Extends scope more = (t : ℕ) (k : Known) → scope t ≡ Some k → more t ≡ Some k

pub record Parts (xs ys : List ℕ) (lo : ℕ) : Type 0 where
  pub front : ℕ
  pub back : ℕ
  pub first : xs ≡ count_from lo front
  pub second : ys ≡ count_from (plus lo front) back

head_same : (x y : ℕ) (xs ys : List ℕ) → x ∷ xs ≡ y ∷ ys → x ≡ y
head_same x y xs ys e = cc

tail_same : (x y : ℕ) (xs ys : List ℕ) → x ∷ xs ≡ y ∷ ys → xs ≡ ys
tail_same x y xs ys e = cc

pub parts : (xs ys : List ℕ) (lo len : ℕ) → xs ++ ys ≡ count_from lo len → Parts xs ys lo
parts [] ys lo len e = record { front = 0; back = len; first = refl; second = e }
parts (x ∷ xs) ys lo zero e = absurd (cc e)
parts (x ∷ xs) ys lo (suc len) e =
    let h = parts xs ys (suc lo) len (tail_same x lo (xs ++ ys) (count_from (suc lo) len) e) in
    let same : x ≡ lo = head_same x lo (xs ++ ys) (count_from (suc lo) len) e in
    record { front = suc h.front; back = h.back; first = ap (λ n. n ∷ xs) same ∙ ap (λ t. lo ∷ t) h.first; second = h.second }

pub more_below : (scope : Scope) (lo a : ℕ) → Below scope lo → Below scope (plus lo a)
more_below scope lo a h = λ t k e. let l = h t k e in let p = plus_is lo a in omega (arith, l, p)

one_more : (n lo a : ℕ) → n ∷ [] ≡ count_from lo a → (n ≡ lo) × (plus lo a ≡ suc lo)
one_more n lo zero e = absurd (cc e)
one_more n lo (suc zero) e = (head_same n lo [] [] e, refl)
one_more n lo (suc (suc a)) e = absurd (let h : [] ≡ suc lo ∷ count_from (suc (suc lo)) a = tail_same n lo [] (suc lo ∷ count_from (suc (suc lo)) a) e in cc h)

known_below : (scope : Scope) (n : ℕ) (k : Known) (lo a : ℕ) → n ∷ [] ≡ count_from lo a → Below scope lo → Below (with_known scope n k) (plus lo a)
known_below scope n k lo a e h = λ t j f. go t j (t == n) refl f
  where
    go : (t : ℕ) (j : Known) (b : Bool) → (t == n) ≡ b → (if b then Some k else scope t) ≡ Some j → t < plus lo a
    go t j true is f =
        let o = one_more n lo a e in
        let same : t ≡ n = grind (arith, nat_tests) in
        let n_is : n ≡ lo = o.0 in
        let p_is : plus lo a ≡ suc lo = o.1 in
        omega (arith, same, n_is, p_is)
    go t j false is f =
        let o = one_more n lo a e in
        let p_is : plus lo a ≡ suc lo = o.1 in
        let l = h t j f in
        omega (arith, l, p_is)

known_extends : (scope : Scope) (n : ℕ) (k : Known) (lo a : ℕ) → n ∷ [] ≡ count_from lo a → Below scope lo → Extends scope (with_known scope n k)
known_extends scope n k lo a e h = λ t j f. go t j (t == n) refl f
  where
    go : (t : ℕ) (j : Known) (b : Bool) → (t == n) ≡ b → scope t ≡ Some j → (if b then Some k else scope t) ≡ Some j
    go t j true is f =
        let same : t ≡ n = grind (arith, nat_tests) in
        let n_is : n ≡ lo = (one_more n lo a e).0 in
        let l = h t j f in
        absurd (omega (arith, l, same, n_is))
    go t j false is f = f

action_below : (scope : Scope) (x : Action) (lo a : ℕ) → result_of x ≡ count_from lo a → Below scope lo → Below (behind scope x) (plus lo a)
action_below scope (action.Compute n x) lo a e h = known_below scope n _ lo a e h
action_below scope (action.Read n ty x) lo a e h = known_below scope n _ lo a e h
action_below scope (action.Choice n ty) lo a e h = known_below scope n _ lo a e h
action_below scope (action.Write ty x y) lo a e h = more_below scope lo a h
action_below scope (action.Assume x) lo a e h = more_below scope lo a h
action_below scope (action.Check n x) lo a e h = more_below scope lo a h
action_below scope (action.Unless x n) lo a e h = more_below scope lo a h
action_below scope (action.Goto n) lo a e h = more_below scope lo a h
action_below scope (action.Live n) lo a e h = more_below scope lo a h
action_below scope (action.Dead n) lo a e h = more_below scope lo a h
action_below scope action.End lo a e h = more_below scope lo a h

action_extends : (scope : Scope) (x : Action) (lo a : ℕ) → result_of x ≡ count_from lo a → Below scope lo → Extends scope (behind scope x)
action_extends scope (action.Compute n x) lo a e h = known_extends scope n _ lo a e h
action_extends scope (action.Read n ty x) lo a e h = known_extends scope n _ lo a e h
action_extends scope (action.Choice n ty) lo a e h = known_extends scope n _ lo a e h
action_extends scope (action.Write ty x y) lo a e h = λ t k f. f
action_extends scope (action.Assume x) lo a e h = λ t k f. f
action_extends scope (action.Check n x) lo a e h = λ t k f. f
action_extends scope (action.Unless x n) lo a e h = λ t k f. f
action_extends scope (action.Goto n) lo a e h = λ t k f. f
action_extends scope (action.Live n) lo a e h = λ t k f. f
action_extends scope (action.Dead n) lo a e h = λ t k f. f
action_extends scope action.End lo a e h = λ t k f. f

pub node_below : (scope : Scope) (x : Node) (lo a : ℕ) → node_results x ≡ count_from lo a → Below scope lo → Below (behind_node scope x) (plus lo a)
node_below scope (Do x) lo a e h = action_below scope x lo a e h
node_below scope (Block all) lo a e h = more_below scope lo a h
node_below scope (Loop l all) lo a e h = more_below scope lo a h

pub node_extends : (scope : Scope) (x : Node) (lo a : ℕ) → node_results x ≡ count_from lo a → Below scope lo → Extends scope (behind_node scope x)
node_extends scope (Do x) lo a e h = action_extends scope x lo a e h
node_extends scope (Block all) lo a e h = λ t k f. f
node_extends scope (Loop l all) lo a e h = λ t k f. f

-- a temporary that is computed
pub known_with : (cells : Layout) (sorts : Sorts) (scope : Scope) (temps : ℕ → Operand) (n : ℕ) (k : Known) (a : Operand) → AreKnown cells sorts scope temps → IsKnown cells sorts k a → AreKnown cells sorts (with_known scope n k) (λ i. if i == n then a else temps i)
known_with cells sorts scope temps n k a known h = λ t j e. go t j (t == n) e
  where
    inner : (j : Known) → Some k ≡ Some j → k ≡ j
    inner j e = cc

    go : (t : ℕ) (j : Known) (b : Bool) → (if b then Some k else scope t) ≡ Some j → IsKnown cells sorts j (if b then a else temps t)
    go t j true e = subst (λ x. IsKnown cells sorts x a) (inner j e) h
    go t j false e = known t j e

pub fewer_known : (cells : Layout) (sorts : Sorts) (scope more : Scope) (temps : ℕ → Operand) → Extends scope more → AreKnown cells sorts more temps → AreKnown cells sorts scope temps
fewer_known cells sorts scope more temps x h = λ t k e. h t k (x t k e)
