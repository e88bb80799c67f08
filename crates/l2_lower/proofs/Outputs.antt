-- What is emitted one after another, as one.
use Rattle.std.proofs.Common.{◌≡◌, ℕ, ◌+◌, ℤ, pos, not, List, [], Option, Some, None, refl, sym, ap, subst, ◌∙◌, arith}
use Rattle.std.specs.Prelude.{Result, Ok, Err, IfOk, IfErr, ◌≢◌, ◌<◌}
use Rattle.std.specs.Result.{IsErr, IsErrAnd}
use Rattle.std.specs.Option.{unwrap_or}
use Rattle.l2_bits.specs.declared.types.Ty.{Ty}
use Rattle.l2_bits.specs.declared.operators.Op.{Op}
use Rattle.l2_bits.specs.Operators.{convert, overflows}
use Rattle.l2_runs.specs.declared.cells.CellValue.TheVariants.{Number}
use Rattle.l2_runs.specs.Operators.{truth}
use Rattle.l2_code.specs.declared.action.Operator.{Operator}
use Rattle.l2_code.specs.declared.action.Operand.{Operand}
use Rattle.l2_code.specs.declared.action.Operand.TheVariants.{Constant}
use Rattle.l2_code.specs.declared.action.Test.TheVariants as test
use Rattle.l2_code.specs.declared.action.Computation.TheVariants.{Numbers, Convert, Passes}
use Rattle.l2_code.specs.Values.{operate, as_number}
use Rattle.l2_meaning.proofs.Numbers.{zero_value}
use Rattle.l2_program.proofs.Trees.{checked_tree-Block}
use Rattle.l2_lower.specs.Emitting.{Emitted, Part, part, or_zero, computed}
use Rattle.l2_code.specs.declared.code.Item.{Item}
use Rattle.l2_code.specs.Trees.{Block, Nodes, none, more, join, items_of}
use Rattle.l2_code.specs.Sizes.{instructions}
use Rattle.l2_code.proofs.Items.{items_of-join, join-none, join-join}
use Rattle.l2_lower.specs.declared.error.LowerError.{LowerError}
use Rattle.l2_lower.specs.declared.error.LowerError.TheVariants.{NoMemory}
use Rattle.l2_lower.specs.Output.{Output, Counts, Anything, output, with_nodes, Emits, most_instructions}
use Rattle.l2_lower.specs.Statements.{as_block}

pub instructions-join : (xs ys : Nodes) → instructions (join xs ys) ≡ instructions xs + instructions ys
instructions-join none ys = omega arith
instructions-join (more x rest) ys = let h = instructions-join rest ys in omega arith

pub ruleset outputs = (instructions-join, items_of-join, join-none, join-join)

-- ---- constants

with_none : (out : Output) → out ≡ with_nodes out none out.next
with_none out = λ i. record { nodes = sym (join-none out.nodes) i; next = out.next; count = plus_none i } where
  plus_none : out.count ≡ out.count + 0
  plus_none = omega arith

-- what is emitted where nothing but an operand is
abbrev pub Folds : Emitted → Operand → Output → Type 0
Folds x d out = (d ≡ x.operand) × (out ≡ with_nodes out x.nodes x.next)

number_or : (o : Option ℤ) → Number (unwrap_or o (pos 0)) ≡ or_zero (as_number o)
number_or None = refl
number_or (Some z) = refl

pub numbers_fold : (op : Operator) (ty : Ty) (a b : Operand) (x y z : ℤ) (out : Output) → a ≡ Constant (Number x) → b ≡ Constant (Number y) → z ≡ unwrap_or (operate op ty x y) (pos 0) → Folds (computed out.next (Numbers op ty a b)) (Constant (Number z)) out
numbers_fold op ty a b x y z out e f h =
    subst (λ p. Folds (computed out.next (Numbers op ty p b)) (Constant (Number z)) out) (sym e)
    (subst (λ q. Folds (computed out.next (Numbers op ty (Constant (Number x)) q)) (Constant (Number z)) out) (sym f)
    (ap Constant (ap Number h ∙ number_or (operate op ty x y)), with_none out))

pub convert_folds : (ty : Ty) (a : Operand) (x z : ℤ) (out : Output) → a ≡ Constant (Number x) → z ≡ convert ty x → Folds (computed out.next (Convert ty a)) (Constant (Number z)) out
convert_folds ty a x z out e h = subst (λ p. Folds (computed out.next (Convert ty p)) (Constant (Number z)) out) (sym e) (ap Constant (ap Number h), with_none out)

pub overflow_folds : (op : Op) (ty : Ty) (a b : Operand) (x y z : ℤ) (out : Output) → a ≡ Constant (Number x) → b ≡ Constant (Number y) → z ≡ truth (not (overflows op ty x y)) → Folds (computed out.next (Passes (test.Overflow op ty a b))) (Constant (Number z)) out
overflow_folds op ty a b x y z out e f h =
    subst (λ p. Folds (computed out.next (Passes (test.Overflow op ty p b))) (Constant (Number z)) out) (sym e)
    (subst (λ q. Folds (computed out.next (Passes (test.Overflow op ty (Constant (Number x)) q))) (Constant (Number z)) out) (sym f)
    (ap Constant (ap Number h), with_none out))

pub ruleset operators = (instructions-join, items_of-join, join-none, join-join, zero_value)

-- ---- failures

-- what is too much already is too much with what follows, whatever `?` hands on
pub too_much : {B : Type 0} (Q : B → Type 0) (xs ys : Nodes) (k : ℕ) (old new : Output) (f : LowerError) (r : Result B LowerError) → IsErr r → IsErrAnd r (λ g. g ≡ f) → (f ≢ NoMemory → most_instructions < old.count + instructions xs) → Emits (join xs ys) k Q old new r
too_much Q xs ys k old new f (Ok v) h e m = cc
too_much Q xs ys k old new f (Err g) h e m = subst (λ x. x ≢ NoMemory → most_instructions < old.count + instructions (join xs ys)) (sym e) (λ u. let l = m u in let j = instructions-join xs ys in omega arith)

-- ---- loops

-- with these items more one has those items more than before
abbrev pub Leaves : Output → Part → Output → Part → Type 0
Leaves old whole now rest = with_nodes now rest.nodes rest.next ≡ with_nodes old whole.nodes whole.next

with_twice : (out : Output) (xs ys : Nodes) (n k : ℕ) → with_nodes (with_nodes out xs n) ys k ≡ with_nodes out (join xs ys) k
with_twice out xs ys n k = λ i. record { nodes = join-join out.nodes xs ys i; next = k; count = counted i } where
  counted : out.count + instructions xs + instructions ys ≡ out.count + instructions (join xs ys)
  counted = let j = instructions-join xs ys in omega arith

-- the first of the rest was emitted
pub leaves_less : (old : Output) (whole : Part) (now new : Output) (first rest : Nodes) (n k : ℕ) → new ≡ with_nodes now first n → Leaves old whole now (part k (join first rest)) → Leaves old whole new (part k rest)
leaves_less old whole now new first rest n k e h = ap (λ o. with_nodes o rest k) e ∙ with_twice now first rest n k ∙ h

-- nothing is left
pub leaves_none : (old : Output) (whole : Part) (now : Output) (n : ℕ) → now.next ≡ n → Leaves old whole now (part n none) → now ≡ with_nodes old whole.nodes whole.next
leaves_none old whole now n e h = with_none now ∙ ap (λ k. with_nodes now none k) e ∙ h

-- the first of the rest is too much
pub leaves_too_much : {B : Type 0} (Q : B → Type 0) (old : Output) (whole : Part) (now new : Output) (first rest : Nodes) (k : ℕ) (f : LowerError) (r : Result B LowerError) → IsErr r → IsErrAnd r (λ g. g ≡ f) → Leaves old whole now (part k (join first rest)) → (f ≢ NoMemory → most_instructions < now.count + instructions first) → Emits whole.nodes whole.next Q old new r
leaves_too_much Q old whole now new first rest k f (Ok v) h e l m = cc
leaves_too_much Q old whole now new first rest k f (Err g) h e l m = subst (λ x. x ≢ NoMemory → most_instructions < old.count + instructions whole.nodes) (sym e) (λ u. let t = m u in let c = ap (λ o. o.count) l in let j = instructions-join first rest in omega arith)

pub ruleset loops = (instructions-join, items_of-join, join-none, join-join)

pub ruleset statements = (instructions-join, items_of-join, join-none, join-join, checked_tree-Block)

-- one thing is emitted and then another
pub emits_then : {A : Type 0} (Q : A → Type 0) (old mid new : Output) (xs ys : Nodes) (n k : ℕ) (r : Result A LowerError) → mid ≡ with_nodes old xs n → Emits ys k Q mid new r → Emits (join xs ys) k Q old new r
emits_then Q old mid new xs ys n k (Ok a) e (p, q) = (p, q ∙ ap (λ o. with_nodes o ys k) e ∙ with_twice old xs ys n k)
emits_then Q old mid new xs ys n k (Err f) e m = λ u. let t = m u in let c = ap (λ o. o.count) e in let j = instructions-join xs ys in omega arith

-- ---- blocks

-- items of their own become one item
pub block_pushed : (x : Part) (old inner0 : List Item) (at0 : Counts) (inner new : List Item) (at1 : Counts) (r : Result (Unit {0}) LowerError) → inner0 ≡ [] → output inner at1 ≡ with_nodes (output inner0 at0) x.nodes x.next →
    IfOk r (λ u. items_of new ≡ join (items_of old) (more (Block (items_of inner)) none)) → IfErr r (λ e. e ≡ NoMemory) → Emits (as_block x).nodes x.next Anything (output old at0) (output new at1) r
block_pushed x old inner0 at0 inner new at1 (Ok u) z e h k = (tt, λ i. record { nodes = all i; next = next i; count = counted i }) where
  inside : items_of inner ≡ x.nodes
  inside = ap (λ o. o.nodes) e ∙ ap (λ xs. join (items_of xs) x.nodes) z

  all : items_of new ≡ join (items_of old) (more (Block x.nodes) none)
  all = h ∙ ap (λ xs. join (items_of old) (more (Block xs) none)) inside

  next : at1.next ≡ x.next
  next = ap (λ o. o.next) e

  counted : at1.count ≡ at0.count + (instructions x.nodes + 0)
  counted = let c = ap (λ o. o.count) e in omega arith
block_pushed x old inner0 at0 inner new at1 (Err f) z e h k = λ u. absurd (u k)

pub block_fails : {B : Type 0} (Q : B → Type 0) (x : Part) (old : List Item) (at0 : Counts) (new : Output) (f : LowerError) (r : Result B LowerError) → IsErr r → IsErrAnd r (λ g. g ≡ f) → (f ≢ NoMemory → most_instructions < at0.count + instructions x.nodes) → Emits (as_block x).nodes x.next Q (output old at0) new r
block_fails Q x old at0 new f (Ok v) h e m = cc
block_fails Q x old at0 new f (Err g) h e m = subst (λ y. y ≢ NoMemory → most_instructions < at0.count + (instructions x.nodes + 0)) (sym e) (λ u. let t = m u in omega arith)
