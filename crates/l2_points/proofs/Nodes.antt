-- Nodes of objects, of temporaries, and of one member.
use Rattle.std.specs.Prelude.{◌≡◌, ℕ, ◌/◌, ◌%◌, ◌==◌, refl}
use Rattle.std.proofs.Common.{arith, ap, ◌∙◌}
use Rattle.l2_runs.specs.declared.member.Member.{Member}
use Rattle.l2_runs.specs.declared.member.Member.TheVariants.{Null, Invalid, Object}
use Rattle.l2_code.specs.Sets.{Family}
use Rattle.l2_inclusions.specs.Inclusions.{object_node}
use Rattle.l2_points.specs.Gathering.{temp_node, number_of, one_node, node_set, node_family}

pub at_object : (f : Family) (o : ℕ) → node_family f (object_node o) ≡ f.object o
unfolding node_family
at_object f o =
    let n = object_node o in
    let r : n % 3 ≡ 0 = omega arith in
    let k : n / 3 ≡ o = omega arith in
    λ i m. (ap (λ (x : ℕ). node_set f x (n / 3) m) r ∙ ap (λ (x : ℕ). node_set f 0 x m) k) i

pub at_temp : (f : Family) (t : ℕ) → node_family f (temp_node t) ≡ f.temp t
unfolding node_family
at_temp f t =
    let n = temp_node t in
    let r : n % 3 ≡ 1 = omega arith in
    let k : n / 3 ≡ t = omega arith in
    λ i m. (ap (λ (x : ℕ). node_set f x (n / 3) m) r ∙ ap (λ (x : ℕ). node_set f 1 x m) k) i

pub at_one : (f : Family) (a m : Member) → node_family f (one_node a) m ≡ (number_of m == number_of a)
unfolding node_family
at_one f a m =
    let n = one_node a in
    let r : n % 3 ≡ 2 = omega arith in
    let k : n / 3 ≡ number_of a = omega arith in
    ap (λ (x : ℕ). node_set f x (n / 3) m) r ∙ ap (λ (x : ℕ). node_set f 2 x m) k

pub number_of-same : (a b : Member) → number_of a ≡ number_of b → a ≡ b
number_of-same Null Null e = refl
number_of-same Null Invalid e = absurd (omega arith)
number_of-same Null (Object o) e = absurd (omega arith)
number_of-same Invalid Null e = absurd (omega arith)
number_of-same Invalid Invalid e = refl
number_of-same Invalid (Object o) e = absurd (omega arith)
number_of-same (Object o) Null e = absurd (omega arith)
number_of-same (Object o) Invalid e = absurd (omega arith)
number_of-same (Object o) (Object p) e = ap (λ (x : ℕ). Object x) (omega arith)
