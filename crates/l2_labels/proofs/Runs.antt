-- Code whose labels are merged does what the code does.
use Rattle.std.proofs.Common.{◌≡◌, refl, ap, ◌∙◌, ℕ, zero, suc, Bool, true, false, List, [], ◌∷◌, Option}
use Rattle.l2_bits.specs.Values.{wrap}
use Rattle.l2_runs.specs.declared.cells.CellValue.TheVariants.{Number}
use Rattle.l2_runs.specs.Store.{Address}
use Rattle.l2_runs.specs.Runs.{State, Result, Go, Halt, Run, on_go, and_then, done, stop, either, choose, read, write, enliven, bury, check}
use Rattle.l2_code.specs.declared.action.Action.{Action}
use Rattle.l2_code.specs.declared.action.Action.TheVariants as action
use Rattle.l2_code.specs.Trees.{Node, Do, Block, Loop, Nodes, none, more}
use Rattle.l2_code.specs.Values.{Temps, no_temps, with_temp, operand_value, is_true, cell_of}
use Rattle.l2_code.specs.Machine.{Setting, Way, On, Out, or_stuck, computed, act, follow, leave, close, node, nodes}
use Rattle.l2_code.specs.Modes.{types_of}
use Rattle.l2_labels.specs.Labels.{blocks_left, redirected, where_last, single, at_end, merged}
use Rattle.l2_labels.specs.Law.{RunsAlike}
use Rattle.l2_labels.proofs.Carried.{carried, Carries, done_carries, same, then_carries, turned, left, loop_carries}

-- where the merged code leads
abbrev way : List Bool → Way → Way
way stays (On t) = On t
way stays (Out n) = Out (blocks_left stays n)

-- an instruction that is no jump
goes : {A : Type 0} (stays : List Bool) (r : Run A) (f : A → Temps) → Carries (way stays) (and_then r (λ a. done (On (f a)))) (and_then r (λ a. done (On (f a))))
goes stays r f = then_carries (λ a. a) (way stays) (λ a. done (On (f a))) (λ a. done (On (f a))) (same r) (λ a. done_carries (way stays) (On (f a)) (On (f a)) refl)

jumps : (stays : List Bool) (b : Bool) (t : Temps) (n : ℕ) → Carries (way stays) (either b (done (On t)) (done (Out n))) (either b (done (On t)) (done (Out (blocks_left stays n))))
jumps stays true t n = record { at = λ s. refl }
jumps stays false t n = record { at = λ s. refl }

assumes : (stays : List Bool) (b : Bool) (t : Temps) → Carries (way stays) (either b (done (On t)) stop) (either b (done (On t)) stop)
assumes stays true t = record { at = λ s. refl }
assumes stays false t = record { at = λ s. refl }

module _ (g : Setting) where
  act_carries : (stays : List Bool) (b : Bool) (a : Action) (t : Temps) → Carries (way stays) (act g b a t) (act g b (redirected stays a) t)
  act_carries stays b (action.Compute n c) t = goes stays (computed g.types t c) (λ v. with_temp t n v)
  act_carries stays b (action.Read n ty a) t = go (or_stuck (cell_of g.types.objects ty (operand_value t a)))
    where
      go : (r : Run Address) → Carries (way stays) (and_then r (λ at. and_then (read at) (λ v. done (On (with_temp t n v))))) (and_then r (λ at. and_then (read at) (λ v. done (On (with_temp t n v)))))
      go r = then_carries (λ (at : Address). at) (way stays) (λ at. and_then (read at) (λ v. done (On (with_temp t n v)))) (λ at. and_then (read at) (λ v. done (On (with_temp t n v)))) (same r)
          (λ at. goes stays (read at) (λ v. with_temp t n v))
  act_carries stays b (action.Write ty a x) t = go (or_stuck (cell_of g.types.objects ty (operand_value t a)))
    where
      go : (r : Run Address) → Carries (way stays) (and_then r (λ at. and_then (write at (operand_value t x)) (λ u. done (On t)))) (and_then r (λ at. and_then (write at (operand_value t x)) (λ u. done (On t))))
      go r = then_carries (λ (at : Address). at) (way stays) (λ at. and_then (write at (operand_value t x)) (λ u. done (On t))) (λ at. and_then (write at (operand_value t x)) (λ u. done (On t))) (same r)
          (λ at. goes stays (write at (operand_value t x)) (λ u. t))
  act_carries stays b (action.Choice n ty) t = goes stays choose (λ z. with_temp t n (Number (wrap ty z)))
  act_carries stays b (action.Assume a) t = assumes stays (is_true (operand_value t a)) t
  act_carries stays b (action.Check c a) t = goes stays (check b c (is_true (operand_value t a))) (λ u. t)
  act_carries stays b (action.Unless a n) t = jumps stays (is_true (operand_value t a)) t n
  act_carries stays b (action.Goto n) t = record { at = λ s. refl }
  act_carries stays b (action.Live o) t = goes stays (enliven o) (λ u. t)
  act_carries stays b (action.Dead o) t = goes stays (bury o) (λ u. t)
  act_carries stays b action.End t = record { at = λ s. refl }

  -- behind a block that stays
  leave_kept : (stays : List Bool) (t : Temps) (w : Way) → leave t (way (true ∷ stays) w) ≡ way stays (leave t w)
  leave_kept stays t (On u) = refl
  leave_kept stays t (Out zero) = refl
  leave_kept stays t (Out (suc n)) = refl

  -- and behind one that ends where the block round it ends
  leave_both : (stays : List Bool) (t u : Temps) (w : Way) → leave u (way (false ∷ stays) w) ≡ leave u (way stays (leave t w))
  leave_both stays t u (On x) = refl
  leave_both stays t u (Out zero) = refl
  leave_both stays t u (Out (suc n)) = refl

  -- what a turn comes to
  abbrev turn_end : Way → Unit {0} × Option ℕ
  turn_end w = (tt, close w)

  abbrev handed : Option ℕ → Run (Unit {0} × Option ℕ)
  handed o = done (tt, o)

  close_way : (stays : List Bool) (w : Way) → turn_end (way stays w) ≡ turned (blocks_left stays) (turn_end w)
  close_way stays (On t) = refl
  close_way stays (Out n) = refl

  -- the run of a list in a block, up to the block's end
  abbrev ending : Bool → Nodes → Temps → Temps → Run Way
  ending b xs t u = and_then (nodes g b xs t) (λ w. done (leave u w))

  abbrev Ends : List Bool → Bool → Nodes → Nodes → Type 0
  Ends stays b xs ys = (t u : Temps) → Carries (λ w. leave u (way stays w)) (nodes g b xs t) (ending b ys t u)

  abbrev Goes : List Bool → Bool → Nodes → Nodes → Type 0
  Goes stays b xs ys = (t : Temps) → Carries (way stays) (nodes g b xs t) (nodes g b ys t)

  follow_goes : (stays : List Bool) (f h : Temps → Run Way) → ((t : Temps) → Carries (way stays) (f t) (h t)) → (w : Way) → Carries (way stays) (follow f w) (follow h (way stays w))
  follow_goes stays f h e (On t) = e t
  follow_goes stays f h e (Out n) = record { at = λ s. refl }

  more_goes : (stays : List Bool) (b : Bool) (x y : Node) (xs ys : Nodes) → ((t : Temps) → Carries (way stays) (node g b x t) (node g b y t)) → Goes stays b xs ys → Goes stays b (more x xs) (more y ys)
  more_goes stays b x y xs ys first rest t = then_carries (way stays) (way stays) (follow (nodes g b xs)) (follow (nodes g b ys)) (first t) (follow_goes stays (nodes g b xs) (nodes g b ys) rest)

  none_goes : (stays : List Bool) (b : Bool) → Goes stays b none none
  none_goes stays b t = record { at = λ s. refl }

  ends_so : (stays : List Bool) (b : Bool) (xs ys : Nodes) → Goes stays b xs ys → Ends stays b xs ys
  ends_so stays b xs ys e t u = record { at = λ s. ap (λ x. on_go x (λ w. done (leave u w))) ((e t).at s) ∙ go (nodes g b xs t s) }
    where
      go : (x : Result Way) → on_go (carried (way stays) x) (λ w. done (leave u w)) ≡ carried (λ w. leave u (way stays w)) x
      go (Go w s) = refl
      go (Halt e s) = refl

  -- one behind another, to the end of the block
  follow_ends : (stays : List Bool) (u : Temps) (f h : Temps → Run Way) → ((t : Temps) → Carries (λ w. leave u (way stays w)) (f t) (and_then (h t) (λ w. done (leave u w))))
      → (w : Way) → Carries (λ w. leave u (way stays w)) (follow f w) (and_then (follow h (way stays w)) (λ w. done (leave u w)))
  follow_ends stays u f h e (On t) = record { at = λ s. (e t).at s }
  follow_ends stays u f h e (Out n) = record { at = λ s. refl }

  together : (u : Temps) (f : Way → Run Way) (x : Result Way) → on_go (on_go x f) (λ w. done (leave u w)) ≡ on_go x (λ w. and_then (f w) (λ w. done (leave u w)))
  together u f (Go w s) = refl
  together u f (Halt e s) = refl

  more_ends : (stays : List Bool) (b : Bool) (x y : Node) (xs ys : Nodes) → ((t : Temps) → Carries (way stays) (node g b x t) (node g b y t)) → Ends stays b xs ys → Ends stays b (more x xs) (more y ys)
  more_ends stays b x y xs ys first rest t u = record {
    at = λ s. together u (follow (nodes g b ys)) (node g b y t s) ∙
        (then_carries (way stays) (λ w. leave u (way stays w)) (follow (nodes g b xs)) (λ w. and_then (follow (nodes g b ys) w) (λ w. done (leave u w))) (first t)
        (follow_ends stays u (nodes g b xs) (nodes g b ys) (λ t. rest t u))).at s;
  }

  -- a block at the end of a block
  block_ends : (stays : List Bool) (b : Bool) (all ys : Nodes) → Ends (false ∷ stays) b all ys → Ends stays b (more (Block all) none) ys
  block_ends stays b all ys e t u = record { at = λ s. (e t u).at s ∙ go (nodes g b all t s) }
    where
      through : (w : Way) (s : State) → Go (leave u (way (false ∷ stays) w)) s ≡ carried (λ w. leave u (way stays w)) (follow (nodes g b none) (leave t w) s)
      through (On x) s = refl
      through (Out zero) s = refl
      through (Out (suc n)) s = refl

      go : (x : Result Way) → carried (λ w. leave u (way (false ∷ stays) w)) x ≡ carried (λ w. leave u (way stays w)) (on_go (on_go x (λ w. done (leave t w))) (follow (nodes g b none)))
      go (Go w s) = through w s
      go (Halt x s) = refl

  -- a block that stays
  block_goes : (stays : List Bool) (b : Bool) (all ys : Nodes) → Ends (true ∷ stays) b all ys → (t : Temps) → Carries (way stays) (node g b (Block all) t) (node g b (Block ys) t)
  block_goes stays b all ys e t = record { at = λ s. (e t t).at s ∙ go (nodes g b all t s) }
    where
      go : (x : Result Way) → carried (λ w. leave t (way (true ∷ stays) w)) x ≡ carried (way stays) (on_go x (λ w. done (leave t w)))
      go (Go w s) = ap (λ y. Go y s) (leave_kept stays t w)
      go (Halt x s) = refl

  loop_goes : (stays : List Bool) (b : Bool) (l : ℕ) (all ys : Nodes) → ((c : Bool) → Goes stays c all ys) → (t : Temps) → Carries (way stays) (node g b (Loop l all) t) (node g b (Loop l ys) t)
  loop_goes stays b l all ys e t =
      then_carries (blocks_left stays) (way stays) (λ n. done (Out n)) (λ n. done (Out n))
      (then_carries (left (blocks_left stays)) (blocks_left stays) (λ r. done r.1) (λ r. done r.1)
      (loop_carries (blocks_left stays) g.limit g.tests l
      (λ c (u : Unit {0}). and_then (and_then (nodes g c all t) (λ w. done (close w))) handed)
      (λ c (u : Unit {0}). and_then (and_then (nodes g c ys t) (λ w. done (close w))) handed)
      (λ c u. turn c) b tt)
      (λ r. record { at = λ s. refl }))
      (λ n. record { at = λ s. refl })
    where
      ends : (x : Result Way) → on_go (on_go (carried (way stays) x) (λ w. done (close w))) handed ≡ carried (turned (blocks_left stays)) (on_go (on_go x (λ w. done (close w))) handed)
      ends (Go w s) = ap (λ y. Go y s) (close_way stays w)
      ends (Halt x s) = refl

      turn : (c : Bool) → Carries (turned (blocks_left stays)) (and_then (and_then (nodes g c all t) (λ w. done (close w))) handed) (and_then (and_then (nodes g c ys t) (λ w. done (close w))) handed)
      turn c = record { at = λ s. ap (λ x. on_go (on_go x (λ w. done (close w))) handed) ((e c t).at s) ∙ ends (nodes g c all t s) }

  -- the last node, or one before others
  last_goes : (stays : List Bool) (b : Bool) (x : Node) (rest last other : Nodes) → Goes stays b (more x none) last → Goes stays b (more x rest) other → Goes stays b (more x rest) (where_last rest last other)
  last_goes stays b x none last other p q t = p t
  last_goes stays b x (more y ys) last other p q t = q t

  last_ends : (stays : List Bool) (b : Bool) (x : Node) (rest last other : Nodes) → Ends stays b (more x none) last → Ends stays b (more x rest) other → Ends stays b (more x rest) (where_last rest last other)
  last_ends stays b x none last other p q t u = p t u
  last_ends stays b x (more y ys) last other p q t u = q t u

  mutual
    single_goes : (stays : List Bool) (b : Bool) (x : Node) (t : Temps) → Carries (way stays) (node g b x t) (node g b (single stays x) t)
    single_goes stays b (Do a) t = act_carries stays b a t
    single_goes stays b (Block all) t = block_goes stays b all (merged (true ∷ stays) true all) (merged_ends (true ∷ stays) b all) t
    single_goes stays b (Loop l all) t = loop_goes stays b l all (merged stays false all) (λ c. merged_goes stays c all) t

    last_node : (stays : List Bool) (b : Bool) (x : Node) → Ends stays b (more x none) (at_end stays true x)
    last_node stays b (Block all) = block_ends stays b all (merged (false ∷ stays) true all) (merged_ends (false ∷ stays) b all)
    last_node stays b (Do a) =
        ends_so stays b (more (Do a) none) (more (Do (redirected stays a)) none) (more_goes stays b (Do a) (Do (redirected stays a)) none none (act_carries stays b a) (none_goes stays b))
    last_node stays b (Loop l all) =
        ends_so stays b (more (Loop l all) none) (more (Loop l (merged stays false all)) none)
        (more_goes stays b (Loop l all) (Loop l (merged stays false all)) none none (loop_goes stays b l all (merged stays false all) (λ c. merged_goes stays c all)) (none_goes stays b))

    merged_ends : (stays : List Bool) (b : Bool) (xs : Nodes) → Ends stays b xs (merged stays true xs)
    merged_ends stays b none = ends_so stays b none none (none_goes stays b)
    merged_ends stays b (more x rest) =
        last_ends stays b x rest (at_end stays true x) (more (single stays x) (merged stays true rest)) (last_node stays b x)
        (more_ends stays b x (single stays x) rest (merged stays true rest) (single_goes stays b x) (merged_ends stays b rest))

    last_alone : (stays : List Bool) (b : Bool) (x : Node) → Goes stays b (more x none) (at_end stays false x)
    last_alone stays b (Block all) = more_goes stays b (Block all) (Block (merged (true ∷ stays) true all)) none none (block_goes stays b all (merged (true ∷ stays) true all) (merged_ends (true ∷ stays) b all)) (none_goes stays b)
    last_alone stays b (Do a) = more_goes stays b (Do a) (Do (redirected stays a)) none none (act_carries stays b a) (none_goes stays b)
    last_alone stays b (Loop l all) = more_goes stays b (Loop l all) (Loop l (merged stays false all)) none none (loop_goes stays b l all (merged stays false all) (λ c. merged_goes stays c all)) (none_goes stays b)

    merged_goes : (stays : List Bool) (b : Bool) (xs : Nodes) → Goes stays b xs (merged stays false xs)
    merged_goes stays b none = none_goes stays b
    merged_goes stays b (more x rest) =
        last_goes stays b x rest (at_end stays false x) (more (single stays x) (merged stays false rest)) (last_alone stays b x)
        (more_goes stays b x (single stays x) rest (merged stays false rest) (single_goes stays b x) (merged_goes stays b rest))

abbrev finish : Way → Run (Unit {0})
finish w = stop

pub runs_law : RunsAlike
runs_law c limit tests s =
    let e = (merged_goes (record { limit = limit; tests = tests; types = types_of c }) [] true c.body no_temps).at s in
    ap (λ x. on_go x finish) e ∙ go (nodes (record { limit = limit; tests = tests; types = types_of c }) true c.body no_temps s)
  where
    go : (x : Result Way) → on_go (carried (way []) x) finish ≡ on_go x finish
    go (Go w s) = refl
    go (Halt e s) = refl
