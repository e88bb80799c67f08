-- With fewer rows code weighs no more.
use Rattle.std.proofs.Common.{◌≡◌, ℕ, zero, suc, ◌+◌, ◌*◌, ◌≤◌, List, [], ◌∷◌, length, map, refl, sym, ap, ◌∙◌, arith, Bool, true, false, if◌then◌else◌, slice_get}
use Rattle.std.specs.Prelude.{ℤ, is_some}
use Rattle.l2_runs.specs.Numbers.{at_number}
use Rattle.l2_program.specs.declared.program.LoopInfo.{LoopInfo}
use Rattle.l2_templates.specs.declared.families.Family.{Family as Forms}
use Rattle.l2_templates.specs.declared.form.Row.{Row}
use Rattle.l2_templates.specs.declared.point.LoopPoint.{LoopPoint}
use Rattle.l2_templates.specs.declared.point.LoopPoint.TheVariants.{Bottom, Rows}
use Rattle.l2_templates.specs.Domains.{row_list}
use Rattle.l2_templates.specs.Rows.{bounded_rows}
use Rattle.l2_templates.specs.Points.{bounded}
use Rattle.l2_cuts.specs.Strongest.{AreLoopPointsOf}
use Rattle.l2_code.specs.Trees.{Node, Do, Block, Loop, Nodes, none, more, CodeTree}
use Rattle.l2_code.specs.Sets.{Family}
use Rattle.l2_code.specs.Sizes.{node_size, nodes_size, size, end_weight, head_weight, rows_of}
use Rattle.l2_goals.specs.Numbers.{row_counts}
use Rattle.l2_verdicts.specs.Verdicts.{forms_of}

-- each loop has no more rows
abbrev pub AreFewer : List ℕ → List ℕ → Type 0
AreFewer rows more_rows = (l : ℕ) → rows_of (at_number rows l) ≤ rows_of (at_number more_rows l)

copied : (h k a b x y : ℕ) → a ≤ b → x ≤ y → h + k * (a + x) ≤ h + k * (b + y)
copied h zero a b x y i j = omega arith
copied h (suc k) a b x y i j =
    let r = copied h k a b x y i j in
    omega (arith, r)

ends : (rows all : List ℕ) (l : ℕ) → AreFewer rows all → end_weight rows l ≤ end_weight all l
ends rows all l fewer = let h = fewer l in omega (arith, h)

mutual
  lighter_node : (c : CodeTree) (f : Family) (k : ℕ) (rows all : List ℕ) → AreFewer rows all → (x : Node) → node_size c f k rows x ≤ node_size c f k all x
  lighter_node c f k rows all fewer (Do a) = omega arith
  lighter_node c f k rows all fewer (Block body) = lighter_nodes c f k rows all fewer body
  lighter_node c f k rows all fewer (Loop l body) = copied (head_weight c l) k _ _ (end_weight rows l) (end_weight all l) (lighter_nodes c f k rows all fewer body) (ends rows all l fewer)

  lighter_nodes : (c : CodeTree) (f : Family) (k : ℕ) (rows all : List ℕ) → AreFewer rows all → (x : Nodes) → nodes_size c f k rows x ≤ nodes_size c f k all x
  lighter_nodes c f k rows all fewer none = omega arith
  lighter_nodes c f k rows all fewer (more x rest) = omega (arith, lighter_node c f k rows all fewer x, lighter_nodes c f k rows all fewer rest)

few_bounded : (rows : List Row) → length (bounded_rows rows) ≤ length rows
few_bounded [] = omega arith
few_bounded (r ∷ rows) = go (is_some r.bound) (few_bounded rows)
  where
    go : (b : Bool) → length (bounded_rows rows) ≤ length rows → length (if b then r ∷ bounded_rows rows else bounded_rows rows) ≤ suc (length rows)
    go true h = omega (arith, h)
    go false h = omega (arith, h)

same_length : {A B : Type 0} (g : A → B) (xs : List A) → length (map g xs) ≡ length xs
same_length g [] = refl
same_length g (x ∷ xs) = ap suc (same_length g xs)

-- a point of a domain has no more rows with bounds than the domain has forms
fewer_from : (forms : Forms) (bounds : List ℤ) (loops : List LoopInfo) (q : List LoopPoint) → AreLoopPointsOf forms bounds loops q
    → (i : ℕ) → rows_of (slice_get (row_counts (bounded q)) i) ≤ rows_of (slice_get (map length (forms_of forms loops)) i)
fewer_from forms bounds [] [] is i = omega arith
fewer_from forms bounds [] (a ∷ q) is i = absurd is
fewer_from forms bounds (loop ∷ loops) [] is i = absurd is
fewer_from forms bounds (loop ∷ loops) (Bottom ∷ q) is zero = omega arith
fewer_from forms bounds (loop ∷ loops) (Rows rows ∷ q) is zero =
    let h = few_bounded rows in
    let e : length rows ≡ length (row_list forms loop.vars loop.mods) = sym (same_length (λ row. row.form) rows) ∙ ap length is.0.0 in
    omega (arith, h, e)
fewer_from forms bounds (loop ∷ loops) (a ∷ q) is (suc i) = fewer_from forms bounds loops q is.1 i

fewer_at : (forms : Forms) (bounds : List ℤ) (loops : List LoopInfo) (q : List LoopPoint) → AreLoopPointsOf forms bounds loops q → AreFewer (row_counts (bounded q)) (map length (forms_of forms loops))
fewer_at forms bounds loops q is zero = omega arith
fewer_at forms bounds loops q is (suc i) = fewer_from forms bounds loops q is i

pub lighter : (c : CodeTree) (f : Family) (k : ℕ) (forms : Forms) (bounds : List ℤ) (loops : List LoopInfo) (q : List LoopPoint) → AreLoopPointsOf forms bounds loops q
    → size c f k (row_counts (bounded q)) ≤ size c f k (map length (forms_of forms loops))
lighter c f k forms bounds loops q is = lighter_nodes c f k _ _ (fewer_at forms bounds loops q is) c.body
