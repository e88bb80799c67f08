-- Code gives typed steps.
use Rattle.std.proofs.Common.{◌≡◌, ℕ, suc, ◌≤◌, Bool, List, [], ◌∷◌, length, map, Some, ap, slice_index_or}
use Rattle.l2_runs.specs.declared.cells.CellType.{CellType}
use Rattle.l2_runs.specs.Numbers.{at_number}
use Rattle.l2_code.specs.declared.action.Operand.{Operand}
use Rattle.l2_code.specs.declared.code.CodeLoop.{CodeLoop}
use Rattle.l2_code.specs.Trees as code
use Rattle.l2_code.specs.Trees.{CodeTree}
use Rattle.l2_code.specs.Sets.{Family, AreOver}
use Rattle.l2_code.specs.Modes.{types_of}
use Rattle.l2_code.specs.WellFormed as formed
use Rattle.l2_code.specs.WellFormed.{Known, Scope, names_of, behind_node, results, node_results, count_from, empty_scope, IsLoop, IsWellFormed}
use Rattle.l2_ssa.specs.Steps.{Step}
use Rattle.l2_ssa.specs.Walks as walks
use Rattle.l2_ssa.specs.Walks.{Setting, Walk, Frame, Block, Kind, past}
use Rattle.l2_ssa.specs.Law.{setting_of, first_walk, ssa}
use Rattle.l2_blast.specs.Sorts.{Truth, Sorts, sort_of, sorts_of, IsTruth}
use Rattle.l2_typed_steps.specs.Direct.{IsDirectNode, AreDirect}
use Rattle.l2_typed_steps.specs.Law as law
use Rattle.l2_typed_steps.proofs.Places.{plus, plus_zero, first_ok, object_small}
use Rattle.l2_typed_steps.proofs.Scopes.{Below, parts, node_below, node_extends, fewer_known}
use Rattle.l2_typed_steps.proofs.Steps.{Named, named_app, WalkOk, FramesOk, OutOk, joined_ok, act_ok}
use Rattle.l2_typed_steps.proofs.Labels.{label_ok}
use Rattle.l2_typed_steps.proofs.Loops.{loop_ok}

module _ (c : CodeTree) (f : Family) (over : AreOver c f) (small : (o : ℕ) → length ((types_of c).objects o) ≤ 65536) (loops : (n : ℕ) (l : CodeLoop) → at_number c.loops n ≡ Some l → IsLoop (types_of c).objects l) (sorts : Sorts)
    (k : ℕ) (kind : ℕ → Kind) (ranks : Bool) where
  abbrev cells : ℕ → List CellType
  cells = (types_of c).objects

  abbrev g : Setting
  g = setting_of c f k kind ranks

  abbrev Frames : List Frame → Type 0
  Frames fs = FramesOk c f over small sorts fs

  abbrev Fine : Scope → Walk → Type 0
  Fine scope w = WalkOk c f over small sorts scope w

  abbrev FineOut : Scope → walks.Out → Type 0
  FineOut scope o = OutOk c f over small sorts scope o

  abbrev Counted : List ℕ → ℕ → Type 0
  Counted xs lo = (len : ℕ) × (xs ≡ count_from lo len)

  mutual
    node_ok : (x : code.Node) (fs : List Frame) (d : Operand) (n : ℕ) (w : Walk) (scope : Scope) (lo len : ℕ) → formed.IsTypedNode (names_of c) scope x → IsDirectNode cells x → node_results x ≡ count_from lo len → Below scope lo
        → Frames fs → IsTruth sorts d → Fine scope w → Named sorts n (walks.walk_node g x fs d n w).steps → FineOut (behind_node scope x) (walks.walk_node g x fs d n w)
    node_ok (code.Do a) fs d n w scope lo len t di e b hf hd h named = act_ok c f over small sorts k kind ranks fs d n scope w a t di h hf hd named
    node_ok (code.Block all) fs d n w scope lo len t di e b hf hd h named =
        label_ok c f over small sorts k kind ranks scope w.temps n (walks.walk g all (Block ∷ fs) d n w) h.temps named (λ nm. nodes_ok all (Block ∷ fs) d n w scope lo len t di e b hf hd h nm)
    node_ok (code.Loop l all) fs d n w scope lo len t di e b hf hd h named =
        loop_ok c f over small loops sorts k kind ranks scope (λ x q m v. walks.walk g all (x ∷ fs) q m v) fs hf (λ x q m v hx hq hv nm. nodes_ok all (x ∷ fs) q m v scope lo len t.1 di e b hx hq hv nm) l (kind l) d n w hd h named

    nodes_ok : (xs : code.Nodes) (fs : List Frame) (d : Operand) (n : ℕ) (w : Walk) (scope : Scope) (lo len : ℕ) → formed.AreTyped (names_of c) scope xs → AreDirect cells xs → results xs ≡ count_from lo len → Below scope lo
        → Frames fs → IsTruth sorts d → Fine scope w → Named sorts n (walks.walk g xs fs d n w).steps → FineOut scope (walks.walk g xs fs d n w)
    nodes_ok code.none fs d n w scope lo len t di e b hf hd h named = record { steps = tt; after = h; entries = tt; events = tt }
    nodes_ok (code.more x rest) fs d n w scope lo len t di e b hf hd h named =
        let o = walks.walk_node g x fs d n w in
        let p = walks.walk g rest fs d (past n o.steps) o.after in
        let nm = named_app sorts n o.steps p.steps named in
        let cut = parts (node_results x) (results rest) lo len e in
        let ho = node_ok x fs d n w scope lo cut.front t.0 di.0 cut.first b hf hd h nm.0 in
        let hp = nodes_ok rest fs d (past n o.steps) o.after (behind_node scope x) (plus lo cut.front) cut.back t.1 di.1 cut.second (node_below scope x lo cut.front cut.first b) hf hd ho.after nm.1 in
        let r = joined_ok c f over small sorts (walks.pair o.given p.given) (behind_node scope x) (behind_node scope x) o p ho hp in
        record {
          steps = r.steps;
          after = record { path = r.after.path; temps = fewer_known cells sorts scope (behind_node scope x) p.after.temps (node_extends scope x lo cut.front cut.first b) r.after.temps; slots = r.after.slots };
          entries = r.entries;
          events = r.events;
        }

-- the names of all steps have their sorts
all_named : (sorts : Sorts) (xs : List Step) (n : ℕ) → ((i : ℕ) → sorts (plus n i) ≡ slice_index_or (map sort_of xs) i (Truth 1)) → Named sorts n xs
all_named sorts [] n h = tt
all_named sorts (x ∷ xs) n h = (h 0, all_named sorts xs (suc n) (λ i. h (suc i)))

pub steps_are_typed : law.StepsAreTyped
steps_are_typed c f formed resolved direct k kind ranks =
    let o = ssa c f k kind ranks in
    let sorts = sorts_of o.steps in
    let small = object_small c sorts formed.objects in
    let r = nodes_ok c f resolved.over small formed.loops sorts k kind ranks c.body [] walks.T 0 (first_walk c) empty_scope 1 c.temps formed.typed direct formed.temps (λ t j e. absurd (cc e)) tt tt
    (record { path = tt; temps = λ t j e. absurd (cc e); slots = first_ok c sorts small formed.objects })
    (all_named sorts o.steps 0 (λ i. ap sorts (plus_zero i))) in
    (r.steps, r.events)
