-- What is handed out are the rows' sets.
use Rattle.std.specs.Prelude.{◌≡◌, ℕ, zero, suc, ◌<◌, ◌≤◌, Bool, true, List, [], ◌∷◌, length, slice_get, refl}
use Rattle.std.specs.List.{All}
use Rattle.std.proofs.Common.{arith, get_or, ap, sym, subst, inl, inr, ◌∙◌}
use Rattle.std.proofs.lemmas.List.{get_or_past}
use Rattle.std.proofs.lemmas.List.Elements.{All-head, All-tail}
use native.Mathlib.Decide.{dec_lt}
use Rattle.l2_runs.specs.declared.member.Member.{Member}
use Rattle.l2_runs.specs.declared.member.Member.TheVariants.{Object}
use Rattle.l2_runs.specs.Numbers.{at_number}
use Rattle.l2_runs.specs.Members.{has}
use Rattle.l2_code.specs.declared.code.CodeObject.{CodeObject}
use Rattle.l2_code.specs.declared.sets.PointsTo.{PointsTo}
use Rattle.l2_code.specs.declared.sets.Sets.{Sets}
use Rattle.l2_code.specs.Trees.{CodeTree}
use Rattle.l2_code.specs.Sets.{Family, IsInside, IsClosed, IsResolved, HasCell, members_of, entry_of, listed, family, AreEntries, AllRise, AreSetsOf}
use Rattle.l2_inclusions.specs.Inclusions as nodes
use Rattle.l2_inclusions.specs.Inclusions.{object_node}
use Rattle.l2_inclusions.specs.Rows.{RowsValue, members_at, number_at, set_at, AreRows}
use Rattle.l2_inclusions.specs.Closing.{AreForced}
use Rattle.l2_inclusions.proofs.Holding.{all_has}
use Rattle.l2_points.specs.Gathering.{temp_node, code_family, node_family, inclusions_of}
use Rattle.l2_points.specs.Entries.{node_at, NoneBeyond, AreThose, IsThere}
use Rattle.l2_points.proofs.Nodes.{at_object, at_temp}
use Rattle.l2_points.proofs.Asked.{closed_code, closed_nodes}

entry_get : (xs : List ℕ) (i : ℕ) → entry_of (slice_get xs i) ≡ get_or xs i 0
entry_get [] i = refl
entry_get (x ∷ xs) zero = refl
entry_get (x ∷ xs) (suc i) = entry_get xs i

-- the entry of a number leads to the set of its node
entry_is : (r : RowsValue) (rest count : ℕ) (entries : List ℕ) → length entries ≡ count → AreThose r rest entries → NoneBeyond r rest count → (n : ℕ) → entry_of (at_number entries n) ≡ number_at r (node_at rest n)
entry_is r rest count entries l those beyond zero = sym (beyond 0 (inl refl))
entry_is r rest count entries l those beyond (suc i) = entry_get entries i ∙ go (dec_lt i (length entries))
  where
    go : Dec (i < length entries) → ◌≡◌ {A = ℕ} (get_or entries i 0) (number_at r (node_at rest (suc i)))
    go (yes k) = those i k
    go (no k) = get_or_past entries i 0 (omega (arith, k)) ∙ sym (beyond (suc i) (inr (omega (arith, k))))

set_is : (r : RowsValue) (s : Sets) (rest count : ℕ) (entries : List ℕ) → s.sets ≡ r.sets → length entries ≡ count → AreThose r rest entries → NoneBeyond r rest count
    → (n : ℕ) → has (listed s entries n) ≡ set_at r (node_at rest n)
set_is r s rest count entries e l those beyond n =
    ap (λ (sets : List PointsTo). has (members_of (at_number sets (entry_of (at_number entries n))))) e
    ∙ ap (λ (k : ℕ). has (members_at r.sets k)) (entry_is r rest count entries l those beyond n)

entries_from : (sets : List PointsTo) (xs : List ℕ) → ((i : ℕ) → get_or xs i 0 ≤ length sets) → AreEntries sets xs
entries_from sets [] h = tt
entries_from sets (x ∷ xs) h = (h 0, entries_from sets xs (λ i. h (suc i)))

-- what points hands out, of a code
pub record Handed (c : CodeTree) (r : RowsValue) (s : Sets) : Type 0 where
  pub rows : AreRows r
  pub closed : nodes.IsClosed (set_at r) (inclusions_of c)
  pub forced : AreForced (inclusions_of c) r
  pub sets : s.sets ≡ r.sets
  pub object_count : length s.objects ≡ length c.objects
  pub temp_count : length s.temps ≡ c.temps
  pub objects : AreThose r 0 s.objects
  pub temps : AreThose r 1 s.temps
  pub no_object : NoneBeyond r 0 (length c.objects)
  pub no_temp : NoneBeyond r 1 c.temps
  pub over : All (λ (p : PointsTo). All (IsThere c.objects) p.members) s.sets

object_set : {c : CodeTree} {r : RowsValue} {s : Sets} → Handed c r s → (n : ℕ) → (family s).object n ≡ set_at r (object_node n)
object_set {c = c} {r = r} {s = s} h n =
    let e : node_at 0 n ≡ object_node n = omega arith in
    set_is r s 0 (length c.objects) s.objects h.sets h.object_count h.objects h.no_object n ∙ ap (λ (k : ℕ). set_at r k) e

temp_set : {c : CodeTree} {r : RowsValue} {s : Sets} → Handed c r s → (n : ℕ) → (family s).temp n ≡ set_at r (temp_node n)
temp_set {c = c} {r = r} {s = s} h n = set_is r s 1 c.temps s.temps h.sets h.temp_count h.temps h.no_temp n

family_is : {c : CodeTree} {r : RowsValue} {s : Sets} → Handed c r s → code_family (set_at r) ≡ family s
family_is h = λ i. record { object = λ n. sym (object_set h n) i; temp = λ n. sym (temp_set h n) i }

entry_low : (r : RowsValue) (rest : ℕ) (entries : List ℕ) → AreRows r → AreThose r rest entries → (i : ℕ) → get_or entries i 0 ≤ length r.sets
entry_low r rest entries rows those i = go (dec_lt i (length entries))
  where
    go : Dec (i < length entries) → get_or entries i 0 ≤ length r.sets
    go (yes k) = omega (arith, those i k, rows.numbers (node_at rest (suc i)))
    go (no k) = omega (arith, get_or_past entries i 0 (omega (arith, k)))

pub handed_sets : {c : CodeTree} {r : RowsValue} {s : Sets} → Handed c r s → AreSetsOf c s
handed_sets {c = c} {r = r} {s = s} h = record {
  objects = h.object_count;
  temps = h.temp_count;
  object_entries = subst (λ (sets : List PointsTo). AreEntries sets s.objects) (sym h.sets) (entries_from r.sets s.objects (entry_low r 0 s.objects h.rows h.objects));
  temp_entries = subst (λ (sets : List PointsTo). AreEntries sets s.temps) (sym h.sets) (entries_from r.sets s.temps (entry_low r 1 s.temps h.rows h.temps));
  rise = subst AllRise (sym h.sets) h.rows.rise;
}

members_there : (objects : List CodeObject) (sets : List PointsTo) (i : ℕ) → All (λ (p : PointsTo). All (IsThere objects) p.members) sets → All (IsThere objects) (members_of (slice_get sets i))
members_there objects [] i all = λ k d l. absurd (omega arith)
members_there objects (x ∷ sets) zero all = All-head (λ (p : PointsTo). All (IsThere objects) p.members) x sets all
members_there objects (x ∷ sets) (suc i) all = members_there objects sets i (All-tail (λ (p : PointsTo). All (IsThere objects) p.members) x sets all)

listed_there : (objects : List CodeObject) (sets : List PointsTo) (k : ℕ) → All (λ (p : PointsTo). All (IsThere objects) p.members) sets → (o : ℕ) → has (members_of (at_number sets k)) (Object o) ≡ true → HasCell (at_number objects o)
listed_there objects sets zero all o e = absurd (cc)
listed_there objects sets (suc i) all o e = all_has (IsThere objects) (members_of (slice_get sets i)) (members_there objects sets i all) (Object o) e

pub handed_resolved : {c : CodeTree} {r : RowsValue} {s : Sets} → Handed c r s → IsResolved c (family s)
handed_resolved {c = c} {r = r} {s = s} h = record {
  closed = subst (λ (f : Family). IsClosed c f) (family_is h) (closed_code (set_at r) c h.closed);
  over = record {
    objects = λ n o e. listed_there c.objects s.sets (entry_of (at_number s.objects n)) h.over o e;
    temps = λ n o e. listed_there c.objects s.sets (entry_of (at_number s.temps n)) h.over o e;
  };
}

pub handed_least : {c : CodeTree} {r : RowsValue} {s : Sets} → Handed c r s → (f : Family) → IsClosed c f → IsInside (family s) f
handed_least {c = c} {r = r} {s = s} h f closed =
    let inside = h.forced.inside (node_family f) (closed_nodes f c closed) in
    record {
      objects = λ n m e.
          let there : set_at r (object_node n) m ≡ true = subst (λ (set : Member → Bool). set m ≡ true) (object_set h n) e in
          subst (λ (set : Member → Bool). set m ≡ true) (at_object f n) (inside (object_node n) m there);
      temps = λ n m e.
          let there : set_at r (temp_node n) m ≡ true = subst (λ (set : Member → Bool). set m ≡ true) (temp_set h n) e in
          subst (λ (set : Member → Bool). set m ≡ true) (at_temp f n) (inside (temp_node n) m there);
    }
