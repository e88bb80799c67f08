-- The files that a map in memory tells: what a look-up and an insertion do to them.
use Rattle.std.proofs.Common.{◌≡◌, ℕ, List, [], ◌∷◌, map, Option, Some, Bool, cond, true, false, string_bytes, Vec, String, refl, sym, ap, ◌∙◌}
use Rattle.std.specs.Prelude.{option_map}
use Rattle.std.specs.declared.alloc.Global.{Global}
use Rattle.std.specs.BTreeMap.{BTreeMap, get_by_text, UpdatesBy, is_at}
use Rattle.std.specs.String.{string_cmp}
use Rattle.std.specs.Str.{bytes_eq}
use Rattle.std.specs.Map.{lookup}
use Rattle.std.specs.Ordering.{nat_cmp, eq_by_cmp}
use Rattle.std.specs.Cmp.{eq_by_cmp_equiv}
use Rattle.std.specs.Cmp.Lexicographic.{slice_cmp, nat_list_cmp_total}
use Rattle.std.specs.FinMap as fin
use Rattle.std.proofs.lemmas.Map.Text.{btree_map_updates_text, is_eq-slice_cmp}
use Rattle.l2_outside.specs.Memory.{told}

find-map : (q : List ℕ) (es : List (String Global × Vec ℕ Global)) → fin.find (slice_cmp nat_cmp) q (map (λ e. (string_bytes e.0, e.1.items)) es) ≡ option_map (λ v. v.items) (lookup (is_at (λ (k : String Global). slice_cmp nat_cmp q (string_bytes k))) es)
find-map q [] = refl
find-map q (e ∷ es) =
    elim (eq_by_cmp (slice_cmp nat_cmp) q (string_bytes e.0)) as (λ b. cond b (Some e.1.items) (fin.find (slice_cmp nat_cmp) q (map (λ e. (string_bytes e.0, e.1.items)) es)) ≡ option_map (λ v. v.items) (cond b (Some e.1) (lookup (is_at (λ (k : String Global). slice_cmp nat_cmp q (string_bytes k))) es))) [
      | true ↦ refl
      | false ↦ find-map q es
    ]

-- what a told file holds
pub get-told : (m : BTreeMap (String Global) (Vec ℕ Global)) (q : List ℕ) → fin.get (told m) q ≡ option_map (λ v. v.items) (get_by_text m q)
get-told m q = fin.get-from_entries nat_list_cmp_total _ q ∙ find-map q m.entries

pick : (b : Bool) (v : Vec ℕ Global) (o : Option (Vec ℕ Global)) → option_map (λ v. v.items) (cond b (Some v) o) ≡ cond b (Some v.items) (option_map (λ v. v.items) o)
pick true v o = refl
pick false v o = refl

-- a map with one key set tells the files with that name set
pub told-insert : (m n : BTreeMap (String Global) (Vec ℕ Global)) (name : List ℕ) (v : Vec ℕ Global) → UpdatesBy string_cmp (λ k. slice_cmp nat_cmp name (string_bytes k)) m n (Some v) → told n ≡ fin.insert (told m) name v.items
told-insert m n name v updates =
    fin.same_map nat_list_cmp_total (fin.slice_cmp-IsAntisymmetric fin.nat_cmp-IsAntisymmetric) (told n) (fin.insert (told m) name v.items)
    (λ q. get-told n q
    ∙ ap (option_map (λ v. v.items)) (btree_map_updates_text name m n (Some v) updates q)
    ∙ pick (bytes_eq name q) v (get_by_text m q)
    ∙ ap (λ o. cond (bytes_eq name q) (Some v.items) o) (sym (get-told m q))
    ∙ ap (λ b. cond b (Some v.items) (fin.get (told m) q)) (sym (is_eq-slice_cmp name q) ∙ (eq_by_cmp_equiv nat_list_cmp_total).symm name q)
    ∙ sym (fin.get-insert nat_list_cmp_total (told m) name v.items q))
