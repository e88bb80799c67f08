use Rattle.std.proofs.Common.{◌≡◌, ◌-◌, arith, sym, ap, ◌∙◌}
use Rattle.l2_small_check.specs.Tables.{place_of, entry_at}
use Rattle.l2_small_check.proofs.Lookups.{lookup_none, lookup_some}
use Rattle.l2_small_check.proofs.table.entry_of.Goals as goal

pub returns-then-place-eq0 : goal.returns-then-place-eq0
returns-then-place-eq0 c = lookup_none _ _ (λ i l q.
    let p = c.requires i l in
    let e : place_of c.args.places.now (entry_at c.args.entries.now i).name ≡ c.place_of-place.result = ap (place_of c.args.places.now) q ∙ sym c.place_of-place.ensures in
    grind (arith, c.then-place-eq0.either))

pub returns-then-entry-name : goal.returns-then-entry-name
returns-then-entry-name c = lookup_some _ _ _ (omega arith) c.if-entry-name.true (λ i l q.
    let p = c.requires i l in
    let e : place_of c.args.places.now (entry_at c.args.entries.now i).name ≡ c.place_of-place.result = ap (place_of c.args.places.now) q ∙ sym c.place_of-place.ensures in
    omega arith)

pub returns-else-entry-name : goal.returns-else-entry-name
returns-else-entry-name c = lookup_none _ _ (λ i l q.
    let p = c.requires i l in
    let e : place_of c.args.places.now (entry_at c.args.entries.now i).name ≡ c.place_of-place.result = ap (place_of c.args.places.now) q ∙ sym c.place_of-place.ensures in
    let k : i ≡ c.place_of-place.result - 1 = omega arith in
    c.if-entry-name.false (ap (λ j. (entry_at c.args.entries.now j).name) (sym k) ∙ q))
