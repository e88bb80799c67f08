use Rattle.std.proofs.Common.{◌≡◌, ◌≤◌, ◌∙◌, ◌++◌, ◌∷◌, false, take, length, ap, sym, arith, append-nil, append_assoc}
use Rattle.std.specs.List.{list_any}
use Rattle.std.proofs.lemmas.List.{take-append-le}
use Rattle.l2_templates.specs.Domains.{pairs, with_later}
use Rattle.l2_templates.proofs.RowLists.{first_alike, none_modified}
use Rattle.l2_templates.proofs.families.add_pairs.Goals as goal
use Rattle.l2_templates.proofs.families.add_pairs.Goals.{then-len-ge-MOST_ROWS-via-then-len-ge-MOST_ROWS, then-len-ge-MOST_ROWS-via-else-len-ge-MOST_ROWS+then-not-any_modified}

pub returns-then-len-ge-MOST_ROWS : goal.returns-then-len-ge-MOST_ROWS
returns-then-len-ge-MOST_ROWS c =
    let rest = c.loop-v.rest.now in
    let forms = c.loop-v.forms.items in
    let family = c.args.family in
    elim c.then-len-ge-MOST_ROWS.branch [
      | then-len-ge-MOST_ROWS-via-then-len-ge-MOST_ROWS w ↦
          (let full : 1024 ≤ length forms = omega arith in
          sym (take-append-le 1024 forms (pairs family rest) full) ∙ sym c.loop-v.invariant)
      | then-len-ge-MOST_ROWS-via-else-len-ge-MOST_ROWS+then-not-any_modified w ↦
          (let none : list_any (λ v. v.modified) rest ≡ false = cc in
          ap (take 1024) (sym (ap (λ more. forms ++ more) (none_modified family rest none) ∙ append-nil forms)) ∙ sym c.loop-v.invariant)
    ]

pub loop-v-preserved : goal.loop-v-preserved
loop-v-preserved c =
    let family = c.args.family in
    let forms = c.loop-v.forms.items in
    let v = c.in-Some.v.now in
    let later = c.in-Some.later.now in
    let next : c.loop-v.rest.now ≡ v ∷ later = c.in-Some.ensures.cases.0 in
    c.loop-v.invariant
    ∙ ap (λ rest. take 1024 (forms ++ pairs family rest)) next
    ∙ ap (take 1024) (sym (append_assoc forms (with_later family v later) (pairs family later)))
    ∙ first_alike 1024 (forms ++ with_later family v later) c.add_with_later.new.forms.items (pairs family later) (sym c.in_ok-add_with_later.ensures)
