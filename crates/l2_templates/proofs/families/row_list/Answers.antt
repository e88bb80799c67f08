use Rattle.std.proofs.Common.{◌≡◌, ◌∙◌, ◌++◌, take, ap, sym, append-nil}
use Rattle.l2_templates.specs.Domains.{marked, pairs, singles}
use Rattle.l2_templates.proofs.RowLists.{first_alike, no_pairs}
use Rattle.l2_templates.proofs.families.row_list.Goals as goal
use Rattle.l2_templates.proofs.families.row_list.Goals.{then-takes_two+in_ok-add_pairs, else-takes_two}

pub returns : goal.returns
returns c =
    let family = c.args.family in
    let vars = marked c.args.vars.now c.args.mods.now in
    let first = c.add_singles.new.forms.items in
    let marks : c.deref.result.now ≡ vars = c.deref.ensures.value ∙ c.in_ok-vars.ensures in
    let ones : take 1024 first ≡ take 1024 (singles family vars) =
    c.in_ok-add_singles.ensures ∙ (λ i. take 1024 (c.new-forms.ensures.items i ++ singles family (marks i))) in
    let all : take 1024 c.if-takes_two.forms.items ≡ take 1024 (singles family vars ++ pairs family vars) = elim c.if-takes_two.branch [
      | then-takes_two+in_ok-add_pairs w ↦
          ap (λ v. take 1024 v.items) w.forms-is
          ∙ w.in_ok-add_pairs.ensures
          ∙ ap (λ vs. take 1024 (first ++ pairs family vs)) (w.deref-then-takes_two.ensures.value ∙ c.in_ok-vars.ensures)
          ∙ first_alike 1024 first (singles family vars) (pairs family vars) ones
      | else-takes_two w ↦
          ap (λ v. take 1024 v.items) w.forms-is
          ∙ ones
          ∙ ap (take 1024) (sym (ap (λ more. singles family vars ++ more) (no_pairs family vars (c.takes_two.ensures w.if-takes_two.false)) ∙ append-nil (singles family vars)))
    ] in
    c.truncate.ensures.items ∙ all
