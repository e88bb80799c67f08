use Rattle.std.proofs.Common.{◌≡◌, ◌++◌, ◌∷◌, ◌<◌, [], sym, ap, ◌∙◌, set, get_or, length, arith, subst}
use Rattle.std.specs.Prelude.{Contains}
use Rattle.std.proofs.lemmas.List.{map-set, get_or-map, set-get_or}
use Rattle.l2_watch.specs.Visit.{items_of, entries_of, entered, list_of}
use Rattle.l2_watch.proofs.Moves.{lists_more, lists_there}
use Rattle.l2_watch.proofs.Entries.{items_entered, items_same, items_length}
use Rattle.l2_watch.proofs.looks.add_to.Goals as goal
use Rattle.l2_watch.proofs.looks.add_to.Goals.{In-Ok, In-Err}

new_is : (c : In-Ok) → entries_of (set c.args.lists.now.items c.args.at c.push.new.self) ≡ entered (entries_of c.args.lists.now.items) c.args.at c.args.entry
new_is c =
    let old = c.args.lists.now.items in
    let at : get_or (entries_of old) c.args.at [] ≡ c.index_mut-list.result.now.items = get_or-map (λ v. v.items) old c.args.at c.index_mut-list.result.now [] c.requires ∙ ap (λ v. v.items) (sym c.index_mut-list.ensures.value) in
    map-set (λ v. v.items) old c.args.at c.push.new.self ∙ ap (λ x. set (entries_of old) c.args.at x) (c.in-Ok.ensures.items ∙ ap (λ x. x ++ c.args.entry ∷ []) (sym at))

same_is : (c : In-Err) → entries_of (set c.args.lists.now.items c.args.at c.push.new.self) ≡ entries_of c.args.lists.now.items
same_is c =
    let old = c.args.lists.now.items in
    let at : get_or (entries_of old) c.args.at [] ≡ c.index_mut-list.result.now.items = get_or-map (λ v. v.items) old c.args.at c.index_mut-list.result.now [] c.requires ∙ ap (λ v. v.items) (sym c.index_mut-list.ensures.value) in
    map-set (λ v. v.items) old c.args.at c.push.new.self ∙ ap (λ x. set (entries_of old) c.args.at x) (c.in-Err.ensures.items ∙ sym at) ∙ set-get_or (entries_of old) c.args.at []

items_new : (c : In-Ok) → items_of (set c.args.lists.now.items c.args.at c.push.new.self) ≡ set (items_of c.args.lists.now.items) c.args.at (get_or (items_of c.args.lists.now.items) c.args.at [] ++ c.args.entry.clause ∷ [])
items_new c = items_entered c.args.lists.now.items (set c.args.lists.now.items c.args.at c.push.new.self) c.args.at c.args.entry c.requires (new_is c)

within : (c : In-Ok) → c.args.at < length (items_of c.args.lists.now.items)
within c = omega (arith, c.requires, items_length c.args.lists.now.items)

pub returns-in-Ok-clause-ok : goal.returns-in-Ok-clause-ok
returns-in-Ok-clause-ok c = new_is (goal.at.returns-in-Ok-clause-ok c).In-Ok

pub returns-in-Ok-clause-more : goal.returns-in-Ok-clause-more
returns-in-Ok-clause-more c =
    let d = (goal.at.returns-in-Ok-clause-more c).In-Ok in
    lists_more (items_of c.args.lists.now.items) _ c.args.at c.args.entry.clause (within d) (items_new d)

pub returns-in-Ok-clause-there : goal.returns-in-Ok-clause-there
returns-in-Ok-clause-there c =
    let d = (goal.at.returns-in-Ok-clause-there c).In-Ok in
    lists_there (items_of c.args.lists.now.items) _ c.args.at c.args.entry.clause (within d) (items_new d)

pub returns-in-Err-clause-err : goal.returns-in-Err-clause-err
returns-in-Err-clause-err c = same_is (goal.at.returns-in-Err-clause-err c).In-Err

pub returns-in-Err-clause-more : goal.returns-in-Err-clause-more
returns-in-Err-clause-more c = λ l r h. subst (λ x. Contains (list_of x l) r) (sym (items_same _ _ (same_is (goal.at.returns-in-Err-clause-more c).In-Err))) h
