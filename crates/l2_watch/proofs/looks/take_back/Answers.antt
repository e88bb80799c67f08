use Rattle.std.proofs.Common.{◌≡◌, ◌-◌, ◌++◌, ◌∷◌, ◌<◌, [], sym, ap, ◌∙◌, set, get_or, length, take, arith, vec_len}
use Rattle.std.proofs.lemmas.List.{map-set, get_or-map, length-set}
use Rattle.l2_watch.specs.Visit.{entries_of}
use Rattle.l2_watch.proofs.Entries.{back_from, entries_length}
use Rattle.l2_watch.proofs.looks.take_back.Goals as goal

pub returns-clause-back : goal.returns-clause-back
returns-clause-back c = λ before entry was.
    let old = c.args.lists.now.items in
    let k = c.args.at in
    let at : get_or (entries_of old) k [] ≡ c.index_mut-list.result.now.items = get_or-map (λ v. v.items) old k c.index_mut-list.result.now [] c.requires ∙ ap (λ v. v.items) (sym c.index_mut-list.ensures.value) in
    let within : k < length before = omega (arith, c.requires, entries_length old, ap length was, length-set before k (get_or before k [] ++ entry ∷ [])) in
    let len : vec_len c.index_mut-list.result.now ≡ length c.index_mut-list.result.now.items = omega arith in
    map-set (λ v. v.items) old k c.pop.new.self ∙ ap (λ x. set x k c.pop.new.self.items) was
    ∙ back_from before k entry c.pop.new.self.items within (c.pop.ensures.rest ∙ ap (λ n. take (n - 1) c.index_mut-list.result.now.items) len ∙ ap (λ x. take (length x - 1) x) (sym at ∙ ap (λ x. get_or x k []) was))
