use Rattle.std.proofs.Common.{◌≡◌, sym, ap, ◌∙◌, refl, List}
use Rattle.l2_cnf.specs.Lit.{code_of}
use Rattle.l2_watch.specs.declared.entry.Entry.{Entry}
use Rattle.l2_watch.specs.Visit.{entries_of, entered}
use Rattle.l2_watch.proofs.Entries.{both_found, both_entered, back_from_both}
use Rattle.l2_watch.proofs.attach.attach.Goals as goal
use Rattle.l2_watch.proofs.attach.attach.Goals.{After-take_back-in-Err}

pub returns-in_err-enter-clause-more : goal.returns-in_err-enter-clause-more
returns-in_err-enter-clause-more c = (back_from_both c.args.clauses.now c.args.clauses.now c.args.lists.now.items c.enter.new.lists.items refl c.in_err-enter.ensures.err c.requires.entered).0

pub returns-in_err-enter-clause-entered : goal.returns-in_err-enter-clause-entered
returns-in_err-enter-clause-entered c = (back_from_both c.args.clauses.now c.args.clauses.now c.args.lists.now.items c.enter.new.lists.items refl c.in_err-enter.ensures.err c.requires.entered).1

back : (c : After-take_back-in-Err) → entries_of c.take_back-in-Err.new.lists.items ≡ entries_of c.args.lists.now.items
back c =
    let old : List (List Entry) = entries_of c.args.lists.now.items in
    let one : Entry = record { blocker = c.args.b; clause = c.len-count.result } in
    let two : Entry = record { blocker = c.args.a; clause = c.len-count.result } in
    let first : entries_of c.take_back.new.lists.items ≡ entered old (code_of c.args.a) one =
    c.take_back.ensures.back (entered old (code_of c.args.a) one) two (c.in_ok-enter.ensures.ok ∙ ap (λ k. entered (entered old (code_of c.args.a) one) k two) (sym c.code.ensures.code)) in
    c.take_back-in-Err.ensures.back old one (first ∙ ap (λ k. entered old k one) (sym c.code-in-Err.ensures.code))

pub returns-in-Err-clause-more : goal.returns-in-Err-clause-more
returns-in-Err-clause-more c =
    (back_from_both c.args.clauses.now c.store.new.clauses c.args.lists.now.items c.take_back-in-Err.new.lists.items c.in-Err.ensures.same.0 (back (goal.at.returns-in-Err-clause-more c).After-take_back-in-Err) c.requires.entered).0

pub returns-in-Err-clause-entered : goal.returns-in-Err-clause-entered
returns-in-Err-clause-entered c =
    (back_from_both c.args.clauses.now c.store.new.clauses c.args.lists.now.items c.take_back-in-Err.new.lists.items c.in-Err.ensures.same.0 (back (goal.at.returns-in-Err-clause-entered c).After-take_back-in-Err) c.requires.entered).1

pub returns-clause-more : goal.returns-clause-more
returns-clause-more c = (both_found c.args.lists.now.items c.enter.new.lists.items c.args.a c.args.b c.len-count.result c.requires.first c.requires.second c.in_ok-enter.ensures.ok).0

pub returns-clause-found : goal.returns-clause-found
returns-clause-found c =
    let both = both_found c.args.lists.now.items c.enter.new.lists.items c.args.a c.args.b c.len-count.result c.requires.first c.requires.second c.in_ok-enter.ensures.ok in
    rw (sym c.len-count.ensures.len) (both.1, both.2)

pub returns-clause-entered : goal.returns-clause-entered
returns-clause-entered c =
    rw (c.in_default.ensures.clauses, c.in_ok-enter.ensures.ok) (both_entered c.args.clauses.now c.args.clause.now (entries_of c.args.lists.now.items) c.args.a c.args.b c.len-count.result c.requires.entered c.len-count.ensures.len c.requires.stands)
