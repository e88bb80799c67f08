use Rattle.std.proofs.Common.{subst}
use Rattle.std.proofs.lemmas.Result.{on_ok_weaker}
use Rattle.l2_dimacs.specs.Tokens.{token}
use Rattle.l2_dimacs.specs.Reading.{IsItem}
use Rattle.l2_dimacs.proofs.Spelling.{spells_negative, spells_positive}
use Rattle.l2_dimacs.proofs.Whole.{ended_goes, item_stops_at, pushed_goes}
use Rattle.l2_dimacs.proofs.reading.Reading.take_item.Goals as goal

pub returns-in-Some-End-clause-ok : goal.returns-in-Some-End-clause-ok
returns-in-Some-End-clause-ok c =
    let r = c.args.self.now in
    let word = subst (IsItem r.variables c.args.word.now) c.in-Some-End.field-0-is c.in-Some-End.ensures in
    on_ok_weaker c.end_clause.result
    (λ ends. ended_goes r c.end_clause.new.self (token c.args.line c.args.word.now) c.requires.stage c.end_clause.ensures.stage c.end_clause.ensures.variables c.requires.some word ends)
    c.end_clause.ensures.ended

pub returns-in-Some-Positive-clause-ok : goal.returns-in-Some-Positive-clause-ok
returns-in-Some-Positive-clause-ok c =
    let r = c.args.self.now in
    let says = subst (IsItem r.variables c.args.word.now) c.in-Some-Positive.field-0-is c.in-Some-Positive.ensures in
    let told = c.push_literal.ensures in
    on_ok_weaker c.push_literal.result
    (λ (l, is, sign, part). pushed_goes r c.push_literal.new.self (token c.args.line c.args.word.now) l c.requires.stage told.stage told.variables told.clauses told.to_come
    (spells_positive r.variables c.in-Some-Positive.var l c.args.word.now is sign says.0 says.1 says.3) part)
    told.part

pub returns-in-Some-Negative-clause-ok : goal.returns-in-Some-Negative-clause-ok
returns-in-Some-Negative-clause-ok c =
    let r = c.args.self.now in
    let says = subst (IsItem r.variables c.args.word.now) c.in-Some-Negative.field-0-is c.in-Some-Negative.ensures in
    let told = c.push_literal-in-Some-Negative.ensures in
    let spelt = says.3 in
    on_ok_weaker c.push_literal-in-Some-Negative.result
    (λ (l, is, sign, part). pushed_goes r c.push_literal-in-Some-Negative.new.self (token c.args.line c.args.word.now) l c.requires.stage told.stage told.variables told.clauses told.to_come
    (spells_negative r.variables c.in-Some-Negative.var l c.args.word.now spelt.0 is sign says.1 spelt.1 spelt.2) part)
    told.part

pub returns-in-None-clause-bad : goal.returns-in-None-clause-bad
returns-in-None-clause-bad c = λ failed. item_stops_at c.args.self.now (token c.args.line c.args.word.now) c.requires.stage c.requires.kept c.requires.some c.in-None.ensures
