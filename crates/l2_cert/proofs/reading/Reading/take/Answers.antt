use Rattle.std.proofs.Common.{subst}
use Rattle.l2_cert.specs.Cursor.{left}
use Rattle.l2_cert.specs.Machine.{Takes}
use Rattle.l2_cert.specs.Reading.{cert_of, place_at}
use Rattle.l2_cert.proofs.reading.Reading.take.Goals as goal

pub returns-in-Kind-clause-bad : goal.returns-in-Kind-clause-bad
returns-in-Kind-clause-bad c = λ failed t goes. c.take_kind.ensures.bad failed t (subst (λ stage. Takes (place_at stage c.args.self.now) (cert_of c.args.self.now) (left c.args.words) t) c.in-Kind.is goes)

pub returns-in-Checks-clause-bad : goal.returns-in-Checks-clause-bad
returns-in-Checks-clause-bad c = λ failed t goes. c.take_checks.ensures.bad failed t (subst (λ stage. Takes (place_at stage c.args.self.now) (cert_of c.args.self.now) (left c.args.words) t) c.in-Checks.is goes)

pub returns-in-Copies-clause-bad : goal.returns-in-Copies-clause-bad
returns-in-Copies-clause-bad c = λ failed t goes. c.take_copies.ensures.bad failed t (subst (λ stage. Takes (place_at stage c.args.self.now) (cert_of c.args.self.now) (left c.args.words) t) c.in-Copies.is goes)

pub returns-in-Loops-clause-bad : goal.returns-in-Loops-clause-bad
returns-in-Loops-clause-bad c = λ failed t goes. c.take_loops.ensures.bad failed t (subst (λ stage. Takes (place_at stage c.args.self.now) (cert_of c.args.self.now) (left c.args.words) t) c.in-Loops.is goes)

pub returns-in-Loop-clause-bad : goal.returns-in-Loop-clause-bad
returns-in-Loop-clause-bad c = λ failed t goes. c.take_loop.ensures.bad failed t (subst (λ stage. Takes (place_at stage c.args.self.now) (cert_of c.args.self.now) (left c.args.words) t) c.in-Loop.is goes)

pub returns-in-Row-clause-bad : goal.returns-in-Row-clause-bad
returns-in-Row-clause-bad c = λ failed t goes. c.take_row.ensures.bad failed t (subst (λ stage. Takes (place_at stage c.args.self.now) (cert_of c.args.self.now) (left c.args.words) t) c.in-Row.is goes)

pub returns-in-Ranks-clause-bad : goal.returns-in-Ranks-clause-bad
returns-in-Ranks-clause-bad c = λ failed t goes. c.take_ranks.ensures.bad failed t (subst (λ stage. Takes (place_at stage c.args.self.now) (cert_of c.args.self.now) (left c.args.words) t) c.in-Ranks.is goes)

pub returns-in-Rank-clause-bad : goal.returns-in-Rank-clause-bad
returns-in-Rank-clause-bad c = λ failed t goes. c.take_component.ensures.bad failed t (subst (λ stage. Takes (place_at stage c.args.self.now) (cert_of c.args.self.now) (left c.args.words) t) c.in-Rank.is goes)

pub returns-in-Goals-clause-bad : goal.returns-in-Goals-clause-bad
returns-in-Goals-clause-bad c = λ failed t goes. c.take_goals.ensures.bad failed t (subst (λ stage. Takes (place_at stage c.args.self.now) (cert_of c.args.self.now) (left c.args.words) t) c.in-Goals.is goes)

pub returns-in-Goal-clause-bad : goal.returns-in-Goal-clause-bad
returns-in-Goal-clause-bad c = λ failed t goes. c.take_goal.ensures.bad failed t (subst (λ stage. Takes (place_at stage c.args.self.now) (cert_of c.args.self.now) (left c.args.words) t) c.in-Goal.is goes)

pub returns-in-Step-clause-bad : goal.returns-in-Step-clause-bad
returns-in-Step-clause-bad c = λ failed t goes. c.take_step.ensures.bad failed t (subst (λ stage. Takes (place_at stage c.args.self.now) (cert_of c.args.self.now) (left c.args.words) t) c.in-Step.is goes)
