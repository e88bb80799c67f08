use Rattle.l2_cut_laws.proofs.Consequences.{passing_infers, meet_infers, stronger_proves, stronger_passes}
use Rattle.l2_cuts.specs.Points.{lowers}
use Rattle.l2_cut_laws.proofs.laws.meet_law.Goals as goal

pub returns-clause-infers : goal.returns-clause-infers
returns-clause-infers c = passing_infers

pub returns-clause-meet : goal.returns-clause-meet
returns-clause-meet c = meet_infers

pub returns-clause-proves : goal.returns-clause-proves
returns-clause-proves c = stronger_proves

pub returns-clause-passes : goal.returns-clause-passes
returns-clause-passes c = stronger_passes

pub returns-clause-ranks : goal.returns-clause-ranks
returns-clause-ranks c = λ p sets k a b r strong infers h. stronger_passes p sets k a b (lowers r) strong infers h
