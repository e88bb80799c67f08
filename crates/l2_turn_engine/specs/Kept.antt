-- Fills as code keeps them.
use Rattle.l2_code.specs.Trees.{code_of}
use Rattle.l2_blast.specs.Words.{Fill}
use Rattle.l2_ssa_points.specs.Places.{vars_of}
use Rattle.l2_turn_engine.specs.declared.fills.MovedFill.{MovedFill}
use Rattle.l2_turn_engine.specs.declared.fills.KeptFill.{KeptFill}
use Rattle.l2_turn_engine.specs.Fills.{moved_fill, kept_fill}

abbrev pub moved_in : MovedFill → Fill
moved_in x = moved_fill x.rises (vars_of (code_of x.code.now)) x.point.now x.longer.now x.shorter.now

abbrev pub kept_in : KeptFill → Fill
kept_in x = kept_fill (vars_of (code_of x.code.now)) x.point.now x.list.now
