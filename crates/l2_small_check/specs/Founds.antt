-- What was found, as the lists of its parts.
use Rattle.l2_small_check.specs.declared.found.Found as rust
use Rattle.l2_small_check.specs.Elaboration.{Found}

abbrev pub found_of : rust.Found → Found
found_of f = record { objects = f.objects; loops = f.loops; checks = f.checks }
