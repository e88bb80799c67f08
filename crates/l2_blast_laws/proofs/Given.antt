-- The circuits' laws.
use Rattle.l2_operator_laws.proofs.Room.{values_tell, constants_tell}
use Rattle.l2_operator_laws.proofs.Cut.{resized_show}
use Rattle.l2_number_circuits.proofs.Showing.{numbers_show, converted_show}
use Rattle.l2_number_circuits.proofs.Testing.{divisions_are, shifts_are, indexes_are}
use Rattle.l2_number_circuits.proofs.Overflows.{overflows_are}
use Rattle.l2_number_circuits.proofs.Making.{numbers_are_made}
use Rattle.l2_number_circuits.proofs.Lengths.{numbers_have_lengths, converted_have_lengths}
use Rattle.l2_pointer_circuits.proofs.Shown.{halves_show, pointers_show, pointer_choices_show, picks_are}
use Rattle.l2_pointer_circuits.proofs.Moves.{moves_show, moves_law}
use Rattle.l2_pointer_circuits.proofs.Operators.{operators_show}
use Rattle.l2_pointer_circuits.proofs.Testing.{null_law, invalid_law, live_law, cells_law, same_law, among_law}
use Rattle.l2_pointer_circuits.proofs.Making.{pointers_are_made, among_is_made, constants_are_there}
use Rattle.l2_blast_laws.proofs.Circuits.{Circuits}

pub circuits : Circuits
circuits = record {
  values_tell = values_tell;
  constants_tell = constants_tell;
  resized_show = resized_show;
  numbers_show = numbers_show;
  converted_show = converted_show;
  divisions_are = divisions_are;
  shifts_are = shifts_are;
  indexes_are = indexes_are;
  overflows_are = overflows_are;
  numbers_are_made = numbers_are_made;
  numbers_have_lengths = numbers_have_lengths;
  converted_have_lengths = converted_have_lengths;
  halves_show = halves_show;
  pointers_show = pointers_show;
  pointer_choices_show = pointer_choices_show;
  picks_are = picks_are;
  moves_show = moves_show;
  operators_show = operators_show;
  null_is = null_law;
  invalid_is = invalid_law;
  live_is = live_law;
  cells_are = cells_law;
  moves_are = moves_law;
  same_is = same_law;
  among_is = among_law;
  pointers_are_made = pointers_are_made;
  among_is_made = among_is_made;
  constants_are_there = constants_are_there;
}
