-- What the networks say of a state with parts.
use Rattle.std.proofs.Common.{◌≡◌, ◌≤◌, true, leb, refl}
use Rattle.std.proofs.lemmas.Bool.{leb-true}
use Rattle.l2_grammar.specs.declared.states.Sort.{Sort}
use Rattle.l2_grammar.specs.declared.states.Sort.TheVariants.{Operand as operand}
use Rattle.l2_grammar.specs.declared.states.Right.{Right}
use Rattle.l2_grammar.specs.declared.states.Storage.{Storage}
use Rattle.l2_grammar.specs.declared.states.Named.{Named}
use Rattle.l2_grammar.specs.declared.states.Outcome.{Outcome}
use Rattle.l2_grammar.specs.declared.states.State.TheVariants.{Right as right, Typed as typed, Declared as declared}
use Rattle.l2_grammar.specs.Networks.{wanted_by, level_of}
use Rattle.l2_grammar.specs.Nesting.{opens, stands, value_at, on_child, behind_declarator, naming, defines}
use Rattle.l2_grammar.proofs.Bools.{both}

pub right_wants : (s : Sort) (r : Right) → stands s (right r) ≡ true → wanted_by r ≤ 16
unfolding stands
right_wants s r h = leb-true (wanted_by r) 16 (both (value_at (level_of r) s) (leb (wanted_by r) 16) h).1

pub opens_right : (s : Sort) (r : Right) → operand (wanted_by r) ≡ opens s (right r)
unfolding opens
opens_right s r = refl

pub typed_child : (s : Sort) (w : Storage) (y : Named) (o : Outcome) → behind_declarator (naming s) (λ h. declared w h (defines w h)) o ≡ on_child s (typed w y) o
unfolding on_child
typed_child s w y o = refl
