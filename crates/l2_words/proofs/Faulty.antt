-- Words in which `clap` finds a fault ask for nothing.
use Rattle.std.proofs.Common.{◌≡◌, ◌≢◌, List, [], ◌∷◌, refl, inl, inr}
use Rattle.std.specs.Prelude.{Option, None}
use Rattle.clap.specs.Words.{Text, Row, Kinds, HasKind, kind_of}
use Rattle.clap.specs.declared.error.Error.{Error}
use Rattle.clap.specs.declared.error.kind.ErrorKind.TheVariants.{OutOfMemory}
use Rattle.l2_words.specs.Requests.{request_where}

pub no_request : (kinds : Kinds) (entered : Option (Text × List Row)) (x : Error) → kind_of x ≢ OutOfMemory → HasKind kinds x → request_where kinds entered ≡ None
no_request [] entered x other (inl memory) = absurd (other memory)
no_request [] entered x other (inr among) = absurd among
no_request (k ∷ ks) entered x other has = refl
