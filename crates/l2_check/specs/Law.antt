-- Refused certificates aren't accepted, and each has one refusal.
use Rattle.std.specs.Prelude.{◌≡◌, ◌≢◌}
use Rattle.l2_program.specs.Programs.{ProgramTree}
use Rattle.l2_cert.specs.declared.cert.Cert.{Cert}
use Rattle.l2_check.specs.declared.checking.CheckError.{CheckError}
use Rattle.l2_check.specs.declared.checking.CheckError.TheVariants.{NoMemory}
use Rattle.l2_check.specs.Accepting.{Accepts, IsRefusal}

abbrev pub RefusedIsNotAccepted : Type 0
RefusedIsNotAccepted = (p : ProgramTree) (c : Cert) (e : CheckError) → e ≢ NoMemory → IsRefusal p c e → ¬ Accepts p c

-- want of memory aside
abbrev pub OneRefusal : Type 0
OneRefusal = (p : ProgramTree) (c : Cert) (d e : CheckError) → d ≢ NoMemory → e ≢ NoMemory → IsRefusal p c d → IsRefusal p c e → d ≡ e
