-- The line that is printed for a certificate.
use Rattle.std.specs.Prelude.{ℕ, Bool, true, false, List, [], ◌++◌, codes, decimal, Option, Some, None, option_map}
use Rattle.l2_cert.specs.declared.cert.CertKind.{CertKind}
use Rattle.l2_cert.specs.Certificate.{kind_word}
use Rattle.l2_check.specs.declared.checking.CheckError.{CheckError}
use Rattle.l2_check.specs.declared.checking.CheckError.TheVariants.{BadName, Size, WrongGoals, BadStep, Unclosed, NoMemory}

abbrev pub overflow_text : Bool → List ℕ
overflow_text false = []
overflow_text true = codes " overflow"

-- an accepted certificate, by its kind, its copies and whether overflow is a check
abbrev pub accepted_line : CertKind → ℕ → Bool → List ℕ
accepted_line kind k overflow = codes "ACCEPTED " ++ kind_word kind ++ codes " k=" ++ decimal k ++ overflow_text overflow ++ codes "\n"

abbrev pub certificate_line : List ℕ → List ℕ
certificate_line fault = codes "CERTIFICATE " ++ fault ++ codes "\n"

-- a file that is no certificate, by its first bad line
abbrev pub bad_line : ℕ → List ℕ
bad_line n = certificate_line (codes "BadLine " ++ decimal n)

-- why a certificate isn't accepted; nothing is said where memory is wanting
abbrev pub fault_text : CheckError → Option (List ℕ)
fault_text (BadName line) = Some (codes "BadName " ++ decimal line)
fault_text Size = Some (codes "Size")
fault_text (WrongGoals have want) = Some (codes "WrongGoals " ++ decimal have ++ codes " " ++ decimal want)
fault_text (BadStep goal step) = Some (codes "BadStep " ++ decimal goal ++ codes " " ++ decimal step)
fault_text (Unclosed goal) = Some (codes "Unclosed " ++ decimal goal)
fault_text NoMemory = None

abbrev pub fault_line : CheckError → Option (List ℕ)
fault_line e = option_map certificate_line (fault_text e)
