-- What an accepted certificate says of its program.
use Rattle.std.specs.Prelude.{List}
use Rattle.l2_program.specs.Programs.{ProgramTree}
use Rattle.l2_templates.specs.declared.form.Form.{Form}
use Rattle.l2_meaning.specs.Execution as execution
use Rattle.l2_meaning.specs.Lawful.{IsLawful}
use Rattle.l2_cuts.specs.Turns as turns
use Rattle.l2_cert.specs.declared.cert.Cert.{Cert}
use Rattle.l2_cert.specs.declared.cert.CertKind.{CertKind}
use Rattle.l2_cert.specs.declared.cert.CertKind.TheVariants.{Safe, Terminating}
use Rattle.l2_cert.specs.Certificate.{InGrammar}
use Rattle.l2_check.specs.Accepting.{Accepts}

-- no execution breaks a check, or every one ends within the turns that these rankings give
abbrev pub Holds : CertKind → ProgramTree → List (List Form) → Type 0
Holds Safe p ranks = execution.Safe p
Holds Terminating p ranks = turns.Terminating p ranks

-- what the certificate says is true of the program
abbrev pub IsTrue : ProgramTree → Cert → Type 0
IsTrue p c = Holds c.kind p c.ranks

abbrev pub AcceptedIsTrue : Type 0
AcceptedIsTrue = (p : ProgramTree) (c : Cert) → IsLawful p → InGrammar c → Accepts p c → IsTrue p c
