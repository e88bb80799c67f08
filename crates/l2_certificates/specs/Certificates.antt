-- Certificate files of points that prove.
use Rattle.std.specs.Prelude.{◌≡◌, ℕ, List}
use Rattle.l2_program.specs.Programs.{ProgramTree}
use Rattle.l2_templates.specs.declared.form.Form.{Form}
use Rattle.l2_templates.specs.declared.point.LoopPoint.{LoopPoint}
use Rattle.l2_templates.specs.Points.{bounded}
use Rattle.l2_cert.specs.declared.cert.Cert.{Cert}
use Rattle.l2_cert.specs.declared.cert.CertKind.{CertKind}
use Rattle.l2_cert.specs.Certificate.{InGrammar, spelling}
use Rattle.l2_check.specs.Accepting.{Accepts}

-- the file spells a certificate of this kind that is accepted, of so many copies, of the point without the rows that have no bound,
-- and of these rankings
pub record IsFileOf (kind : CertKind) (p : ProgramTree) (k : ℕ) (q : List LoopPoint) (ranks : List (List Form)) (file : List ℕ) : Type 0 where
  pub certificate : Cert
  pub in_grammar : InGrammar certificate
  pub spelt : file ≡ spelling certificate
  pub kind_is : certificate.kind ≡ kind
  pub k_is : certificate.k ≡ k
  pub point_is : certificate.point ≡ bounded q
  pub ranks_are : certificate.ranks ≡ ranks
  pub accepted : Accepts p certificate
