-- Which lines of a certificate fit a program: they name its loops, the variables of these and its constants.
use Rattle.std.specs.Prelude.{◌≡◌, ℕ, suc, ◌==◌, ◌&&◌, Bool, true, false, if◌then◌else◌, ℤ, List, [], ◌∷◌, ◌++◌, length, Option, Some, None}
use Rattle.std.specs.Ordering.{int_eq}
use Rattle.std.specs.List.{All, list_all, list_any}
use Rattle.l2_runs.specs.Numbers.{at_number}
use Rattle.l2_program.specs.declared.program.LoopInfo.{LoopInfo}
use Rattle.l2_program.specs.Programs.{ProgramTree}
use Rattle.l2_templates.specs.declared.form.Form.{Form}
use Rattle.l2_templates.specs.declared.form.Row as rust
use Rattle.l2_templates.specs.Forms.{stands_before}
use Rattle.l2_templates.specs.Domains.{is_in}
use Rattle.l2_cert.specs.declared.cert.Cert.{Cert}
use Rattle.l2_fitting.specs.Said.{Said, Plain, Loops, Row, Component, said}

-- the variables of a form
abbrev pub variables : Form → List ℕ
variables f = if f.second == 0 then f.first ∷ [] else f.first ∷ f.second ∷ []

-- a form over the variables of a loop, one of which the loop may change
abbrev pub is_form_of : Option LoopInfo → Form → Bool
is_form_of None f = false
is_form_of (Some loop) f = list_all (is_in loop.vars) (variables f) && list_any (is_in loop.mods) (variables f)

-- the form stands behind one before it
abbrev pub stands_behind : Option Form → Form → Bool
stands_behind None f = true
stands_behind (Some g) f = stands_before g f

abbrev pub is_among : List ℤ → Option ℤ → Bool
is_among bounds None = false
is_among bounds (Some bound) = list_any (int_eq bound) bounds

abbrev pub row_fits : Option LoopInfo → List ℤ → Option Form → rust.Row → Bool
row_fits loop thresholds before row = is_form_of loop row.form && stands_behind before row.form && is_among thresholds row.bound

-- what a line says is so of the program
abbrev pub fits : ProgramTree → Said → Bool
fits p (Plain words) = true
fits p (Loops n) = n == length p.loops
fits p (Row l before row) = row_fits (at_number p.loops l) p.thresholds before row
fits p (Component l form) = is_form_of (at_number p.loops l) form

-- all lines before the goals fit
abbrev pub NamesFit : ProgramTree → Cert → Type 0
NamesFit p c = All (λ s. fits p s ≡ true) (said c)

-- line n, counted from 1, is the first that doesn't
pub record IsBadName (p : ProgramTree) (c : Cert) (n : ℕ) : Type 0 where
  pub front : List Said
  pub bad : Said
  pub rest : List Said
  pub lines : said c ≡ front ++ bad ∷ rest
  pub number : n ≡ suc (length front)
  pub good : All (λ s. fits p s ≡ true) front
  pub unfit : fits p bad ≡ false
