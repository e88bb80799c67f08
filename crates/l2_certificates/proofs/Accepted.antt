-- The certificate of a point that proves is accepted.
use Rattle.std.proofs.Common.{◌≡◌, ℕ, ◌≤◌, List, [], ◌∷◌, length, sym, ap, ◌∙◌, subst, Bool, true, false, if◌then◌else◌}
use Rattle.std.specs.Prelude.{Option, is_some}
use Rattle.std.specs.List.{All}
use Rattle.std.proofs.lemmas.List.{length-map}
use Rattle.std.proofs.lemmas.List.Elements.{All-nil, All-cons, All-head, All-tail}
use Rattle.l2_program.specs.Programs.{ProgramTree}
use Rattle.l2_templates.specs.declared.form.Form.{Form}
use Rattle.l2_templates.specs.declared.form.Row.{Row}
use Rattle.l2_templates.specs.declared.point.LoopPoint.{LoopPoint}
use Rattle.l2_templates.specs.declared.point.LoopPoint.TheVariants.{Bottom, Rows}
use Rattle.l2_templates.specs.Rows.{bounded_rows}
use Rattle.l2_templates.specs.Points.{bounded, bounded_loop}
use Rattle.l2_cuts.specs.Points.{point_at}
use Rattle.l2_code.specs.Trees.{CodeTree}
use Rattle.l2_code.specs.declared.sets.Sets.{Sets}
use Rattle.l2_code.specs.Sets.{Family, family}
use Rattle.l2_code.specs.Sizes.{size, instructions}
use Rattle.l2_lower.specs.Output.{most_instructions}
use Rattle.l2_unwind.specs.Refused.{most_weight}
use Rattle.l2_front.specs.Codes.{IsCodeOf}
use Rattle.l2_front_laws.proofs.Bounding.{point_bounded}
use Rattle.l2_goal_laws.specs.Fits.{IsRowOf, IsLoopOf, AreOf}
use Rattle.l2_ssa_points.specs.Places.{vars_of}
use Rattle.l2_goals.specs.Formulas.{formulas}
use Rattle.l2_goals.specs.Numbers.{row_counts}
use Rattle.l2_cert.specs.declared.cert.Cert.{Cert}
use Rattle.l2_cert.specs.declared.cert.CertKind.{CertKind}
use Rattle.l2_cert.specs.Certificate.{spelling}
use Rattle.l2_fitting.specs.Fitting.{NamesFit}
use Rattle.l2_derivations.specs.Goals.{AllHold}
use Rattle.l2_certify.specs.Certifying.{Certifies}
use Rattle.l2_check.specs.Accepting.{Basis, IsPassed, ranks_of_kind, formulas_at, weight_at, problem_of}
use Rattle.l2_certificates.specs.Certificates.{IsFileOf}

-- ---- without the rows that have no bound

rows_of_bounded : (vars : List ℕ) (rows : List Row) → All (IsRowOf vars) rows → All (IsRowOf vars) (bounded_rows rows)
rows_of_bounded vars [] a = All-nil (IsRowOf vars)
rows_of_bounded vars (r ∷ rows) a = go (is_some r.bound) (rows_of_bounded vars rows (All-tail (IsRowOf vars) r rows a))
  where
    go : (b : Bool) → All (IsRowOf vars) (bounded_rows rows) → All (IsRowOf vars) (if b then r ∷ bounded_rows rows else bounded_rows rows)
    go true h = All-cons (IsRowOf vars) r (bounded_rows rows) (All-head (IsRowOf vars) r rows a) h
    go false h = h

loop_of_bounded : (vars : List ℕ) (x : LoopPoint) → IsLoopOf vars x → IsLoopOf vars (bounded_loop x)
loop_of_bounded vars Bottom a = tt
loop_of_bounded vars (Rows rows) a = rows_of_bounded vars rows a

pub of_bounded : (c : CodeTree) (q : List LoopPoint) (ranks : Option (List (List Form))) → AreOf c q ranks → AreOf c (bounded q) ranks
of_bounded c q ranks a = record {
  loops = length-map q bounded_loop ∙ a.loops;
  rows = λ l. subst (IsLoopOf (vars_of c l)) (sym (point_bounded q l)) (loop_of_bounded (vars_of c l) (point_at q l) (a.rows l));
  rankings = a.rankings;
}

-- ---- acceptance

basis_of : (p : ProgramTree) (c : CodeTree) (s : Sets) → IsCodeOf p c s → Basis p
basis_of p c s is = record { tree = c; is_code = is.is_code; few = subst (λ t. instructions t.body ≤ most_instructions) (sym is.is_code) is.few; sets = family s; least = record { resolved = is.sets.resolved; least = is.sets.least } }

passed_with : (t : CodeTree) (f : Family) (kind : CertKind) (k : ℕ) (q : List LoopPoint) (ranks : List (List Form)) (c : Cert)
    → Certifies kind false k q ranks (formulas t f k q (ranks_of_kind kind ranks)) c → size t f k (row_counts q) ≤ most_weight → IsPassed t f c
unfolding formulas_at weight_at
passed_with t f kind k q ranks c is small = record {
  is_counted = record {
    small = subst (λ j. size t f j (row_counts c.point) ≤ most_weight) (sym is.k_is) (subst (λ x. size t f k (row_counts x) ≤ most_weight) (sym is.point_is) small);
    counted = is.refuted.each ∙ length-map _ _ ∙ ap (λ fs. length fs.last) same;
  };
  refuted = subst (λ fs. AllHold (problem_of fs c) 0 (length c.goals)) same is.refuted.hold;
}
  where
    same : formulas t f k q (ranks_of_kind kind ranks) ≡ formulas t f c.k c.point (ranks_of_kind c.kind c.ranks)
    same = λ j. formulas t f (sym is.k_is j) (sym is.point_is j) (ranks_of_kind (sym is.kind_is j) (sym is.ranks_are j))

pub file_of : (p : ProgramTree) (t : CodeTree) (s : Sets) → IsCodeOf p t s → (kind : CertKind) (k : ℕ) (q : List LoopPoint) (ranks : List (List Form)) (c : Cert)
    → Certifies kind false k (bounded q) ranks (formulas t (family s) k (bounded q) (ranks_of_kind kind ranks)) c
    → size t (family s) k (row_counts (bounded q)) ≤ most_weight → NamesFit p c → (file : List ℕ) → file ≡ spelling c → IsFileOf kind p k q ranks file
unfolding basis_of
file_of p t s is_code kind k q ranks c is small names file spelt = record {
  certificate = c;
  in_grammar = is.spelt;
  spelt = spelt;
  kind_is = is.kind_is;
  k_is = is.k_is;
  point_is = is.point_is;
  ranks_are = is.ranks_are;
  accepted = record { names = names; basis = basis_of p t s is_code; passed = passed_with t (family s) kind k (bounded q) ranks c is small };
}
