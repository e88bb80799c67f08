-- Where the strongest point has no greedy lists, no point of the domain has lists at all.
use Rattle.std.proofs.Common.{◌≡◌, inl, inr, ℕ, zero, suc, Bool, ℤ, List, [], ◌∷◌, ◌++◌, length, Option, Some, None, refl, ap, subst, arith, slice_get}
use Rattle.std.specs.Prelude.{Contains}
use Rattle.l2_runs.specs.Numbers.{at_number}
use Rattle.l2_runs.specs.Store.{Store}
use Rattle.l2_program.specs.declared.program.LoopInfo.{LoopInfo}
use Rattle.l2_program.specs.Programs.{ProgramTree}
use Rattle.l2_meaning.specs.Pointing.{Sets}
use Rattle.l2_templates.specs.declared.families.Family.{Family as Forms}
use Rattle.l2_templates.specs.declared.form.Form.{Form}
use Rattle.l2_templates.specs.declared.point.LoopPoint.{LoopPoint}
use Rattle.l2_templates.specs.Points.{IsStronger}
use Rattle.l2_code.specs.Trees.{CodeTree}
use Rattle.l2_code.specs.Sets.{Family}
use Rattle.l2_cuts.specs.Points.{ranks_at, lowers, or_no_forms}
use Rattle.l2_cuts.specs.Cuts.{Infers, TurnsPass, RankProves}
use Rattle.l2_cuts.specs.Rankings.{IsFirstServing, IsGreedy, RanksAre, candidates}
use Rattle.l2_cuts.specs.Strongest.{IsStrongest, IsPointOf, AreLoopPointsOf}
use Rattle.l2_kiki.specs.declared.decision.Mode.TheVariants.{Termination}
use Rattle.l2_kiki.specs.declared.decision.Decision.{Decision}
use Rattle.l2_kiki.specs.declared.decision.Decision.TheVariants as decision
use Rattle.l2_verdicts.specs.Verdicts.{IsVerdict}
use Rattle.l2_rank_verdict_laws.specs.Law.{AreOfCandidates, NothingRanks, UnrankedLaw}

-- what lower crates say
pub record Laws : Type 0 where
  pub infers : (p : ProgramTree) (sets : Sets) (k : ℕ) (q : List LoopPoint) (passes : ℕ → Store → Store → Bool) → TurnsPass p sets k q passes → Infers p sets k q
  pub stronger : (p : ProgramTree) (sets : Sets) (k : ℕ) (a b : List LoopPoint) (r : List (List Form)) → IsStronger a b → Infers p sets k a → RankProves p sets k b r → RankProves p sets k a r
  pub ranks : (p : ProgramTree) (sets : Sets) (k : ℕ) (q : List LoopPoint) (r : List (List Form)) → Infers p sets k q → length q ≡ length p.loops → RanksAre p sets k q (Some r) → RankProves p sets k q r
  pub stuck : (p : ProgramTree) (sets : Sets) (k : ℕ) (q : List LoopPoint) → RanksAre p sets k q None → (r : List (List Form)) → AreOfCandidates p r → ¬ RankProves p sets k q r

-- ---- greedy lists are of candidates

more : (x y : Form) (xs : List Form) → Contains xs x → Contains (y ∷ xs) x
more x y xs (k, lt, is) = (suc k, omega (arith, lt), is)

module _ (p : ProgramTree) (sets : Sets) (k : ℕ) (q : List LoopPoint) where
  first_is : (l : ℕ) (fs cs : List Form) (f : Form) → IsFirstServing p sets k q l fs cs f → Contains cs f
  first_is l fs [] f h = absurd h
  first_is l fs (c ∷ cs) f (inl h) = (0, omega arith, h.0)
  first_is l fs (c ∷ cs) f (inr h) = more f c cs (first_is l fs cs f h.1)

  greedy_are : (l : ℕ) (fs gs : List Form) → IsGreedy p sets k q l fs gs → (f : Form) → Contains gs f → Contains (candidates p l) f
  greedy_are l fs [] h f (i, lt, is) = absurd (omega (arith, lt))
  greedy_are l fs (g ∷ gs) h f (zero, lt, is) = subst (λ x. Contains (candidates p l) x) is (first_is l fs (candidates p l) g h.0)
  greedy_are l fs (g ∷ gs) h f (suc i, lt, is) = greedy_are l (fs ++ g ∷ []) gs h.1 f (i, omega (arith, lt), is)

  none_past : (r : List (List Form)) (loops : List LoopInfo) (n : ℕ) → length r ≡ length loops → slice_get loops n ≡ None → or_no_forms (slice_get r n) ≡ []
  none_past [] loops n e h = refl
  none_past (x ∷ r) [] n e h = absurd (omega (arith, e))
  none_past (x ∷ r) (y ∷ loops) zero e h = cc
  none_past (x ∷ r) (y ∷ loops) (suc n) e h = none_past r loops n (omega (arith, e)) h

  none_at : (r : List (List Form)) (l : ℕ) → length r ≡ length p.loops → at_number p.loops l ≡ None → ranks_at r l ≡ []
  none_at r zero e h = refl
  none_at r (suc n) e h = none_past r p.loops n e h

  pub ranks_are : (r : List (List Form)) → RanksAre p sets k q (Some r) → AreOfCandidates p r
  ranks_are r h l f c = go (at_number p.loops l) refl
    where
      go : (o : Option LoopInfo) → at_number p.loops l ≡ o → Contains (candidates p l) f
      go (Some loop) e = greedy_are l [] (ranks_at r l) (h.1 l (loop, e)) f c
      go None e = let i = subst (λ fs. Contains fs f) (none_at r l h.0 e) c in absurd (omega (arith, i.1))

-- ---- the answer

-- a point of a domain is over all loops
of_all : (domain : Forms) (bounds : List ℤ) (loops : List LoopInfo) (q : List LoopPoint) → AreLoopPointsOf domain bounds loops q → length q ≡ length loops
of_all domain bounds [] [] is = refl
of_all domain bounds [] (a ∷ q) is = absurd is
of_all domain bounds (loop ∷ loops) [] is = absurd is
of_all domain bounds (loop ∷ loops) (a ∷ q) is = ap suc (of_all domain bounds loops q is.1)

module _ (w : Laws) (p : ProgramTree) (c : CodeTree) (f : Family) (domain : Forms) (bounds : List ℤ) (limit : ℕ) where
  open_is : IsVerdict p c f domain bounds Termination limit (decision.Unwind limit) → NothingRanks p c f domain bounds limit
  open_is (e, all) k some within = ((all k some within).0, λ q of_domain r are proves. at (all k some within).1 q of_domain r are proves)
    where
      at : ((best : List LoopPoint) × IsStrongest p f.object k domain bounds best × RanksAre p f.object k best None) → (q : List LoopPoint) → IsPointOf p domain bounds q → (r : List (List Form)) → AreOfCandidates p r → ¬ RankProves p f.object k q r
      at (best, strongest, none) q of_domain r are proves =
          w.stuck p f.object k best none r are
          (w.stronger p f.object k best q r (strongest.strongest q of_domain (w.infers p f.object k q (lowers r) proves)) strongest.infers proves)

  only_open : (d : Decision) → IsVerdict p c f domain bounds Termination limit d → NothingRanks p c f domain bounds limit → d ≡ decision.Unwind limit
  only_open (decision.Safe k q) (mode, first, fits, whole, strongest, proves) nothing = absurd (cc)
  only_open (decision.Unsafe k found) (mode, first, fits, breaks, found_one) nothing = absurd (cc)
  only_open (decision.Terminating k q ranks) (mode, first, fits, strongest, listed) nothing =
      absurd ((nothing k first.some first.within).1 q strongest.point ranks (ranks_are p f.object k q ranks listed)
      (w.ranks p f.object k q ranks strongest.infers (of_all domain bounds p.loops q strongest.point) listed))
  only_open (decision.Unwind k) (e, all) nothing = ap decision.Unwind e
  only_open (decision.Size k) (first, large) nothing = absurd ((nothing k first.some first.within).0 large)

pub unranked : Laws → UnrankedLaw
unranked w p c f domain bounds limit d is = (
  (λ e. open_is w p c f domain bounds limit (subst (λ x. IsVerdict p c f domain bounds Termination limit x) e is)),
  only_open w p c f domain bounds limit d is,
)
