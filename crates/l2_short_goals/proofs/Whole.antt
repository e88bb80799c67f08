-- Short goals, part by part.
use Rattle.std.proofs.Common.{arith, ◌≡◌, refl, ap, sym, ◌∙◌, ℕ, suc, ◌+◌, ◌≤◌, ◌<◌, false, List, ◌∷◌, ◌++◌, length, map, drop, get_or, append_assoc}
use Rattle.std.proofs.lemmas.List.{drop_more, drop_all, append-nil}
use Rattle.l2_code.specs.declared.action.Operand.{Operand}
use Rattle.l2_code.specs.Trees.{CodeTree}
use Rattle.l2_code.specs.Sets.{Family}
use Rattle.l2_gates.specs.Gates.{Lit}
use Rattle.l2_ssa.specs.declared.goal.Kind.{Kind}
use Rattle.l2_ssa.specs.declared.step.Step.{Step as KeptStep}
use Rattle.l2_ssa.specs.declared.step.Step.TheVariants.{Choose, Take, Half, Point, Among, Compute, Alive, Pick, Row, Lower, Apart, Both, But, Either, Merge}
use Rattle.l2_ssa.specs.Steps.{Step}
use Rattle.l2_ssa.specs.Views.{kinds_of, step_of, steps_of}
use Rattle.l2_ssa.specs.Law.{ssa}
use Rattle.l2_blast.specs.Words.{Env, literal}
use Rattle.l2_blast.specs.Blasting.{clauses_of}
use Rattle.l2_blast.specs.Kept.{setting_of}
use Rattle.l2_short_goals.specs.Shorts.{no_fill, plain_kinds}
use Rattle.l2_short_goals.specs.Taken.{Choice, choices_of, short_walk, short_choices, short_heads}
use Rattle.l2_short_goals.specs.Kept.{kept_take, taken_at}

-- ---- choices, step by step

first_step : (env : Env) (f : Family) (n : ℕ) (x : KeptStep) (rest : List Step) → choices_of env n (step_of f x ∷ rest) ≡ taken_at env n (kept_take x) ++ choices_of env (suc n) rest
first_step env f n (Choose s) rest = refl
first_step env f n (Take s) rest = refl
first_step env f n (Half s) rest = refl
first_step env f n (Point s) rest = refl
first_step env f n (Among s) rest = refl
first_step env f n (Compute s) rest = refl
first_step env f n (Alive s) rest = refl
first_step env f n (Pick s) rest = refl
first_step env f n (Row s) rest = refl
first_step env f n (Lower s) rest = refl
first_step env f n (Apart s) rest = refl
first_step env f n (Both s) rest = refl
first_step env f n (But s) rest = refl
first_step env f n (Either s) rest = refl
first_step env f n (Merge s) rest = refl

-- what is taken so far, and what is left from a step on
pub one_more : (env : Env) (f : Family) (xs : List KeptStep) (x : KeptStep) (i : ℕ) (done next whole : List Choice) → i < length xs → x ≡ get_or xs i x
    → next ≡ done ++ taken_at env i (kept_take x) → done ++ choices_of env i (steps_of f (drop i xs)) ≡ whole → next ++ choices_of env (i + 1) (steps_of f (drop (i + 1) xs)) ≡ whole
one_more env f xs x i done next whole h is e before =
    let left = drop_more xs i x h ∙ (λ j. sym is j ∷ drop (i + 1) xs) in
    let count : i + 1 ≡ suc i = omega arith in
    (λ j. e j ++ choices_of env (count j) (steps_of f (drop (i + 1) xs)))
    ∙ append_assoc done (taken_at env i (kept_take x)) (choices_of env (suc i) (steps_of f (drop (i + 1) xs)))
    ∙ ap (λ cs. done ++ cs) (sym (first_step env f i x (steps_of f (drop (i + 1) xs))))
    ∙ ap (λ ys. done ++ choices_of env i (steps_of f ys)) (sym left) ∙ before

pub none_left : (env : Env) (f : Family) (xs : List KeptStep) (i : ℕ) (done whole : List Choice) → length xs ≤ i → done ++ choices_of env i (steps_of f (drop i xs)) ≡ whole → done ≡ whole
none_left env f xs i done whole h before =
    sym (append-nil done) ∙ ap (λ ys. done ++ choices_of env i (steps_of f ys)) (sym (drop_all i xs h)) ∙ before

-- ---- what is made

pub taken_is : (c : CodeTree) (f : Family) (k : ℕ) (kinds : List Kind) (steps : List Step) (env : Env) (taken : List Choice) → kinds ≡ plain_kinds c
    → steps ≡ (ssa c f k (kinds_of kinds) false).steps → env ≡ (clauses_of (setting_of c no_fill) steps).env → taken ≡ choices_of env 0 steps → taken ≡ short_choices c f k
unfolding short_choices
taken_is c f k kinds steps env taken ks xs es is =
    let same : steps ≡ (short_walk c f k).steps = xs ∙ ap (λ g. (ssa c f k (kinds_of g) false).steps) ks in
    is ∙ ap (λ (e : Env). choices_of e 0 steps) es ∙ ap (λ (ys : List Step). choices_of (clauses_of (setting_of c no_fill) ys).env 0 ys) same

pub heads_are : (c : CodeTree) (f : Family) (k : ℕ) (kinds : List Kind) (steps : List Step) (env : Env) (heads : List Operand) (literals : List Lit) → kinds ≡ plain_kinds c
    → steps ≡ (ssa c f k (kinds_of kinds) false).steps → env ≡ (clauses_of (setting_of c no_fill) steps).env → heads ≡ (ssa c f k (kinds_of kinds) false).heads
    → literals ≡ map (literal env) heads → literals ≡ short_heads c f k
unfolding short_heads
heads_are c f k kinds steps env heads literals ks xs es hs is =
    let same : steps ≡ (short_walk c f k).steps = xs ∙ ap (λ g. (ssa c f k (kinds_of g) false).steps) ks in
    let paths : heads ≡ (short_walk c f k).heads = hs ∙ ap (λ g. (ssa c f k (kinds_of g) false).heads) ks in
    is ∙ (λ i. map (literal (es i)) heads) ∙ (λ i. map (literal (clauses_of (setting_of c no_fill) (same i)).env) (paths i))
