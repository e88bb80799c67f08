-- What is made is the formulas.
use Rattle.std.proofs.Common.{◌≡◌, ℕ, zero, suc, Bool, if◌then◌else◌, List, [], ◌∷◌, ◌++◌, length, map, is_some, Option, Some, None, option_map, refl, sym, ap, ◌∙◌, subst}
use Rattle.l2_templates.specs.declared.form.Form.{Form}
use Rattle.l2_templates.specs.declared.point.LoopPoint.{LoopPoint}
use Rattle.l2_templates.specs.declared.point.LoopPoint.TheVariants.{Bottom, Rows}
use Rattle.l2_code.specs.Trees.{CodeTree}
use Rattle.l2_code.specs.declared.sets.Sets.{Sets}
use Rattle.l2_code.specs.Sets.{Family, family}
use Rattle.l2_ssa.specs.declared.goal.Kind.{Kind as KeptKind}
use Rattle.l2_ssa.specs.Steps.{Step}
use Rattle.l2_ssa.specs.declared.goal.Event.{Event as KeptEvent}
use Rattle.l2_ssa.specs.declared.step.Step.{Step as KeptStep}
use Rattle.l2_ssa.specs.Views.{kinds_of, kind_of as kept_is, steps_of, events_of}
use Rattle.l2_ssa.specs.Walks.{Event, RowGoal, RankGoal}
use Rattle.l2_ssa.specs.Law.{ssa}
use Rattle.l2_gates.specs.Gates.{Made, start, literals_of}
use Rattle.l2_blast.specs.Words.{Env, Fill, Setting}
use Rattle.l2_blast.specs.Kept.{setting_of}
use Rattle.l2_blast.specs.Blasting.{blast, clauses_of}
use Rattle.l2_ssa_points.specs.Goals.{goals_of_rows, kind_at, kind_of, row_goals, rank_goals, check_goals, goals}
use Rattle.l2_ssa_points.specs.Places.{vars_of}
use Rattle.l2_goals.specs.declared.making.Goals.{Goals}
use Rattle.l2_goals.specs.Fills.{fill_of}
use Rattle.l2_goals.specs.Formulas.{rows_of_kinds, ranks_of_kinds, goals_of_kinds, walk_formulas_with, formulas_of, equations, setting, walk_formulas, literals}
use Rattle.l2_goals.specs.Kept.{kept_kind, kept_kinds}
use Rattle.l2_goals.specs.Numbers.{all_numbers, AreFormulas}

same_kind : (x : LoopPoint) → kept_is (Some (kept_kind x)) ≡ kind_of x
same_kind Bottom = refl
same_kind (Rows rows) = refl

kind_in : (q : List LoopPoint) (n : ℕ) → kinds_of (kept_kinds q) (suc n) ≡ kind_at q (suc n)
kind_in [] n = refl
kind_in (x ∷ q) zero = same_kind x
kind_in (x ∷ q) (suc n) = kind_in q n

kind_same : (q : List LoopPoint) (l : ℕ) → kinds_of (kept_kinds q) l ≡ kind_at q l
kind_same q zero = refl
kind_same q (suc n) = kind_in q n

kinds_same : (q : List LoopPoint) → kinds_of (kept_kinds q) ≡ kind_at q
kinds_same q = λ i l. kind_same q l i

pub some_same : {A B : Type 0} (f : A → B) (x : Option A) → is_some (option_map f x) ≡ is_some x
some_same f None = refl
some_same f (Some x) = refl

goals_in : (l : ℕ) (q : List LoopPoint) → rows_of_kinds l (kept_kinds q) ≡ row_goals l q
goals_in l [] = refl
goals_in l (Bottom ∷ q) = ap (λ gs. RowGoal l 0 ∷ gs) (goals_in (suc l) q)
goals_in l (Rows rows ∷ q) = ap (λ gs. goals_of_rows l 1 (length rows) ++ gs) (goals_in (suc l) q)

ranks_in : (l : ℕ) (q : List LoopPoint) → ranks_of_kinds l (kept_kinds q) ≡ rank_goals l q
ranks_in l [] = refl
ranks_in l (Bottom ∷ q) = ranks_in (suc l) q
ranks_in l (Rows rows ∷ q) = ap (λ gs. RankGoal l ∷ gs) (ranks_in (suc l) q)

goals_same : (n : ℕ) (q : List LoopPoint) (ranks : Option (List (List Form))) → goals_of_kinds n (kept_kinds q) (is_some ranks) ≡ goals n q ranks
goals_same n q None = ap (λ gs. gs ++ check_goals 1 n) (goals_in 1 q)
goals_same n q (Some ranks) = (λ i. goals_in 1 q i ++ ranks_in 1 q i)

-- the formulas at a point are those of the kinds that its loops have, and of its fill
pub at_point : (c : CodeTree) (f : Family) (k : ℕ) (q : List LoopPoint) (ranks : Option (List (List Form)))
    → walk_formulas_with c f k (kept_kinds q) (is_some ranks) (fill_of (vars_of c) q ranks) ≡ walk_formulas c f k q ranks
unfolding walk_formulas walk_formulas_with
at_point c f k q ranks =
    let same : ssa c f k (kinds_of (kept_kinds q)) (is_some ranks) ≡ equations c f k q ranks = ap (λ g. ssa c f k g (is_some ranks)) (kinds_same q) in
    (λ i. formulas_of (clauses_of (setting c q ranks) (same i).steps) (same i).events (goals_same (length c.checks) q ranks i))

pub of_point : (g : Goals) (c : CodeTree) (f : Family) (k : ℕ) (q : List LoopPoint) (ranks : Option (List (List Form))) (kinds : List KeptKind) (b : Bool) (fill : Fill)
    → kinds ≡ kept_kinds q → b ≡ is_some ranks → fill ≡ fill_of (vars_of c) q ranks → AreFormulas g (walk_formulas_with c f k kinds b fill) → AreFormulas g (walk_formulas c f k q ranks)
of_point g c f k q ranks kinds b fill ks bs fs h =
    subst (AreFormulas g) ((λ i. walk_formulas_with c f k (ks i) (bs i) (fs i)) ∙ at_point c f k q ranks) h

pub made_is : (c : CodeTree) (f : Family) (k : ℕ) (kinds : List KeptKind) (b : Bool) (fill : Fill) (steps : List Step) (events : List Event) (env : Env) (m : Made) (g : Goals)
    → steps ≡ (ssa c f k (kinds_of kinds) b).steps → events ≡ (ssa c f k (kinds_of kinds) b).events
    → env ≡ (clauses_of (setting_of c fill) steps).env → m ≡ (clauses_of (setting_of c fill) steps).made
    → map literals_of g.base ≡ m.clauses → all_numbers (map literals_of g.base) ≡ g.base
    → map literals_of g.last ≡ map (λ goal. literals env goal events) (goals_of_kinds (length c.checks) kinds b) → all_numbers (map literals_of g.last) ≡ g.last
    → g.variables ≡ m.next
    → AreFormulas g (walk_formulas_with c f k kinds b fill)
unfolding walk_formulas_with
made_is c f k kinds b fill steps events env m g xs es env_is m_is base base_same last last_same variables =
    let o = ssa c f k (kinds_of kinds) b in
    let envs : env ≡ (clauses_of (setting_of c fill) o.steps).env = env_is ∙ ap (λ ss. (clauses_of (setting_of c fill) ss).env) xs in
    let made : m ≡ (clauses_of (setting_of c fill) o.steps).made = m_is ∙ ap (λ ss. (clauses_of (setting_of c fill) ss).made) xs in
    record {
      base = sym base_same ∙ ap all_numbers (base ∙ ap (λ t. t.clauses) made);
      variables = variables ∙ ap (λ t. t.next) made;
      last = sym last_same ∙ ap all_numbers (last ∙ ap (λ e. map (λ goal. literals e goal events) (goals_of_kinds (length c.checks) kinds b)) envs
          ∙ ap (λ ev. map (λ goal. literals (clauses_of (setting_of c fill) o.steps).env goal ev) (goals_of_kinds (length c.checks) kinds b)) es);
    }

pub moved : (s : Setting) (sets sets' : Sets) (items : List KeptStep) (g : Made) → sets ≡ sets' → g ≡ start → blast s (steps_of (family sets) items) [] g ≡ clauses_of s (steps_of (family sets') items)
moved s sets sets' items g e h = ap (λ ss. blast s (steps_of (family ss) items) [] g) e ∙ ap (blast s (steps_of (family sets') items) []) h

pub last_is : (words : Env) (events events' : List KeptEvent) (kinds : List KeptKind) (b : Bool) (n n' : ℕ) → events ≡ events' → n ≡ n'
    → map (λ g. literals words g (events_of events)) (goals_of_kinds n kinds b) ≡ map (λ g. literals words g (events_of events')) (goals_of_kinds n' kinds b)
last_is words events events' kinds b n n' e h = (λ i. map (λ g. literals words g (events_of (e i))) (goals_of_kinds (h i) kinds b))
