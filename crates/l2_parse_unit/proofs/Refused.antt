-- What is refused spells no unit.
use Rattle.std.proofs.Common.{◌≡◌, refl, ap, sym, ◌∙◌, subst, List, [], ◌∷◌, ◌++◌}
use Rattle.l2_syntax.specs.declared.refusal.Refusal.{Refusal}
use Rattle.l2_grammar.specs.Trees.{Seen, Tree}
use Rattle.l2_grammar.specs.Law as grammar
use Rattle.l2_grammar.specs.Law.{StopsBefore, NoFurther}
use Rattle.l2_parse_unit.specs.Depths.{Shallow, DeepAt}
use Rattle.l2_lex.specs.Lexing.{Lexed}
use Rattle.l2_tree.specs.Trees.{UnitTree}
use Rattle.l2_tree.specs.Spelling.{run_unit}
use Rattle.l2_parse_unit.specs.Reading.{kept, Spells, IsRefused, nested, stopped, lexical, ended}

pub nil_right : (ts : List Seen) → ts ++ [] ≡ ts
nil_right [] = refl
nil_right (t ∷ ts) = ap (λ x. t ∷ x) (nil_right ts)

one_more : (us : List Seen) (t : Seen) (ms : List Seen) → us ++ (t ∷ ms) ≡ (us ++ (t ∷ [])) ++ ms
one_more [] t ms = refl
one_more (u ∷ us) t ms = ap (λ x. u ∷ x) (one_more us t ms)

-- where no unit goes on, none is spelt
no_further : (ts us rest : List Seen) (u : Tree) → ts ≡ us ++ rest → NoFurther us rest → grammar.Spells ts u → ⊥
no_further ts us [] u e h s = h u (subst (λ x. grammar.Spells x u) (e ∙ nil_right us) s)
no_further ts us (t ∷ ms) u e h s = h (record { unit = u; rest = ms; spells = subst (λ x. grammar.Spells x u) (e ∙ one_more us t ms) s })

stops : (ts rest : List Seen) (u : Tree) → StopsBefore ts rest → grammar.Spells ts u → ⊥
stops ts rest u h s = no_further ts h.used rest u h.parts h.further s

-- a token that is too deep isn't shallow
deep : (ts us rest : List Seen) → ts ≡ us ++ rest → DeepAt us rest → Shallow ts [] → ⊥
deep ts us [] e d h = d
deep ts us (t ∷ ms) e d h = h us t ms (e ∙ ap (λ x. us ++ (t ∷ x)) (sym (nil_right ms))) d

pub refused : (r : Lexed) (f : Refusal) (u : UnitTree) → IsRefused r f → Spells r u → ⊥
refused r f u (nested used t more e h) s = deep (kept r.list) h.used (kept (t ∷ more)) h.parts h.deep s.shallow
refused r f u (stopped used t more e h) s = stops (kept r.list) (kept (t ∷ more)) (run_unit u.externals) h.0 s.spelled
refused r f u (lexical g e b h) s = absurd (cc)
refused r f u (ended e h) s = stops (kept r.list) [] (run_unit u.externals) h.0 s.spelled
