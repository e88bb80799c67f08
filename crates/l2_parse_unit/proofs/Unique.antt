-- Tokens spell at most one unit.
use Rattle.std.proofs.Common.{◌≡◌, refl, ap, sym, ◌∙◌, ℕ, List, [], ◌∷◌, map}
use Rattle.l2_syntax.specs.declared.token.Name.{Name}
use Rattle.l2_lex.specs.Lexing.{Lexed}
use Rattle.l2_syntax.specs.declared.token.Token.{Token}
use Rattle.l2_tree.specs.Trees.{ExternalTree, UnitTree}
use Rattle.l2_tree_laws.specs.Law.{UniqueTreeLaw}
use Rattle.l2_parse_unit.specs.Reading.{kept, Spells}

abbrev first_bytes : List ℕ → List (List ℕ) → List ℕ
first_bytes d [] = d
first_bytes d (x ∷ xs) = x

abbrev named : List ℕ → Name
named b = record { bytes = b }

abbrev others : List (List ℕ) → List (List ℕ)
others [] = []
others (x ∷ xs) = xs

same_names : (xs ys : List Name) → map (λ n. n.bytes) xs ≡ map (λ n. n.bytes) ys → xs ≡ ys
same_names [] [] e = refl
same_names [] (y ∷ ys) e = absurd (cc)
same_names (x ∷ xs) [] e = absurd (cc)
same_names (x ∷ xs) (y ∷ ys) e =
    ap (λ b. named b ∷ xs) (ap (first_bytes x.bytes) e) ∙ ap (λ r. y ∷ r) (same_names xs ys (ap others e))

abbrev made : List ExternalTree → List Token → List Name → UnitTree
made xs cs ns = record { externals = xs; constants = cs; names = ns }

pub unique : UniqueTreeLaw → (r : Lexed) (u v : UnitTree) → Spells r u → Spells r v → u ≡ v
unique law r u v s t =
    ap (λ x. made x u.constants u.names) (law (kept r.list) u.externals v.externals s.spelled t.spelled)
    ∙ ap (λ x. made v.externals x u.names) (s.constants ∙ sym t.constants)
    ∙ ap (λ x. made v.externals v.constants x) (same_names u.names v.names (s.names ∙ sym t.names))
