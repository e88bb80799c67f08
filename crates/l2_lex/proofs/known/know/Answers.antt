use Rattle.std.proofs.Common.{◌≡◌, ◌∙◌, ap, map, not, cond, Bool, true, false, Bor, List, [], ◌∷◌, ◌++◌, ℕ}
use Rattle.std.specs.Str.{bytes_eq}
use Rattle.std.specs.List.{list_any}
use Rattle.l2_directives.specs.declared.role.Role.TheVariants as role
use Rattle.l2_lex.proofs.Keys.{position_map, insert_map, any_map}
use Rattle.l2_lex.proofs.known.know.Goals as goal

turned : {A : Type 0} (b c : Bool) (x y : A) → b ≡ c → cond (not b) x y ≡ cond c y x
turned true c x y e = ap (λ v. cond v y x) e
turned false c x y e = ap (λ v. cond v y x) e

pub returns-in-Ok-first_role-clause-number : goal.returns-in-Ok-first_role-clause-number
returns-in-Ok-first_role-clause-number c = c.in-Ok.ensures.index ∙ position_map (λ k. k.now) (bytes_eq c.args.word.now) c.args.known.now.names.keys

pub returns-in-Ok-first_role-clause-names : goal.returns-in-Ok-first_role-clause-names
returns-in-Ok-first_role-clause-names c = ap (λ ks. map (λ k. k.now) ks) c.in-Ok.ensures.keys ∙ insert_map (λ k. k.now) (bytes_eq c.args.word.now) c.args.known.now.names.keys c.args.word

pub returns-in-Ok-first_role-clause-roles : goal.returns-in-Ok-first_role-clause-roles
returns-in-Ok-first_role-clause-roles c =
    let old = c.args.known.now.roles.items in
    c.in-Ok-first_role.ensures ∙ ap (λ (b : Bool). cond b (old ++ role.Plain ∷ []) old) c.in-Ok.ensures.added
    ∙ turned (list_any (λ (k : Bor (List ℕ)). bytes_eq c.args.word.now k.now) c.args.known.now.names.keys) (list_any (bytes_eq c.args.word.now) (map (λ k. k.now) c.args.known.now.names.keys)) (old ++ role.Plain ∷ []) old
    (any_map (λ k. k.now) (bytes_eq c.args.word.now) c.args.known.now.names.keys)
