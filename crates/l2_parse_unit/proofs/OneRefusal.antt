-- No text is refused in two ways.
use Rattle.std.proofs.Common.{◌≡◌, List, [], ◌∷◌, ◌++◌, length, refl, sym, ap, ◌∙◌, subst, append_assoc, append-nil, length-append, arith}
use Rattle.std.proofs.lemmas.List.{length-map}
use Rattle.l2_syntax.specs.declared.token.Token.{Token}
use Rattle.l2_syntax.specs.declared.refusal.Rule.{Rule}
use Rattle.l2_syntax.specs.declared.refusal.Rule.TheVariants as rule
use Rattle.l2_syntax.specs.declared.refusal.Refusal.{Refusal}
use Rattle.l2_grammar.specs.Trees.{Seen}
use Rattle.l2_grammar.specs.Law.{Spells, Begins, StopsBefore, NoFurther}
use Rattle.l2_lex.specs.Lexing.{Lexed}
use Rattle.l2_tree.specs.Spelling.{plain}
use Rattle.l2_parse_unit.specs.Depths.{TooDeep, Shallow, ShallowAt, DeepAt, NestsBefore}
use Rattle.l2_parse_unit.specs.Reading.{kept, nested, stopped, lexical, ended, UniqueRefusalLaw}

-- two places among the same tokens
data Order (us rest vs others : List Seen) : Type 0 where
  same : rest ≡ others → Order us rest vs others
  before : (t : Seen) (x : List Seen) → vs ≡ us ++ (t ∷ x) → rest ≡ t ∷ (x ++ others) → Order us rest vs others
  behind : (t : Seen) (x : List Seen) → us ≡ vs ++ (t ∷ x) → others ≡ t ∷ (x ++ rest) → Order us rest vs others

further : (u v : Seen) (us rest vs others : List Seen) → u ≡ v → Order us rest vs others → Order (u ∷ us) rest (v ∷ vs) others
further u v us rest vs others e (same h) = same h
further u v us rest vs others e (before t x p q) = before t x (ap (λ z. z ∷ vs) (sym e) ∙ ap (λ z. u ∷ z) p) q
further u v us rest vs others e (behind t x p q) = behind t x (ap (λ z. z ∷ us) e ∙ ap (λ z. v ∷ z) p) q

order : (us rest vs others : List Seen) → us ++ rest ≡ vs ++ others → Order us rest vs others
order [] rest [] others e = same e
order [] rest (v ∷ vs) others e = before v vs refl e
order (u ∷ us) rest [] others e = behind u us refl (sym e)
order (u ∷ us) rest (v ∷ vs) others e =
    let h : u ≡ v = cc in
    let f : us ++ rest ≡ vs ++ others = cc in
    further u v us rest vs others h (order us rest vs others f)

one_more : (us : List Seen) (t : Seen) (ms : List Seen) → us ++ (t ∷ ms) ≡ (us ++ (t ∷ [])) ++ ms
one_more [] t ms = refl
one_more (u ∷ us) t ms = ap (λ x. u ∷ x) (one_more us t ms)

-- some unit begins with the tokens up to one of those with which one begins
begins_to : (us vs : List Seen) (t : Seen) (x : List Seen) → vs ≡ us ++ (t ∷ x) → Begins vs → Begins (us ++ (t ∷ []))
begins_to us vs t x e b =
    record {
      unit = b.unit;
      rest = x ++ b.rest;
      spells = subst (λ z. Spells z b.unit) (ap (λ z. z ++ b.rest) (e ∙ one_more us t x) ∙ append_assoc (us ++ (t ∷ [])) x b.rest) b.spells;
    }

no_more : (us rest vs : List Seen) (t : Seen) (x others : List Seen) → NoFurther us rest → vs ≡ us ++ (t ∷ x) → rest ≡ t ∷ (x ++ others) → Begins vs → ⊥
no_more us rest vs t x others n p q b =
    let h : NoFurther us (t ∷ (x ++ others)) = subst (NoFurther us) q n in h (begins_to us vs t x p b)

-- a token that is too deep stands before no place up to which none is
deep_before : (ts us rest : List Seen) (t : Seen) (x others : List Seen) → ts ≡ us ++ rest → DeepAt us rest → rest ≡ t ∷ (x ++ others) → Shallow ts others → ⊥
deep_before ts us rest t x others p d q s =
    let h : TooDeep us t = subst (DeepAt us) q d in s us t x (p ∙ ap (λ z. us ++ z) q) h

stops_once : (ts rest others : List Seen) → StopsBefore ts rest → StopsBefore ts others → rest ≡ others
stops_once ts rest others a b = go (order a.used rest b.used others (sym a.parts ∙ b.parts))
  where
    go : Order a.used rest b.used others → rest ≡ others
    go (same h) = h
    go (before t x p q) = absurd (no_more a.used rest b.used t x others a.further p q b.begins)
    go (behind t x p q) = absurd (no_more b.used others a.used t x rest b.further p q a.begins)

nests_once : (ts rest others : List Seen) → NestsBefore ts rest → NestsBefore ts others → rest ≡ others
nests_once ts rest others a b = go (order a.used rest b.used others (sym a.parts ∙ b.parts))
  where
    go : Order a.used rest b.used others → rest ≡ others
    go (same h) = h
    go (before t x p q) = absurd (deep_before ts a.used rest t x others a.parts a.deep q b.shallow)
    go (behind t x p q) = absurd (deep_before ts b.used others t x rest b.parts b.deep q a.shallow)

abbrev stops_so : List Seen → List Seen → Type 0
stops_so ts rest = StopsBefore ts rest × Shallow ts rest × ShallowAt ts rest

deep_there : (ts us rest : List Seen) → ts ≡ us ++ rest → DeepAt us rest → ShallowAt ts rest → ⊥
deep_there ts us [] p d s = d
deep_there ts us (t ∷ more) p d s = s us t more p refl d

never_both : (ts rest others : List Seen) → NestsBefore ts rest → stops_so ts others → ⊥
never_both ts rest others a s = go (order a.used rest b.used others (sym a.parts ∙ b.parts))
  where
    b : StopsBefore ts others
    b = s.0

    go : Order a.used rest b.used others → ⊥
    go (same h) = deep_there ts a.used rest a.parts a.deep (subst (ShallowAt ts) (sym h) s.2)
    go (before t x p q) = deep_before ts a.used rest t x others a.parts a.deep q s.1
    go (behind t x p q) = no_more b.used others a.used t x rest b.further p q a.begins

not_whole : (ts us rest : List Seen) → ts ≡ us ++ rest → DeepAt us rest → Shallow ts [] → ⊥
not_whole ts us [] p d s = d
not_whole ts us (t ∷ more) p d s = s us t more (p ∙ ap (λ z. us ++ (t ∷ z)) (sym (append-nil more))) d

goes_on : (ts us : List Seen) (t : Seen) (more : List Seen) → ts ≡ us ++ (t ∷ more) → NoFurther us (t ∷ more) → Begins ts → ⊥
goes_on ts us t more p n b = n (begins_to us ts t more p b)

-- the token at which a rest begins
tokens_from : (us vs : List Token) (t s : Token) (xs ys : List Token) → us ++ (t ∷ xs) ≡ vs ++ (s ∷ ys) → length xs ≡ length ys → t ≡ s
tokens_from [] [] t s xs ys e h = cc
tokens_from [] (v ∷ vs) t s xs ys e h =
    let a = length-append vs (s ∷ ys) in
    let b : length xs ≡ length (vs ++ (s ∷ ys)) = ap length (let f : xs ≡ vs ++ (s ∷ ys) = cc in f) in
    absurd (omega arith)
tokens_from (u ∷ us) [] t s xs ys e h =
    let a = length-append us (t ∷ xs) in
    let b : length (us ++ (t ∷ xs)) ≡ length ys = ap length (let f : us ++ (t ∷ xs) ≡ ys = cc in f) in
    absurd (omega arith)
tokens_from (u ∷ us) (v ∷ vs) t s xs ys e h = let f : us ++ (t ∷ xs) ≡ vs ++ (s ∷ ys) = cc in tokens_from us vs t s xs ys f h

kept_length : (xs : List Token) → length (kept xs) ≡ length xs
kept_length xs = length-map xs (λ t. plain (record { kind = t.kind; at = t.place }))

same_length : (t s : Token) (xs ys : List Token) → kept (t ∷ xs) ≡ kept (s ∷ ys) → length xs ≡ length ys
same_length t s xs ys e =
    let a = kept_length (t ∷ xs) in
    let b = kept_length (s ∷ ys) in
    let c : length (kept (t ∷ xs)) ≡ length (kept (s ∷ ys)) = ap length e in
    omega arith

refused_at : Token → Rule → Refusal
refused_at t r = record { place = t.place; rule = r }

same_place : (r : Lexed) (q : Rule) (us vs : List Token) (t s : Token) (xs ys : List Token) → r.list ≡ us ++ (t ∷ xs) → r.list ≡ vs ++ (s ∷ ys) → kept (t ∷ xs) ≡ kept (s ∷ ys) → refused_at t q ≡ refused_at s q
same_place r q us vs t s xs ys e f h = ap (λ z. refused_at z q) (tokens_from us vs t s xs ys (sym e ∙ f) (same_length t s xs ys h))

begun : (ts : List Seen) → StopsBefore ts [] → Begins ts
begun ts s = subst Begins (sym (s.parts ∙ append-nil s.used)) s.begins

stopped_begun : (ts rest : List Seen) → StopsBefore ts rest → Begins ts → rest ≡ []
stopped_begun ts [] s b = refl
stopped_begun ts (t ∷ more) s b = absurd (goes_on ts s.used t more s.parts s.further b)

not_nothing : {A : Type 0} (t : Token) (xs : List Token) → kept (t ∷ xs) ≡ [] → A
not_nothing t xs e = absurd (cc)

pub unique_refusal : UniqueRefusalLaw
unfolding refused_at
unique_refusal r f g (nested us t xs e n) (nested vs s ys h m) = same_place r rule.Nesting us vs t s xs ys e h (nests_once (kept r.list) (kept (t ∷ xs)) (kept (s ∷ ys)) n m)
unique_refusal r f g (nested us t xs e n) (stopped vs s ys h m) = absurd (never_both (kept r.list) (kept (t ∷ xs)) (kept (s ∷ ys)) n m)
unique_refusal r f g (nested us t xs e n) (lexical k o b m) = absurd (not_whole (kept r.list) n.used (kept (t ∷ xs)) n.parts n.deep m)
unique_refusal r f g (nested us t xs e n) (ended o m) = absurd (never_both (kept r.list) (kept (t ∷ xs)) [] n m)
unique_refusal r f g (stopped us t xs e n) (nested vs s ys h m) = absurd (never_both (kept r.list) (kept (s ∷ ys)) (kept (t ∷ xs)) m n)
unique_refusal r f g (stopped us t xs e n) (stopped vs s ys h m) = same_place r rule.Syntax us vs t s xs ys e h (stops_once (kept r.list) (kept (t ∷ xs)) (kept (s ∷ ys)) n.0 m.0)
unique_refusal r f g (stopped us t xs e n) (lexical k o b m) = not_nothing t xs (stopped_begun (kept r.list) (kept (t ∷ xs)) n.0 b)
unique_refusal r f g (stopped us t xs e n) (ended o m) = not_nothing t xs (stops_once (kept r.list) (kept (t ∷ xs)) [] n.0 m.0)
unique_refusal r f g (lexical k o b m) (nested vs s ys h n) = absurd (not_whole (kept r.list) n.used (kept (s ∷ ys)) n.parts n.deep m)
unique_refusal r f g (lexical k o b m) (stopped vs s ys h n) = not_nothing s ys (stopped_begun (kept r.list) (kept (s ∷ ys)) n.0 b)
unique_refusal r f g (lexical k o b m) (lexical l q c n) = cc
unique_refusal r f g (lexical k o b m) (ended q n) = absurd (cc)
unique_refusal r f g (ended o n) (nested vs s ys h m) = absurd (never_both (kept r.list) (kept (s ∷ ys)) [] m n)
unique_refusal r f g (ended o n) (stopped vs s ys h m) = not_nothing s ys (stops_once (kept r.list) (kept (s ∷ ys)) [] m.0 n.0)
unique_refusal r f g (ended o n) (lexical k q b m) = absurd (cc)
unique_refusal r f g (ended o n) (ended q m) = refl
