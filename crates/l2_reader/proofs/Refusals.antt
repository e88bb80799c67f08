-- What a refusal says of the tokens.
use Rattle.std.proofs.Common.{◌≡◌, ◌≢◌, ℕ, List, map, drop, Result, Ok, Err, IfOk, IfErr}
use Rattle.l2_syntax.specs.declared.token.Token.{Token}
use Rattle.l2_grammar.specs.Limits.{Refused, reading}
use Rattle.l2_grammar.specs.declared.states.Level.{Level}
use Rattle.l2_grammar.specs.Expressions.{Broken, expression}
use Rattle.l2_grammar.proofs.Limits.{nests_before, stops_before}
use Rattle.l2_grammar.proofs.Expressions.{nests_at, breaks_at}
use Rattle.l2_reader.specs.declared.error.ParseError.{ParseError}
use Rattle.l2_reader.specs.declared.error.ParseError.TheVariants.{Nesting, Syntax, NoMemory}
use Rattle.l2_reader.specs.Parts.{seen}
use Rattle.l2_reader.specs.Readings.{rule_of, place_of, IsRefusal}
use Rattle.l2_reader.specs.Turns.{seen_from, IsExpressionRefusal}

pub refuses : (ts : List Token) (f : ParseError) → (f ≢ NoMemory → reading (map seen ts) ≡ Refused (rule_of f) (map seen (drop (place_of f) ts))) → IsRefusal ts f
refuses ts (Nesting i) e = nests_before (map seen ts) (map seen (drop i ts)) (e (λ x. cc))
refuses ts (Syntax i) e = stops_before (map seen ts) (map seen (drop i ts)) (e (λ x. cc))
refuses ts NoMemory e = tt

pub expression_refuses : (l : Level) (n : ℕ) (ts : List Token) (at : ℕ) (f : ParseError) → (f ≢ NoMemory → expression l n (seen_from at ts) ≡ Broken (rule_of f) (seen_from (place_of f) ts)) → IsExpressionRefusal l n ts at f
expression_refuses l n ts at (Nesting i) e = nests_at l n (seen_from at ts) (seen_from i ts) (e (λ x. cc))
expression_refuses l n ts at (Syntax i) e = breaks_at l n (seen_from at ts) (seen_from i ts) (e (λ x. cc))
expression_refuses l n ts at NoMemory e = tt

pub ok_map : {A E : Type 0} (x : Result A E) {P Q : A → Type 0} → ((a : A) → P a → Q a) → IfOk x P → IfOk x Q
ok_map (Ok a) f h = f a h
ok_map (Err e) f h = tt

pub ok_all : {A E : Type 0} (x : Result A E) {P Q R S : A → Type 0} → ((a : A) → P a → Q a → R a → S a) → IfOk x P → IfOk x Q → IfOk x R → IfOk x S
ok_all (Ok a) f p q r = f a p q r
ok_all (Err e) f p q r = tt

pub err_map : {A E : Type 0} (x : Result A E) {P Q : E → Type 0} → ((e : E) → P e → Q e) → IfErr x P → IfErr x Q
err_map (Ok a) f h = tt
err_map (Err e) f h = f e h
