-- The reader reads what spells a unit, and stops at the first token with which no unit goes on.
use Rattle.std.proofs.Common.{◌≡◌, List, [], ◌∷◌, ◌++◌, true, refl, sym, ap, ◌∙◌, subst, append_assoc, append-nil}
use Rattle.l2_grammar.specs.States.{unit, State, fresh, unit_end}
use Rattle.l2_grammar.specs.Nesting.{stands}
use Rattle.l2_grammar.specs.Trees.{Seen, Tree, begin, spell, state}
use Rattle.l2_grammar.specs.Reader.{Next, Stop, To, step, Verdict, Stops, Reads, finished, on_next, feed}
use Rattle.l2_grammar.specs.Law.{IsUnit, Spells, NoFurther, StopsBefore}
use Rattle.l2_grammar.proofs.Fed.{reads}
use Rattle.l2_grammar.proofs.Kept.{before, Good, Kept, kept_step, Begun, finish_at}

-- where a run of the reader stops
record Stopped (X : List Seen → List Seen) (ts : List Seen) (r : Tree) (ks : List Tree) (rest : List Seen) : Type 0 where
  used : List Seen
  parts : ts ≡ used ++ rest
  begun : Begun IsUnit (λ m. X (used ++ m))
  again : (t : Seen) (z : List Seen) → rest ≡ t ∷ z → (m : List Seen) → feed (used ++ (t ∷ m)) r ks ≡ Stops (t ∷ m)

abbrev Outcome : (List Seen → List Seen) → List Seen → Tree → List Tree → Verdict → Type 0
Outcome X ts r ks (Reads u) = IsUnit u × (spell u [] ≡ X ts)
Outcome X ts r ks (Stops rest) = Stopped X ts r ks rest

end_is : (ks : List Tree) (r : Tree) → Good unit ks r → Outcome (λ m. before ks (spell r m)) [] r ks (feed [] r ks)
end_is (p ∷ ks) r g = record { used = []; parts = refl; begun = finish_at (p ∷ ks) r g; again = λ t z e m. absurd (cc) }
end_is [] r g = go (state r) refl
  where
    go : (q : State) → state r ≡ q → Outcome (λ m. spell r m) [] r [] (finished q r)
    go unit_end e = (record { fits = g.0; sorted = g.2; ended = e }, refl)
    go q e = record { used = []; parts = refl; begun = finish_at [] r g; again = λ t z e m. absurd (cc) }

further : (X : List Seen → List Seen) (r : Tree) (ks : List Tree) (t : Seen) (ts : List Seen) (r' : Tree) (ks' : List Tree) (v : Verdict) → step ks r t ≡ To r' ks' → ((m : List Seen) → X (t ∷ m) ≡ before ks' (spell r' m)) → Outcome (λ m. before ks' (spell r' m)) ts r' ks' v → Outcome X (t ∷ ts) r ks v
further X r ks t ts r' ks' (Reads u) s e o = (o.0, o.1 ∙ sym (e ts))
further X r ks t ts r' ks' (Stops rest) s e o = record {
  used = t ∷ o.used;
  parts = ap (λ z. t ∷ z) o.parts;
  begun = record { tree = o.begun.tree; rest = o.begun.rest; whole = o.begun.whole; spells = o.begun.spells ∙ sym (e (o.used ++ o.begun.rest)) };
  again = λ x z q m. ap (λ (n : Next). on_next n (feed (o.used ++ (x ∷ m))) (t ∷ (o.used ++ (x ∷ m)))) s ∙ o.again x z q m;
}

from_state : (ts : List Seen) (r : Tree) (ks : List Tree) → Good unit ks r → Outcome (λ m. before ks (spell r m)) ts r ks (feed ts r ks)
from_state [] r ks g = end_is ks r g
from_state (t ∷ ts) r ks g = go (step ks r t) refl (kept_step unit ks r t g) (λ r' ks' g'. from_state ts r' ks' g')
  where
    go : (n : Next) → step ks r t ≡ n → Kept unit (λ m. before ks (spell r (t ∷ m))) n → ((r' : Tree) (ks' : List Tree) → Good unit ks' r' → Outcome (λ m. before ks' (spell r' m)) ts r' ks' (feed ts r' ks')) → Outcome (λ m. before ks (spell r m)) (t ∷ ts) r ks (on_next n (feed ts) (t ∷ ts))
    go Stop e k f = record {
      used = [];
      parts = refl;
      begun = finish_at ks r g;
      again = λ x z q m. let same : t ≡ x = cc in ap (λ (y : Seen). feed (y ∷ m) r ks) (sym same) ∙ ap (λ (n : Next). on_next n (feed m) (t ∷ m)) e ∙ ap (λ (y : Seen). Stops (y ∷ m)) same;
    }
    go (To r' ks') e k f = further (λ m. before ks (spell r m)) r ks t ts r' ks' (feed ts r' ks') e k.1 (f r' ks' k.0)

fresh_stands : stands unit fresh ≡ true
unfolding stands
fresh_stands = refl

pub begins_good : Good unit [] (begin unit)
begins_good = (tt, fresh_stands, refl)

pub spelled : (ts : List Seen) (u : Tree) → feed ts (begin unit) [] ≡ Reads u → Spells ts u
spelled ts u e =
    let o : Outcome (λ m. m) ts (begin unit) [] (Reads u) = subst (λ v. Outcome (λ m. m) ts (begin unit) [] v) e (from_state ts (begin unit) [] begins_good) in
    record { whole = o.0; spelled = o.1 }

no_further : (ts rest : List Seen) (o : Stopped (λ m. m) ts (begin unit) [] rest) → feed ts (begin unit) [] ≡ Stops rest → NoFurther o.used rest
no_further ts [] o e = λ u s. let a = reads o.used u s in let p : ts ≡ o.used = o.parts ∙ append-nil o.used in cc
no_further ts (t ∷ r) o e = λ b.
    let a = reads ((o.used ++ (t ∷ [])) ++ b.rest) b.unit b.spells in
    let z = o.again t r refl b.rest in
    let q : (o.used ++ (t ∷ [])) ++ b.rest ≡ o.used ++ (t ∷ b.rest) = append_assoc o.used (t ∷ []) b.rest in cc

pub stops : (ts rest : List Seen) → feed ts (begin unit) [] ≡ Stops rest → StopsBefore ts rest
stops ts rest e =
    let o : Outcome (λ m. m) ts (begin unit) [] (Stops rest) = subst (λ v. Outcome (λ m. m) ts (begin unit) [] v) e (from_state ts (begin unit) [] begins_good) in
    record { used = o.used; parts = o.parts; begins = record { unit = o.begun.tree; rest = o.begun.rest; spells = record { whole = o.begun.whole; spelled = o.begun.spells } }; further = no_further ts rest o e }
