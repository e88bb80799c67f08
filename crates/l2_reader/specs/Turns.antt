-- What a token does: a construct goes on or begins, or the outermost is ended.
use Rattle.std.specs.Prelude.{◌≡◌, ◌+◌, ◌≤◌, ◌<◌, ℕ, List, [], ◌∷◌, Bool, true, false, Option, None, Some, map, drop, length}
use Rattle.l2_syntax.specs.declared.token.Token.{Token}
use Rattle.l2_grammar.specs.declared.states.Level.{Level}
use Rattle.l2_grammar.specs.Trees.{Seen, Tree}
use Rattle.l2_grammar.specs.Reader.{Next, Stop, To, step}
use Rattle.l2_grammar.specs.Limits.{brackets, nests}
use Rattle.l2_grammar.specs.Expressions.{close, Expressed, express, NestsAt, BreaksAt}
use Rattle.l2_reader.specs.declared.syntax.Open.{Open}
use Rattle.l2_reader.specs.declared.error.ParseError.{ParseError}
use Rattle.l2_reader.specs.declared.error.ParseError.TheVariants.{Nesting, Syntax, NoMemory}
use Rattle.l2_reader.specs.declared.steps.Turned.{Turned}
use Rattle.l2_reader.specs.declared.steps.Turned.TheVariants as turned
use Rattle.l2_reader.specs.declared.reader.Progress.{Progress}
use Rattle.l2_reader.specs.declared.reader.Advance.{Advance}
use Rattle.l2_reader.specs.declared.reader.Advance.TheVariants as advance
use Rattle.l2_reader.specs.Parts.{seen, tree_of, Sound}
use Rattle.l2_reader.specs.Stacks.{trees_of, Leads}
use Rattle.l2_reader.specs.Readings.{Steady, count_of}

abbrev pub is_bottom : List Tree → Bool
is_bottom [] = true
is_bottom (p ∷ ks) = false

-- the outermost construct, where all in it could end
abbrev pub closing : Option Open → Next
closing None = Stop
closing (Some r) = To (tree_of r) []

abbrev pub SomeSound : Option Open → Type 0
SomeSound None = Unit {0}
SomeSound (Some r) = Sound r

abbrev pub Closes : Next → Option Open → Type 0
Closes n r = (n ≡ closing r) × SomeSound r

-- what a token does to these constructs
abbrev pub Turns : List Tree → Tree → Seen → Turned → Type 0
Turns ks r t (turned.Further run rest) = Leads (step ks r t) run rest
Turns ks r t (turned.Halted whole) = (step ks r t ≡ Stop) × Closes (close ks r) whole

-- whether the token is too deep from here
abbrev pub too_deep : Progress → Token → Bool
too_deep p t = nests p.brackets t.kind (step (trees_of p.stack) (tree_of p.run) (seen t))

-- what a token that isn't too deep does from here
abbrev pub Advances : Progress → Token → Advance → Type 0
Advances p t (advance.Further q) = (step (trees_of p.stack) (tree_of p.run) (seen t) ≡ To (tree_of q.run) (trees_of q.stack)) × (q.brackets ≡ brackets p.brackets t.kind) × Steady q × (count_of q ≡ count_of p + 1)
Advances p t (advance.Ended whole) = (step (trees_of p.stack) (tree_of p.run) (seen t) ≡ Stop) × Closes (close (trees_of p.stack) (tree_of p.run)) whole

-- what reading an expression of these tokens comes to from here
abbrev pub express_from : Progress → List Seen → Expressed
express_from p ts = express ts p.brackets (tree_of p.run) (trees_of p.stack)

-- the tokens from an index on
abbrev pub seen_from : ℕ → List Token → List Seen
seen_from i ts = map seen (drop i ts)

-- the index is that of a token from this one on, or at most behind the last
abbrev pub InRest : ℕ → List Token → ParseError → Type 0
InRest at ts (Nesting i) = (at ≤ i) × (i < length ts)
InRest at ts (Syntax i) = (at ≤ i) × (i ≤ length ts)
InRest at ts NoMemory = Unit {0}

-- reading an expression from this token on, where so many brackets are open, is refused so
abbrev pub IsExpressionRefusal : Level → ℕ → List Token → ℕ → ParseError → Type 0
IsExpressionRefusal l n ts at (Nesting i) = NestsAt l n (seen_from at ts) (seen_from i ts)
IsExpressionRefusal l n ts at (Syntax i) = BreaksAt l n (seen_from at ts) (seen_from i ts)
IsExpressionRefusal l n ts at NoMemory = Unit {0}
