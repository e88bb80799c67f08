-- The reader: the construct that is read, those round it, and what a token does to them.
use Rattle.std.specs.Prelude.{List, [], ◌∷◌, Bool, cond}
use Rattle.l2_syntax.specs.declared.token.TokenKind.{TokenKind}
use Rattle.l2_grammar.specs.States.{Sort, State, fresh, unit_end}
use Rattle.l2_grammar.specs.Networks.{on_token}
use Rattle.l2_grammar.specs.Nesting.{opens, stands}
use Rattle.l2_grammar.specs.Trees.{Seen, Tree, begin, token, child, sort, state}

pub data Next : Type 0 where
  Stop : Next
  To : Tree → List Tree → Next

-- whether a construct goes on with the token, and whether one that begins in it does
abbrev pub takes : Sort → State → TokenKind → Bool
takes s q k = stands s (on_token s q k)

abbrev pub begins : Sort → State → TokenKind → Bool
begins s q k = takes (opens s q) fresh k

-- the construct goes on, or one begins in it, or it ends and the one round it goes on
abbrev pub step : List Tree → Tree → Seen → Next
step [] r t =
    cond (takes (sort r) (state r) t.kind) (To (token r t) [])
    (cond (begins (sort r) (state r) t.kind) (To (token (begin (opens (sort r) (state r))) t) (r ∷ [])) Stop)
step (p ∷ ks) r t =
    cond (takes (sort r) (state r) t.kind) (To (token r t) (p ∷ ks))
    (cond (begins (sort r) (state r) t.kind) (To (token (begin (opens (sort r) (state r))) t) (r ∷ p ∷ ks))
    (cond (stands (sort p) (state (child p r))) (step ks (child p r) t) Stop))

pub data Verdict : Type 0 where
  Stops : List Seen → Verdict  -- what is left where reading stops
  Reads : Tree → Verdict

abbrev pub finished : State → Tree → Verdict
finished unit_end r = Reads r
finished q r = Stops []

abbrev pub finish : Tree → List Tree → Verdict
finish r [] = finished (state r) r
finish r ks = Stops []

abbrev pub on_next : Next → (Tree → List Tree → Verdict) → List Seen → Verdict
on_next Stop f ts = Stops ts
on_next (To r ks) f ts = f r ks

-- what reading these tokens from here comes to
abbrev pub feed : List Seen → Tree → List Tree → Verdict
feed [] r ks = finish r ks
feed (t ∷ ts) r ks = on_next (step ks r t) (feed ts) (t ∷ ts)
