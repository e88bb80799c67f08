-- One piece more.
use Rattle.std.proofs.Common.{◌≡◌, ◌+◌, ◌*◌, ◌∷◌, List, Option, None, Some, ℕ, sym, ap, subst, ◌∙◌, arith}
use Rattle.l2_syntax.specs.declared.place.Place.{Place}
use Rattle.l2_syntax.specs.declared.refusal.Refusal.{Refusal}
use Rattle.l2_pieces.specs.declared.piece.Piece.{Piece}
use Rattle.l2_lex.specs.States.{State}
use Rattle.l2_lex.specs.Lexing.{Turn, lexed, ends, lex, step}
use Rattle.l2_lex.specs.Code.{Bounded}
use Rattle.l2_lex.proofs.Bounds.{step_bounded, wide_bounded}

abbrev pub turn_at : State → Option Refusal → Turn
turn_at s r = record { state = s; stop = r }

pub walked : (text : List ℕ) (end : Place) (all rest : List Piece) (x : Piece) (s t : State) (r : Option Refusal) → all ≡ x ∷ rest → turn_at t r ≡ step text x rest s → lex text end all s ≡ ends r t (lex text end rest t)
walked text end all rest x s t r a e = ap (λ (l : List Piece). lex text end l s) a ∙ sym (ap (λ (u : Turn). ends u.stop u.state (lex text end rest u.state)) e)

pub walked_on : (text : List ℕ) (end : Place) (all rest : List Piece) (x : Piece) (s t : State) (r : Option Refusal) → all ≡ x ∷ rest → turn_at t r ≡ step text x rest s → r ≡ None → lex text end rest t ≡ lex text end all s
walked_on text end all rest x s t r a e n = sym (walked text end all rest x s t r a e ∙ ap (λ (o : Option Refusal). ends o t (lex text end rest t)) n)

pub stopped : (text : List ℕ) (end : Place) (all rest : List Piece) (x : Piece) (s t : State) (f : Refusal) → all ≡ x ∷ rest → turn_at t (Some f) ≡ step text x rest s → lexed t (Some f) ≡ lex text end all s
stopped text end all rest x s t f a e = sym (walked text end all rest x s t (Some f) a e)

pub bounded_on : (i : ℕ) (text : List ℕ) (rest : List Piece) (x : Piece) (s t : State) (r : Option Refusal) → turn_at t r ≡ step text x rest s → Bounded (14 * i) s → Bounded (14 * (i + 1)) t
bounded_on i text rest x s t r e b =
    let c = step_bounded (14 * i) text x rest s b in
    let P : Turn → Type 0 = λ u. Bounded (14 * (i + 1)) u.state in
    subst P (sym e) (wide_bounded (14 * i + 14) (14 * (i + 1)) (step text x rest s).state (omega arith) c)
