-- Without pointer cells nothing points anywhere.
use Rattle.std.proofs.Common.{◌≡◌, ℕ, Bool, true, false, List, [], ◌∷◌, refl, ap, sym, ◌∙◌}
use Rattle.std.specs.Prelude.{◌&&◌}
use Rattle.l2_runs.specs.declared.cells.CellType.{CellType}
use Rattle.l2_runs.specs.declared.cells.CellType.TheVariants.{Integer, Pointer}
use Rattle.l2_runs.specs.declared.cells.CellValue.{CellValue}
use Rattle.l2_runs.specs.declared.cells.CellValue.TheVariants as value
use Rattle.l2_runs.specs.declared.member.Member.{Member}
use Rattle.l2_runs.specs.Members.{targets}
use Rattle.l2_runs.specs.Fits.{Layout, CellFits}
use Rattle.l2_program.specs.Checked.{LvalueTree, Object, TypedTree, Constant, Choice, Read, Unary, Binary, Convert, Assign, Assert, CheckedTree, Block, Declare, Static, Initialise, Label, Evaluate, If, IfElse, While, Return, CheckedTrees, none, more}
use Rattle.l2_program.specs.Types.{type_of}
use Rattle.l2_meaning.specs.Pointing.{Sets, is_same, held, may_be, TakeIn, IsTakenIn, StatementIsTakenIn, AreTakenIn, has_pointer}
use Rattle.l2_meaning.specs.Lawful.{IsInteger, IsTyped, IsTypedStatement, AreTyped}

abbrev pub nowhere : Sets
nowhere n m = false

number_fits : (cells : Layout) (ty : CellType) (v : CellValue) (m : Member) → CellFits cells ty v → has_pointer (ty ∷ []) ≡ false → targets v m ≡ false
number_fits cells (Integer ty) (value.Number z) m h e = refl
number_fits cells (Integer ty) value.Null m h e = absurd h
number_fits cells (Integer ty) value.Invalid m h e = absurd h
number_fits cells (Integer ty) (value.At o f) m h e = absurd h
number_fits cells Pointer v m h e = cc

no_pointer : (types : List CellType) → IsInteger types → has_pointer types ≡ false
no_pointer [] h = absurd h
no_pointer (Integer ty ∷ []) h = refl
no_pointer (Pointer ∷ []) h = absurd h
no_pointer (Integer ty ∷ u ∷ types) h = absurd h
no_pointer (Pointer ∷ u ∷ types) h = absurd h

held_nowhere : (l : LvalueTree) (m : Member) → held nowhere l m ≡ false
held_nowhere (Object n) m = refl

and_false : (a b : Bool) → b ≡ false → (a && b) ≡ false
and_false true b e = e
and_false false b e = refl

module _ (cells : Layout) (whole : (n : ℕ) → has_pointer (cells n) ≡ false) where
  points_nowhere : (e : TypedTree) → IsTyped cells e → has_pointer (type_of e) ≡ false → (m : Member) → may_be nowhere e m ≡ false
  points_nowhere (Constant ty v) h p m = number_fits cells ty v m h p
  points_nowhere (Choice ty) h p m = refl
  points_nowhere (Read ty l) h p m = held_nowhere l m
  points_nowhere (Unary op ty c e) h p m = refl
  points_nowhere (Binary op ty c x y) h p m = refl
  points_nowhere (Convert ty e) (h, i) p m = and_false (is_same ty (type_of e)) (may_be nowhere e m) (points_nowhere e h (no_pointer (type_of e) i) m)
  points_nowhere (Assign ty l e) (k, h, t) p m = points_nowhere e h (ap has_pointer t ∙ p) m
  points_nowhere (Assert c e) h p m = refl

  put_nowhere : (e : TypedTree) (n : ℕ) → IsTyped cells e → has_pointer (type_of e) ≡ false → TakeIn nowhere (Object n) (may_be nowhere e)
  put_nowhere e n h p m is = cc (points_nowhere e h p m, is)

  pub value_nowhere : (e : TypedTree) → IsTyped cells e → IsTakenIn nowhere e
  value_nowhere (Constant ty v) h = tt
  value_nowhere (Choice ty) h = tt
  value_nowhere (Read ty l) h = tt
  value_nowhere (Unary op ty c e) (h, t) = value_nowhere e h
  value_nowhere (Binary op ty c x y) (h, t, k, u) = (value_nowhere x h, value_nowhere y k)
  value_nowhere (Convert ty e) (h, i) = value_nowhere e h
  value_nowhere (Assign ty (Object n) e) (k, h, t) = (value_nowhere e h, put_nowhere e n h (ap has_pointer (t ∙ sym k) ∙ whole n))
  value_nowhere (Assert c e) (h, i) = value_nowhere e h

  mutual
    pub statement_nowhere : (result : List CellType) (s : CheckedTree) → IsTypedStatement cells result s → StatementIsTakenIn nowhere s
    statement_nowhere result (Block all) h = all_nowhere result all h
    statement_nowhere result (Declare n) h = tt
    statement_nowhere result (Static n) h = tt
    statement_nowhere result (Initialise n e) (h, t) = (value_nowhere e h, put_nowhere e n h (ap has_pointer (sym t) ∙ whole n))
    statement_nowhere result (Label n) h = tt
    statement_nowhere result (Evaluate e) h = value_nowhere e h
    statement_nowhere result (If e s) (h, i, k) = (value_nowhere e h, statement_nowhere result s k)
    statement_nowhere result (IfElse e s t) (h, i, k, l) = (value_nowhere e h, statement_nowhere result s k, statement_nowhere result t l)
    statement_nowhere result (While l named e s) (h, i, k) = (value_nowhere e h, statement_nowhere result s k)
    statement_nowhere result (Return e) (h, t) = value_nowhere e h

    all_nowhere : (result : List CellType) (all : CheckedTrees) → AreTyped cells result all → AreTakenIn nowhere all
    all_nowhere result none h = tt
    all_nowhere result (more s rest) (h, k) = (statement_nowhere result s h, all_nowhere result rest k)
