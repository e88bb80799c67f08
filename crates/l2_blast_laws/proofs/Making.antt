-- What a step makes is made.
use Rattle.std.proofs.Common.{ℕ, zero, suc, Bool, true, false, List, [], ◌∷◌, ◌++◌, pos, arith}
use Rattle.std.specs.Prelude.{replicate, ◌+◌}
use Rattle.l2_runs.specs.declared.cells.CellValue.{CellValue}
use Rattle.l2_runs.specs.declared.cells.CellValue.TheVariants.{Number, Null, Invalid, At}
use Rattle.l2_runs.specs.declared.member.Member.{Member}
use Rattle.l2_runs.specs.declared.member.Member.TheVariants as member
use Rattle.l2_code.specs.declared.action.Operand.{Operand}
use Rattle.l2_code.specs.declared.action.Operand.TheVariants.{Constant, Temp}
use Rattle.l2_code.specs.declared.action.Test.{Test}
use Rattle.l2_code.specs.declared.action.Test.TheVariants as test
use Rattle.l2_code.specs.declared.action.Computation.{Computation}
use Rattle.l2_code.specs.declared.action.Computation.TheVariants.{Numbers, Convert, Move, Pointers, Passes}
use Rattle.l2_code.specs.Values.{is_true}
use Rattle.l2_ssa.specs.Steps as steps
use Rattle.l2_ssa.specs.Steps.{Step, Choose, Take, Half, Point, Among, Compute, Alive, Pick, Row, Lower, Apart, Both, But, Either, Merge}
use Rattle.l2_gates.specs.Gates.{Lit, T, F, negated, same, Made, Bit, known, fresh, and}
use Rattle.l2_gates.specs.Models.{Below, AllBelow, Sound, Makes}
use Rattle.l2_gates.proofs.Bools.{by_test}
use Rattle.l2_gates.proofs.Made.{negated_below, ext_refl, ext_then, fresh_extends, gates_make}
use Rattle.l2_circuits.specs.Words.{Word, known_word, literal_if, choose}
use Rattle.l2_circuit_laws.specs.Making.{MakesWord}
use Rattle.l2_circuit_laws.proofs.Makings.{circuits_make, constants_are_below, extensions_are_below}
use Rattle.l2_number_circuits.specs.Numbers.{truth_of}
use Rattle.l2_pointer_circuits.specs.Law.{ConstantsAreThere, FlagsBelow}
use Rattle.l2_row_circuits.specs.Law.{WordsBelow}
use Rattle.l2_blast.specs.Sorts.{Sort, width, cell_width, sort_of}
use Rattle.l2_blast.specs.Words.{Env, name, first, literal, word, constant_word, wide_word, wide_words, room, is_signed, Setting, bit_word, fresh_word, unless_dead, members, test_bit, computed_word, flag_literals, right_room, merged_word, made_word, path_of, word_of}
use Rattle.l2_blast_laws.specs.Law.{IsMade}
use Rattle.l2_blast_laws.proofs.Circuits.{Circuits}
use Rattle.l2_blast_laws.proofs.Envs.{EnvBelow, name_below}

-- ---- literals and words that are there

pub F_below : (m : Made) → Sound m → Below m.next F
F_below m h = let s = h.some in omega arith

pub T_below : (m : Made) → Sound m → Below m.next T
T_below m h = let s = h.some in omega arith

pub if_below : (m : Made) → Sound m → (b : Bool) → Below m.next (literal_if b)
if_below m h true = T_below m h
if_below m h false = F_below m h

pub first_below : (n : ℕ) (bits : List Lit) → Below n F → AllBelow n bits → Below n (first bits)
first_below n [] f h = f
first_below n (l ∷ rest) f h = h.0

pub literal_below : (m : Made) → Sound m → (env : Env) → EnvBelow m.next env → (a : Operand) → Below m.next (literal env a)
literal_below m s env h (Constant v) = if_below m s (is_true v)
literal_below m s env h (Temp n) = first_below m.next (name env n).bits (F_below m s) (name_below m.next env n h)

pub append_below : (n : ℕ) (xs ys : List Lit) → AllBelow n xs → AllBelow n ys → AllBelow n (xs ++ ys)
append_below n [] ys h k = k
append_below n (x ∷ xs) ys h k = (h.0, append_below n xs ys h.1 k)

replicate_below : (n k : ℕ) (l : Lit) → Below n l → AllBelow n (replicate k l)
replicate_below n zero l h = tt
replicate_below n (suc k) l h = (h, replicate_below n k l h)

module _ (constants : ConstantsAreThere) (m : Made) (s : Sound m) (env : Env) (h : EnvBelow m.next env) where
  constant_below : (n : ℕ) (v : CellValue) → AllBelow m.next (constant_word n v)
  constant_below n (Number z) = constants_are_below m s n z
  constant_below n Null = constants m s Null
  constant_below n Invalid = constants m s Invalid
  constant_below n (At o f) = constants m s (At o f)

  pub word_below : (n : ℕ) (a : Operand) → AllBelow m.next (word n env a)
  word_below n (Constant v) = constant_below n v
  word_below n (Temp k) = name_below m.next env k h

  pub wide_below : (n : ℕ) (a : Operand) → AllBelow m.next (wide_word n env a)
  wide_below n a = extensions_are_below m s n (is_signed env a) (word room env a) (word_below room a)

  pub words_below : (as' : List Operand) → WordsBelow m.next (wide_words env as')
  words_below [] zero = tt
  words_below [] (suc i) = tt
  words_below (a ∷ rest) zero = tt
  words_below (a ∷ rest) (suc zero) = wide_below room a
  words_below (a ∷ rest) (suc (suc i)) = words_below rest (suc i)

  pub flags_below : (flags : List steps.Flag) → FlagsBelow m.next (flag_literals env flags)
  flags_below [] = tt
  flags_below (x ∷ rest) = (literal_below m s env h x.live, flags_below rest)

-- ---- words that are made

pub known_makes : (m : Made) (bits : List Lit) → Sound m → AllBelow m.next bits → MakesWord m (known_word bits m)
known_makes m bits s h = record { bits = h; extends = ext_refl m s }

pub bit_makes : (m : Made) (b : Bit) → Makes m b → MakesWord m (bit_word b)
bit_makes m b h = record { bits = (h.bit, tt); extends = h.extends }

pub truth_makes : (m : Made) (b : Bit) → Makes m b → MakesWord m (truth_of b)
truth_makes m b h = record { bits = extensions_are_below b.made h.extends.sound 32 false (b.bit ∷ []) (h.bit, tt); extends = h.extends }

known_bit : (m : Made) (l : Lit) → Sound m → Below m.next l → Makes m (known l m)
known_bit m l s h = record { bit = h; extends = ext_refl m s }

pub fresh_makes : (m : Made) → Sound m → Makes m (fresh m)
fresh_makes m s = record { bit = omega arith; extends = fresh_extends m s }

pub fresh_word_makes : (n : ℕ) (m : Made) → Sound m → MakesWord m (fresh_word n m)
fresh_word_makes zero m s = known_makes m [] s tt
fresh_word_makes (suc n) m s =
    let e = fresh_extends m s in
    let r = fresh_word_makes n (fresh m).made e.sound in
    record {
      bits = (let g = r.extends.grows in omega arith, r.bits);
      extends = ext_then m (fresh m).made (fresh_word n (fresh m).made).made e r.extends;
    }

dead_makes : (g : Lit) (s : Sort) (m : Made) (w : Word) → Sound m → MakesWord m w → MakesWord m (unless_dead g s m w)
dead_makes g s m w h k = by_test (MakesWord m) (same g F) _ w (λ e. known_makes m _ h (replicate_below m.next (width s) F (F_below m h))) (λ e. k)

module _ (c : Circuits) (s : Setting) (fill : IsMade s.fill)
    (m : Made) (so : Sound m) (env : Env) (h : EnvBelow m.next env) where
  word_is : (n : ℕ) (a : Operand) → AllBelow m.next (word n env a)
  word_is n a = word_below c.constants_are_there m so env h n a

  wide_is : (n : ℕ) (a : Operand) → AllBelow m.next (wide_word n env a)
  wide_is n a = wide_below c.constants_are_there m so env h n a

  lit : (a : Operand) → Below m.next (literal env a)
  lit a = literal_below m so env h a

  test_makes : (set : Member → Bool) (t : Test) → Makes m (test_bit s.types s.objects set env t m)
  test_makes set (test.Division ty a b) = (c.numbers_are_made m so).divisions ty _ _ (word_is ty.width a) (word_is ty.width b)
  test_makes set (test.Shift ty a) = (c.numbers_are_made m so).shifts ty _ _ (word_is room a)
  test_makes set (test.Overflow op ty a b) = (c.numbers_are_made m so).overflows op ty _ _ _ (word_is ty.width a) (word_is room b)
  test_makes set (test.Index n a) = (c.numbers_are_made m so).indexes (pos n) _ _ (word_is room a)
  test_makes set (test.IndexEnd n a) = (c.numbers_are_made m so).indexes (pos (n + 1)) _ _ (word_is room a)
  test_makes set (test.Null a) = (c.pointers_are_made m so _ (word_is 34 a)).not_member member.Null (members s.objects set)
  test_makes set (test.Invalid a) = (c.pointers_are_made m so _ (word_is 34 a)).not_member member.Invalid (members s.objects set)
  test_makes set (test.Live a) = known_bit m T so (T_below m so)
  test_makes set (test.Cells x a) = (c.pointers_are_made m so _ (word_is 34 a)).cells s.types.objects (s.types.pointed x) (members s.objects set)
  test_makes set (test.Move by a b) = (c.pointers_are_made m so _ (word_is 34 a)).may_move s.types.objects by (members s.objects set) _ (wide_is 96 b)
  test_makes set (test.Same a b) = (c.pointers_are_made m so _ (word_is 34 a)).same _ (word_is 34 b)

  computed_makes : (set : Member → Bool) (x : Computation) → MakesWord m (computed_word s.types s.objects set env x m)
  computed_makes set (Numbers op ty a b) = (c.numbers_are_made m so).numbers op ty _ _ (word_is ty.width a) (word_is (right_room op ty) b)
  computed_makes set (Convert ty a) = (c.numbers_are_made m so).conversions ty _ _ (word_is room a)
  computed_makes set (Move by a b) = (c.pointers_are_made m so _ (word_is 34 a)).moves by _ (wide_is 96 b)
  computed_makes set (Pointers op a b) = (c.pointers_are_made m so _ (word_is 34 a)).operators op _ (word_is 34 b)
  computed_makes set (Passes t) = truth_makes m (test_bit s.types s.objects set env t m) (test_makes set t)

  choose_makes : (l : Lit) (a b : List Lit) → Below m.next l → AllBelow m.next a → AllBelow m.next b → MakesWord m (choose l a b m)
  choose_makes l a b k i j = (circuits_make m so a b i j).choices l k

  merged_makes : (g k : Lit) (x y : List Lit) → Below m.next k → AllBelow m.next x → AllBelow m.next y → MakesWord m (merged_word g k x y m)
  merged_makes g k x y p i j =
      by_test (MakesWord m) (same k F) _ _ (λ e. known_makes m y so j) (λ e. by_test (MakesWord m) (same g F) _ _ (λ e. known_makes m x so i) (λ e. choose_makes k x y p i j))

  gate : (a b : Lit) → Below m.next a → Below m.next b → MakesWord m (bit_word (and a b m))
  gate a b i j = bit_makes m _ ((gates_make m so).ands a b i j)

  pub made_makes : (x : Step) → MakesWord m (made_word s x env m)
  made_makes (Choose g) = bit_makes m (fresh m) (fresh_makes m so)
  made_makes (Take g ty) = fresh_word_makes ty.width m so
  made_makes (Half g) = fresh_word_makes 17 m so
  made_makes (Point g sel off) = known_makes m _ so (append_below m.next _ _ (word_is 17 sel) (word_is 17 off))
  made_makes (Among g sel off set) = bit_makes m _ (c.among_is_made m so s.types.objects (members s.objects set) _ _ (word_is 17 sel) (word_is 17 off))
  made_makes (Compute g x set) = computed_makes set x
  made_makes (Alive g a flags) = truth_makes m _ ((c.pointers_are_made m so _ (word_is 34 a)).live (flag_literals env flags) (flags_below c.constants_are_there m so env h flags))
  made_makes (Pick g a o f ty x y) = (c.pointers_are_made m so _ (word_is 34 a)).picks (record { object = o; offset = f }) _ _ (word_is (cell_width ty) x) (word_is (cell_width ty) y)
  made_makes (Row g l i vars) = bit_makes m _ (fill.row l i (wide_words env vars) m so (words_below c.constants_are_there m so env h vars))
  made_makes (Lower g l old new) = bit_makes m _ (fill.lower l (wide_words env old) (wide_words env new) m so (words_below c.constants_are_there m so env h old) (words_below c.constants_are_there m so env h new))
  made_makes (Apart g a b) = gate (literal env a) (negated (literal env b)) (lit a) (negated_below m.next (literal env b) (lit b))
  made_makes (Both a b) = gate (literal env a) (literal env b) (lit a) (lit b)
  made_makes (But a b) = gate (literal env a) (negated (literal env b)) (lit a) (negated_below m.next (literal env b) (lit b))
  made_makes (Either a b) = bit_makes m _ ((gates_make m so).ors (literal env a) (literal env b) (lit a) (lit b))
  made_makes (Merge g k ty x y) =
      merged_makes (literal env g) (literal env k) (word (cell_width ty) env x) (word (cell_width ty) env y) (lit k) (word_is (cell_width ty) x) (word_is (cell_width ty) y)

  pub step_makes : (x : Step) → MakesWord m (word_of s x env m)
  step_makes x = dead_makes (path_of x env) (sort_of x) m (made_word s x env m) so (made_makes x)
