-- What the words of rows show, where what fills them gives what rows mean.
use Rattle.std.proofs.Common.{◌≡◌, ℕ, ◌-◌, ◌^◌, ◌<◌, Bool, true, ℤ, pos, negsuc, ◌≤ℤ◌, ◌<ℤ◌, refl, sym, ap, ◌∙◌, subst, List, [], ◌∷◌, length, map, arith}
use Rattle.std.proofs.lemmas.Int.{ints}
use Rattle.l2_runs.specs.declared.cells.CellValue.{CellValue}
use Rattle.l2_runs.specs.declared.cells.CellValue.TheVariants.{Number}
use Rattle.l2_code.specs.declared.action.Operand.{Operand}
use Rattle.l2_code.specs.WellFormed.{IsWhole}
use Rattle.l2_ssa.specs.Steps.{Step, Choose, Take, Half, Point, Among, Compute, Alive, Pick, Row, Lower, Apart, Both, But, Either, Merge, Names, bit, values_of, AreBefore, Reads}
use Rattle.l2_gates.specs.Gates.{Made}
use Rattle.l2_gates.specs.Models.{Ok}
use Rattle.l2_templates.specs.Forms as forms
use Rattle.l2_blast.specs.Sorts.{Truth, Sorts, sort_of, AreNumbers, IsTyped}
use Rattle.l2_blast.specs.Words.{Env, name, wide_words, Setting, made_word, word_of}
use Rattle.l2_blast_laws.specs.Law.{shown, IsSized, RowHolds, meaning_of, WordsShow, FillMeans}
use Rattle.l2_blast_laws.proofs.Circuits.{Circuits}
use Rattle.l2_blast_laws.proofs.Operands.{ShownBy, wide_is}
use Rattle.l2_blast_laws.proofs.Stepping.{guarded, asked}

is_number : (z : ℤ) → IsWhole (Number z) → forms.IsNumber z
is_number z h =
    let e : 2 ^ 64 ≡ 18446744073709551616 = refl in
    let p : 2 ^ 63 ≡ 9223372036854775808 = refl in
    let low = h.0 in
    let high = h.1 in
    record { least = subst (λ k. negsuc (k - 1) ≤ℤ z) (sym p) low; most = subst (λ k. z <ℤ pos k) (sym e) (omega (arith, ints, high)) }

module _ (c : Circuits) (s : Setting) (sized : IsSized s) (v : ℕ → Bool) (true_one : v 0 ≡ true) (kinds : Sorts) (env : Env) (t : Names)
    (sorted : (i : ℕ) → i < length env → (name env i).sort ≡ kinds i)
    (at : (i : ℕ) → i < length env → ShownBy v (kinds i) (name env i).bits (t i)) where
  -- the numbers of operands, which their wide words show
  pub record AllShown (vars : List Operand) : Type 0 where
    pub numbers : List ℤ
    pub are : values_of t vars ≡ map Number numbers
    pub shows : WordsShow v (wide_words env vars) numbers

  pub all_shown : (vars : List Operand) → AreBefore (length env) vars → AreNumbers kinds vars → AllShown vars
  all_shown [] b h = record { numbers = []; are = refl; shows = tt }
  all_shown (a ∷ rest) b h =
      let w = wide_is c v true_one s.types.objects sized.small kinds env t sorted at 66 a b.0 h.0 in
      let r = all_shown rest b.1 h.1 in
      record { numbers = w.number ∷ r.numbers; are = (λ i. w.is i ∷ r.are i); shows = (w.shows, is_number w.number w.whole, r.shows) }

module _ (c : Circuits) (s : Setting) (sized : IsSized s) (v : ℕ → Bool) (true_one : v 0 ≡ true) (kinds : Sorts) (env : Env) (t : Names)
    (sorted : (i : ℕ) → i < length env → (name env i).sort ≡ kinds i)
    (at : (i : ℕ) → i < length env → ShownBy v (kinds i) (name env i).bits (t i)) (m : Made)
    (row : ℕ → ℕ → List CellValue → Bool) (lower : ℕ → List CellValue → List CellValue → Bool) (means : FillMeans v s.fill (meaning_of s row lower)) where
  pub row_fine : (n : ℕ) (x : Step) → Reads (length env) x → IsTyped s.types kinds x → Ok v (word_of s x env m).made → t n ≡ shown v (sort_of x) (word_of s x env m).bits → RowHolds (meaning_of s row lower) t n x
  row_fine n (Row g l i vars) r h ok is =
      let k = all_shown c s sized v true_one kinds env t sorted at vars r.1 h.1 in
      (guarded c s sized v true_one kinds env t sorted at m row lower g r.0 h.0 (Truth 1) (omega arith) (made_word s (Row g l i vars) env m) (t n) (t n ≡ bit (row l i (values_of t vars)))
      (λ o e. let q = asked c s sized v true_one kinds env t sorted at m row lower n _ (row l i (map Number k.numbers)) (means.row l i (wide_words env vars) k.numbers m k.shows) o e in
      (q.0, q.1 ∙ ap (λ z. bit (row l i z)) (sym k.are))) ok is).1
  row_fine n (Lower g l old new) r h ok is =
      let j = all_shown c s sized v true_one kinds env t sorted at old r.1 h.1 in
      let k = all_shown c s sized v true_one kinds env t sorted at new r.2 h.2 in
      (guarded c s sized v true_one kinds env t sorted at m row lower g r.0 h.0 (Truth 1) (omega arith) (made_word s (Lower g l old new) env m) (t n) (t n ≡ bit (lower l (values_of t old) (values_of t new)))
      (λ o e. let q = asked c s sized v true_one kinds env t sorted at m row lower n _ (lower l (map Number j.numbers) (map Number k.numbers)) (means.lower l (wide_words env old) (wide_words env new) j.numbers k.numbers m j.shows k.shows) o e in
      (q.0, q.1 ∙ (λ i. bit (lower l (sym j.are i) (sym k.are i))))) ok is).1
  row_fine n (Choose g) r h ok is = tt
  row_fine n (Take g ty) r h ok is = tt
  row_fine n (Half g) r h ok is = tt
  row_fine n (Point g a b) r h ok is = tt
  row_fine n (Among g a b set) r h ok is = tt
  row_fine n (Compute g y set) r h ok is = tt
  row_fine n (Alive g a flags) r h ok is = tt
  row_fine n (Pick g a o f ty x y) r h ok is = tt
  row_fine n (Apart g a b) r h ok is = tt
  row_fine n (Both a b) r h ok is = tt
  row_fine n (But a b) r h ok is = tt
  row_fine n (Either a b) r h ok is = tt
  row_fine n (Merge g k ty x y) r h ok is = tt
