-- Truth values as words, words that are chosen, cut or wrapped.
use Rattle.std.proofs.Common.{◌≡◌, ℕ, zero, suc, ◌+◌, ◌*◌, ◌%◌, ◌^◌, Bool, true, false, ℤ, pos, refl, sym, ap, ◌∙◌, List, [], length}
use Rattle.l2_bits.proofs.Residues.{residue-wrap}
use Rattle.l2_gates.specs.Gates.{Lit, F, Made}
use Rattle.l2_gates.specs.Models.{value, Ok}
use Rattle.l2_gates.proofs.Values.{value_F}
use Rattle.l2_circuits.specs.declared.columns.Kind.TheVariants.{Choose}
use Rattle.l2_circuits.specs.Words.{choose, resized, truth_word}
use Rattle.l2_circuit_laws.specs.Values.{values, bit_number, number}
use Rattle.l2_circuit_laws.specs.Law.{picked}
use Rattle.l2_circuit_laws.specs.Shows.{Shows, Gains, TruthsShow, ChoicesShow, WrapsShow}
use Rattle.l2_circuit_laws.proofs.Shown.{same_of_length, length_of_same}
use Rattle.l2_circuit_laws.proofs.Products.{choose_gives, columns_size}

-- ---- truth values

module _ (v : ℕ → Bool) (truth : v 0 ≡ true) where
  falses : (n : ℕ) → number (values v (resized n F [])) ≡ 0
  falses zero = refl
  falses (suc n) = (λ i. bit_number (value_F v truth i) + 2 * falses n i)

  falses_length : (n : ℕ) → length (resized n F []) ≡ n
  falses_length zero = refl
  falses_length (suc n) = ap suc (falses_length n)

  truth_shows : (l : Lit) → Shows v 32 (truth_word l) (pos (bit_number (value v l)))
  truth_shows l = record {
    size = ap suc (falses_length 31);
    number = ap (λ n. bit_number (value v l) + 2 * n) (falses 31) ∙ bit_is (value v l);
  }
    where
      bit_is : (b : Bool) → bit_number b + 2 * 0 ≡ bit_number b % 2 ^ 32
      bit_is true = refl
      bit_is false = refl

  -- ---- choices

  picked_shows : (n : ℕ) (t : Bool) (a b bits : List Lit) (x y : ℤ) → length bits ≡ n → values v bits ≡ picked t (values v a) (values v b) → Shows v n a x → Shows v n b y → Shows v n bits (picked t x y)
  picked_shows n true a b bits x y e f s t = record { size = e; number = ap number f ∙ s.number }
  picked_shows n false a b bits x y e f s t = record { size = e; number = ap number f ∙ t.number }

  choice_shows : (n : ℕ) (c : Lit) (a b : List Lit) (x y : ℤ) (m : Made) → Shows v n a x → Shows v n b y → Ok v (choose c a b m).made → Gains v m n (choose c a b m).bits (picked (value v c) x y)
  choice_shows n c a b x y m s t ok =
      let h = same_of_length a b (s.size ∙ sym t.size) in
      let g = choose_gives v truth c a b m h ok in
      record { before = g.before; shows = picked_shows n (value v c) a b (choose c a b m).bits x y (length_of_same (choose c a b m).bits a (columns_size Choose a b c m h) ∙ s.size) g.is s t }

pub truths_show : TruthsShow
truths_show = λ v truth l. truth_shows v truth l

pub choices_show : ChoicesShow
choices_show = λ v truth n c a b x y m s t ok. choice_shows v truth n c a b x y m s t ok

-- ---- wraps

pub wraps_show : WrapsShow
wraps_show v ty a x s = record { size = s.size; number = s.number ∙ sym (residue-wrap ty x) }
