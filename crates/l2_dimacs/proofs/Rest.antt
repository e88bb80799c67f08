-- What is left of the clauses, token by token.
use Rattle.std.proofs.Common.{◌≡◌, ◌≢◌, ◌⊎◌, inl, inr, ℕ, zero, suc, ◌+◌, ◌≤◌, ℤ, pos, List, [], ◌∷◌, ◌++◌, length, drop, get_or, codes, refl, sym, ap, subst, ◌∙◌, append_assoc, append-nil, ◌↔◌, arith}
use Rattle.std.specs.List.{All}
use Rattle.std.proofs.lemmas.List.{length-append}
use Rattle.std.proofs.lemmas.List.Elements.{All-nil, All-cons, All-append}
use Rattle.l2_cnf.specs.Lit.{IsLiteral}
use Rattle.l2_dimacs.specs.Tokens.{Token, token}
use Rattle.l2_dimacs.specs.Profile.{AreClauses, AreSpelt, IsBody, IsTail, Spells, flat}
use Rattle.l2_dimacs.specs.Reading.{IsRest}
use Rattle.l2_dimacs.proofs.Spelling.{one_item, percent_spells_none}
use Rattle.l2_dimacs.proofs.Clauses.{all_read, flat-append, flat_front}

-- the first token, where it isn't in the tail
spelt_first : (v : ℕ) (before : List ℤ) (count : ℕ) (t f : Token) (rest front tail : List Token) (clauses : List (List ℤ)) (numbers : List ℤ) → t ∷ rest ≡ f ∷ (front ++ tail) → flat clauses ≡ before ++ numbers → AreSpelt v numbers (f ∷ front) → IsTail tail → AreClauses clauses → length clauses ≡ count → (z : ℤ) × Spells v z t.word × IsRest v (before ++ z ∷ []) count rest clauses
spelt_first v before count t f rest front tail clauses [] parts whole spelt ends literals all = absurd spelt
spelt_first v before count t f rest front tail clauses (y ∷ numbers) parts whole spelt ends literals all =
    let same : t ≡ f = ap (λ l. get_or l 0 t) parts in (
      y,
      subst (λ (x : Token). Spells v y x.word) (sym same) spelt.0,
      record {
        numbers = numbers;
        front = front;
        tail = tail;
        parts = ap (drop 1) parts;
        whole = whole ∙ sym (append_assoc before (y ∷ []) numbers);
        spelt = spelt.1;
        ends = ends;
        literals = literals;
        all = all;
      },
    )

-- nothing but the tail is left
pub record IsDone (before : List ℤ) (count : ℕ) (ts : List Token) (clauses : List (List ℤ)) : Type 0 where
  pub ends : IsTail ts
  pub whole : flat clauses ≡ before ++ []
  pub literals : AreClauses clauses
  pub all : length clauses ≡ count

nothing_spelt : (v : ℕ) (numbers : List ℤ) → AreSpelt v numbers [] → numbers ≡ []
nothing_spelt v [] spelt = refl
nothing_spelt v (z ∷ numbers) spelt = absurd spelt

done : (v : ℕ) (before : List ℤ) (count : ℕ) (ts : List Token) (clauses : List (List ℤ)) (r : IsRest v before count ts clauses) → r.front ≡ [] → IsDone before count ts clauses
done v before count ts clauses r none = record {
  ends = subst IsTail (sym (r.parts ∙ ap (λ f. f ++ r.tail) none)) r.ends;
  whole = r.whole ∙ ap (λ ns. before ++ ns) (nothing_spelt v r.numbers (subst (AreSpelt v r.numbers) none r.spelt));
  literals = r.literals;
  all = r.all;
}

-- either the tail begins here, or a token spells the next number
abbrev pub FirstOf : ℕ → List ℤ → ℕ → Token → List Token → List (List ℤ) → Type 0
FirstOf v before count t rest clauses = IsDone before count (t ∷ rest) clauses ⊎ ((z : ℤ) × Spells v z t.word × IsRest v (before ++ z ∷ []) count rest clauses)

pub first_of : (v : ℕ) (before : List ℤ) (count : ℕ) (t : Token) (rest : List Token) (clauses : List (List ℤ)) → IsRest v before count (t ∷ rest) clauses → FirstOf v before count t rest clauses
first_of v before count t rest clauses r = go r.front refl
  where
    go : (front : List Token) → r.front ≡ front → FirstOf v before count t rest clauses
    go [] none = inl (done v before count (t ∷ rest) clauses r none)
    go (f ∷ front) is = inr (spelt_first v before count t f rest front r.tail clauses r.numbers (r.parts ∙ ap (λ fs. fs ++ r.tail) is) r.whole (subst (AreSpelt v r.numbers) is r.spelt) r.ends r.literals r.all)

pub last_of : (v : ℕ) (before : List ℤ) (count : ℕ) (clauses : List (List ℤ)) → IsRest v before count [] clauses → IsDone before count [] clauses
last_of v before count clauses r = go r.front refl
  where
    go : (front : List Token) → r.front ≡ front → IsDone before count [] clauses
    go [] none = done v before count [] clauses r none
    go (f ∷ front) is = let clash : [] ≡ f ∷ (front ++ r.tail) = r.parts ∙ ap (λ fs. fs ++ r.tail) is in cc

-- a token that spells a number
pub next_goes : (v count : ℕ) (z : ℤ) (before : List ℤ) (t : Token) → Spells v z t.word → (rest : List Token) (clauses : List (List ℤ)) → IsRest v before count (t ∷ rest) clauses ↔ IsRest v (before ++ z ∷ []) count rest clauses
next_goes v count z before t spells rest clauses = (forth, back)
  where
    forth : IsRest v before count (t ∷ rest) clauses → IsRest v (before ++ z ∷ []) count rest clauses
    forth r = go (first_of v before count t rest clauses r)
      where
        go : FirstOf v before count t rest clauses → IsRest v (before ++ z ∷ []) count rest clauses
        go (inl d) = absurd (percent_spells_none v z t.word d.ends spells)
        go (inr (y, other, more)) = subst (λ x. IsRest v (before ++ x ∷ []) count rest clauses) (one_item v y z t.word other spells) more

    back : IsRest v (before ++ z ∷ []) count rest clauses → IsRest v before count (t ∷ rest) clauses
    back r = record {
      numbers = z ∷ r.numbers;
      front = t ∷ r.front;
      tail = r.tail;
      parts = ap (λ l. t ∷ l) r.parts;
      whole = r.whole ∙ append_assoc before (z ∷ []) r.numbers;
      spelt = (spells, r.spelt);
      ends = r.ends;
      literals = r.literals;
      all = r.all;
    }

-- so many clauses were read
pub none_to_come : (v m count : ℕ) (ds : List (List ℤ)) (part : List ℤ) (ts : List Token) (clauses : List (List ℤ)) → AreClauses ds → All IsLiteral part → count ≡ length ds + m → IsDone (flat ds ++ part) count ts clauses → m ≡ 0
none_to_come v m count ds part ts clauses second literals is d = omega (arith, is, d.all, all_read clauses ds part d.literals second literals d.whole)

-- a token that spells no number, where clauses are to come
pub item_stops : (v m : ℕ) (ds : List (List ℤ)) (part : List ℤ) (t : Token) → AreClauses ds → All IsLiteral part → 1 ≤ m → ((z : ℤ) → ¬ Spells v z t.word) → (rest : List Token) (clauses : List (List ℤ)) → ¬ IsRest v (flat ds ++ part) (length ds + m) (t ∷ rest) clauses
item_stops v m ds part t second literals some none rest clauses r = go (first_of v (flat ds ++ part) (length ds + m) t rest clauses r)
  where
    go : FirstOf v (flat ds ++ part) (length ds + m) t rest clauses → ⊥
    go (inl d) = omega (arith, some, none_to_come v m (length ds + m) ds part (t ∷ rest) clauses second literals refl d)
    go (inr (z, spells, more)) = none z spells

-- ---- where no clause is to come

-- the clauses that were read are all
pub all_are : (count : ℕ) (ds : List (List ℤ)) (part : List ℤ) (ts : List Token) (clauses : List (List ℤ)) → AreClauses ds → part ≡ [] → count ≡ length ds + 0 → IsDone (flat ds ++ part) count ts clauses → clauses ≡ ds
all_are count ds part ts clauses second none is d =
    (flat_front clauses ds [] d.literals second (d.whole ∙ append-nil (flat ds ++ part) ∙ ap (λ p. flat ds ++ p) none) (omega (arith, d.all, is))).0

-- and no number is
pub no_more : (v count : ℕ) (z : ℤ) (ds : List (List ℤ)) (part : List ℤ) (ts : List Token) (clauses : List (List ℤ)) → AreClauses ds → part ≡ [] → count ≡ length ds + 0 → ¬ IsRest v ((flat ds ++ part) ++ z ∷ []) count ts clauses
no_more v count z ds part ts clauses second none is r =
    let whole : flat clauses ≡ flat ds ++ (z ∷ r.numbers) =
    r.whole ∙ append_assoc (flat ds ++ part) (z ∷ []) r.numbers ∙ ap (λ p. (flat ds ++ p) ++ (z ∷ r.numbers)) none ∙ ap (λ l. l ++ (z ∷ r.numbers)) (append-nil (flat ds)) in
    let clash : z ∷ r.numbers ≡ [] = (flat_front clauses ds (z ∷ r.numbers) r.literals second whole (omega (arith, r.all, is))).1 in
    cc

pub is_done : (v count : ℕ) (ds : List (List ℤ)) (part : List ℤ) (ts : List Token) → AreClauses ds → part ≡ [] → count ≡ length ds + 0 → IsTail ts → IsRest v (flat ds ++ part) count ts ds
is_done v count ds part ts second none is ends = record {
  numbers = [];
  front = [];
  tail = ts;
  parts = refl;
  whole = sym (append-nil (flat ds ++ part) ∙ ap (λ p. flat ds ++ p) none ∙ append-nil (flat ds));
  spelt = tt;
  ends = ends;
  literals = second;
  all = omega (arith, is);
}

-- behind the last clause: `%`, or anything else
pub percent_goes : (v count : ℕ) (ds : List (List ℤ)) (part : List ℤ) (t : Token) → AreClauses ds → part ≡ [] → count ≡ length ds + 0 → t.word ≡ codes "%" → (rest : List Token) (clauses : List (List ℤ)) → IsRest v (flat ds ++ part) count (t ∷ rest) clauses ↔ (clauses ≡ ds)
percent_goes v count ds part t second none is percent rest clauses = (forth, λ same. subst (IsRest v (flat ds ++ part) count (t ∷ rest)) (sym same) (is_done v count ds part (t ∷ rest) second none is percent))
  where
    forth : IsRest v (flat ds ++ part) count (t ∷ rest) clauses → clauses ≡ ds
    forth r = go (first_of v (flat ds ++ part) count t rest clauses r)
      where
        go : FirstOf v (flat ds ++ part) count t rest clauses → clauses ≡ ds
        go (inl d) = all_are count ds part (t ∷ rest) clauses second none is d
        go (inr (z, spells, more)) = absurd (percent_spells_none v z t.word percent spells)

pub percent_stops : (v count : ℕ) (ds : List (List ℤ)) (part : List ℤ) (t : Token) → AreClauses ds → part ≡ [] → count ≡ length ds + 0 → t.word ≢ codes "%" → (rest : List Token) (clauses : List (List ℤ)) → ¬ IsRest v (flat ds ++ part) count (t ∷ rest) clauses
percent_stops v count ds part t second none is other rest clauses r = go (first_of v (flat ds ++ part) count t rest clauses r)
  where
    go : FirstOf v (flat ds ++ part) count t rest clauses → ⊥
    go (inl d) = other d.ends
    go (inr (z, spells, more)) = no_more v count z ds part rest clauses second none is more

pub whole_is : (v count : ℕ) (ds : List (List ℤ)) (part : List ℤ) (clauses : List (List ℤ)) → AreClauses ds → part ≡ [] → count ≡ length ds + 0 → IsRest v (flat ds ++ part) count [] clauses ↔ (clauses ≡ ds)
whole_is v count ds part clauses second none is = (
  λ r. all_are count ds part [] clauses second none is (last_of v (flat ds ++ part) count clauses r),
  λ same. subst (IsRest v (flat ds ++ part) count []) (sym same) (is_done v count ds part [] second none is tt),
)

pub early : (v m : ℕ) (ds : List (List ℤ)) (part : List ℤ) (clauses : List (List ℤ)) → AreClauses ds → All IsLiteral part → m ≢ 0 → ¬ IsRest v (flat ds ++ part) (length ds + m) [] clauses
early v m ds part clauses second literals some r = some (none_to_come v m (length ds + m) ds part [] clauses second literals refl (last_of v (flat ds ++ part) (length ds + m) clauses r))

-- ---- from the head

pub body_is : (v count : ℕ) (ts : List Token) (clauses : List (List ℤ)) → IsBody v count ts clauses ↔ IsRest v [] count ts clauses
body_is v count ts clauses = (
  λ b. record { numbers = flat clauses; front = b.front; tail = b.tail; parts = b.parts; whole = refl; spelt = b.spelt; ends = b.ends; literals = b.literals; all = b.all },
  λ r. record { front = r.front; tail = r.tail; parts = r.parts; spelt = subst (λ ns. AreSpelt v ns r.front) (sym r.whole) r.spelt; ends = r.ends; literals = r.literals; all = r.all },
)

-- ---- a clause that is read can be ended

abbrev ends_of : ℕ → List Token
ends_of zero = []
ends_of (suc k) = token 1 (codes "0") ∷ ends_of k

abbrev zeros : ℕ → List ℤ
zeros zero = []
zeros (suc k) = pos 0 ∷ zeros k

abbrev empties : ℕ → List (List ℤ)
empties zero = []
empties (suc k) = [] ∷ empties k

zeros_spelt : (v k : ℕ) → AreSpelt v (zeros k) (ends_of k)
zeros_spelt v zero = tt
zeros_spelt v (suc k) = (refl, zeros_spelt v k)

empties_flat : (k : ℕ) → flat (empties k) ≡ zeros k
empties_flat zero = refl
empties_flat (suc k) = ap (λ l. pos 0 ∷ l) (empties_flat k)

empties_are : (k : ℕ) → AreClauses (empties k)
empties_are zero = All-nil (All IsLiteral)
empties_are (suc k) = All-cons (All IsLiteral) [] (empties k) (All-nil IsLiteral) (empties_are k)

empties_count : (k : ℕ) → length (empties k) ≡ k
empties_count zero = refl
empties_count (suc k) = let rest = empties_count k in omega (arith, rest)

pub can_end : (v m : ℕ) (ds : List (List ℤ)) (part : List ℤ) → AreClauses ds → All IsLiteral part → (m ≡ 0 → part ≡ []) → (ts : List Token) × (clauses : List (List ℤ)) × IsRest v (flat ds ++ part) (length ds + m) ts clauses
can_end v zero ds part second literals none = ([], ds, is_done v (length ds + 0) ds part [] second (none refl) refl tt)
can_end v (suc k) ds part second literals none = (
  ends_of (suc k),
  ds ++ part ∷ empties k,
  record {
    numbers = zeros (suc k);
    front = ends_of (suc k);
    tail = [];
    parts = sym (append-nil (ends_of (suc k)));
    whole = flat-append ds (part ∷ empties k) ∙ ap (λ l. flat ds ++ (part ++ pos 0 ∷ l)) (empties_flat k) ∙ sym (append_assoc (flat ds) part (zeros (suc k)));
    spelt = zeros_spelt v (suc k);
    ends = tt;
    literals = All-append (All IsLiteral) ds (part ∷ empties k) second (All-cons (All IsLiteral) part (empties k) literals (empties_are k));
    all = let rest = empties_count k in omega (arith, length-append ds (part ∷ empties k), rest);
  },
)
