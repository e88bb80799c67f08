-- Runs on lists of choices and by supplies agree where their parts do.
use Rattle.std.proofs.Common.{◌≡◌, refl, sym, ap, subst, ◌∙◌, ℕ, ℤ, List, [], ◌∷◌, ◌++◌, append_assoc}
use Rattle.l2_runs.specs.Store.{Store}
use Rattle.l2_runs.specs.Runs.{State, Result, Go, Halt, Run, on_go, and_then, done, take_choice, choose}
use Rattle.l2_supply.specs.Going.{seen}
use Rattle.l2_supply.specs.Supply.{Supply, nil, one, two, number_of, left, right, Place, place_of, at, Come, Goes, Ends, Supplied, on_goes, then_with, come_of, without, with_choice, result_of, Chosen, IsSupplied, Agrees}

-- ---- one after another

module _ {A B : Type 0} (r : Run A) (q : Supplied A) (f : A → Run B) (h : A → Supplied B) (same : Agrees r q) (next : (a : A) → Agrees (f a) (h a)) where
  chosen_then : (p : Place) (c : Come A) (u : Supply) → Chosen r p c → Chosen (and_then r f) p (on_goes c (λ a. h a u))
  chosen_then p (Goes a p') u c =
      let d = (next a).by_supply p' u in
      record {
        choices = c.choices ++ d.choices;
        comes = λ rest t. ap (λ cs. on_go (r (at p cs t)) f) (append_assoc c.choices d.choices rest) ∙ ap (λ x. on_go x f) (c.comes (d.choices ++ rest) t) ∙ d.comes rest t;
      }
  chosen_then p (Ends e p') u c = record { choices = c.choices; comes = λ rest t. ap (λ x. on_go x f) (c.comes rest t) }

  supplied_at : (p : Place) (a : A) (x : Result B) (p' : Place) (u : Supply) → q u p ≡ Goes a p' → IsSupplied (λ w. h a w p') x → IsSupplied (λ w. then_with q h w p) x
  supplied_at p a (Go b s) p' u e i = (two u i.0, ap (λ c. on_goes c (λ a. h a i.0)) e ∙ i.1)
  supplied_at p a (Halt end s) p' u e i = λ k. let j = i k in (two u j.0, ap (λ c. on_goes c (λ a. h a j.0)) e ∙ j.1)

  supplied_then : (p : Place) (x : Result A) → IsSupplied (λ u. q u p) x → IsSupplied (λ u. then_with q h u p) (on_go x f)
  supplied_then p (Go a s) i = supplied_at p a (f a s) (place_of s) i.0 i.1 ((next a).by_choices s)
  supplied_then p (Halt e s) i = λ k. let j = i k in (two j.0 nil, ap (λ c. on_goes c (λ a. h a nil)) j.1)

  pub then_agrees : Agrees (and_then r f) (then_with q h)
  then_agrees = record {
    by_supply = λ p u. chosen_then p (q (left u) p) (right u) (same.by_supply p (left u));
    by_choices = λ s. supplied_then (place_of s) (r s) (same.by_choices s);
  }

pub choice_agrees : Agrees choose with_choice
choice_agrees = record { by_supply = λ p u. record { choices = number_of u ∷ []; comes = λ rest t. refl }; by_choices = λ s. at_choices s.choices s }
  where
    at_choices : (cs : List ℤ) (s : State) → IsSupplied (λ u. with_choice u (place_of s)) (take_choice cs s)
    at_choices [] s = λ k. absurd k
    at_choices (c ∷ cs) s = (one c, refl)

-- ---- runs that take no choice

-- the run does the same whatever choices and turns there are, and leaves them
pub record TakesNone {A : Type 0} (r : Run A) : Type 0 where
  pub same : (p : Place) (cs : List ℤ) (turns : ℕ) → r (at p cs turns) ≡ result_of (come_of (r (at p [] 0))) cs turns

result_supplied : {A : Type 0} (c : Come A) (cs : List ℤ) (turns : ℕ) (f : Supply → Come A) → ((u : Supply) → f u ≡ c) → IsSupplied f (result_of c cs turns)
result_supplied (Goes a p) cs turns f e = (nil, e nil)
result_supplied (Ends end p) cs turns f e = λ k. (nil, e nil)

pub without_agrees : {A : Type 0} (r : Run A) → TakesNone r → Agrees r (without r)
without_agrees r h = record {
  by_supply = λ p u. record { choices = []; comes = λ rest t. h.same p rest t };
  by_choices = λ s. subst (IsSupplied (λ u. without r u (place_of s))) (sym (h.same (place_of s) s.choices s.turns)) (result_supplied (come_of (r (at (place_of s) [] 0))) s.choices s.turns (λ u. without r u (place_of s)) (λ u. refl));
}

-- what a run gives, seen otherwise
pub seen_agrees : {A B : Type 0} (f : A → B) (r : Run A) (q : Supplied A) → Agrees r q → Agrees (and_then r (λ a. done (f a))) (seen f q)
seen_agrees f r q h = record { by_supply = λ p u. chosen (q u p) (h.by_supply p u); by_choices = λ s. supplied (place_of s) (r s) (h.by_choices s) }
  where
    chosen : {p : Place} (c : Come _) → Chosen r p c → Chosen (and_then r (λ a. done (f a))) p (on_goes c (λ a. without (done (f a)) nil))
    chosen (Goes a p') c = record { choices = c.choices; comes = λ rest t. ap (λ x. on_go x (λ a. done (f a))) (c.comes rest t) }
    chosen (Ends e p') c = record { choices = c.choices; comes = λ rest t. ap (λ x. on_go x (λ a. done (f a))) (c.comes rest t) }

    supplied : (p : Place) (x : Result _) → IsSupplied (λ u. q u p) x → IsSupplied (λ u. seen f q u p) (on_go x (λ a. done (f a)))
    supplied p (Go a s) i = (i.0, ap (λ c. on_goes c (λ a. without (done (f a)) nil)) i.1)
    supplied p (Halt e s) i = λ k. let j = i k in (j.0, ap (λ c. on_goes c (λ a. without (done (f a)) nil)) j.1)

pub run_agrees : {A : Type 0} (r x : Run A) (q : Supplied A) → ((s : State) → r s ≡ x s) → Agrees r q → Agrees x q
run_agrees r x q e h = subst (λ y. Agrees y q) (λ i s. e s i) h

-- what follows by a run that takes no choice, which looks at the store from before
found_at : {A : Type 0} (f : Supply → Come A) (u : Supply) (c : Come A) (cs : List ℤ) (turns : ℕ) → f u ≡ c → IsSupplied f (result_of c cs turns)
found_at f u (Goes a p) cs turns e = (u, e)
found_at f u (Ends end p) cs turns e = λ k. (u, e)

module _ {A B : Type 0} (r : Run A) (q : Supplied A) (f : Store → A → Run B) (none : (st : Store) (a : A) → TakesNone (f st a)) (same : Agrees r q) where
  abbrev pub after : Supplied B
  after u p = on_goes (q u p) (λ a. without (f p.store a) u)

  chosen_after : (p : Place) (u : Supply) (c : Come A) → Chosen r p c → Chosen (λ s. on_go (r s) (f s.store)) p (on_goes c (λ a. without (f p.store a) u))
  chosen_after p u (Goes a p') c = record { choices = c.choices; comes = λ rest t. ap (λ x. on_go x (f p.store)) (c.comes rest t) ∙ (none p.store a).same p' rest t }
  chosen_after p u (Ends e p') c = record { choices = c.choices; comes = λ rest t. ap (λ x. on_go x (f p.store)) (c.comes rest t) }

  supplied_after : (p : Place) (x : Result A) → IsSupplied (λ u. q u p) x → IsSupplied (λ u. after u p) (on_go x (f p.store))
  supplied_after p (Go a s) i =
      subst (IsSupplied (λ u. after u p)) (sym ((none p.store a).same (place_of s) s.choices s.turns))
      (found_at (λ u. after u p) i.0 (come_of (f p.store a (at (place_of s) [] 0))) s.choices s.turns (ap (λ c. on_goes c (λ a. without (f p.store a) i.0)) i.1))
  supplied_after p (Halt e s) i = λ k. let j = i k in (j.0, ap (λ c. on_goes c (λ a. without (f p.store a) j.0)) j.1)

  pub after_agrees : Agrees (λ s. on_go (r s) (f s.store)) after
  after_agrees = record { by_supply = λ p u. chosen_after p u (q u p) (same.by_supply p u); by_choices = λ s. supplied_after (place_of s) (r s) (same.by_choices s) }
