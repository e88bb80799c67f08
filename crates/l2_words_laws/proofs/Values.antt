-- Commands whose arguments have values: where no request is read of these, one is out of form.
use Rattle.std.proofs.Common.{◌≡◌, ◌⊎◌, inl, inr, true, false, List, Option, Some, None, refl, codes, ap, ◌∙◌}
use Rattle.std.specs.Prelude.{is_some, option_map, option_and_then}
use Rattle.clap.specs.Walk.{Text, Row, first_of}
use Rattle.l2_words.specs.Numbers.{number_between}
use Rattle.l2_words.specs.Requests.{view_of, domain_of, deciding_in, check_in, replay_in, show_in, generate_in}
use Rattle.l2_words_laws.specs.Usage.{IsBad, Decides, HasBadValue, unwind, domain, jobs, what, seed, loops}

abbrev pub HasValue : Text → List Row → Type 0
HasValue id rows = is_some (first_of id rows) ≡ true

-- a value is there, as which it isn't read
abbrev IsBadOption : {A : Type 0} → (Text → Option A) → Option Text → Type 0
IsBadOption read o = (value : Text) × (o ≡ Some value) × (read value ≡ None)

pub mapped : {A B : Type 0} (f : A → B) (o : Option A) → option_map f o ≡ None → o ≡ None
mapped f None e = refl
mapped f (Some x) e = absurd (let g : Some (f x) ≡ None = e in cc)

-- what is made of a value that is there
there : {B : Type 0} (f : Text → Option B) (o : Option Text) → is_some o ≡ true → option_and_then f o ≡ None → (value : Text) × (f value ≡ None)
there f None some e = absurd (let g : false ≡ true = some in cc)
there f (Some value) some e = (value, e)

-- a value that is there is some
never : {B : Type 0} (f : Text → B) (o : Option Text) → is_some o ≡ true → option_map f o ≡ None → ⊥
never f None some e = let g : false ≡ true = some in cc
never f (Some value) some e = let g : Some (f value) ≡ None = e in cc

-- a value that is there is read, or is out of form
mapped_read : {A B : Type 0} (f : A → B) (read : Text → Option A) (o : Option Text) → is_some o ≡ true → option_map f (option_and_then read o) ≡ None → IsBadOption read o
mapped_read f read None some e = absurd (let g : false ≡ true = some in cc)
mapped_read f read (Some value) some e = (value, refl, mapped f (read value) e)

-- it is out of form, or what is made of it is none
read_then : {A B : Type 0} (f : A → Option B) (read : Text → Option A) (o : Option Text) → is_some o ≡ true → option_and_then f (option_and_then read o) ≡ None →
    IsBadOption read o ⊎ ((x : A) × (f x ≡ None))
read_then f read None some e = absurd (let g : false ≡ true = some in cc)
read_then {A = A} f read (Some value) some e = go (read value) refl e where
  go : (r : Option A) → read value ≡ r → option_and_then f r ≡ None → IsBadOption read (Some value) ⊎ ((x : A) × (f x ≡ None))
  go None is e = inl (value, refl, is)
  go (Some x) is e = inr (x, e)

either : {A D B : Type 0} (make : A → D → B) (read : Text → Option A) (also : Text → Option D) (o p : Option Text) → is_some o ≡ true → is_some p ≡ true →
    option_and_then (λ x. option_map (make x) (option_and_then also p)) (option_and_then read o) ≡ None → IsBadOption read o ⊎ IsBadOption also p
either {A = A} make read also o p some other e = go (read_then (λ x. option_map (make x) (option_and_then also p)) read o some e) where
  go : (IsBadOption read o ⊎ ((x : A) × (option_map (make x) (option_and_then also p) ≡ None))) → IsBadOption read o ⊎ IsBadOption also p
  go (inl bad) = inl bad
  go (inr (x, e)) = inr (mapped_read (make x) also p other e)

unread_first : {A B : Type 0} (make : A → Text → B) (read : Text → Option A) (o p : Option Text) → is_some o ≡ true → is_some p ≡ true →
    option_and_then (λ x. option_map (make x) p) (option_and_then read o) ≡ None → IsBadOption read o
unread_first {A = A} make read o p some other e = go (read_then (λ x. option_map (make x) p) read o some e) where
  go : (IsBadOption read o ⊎ ((x : A) × (option_map (make x) p ≡ None))) → IsBadOption read o
  go (inl bad) = bad
  go (inr (x, e)) = absurd (never (make x) p other e)

module _ (name : Text) (rows : List Row) where
  pub deciding_bad : Decides name → HasValue (codes "file") rows → HasValue (codes "unwind") rows → HasValue (codes "domain") rows → deciding_in rows ≡ None → HasBadValue name rows
  deciding_bad decides file_there unwind_there domain_there e =
      let inner = there _ (first_of (codes "file") rows) file_there e in
      go (either _ (number_between 1 64) domain_of (first_of (codes "unwind") rows) (first_of (codes "domain") rows) unwind_there domain_there inner.1)
    where
      go : (IsBad (number_between 1 64) (codes "unwind") rows ⊎ IsBad domain_of (codes "domain") rows) → HasBadValue name rows
      go (inl bad) = unwind decides bad
      go (inr bad) = domain decides bad

  pub check_bad : name ≡ codes "check" → HasValue (codes "file") rows → HasValue (codes "second") rows → HasValue (codes "jobs") rows → check_in rows ≡ None → HasBadValue name rows
  check_bad is file_there second_there jobs_there e =
      let inner = there _ (first_of (codes "file") rows) file_there e in
      let innermost = there _ (first_of (codes "second") rows) second_there inner.1 in
      jobs is (mapped_read _ (number_between 1 64) (first_of (codes "jobs") rows) jobs_there innermost.1)

  pub replay_bad : HasValue (codes "file") rows → HasValue (codes "second") rows → replay_in rows ≡ None → HasBadValue name rows
  replay_bad file_there second_there e =
      let inner = there _ (first_of (codes "file") rows) file_there e in
      absurd (never _ (first_of (codes "second") rows) second_there inner.1)

  pub show_bad : name ≡ codes "show" → HasValue (codes "what") rows → HasValue (codes "file") rows → show_in rows ≡ None → HasBadValue name rows
  show_bad is what_there file_there e = what is (unread_first _ view_of (first_of (codes "what") rows) (first_of (codes "file") rows) what_there file_there e)

  pub generate_bad : name ≡ codes "generate" → HasValue (codes "n") rows → HasValue (codes "loops") rows → generate_in rows ≡ None → HasBadValue name rows
  generate_bad is seed_there loops_there e =
      go (either _ (number_between 0 4294967295) (number_between 1 64) (first_of (codes "n") rows) (first_of (codes "loops") rows) seed_there loops_there e)
    where
      go : (IsBad (number_between 0 4294967295) (codes "n") rows ⊎ IsBad (number_between 1 64) (codes "loops") rows) → HasBadValue name rows
      go (inl bad) = seed is bad
      go (inr bad) = loops is bad

-- ---- and a value that is out of form makes that no request is read

unread : {A : Type 0} (read : Text → Option A) (o : Option Text) → IsBadOption read o → option_and_then read o ≡ None
unread read o (value, is, none) = ap (option_and_then read) is ∙ none

either_none : {A D B : Type 0} (make : A → D → B) (o : Option A) (p : Option D) → ((o ≡ None) ⊎ (p ≡ None)) → option_and_then (λ x. option_map (make x) p) o ≡ None
either_none make None p h = refl
either_none make (Some x) p (inl e) = absurd (let g : Some x ≡ None = e in cc)
either_none make (Some x) p (inr e) = ap (option_map (make x)) e

whatever : {B : Type 0} (f : Text → Option B) (o : Option Text) → ((value : Text) → f value ≡ None) → option_and_then f o ≡ None
whatever f None h = refl
whatever f (Some value) h = h value

module _ (rows : List Row) where
  no_decider : ((option_and_then (number_between 1 64) (first_of (codes "unwind") rows) ≡ None) ⊎ (option_and_then domain_of (first_of (codes "domain") rows) ≡ None)) → deciding_in rows ≡ None
  no_decider h = whatever _ (first_of (codes "file") rows)
      (λ file. either_none _ (option_and_then (number_between 1 64) (first_of (codes "unwind") rows)) (option_and_then domain_of (first_of (codes "domain") rows)) h)

  pub no_unwind : IsBad (number_between 1 64) (codes "unwind") rows → deciding_in rows ≡ None
  no_unwind bad = no_decider (inl (unread (number_between 1 64) (first_of (codes "unwind") rows) bad))

  pub no_domain : IsBad domain_of (codes "domain") rows → deciding_in rows ≡ None
  no_domain bad = no_decider (inr (unread domain_of (first_of (codes "domain") rows) bad))

  pub no_jobs : IsBad (number_between 1 64) (codes "jobs") rows → check_in rows ≡ None
  no_jobs bad = whatever _ (first_of (codes "file") rows)
      (λ file. whatever _ (first_of (codes "second") rows) (λ second. ap (option_map _) (unread (number_between 1 64) (first_of (codes "jobs") rows) bad)))

  pub no_what : IsBad view_of (codes "what") rows → show_in rows ≡ None
  no_what bad = either_none _ (option_and_then view_of (first_of (codes "what") rows)) (first_of (codes "file") rows) (inl (unread view_of (first_of (codes "what") rows) bad))

  no_generate : ((option_and_then (number_between 0 4294967295) (first_of (codes "n") rows) ≡ None) ⊎ (option_and_then (number_between 1 64) (first_of (codes "loops") rows) ≡ None)) → generate_in rows ≡ None
  no_generate h = either_none _ (option_and_then (number_between 0 4294967295) (first_of (codes "n") rows)) (option_and_then (number_between 1 64) (first_of (codes "loops") rows)) h

  pub no_seed : IsBad (number_between 0 4294967295) (codes "n") rows → generate_in rows ≡ None
  no_seed bad = no_generate (inl (unread (number_between 0 4294967295) (first_of (codes "n") rows) bad))

  pub no_loops : IsBad (number_between 1 64) (codes "loops") rows → generate_in rows ≡ None
  no_loops bad = no_generate (inr (unread (number_between 1 64) (first_of (codes "loops") rows) bad))
