-- What words ask for is within its range.
use Rattle.std.proofs.Common.{◌≡◌, ℕ, ◌≤◌, Bool, true, false, ◌&&◌, nat_le, if◌then◌else◌, List, [], ◌∷◌, Option, Some, None, IfSome, codes, refl, arith, subst}
use Rattle.std.specs.Prelude.{⊤, option_map, option_and_then}
use Rattle.std.proofs.lemmas.Bool.Decides.{nat_tests}
use Rattle.std.specs.Str.{bytes_eq}
use Rattle.clap.specs.Words.{Text, Row, Kinds, first_of, subcommand_of}
use Rattle.l2_words.specs.Line.{twols_app, faults}
use Rattle.l2_words.specs.Numbers.{within, number, number_between}
use Rattle.l2_kiki.specs.declared.decision.Mode.{Mode}
use Rattle.l2_kiki.specs.declared.decision.Mode.TheVariants.{Safety, Termination}
use Rattle.l2_words.specs.Requests as words
use Rattle.l2_request.specs.Requests.{Request, plainly, built, command, IsWithin}

abbrev IsUnwind : ℕ → Type 0
IsUnwind n = (1 ≤ n) × (n ≤ 64)

-- what is made of something that is there
and_then_so : {A B : Type 0} (Q : A → Type 0) (P : B → Type 0) (f : A → Option B) (o : Option A) → IfSome o Q → ((x : A) → Q x → IfSome (f x) P) → IfSome (option_and_then f o) P
and_then_so Q P f None q h = tt
and_then_so Q P f (Some x) q h = h x q

mapped_so : {A B : Type 0} (Q : A → Type 0) (P : B → Type 0) (f : A → B) (o : Option A) → IfSome o Q → ((x : A) → Q x → P (f x)) → IfSome (option_map f o) P
mapped_so Q P f None q h = tt
mapped_so Q P f (Some x) q h = h x q

any : {A : Type 0} (o : Option A) → IfSome o (λ x. ⊤)
any None = tt
any (Some x) = tt

number_where : (n : ℕ) (b : Bool) → (b ≡ true → IsUnwind n) → IfSome (if b then Some n else None) IsUnwind
number_where n true h = h refl
number_where n false h = tt

both_true : (a b : Bool) → (a && b) ≡ true → (a ≡ true) × (b ≡ true)
both_true true b e = (refl, e)
both_true false b e = absurd (let f : false ≡ true = e in cc)

le_of : (a b : ℕ) → nat_le a b ≡ true → a ≤ b
le_of a b e = grind (arith, nat_tests)

number_so : (o : Option ℕ) → IfSome (within 1 64 o) IsUnwind
number_so None = tt
number_so (Some n) = number_where n (nat_le 1 n && nat_le n 64) (λ e. let both = both_true (nat_le 1 n) (nat_le n 64) e in (le_of 1 n both.0, le_of n 64 both.1))

-- requests of words whose number of copies is within its range
abbrev IsDecided : words.Request → Type 0
IsDecided (words.Verify d) = IsUnwind d.unwind
IsDecided (words.Termination d) = IsUnwind d.unwind
IsDecided (words.Check file certificate jobs) = ⊤
IsDecided (words.Replay file values overflow) = ⊤
IsDecided (words.Show view file overflow) = ⊤
IsDecided (words.Generate seed loops) = ⊤

module _ (rows : List Row) where
  abbrev value : Text → Option Text
  value id = first_of id rows

  unwind_so : (o : Option Text) → IfSome (option_and_then (number_between 1 64) o) IsUnwind
  unwind_so o = and_then_so (λ text. ⊤) IsUnwind (number_between 1 64) o (any o) (λ text u. number_so (number text))

  deciding_so : IfSome (words.deciding_in rows) (λ d. IsUnwind d.unwind)
  deciding_so = and_then_so (λ x. ⊤) (λ d. IsUnwind d.unwind) _ (value (codes "file")) (any _)
      (λ file u. and_then_so IsUnwind (λ d. IsUnwind d.unwind) _ (option_and_then (number_between 1 64) (value (codes "unwind"))) (unwind_so (value (codes "unwind")))
      (λ unwind is. mapped_so (λ x. ⊤) (λ d. IsUnwind d.unwind) _ (option_and_then words.domain_of (value (codes "domain"))) (any _) (λ domain u. is)))

  check_so : IfSome (words.check_in rows) IsDecided
  check_so = and_then_so (λ x. ⊤) IsDecided _ (value (codes "file")) (any _)
      (λ file u. and_then_so (λ x. ⊤) IsDecided _ (value (codes "second")) (any _)
      (λ second u. mapped_so (λ x. ⊤) IsDecided _ (option_and_then (number_between 1 64) (value (codes "jobs"))) (any _) (λ jobs u. tt)))

  replay_so : IfSome (words.replay_in rows) IsDecided
  replay_so = and_then_so (λ x. ⊤) IsDecided _ (value (codes "file")) (any _) (λ file u. mapped_so (λ x. ⊤) IsDecided _ (value (codes "second")) (any _) (λ second u. tt))

  show_so : IfSome (words.show_in rows) IsDecided
  show_so = and_then_so (λ x. ⊤) IsDecided _ (option_and_then words.view_of (value (codes "what"))) (any _)
      (λ view u. mapped_so (λ x. ⊤) IsDecided _ (value (codes "file")) (any _) (λ file u. tt))

  generate_so : IfSome (words.generate_in rows) IsDecided
  generate_so = and_then_so (λ x. ⊤) IsDecided _ (option_and_then (number_between 0 4294967295) (value (codes "n"))) (any _)
      (λ seed u. mapped_so (λ x. ⊤) IsDecided _ (option_and_then (number_between 1 64) (value (codes "loops"))) (any _) (λ loops u. tt))

  -- one of the commands, by whether each name is the one that is given
  by_name : (a b c d e f : Bool) → IfSome (
      if a then option_map words.Verify (words.deciding_in rows)
      else if b then option_map words.Termination (words.deciding_in rows)
      else if c then words.check_in rows
      else if d then words.replay_in rows
      else if e then words.show_in rows
      else if f then words.generate_in rows
      else None) IsDecided
  by_name true b c d e f = mapped_so (λ d. IsUnwind d.unwind) IsDecided words.Verify (words.deciding_in rows) deciding_so (λ d is. is)
  by_name false true c d e f = mapped_so (λ d. IsUnwind d.unwind) IsDecided words.Termination (words.deciding_in rows) deciding_so (λ d is. is)
  by_name false false true d e f = check_so
  by_name false false false true e f = replay_so
  by_name false false false false true f = show_so
  by_name false false false false false true = generate_so
  by_name false false false false false false = tt

  request_so : (name : Text) → IfSome (words.request_in name rows) IsDecided
  request_so name = by_name (bytes_eq name (codes "verify")) (bytes_eq name (codes "termination")) (bytes_eq name (codes "check")) (bytes_eq name (codes "replay"))
      (bytes_eq name (codes "show")) (bytes_eq name (codes "generate"))

entered_so : (kinds : Kinds) (entered : Option (Text × List Row)) → IfSome (words.request_where kinds entered) IsDecided
entered_so [] entered = and_then_so (λ e. ⊤) IsDecided (λ e. words.request_in e.0 e.1) entered (any entered) (λ e u. request_so e.1 e.0)
entered_so (fault ∷ more) entered = tt

plainly_so : (mode : Mode) (d : words.Deciding) → IsUnwind d.unwind → (overflow : Bool) → IfSome (plainly mode overflow d) IsWithin
plainly_so mode d is false = is
plainly_so mode d is true = tt

built_so : (r : words.Request) → IsDecided r → IfSome (built r) IsWithin
built_so (words.Verify d) is = plainly_so Safety d is d.overflow
built_so (words.Termination d) is = plainly_so Termination d is d.overflow
built_so (words.Check file certificate jobs) is = tt
built_so (words.Replay file values false) is = tt
built_so (words.Replay file values true) is = tt
built_so (words.Show view file false) is = tt
built_so (words.Show view file true) is = tt
built_so (words.Generate seed loops) is = tt

commanded : (line : List (List ℕ)) → IfSome (command line) IsWithin
commanded line = and_then_so IsDecided IsWithin built (words.command line) (entered_so (faults line) (subcommand_of twols_app line)) built_so

-- what words ask for has so many copies
pub within_range : (line : List (List ℕ)) (r : Request) → command line ≡ Some r → IsWithin r
within_range line r e = subst (λ o. IfSome o IsWithin) e (commanded line)
