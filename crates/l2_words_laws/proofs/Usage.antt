-- Words ask for nothing exactly where they are refused.
use Rattle.std.proofs.Common.{◌≡◌, inl, inr, true, List, [], ◌∷◌, Option, None, refl, codes, ap, ◌∙◌, sym, subst}
use Rattle.std.specs.Prelude.{option_map}
use Rattle.clap.specs.Words.{Text, Row, Kinds, subcommand_of, built}
use Rattle.clap.proofs.OnLiterals.{clap_on_literals}
use Rattle.l2_words.specs.Line.{twols_app, faults}
use Rattle.l2_words.specs.Requests.{Verify, Termination, request_in, request_entered, request_where, command, deciding_in}
use Rattle.l2_words_laws.specs.Usage.{HasBadValue, unwind, domain, jobs, what, seed, loops, IsRefused, faulty, out_of_form, UsageLaw}
use Rattle.l2_words_laws.proofs.Entered.{EachShape, Is, Enters, entered_so}
use Rattle.l2_words_laws.proofs.Values.{mapped, deciding_bad, check_bad, replay_bad, show_bad, generate_bad, no_unwind, no_domain, no_jobs, no_what, no_seed, no_loops}

-- where no request is read of a command's rows, a value is out of form
abbrev Reads : Text → List Row → Type 0
Reads name rows = request_in name rows ≡ None → HasBadValue name rows

required_law : (built twols_app).top.subcommand_required ≡ true
unfolding clap_on_literals
required_law = refl

each_law : EachShape (Is Reads) (built twols_app).subs
unfolding clap_on_literals
each_law = (
  record {
    tests = refl;
    so = λ rows h none. deciding_bad (codes "verify") rows (inl refl) (h.0 refl) (h.2.1 refl) (h.2.2.1 refl) (mapped Verify (deciding_in rows) none);
  },
  (
    record {
      tests = refl;
      so = λ rows h none. deciding_bad (codes "termination") rows (inr refl) (h.0 refl) (h.2.1 refl) (h.2.2.1 refl) (mapped Termination (deciding_in rows) none);
    },
    (
      record {
        tests = refl;
        so = λ rows h none. check_bad (codes "check") rows refl (h.0 refl) (h.2.0 refl) (h.2.2.1 refl) none;
      },
      (
        record {
          tests = refl;
          so = λ rows h none. replay_bad (codes "replay") rows (h.0 refl) (h.2.0 refl) none;
        },
        (
          record {
            tests = refl;
            so = λ rows h none. show_bad (codes "show") rows refl (h.0 refl) (h.2.0 refl) none;
          },
          (
            record {
              tests = refl;
              so = λ rows h none. generate_bad (codes "generate") rows refl (h.0 refl) (h.2.1 refl) none;
            },
            tt,
          ),
        ),
      ),
    ),
  ),
)

refused_so : (words : List Text) (k : Kinds) → faults words ≡ k → request_where k (subcommand_of twols_app words) ≡ None → IsRefused words
refused_so words [] e none =
    let enters : Enters Reads (subcommand_of twols_app words) = entered_so Reads (built twols_app) required_law each_law words e in
    out_of_form enters.name enters.rows enters.is_it (enters.so (sym (ap request_entered enters.is_it) ∙ none))
refused_so words (f ∷ fs) e none = faulty (λ faultless. let g : f ∷ fs ≡ [] = sym e ∙ faultless in cc)

moved : (name other : Text) (rows : List Row) → name ≡ other → request_in other rows ≡ None → request_in name rows ≡ None
moved name other rows e none = subst (λ n. request_in n rows ≡ None) (sym e) none

bad_so : (name : Text) (rows : List Row) → HasBadValue name rows → request_in name rows ≡ None
bad_so name rows (unwind (inl e) bad) = moved name (codes "verify") rows e (ap (option_map Verify) (no_unwind rows bad))
bad_so name rows (unwind (inr e) bad) = moved name (codes "termination") rows e (ap (option_map Termination) (no_unwind rows bad))
bad_so name rows (domain (inl e) bad) = moved name (codes "verify") rows e (ap (option_map Verify) (no_domain rows bad))
bad_so name rows (domain (inr e) bad) = moved name (codes "termination") rows e (ap (option_map Termination) (no_domain rows bad))
bad_so name rows (jobs e bad) = moved name (codes "check") rows e (no_jobs rows bad)
bad_so name rows (what e bad) = moved name (codes "show") rows e (no_what rows bad)
bad_so name rows (seed e bad) = moved name (codes "generate") rows e (no_seed rows bad)
bad_so name rows (loops e bad) = moved name (codes "generate") rows e (no_loops rows bad)

none_where : (k : Kinds) (entered : Option (Text × List Row)) → request_entered entered ≡ None → request_where k entered ≡ None
none_where [] entered e = e
none_where (f ∷ fs) entered e = refl

asks_nothing : (words : List Text) → IsRefused words → command words ≡ None
asks_nothing words (faulty some) = go (faults words) refl where
  go : (k : Kinds) → faults words ≡ k → request_where k (subcommand_of twols_app words) ≡ None
  go [] e = absurd (some e)
  go (f ∷ fs) e = refl
asks_nothing words (out_of_form name rows is bad) = none_where (faults words) (subcommand_of twols_app words) (ap request_entered is ∙ bad_so name rows bad)

pub usage : UsageLaw
usage words = (refused_so words (faults words) refl, asks_nothing words)
