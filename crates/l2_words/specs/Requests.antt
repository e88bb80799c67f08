-- What words ask for.
use Rattle.std.specs.Prelude.{ℕ, Bool, false, if◌then◌else◌, List, [], ◌∷◌, Option, Some, None, option_map, option_and_then, codes}
use Rattle.std.specs.Str.{bytes_eq}
use Rattle.std.specs.Borrow.{Bor}
use Rattle.clap.specs.Words.{Text, Row, Kinds, first_of, subcommand_of}
use Rattle.l2_words.specs.declared.request.View.{View}
use Rattle.l2_words.specs.declared.request.View.TheVariants.{Goto, Loops}
use Rattle.l2_words.specs.declared.request.DomainName.{DomainName}
use Rattle.l2_words.specs.declared.request.DomainName.TheVariants.{NoRows, Equalities, Intervals, Zones, Octagons}
use Rattle.l2_words.specs.declared.request.Deciding as rust_deciding
use Rattle.l2_words.specs.declared.request.Request as rust
use Rattle.l2_words.specs.declared.request.Request.TheVariants as variant
use Rattle.l2_words.specs.Numbers.{number_between}
use Rattle.l2_words.specs.Line.{twols_app, faults}

-- how a text is decided
pub record Deciding : Type 0 where
  pub file : Text
  pub unwind : ℕ
  pub domain : DomainName
  pub overflow : Bool
  pub certificate : Option Text

pub data Request : Type 0 where
  Verify : Deciding → Request
  Termination : Deciding → Request
  Check : (file certificate : Text) (jobs : ℕ) → Request
  Replay : (file values : Text) (overflow : Bool) → Request
  Show : View → (file : Text) (overflow : Bool) → Request
  Generate : (seed loops : ℕ) → Request

-- ---- values of arguments

abbrev pub view_of : Text → Option View
view_of word =
    if bytes_eq word (codes "goto") then Some Goto
    else if bytes_eq word (codes "loops") then Some Loops
    else None

abbrev pub domain_of : Text → Option DomainName
domain_of word =
    if bytes_eq word (codes "none") then Some NoRows
    else if bytes_eq word (codes "equalities") then Some Equalities
    else if bytes_eq word (codes "intervals") then Some Intervals
    else if bytes_eq word (codes "zones") then Some Zones
    else if bytes_eq word (codes "octagons") then Some Octagons
    else None

-- whether a flag is given
abbrev pub is_on : Option Text → Bool
is_on None = false
is_on (Some text) = bytes_eq text (codes "true")

abbrev pub overflow_in : List Row → Bool
overflow_in rows = is_on (first_of (codes "signed-overflow-check") rows)

-- ---- requests, by the operands and options of a command

abbrev pub deciding_in : List Row → Option Deciding
deciding_in rows =
    option_and_then (λ file. option_and_then (λ unwind. option_map (λ domain. record {
      file = file;
      unwind = unwind;
      domain = domain;
      overflow = overflow_in rows;
      certificate = first_of (codes "certificate") rows;
    }) (option_and_then domain_of (first_of (codes "domain") rows)))
    (option_and_then (number_between 1 64) (first_of (codes "unwind") rows)))
    (first_of (codes "file") rows)

abbrev pub check_in : List Row → Option Request
check_in rows =
    option_and_then (λ file. option_and_then (λ second. option_map (λ jobs. Check file second jobs)
    (option_and_then (number_between 1 64) (first_of (codes "jobs") rows)))
    (first_of (codes "second") rows)) (first_of (codes "file") rows)

abbrev pub replay_in : List Row → Option Request
replay_in rows =
    option_and_then (λ file. option_map (λ second. Replay file second (overflow_in rows)) (first_of (codes "second") rows)) (first_of (codes "file") rows)

abbrev pub show_in : List Row → Option Request
show_in rows =
    option_and_then (λ view. option_map (λ file. Show view file (overflow_in rows)) (first_of (codes "file") rows))
    (option_and_then view_of (first_of (codes "what") rows))

abbrev pub generate_in : List Row → Option Request
generate_in rows =
    option_and_then (λ seed. option_map (λ loops. Generate seed loops)
    (option_and_then (number_between 1 64) (first_of (codes "loops") rows)))
    (option_and_then (number_between 0 4294967295) (first_of (codes "n") rows))

-- the request of the command of this name with these operands and options
abbrev pub request_in : Text → List Row → Option Request
request_in name rows =
    if bytes_eq name (codes "verify") then option_map Verify (deciding_in rows)
    else if bytes_eq name (codes "termination") then option_map Termination (deciding_in rows)
    else if bytes_eq name (codes "check") then check_in rows
    else if bytes_eq name (codes "replay") then replay_in rows
    else if bytes_eq name (codes "show") then show_in rows
    else if bytes_eq name (codes "generate") then generate_in rows
    else None

-- the same of the command that was entered
abbrev pub request_entered : Option (Text × List Row) → Option Request
request_entered entered = option_and_then (λ e. request_in e.0 e.1) entered

abbrev pub request_where : Kinds → Option (Text × List Row) → Option Request
request_where [] entered = request_entered entered
request_where (fault ∷ more) entered = None

-- what words ask for: nothing where `clap` finds a fault in them
abbrev pub command : List Text → Option Request
command words = request_where (faults words) (subcommand_of twols_app words)

-- ---- requests of the code

abbrev pub text_of : Option (Bor Text) → Option Text
text_of t = option_map (λ s. s.now) t

abbrev pub deciding_of : rust_deciding.Deciding → Deciding
deciding_of d = record { file = d.file.now; unwind = d.unwind; domain = d.domain; overflow = d.overflow; certificate = text_of d.certificate }

abbrev pub asked : rust.Request → Request
asked (variant.Verify d) = Verify (deciding_of d)
asked (variant.Termination d) = Termination (deciding_of d)
asked (variant.Check file certificate jobs) = Check file.now certificate.now jobs
asked (variant.Replay file values overflow) = Replay file.now values.now overflow
asked (variant.Show view file overflow) = Show view file.now overflow
asked (variant.Generate seed loops) = Generate seed loops
