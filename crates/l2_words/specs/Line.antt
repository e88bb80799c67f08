-- The command line, as the shape by which `clap` cuts words into operands and options.
use Rattle.std.specs.Prelude.{List, [], ◌∷◌, map, codes, string_bytes, String, Some, true}
use Rattle.std.specs.declared.alloc.Global.{Global}
use Rattle.clap.specs.Words.{App, Rule, Text, Kinds, new_app, new_rule, with_rule, with_subcommand, fault_of}
use Rattle.clap.specs.declared.builder.action.ArgAction.TheVariants.{Set, SetTrue}

-- ---- arguments

-- a word that has to stand
abbrev pub operand : Text → Rule
operand id = record (new_rule id) { required = true; action = Some Set }

-- `--NAME VALUE` or `--NAME=VALUE`
abbrev pub option : Text → Rule
option id = record (new_rule id) { long = Some id; action = Some Set }

-- the same with a value where it isn't given
abbrev pub option_or : Text → Text → Rule
option_or id value = record (new_rule id) { long = Some id; action = Some Set; defaults = value ∷ [] }

-- `--NAME`
abbrev pub flag : Text → Rule
flag id = record (new_rule id) { long = Some id; action = Some SetTrue }

abbrev pub file : Rule
file = operand (codes "file")

abbrev pub overflow : Rule
overflow = flag (codes "signed-overflow-check")

-- ---- commands, without help and version

abbrev pub quiet : App → App
quiet a = record a { top = record a.top { disable_help_flag = true; disable_version_flag = true } }

-- `NAME FILE` with the options that say how far and with which rows
abbrev pub bounded_app : Text → App
bounded_app name =
    with_rule (with_rule (with_rule (quiet (new_app name)) file) (option_or (codes "unwind") (codes "8"))) (option_or (codes "domain") (codes "intervals"))

-- `NAME FILE` with the options of `verify` and `termination`
abbrev pub deciding_app : Text → App
deciding_app name = with_rule (with_rule (bounded_app name) overflow) (option (codes "certificate"))

-- `check FILE CERT`
abbrev pub check_app : App
check_app = with_rule (with_rule (with_rule (quiet (new_app (codes "check"))) file) (operand (codes "second"))) (option_or (codes "jobs") (codes "1"))

-- `replay FILE VALUES`
abbrev pub replay_app : App
replay_app = with_rule (with_rule (with_rule (quiet (new_app (codes "replay"))) file) (operand (codes "second"))) overflow

-- `show WHAT FILE`
abbrev pub show_app : App
show_app = with_rule (with_rule (with_rule (quiet (new_app (codes "show"))) (operand (codes "what"))) file) overflow

-- `generate N`
abbrev pub generate_app : App
generate_app = with_rule (with_rule (quiet (new_app (codes "generate"))) (operand (codes "n"))) (option_or (codes "loops") (codes "8"))

-- what stands before the commands: nothing
abbrev pub bare_app : App
bare_app = record (new_app (codes "twols")) {
  top = record (new_app (codes "twols")).top {
    no_binary_name = true;
    disable_help_flag = true;
    disable_help_subcommand = true;
    disable_version_flag = true;
    subcommand_required = true;
  };
}

-- the commands that decide a text
abbrev pub deciders_app : App
deciders_app = with_subcommand (with_subcommand bare_app (deciding_app (codes "verify")).top) (deciding_app (codes "termination")).top

-- with those that take a second file
abbrev pub judges_app : App
judges_app = with_subcommand (with_subcommand deciders_app check_app.top) replay_app.top

abbrev pub twols_app : App
twols_app = with_subcommand (with_subcommand judges_app show_app.top) generate_app.top

-- the words, as bytes
abbrev pub texts : List (String Global) → List Text
texts words = map string_bytes words

-- what `clap` finds wrong with the words, if anything
abbrev pub faults : List Text → Kinds
faults words = fault_of twols_app words
