-- The command line of a program that runs a log: the request in its arguments.
use Rattle.std.specs.Prelude.{◌≡◌, ◌≢◌, ◌⊎◌, ℕ, Bool, true, false, List, [], ◌∷◌, map, Option, Some, option_map, unwrap_or, pos, codes, String, string_bytes}
use Rattle.std.specs.Borrow.{Bor}
use Rattle.std.specs.Global.{Global}
use Rattle.std.specs.Str.Parse.{digits_value, without_leading_plus}
use Rattle.std.specs.Io.KnownBytes.{Appends}
use Rattle.clap.specs.Words.{App, Kinds, Rule, Text, fault_of, matches_of, new_app, new_rule, one_of, with_rule}
use Rattle.clap.specs.declared.builder.action.ArgAction.TheVariants.{Set}
use Rattle.clap.specs.declared.builder.value_parser.ValueParser.{ValueParser}
use Rattle.clap.specs.declared.builder.value_parser.ValueParser.TheVariants.{Signed, Unsigned}
use Rattle.clap.specs.declared.error.kind.ErrorKind.{ErrorKind}
use Rattle.clap.specs.declared.error.kind.ErrorKind.TheVariants.{DisplayHelp, DisplayVersion, OutOfMemory}
use Rattle.ct_lines.specs.declared.run_fault.Fault.{Fault}
use Rattle.ct_lines.specs.declared.run_fault.Fault.TheVariants.{Memory, Write}

-- the option `--name VALUE`, whose value is a number that this parser accepts
abbrev pub number_rule : Text → ValueParser → Bool → Rule
number_rule name parser required =
    record (new_rule name) { long = Some name; action = Some Set; value_names = 1; parser = Some parser; required = required }

-- the latest timestamp that the command line accepts, 2^53 - 1, in milliseconds
abbrev pub latest_moment : ℕ
latest_moment = 9007199254740991

-- `--fronts N`, from 1 to 16, required
abbrev pub fronts_rule : Rule
fronts_rule = number_rule (codes "fronts") (Signed (pos 1) (pos 16)) true

-- `--ring K`, from 1 to 4,096, required
abbrev pub ring_rule : Rule
ring_rule = number_rule (codes "ring") (Unsigned 1 4096) true

-- `[--open-at T]`, a timestamp
abbrev pub open_at_rule : Rule
open_at_rule = number_rule (codes "open-at") (Unsigned 0 latest_moment) false

-- `[--close-at T]`, a timestamp
abbrev pub close_at_rule : Rule
close_at_rule = number_rule (codes "close-at") (Unsigned 0 latest_moment) false

-- `PROGRAM --fronts N --ring K [--open-at T] [--close-at T]`
abbrev pub options_named : Text → App
options_named program = with_rule (with_rule (with_rule (with_rule (new_app program) fronts_rule) ring_rule) open_at_rule) close_at_rule

-- the command with a version, which `--version` and `-V` request
abbrev pub versioned : App → App
versioned a = record a { top = record a.top { has_version = true } }

-- the command of the program with this name
abbrev pub app_named : Text → App
app_named program = versioned (options_named program)

-- the number that the arguments give to an option of this program, by the option's name
abbrev pub number_given : Text → List Text → Text → Option ℕ
number_given program words name =
    option_map (λ (t : Text). digits_value 10 (without_leading_plus t)) (one_of name (matches_of (app_named program) words))

-- The request in a command line: a log with this many fronts, each with a ring of this capacity, opened and closed at these timestamps, in
-- milliseconds; help; the version; or nothing that exists.
pub data CommandLine : Type 0 where
  log_with : ℕ → ℕ → ℕ → ℕ → CommandLine
  help : CommandLine
  version : CommandLine
  nothing : CommandLine

-- the request if clap finds a fault of this kind
abbrev pub by_kind : ErrorKind → CommandLine
by_kind DisplayHelp = help
by_kind DisplayVersion = version
by_kind _ = nothing

-- the request, by the first fault that clap finds
abbrev pub by_fault : Kinds → CommandLine → CommandLine
by_fault [] ok = ok
by_fault (k ∷ ks) ok = by_kind k

-- The request in the arguments of the program with this name. The first argument is the name by which the program was called. Each
-- timestamp only has to be in its range: a log that opens after its closing is a request like any other.
abbrev pub command_line : Text → List Text → CommandLine
command_line program words = by_fault (fault_of (app_named program) words) (log_with (unwrap_or (number_given program words (codes "fronts")) 0)
    (unwrap_or (number_given program words (codes "ring")) 0)
    (unwrap_or (number_given program words (codes "open-at")) 0)
    (unwrap_or (number_given program words (codes "close-at")) latest_moment))

-- the request in these arguments of the program with this name, by clap's own definitions of their meaning, as the program has them
abbrev pub asked_for : Text → List (Bor Text) → CommandLine
asked_for program words = command_line program (map (λ (w : Bor Text). w.now) words)

-- the same, for arguments that the program owns
abbrev pub asked_of : Text → List (String Global) → CommandLine
asked_of program words = command_line program (map string_bytes words)

-- the meaning of a clap error of this kind for a command line: memory was refused; or the request is that of the kind
abbrev pub IsRefusalOf : CommandLine → ErrorKind → Type 0
IsRefusalOf a k = (k ≡ OutOfMemory) ⊎ (a ≡ by_kind k)

-- a clap error of this kind is a requested text: help or the version
abbrev pub IsNotice : ErrorKind → Type 0
IsNotice k = (k ≡ DisplayHelp) ⊎ (k ≡ DisplayVersion)

-- The output if the arguments give no numbers and this fault happened, by the kind of clap's error: a prefix of the requested text; or
-- nothing, if there was no memory.
abbrev pub IsUnanswered : ErrorKind → Fault → Option (List ℕ) → Option (List ℕ) → Type 0
IsUnanswered k f old new =
    (IsNotice k × ((f ≡ Write) ⊎ (f ≡ Memory)) × ((text : List ℕ) × Appends old new text)) ⊎ ((f ≡ Memory) × Appends old new [])
