-- clap finds at most one fault of a command line.
use Rattle.std.proofs.Common.{◌≡◌, ◌⊎◌, ◌≤◌, ◌&&◌, ◌||◌, ◌==◌, ap, ℕ, Bool, true, false, not, List, [], ◌∷◌, length, is_some, Option, Some, None, refl, sym}
use Rattle.std.proofs.Common.{inl, inr, arith, zero, suc, drop}
use Rattle.std.specs.Prelude.{if◌then◌else◌, nat_lt, codes, encode_utf8, slice_get}
use Rattle.std.specs.Option.{option_map_or}
use Rattle.std.specs.Str.{bytes_eq, chars}
use Rattle.clap.specs.Lexer.{long_of, short_of}
use Rattle.clap.specs.Facts.{parser_of_value, unwrap_or_range}
use Rattle.clap.specs.ValueTests.{accepts}
use Rattle.clap.specs.Values.{refused_kind}
use Rattle.clap.specs.Walk.{Held, Names, Row, Rule, Step, Text, Waiting, Walk, action_of, arg_by_id, arg_by_index, arg_by_long, arg_by_short, attached_value}
use Rattle.clap.specs.Walk.{has_row, is_empty, is_pending, most_values, nothing_held, reacted, settled, subcommand_met, takes_several, takes_values, next}
use Rattle.clap.specs.Walk.{trailing, subcommand, value, values_or_missing, walk, walk_from, walked, with_default, word_met}
use Rattle.clap.specs.Simple.{App, Shape, argument_words, built, names_of}
use Rattle.clap.specs.Kinds.{Kinds, IsAmong, check_kinds, or_else, range_kinds, request_kinds, value_kinds, values_kinds}
use Rattle.clap.specs.Faults.{values_fault, count_fault, repeat_fault, set_fault, action_fault, use_fault, settle_fault, react_fault, option_fault, long_fault}
use Rattle.clap.specs.Faults.{short_fault, bundle_step_fault, flags_fault, bundle_fault, flag_word_fault, other_fault, word_fault, positional_fault}
use Rattle.clap.specs.Faults.{stray_fault, step_fault, turn_fault, walk_fault, default_fault, defaults_fault, level_fault, entered_fault, fault_of}
use Rattle.clap.specs.declared.builder.action.ArgAction.{ArgAction}
use Rattle.clap.specs.declared.builder.action.ArgAction.TheVariants as action
use Rattle.clap.specs.declared.builder.value_parser.ValueParser.{ValueParser}
use Rattle.clap.specs.declared.error.kind.ErrorKind.{ErrorKind}
use Rattle.clap.specs.declared.error.kind.ErrorKind.TheVariants as kind
use Rattle.ctlog.specs.CommandLine.{CommandLine, app_named, by_fault, by_kind}

-- at most one kind
abbrev AtMostOne : Kinds → Type 0
AtMostOne ks = length ks ≤ 1

none : AtMostOne []
none = omega arith

one : (k : ErrorKind) → AtMostOne (k ∷ [])
one k = omega arith

first : (a b : Kinds) → AtMostOne a → AtMostOne b → AtMostOne (or_else a b)
first [] b x y = y
first (k ∷ ks) b x y = x

choice : (b : Bool) (x y : Kinds) → AtMostOne x → AtMostOne y → AtMostOne (if b then x else y)
choice true x y p q = p
choice false x y p q = q

module _ {X : Type 0} (f : X → Kinds) where
  mapped : (o : Option X) (d : Kinds) → ((x : X) → AtMostOne (f x)) → AtMostOne d → AtMostOne (option_map_or f o d)
  mapped None d each base = base
  mapped (Some x) d each base = each x

value_one : (i : Bool) (p : ValueParser) (t : Text) → AtMostOne (value_kinds i p t)
value_one i p t = choice (accepts i p t) [] (refused_kind p ∷ []) none (one (refused_kind p))

values_one : (i : Bool) (p : ValueParser) (ts : List Text) → AtMostOne (values_kinds i p ts)
values_one i p [] = none
values_one i p (t ∷ ts) = first (value_kinds i p t) (values_kinds i p ts) (value_one i p t) (values_one i p ts)

range_one : (least most n : ℕ) → AtMostOne (range_kinds least most n)
range_one least most n = choice (nat_lt 0 least && n == 0) _ _ (one kind.InvalidValue)
    (choice (least == most) _ _ (choice (least == n) _ _ none (one kind.WrongNumberOfValues))
    (choice (nat_lt n least) _ _ (one kind.TooFewValues) (choice (nat_lt most n) _ _ (one kind.TooManyValues) none)))

request_one : (a : ArgAction) → AtMostOne (request_kinds a)
request_one action.Set = none
request_one action.Append = none
request_one action.SetTrue = none
request_one action.SetFalse = none
request_one action.Count = none
request_one action.Help = one kind.DisplayHelp
request_one action.HelpShort = one kind.DisplayHelp
request_one action.HelpLong = one kind.DisplayHelp
request_one action.Version = one kind.DisplayVersion

count_one : (a : Rule) (values : List Text) (rows : List Row) → AtMostOne (count_fault a values rows)
count_one a [] rows = value_one a.ignore_case (parser_of_value a.parser) _
count_one a (v ∷ vs) rows = values_one a.ignore_case (parser_of_value a.parser) (v ∷ vs)

set_one : (again : Bool) (a : Rule) (values : List Text) (rows : List Row) → AtMostOne (set_fault again a values rows)
set_one again a values rows = first (repeat_fault again a.id rows) (values_fault a values)
    (choice (has_row a.id rows && not again) _ _ (one kind.ArgumentConflict) none) (values_one a.ignore_case (parser_of_value a.parser) values)

action_one : (act : ArgAction) (again : Bool) (a : Rule) (values : List Text) (rows : List Row) → AtMostOne (action_fault act again a values rows)
action_one action.Set again a values rows = set_one again a values rows
action_one action.SetTrue again a values rows = set_one again a values rows
action_one action.SetFalse again a values rows = set_one again a values rows
action_one action.Append again a values rows = values_one a.ignore_case (parser_of_value a.parser) values
action_one action.Count again a values rows = count_one a values rows
action_one action.Help again a values rows = request_one action.Help
action_one action.HelpShort again a values rows = request_one action.HelpShort
action_one action.HelpLong again a values rows = request_one action.HelpLong
action_one action.Version again a values rows = request_one action.Version

use_one : (again : Bool) (a : Rule) (values : List Text) (rows : List Row) → AtMostOne (use_fault again a values rows)
use_one again a values rows = first (range_kinds (unwrap_or_range a.range).start_inclusive (most_values a) (length values))
    (action_fault (action_of a) again a (values_or_missing a values) rows)
    (range_one (unwrap_or_range a.range).start_inclusive (most_values a) (length values)) (action_one (action_of a) again a (values_or_missing a values) rows)

settle_one : (c : List Rule) (again : Bool) (h : Held) → AtMostOne (settle_fault c again h)
settle_one c again h = mapped (λ p. option_map_or (λ a. use_fault again a p.1 h.rows) (arg_by_id c p.0) []) h.pending []
    (λ p. mapped (λ a. use_fault again a p.1 h.rows) (arg_by_id c p.0) [] (λ a. use_one again a p.1 h.rows) none) none

react_one : (c : List Rule) (again : Bool) (a : Rule) (values : List Text) (h : Held) → AtMostOne (react_fault c again a values h)
react_one c again a values h = first (settle_fault c again h) (use_fault again a values (settled c h).rows) (settle_one c again h)
    (use_one again a values (settled c h).rows)

option_one : (c : List Rule) (again : Bool) (a : Rule) (o : Option Text) (h : Held) → AtMostOne (option_fault c again a o h)
option_one c again a (Some v) h = react_one c again a (v ∷ []) h
option_one c again a None h = settle_one c again h

long_one : (c : List Rule) (again : Bool) (o : Option Rule) (v : Option Text) (h : Held) → AtMostOne (long_fault c again o v h)
long_one c again None v h = one kind.UnknownArgument
long_one c again (Some a) v h = choice (takes_values a) _ _ (option_one c again a v h)
    (choice (is_some v) _ _ (one kind.TooManyValues) (react_one c again a [] h))

short_one : (c : List Rule) (again : Bool) (o : Option Rule) (rest : Text) (h : Held) (go : Held → Kinds) → ((x : Held) → AtMostOne (go x))
    → AtMostOne (short_fault c again o rest h go)
short_one c again None rest h go more = one kind.UnknownArgument
short_one c again (Some a) rest h go more = choice (takes_values a) _ _ (option_one c again a (attached_value rest) h)
    (first (react_fault c again a [] h) (go (reacted c a [] h)) (react_one c again a [] h) (more (reacted c a [] h)))

bundle_step_one : (c : List Rule) (again : Bool) (o : Option ℕ) (flags : Text) (skip : ℕ) (h : Held) (go : Text → ℕ → Held → Kinds)
    → ((t : Text) (n : ℕ) (x : Held) → AtMostOne (go t n x))
    → AtMostOne (bundle_step_fault c again o flags skip h go)
bundle_step_one c again None flags skip h go more = none
bundle_step_one c again (Some x) flags zero h go more =
    short_one c again (arg_by_short c x) (drop (length (encode_utf8 x)) flags) h (go (drop (length (encode_utf8 x)) flags) 0)
    (more (drop (length (encode_utf8 x)) flags) 0)
bundle_step_one c again (Some x) flags (suc skip) h go more = more (drop (length (encode_utf8 x)) flags) skip h

flags_one : (c : List Rule) (again : Bool) (k : ℕ) (flags : Text) (skip : ℕ) (h : Held) → AtMostOne (flags_fault c again k flags skip h)
unfolding flags_fault
flags_one c again zero flags skip h = none
flags_one c again (suc k) flags skip h = bundle_step_one c again (slice_get (chars flags) 0) flags skip h (flags_fault c again k) (flags_one c again k)

flag_word_one : (c : List Rule) (again : Bool) (o : Option (Text × Option Text)) (word : Text) (h : Held) → AtMostOne (flag_word_fault c again o word h)
flag_word_one c again (Some p) word h = long_one c again (arg_by_long c p.0) p.1 h
flag_word_one c again None word h = mapped (λ flags. bundle_fault c again flags h) (short_of word) []
    (λ flags. flags_one c again (length flags) flags h.skip (record h { skip = 0 })) none

never_two : (b d : Bool) (x : Kinds) → d ≡ true → AtMostOne (if b && not d then x else [])
never_two true true x e = none
never_two false true x e = none
never_two b false x e = cc

other_one : (s : Shape) → s.disable_help_subcommand ≡ true → (o : Option Text) (word : Text) (h : Held) → AtMostOne (other_fault s o word h)
other_one s off (Some name) word h = never_two (bytes_eq name (codes "help")) s.disable_help_subcommand _ off
other_one s off None word h = choice (bytes_eq word (45 ∷ 45 ∷ [])) _ _ none (flag_word_one s.rules s.args_override_self (long_of word) word h)

word_one : (s : Shape) → s.disable_help_subcommand ≡ true → (names : Names) (t : Bool) (w : Waiting) (word : Text) (h : Held)
    → AtMostOne (word_fault s names t w word h)
word_one s off names t w word h = choice t _ _ none (other_one s off (subcommand_met names w word) word h)

leaf_stray : (b : Bool) (x : Kinds) → b ≡ true → AtMostOne (if b then kind.UnknownArgument ∷ [] else x)
leaf_stray true x e = one kind.UnknownArgument
leaf_stray false x e = cc

positional_one : (c : List Rule) (again : Bool) (a : Rule) (h : Held) → AtMostOne (positional_fault c again a h)
positional_one c again a h = choice (is_pending a h.pending && takes_several a) _ _ none (settle_one c again h)

step_one : (s : Shape) → s.is_leaf ≡ true → (position : ℕ) (h : Held) (x : Step) → AtMostOne (step_fault s position h x)
step_one s leaf position h value = mapped (λ a. positional_fault s.rules s.args_override_self a h) (arg_by_index s.rules position) (stray_fault s)
    (λ a. positional_one s.rules s.args_override_self a h) (leaf_stray s.is_leaf _ leaf)
step_one s leaf position h (next w) = none
step_one s leaf position h (trailing n) = none
step_one s leaf position h (subcommand t) = none

turn_one : (s : Shape) → s.disable_help_subcommand ≡ true → s.is_leaf ≡ true → (names : Names) (w : Walk) (word : Text) → AtMostOne (turn_fault s names w word)
turn_one s off leaf names w word =
    let met = word_met s.rules names w.is_trailing w.waiting w.position word w.held in
    choice (is_some w.stopped) _ _ none (first (word_fault s names w.is_trailing w.waiting word w.held) (step_fault s w.position met.0 met.1)
    (word_one s off names w.is_trailing w.waiting word w.held) (step_one s leaf w.position met.0 met.1))

walk_one : (s : Shape) → s.disable_help_subcommand ≡ true → s.is_leaf ≡ true → (names : Names) (w : Walk) (words : List Text)
    → AtMostOne (walk_fault s names w words)
unfolding walk_fault
walk_one s off leaf names w [] = none
walk_one s off leaf names w (word ∷ rest) = first (turn_fault s names w word) (walk_fault s names (walked s.rules names w word) rest)
    (turn_one s off leaf names w word) (walk_one s off leaf names (walked s.rules names w word) rest)

default_one : (rows : List Row) (a : Rule) → AtMostOne (default_fault rows a)
default_one rows a = choice (has_row a.id rows || is_empty a.defaults) _ _ none
    (first (request_kinds (action_of a)) (values_fault a a.defaults) (request_one (action_of a))
    (values_one a.ignore_case (parser_of_value a.parser) a.defaults))

defaults_one : (rows : List Row) (rules : List Rule) → AtMostOne (defaults_fault rows rules)
unfolding defaults_fault
defaults_one rows [] = none
defaults_one rows (a ∷ rest) = first (default_fault rows a) (defaults_fault (with_default rows a) rest) (default_one rows a)
    (defaults_one (with_default rows a) rest)

checks_one : (a b c : Bool) → AtMostOne (check_kinds a b c)
checks_one a b c = choice a _ _ (one kind.DisplayHelpOnMissingArgumentOrSubcommand)
    (choice b _ _ (one kind.MissingSubcommand) (choice c _ _ (one kind.MissingRequiredArgument) none))

level_one : (s : Shape) → s.disable_help_subcommand ≡ true → s.is_leaf ≡ true → (names : Names) (h : Held) (words : List Text) (b : Bool) (below : Kinds)
    → AtMostOne below → AtMostOne (level_fault s names h words b below)
level_one s off leaf names h words b below under =
    let end = (walk s.rules names h words).held in
    first (walk_fault s names (walk_from h) words) _ (walk_one s off leaf names (walk_from h) words)
    (first below _ under (first (settle_fault s.rules s.args_override_self end) _ (settle_one s.rules s.args_override_self end)
    (first (defaults_fault (settled s.rules end).rows s.rules) _ (defaults_one (settled s.rules end).rows s.rules) (checks_one _ _ _))))

entered_one : (a : App) → a.subs ≡ [] → (stop : Option (Text × List Text)) → AtMostOne (entered_fault a stop)
entered_one a no_subs None = none
entered_one a no_subs (Some p) = rw no_subs none

-- clap finds at most one fault of a command line
pub one_fault : (program : Text) (words : List Text) → AtMostOne (fault_of (app_named program) words)
one_fault program words =
    let a = built (app_named program) in
    level_one a.top refl refl (names_of a) nothing_held (argument_words (app_named program) words) _ _
    (entered_one a refl (walk a.top.rules (names_of a) nothing_held (argument_words (app_named program) words)).stopped)

among_one : (ks : Kinds) (k : ErrorKind) (ok : CommandLine) → AtMostOne ks → IsAmong k ks → by_fault ks ok ≡ by_kind k
among_one [] k ok single among = absurd among
among_one (x ∷ []) k ok single among = elim among [ inl e ↦ ap by_kind (sym e) | inr never ↦ absurd never ]
among_one (x ∷ y ∷ ks) k ok single among = absurd (omega arith)

-- the meaning of an error of this kind for the arguments
pub error_says : (program : Text) (words : List Text) (k : ErrorKind) (ok : CommandLine) → IsAmong k (fault_of (app_named program) words)
    → by_fault (fault_of (app_named program) words) ok ≡ by_kind k
error_says program words k ok among = among_one (fault_of (app_named program) words) k ok (one_fault program words) among
