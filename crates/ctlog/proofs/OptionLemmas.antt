-- The texts that a parse reads for the options, and the numbers that they mean.
use Rattle.std.proofs.Common.{◌≡◌, ◌⊎◌, ◌∙◌, ◌<◌, ◌≤◌, ap, ℕ, Bool, true, false, List, [], ◌∷◌, length, is_some, Option, Some, None, refl, sym, subst, inl, inr}
use Rattle.std.proofs.Common.{arith, ◌^◌, zero, suc}
use Rattle.std.specs.List.{All, slice_index_or}
use Rattle.std.specs.Str.{bytes_eq}
use Rattle.std.specs.Prelude.{option_map, slice_get, unwrap_or, pos, Ok, Err, Result, codes}
use Rattle.std.specs.Borrow.{Bor}
use Rattle.std.specs.Str.Parse.{ParsesUnsigned, digits_value, without_leading_plus}
use Rattle.std.proofs.lemmas.Slice.Eq.{bytes_eq-Decides}
use Rattle.std.proofs.lemmas.List.Elements.{All-get_or}
use Rattle.clap.specs.Lexer.{without_minus}
use Rattle.clap.specs.Facts.{args_of, groups_of, Entry, EntryPasses, ValuesPass, PassesArg, HasReading, least_values, parser_of, parser_of_value}
use Rattle.clap.specs.Facts.{unwrap_or_range}
use Rattle.clap.specs.declared.builder.range.ValueRange.{ValueRange}
use Rattle.clap.specs.Built.{IsParsedFrom, IsAuto, SameRules}
use Rattle.clap.specs.Matches.{matched_of, first_value, one_text, found_of, ReadsOne}
use Rattle.clap.specs.Words.{Rule, Text, app_of, rule_of, rows_of, matches_of, one_of}
use Rattle.clap.specs.declared.parser.matches.Found.{Found}
use Rattle.clap.specs.declared.parser.matches.MatchedArg.{MatchedArg}
use Rattle.clap.specs.declared.parser.matches.ArgMatches.{ArgMatches}
use Rattle.clap.specs.Values.{Accepts, IsSignedIn, IsUnsignedIn, read_as, reading_of}
use Rattle.clap.specs.declared.builder.action.ArgAction.TheVariants.{Set}
use Rattle.clap.specs.declared.builder.value_parser.Reading.{Reading}
use Rattle.clap.specs.declared.builder.value_parser.ValueParser.{ValueParser}
use Rattle.clap.specs.declared.builder.value_parser.ValueParser.TheVariants.{Signed, Unsigned}
use Rattle.clap.specs.declared.builder.arg.Arg.{Arg}
use Rattle.clap.specs.declared.builder.command.Command.{Command}
use Rattle.clap.proofs.CallerLemmas.{entry_by_id, same_rules_by_id}
use Rattle.clap.proofs.CallerReads.{required_reads, signed_reads}
use Rattle.clap.proofs.WalkLemmas.{one_text-rows}
use Rattle.ctlog.specs.CommandLine.{app_named, number_given, latest_moment}
use Rattle.ctlog.proofs.CommandLemmas.{option_rules, many, rule_at, all_plain, plain_fields, unique_ids, own_id, has_name, no_delimiter}

-- ---- the text of an entry of the matches

head_passes : (P : Bor (List ℕ) → Type 0) (how : Reading) (vs : List (Bor (List ℕ))) → All P vs
    → is_some (option_map (λ s. s.now) (slice_get vs 0)) ≡ true
    → (v : Bor (List ℕ)) × (option_map (λ s. read_as how s.now) (slice_get vs 0) ≡ Some (read_as how v.now)) × P v
head_passes P how [] h some = cc
head_passes P how (v ∷ vs) h some = (v, refl, All-get_or P (v ∷ vs) 0 v (omega arith) h)

one_text_at_entry : (f : Found) (id : List ℕ) (x : MatchedArg) (how : Reading) (t : List ℕ) → matched_of f id ≡ Some x → x.reading ≡ how
    → option_map (λ s. read_as how s.now) (slice_get x.vals.items 0) ≡ Some t → one_text f id ≡ Some t
one_text_at_entry f id x how t found is v = rw (found, is) v

-- an argument with the id of the caller's argument is read by the caller's parser
only_reading : (old : Command) (m : ArgMatches) (p : IsParsedFrom old m) (k : ℕ) (d : Arg) → k < length (args_of old)
    → ((j : ℕ) (e : Arg) → j < length (args_of old)
    → bytes_eq (slice_index_or (args_of old) j e).id.now (slice_index_or (args_of old) k d).id.now ≡ true → j ≡ k)
    → (IsAuto (slice_index_or (args_of old) k d) → ⊥)
    → (q : ValueParser) → (slice_index_or (args_of old) k d).value_parser ≡ Some q
    → (r : Reading) → HasReading p.built (slice_index_or (args_of old) k d).id.now r → r ≡ reading_of q
only_reading old m p k d lt unique own q parser r any =
    let s = same_rules_by_id old m p k d lt unique own any.0 any.1 any.2 any.3 any.4.0 in
    let is_q : parser_of any.1 ≡ q = ap parser_of_value (s.parser q parser) in
    sym any.4.1 ∙ ap reading_of is_q

accepts_of : (a y : Arg) (q : ValueParser) (t : List ℕ) → SameRules a y → a.value_parser ≡ Some q
    → Accepts y.ignore_case (parser_of y) t → Accepts a.ignore_case q t
accepts_of a y q t s parser read =
    let is_q : parser_of y ≡ q = ap parser_of_value (s.parser q parser) in
    let as_q : Accepts y.ignore_case q t = subst (λ (w : ValueParser). Accepts y.ignore_case w t) is_q read in
    subst (λ (b : Bool). Accepts b q t) s.ignore_case as_q

passes_read : (old : Command) (m : ArgMatches) (p : IsParsedFrom old m) (k : ℕ) (d : Arg) → k < length (args_of old)
    → ((j : ℕ) (e : Arg) → j < length (args_of old)
    → bytes_eq (slice_index_or (args_of old) j e).id.now (slice_index_or (args_of old) k d).id.now ≡ true → j ≡ k)
    → (IsAuto (slice_index_or (args_of old) k d) → ⊥)
    → (q : ValueParser) → (slice_index_or (args_of old) k d).value_parser ≡ Some q
    → (w : List ℕ) (v : Bor (List ℕ)) → w ≡ (slice_index_or (args_of old) k d).id.now → PassesArg p.built w v.now
    → Accepts (slice_index_or (args_of old) k d).ignore_case q v.now
passes_read old m p k d lt unique own q parser w v key pass =
    let same : bytes_eq pass.1.id.now (slice_index_or (args_of old) k d).id.now ≡ true =
    subst (λ (u : List ℕ). bytes_eq pass.1.id.now u ≡ true) key pass.4.0 in
    accepts_of _ pass.1 q v.now (same_rules_by_id old m p k d lt unique own pass.0 pass.1 pass.2 pass.3 same) parser pass.4.1

-- the text of one entry
read_of : (c : Command) (f : Found) (id : List ℕ) (Q : List ℕ → Type 0) (how : Reading) (x : MatchedArg) (e : Entry)
    → groups_of c ≡ [] → (id ≡ [] → ⊥) → ((r : Reading) → HasReading c id r → r ≡ how)
    → ((v : Bor (List ℕ)) → PassesArg c id v.now → Q v.now)
    → matched_of f id ≡ Some x → is_some (option_map (λ s. s.now) (slice_get x.vals.items 0)) ≡ true
    → e.1 ≡ x → e.0.now ≡ id → EntryPasses c e
    → (t : List ℕ) × (one_text f id ≡ Some (read_as how t)) × Q t
read_of c f id Q how x e no_groups named reads read found first same_x key_id pass =
    let no_group : e.1.is_group ≡ true → ⊥ = λ g. elim (pass.3 g) [
      | inl empty ↦ named (sym key_id ∙ empty)
      | inr lots ↦
          let bad : 0 < 0 = rw no_groups at lots in
          absurd (omega arith)
    ] in
    let all : All (λ v. PassesArg c id v.now) x.vals.items = elim pass.0 [
      | inl g ↦ absurd (no_group g)
      | inr vals ↦ subst (λ (w : List ℕ). All (λ v. PassesArg c w v.now) x.vals.items) key_id (rw same_x at vals)
    ] in
    let is : e.1.reading ≡ how = elim pass.4 [
      | inl g ↦ absurd (no_group g)
      | inr h ↦ reads e.1.reading (subst (λ (w : List ℕ). HasReading c w e.1.reading) key_id h)
    ] in
    finish (head_passes (λ v. PassesArg c id v.now) how x.vals.items all first) (ap (λ (y : MatchedArg). y.reading) (sym same_x) ∙ is)
  where
    finish : ((v : Bor (List ℕ)) × (option_map (λ s. read_as how s.now) (slice_get x.vals.items 0) ≡ Some (read_as how v.now)) × PassesArg c id v.now)
        → x.reading ≡ how → (t : List ℕ) × (one_text f id ≡ Some (read_as how t)) × Q t
    finish hd is = (hd.0.now, one_text_at_entry f id x how (read_as how hd.0.now) found is hd.1, read hd.0 hd.2)

-- the text of the entry of an id, if the entry is an argument's and has a first value
entry_read : (c : Command) (f : Found) (id : List ℕ) (Q : List ℕ → Type 0) (how : Reading) → ValuesPass c f → groups_of c ≡ [] → (id ≡ [] → ⊥)
    → is_some (first_value f id) ≡ true → ((r : Reading) → HasReading c id r → r ≡ how)
    → ((v : Bor (List ℕ)) → PassesArg c id v.now → Q v.now)
    → (t : List ℕ) × (one_text f id ≡ Some (read_as how t)) × Q t
entry_read c f id Q how values no_groups named has reads read = go (matched_of f id) refl has
  where
    step : (x : MatchedArg) → matched_of f id ≡ Some x → is_some (option_map (λ s. s.now) (slice_get x.vals.items 0)) ≡ true
        → ((e : Entry) × (e.1 ≡ x) × (bytes_eq e.0.now id ≡ true) × EntryPasses c e)
        → (t : List ℕ) × (one_text f id ≡ Some (read_as how t)) × Q t
    step x found first got =
        read_of c f id Q how x got.0 no_groups named reads read found first got.1 ((bytes_eq-Decides got.0.0.now id).0 got.2) got.3

    go : (o : Option MatchedArg) → matched_of f id ≡ o → is_some (first_value f id) ≡ true → (t : List ℕ) × (one_text f id ≡ Some (read_as how t)) × Q t
    go None e h =
        let bad : false ≡ true = rw e at h in
        cc
    go (Some x) e h = step x e (rw e at h) (entry_by_id (EntryPasses c) f.entries.items id x values e)

-- ---- the options of a log

no_text : (f : Found) (id : List ℕ) → is_some (first_value f id) ≡ false → one_text f id ≡ None
no_text f id none = go (matched_of f id) refl none
  where
    at_entry : (x : MatchedArg) → is_some (option_map (λ s. s.now) (slice_get x.vals.items 0)) ≡ false
        → option_map (λ s. read_as x.reading s.now) (slice_get x.vals.items 0) ≡ None
    at_entry x h = first (slice_get x.vals.items 0) h
      where
        first : (o : Option (Bor (List ℕ))) → is_some (option_map (λ s. s.now) o) ≡ false → option_map (λ s. read_as x.reading s.now) o ≡ None
        first None h = refl
        first (Some v) h = cc

    go : (o : Option MatchedArg) → matched_of f id ≡ o → is_some (first_value f id) ≡ false → one_text f id ≡ None
    go None e h = rw e refl
    go (Some x) e h = rw e (at_entry x (rw e at h))

some_arg : (xs : List Arg) → length xs ≡ 4 → Arg
some_arg [] e = absurd (omega arith)
some_arg (x ∷ xs) e = x

-- an option that is not required has no text, or one that its parser accepted
pub optional_text : {program : Text} (old : Command) (m : ArgMatches) → IsParsedFrom old m → app_of old ≡ app_named program
    → (k : ℕ) (d : Arg) (name : List ℕ) (q : ValueParser) → k < 4
    → (slice_index_or option_rules k (rule_of d)).id ≡ name → (slice_index_or option_rules k (rule_of d)).parser ≡ Some q
    → (one_text (found_of m) name ≡ None) ⊎ ((t : List ℕ) × (b : Bool) × (one_text (found_of m) name ≡ Some (read_as (reading_of q) t)) × Accepts b q t)
optional_text old m p is k d name q lt named parser = go (is_some (first_value (found_of m) name)) refl
  where
    id_is : (slice_index_or (args_of old) k d).id.now ≡ name
    id_is = ap (λ (x : Rule). x.id) (rule_at old is k d) ∙ named

    parser_is : (slice_index_or (args_of old) k d).value_parser ≡ Some q
    parser_is = ap (λ (x : Rule). x.parser) (rule_at old is k d) ∙ parser

    below : k < length (args_of old)
    below = subst (λ (n : ℕ). k < n) (sym (many old is)) lt

    got : is_some (first_value (found_of m) name) ≡ true → (t : List ℕ)
        × (one_text (found_of m) (slice_index_or (args_of old) k d).id.now ≡ Some (read_as (reading_of q) t))
        × Accepts (slice_index_or (args_of old) k d).ignore_case q t
    got has =
        let parsed = p.parsed (p.from.globals ∙ (plain_fields old is).1) in
        entry_read p.built (found_of m) (slice_index_or (args_of old) k d).id.now
        (λ (t : List ℕ). Accepts (slice_index_or (args_of old) k d).ignore_case q t) (reading_of q)
        parsed.values (p.from.plain (all_plain old is)).1 (has_name old is k d lt)
        (subst (λ (w : List ℕ). is_some (first_value (found_of m) w) ≡ true) (sym id_is) has)
        (only_reading old m p k d below (unique_ids old is k d lt) (own_id old is k d lt) q parser_is)
        (λ v pass. passes_read old m p k d below (unique_ids old is k d lt) (own_id old is k d lt) q parser_is _ v refl pass)

    go : (b : Bool) → is_some (first_value (found_of m) name) ≡ b
        → (one_text (found_of m) name ≡ None) ⊎ ((t : List ℕ) × (b : Bool) × (one_text (found_of m) name ≡ Some (read_as (reading_of q) t)) × Accepts b q t)
    go false none = inl (no_text (found_of m) name none)
    go true has =
        let r = got has in
        inr (
          r.0,
          (slice_index_or (args_of old) k d).ignore_case,
          subst
              (λ (w : List ℕ). one_text (found_of m) w ≡ Some (read_as (reading_of q) r.0)) id_is r.1,
          r.2,
        )

-- an option that is required has a text that its parser accepted
pub required_text : {program : Text} (old : Command) (m : ArgMatches) → IsParsedFrom old m → app_of old ≡ app_named program
    → (k : ℕ) (d : Arg) (name : List ℕ) (q : ValueParser) → k < 4
    → (slice_index_or option_rules k (rule_of d)).id ≡ name → (slice_index_or option_rules k (rule_of d)).parser ≡ Some q
    → (slice_index_or option_rules k (rule_of d)).required ≡ true
    → (slice_index_or option_rules k (rule_of d)).action ≡ Some Set → 1 ≤ least_values (slice_index_or (args_of old) k d)
    → (t : List ℕ) × (b : Bool) × (one_text (found_of m) name ≡ Some (read_as (reading_of q) t)) × Accepts b q t
required_text old m p is k d name q lt named parser required set least =
    let r = rule_at old is k d in
    let fields = plain_fields old is in
    let id_is : (slice_index_or (args_of old) k d).id.now ≡ name = ap (λ (x : Rule). x.id) r ∙ named in
    let got = required_reads old m p (all_plain old is) fields.1 fields.2 k d (subst (λ (n : ℕ). k < n) (sym (many old is)) lt)
    (ap (λ (x : Rule). x.required) r ∙ required)
    (ap (λ (x : Rule). x.action) r ∙ set) (no_delimiter old is k d lt) least (unique_ids old is k d lt) (has_name old is k d lt) (own_id old is k d lt) q
    (ap (λ (x : Rule). x.parser) r ∙ parser) in (
      got.0,
      (slice_index_or (args_of old) k d).ignore_case,
      subst
          (λ (w : List ℕ). one_text (found_of m) w ≡ Some (read_as (reading_of q) got.0)) id_is got.1,
      got.2,
    )

one_value : {program : Text} (old : Command) → app_of old ≡ app_named program → (k : ℕ) (d : Arg) → (slice_index_or option_rules k (rule_of d)).range ≡ None
    → 1 ≤ least_values (slice_index_or (args_of old) k d)
one_value old is k d none =
    let e : (slice_index_or (args_of old) k d).num_vals ≡ None = ap (λ (x : Rule). x.range) (rule_at old is k d) ∙ none in
    subst (λ (o : Option ValueRange). 1 ≤ (unwrap_or_range o).start_inclusive) (sym e) (omega arith)

pub fronts_text : {program : Text} (old : Command) (m : ArgMatches) → IsParsedFrom old m → app_of old ≡ app_named program
    → (t : List ℕ) × (b : Bool) × (one_text (found_of m) (codes "fronts") ≡ Some (without_minus t)) × Accepts b (Signed (pos 1) (pos 16)) t
fronts_text old m p is =
    let d = some_arg (args_of old) (many old is) in
    required_text old m p is zero d (codes "fronts") (Signed (pos 1) (pos 16)) (omega arith) refl refl refl refl (one_value old is zero d refl)

pub ring_text : {program : Text} (old : Command) (m : ArgMatches) → IsParsedFrom old m → app_of old ≡ app_named program
    → (t : List ℕ) × (b : Bool) × (one_text (found_of m) (codes "ring") ≡ Some t) × Accepts b (Unsigned 1 4096) t
ring_text old m p is =
    let d = some_arg (args_of old) (many old is) in
    required_text old m p is (suc zero) d (codes "ring") (Unsigned 1 4096) (omega arith) refl refl refl refl (one_value old is (suc zero) d refl)

pub open_at_text : {program : Text} (old : Command) (m : ArgMatches) → IsParsedFrom old m → app_of old ≡ app_named program
    → (one_text (found_of m) (codes "open-at") ≡ None)
    ⊎ ((t : List ℕ) × (b : Bool) × (one_text (found_of m) (codes "open-at") ≡ Some t) × Accepts b (Unsigned 0 latest_moment) t)
open_at_text old m p is =
    let d = some_arg (args_of old) (many old is) in
    optional_text old m p is (suc (suc zero)) d (codes "open-at") (Unsigned 0 latest_moment) (omega arith) refl refl

pub close_at_text : {program : Text} (old : Command) (m : ArgMatches) → IsParsedFrom old m → app_of old ≡ app_named program
    → (one_text (found_of m) (codes "close-at") ≡ None)
    ⊎ ((t : List ℕ) × (b : Bool) × (one_text (found_of m) (codes "close-at") ≡ Some t) × Accepts b (Unsigned 0 latest_moment) t)
close_at_text old m p is =
    let d = some_arg (args_of old) (many old is) in
    optional_text old m p is (suc (suc (suc zero))) d (codes "close-at") (Unsigned 0 latest_moment) (omega arith) refl refl

-- ---- numbers

-- the number that a text of digits means
abbrev pub number : List ℕ → ℕ
number t = digits_value 10 (without_leading_plus t)

module _ {E : Type 0} (G : List ℕ → Result ℕ E → Type 0) where
  -- a text that was found in a range reads as its number
  pub unsigned_read : (low high : ℕ) (t : List ℕ) (r : Option ℕ) → ((u : List ℕ) (x : Result ℕ E) → G u x → ParsesUnsigned 64 10 u x) → ReadsOne G t r
      → IsUnsignedIn low high t
      → (r ≡ Some (number t)) × (low ≤ number t) × (number t ≤ high)
  unsigned_read low high t (Some v) only h passed = (ap Some (only t (Ok v) h).1, passed.2, passed.3)
  unsigned_read low high t None only h passed = absurd (only t (Err h.0) h.1 (passed.0, passed.1))

  pub signed_read : (low high : ℕ) (t : List ℕ) (r : Option ℕ) → ((u : List ℕ) (x : Result ℕ E) → G u x → ParsesUnsigned 16 10 u x)
      → ReadsOne G (without_minus t) r → high < 2 ^ 16 → IsSignedIn (pos low) (pos high) t
      → (r ≡ Some (number (without_minus t))) × (low ≤ number (without_minus t)) × (number (without_minus t) ≤ high)
  signed_read low high t r only h fits passed = go r (signed_reads E G 16 low high t r h only fits passed) h
    where
      go : (o : Option ℕ) → (n : ℕ) × (o ≡ Some n) × (low ≤ n) × (n ≤ high) → ReadsOne G (without_minus t) o
          → (o ≡ Some (number (without_minus t))) × (low ≤ number (without_minus t)) × (number (without_minus t) ≤ high)
      go None got h =
          let bad : None ≡ Some got.0 = got.1 in
          cc
      go (Some v) got h =
          let is = (only (without_minus t) (Ok v) h).1 in
          let same : v ≡ got.0 = ap (λ (o : Option ℕ). unwrap_or o 0) got.1 in
          (ap Some is, subst (λ (n : ℕ). low ≤ n) (sym same ∙ is) got.2, subst (λ (n : ℕ). n ≤ high) (sym same ∙ is) got.3)

-- the number that the arguments give to an option, from the text that is read
pub given_is : (program : Text) (m : ArgMatches) (words : List Text) (name : Text) (o : Option Text)
    → rows_of (found_of m) ≡ matches_of (app_named program) words
    → one_text (found_of m) name ≡ o
    → number_given program words name ≡ option_map number o
given_is program m words name o rows text =
    sym (ap (option_map number) (one_text-rows (found_of m) name ∙ ap (one_of name) rows)) ∙ ap (option_map number) text
