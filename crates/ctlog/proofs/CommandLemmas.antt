-- The result of parsing the command line.
use Rattle.std.proofs.Common.{◌==◌, ◌&&◌, ◌≡◌, ◌⊎◌, ◌∙◌, ◌<◌, ap, ℕ, Bool, true, false, not, List, [], ◌∷◌, length, is_some, Option, Some, None, refl, sym}
use Rattle.std.proofs.Common.{subst, inl, inr, arith, zero, suc, map, true≢false}
use Rattle.std.specs.List.{slice_index_or}
use Rattle.std.specs.Str.{bytes_eq}
use Rattle.std.specs.Prelude.{codes}
use Rattle.std.proofs.lemmas.Bool.{eqb-true, eq-eqb}
use Rattle.clap.specs.Facts.{args_of, groups_of}
use Rattle.clap.specs.Built.{IsPlain, IsPlainArg, IsAuto}
use Rattle.clap.specs.Walk.{is_empty, is_simple_arg, is_free_arg}
use Rattle.clap.specs.Simple.{has_plain_fields}
use Rattle.clap.specs.Words.{App, Rule, Text, app_of, rule_of}
use Rattle.clap.specs.declared.builder.arg.Arg.{Arg}
use Rattle.clap.specs.declared.builder.command.Command.{Command}
use Rattle.clap.specs.declared.builder.command.Command.TheViews.{out-Command}
use Rattle.ctlog.specs.CommandLine.{app_named, fronts_rule, ring_rule, open_at_rule, close_at_rule}

-- ---- the command's rules for its arguments

both : (a b : Bool) → (a && b) ≡ true → (a ≡ true) × (b ≡ true)
both true b e = (refl, e)
both false b e = cc

negated : (a : Bool) → not a ≡ true → a ≡ false
negated true e = cc
negated false e = refl

no_elements : {X : Type 0} (xs : List X) → is_empty xs ≡ true → xs ≡ []
no_elements [] e = refl
no_elements (x ∷ xs) e =
    let bad : length (x ∷ xs) ≡ 0 = eqb-true (length (x ∷ xs)) 0 e in
    absurd (omega arith)

abbrev first_byte : List ℕ → ℕ
first_byte [] = 0
first_byte (x ∷ xs) = x

apart : (m n : ℕ) (a b : List ℕ) → (m == n) ≡ false → first_byte a ≡ m → first_byte b ≡ n → a ≡ b → ⊥
apart m n a b differ x y e = true≢false (sym (eq-eqb m n (sym x ∙ ap first_byte e ∙ y)) ∙ differ)

abbrev pub option_rules : List Rule
option_rules = fronts_rule ∷ ring_rule ∷ open_at_rule ∷ close_at_rule ∷ []

rule_there : (xs : List Arg) (k : ℕ) (d : Arg) → rule_of (slice_index_or xs k d) ≡ slice_index_or (map rule_of xs) k (rule_of d)
rule_there [] k d = refl
rule_there (x ∷ xs) zero d = refl
rule_there (x ∷ xs) (suc k) d = rule_there xs k d

map_size : (xs : List Arg) → length (map rule_of xs) ≡ length xs
map_size [] = refl
map_size (x ∷ xs) = ap suc (map_size xs)

pub rules_are : {program : Text} (c : Command) → app_of c ≡ app_named program → map rule_of (args_of c) ≡ option_rules
rules_are c e = ap (λ (a : App). a.top.rules) e

pub many : {program : Text} (c : Command) → app_of c ≡ app_named program → length (args_of c) ≡ 4
many c e = sym (map_size (args_of c)) ∙ ap length (rules_are c e)

pub rule_at : {program : Text} (c : Command) → app_of c ≡ app_named program → (k : ℕ) (d : Arg)
    → rule_of (slice_index_or (args_of c) k d) ≡ slice_index_or option_rules k (rule_of d)
rule_at c e k d = rule_there (args_of c) k d ∙ ap (λ (rs : List Rule). slice_index_or rs k (rule_of d)) (rules_are c e)

simple_at : (k : ℕ) (d : Rule) → k < 4 → ((slice_index_or option_rules k d).is_simple ≡ true) × ((slice_index_or option_rules k d).is_free ≡ true)
simple_at zero d lt = (refl, refl)
simple_at (suc zero) d lt = (refl, refl)
simple_at (suc (suc zero)) d lt = (refl, refl)
simple_at (suc (suc (suc zero))) d lt = (refl, refl)
simple_at (suc (suc (suc (suc k)))) d lt = absurd (omega arith)

unique_at : (j k : ℕ) (d e : Rule) → j < 4 → k < 4 → bytes_eq (slice_index_or option_rules j e).id (slice_index_or option_rules k d).id ≡ true → j ≡ k
unique_at zero zero d e lj lk same = refl
unique_at zero (suc zero) d e lj lk same = cc
unique_at zero (suc (suc zero)) d e lj lk same = cc
unique_at zero (suc (suc (suc zero))) d e lj lk same = cc
unique_at zero (suc (suc (suc (suc k)))) d e lj lk same = absurd (omega arith)
unique_at (suc zero) zero d e lj lk same = cc
unique_at (suc zero) (suc zero) d e lj lk same = refl
unique_at (suc zero) (suc (suc zero)) d e lj lk same = cc
unique_at (suc zero) (suc (suc (suc zero))) d e lj lk same = cc
unique_at (suc zero) (suc (suc (suc (suc k)))) d e lj lk same = absurd (omega arith)
unique_at (suc (suc zero)) zero d e lj lk same = cc
unique_at (suc (suc zero)) (suc zero) d e lj lk same = cc
unique_at (suc (suc zero)) (suc (suc zero)) d e lj lk same = refl
unique_at (suc (suc zero)) (suc (suc (suc zero))) d e lj lk same = cc
unique_at (suc (suc zero)) (suc (suc (suc (suc k)))) d e lj lk same = absurd (omega arith)
unique_at (suc (suc (suc zero))) zero d e lj lk same = cc
unique_at (suc (suc (suc zero))) (suc zero) d e lj lk same = cc
unique_at (suc (suc (suc zero))) (suc (suc zero)) d e lj lk same = cc
unique_at (suc (suc (suc zero))) (suc (suc (suc zero))) d e lj lk same = refl
unique_at (suc (suc (suc zero))) (suc (suc (suc (suc k)))) d e lj lk same = absurd (omega arith)
unique_at (suc (suc (suc (suc j)))) k d e lj lk same = absurd (omega arith)

own_at : (k : ℕ) (d : Rule) → k < 4 → ((slice_index_or option_rules k d).id ≡ codes "help") ⊎ ((slice_index_or option_rules k d).id ≡ codes "version") → ⊥
own_at zero d lt auto = elim auto [
  | inl h ↦ apart 102 104 (codes "fronts") (codes "help") refl refl refl h
  | inr h ↦ apart 102 118 (codes "fronts")
      (codes "version") refl refl refl h
]
own_at (suc zero) d lt auto = elim auto [
  | inl h ↦ apart 114 104 (codes "ring") (codes "help") refl refl refl h
  | inr h ↦ apart 114 118 (codes "ring")
      (codes "version") refl refl refl h
]
own_at (suc (suc zero)) d lt auto = elim auto
    [ inl h ↦ apart 111 104 (codes "open-at") (codes "help") refl refl refl h | inr h ↦ apart 111 118 (codes "open-at") (codes "version") refl refl refl h ]
own_at (suc (suc (suc zero))) d lt auto =
    elim auto [
      | inl h ↦ apart 99 104 (codes "close-at") (codes "help") refl refl refl h
      | inr h ↦ apart 99 118 (codes "close-at")
          (codes "version") refl refl refl h
    ]
own_at (suc (suc (suc (suc k)))) d lt auto = absurd (omega arith)

named_at : (k : ℕ) (d : Rule) → k < 4 → (slice_index_or option_rules k d).id ≡ [] → ⊥
named_at zero d lt e = cc
named_at (suc zero) d lt e = cc
named_at (suc (suc zero)) d lt e = cc
named_at (suc (suc (suc zero))) d lt e = cc
named_at (suc (suc (suc (suc k)))) d lt e = absurd (omega arith)

simple_parts : (a b c d rest : Bool) → (a && (b && (c && (d && rest)))) ≡ true → (a ≡ true) × (b ≡ true) × (c ≡ true) × (d ≡ true)
simple_parts true true true true rest e = (refl, refl, refl, refl)
simple_parts true true true false rest e = cc
simple_parts true true false d rest e = cc
simple_parts true false c d rest e = cc
simple_parts false b c d rest e = cc

simple_says : (a : Arg) → is_simple_arg a ≡ true → (is_empty a.overrides.items ≡ true) × (is_empty a.default_vals_ifs.items ≡ true)
    × (is_empty a.groups.items ≡ true) × (not (is_some a.val_delim) ≡ true)
simple_says a s = simple_parts (is_empty a.overrides.items) (is_empty a.default_vals_ifs.items) (is_empty a.groups.items) (not (is_some a.val_delim))
    (not (is_some a.terminator) && (not a.allow_hyphen_values && (not a.allow_negative_numbers && (not a.require_equals && (not a.last && not a.global))))) s

free_parts : (a b rest : Bool) → (a && (b && rest)) ≡ true → (a ≡ true) × (b ≡ true)
free_parts true true rest e = (refl, refl)
free_parts true false rest e = cc
free_parts false b rest e = cc

free_says : (a : Arg) → is_free_arg a ≡ true → (not a.exclusive ≡ true) × (is_empty a.conflicts.items ≡ true)
free_says a f = free_parts (not a.exclusive) (is_empty a.conflicts.items)
    (is_empty a.needs.items && (is_empty a.r_ifs.items && (is_empty a.r_ifs_all.items && (is_empty a.r_unless.items && is_empty a.r_unless_all.items)))) f

plain_arg : (a : Arg) → (rule_of a).is_simple ≡ true → (rule_of a).is_free ≡ true → IsPlainArg a
plain_arg a s f =
    let ss = simple_says a s in
    let fs = free_says a f in
    (negated a.exclusive fs.0, no_elements a.conflicts.items fs.1, no_elements a.overrides.items ss.0, no_elements a.groups.items ss.2)

no_some : {X : Type 0} (o : Option X) → not (is_some o) ≡ true → o ≡ None
no_some None e = refl
no_some (Some x) e = cc

pub no_delimiter : {program : Text} (c : Command) → app_of c ≡ app_named program → (k : ℕ) (d : Arg) → k < 4 → (slice_index_or (args_of c) k d).val_delim ≡ None
no_delimiter c e k d lt = no_some (slice_index_or (args_of c) k d).val_delim
    (simple_says (slice_index_or (args_of c) k d) (ap (λ (x : Rule). x.is_simple) (rule_at c e k d) ∙ (simple_at k (rule_of d) lt).0)).3

field_parts : (a b c d rest : Bool) → (a && (b && (c && rest))) ≡ true → (a ≡ true) × (c ≡ true)
field_parts true true true d rest e = (refl, refl)
field_parts true true false d rest e = cc
field_parts true false c d rest e = cc
field_parts false b c d rest e = cc

pub plain_fields : {program : Text} (c : Command) → app_of c ≡ app_named program → (groups_of c ≡ []) × ((out-Command c).has_globals ≡ false)
    × ((out-Command c).subcommand_negates_reqs ≡ false)
plain_fields c e =
    let f = out-Command c in
    let p : has_plain_fields f ≡ true = ap (λ (a : App). a.top.is_plain) e in
    let q = field_parts (is_empty f.groups.items) (not f.allow_external_subcommands) (not f.has_globals) true
    (not f.infer_long_args && (not f.allow_missing_positional && (not f.infer_subcommands && (not f.args_conflicts_with_subcommands
    && (not f.subcommand_precedence_over_arg
    && (not (is_some f.long_flag) && (not (is_some f.short_flag) && (is_empty f.long_flag_aliases.items && is_empty f.short_flag_aliases.items)))))))) p in
    (no_elements f.groups.items q.0, negated f.has_globals q.1, ap (λ (a : App). a.top.subcommand_negates_reqs) e)

pub all_plain : {program : Text} (c : Command) → app_of c ≡ app_named program → IsPlain c
all_plain c e = (λ k d lt. one k d (subst (λ (n : ℕ). k < n) (many c e) lt), (plain_fields c e).0)
  where
    one : (k : ℕ) (d : Arg) → k < 4 → IsPlainArg (slice_index_or (args_of c) k d)
    one k d lt =
        let r = rule_at c e k d in
        let s = simple_at k (rule_of d) lt in
        plain_arg (slice_index_or (args_of c) k d) (ap (λ (x : Rule). x.is_simple) r ∙ s.0) (ap (λ (x : Rule). x.is_free) r ∙ s.1)

pub unique_ids : {program : Text} (c : Command) → app_of c ≡ app_named program → (k : ℕ) (d : Arg) → k < 4 → (j : ℕ) (e : Arg) → j < length (args_of c)
    → bytes_eq (slice_index_or (args_of c) j e).id.now (slice_index_or (args_of c) k d).id.now ≡ true → j ≡ k
unique_ids c is k d lt j e lj same =
    let rj = ap (λ (x : Rule). x.id) (rule_at c is j e) in
    let rk = ap (λ (x : Rule). x.id) (rule_at c is k d) in
    unique_at j k (rule_of d) (rule_of e) (subst (λ (n : ℕ). j < n) (many c is) lj) lt
    (subst (λ (w : List ℕ). bytes_eq (slice_index_or option_rules j (rule_of e)).id w ≡ true) rk
    (subst (λ (w : List ℕ). bytes_eq w (slice_index_or (args_of c) k d).id.now ≡ true) rj same))

pub own_id : {program : Text} (c : Command) → app_of c ≡ app_named program → (k : ℕ) (d : Arg) → k < 4 → IsAuto (slice_index_or (args_of c) k d) → ⊥
own_id c is k d lt auto =
    let rk = ap (λ (x : Rule). x.id) (rule_at c is k d) in
    own_at k (rule_of d) lt (elim auto [ inl h ↦ inl (sym rk ∙ h) | inr h ↦ inr (sym rk ∙ h) ])

pub has_name : {program : Text} (c : Command) → app_of c ≡ app_named program → (k : ℕ) (d : Arg) → k < 4 → (slice_index_or (args_of c) k d).id.now ≡ [] → ⊥
has_name c is k d lt none = named_at k (rule_of d) lt (sym (ap (λ (x : Rule). x.id) (rule_at c is k d)) ∙ none)
