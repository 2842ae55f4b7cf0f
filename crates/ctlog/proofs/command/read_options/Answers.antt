use Rattle.std.proofs.Common.{◌≡◌, ◌∙◌, ap, sym, subst, refl, arith, codes, inl, inr, map, true, ℕ, List, [], Option, Some, None}
use Rattle.std.specs.Prelude.{Result, Ok, Err, MatchResult, IsErrAnd, unwrap_or}
use Rattle.std.specs.Str.Parse.{ParsesUnsigned, ExplainsUnsignedError, HasUnsignedDigitsIfOk}
use Rattle.clap.specs.Built.{IsParsedFrom}
use Rattle.clap.specs.Lexer.{without_minus}
use Rattle.clap.specs.Kinds.{IsAmong, Kinds}
use Rattle.clap.specs.declared.error.Error.{Error}
use Rattle.clap.specs.Words.{App, Text, fault_of, found_of, is_simple, is_simple_and_free, kind_of, matches_of, rows_of}
use Rattle.ctlog.specs.CommandLine.{CommandLine, IsRefusalOf, command_line, app_named, by_fault, latest_moment, log_with, number_given}
use Rattle.ctlog.specs.FaultLines.{name_of}
use Rattle.ctlog.proofs.OptionLemmas.{close_at_text, fronts_text, given_is, number, open_at_text, ring_text, signed_read, unsigned_read}
use Rattle.ctlog.proofs.FaultKinds.{error_says}
use Rattle.ctlog.proofs.command.read_options.Goals as goal

is_simple_command : (program : Text) → is_simple (app_named program) ≡ true
is_simple_command program = refl

is_free_command : (program : Text) → is_simple_and_free (app_named program) ≡ true
is_free_command program = refl

log_of : (a b c d e f g h : ℕ) → a ≡ e → b ≡ f → c ≡ g → d ≡ h → log_with a b c d ≡ log_with e f g h
log_of a b c d e f g h p q r s = ap (λ (n : ℕ). log_with n b c d) p ∙ ap (λ (n : ℕ). log_with e n c d) q ∙ ap (λ (n : ℕ). log_with e f n d) r
    ∙ ap (λ (n : ℕ). log_with e f g n) s

some_of : (o : Option ℕ) (a b : ℕ) → o ≡ Some a → o ≡ Some b → b ≡ a
some_of o a b x y = ap (λ (p : Option ℕ). unwrap_or p 0) (sym y ∙ x)

pub returns-in_default : goal.returns-in_default
returns-in_default c =
    let app = c.in_ok-command.ensures.app in
    let m = c.in_ok-matches.matches in
    let ok = c.in_ok-matches.ensures.ok in
    let p : IsParsedFrom c.in_ok-command.command m = record { built = c.try_get_matches_from_mut.new.self; from = ok.0; parsed = ok.1 } in
    let ft = fronts_text c.in_ok-command.command m p app in
    let rt = ring_text c.in_ok-command.command m p app in
    let f = signed_read (λ bs r. ParsesUnsigned 16 10 bs r × ExplainsUnsignedError 10 bs r × HasUnsignedDigitsIfOk bs r) 1 16 ft.0 c.get_one-fronts.result
    (λ u x g. g.0) (c.get_one-fronts.ensures.value (without_minus ft.0) ft.2) (omega arith) ft.3 in
    let k = unsigned_read (λ bs r. ParsesUnsigned 64 10 bs r × ExplainsUnsignedError 10 bs r × HasUnsignedDigitsIfOk bs r) 1 4096 rt.0
    c.get_one-ring.result (λ u x g. g.0) (c.get_one-ring.ensures.value rt.0 rt.2) rt.3 in
    absurd (c.in_default.ensures.none refl (number (without_minus ft.0)) (number rt.0) f.0 k.0 f.1 f.2 k.1 k.2)

pub returns : goal.returns
returns c =
    let app = c.in_ok-command.ensures.app in
    let m = c.in_ok-matches.matches in
    let ok = c.in_ok-matches.ensures.ok in
    let named = name_of c.args.program in
    let words : List Text = map (λ w. w.now) c.args.words.now in
    let p : IsParsedFrom c.in_ok-command.command m = record { built = c.try_get_matches_from_mut.new.self; from = ok.0; parsed = ok.1 } in
    let rows : rows_of (found_of m) ≡ matches_of (app_named named) words =
    (ok.2 (ap is_simple app ∙ is_simple_command named)).0 ∙ ap (λ (a : App). matches_of a words) app in
    let none : fault_of (app_named named) words ≡ [] = ap (λ (a : App). fault_of a words) (sym app)
    ∙ c.in_ok-matches.ensures.kinds (ap is_simple_and_free app ∙ is_free_command named) in
    let ft = fronts_text c.in_ok-command.command m p app in
    let rt = ring_text c.in_ok-command.command m p app in
    let f = signed_read (λ bs r. ParsesUnsigned 16 10 bs r × ExplainsUnsignedError 10 bs r × HasUnsignedDigitsIfOk bs r) 1 16 ft.0 c.get_one-fronts.result
    (λ u x g. g.0) (c.get_one-fronts.ensures.value (without_minus ft.0) ft.2) (omega arith) ft.3 in
    let k = unsigned_read (λ bs r. ParsesUnsigned 64 10 bs r × ExplainsUnsignedError 10 bs r × HasUnsignedDigitsIfOk bs r) 1 4096 rt.0
    c.get_one-ring.result (λ u x g. g.0) (c.get_one-ring.ensures.value rt.0 rt.2) rt.3 in
    let fronts : number_given named words (codes "fronts") ≡ c.get_one-fronts.result =
    given_is named m words (codes "fronts") (Some (without_minus ft.0)) rows ft.2 ∙ sym f.0 in
    let ring : number_given named words (codes "ring") ≡ c.get_one-ring.result = given_is named m words (codes "ring") (Some rt.0) rows rt.2 ∙ sym k.0 in
    let opens : number_given named words (codes "open-at") ≡ c.get_one.result = elim (open_at_text c.in_ok-command.command m p app) [
      | inl h ↦ given_is named m words (codes "open-at") None rows h ∙ sym (c.get_one.ensures.none h)
      | inr t ↦ given_is named m words (codes "open-at") (Some t.0) rows t.2
          ∙ sym (unsigned_read (λ bs r. ParsesUnsigned 64 10 bs r × ExplainsUnsignedError 10 bs r × HasUnsignedDigitsIfOk bs r) 0 latest_moment t.0
          c.get_one.result (λ u x g. g.0) (c.get_one.ensures.value t.0 t.2) t.3).0
    ] in
    let closes : number_given named words (codes "close-at") ≡ c.get_one-2.result = elim (close_at_text c.in_ok-command.command m p app) [
      | inl h ↦ given_is named m words (codes "close-at") None rows h ∙ sym (c.get_one-2.ensures.none h)
      | inr t ↦ given_is named m words (codes "close-at") (Some t.0) rows t.2
          ∙ sym (unsigned_read (λ bs r. ParsesUnsigned 64 10 bs r × ExplainsUnsignedError 10 bs r × HasUnsignedDigitsIfOk bs r) 0 latest_moment t.0
          c.get_one-2.result (λ u x g. g.0) (c.get_one-2.ensures.value t.0 t.2) t.3).0
    ] in
    let given = c.in-Some.ensures.some in
    ap (λ (ks : Kinds). by_fault ks (log_with (unwrap_or (number_given named words (codes "fronts")) 0) (unwrap_or (number_given named words (codes "ring")) 0)
    (unwrap_or (number_given named words (codes "open-at")) 0) (unwrap_or (number_given named words (codes "close-at")) latest_moment))) none
    ∙ log_of _ _ _ _ c.in-Some.fronts c.in-Some.ring c.unwrap_or-open_at.result c.unwrap_or-close_at.result
    (ap (λ (o : Option ℕ). unwrap_or o 0) (fronts ∙ given.0))
    (ap (λ (o : Option ℕ). unwrap_or o 0) (ring ∙ given.1))
    (ap (λ (o : Option ℕ). unwrap_or o 0) opens ∙ sym c.unwrap_or-open_at.ensures)
    (ap (λ (o : Option ℕ). unwrap_or o latest_moment) closes ∙ sym c.unwrap_or-close_at.ensures)

err_says : {T : Type 0} (P : T → Type 0) (r : Result T Error) (x : Error) (a : CommandLine) → IsErrAnd r (λ e. e ≡ x) → IsRefusalOf a (kind_of x)
    → MatchResult r P (λ e. IsRefusalOf a (kind_of e))
err_says P (Ok o) x a none h = absurd none
err_says P (Err e) x a is h = subst (λ (y : Error). IsRefusalOf a (kind_of y)) (sym is) h

pub returns-in_err-matches : goal.returns-in_err-matches
returns-in_err-matches c =
    let app = c.in_ok-command.ensures.app in
    let named = name_of c.args.program in
    let words : List Text = map (λ w. w.now) c.args.words.now in
    let e : Error = c.in_err-matches.field-0.0 in
    let kinds = c.in_err-matches.ensures.kinds (ap is_simple_and_free app ∙ is_free_command named) in
    let says : IsRefusalOf (command_line named words) (kind_of e) = elim kinds [
      | inl memory ↦ inl memory
      | inr among ↦ inr (error_says named words (kind_of e) _ (subst (λ (a : App). IsAmong (kind_of e) (fault_of a words)) app among))
    ] in
    err_says _ c.from_residual-in_err-matches.result e (command_line named words) c.from_residual-in_err-matches.ensures.1 says
