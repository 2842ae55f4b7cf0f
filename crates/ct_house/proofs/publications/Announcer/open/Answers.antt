use Rattle.std.proofs.Common.{◌≡◌, ℕ, true, length, ap, sym, ◌∙◌, subst}
use Rattle.std.specs.Prelude.{◌==◌}
use prog.Atomic.{either}
use Rattle.logbook.specs.Pages.{Book, Named}
use Rattle.ct_core.specs.Settlement.{Log, Lawful}
use Rattle.ct_house.specs.Publications.{Ends, newest}
use Rattle.ct_house.proofs.Steps.{open_moves}
use Rattle.ct_house.proofs.Reaching.{ends_as}
use Rattle.ct_house.proofs.publications.Announcer.open.Goals as goal

pub compare_exchange-requires : goal.compare_exchange-requires
compare_exchange-requires c =
    let head = c.tracked-head.ensures.0 in
    let seen = c.open-seen.ensures in
    let line = c.make_right-line.ensures in
    let offer = c.plain-offer.ensures in
    let key = ap (λ w. w.key) head ∙ ap (λ n. n.key) seen.4 in
    let law : Lawful c.plain-offer.result.ask.state = subst Lawful (sym (ap (λ a. a.state) offer.1)) c.requires in (
      ap (λ w. w.tracked) head,
      sym (ap (λ w. w.book) head ∙ seen.2),
      line.0 ∙ sym (ap (λ w. w.book) head ∙ seen.2),
      offer.0,
      rw (key, offer.3) (open_moves c.open-seen.result.0.log c.plain-offer.result.ask c.make_right-line.result.nib (λ n. either (n == 0) 0 n) line.1 law),
    )

pub invariant_of-reached : goal.invariant_of-reached
invariant_of-reached c =
    let ends = c.compare_exchange.ensures.7 in
    let log = c.compare_exchange.new.seen.log in
    let last = ends_as log _ ends in
    let state : (newest log).state ≡ c.args.first.now = ap (λ p. p.state) last ∙ ap (λ a. a.state) c.plain-offer.ensures.1 in (
      subst (Ends log) (sym last) ends,
      c.len.ensures ∙ ap length c.heads.ensures ∙ sym (ap (λ (l : Log). length l.heads) state),
      subst Lawful (sym state) c.requires,
    )

pub invariant_of-result : goal.invariant_of-result
invariant_of-result c =
    let last = ends_as c.compare_exchange.new.seen.log _ c.compare_exchange.ensures.7 in
    let seen = c.open-seen.ensures in
    let turn = c.make_right-turn.ensures in
    let same = c.compare_exchange.ensures.0 in
    let head = c.tracked-head.ensures.0 in
    let made : ℕ → Book → Named = λ k b. record { tracked = true; key = k; book = b } in (
      head ∙ ap (λ (k : ℕ). made k c.open-seen.result.1.book) (ap (λ n. n.key) seen.4) ∙ ap (made 0) (seen.2 ∙ sym same),
      turn.0 ∙ sym same,
      (turn.1, sym (ap (λ p. p.turn) last ∙ ap (λ a. a.turn) c.plain-offer.ensures.1)),
    )

pub returns : goal.returns
returns c =
    let last = ends_as c.compare_exchange.new.seen.log _ c.compare_exchange.ensures.7 in
    ap (λ p. p.state) last ∙ ap (λ a. a.state) c.plain-offer.ensures.1
