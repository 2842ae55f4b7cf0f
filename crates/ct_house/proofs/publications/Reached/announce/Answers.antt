use Rattle.std.proofs.Common.{◌≡◌, ◌<◌, length, ap, sym, ◌∙◌, subst}
use Rattle.std.specs.Prelude.{◌==◌}
use prog.Atomic.{either}
use Rattle.ct_core.specs.Settlement.{Log, Lawful}
use Rattle.ct_core.specs.Core.{Extends}
use Rattle.ct_house.specs.Publications.{Ends, IsRight, Reach, newest}
use Rattle.ct_house.specs.declared.publications.Publication.{Publication}
use Rattle.ct_house.proofs.Steps.{add_moves}
use Rattle.ct_house.proofs.Reaching.{ends_as, same_series}
use Rattle.ct_house.proofs.publications.Reached.announce.Goals as goal

pub compare_exchange-requires : goal.compare_exchange-requires
compare_exchange-requires c =
    let h = c.requires.head in
    let same = ap (λ s. s.book) c.again-seen.ensures ∙ ap (λ r. r.book) c.self.view_is in
    let offer = c.plain-offer.ensures in
    let log = c.again-seen.result.log in
    let last : newest log ≡ c.args.self.now.last = ap (λ s. newest s.log) c.again-seen.ensures ∙ ap (λ r. r.last) c.self.view_is in
    let ends : Ends log (newest log) = subst (λ s. Ends s.log (newest s.log)) (sym c.again-seen.ensures) c.self.invariant.0 in
    let right : IsRight c.args.turn.now.nib (newest log).turn = subst (λ (p : Publication). IsRight c.args.turn.now.nib p.turn) (sym last) c.requires.turn.1 in
    let asked : c.args.next.now ≡ c.plain-offer.result.ask.state = sym (ap (λ a. a.state) offer.1) in
    let extends : Extends (newest log).state c.plain-offer.result.ask.state =
    subst (λ (p : Publication). Extends p.state c.plain-offer.result.ask.state) (sym last)
    (subst (Extends c.args.self.now.last.state) asked c.requires.extends) in
    let newer : length (newest log).state.heads < length c.plain-offer.result.ask.state.heads =
    subst (λ (p : Publication). length p.state.heads < length c.plain-offer.result.ask.state.heads) (sym last)
    (subst (λ (l : Log). length c.args.self.now.last.state.heads < length l.heads) asked c.requires.newer) in (
      ap (λ w. w.tracked) h,
      same ∙ sym (ap (λ w. w.book) h),
      c.requires.turn.0 ∙ sym (ap (λ w. w.book) h),
      offer.0,
      rw (ap (λ w. w.key) h, offer.3) (add_moves log c.plain-offer.result.ask c.args.turn.now.nib (λ n. either (n == 0) 0 n) ends right extends newer
          (subst Lawful asked c.requires.lawful)),
    )

pub invariant_of-self : goal.invariant_of-self
invariant_of-self c =
    let ends = c.compare_exchange.ensures.7 in
    let log = c.compare_exchange.new.seen.log in
    let last = ends_as log _ ends in
    let state : (newest log).state ≡ c.args.next.now = ap (λ p. p.state) last ∙ ap (λ a. a.state) c.plain-offer.ensures.1 in (
      subst (Ends log) (sym last) ends,
      c.len-self-inside.ensures ∙ ap length c.heads.ensures ∙ sym (ap (λ (l : Log). length l.heads) state),
      subst Lawful (sym state) c.requires.lawful,
    )

pub returns-clause-series : goal.returns-clause-series
returns-clause-series c =
    let log = c.compare_exchange.new.seen.log in
    let last = ends_as log _ c.compare_exchange.ensures.7 in
    let before = ap (λ s. newest s.log) c.again-seen.ensures ∙ ap (λ r. r.last) c.self.view_is in
    let after : Reach = record { book = c.compare_exchange.new.seen.book; last = newest log } in
    same_series after c.args.self.now (c.compare_exchange.ensures.0 ∙ (ap (λ s. s.book) c.again-seen.ensures ∙ ap (λ r. r.book) c.self.view_is))
    (ap (λ p. p.line) last ∙ ap (λ p. p.line) before)

pub returns-clause-state : goal.returns-clause-state
returns-clause-state c =
    let last = ends_as c.compare_exchange.new.seen.log _ c.compare_exchange.ensures.7 in
    ap (λ p. p.state) last ∙ ap (λ a. a.state) c.plain-offer.ensures.1

pub returns-clause-turn : goal.returns-clause-turn
returns-clause-turn c =
    let last = ends_as c.compare_exchange.new.seen.log _ c.compare_exchange.ensures.7 in
    let made = c.make_right-following.ensures in (
      made.0 ∙ sym (c.compare_exchange.ensures.0 ∙ ap (λ s. s.book) c.again-seen.ensures),
      (made.1, sym (ap (λ p. p.turn) last ∙ ap (λ a. a.turn) c.plain-offer.ensures.1)),
    )
