use Rattle.std.proofs.Common.{◌≡◌, ap, sym, ◌∙◌, subst}
use Rattle.std.specs.Prelude.{◌==◌}
use mathlib.Core.List.{IsPrefix}
use prog.Atomic.{either}
use Rattle.ct_house.specs.Publications.{Reach, newest}
use Rattle.ct_house.proofs.Steps.{turn_holds}
use Rattle.ct_house.proofs.Reaching.{begun_by, same_line, extends_as}
use Rattle.ct_house.proofs.publications.Reached.vouch_for.Goals as goal

pub compare_exchange-requires : goal.compare_exchange-requires
compare_exchange-requires c =
    let h = c.requires.head in
    let same = c.learn.ensures.0 ∙ (ap (λ s. s.book) c.again-both.ensures ∙ ap (λ r. r.book) c.self.view_is) in
    let offer = c.plain-offer.ensures in (
      ap (λ w. w.tracked) h,
      same ∙ sym (ap (λ w. w.book) h),
      c.requires.turn.0 ∙ sym (ap (λ w. w.book) h),
      offer.0,
      rw (ap (λ w. w.key) h, offer.3)
          (turn_holds c.learn.new.self.log c.plain-offer.result.ask c.args.turn.now.nib (λ n. either (n == 0) 0 n) c.requires.turn.1.0),
    )

pub returns-clause-begins : goal.returns-clause-begins
returns-clause-begins c =
    let both = c.learn.new.self.log in
    let mine = c.self.inside.seen.log in
    let theirs = c.other.inside.seen.log in
    let this : IsPrefix mine both = subst (λ l. IsPrefix l both) (ap (λ s. s.log) c.again-both.ensures) c.learn.ensures.2 in
    let line = same_line _ _ _ _ c.self.view_is c.other.view_is c.requires.series in
    let turn : (newest mine).turn ≡ c.args.turn.now.nib.key = ap (λ (r : Reach). r.last.turn) c.self.view_is ∙ sym c.requires.turn.1.1 in
    extends_as _ _ _ _ c.other.view_is c.self.view_is
    (begun_by mine theirs both c.learn.ensures.4 c.self.invariant.0 c.other.invariant.0 this c.learn.ensures.3 line _ turn c.compare_exchange.ensures.7.1)
