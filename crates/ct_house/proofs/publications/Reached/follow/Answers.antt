use Rattle.std.proofs.Common.{◌≤◌, length, ap, subst, ◌∙◌, arith}
use mathlib.Core.List.{IsPrefix}
use Rattle.ct_house.specs.Publications.{Reach, newest}
use Rattle.ct_house.proofs.Reaching.{two_seen, same_line, extends_as}
use Rattle.ct_house.proofs.publications.Reached.follow.Goals as goal

pub returns : goal.returns
returns c =
    let both = c.learn.new.self.log in
    let mine = c.self.inside.seen.log in
    let theirs = c.other.inside.seen.log in
    let this : IsPrefix mine both = subst (λ l. IsPrefix l both) (ap (λ s. s.log) c.again-both.ensures) c.learn.ensures.2 in
    let line = same_line _ _ _ _ c.self.view_is c.other.view_is c.requires in
    let i = c.self.invariant in
    let o = c.other.invariant in
    let more = c.if-other-self.false in
    let fewer : length (newest mine).state.heads ≤ length (newest theirs).state.heads = omega (arith, i.1, o.1, more) in (
      extends_as _ _ _ _ c.self.view_is c.other.view_is (two_seen mine theirs both c.learn.ensures.4 i.0 o.0 this c.learn.ensures.3 line fewer),
      ap (λ s. let r : Reach = record { book = s.book; last = newest s.log } in r) c.again.ensures ∙ c.other.view_is,
    )
