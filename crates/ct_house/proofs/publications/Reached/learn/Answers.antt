use Rattle.std.proofs.Common.{◌≤◌, length, ap, subst, sym, arith, inl, inr}
use mathlib.Core.List.{IsPrefix}
use Rattle.ct_core.specs.Core.{Extends}
use Rattle.ct_house.specs.Publications.{Reach, newest}
use Rattle.ct_house.proofs.Reaching.{two_seen, same_line, extends_as}
use Rattle.ct_house.proofs.publications.Reached.learn.Goals as goal

pub returns-then-self-other-clause-one : goal.returns-then-self-other-clause-one
returns-then-self-other-clause-one c =
    let both = c.learn.new.self.log in
    let mine = c.self.inside.seen.log in
    let theirs = c.other.inside.seen.log in
    let this : IsPrefix mine both = subst (λ l. IsPrefix l both) (ap (λ s. s.log) c.again-both.ensures) c.learn.ensures.2 in
    let line = same_line _ _ _ _ c.self.view_is c.other.view_is c.requires in
    let i = c.self.invariant in
    let o = c.other.invariant in
    let less = c.if-self-other.true in
    let fewer : length (newest mine).state.heads ≤ length (newest theirs).state.heads = omega (arith, i.1, o.1, less) in
    let later = two_seen mine theirs both c.learn.ensures.4 i.0 o.0 this c.learn.ensures.3 line fewer in
    inl (extends_as _ _ _ _ c.self.view_is c.other.view_is later)

pub returns-then-self-other-clause-this : goal.returns-then-self-other-clause-this
returns-then-self-other-clause-this c =
    let both = c.learn.new.self.log in
    let mine = c.self.inside.seen.log in
    let theirs = c.other.inside.seen.log in
    let this : IsPrefix mine both = subst (λ l. IsPrefix l both) (ap (λ s. s.log) c.again-both.ensures) c.learn.ensures.2 in
    let line = same_line _ _ _ _ c.self.view_is c.other.view_is c.requires in
    let i = c.self.invariant in
    let o = c.other.invariant in
    let less = c.if-self-other.true in
    let fewer : length (newest mine).state.heads ≤ length (newest theirs).state.heads = omega (arith, i.1, o.1, less) in
    let later = two_seen mine theirs both c.learn.ensures.4 i.0 o.0 this c.learn.ensures.3 line fewer in
    rw (ap (λ s. s.log) c.again.ensures) (subst (λ (r : Reach). Extends r.last.state (newest theirs).state) c.self.view_is later)

pub returns-clause-one : goal.returns-clause-one
returns-clause-one c =
    let both = c.learn.new.self.log in
    let mine = c.self.inside.seen.log in
    let theirs = c.other.inside.seen.log in
    let this : IsPrefix mine both = subst (λ l. IsPrefix l both) (ap (λ s. s.log) c.again-both.ensures) c.learn.ensures.2 in
    let line = same_line _ _ _ _ c.self.view_is c.other.view_is c.requires in
    let i = c.self.invariant in
    let o = c.other.invariant in
    let more = c.if-self-other.false in
    let fewer : length (newest theirs).state.heads ≤ length (newest mine).state.heads = omega (arith, i.1, o.1, more) in
    let later = two_seen theirs mine both c.learn.ensures.4 o.0 i.0 c.learn.ensures.3 this (sym line) fewer in
    inr (extends_as _ _ _ _ c.other.view_is c.self.view_is later)

pub returns-clause-that : goal.returns-clause-that
returns-clause-that c =
    let both = c.learn.new.self.log in
    let mine = c.self.inside.seen.log in
    let theirs = c.other.inside.seen.log in
    let this : IsPrefix mine both = subst (λ l. IsPrefix l both) (ap (λ s. s.log) c.again-both.ensures) c.learn.ensures.2 in
    let line = same_line _ _ _ _ c.self.view_is c.other.view_is c.requires in
    let i = c.self.invariant in
    let o = c.other.invariant in
    let more = c.if-self-other.false in
    let fewer : length (newest theirs).state.heads ≤ length (newest mine).state.heads = omega (arith, i.1, o.1, more) in
    let later = two_seen theirs mine both c.learn.ensures.4 o.0 i.0 c.learn.ensures.3 this (sym line) fewer in
    extends_as _ _ _ _ c.other.view_is c.self.view_is later
