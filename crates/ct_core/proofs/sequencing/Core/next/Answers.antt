use Rattle.std.proofs.Common.{◌≡◌, ◌<◌, length, sym, subst}
use Rattle.std.proofs.lemmas.Result.{IfOk-weaker}
use Rattle.std.specs.Arc.{arc_value}
use Rattle.std.specs.Prelude.{IfOk}
use Rattle.ct_core.specs.Settlement.{Log}
use Rattle.ct_core.specs.Core.{CoreState, IsCore, Extends, IsNextState}
use Rattle.ct_core.specs.Parts.{with_rest}
use Rattle.ct_core.proofs.AdoptSteps.{parted, follows, Follows}
use Rattle.ct_core.proofs.sequencing.Core.next.Goals as goal

pub extended-requires-clause-core : goal.extended-requires-clause-core
extended-requires-clause-core c =
    let parts : with_rest c.deref.result.now c.pending.result.now c.deref-2.result.now ≡ c.args.self.now =
    parted c.args.self.now c.deref.result.now (arc_value c.self.inside.published) c.self.inside.entries.keys c.pending.result.now
    c.self.inside.settlement.items c.deref-2.result.now c.self.view_is c.deref.ensures c.pending.ensures c.deref-2.ensures.value in
    subst IsCore (sym parts) (subst IsCore c.self.view_is c.self.invariant)

pub returns-clause-state : goal.returns-clause-state
returns-clause-state c =
    let parts : with_rest c.deref.result.now c.pending.result.now c.deref-2.result.now ≡ c.args.self.now =
    parted c.args.self.now c.deref.result.now (arc_value c.self.inside.published) c.self.inside.entries.keys c.pending.result.now
    c.self.inside.settlement.items c.deref-2.result.now c.self.view_is c.deref.ensures c.pending.ensures c.deref-2.ensures.value in
    let state : IfOk c.extended.result (IsNextState c.args.self.now c.args.now) = subst (λ (s : CoreState). IfOk c.extended.result (IsNextState s c.args.now))
    parts c.extended.ensures.state in
    state

pub returns-clause-extends : goal.returns-clause-extends
returns-clause-extends c =
    let parts : with_rest c.deref.result.now c.pending.result.now c.deref-2.result.now ≡ c.args.self.now =
    parted c.args.self.now c.deref.result.now (arc_value c.self.inside.published) c.self.inside.entries.keys c.pending.result.now
    c.self.inside.settlement.items c.deref-2.result.now c.self.view_is c.deref.ensures c.pending.ensures c.deref-2.ensures.value in
    let state : IfOk c.extended.result (IsNextState c.args.self.now c.args.now) = subst (λ (s : CoreState). IfOk c.extended.result (IsNextState s c.args.now))
    parts c.extended.ensures.state in
    let core : IsCore c.args.self.now = subst IsCore c.self.view_is c.self.invariant in
    let old = c.args.self.now.published in
    IfOk-weaker c.extended.result (IsNextState c.args.self.now c.args.now) (Extends old)
    (λ p next. let all : Follows old p = follows c.args.self.now c.args.now core p next in all.extends) state

pub returns-clause-newer : goal.returns-clause-newer
returns-clause-newer c =
    let parts : with_rest c.deref.result.now c.pending.result.now c.deref-2.result.now ≡ c.args.self.now =
    parted c.args.self.now c.deref.result.now (arc_value c.self.inside.published) c.self.inside.entries.keys c.pending.result.now
    c.self.inside.settlement.items c.deref-2.result.now c.self.view_is c.deref.ensures c.pending.ensures c.deref-2.ensures.value in
    let state : IfOk c.extended.result (IsNextState c.args.self.now c.args.now) = subst (λ (s : CoreState). IfOk c.extended.result (IsNextState s c.args.now))
    parts c.extended.ensures.state in
    let core : IsCore c.args.self.now = subst IsCore c.self.view_is c.self.invariant in
    let old = c.args.self.now.published in
    IfOk-weaker c.extended.result (IsNextState c.args.self.now c.args.now) (λ (p : Log). length old.heads < length p.heads)
    (λ p next. let all : Follows old p = follows c.args.self.now c.args.now core p next in all.longer) state
