use Rattle.std.proofs.Common.{◌≡◌, List, [], ◌∷◌, ◌++◌, refl, ap, sym, ◌∙◌, subst, ◌≤◌, ℕ, rules}
use Rattle.std.specs.Arc.{arc_value}
use Rattle.ct_codec.specs.declared.refusal.Refusal.TheVariants.{Memory}
use Rattle.ct_codec.specs.Submitted.{Submitted}
use Rattle.ct_core.specs.declared.settled.Settled.{Settled}
use Rattle.ct_core.specs.Core.{clock_of, entry_at}
use Rattle.ct_core.specs.Leaf.{Entry}
use Rattle.ct_core.proofs.SettleSteps.{placed_record, same_fields, in_time_refusal, settles}
use Rattle.ct_core.proofs.sequencing.Core.settle_one.Goals as goal

pub returns-in-Err-clause-refused : goal.returns-in-Err-clause-refused
returns-in-Err-clause-refused c =
    let a = c.self.inside in
    let memory : c.into.result ≡ Memory = search rules in (
      memory ∙ in_time_refusal c.args.self.now c.args.now c.clock.result c.clock.ensures c.if-now-clock.false,
      refl,
      same_fields (arc_value a.published) a.entries.keys a.entries.keys a.settlement.items c.reserve.new.self.items refl c.reserve.ensures.items ∙ c.self.view_is,
    )

pub returns-in-Err-reserve-clause-refused : goal.returns-in-Err-reserve-clause-refused
returns-in-Err-reserve-clause-refused c =
    let a = c.self.inside in
    let memory : c.into-in-Err-reserve.result ≡ Memory = search rules in (
      memory ∙ in_time_refusal c.args.self.now c.args.now c.clock.result c.clock.ensures c.if-now-clock.false,
      refl,
      same_fields (arc_value a.published) a.entries.keys c.reserve-2.new.self.keys a.settlement.items c.reserve.new.self.items c.reserve-2.ensures.keys c.reserve.ensures.items ∙ c.self.view_is,
    )

pub invariant_of-self-2 : goal.invariant_of-self-2
invariant_of-self-2 c =
    let a = c.self.inside in
    let p = c.place_reserved-index in
    let clock = c.clock.ensures ∙ ap clock_of (sym c.self.view_is) in
    let entry : c.new-entry.result ≡ entry_at c.args.now c.args.item = c.new-entry.ensures.value
    ∙ ap (λ (s : Submitted). let e : Entry = record { submission = s; timestamp = c.args.now } in e) c.in-Ok.ensures.ok in
    let later : c.push_reserved.new.list.items ≡ a.settlement.items ++ placed_record c.args.item p.result.0 p.result.1 ∷ [] = c.push_reserved.ensures
    ∙ ap (λ (rs : List Settled). rs ++ placed_record c.args.item p.result.0 p.result.1 ∷ []) c.reserve.ensures.items in
    let all = settles (arc_value a.published) a.entries.keys c.reserve-2.new.self.keys p.new.known.keys a.settlement.items c.push_reserved.new.list.items
    c.args.item c.new-entry.result c.args.now c.clock.result p.result.0 p.result.1 c.self.invariant c.new-entry.ensures.texts clock
    c.if-now-clock.false c.reserve-2.ensures.keys entry p.ensures.place p.ensures.first p.ensures.added later in
    all.core

pub returns-clause-settled : goal.returns-clause-settled
returns-clause-settled c =
    let a = c.self.inside in
    let p = c.place_reserved-index in
    let clock = c.clock.ensures ∙ ap clock_of (sym c.self.view_is) in
    let entry : c.new-entry.result ≡ entry_at c.args.now c.args.item = c.new-entry.ensures.value
    ∙ ap (λ (s : Submitted). let e : Entry = record { submission = s; timestamp = c.args.now } in e) c.in-Ok.ensures.ok in
    let later : c.push_reserved.new.list.items ≡ a.settlement.items ++ placed_record c.args.item p.result.0 p.result.1 ∷ [] = c.push_reserved.ensures
    ∙ ap (λ (rs : List Settled). rs ++ placed_record c.args.item p.result.0 p.result.1 ∷ []) c.reserve.ensures.items in
    let all = settles (arc_value a.published) a.entries.keys c.reserve-2.new.self.keys p.new.known.keys a.settlement.items c.push_reserved.new.list.items
    c.args.item c.new-entry.result c.args.now c.clock.result p.result.0 p.result.1 c.self.invariant c.new-entry.ensures.texts clock
    c.if-now-clock.false c.reserve-2.ensures.keys entry p.ensures.place p.ensures.first p.ensures.added later in
    rw (← c.self.view_is) all.grows

pub returns-clause-in_time : goal.returns-clause-in_time
returns-clause-in_time c =
    let a = c.self.inside in
    let p = c.place_reserved-index in
    let clock = c.clock.ensures ∙ ap clock_of (sym c.self.view_is) in
    let entry : c.new-entry.result ≡ entry_at c.args.now c.args.item = c.new-entry.ensures.value
    ∙ ap (λ (s : Submitted). let e : Entry = record { submission = s; timestamp = c.args.now } in e) c.in-Ok.ensures.ok in
    let later : c.push_reserved.new.list.items ≡ a.settlement.items ++ placed_record c.args.item p.result.0 p.result.1 ∷ [] = c.push_reserved.ensures
    ∙ ap (λ (rs : List Settled). rs ++ placed_record c.args.item p.result.0 p.result.1 ∷ []) c.reserve.ensures.items in
    let all = settles (arc_value a.published) a.entries.keys c.reserve-2.new.self.keys p.new.known.keys a.settlement.items c.push_reserved.new.list.items
    c.args.item c.new-entry.result c.args.now c.clock.result p.result.0 p.result.1 c.self.invariant c.new-entry.ensures.texts clock
    c.if-now-clock.false c.reserve-2.ensures.keys entry p.ensures.place p.ensures.first p.ensures.added later in
    rw (← c.self.view_is) (subst (λ (n : ℕ). n ≤ c.args.now) clock c.if-now-clock.false, all.clock)

pub returns-clause-begins : goal.returns-clause-begins
returns-clause-begins c =
    let a = c.self.inside in
    let p = c.place_reserved-index in
    let clock = c.clock.ensures ∙ ap clock_of (sym c.self.view_is) in
    let entry : c.new-entry.result ≡ entry_at c.args.now c.args.item = c.new-entry.ensures.value
    ∙ ap (λ (s : Submitted). let e : Entry = record { submission = s; timestamp = c.args.now } in e) c.in-Ok.ensures.ok in
    let later : c.push_reserved.new.list.items ≡ a.settlement.items ++ placed_record c.args.item p.result.0 p.result.1 ∷ [] = c.push_reserved.ensures
    ∙ ap (λ (rs : List Settled). rs ++ placed_record c.args.item p.result.0 p.result.1 ∷ []) c.reserve.ensures.items in
    let all = settles (arc_value a.published) a.entries.keys c.reserve-2.new.self.keys p.new.known.keys a.settlement.items c.push_reserved.new.list.items
    c.args.item c.new-entry.result c.args.now c.clock.result p.result.0 p.result.1 c.self.invariant c.new-entry.ensures.texts clock
    c.if-now-clock.false c.reserve-2.ensures.keys entry p.ensures.place p.ensures.first p.ensures.added later in
    rw (← c.self.view_is) all.begins
