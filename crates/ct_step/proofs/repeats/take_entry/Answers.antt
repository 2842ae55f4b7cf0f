use Rattle.std.proofs.Common.{map}
use Rattle.std.proofs.lemmas.List.{map_push}
use Rattle.ct_step.specs.StepBytes.{entry_parts}
use Rattle.ct_step.proofs.Splitting.{split_repeat, split_first}
use Rattle.ct_step.proofs.repeats.take_entry.Goals as goal

pub returns-in_ok-push-3 : goal.returns-in_ok-push-3
returns-in_ok-push-3 c seen h =
    let s = c.args.split.now in
    let e = c.args.entry in
    let chains = map (λ c. c.items) s.chains.items in
    rw (c.in_ok-push-2.ensures.items, c.in_ok-push-3.ensures.items, map_push (λ c. c.items) s.chains.items e.chain, c.in_ok-push.ensures.items)
    (split_first seen s.identities.keys s.submissions.items chains s.places.items e.submission e.chain.items c.in_ok-identity_bytes.field-0
    c.insert_full.new.self.keys c.in_ok-place.place c.in_ok-place.is_first h c.in_ok-identity_bytes.ensures c.in_ok-place.ensures.keys
    c.in_ok-place.ensures.index c.in_ok-place.ensures.added c.if-is_first.true e.short)

pub returns-else-is_first : goal.returns-else-is_first
returns-else-is_first c seen h =
    let s = c.args.split.now in
    let e = c.args.entry in
    let chains = map (λ c. c.items) s.chains.items in
    rw c.in_ok-push.ensures.items
    (split_repeat seen s.identities.keys s.submissions.items chains s.places.items (entry_parts e) c.in_ok-identity_bytes.field-0
    c.insert_full.new.self.keys c.in_ok-place.place c.in_ok-place.is_first h c.in_ok-identity_bytes.ensures c.in_ok-place.ensures.keys
    c.in_ok-place.ensures.index c.in_ok-place.ensures.added c.if-is_first.false)
