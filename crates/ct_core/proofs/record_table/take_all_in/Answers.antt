use Rattle.std.proofs.Common.{◌≡◌, List, [], ◌∷◌, ◌+◌, ◌++◌, length, get_or, map, take, ap, sym, ◌∙◌, subst, append_assoc}
use Rattle.std.proofs.lemmas.List.{length-append, take_all, take_more}
use Rattle.std.specs.Prelude.{false}
use Rattle.shared_table.specs.Looked.{places_from}
use Rattle.ct_core.specs.declared.settled.Settled.{Settled}
use Rattle.ct_core.specs.Tickets.{ticket_of, AreEntered}
use Rattle.ct_core.proofs.record_table.take_all_in.Goals as goal

pub loop-settled-preserved : goal.loop-settled-preserved
loop-settled-preserved c =
    let d : Settled = record { front = 0; ticket = 0; index = 0; first = false } in
    let i = c.loop-settled.settled-index in
    let records = c.args.records.now in
    let some = take i c.args.more.now in
    let settled = get_or c.args.more.now i d in
    let (taken, entered) = c.loop-settled.invariant in
    let step : take (i + 1) c.args.more.now ≡ some ++ settled ∷ [] = take_more c.args.more.now i d c.loop-settled-test.true in
    let count : length c.loop-settled.records ≡ length records + length some = ap length taken ∙ length-append records some in (
      c.in_ok-take_in.ensures.pushed ∙ ap (λ (rs : List Settled). rs ++ settled ∷ []) taken ∙ append_assoc records some (settled ∷ [])
          ∙ ap (λ (rs : List Settled). records ++ rs) (sym step),
      λ a. c.in_ok-take_in.ensures.entered (length records) some count entered a
          ∙ ap (λ (rs : List Settled). places_from (length records) (map ticket_of rs) a) (sym step),
    )

pub returns-clause-pushed : goal.returns-clause-pushed
returns-clause-pushed c =
    let all = take_all c.loop-settled.settled-index c.args.more.now c.loop-settled-test.false in
    let (taken, entered) = c.loop-settled.invariant in
    taken ∙ ap (λ (rs : List Settled). c.args.records.now ++ rs) all

pub returns-clause-entered : goal.returns-clause-entered
returns-clause-entered c =
    let all = take_all c.loop-settled.settled-index c.args.more.now c.loop-settled-test.false in
    let (taken, entered) = c.loop-settled.invariant in
    subst (AreEntered c.loop-settled.slots.items (length c.args.records.now)) all entered
