use Rattle.std.proofs.Common.{map}
use Rattle.std.proofs.lemmas.List.{map-append}
use Rattle.ct_workers.proofs.ScriptPartyLemmas.{fronts_do_more}
use Rattle.ct_workers.proofs.threads.join_fronts.Goals as goal

pub loop-thread-preserved : goal.loop-thread-preserved
loop-thread-preserved g c =
    rw map-append
    (fronts_do_more (map (λ t. t.promise.0.value) c.loop-thread.yielded) c.loop-thread.parties.items c.keep_party.new.parties.items
    c.in-Some.thread.promise.0.value c.in_ok-party.party c.loop-thread.invariant c.in_ok-party.ensures c.in_ok-keep_party.ensures.kept)
