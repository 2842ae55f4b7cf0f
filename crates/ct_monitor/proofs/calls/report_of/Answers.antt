use Rattle.ct_monitor.proofs.Answered.{finds}
use Rattle.ct_monitor.proofs.calls.report_of.Goals as goal

pub returns : goal.returns
returns c =
    finds c.args.watcher.now c.args.leaves.now c.size_awaited.result c.leaves_read-first.result c.waiting_moment.result c.room_for-count.result c.first_later.result
    c.first_faulty.result c.size_awaited.ensures c.leaves_read-first.ensures c.waiting_moment.ensures c.room_for-count.ensures.as_far c.first_later.ensures
    c.first_faulty.ensures
