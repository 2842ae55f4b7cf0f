use Rattle.std.proofs.Common.{rules, ◌≡◌, ◌<◌, ◌≤◌}
use Rattle.libwagtenib.proofs.witness.judge.Goals as goal

pub returns-then-is_timely : goal.returns-then-is_timely
returns-then-is_timely c =
    let same : c.args.checkpoint.now.origin.now ≡ c.args.last.now.origin.now = search rules in
    let timely : (0 < c.args.time) × (c.args.last.now.time ≤ c.args.time) = search rules in
    (same, c.in-Ok.ensures.passes, c.are_hashes.ensures, timely.0, timely.1)
