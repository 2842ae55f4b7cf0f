-- The data that a log has handed out to a watcher, and how a verdict changes it.
use Rattle.std.specs.Prelude.{ℕ, ◌-◌, ◌==◌, if◌then◌else◌, min, max, List, [], ◌++◌, length, take, Some, None}
use Rattle.std.specs.declared.option.Option.{Option}
use Rattle.ct_tree.specs.declared.head.Head.{Head}
use Rattle.ct_monitor.specs.Heads.{at_timestamp}
use Rattle.ct_monitor.specs.declared.newest.Newest.{Newest}
use Rattle.ct_monitor.specs.declared.verdict.Verdict.{Verdict}
use Rattle.ct_monitor.specs.declared.verdict.Verdict.TheVariants.{Accepted, Pending, Again, RootMismatch}

-- The data that a log has handed out: the last accepted head with its leaves, the newer head that waits, and the leaves that were read
-- after the accepted ones. A log signs one tree again and again, with other timestamps. So each of the two heads has the earliest timestamp
-- that was handed out with its size and root, and `newest` has the newest ones.
pub record Watched : Type 0 where
  pub accepted : Option Head
  pub sure : List (List ℕ)
  pub waiting : Option Head
  pub ahead : List (List ℕ)
  pub newest : Newest

-- all leaves that were read
abbrev pub leaves_read : Watched → List (List ℕ)
leaves_read w = w.sure ++ w.ahead

-- the head that waits, or this one if none waits
abbrev pub waiting_or : Option Head → Head → Head
waiting_or None head = head
waiting_or (Some waiting) head = waiting

-- the newest timestamp of the head that waits, or the timestamp of this one if none waits
abbrev pub newest_or : Option Head → ℕ → Head → ℕ
newest_or None newest head = head.timestamp
newest_or (Some waiting) newest head = newest

-- the leaves D, and after them those of E as far as the head goes
abbrev pub with_more : List (List ℕ) → Head → List (List ℕ) → List (List ℕ)
with_more D head E = D ++ take (head.tree_size - length D) E

-- the leaves E are read, as far as the head goes
abbrev pub read_on : Watched → Head → List (List ℕ) → Watched
read_on w head E = record w { ahead = w.ahead ++ take (head.tree_size - length (leaves_read w)) E }

-- the data that was handed out, after a verdict on the waiting head, whose newest timestamp is `newest`. The head is accepted with all
-- leaves that were read, or it is discarded with the leaves that were not accepted, or it keeps waiting
abbrev pub after_verdict : Watched → Head → ℕ → Verdict → Watched
after_verdict w head newest Accepted =
    record { accepted = Some head; sure = leaves_read w; waiting = None; ahead = []; newest = record { accepted = newest; waiting = 0 } }
after_verdict w head newest (RootMismatch root) = record w { waiting = None; ahead = []; newest = record { accepted = w.newest.accepted; waiting = 0 } }
after_verdict w head newest Pending = record w { waiting = Some head; newest = record { accepted = w.newest.accepted; waiting = newest } }
after_verdict w head newest v = w

-- a known head after this one: if this one has its size, the earlier of the two timestamps counts
abbrev pub earliest_with : Option Head → Head → Option Head
earliest_with None head = None
earliest_with (Some known) head =
    Some (if known.tree_size == head.tree_size then at_timestamp known (min known.timestamp head.timestamp) else known)

-- the newest timestamp of a known head after this one: if this one has its size, the later of the two counts
abbrev pub newest_with : Option Head → ℕ → Head → ℕ
newest_with None newest head = newest
newest_with (Some known) newest head = if known.tree_size == head.tree_size then max newest head.timestamp else newest

-- a known head was handed out again
abbrev pub after_again : Watched → Head → Watched
after_again w head = record w {
  accepted = earliest_with w.accepted head;
  waiting = earliest_with w.waiting head;
  newest = record { accepted = newest_with w.accepted w.newest.accepted head; waiting = newest_with w.waiting w.newest.waiting head };
}

-- the data that was handed out, after the verdict on a head
abbrev pub after_head : Watched → Head → Verdict → Watched
after_head w head Again = after_again w head
after_head w head v = after_verdict w (waiting_or w.waiting head) (newest_or w.waiting w.newest.waiting head) v

-- nothing was handed out yet
abbrev pub nothing_seen : Watched
nothing_seen = record { accepted = None; sure = []; waiting = None; ahead = []; newest = record { accepted = 0; waiting = 0 } }
