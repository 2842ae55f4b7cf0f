-- The command of a node that follows after an outcome.
use Rattle.std.specs.Prelude.{ℕ, Bool, not, ◌&&◌, ◌==◌, nat_lt, if◌then◌else◌}
use Rattle.ct_node.specs.declared.state.State.{State}
use Rattle.ct_node.specs.declared.node.Node.{Node}
use Rattle.ct_node.specs.declared.node.Node.TheVariants.{Reading, Looking, Stepping, Staging, Swapping, Deleting, Putting, Placing, Heading, Answering}
use Rattle.ct_node.specs.declared.node.Outcome.{Outcome}
use Rattle.ct_node.specs.declared.node.Outcome.TheVariants.{Done, Lost, Read, Published, Bundle, Stepped, Listed}

-- the state l may come after k: it was made from a state with k's timestamp, and is later
abbrev pub follows : State → State → Bool
follows k l = l.before == k.moment && nat_lt k.moment l.moment

-- once the lock came to k, l is not needed: l is not k, and it was made from a state with an earlier timestamp than k's
abbrev pub is_behind : State → State → Bool
is_behind k l = nat_lt l.before k.moment && not (l.moment == k.moment && l.salt == k.salt)

-- reading: the state that was read is looked up
abbrev pub on_reading : Outcome → Node
on_reading (Read k) = Looking k
on_reading o = Reading

-- looking at k: if its head exists, a step may be made from k, otherwise the objects of its staged batch are put first
abbrev pub on_looking : State → Outcome → Node
on_looking k Published = Stepping k
on_looking k (Bundle n) = Putting k n
on_looking k Lost = Reading
on_looking k o = Looking k

-- stepping from k: a step that may come after k is staged, and a staged batch that is not needed any more is deleted
abbrev pub on_stepping : State → Outcome → Node
on_stepping k (Stepped l n) = if follows k l then Staging k l n else Stepping k
on_stepping k (Listed l) = if is_behind k l then Deleting k l else Stepping k
on_stepping k Lost = Reading
on_stepping k o = Stepping k

-- staging the step from k to l: once its staged batch is stored, l replaces k in the lock
abbrev pub on_staging : State → State → ℕ → Outcome → Node
on_staging k l n Done = Swapping k l n
on_staging k l n Lost = Reading
on_staging k l n o = Staging k l n

-- swapping k for l: once the lock took l, its objects are put
abbrev pub on_swapping : State → State → ℕ → Outcome → Node
on_swapping k l n Done = Putting l n
on_swapping k l n Lost = Reading
on_swapping k l n o = Swapping k l n

-- deleting the staged batch of l: whatever the outcome, a step may be made from k
abbrev pub on_deleting : State → State → Outcome → Node
on_deleting k l Done = Stepping k
on_deleting k l Lost = Stepping k
on_deleting k l o = Deleting k l

-- putting the objects: after that, the index entries are added
abbrev pub on_putting : State → ℕ → Outcome → Node
on_putting l n Done = Placing l
on_putting l n Lost = Reading
on_putting l n o = Putting l n

-- adding the index entries: after that, the head is put
abbrev pub on_placing : State → Outcome → Node
on_placing l Done = Heading l
on_placing l Lost = Reading
on_placing l o = Placing l

-- putting the head: after that, the waiting requests are answered
abbrev pub on_heading : State → Outcome → Node
on_heading l Done = Answering l
on_heading l Lost = Reading
on_heading l o = Heading l

-- answering the waiting requests: whatever the outcome, the lock is read again
abbrev pub on_answering : State → Outcome → Node
on_answering l Done = Reading
on_answering l Lost = Reading
on_answering l o = Answering l

-- The command that follows a command and its outcome. An outcome that does not belong to the command leaves the node as it is, so the
-- command is given once more.
abbrev pub after : Node → Outcome → Node
after Reading o = on_reading o
after (Looking k) o = on_looking k o
after (Stepping k) o = on_stepping k o
after (Staging k l n) o = on_staging k l n o
after (Swapping k l n) o = on_swapping k l n o
after (Deleting k l) o = on_deleting k l o
after (Putting l n) o = on_putting l n o
after (Placing l) o = on_placing l o
after (Heading l) o = on_heading l o
after (Answering l) o = on_answering l o
