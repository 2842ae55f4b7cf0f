-- The meaning of each verdict.
use Rattle.std.specs.Prelude.{◌≡◌, ◌⊎◌, ⊤, Bool, true, false, ℕ, ◌<◌, ◌≤◌, List, [], length, Some, None}
use Rattle.std.specs.declared.option.Option.{Option}
use Rattle.ct_tree.specs.Tree.{mth_of_leaves}
use Rattle.ct_tree.specs.declared.head.Head.{Head}
use Rattle.ct_verify.specs.Verdict.{AcceptsConsistency, RefusesConsistency}
use Rattle.ct_verify.specs.declared.fault.ProofFault.TheVariants.{FirstMismatch}
use Rattle.ct_monitor.specs.Heads.{at_timestamp}
use Rattle.ct_monitor.specs.Watched.{Watched, leaves_read, waiting_or, read_on, after_verdict}
use Rattle.ct_monitor.specs.declared.newest.Newest.{Newest}
use Rattle.ct_monitor.specs.declared.verdict.Verdict.{Verdict}
use Rattle.ct_monitor.specs.declared.verdict.Verdict.TheVariants.{Accepted, Pending, Again, Older, Shrunk, Fork, TimeNotLater, RootMismatch, Gap, Consistent, Inconsistent}

-- Two heads of one log contradict each other: they have one size and two roots, or the one with more leaves is not later. Each head of a
-- log is later than the heads of its smaller trees (RFC 6962, section 3.5).
abbrev pub Contradict : Head → Head → Type 0
Contradict a b = ((a.tree_size ≡ b.tree_size) × (¬ (a.root ≡ b.root)))
    ⊎ (((a.tree_size < b.tree_size) × (b.timestamp ≤ a.timestamp)) ⊎ ((b.tree_size < a.tree_size) × (a.timestamp ≤ b.timestamp)))

-- a verdict accuses the log: two heads contradict each other, or a head and the leaves. A proof that does not verify accuses nobody: the
-- log did not sign it
abbrev pub accuses : Verdict → Bool
accuses (Shrunk known) = true
accuses (Fork known) = true
accuses (TimeNotLater known) = true
accuses (RootMismatch root) = true
accuses v = false

-- a known head was handed out again
abbrev pub is_again : Verdict → Bool
is_again Again = true
is_again v = false

-- The verdict on a head compared with a known tree, unless the head has more leaves and is later. Heads of the known tree were handed out
-- with timestamps from that of `known` up to `newest`. The verdict names the one of both that it speaks of. `Shrunk` and `TimeNotLater`
-- make the same statement about two heads: `Shrunk` if the smaller head arrives second, `TimeNotLater` if the larger one does. `Older`
-- says nothing yet: a fork that lags is smaller and earlier as well.
abbrev pub IsBeside : Head → ℕ → Head → Verdict → Type 0
IsBeside known newest head (Older other) = (other ≡ known) × (head.tree_size < known.tree_size) × (head.timestamp < known.timestamp)
IsBeside known newest head (Shrunk other) = (other ≡ known) × (head.tree_size < known.tree_size) × (known.timestamp ≤ head.timestamp)
IsBeside known newest head Again = (head.tree_size ≡ known.tree_size) × (head.root ≡ known.root)
IsBeside known newest head (Fork other) = (other ≡ known) × (head.tree_size ≡ known.tree_size) × (¬ (head.root ≡ known.root))
IsBeside known newest head (TimeNotLater other) =
    (other ≡ at_timestamp known newest) × (known.tree_size < head.tree_size) × (head.timestamp ≤ newest)
IsBeside known newest head v = ⊥

-- the immediate verdict on a head compared with the known one, if there are both: older, shrunk, again, fork, not later
abbrev pub IsSaid : Option Head → ℕ → Head → Verdict → Type 0
IsSaid None newest head v = ⊥
IsSaid (Some known) newest head v = IsBeside known newest head v

-- there is no known head, or the head has more leaves and a later timestamp
abbrev pub IsGrownLater : Option Head → ℕ → Head → Type 0
IsGrownLater None newest head = ⊤
IsGrownLater (Some known) newest head = (known.tree_size < head.tree_size) × (newest < head.timestamp)

-- the known head does not accuse the log of this head
abbrev pub IsNotAccused : Option Head → ℕ → Head → Type 0
IsNotAccused known newest head = IsGrownLater known newest head ⊎ ((v : Verdict) × IsSaid known newest head v × (accuses v ≡ false))

-- The verdict on a head compared with the accepted and the waiting one, if there is one: what the accepted head says, if that accuses or
-- the waiting head does not accuse; what the waiting head says, if the accepted one does not accuse, and that accuses or the accepted head
-- says nothing. So an accusation comes first.
abbrev pub KnownSay : Option Head → Option Head → Newest → Head → Verdict → Type 0
KnownSay accepted waiting newest head v =
    (IsSaid accepted newest.accepted head v × ((accuses v ≡ true) ⊎ IsNotAccused waiting newest.waiting head))
    ⊎ (IsNotAccused accepted newest.accepted head × IsSaid waiting newest.waiting head v
    × ((accuses v ≡ true) ⊎ IsGrownLater accepted newest.accepted head))

-- the verdict on a head compared with the leaves D:
-- - accepted, if it is their head;
-- - a root mismatch, with the root of D, if it has their number of leaves and a different root;
-- - pending, if it has a different number of leaves
abbrev pub LeavesSay : (List ℕ → List ℕ) → List (List ℕ) → Head → Verdict → Type 0
LeavesSay H D head Accepted = (head.tree_size ≡ length D) × (head.root ≡ mth_of_leaves H D)
LeavesSay H D head (RootMismatch root) = (head.tree_size ≡ length D) × (root ≡ mth_of_leaves H D) × (¬ (head.root ≡ root))
LeavesSay H D head Pending = ¬ (head.tree_size ≡ length D)
LeavesSay H D head v = ⊥

-- the verdict on the waiting head compared with all leaves that were read
abbrev pub WaitingSays : (List ℕ → List ℕ) → Watched → Head → Verdict → Type 0
WaitingSays H w head v = LeavesSay H (leaves_read w) head v

-- the head has more leaves than the accepted and the waiting one, and is later
abbrev pub IsGrownLaterThanBoth : Option Head → Option Head → Newest → Head → Type 0
IsGrownLaterThanBoth accepted waiting newest head = IsGrownLater accepted newest.accepted head × IsGrownLater waiting newest.waiting head

-- the verdict on a head: compared with the accepted and the waiting head; if it is larger and later than both, the verdict on the head that
-- waits now
abbrev pub HeadSays : (List ℕ → List ℕ) → Watched → Head → Verdict → Type 0
HeadSays H w head v = KnownSay w.accepted w.waiting w.newest head v
    ⊎ (IsGrownLaterThanBoth w.accepted w.waiting w.newest head × WaitingSays H w (waiting_or w.waiting head) v)

-- the verdict on the leaves E from the index start on, if this head waits
abbrev pub EntriesSay : (List ℕ → List ℕ) → Watched → Option Head → ℕ → List (List ℕ) → Verdict → Type 0
EntriesSay H w None start E v = v ≡ Gap
EntriesSay H w (Some head) start E v = ((v ≡ Gap) × (¬ (start ≡ length (leaves_read w))))
    ⊎ ((start ≡ length (leaves_read w)) × WaitingSays H (read_on w head E) head v)

-- the data that was handed out up to these entries and the verdict on them
abbrev pub after_entries : Watched → Option Head → List (List ℕ) → Verdict → Watched
after_entries w None E v = w
after_entries w (Some head) E Gap = w
after_entries w (Some head) E v = after_verdict (read_on w head E) head w.newest.waiting v

-- the verdict on a consistency proof from the accepted head to the waiting one
abbrev pub ProofSays : (List ℕ → List ℕ) → Option Head → Option Head → List (List ℕ) → Verdict → Type 0
ProofSays H (Some first) (Some second) p Consistent = AcceptsConsistency H first.tree_size second.tree_size first.root second.root p
ProofSays H (Some first) (Some second) p (Inconsistent fault) = RefusesConsistency H first.tree_size second.tree_size first.root second.root p fault
ProofSays H (Some first) (Some second) p v = ⊥
ProofSays H (Some first) None p v = v ≡ Gap
ProofSays H None second p v = v ≡ Gap

-- the verdict on a consistency proof from an older head to a known one that has more leaves. The head of no leaves needs no
-- proof: its root is the hash of no bytes (RFC 6962, section 2.1)
abbrev pub LeadsTo : (List ℕ → List ℕ) → Head → Head → List (List ℕ) → Verdict → Type 0
LeadsTo H head known p Consistent = ((head.tree_size ≡ 0) × (head.root ≡ H []))
    ⊎ AcceptsConsistency H head.tree_size known.tree_size head.root known.root p
LeadsTo H head known p (Inconsistent fault) = ((head.tree_size ≡ 0) × (¬ (head.root ≡ H [])) × (fault ≡ FirstMismatch))
    ⊎ ((0 < head.tree_size) × RefusesConsistency H head.tree_size known.tree_size head.root known.root p fault)
LeadsTo H head known p v = ⊥

-- the known head has more leaves than this one
abbrev pub IsLarger : Option Head → Head → Head → Type 0
IsLarger None head known = ⊥
IsLarger (Some larger) head known = (known ≡ larger) × (head.tree_size < larger.tree_size)

-- there is no known head, or it has no more leaves than this one
abbrev pub IsNoLarger : Option Head → Head → Type 0
IsNoLarger None head = ⊤
IsNoLarger (Some known) head = known.tree_size ≤ head.tree_size

-- the verdict on a consistency proof from an older head: to the accepted head if that has more leaves, otherwise to the waiting one if
-- that has more; otherwise there is no such proof
abbrev pub OlderSays : (List ℕ → List ℕ) → Option Head → Option Head → Head → List (List ℕ) → Verdict → Type 0
OlderSays H accepted waiting head p v = ((known : Head) × IsLarger accepted head known × LeadsTo H head known p v)
    ⊎ (IsNoLarger accepted head
    × (((known : Head) × IsLarger waiting head known × LeadsTo H head known p v) ⊎ (IsNoLarger waiting head × (v ≡ Gap))))
