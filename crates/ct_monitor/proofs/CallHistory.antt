-- Heads that calls accepted.
use Rattle.std.proofs.Common.{◌≡◌, ◌∙◌, ◌-◌, ◌<◌, ◌≤◌, ℕ, List, [], ◌∷◌, ◌++◌, length, take, All, Bool, true, false, true≢false, min, max, ◌==◌, if◌then◌else◌, ◌⊎◌, ⊎_elim, Option, Some, None, sym, refl, ap, subst, arith, inl, inr, length-append, append_assoc, append-nil}
use Rattle.std.proofs.lemmas.Bool.{eqb-true}
use Rattle.ct_monitor.specs.declared.newest.Newest.{Newest}
use Rattle.ct_monitor.specs.Fitting.{NewestFits}
use Rattle.std.specs.Prelude.{⊤}
use Rattle.std.proofs.lemmas.List.{length-take, length-take-le, take-take}
use Rattle.std.proofs.lemmas.List.Elements.{All-nil, All-cons}
use Rattle.std.proofs.Math.Seq.{take-append_seam}
use Rattle.ct_tree.specs.Peaks.{peaks, peaks_within}
use Rattle.ct_tree.specs.Tree.{mth, mth_within, mth_of_leaves}
use Rattle.ct_tree.specs.declared.head.Head.{Head}
use Rattle.ct_verify.specs.Hashed.{CollideAmong}
use Rattle.ct_verify.specs.Laws.{AreHashes}
use Rattle.ct_verify.specs.Verdict.{AcceptsConsistency}
use Rattle.ct_verify.proofs.OlderTree.{proof_goes_back}
use Rattle.std.proofs.lemmas.Option.{same_Some}
use Rattle.ct_monitor.specs.Followed.{IsFollowing}
use Rattle.ct_monitor.specs.Heads.{IsHeadOfAll, at_timestamp}
use Rattle.ct_monitor.specs.Watched.{Watched, leaves_read, waiting_or, newest_or, read_on, after_again, after_head, after_verdict, earliest_with, newest_with, nothing_seen}
use Rattle.ct_monitor.specs.Verdicts.{IsSaid, IsGrownLater, IsNotAccused, KnownSay, LeadsTo, OlderSays, WaitingSays, HeadSays, EntriesSay, ProofSays, after_entries, is_again}
use Rattle.ct_monitor.specs.WatcherState.{WatcherState, Keeps}
use Rattle.ct_monitor.specs.declared.verdict.Verdict.{Verdict}
use Rattle.ct_monitor.specs.declared.verdict.Verdict.TheVariants.{Accepted, Pending, Again, Older, Shrunk, Fork, TimeNotLater, RootMismatch, Gap, Consistent, Inconsistent}
use Rattle.ct_monitor.proofs.Steps.{bool_cases, is_again_Again, known_changes_nothing, settled_after}
use Rattle.ct_monitor.specs.Calls.{Handed, a_head, entries_from, a_proof, an_older, HandedSays, IsMonitorBegin, nothing_state}
use Rattle.ct_monitor.specs.StateText.{IsInBytes, IsMonitorState}
use Rattle.ct_monitor.specs.CallLaws.{MonitorCall, IsCallOver, AreCalls, last_state, HandOut, IsOfFirstLeaves, IsNeverRefused, IsHashedForOlder, IsOlderOfFirstLeaves, KeepsInBytes, CallsAgree, IsWaiting, IsHandedOut, CallsAgreeFrom}
use Rattle.ct_monitor.proofs.Apart.{one_state, written_state}
use Rattle.ct_monitor.proofs.Fits.{states_fit}

-- These facts hold after an answer: a log can have handed out `next`; the accepted leaves stay; and an accepted head is the head of the new
-- accepted leaves.
pub record Follows (H : List ℕ → List ℕ) (w : Watched) (v : Verdict) (next : Watched) : Type 0 where
  pub watched : IsHandedOut H next
  pub grows : (Y : List (List ℕ)) × (next.sure ≡ w.sure ++ Y)
  pub accepts : v ≡ Accepted → (head : Head) × (next.accepted ≡ Some head) × IsHeadOfAll H next.sure head

-- verdicts that are not `Accepted`
abbrev is_accepted : Verdict → Type 0
is_accepted Accepted = ⊤
is_accepted v = ⊥

unchanged : (H : List ℕ → List ℕ) (w : Watched) (v : Verdict) → IsHandedOut H w → (v ≡ Accepted → ⊥) → Follows H w v w
unchanged H w v i n = record { watched = i; grows = ([], sym (append-nil w.sure)); accepts = λ e. absurd (n e) }

-- a verdict from a known head
said_not_accepted : (known : Option Head) (newest : ℕ) (head : Head) (v : Verdict) → IsSaid known newest head v → v ≡ Accepted → ⊥
said_not_accepted None newest head v s e = s
said_not_accepted (Some known) newest head v s e = subst (λ (x : Verdict). IsSaid (Some known) newest head x) e s

known_not_accepted : (w : Watched) (head : Head) (v : Verdict) → KnownSay w.accepted w.waiting w.newest head v → v ≡ Accepted → ⊥
known_not_accepted w head v (inl s) = said_not_accepted w.accepted w.newest.accepted head v s.0
known_not_accepted w head v (inr s) = said_not_accepted w.waiting w.newest.waiting head v s.1

-- the waiting head is larger and later than the accepted one, and has at least as many leaves as were read
pub record Waits (w : Watched) (head : Head) : Type 0 where
  pub grown : IsGrownLater w.accepted w.newest.accepted head
  pub room : length (leaves_read w) ≤ head.tree_size

-- the verdict on the waiting head
settled_follows : (H : List ℕ → List ℕ) (w : Watched) (head : Head) (newest : ℕ) (v : Verdict) → IsFollowing H w.sure w.accepted
    → NewestFits w.accepted w.newest.accepted → head.timestamp ≤ newest → Waits w head → WaitingSays H w head v → Follows H w v (after_verdict w head newest v)
settled_follows H w head newest Accepted f t u r s = record {
  watched = (s, refl, u, tt);
  grows = (w.ahead, refl);
  accepts = λ e. (head, refl, s);
}
settled_follows H w head newest (RootMismatch root) f t u r s = record {
  watched = (f, refl, t, tt);
  grows = ([], sym (append-nil w.sure));
  accepts = λ e. absurd (subst is_accepted (sym e) tt);
}
settled_follows H w head newest Pending f t u r s = record {
  watched = (f, (r.grown, below (length (leaves_read w)) head.tree_size r.room s), t, u);
  grows = ([], sym (append-nil w.sure));
  accepts = λ e. absurd (subst is_accepted (sym e) tt);
}
  where
    below : (n m : ℕ) → n ≤ m → (m ≡ n → ⊥) → n < m
    below n m h k = omega (arith, h, k)
settled_follows H w head newest Again f t u r s = absurd s
settled_follows H w head newest (Older known) f t u r s = absurd s
settled_follows H w head newest (Shrunk known) f t u r s = absurd s
settled_follows H w head newest (Fork known) f t u r s = absurd s
settled_follows H w head newest (TimeNotLater known) f t u r s = absurd s
settled_follows H w head newest Gap f t u r s = absurd s
settled_follows H w head newest Consistent f t u r s = absurd s
settled_follows H w head newest (Inconsistent fault) f t u r s = absurd s

-- ---- a head

-- if no head waits, all leaves are accepted, and a head that is larger than the accepted one has at least as many leaves
first_room : (H : List ℕ → List ℕ) (sure : List (List ℕ)) (accepted : Option Head) (newest : ℕ) (head : Head) → IsFollowing H sure accepted
    → IsGrownLater accepted newest head → length sure ≤ head.tree_size
first_room H sure None newest head f g = omega (arith, ap length f)
first_room H sure (Some known) newest head f g = omega (arith, f.0, g.0)

waits_for : (H : List ℕ → List ℕ) (w : Watched) (waiting : Option Head) (head : Head) → IsFollowing H w.sure w.accepted → IsWaiting w waiting
    → IsGrownLater w.accepted w.newest.accepted head → Waits w (waiting_or waiting head)
waits_for H w None head f i g = record {
  grown = g;
  room = omega (arith, first_room H w.sure w.accepted w.newest.accepted head f g, ap length i, length-append w.sure w.ahead);
}
waits_for H w (Some waiting) head f i g = record { grown = i.0; room = omega (arith, i.1) }

newest_of : (waiting : Option Head) (newest : ℕ) (head : Head) → NewestFits waiting newest → (waiting_or waiting head).timestamp ≤ newest_or waiting newest head
newest_of None newest head f = omega arith
newest_of (Some waiting) newest head f = f

-- ---- a head that was handed out again

-- a known head after another one, by cases: it is the same, or has another timestamp
again_cases : (P : Head → ℕ → Type 0) (known : Head) (newest : ℕ) (head : Head) (b : Bool)
    → (b ≡ true → P (at_timestamp known (min known.timestamp head.timestamp)) (max newest head.timestamp)) → (b ≡ false → P known newest)
    → P (if b then at_timestamp known (min known.timestamp head.timestamp) else known) (if b then max newest head.timestamp else newest)
again_cases P known newest head true same other = same refl
again_cases P known newest head false same other = other refl

again_following : (H : List ℕ → List ℕ) (D : List (List ℕ)) (known : Option Head) (head : Head) → IsFollowing H D known → IsFollowing H D (earliest_with known head)
again_following H D None head f = f
again_following H D (Some known) head f =
    again_cases (λ k n. IsHeadOfAll H D k) known 0 head (known.tree_size == head.tree_size) (λ e. f) (λ e. f)

again_fits : (known : Option Head) (newest : ℕ) (head : Head) → NewestFits known newest → NewestFits (earliest_with known head) (newest_with known newest head)
again_fits None newest head f = f
again_fits (Some known) newest head f =
    again_cases (λ k n. k.timestamp ≤ n) known newest head (known.tree_size == head.tree_size) (λ e. omega (arith, f)) (λ e. f)

-- the waiting head waits no longer than the accepted one, whichever was handed out again
abbrev Apart : Head → Head → ℕ → Head → Type 0
Apart known waiting newest head =
    ((head.tree_size ≡ known.tree_size) × (head.timestamp < waiting.timestamp)) ⊎ ((head.tree_size ≡ waiting.tree_size) × (newest < head.timestamp))

not_accused_again : (known waiting : Head) (newest : ℕ) (head : Head) → known.tree_size < waiting.tree_size → head.tree_size ≡ known.tree_size
    → IsNotAccused (Some waiting) newest head → head.timestamp < waiting.timestamp
not_accused_again known waiting newest head less same (inl grown) = absurd (omega (arith, less, same, grown.0))
not_accused_again known waiting newest head less same (inr (Older other, said, e)) = said.2
not_accused_again known waiting newest head less same (inr (Again, said, e)) = absurd (omega (arith, less, same, said.0))
not_accused_again known waiting newest head less same (inr (Shrunk other, said, e)) = absurd (true≢false e)
not_accused_again known waiting newest head less same (inr (Fork other, said, e)) = absurd (true≢false e)
not_accused_again known waiting newest head less same (inr (TimeNotLater other, said, e)) = absurd (true≢false e)
not_accused_again known waiting newest head less same (inr (Accepted, said, e)) = absurd said
not_accused_again known waiting newest head less same (inr (Pending, said, e)) = absurd said
not_accused_again known waiting newest head less same (inr (RootMismatch root, said, e)) = absurd said
not_accused_again known waiting newest head less same (inr (Gap, said, e)) = absurd said
not_accused_again known waiting newest head less same (inr (Consistent, said, e)) = absurd said
not_accused_again known waiting newest head less same (inr (Inconsistent fault, said, e)) = absurd said

are_apart : (known waiting : Head) (newest : Newest) (head : Head) → known.tree_size < waiting.tree_size → KnownSay (Some known) (Some waiting) newest head Again
    → Apart known waiting newest.accepted head
are_apart known waiting newest head less (inl (said, inl e)) = absurd (true≢false (sym e))
are_apart known waiting newest head less (inl (said, inr other)) =
    inl (said.0, not_accused_again known waiting newest.waiting head less said.0 other)
are_apart known waiting newest head less (inr (other, said, inl e)) = absurd (true≢false (sym e))
are_apart known waiting newest head less (inr (other, said, inr grown)) = inr (said.0, grown.1)

still_grown : (known waiting : Head) (newest : ℕ) (head : Head) → known.tree_size < waiting.tree_size → newest < waiting.timestamp
    → Apart known waiting newest head → (b c : Bool) → b ≡ (known.tree_size == head.tree_size) → c ≡ (waiting.tree_size == head.tree_size)
    → IsGrownLater (Some (if b then at_timestamp known (min known.timestamp head.timestamp) else known)) (if b then max newest head.timestamp else newest)
    (if c then at_timestamp waiting (min waiting.timestamp head.timestamp) else waiting)
still_grown known waiting newest head less later apart true true e f =
    absurd (omega (arith, less, eqb-true known.tree_size head.tree_size (sym e), eqb-true waiting.tree_size head.tree_size (sym f)))
still_grown known waiting newest head less later (inl a) true false e f = (less, omega (arith, later, a.1))
still_grown known waiting newest head less later (inr a) true false e f =
    absurd (omega (arith, less, a.0, eqb-true known.tree_size head.tree_size (sym e)))
still_grown known waiting newest head less later (inl a) false true e f =
    absurd (omega (arith, less, a.0, eqb-true waiting.tree_size head.tree_size (sym f)))
still_grown known waiting newest head less later (inr a) false true e f = (less, omega (arith, later, a.1))
still_grown known waiting newest head less later apart false false e f = (less, later)

again_grown : (accepted : Option Head) (waiting : Head) (newest : Newest) (head : Head) → IsGrownLater accepted newest.accepted waiting
    → KnownSay accepted (Some waiting) newest head Again
    → IsGrownLater (earliest_with accepted head) (newest_with accepted newest.accepted head)
    (if waiting.tree_size == head.tree_size then at_timestamp waiting (min waiting.timestamp head.timestamp) else waiting)
again_grown None waiting newest head g s = tt
again_grown (Some known) waiting newest head g s =
    still_grown known waiting newest.accepted head g.0 g.1 (are_apart known waiting newest head g.0 s) (known.tree_size == head.tree_size)
    (waiting.tree_size == head.tree_size) refl refl

again_waiting : (w : Watched) (waiting : Option Head) (head : Head) → IsWaiting w waiting → KnownSay w.accepted waiting w.newest head Again
    → IsWaiting (after_again w head) (earliest_with waiting head)
again_waiting w None head i s = i
again_waiting w (Some waiting) head i s = (
  again_grown w.accepted waiting w.newest head i.0 s,
  again_cases (λ k n. length (leaves_read w) < k.tree_size) waiting 0 head (waiting.tree_size == head.tree_size) (λ e. i.1) (λ e. i.1),
)

again_follows : (H : List ℕ → List ℕ) (w : Watched) (head : Head) → IsHandedOut H w → KnownSay w.accepted w.waiting w.newest head Again
    → Follows H w Again (after_again w head)
again_follows H w head i s = record {
  watched = (
    again_following H w.sure w.accepted head i.0,
    again_waiting w w.waiting head i.1 s,
    again_fits w.accepted w.newest.accepted head i.2,
    again_fits w.waiting w.newest.waiting head i.3,
  );
  grows = ([], sym (append-nil w.sure));
  accepts = λ e. absurd (subst is_accepted (sym e) tt);
}

known_follows : (H : List ℕ → List ℕ) (w : Watched) (head : Head) (v : Verdict) → IsHandedOut H w → KnownSay w.accepted w.waiting w.newest head v
    → Follows H w v (after_head w head v)
known_follows H w head v i s =
    ⊎_elim
    (λ (again : is_again v ≡ true).
    let e : v ≡ Again = is_again_Again v again in
    subst (λ (x : Verdict). Follows H w x (after_head w head x)) (sym e)
    (again_follows H w head i (subst (KnownSay w.accepted w.waiting w.newest head) e s)))
    (λ (other : is_again v ≡ false).
    subst (Follows H w v) (sym (known_changes_nothing w head v s other)) (unchanged H w v i (known_not_accepted w head v s)))
    (bool_cases (is_again v))

head_follows : (H : List ℕ → List ℕ) (w : Watched) (head : Head) (v : Verdict) → IsHandedOut H w → HeadSays H w head v → Follows H w v (after_head w head v)
head_follows H w head v i (inl s) = known_follows H w head v i s
head_follows H w head v i (inr s) =
    subst (Follows H w v) (settled_after H w head (waiting_or w.waiting head) v s.1)
    (settled_follows H w (waiting_or w.waiting head) (newest_or w.waiting w.newest.waiting head) v i.0 i.2
    (newest_of w.waiting w.newest.waiting head i.3) (waits_for H w w.waiting head i.0 i.1 s.0.0) s.1)

-- ---- entries

-- the leaves that are read go no further than the head
read_room : (D E : List (List ℕ)) (n : ℕ) → length D < n → length (D ++ take (n - length D) E) ≤ n
read_room D E n h = omega (arith, h, length-append D (take (n - length D) E), length-take (n - length D) E)

reads : (w : Watched) (head : Head) (E : List (List ℕ)) → IsWaiting w (Some head) → Waits (read_on w head E) head
reads w head E i = record {
  grown = i.0;
  room = subst (λ (l : List (List ℕ)). length l ≤ head.tree_size) (append_assoc w.sure w.ahead (take (head.tree_size - length (leaves_read w)) E))
      (read_room (leaves_read w) E head.tree_size i.1);
}

read_follows : (H : List ℕ → List ℕ) (w : Watched) (head : Head) (E : List (List ℕ)) (v : Verdict) → IsFollowing H w.sure w.accepted → IsWaiting w (Some head)
    → NewestFits w.accepted w.newest.accepted → head.timestamp ≤ w.newest.waiting → WaitingSays H (read_on w head E) head v
    → Follows H w v (after_entries w (Some head) E v)
read_follows H w head E Accepted f i t u s = let r = settled_follows H (read_on w head E) head w.newest.waiting Accepted f t u (reads w head E i) s in
    record { watched = r.watched; grows = (w.ahead ++ take (head.tree_size - length (leaves_read w)) E, refl); accepts = r.accepts }
read_follows H w head E (RootMismatch root) f i t u s = let r = settled_follows H (read_on w head E) head w.newest.waiting (RootMismatch root) f t u (reads w head E i) s in
    record { watched = r.watched; grows = r.grows; accepts = r.accepts }
read_follows H w head E Pending f i t u s = let r = settled_follows H (read_on w head E) head w.newest.waiting Pending f t u (reads w head E i) s in
    record { watched = r.watched; grows = r.grows; accepts = r.accepts }
read_follows H w head E Again f i t u s = absurd s
read_follows H w head E (Older known) f i t u s = absurd s
read_follows H w head E (Shrunk known) f i t u s = absurd s
read_follows H w head E (Fork known) f i t u s = absurd s
read_follows H w head E (TimeNotLater known) f i t u s = absurd s
read_follows H w head E Gap f i t u s = absurd s
read_follows H w head E Consistent f i t u s = absurd s
read_follows H w head E (Inconsistent fault) f i t u s = absurd s

gap_follows : (H : List ℕ → List ℕ) (w : Watched) (v : Verdict) (next : Watched) → IsHandedOut H w → v ≡ Gap → next ≡ w → Follows H w v next
gap_follows H w v next i e same =
    subst (Follows H w v) (sym same) (unchanged H w v i (λ a. subst is_accepted (sym (sym e ∙ a)) tt))

entries_follow : (H : List ℕ → List ℕ) (w : Watched) (waiting : Option Head) (start : ℕ) (E : List (List ℕ)) (v : Verdict) → IsHandedOut H w
    → IsWaiting w waiting → NewestFits waiting w.newest.waiting → EntriesSay H w waiting start E v → Follows H w v (after_entries w waiting E v)
entries_follow H w None start E v all i u e = gap_follows H w v w all e refl
entries_follow H w (Some head) start E v all i u (inl e) =
    gap_follows H w v (after_entries w (Some head) E v) all e.0 (ap (after_entries w (Some head) E) e.0)
entries_follow H w (Some head) start E v all i u (inr s) = read_follows H w head E v all.0 i all.2 u s.1

-- ---- any answer

proof_not_accepted : (H : List ℕ → List ℕ) (first second : Option Head) (p : List (List ℕ)) (v : Verdict) → ProofSays H first second p v → v ≡ Accepted → ⊥
proof_not_accepted H (Some first) (Some second) p v s e = subst (λ (x : Verdict). ProofSays H (Some first) (Some second) p x) e s
proof_not_accepted H (Some first) None p v s e = subst is_accepted (sym (sym s ∙ e)) tt
proof_not_accepted H None second p v s e = subst is_accepted (sym (sym s ∙ e)) tt

leads_not_accepted : (H : List ℕ → List ℕ) (head known : Head) (p : List (List ℕ)) (v : Verdict) → LeadsTo H head known p v → v ≡ Accepted → ⊥
leads_not_accepted H head known p v s e = subst (LeadsTo H head known p) e s

older_not_accepted : (H : List ℕ → List ℕ) (accepted waiting : Option Head) (head : Head) (p : List (List ℕ)) (v : Verdict)
    → OlderSays H accepted waiting head p v → v ≡ Accepted → ⊥
older_not_accepted H accepted waiting head p v (inl (known, larger, says)) e = leads_not_accepted H head known p v says e
older_not_accepted H accepted waiting head p v (inr (none, inl (known, larger, says))) e = leads_not_accepted H head known p v says e
older_not_accepted H accepted waiting head p v (inr (none, inr (nothing, gap))) e = subst is_accepted (sym (sym gap ∙ e)) tt

pub answer_follows : (H : List ℕ → List ℕ) (w : Watched) (handed : Handed) (v : Verdict) (next : Watched) → IsHandedOut H w → HandedSays H w handed v next
    → Follows H w v next
answer_follows H w (a_head head) v next i s = subst (Follows H w v) (sym s.1) (head_follows H w head v i s.0)
answer_follows H w (entries_from start E) v next i s = subst (Follows H w v) (sym s.1) (entries_follow H w w.waiting start E v i i.1 i.3 s.0)
answer_follows H w (a_proof p) v next i s = subst (Follows H w v) (sym s.1) (unchanged H w v i (proof_not_accepted H w.accepted w.waiting p v s.0))
answer_follows H w (an_older head p) v next i s =
    subst (Follows H w v) (sym s.1) (unchanged H w v i (older_not_accepted H w.accepted w.waiting head p v s.0))

-- ---- a call over a state that keeps w

-- the state after a call, and the leaves and heads that it keeps
pub record Called (H : List ℕ → List ℕ) (w : Watched) (c : MonitorCall) : Type 0 where
  pub next : Watched
  pub state : WatcherState
  pub says : HandedSays H w c.handed c.verdict next
  pub is : IsMonitorState H state c.after
  pub keeps : Keeps H state next

called : (H : List ℕ → List ℕ) → ((x : List ℕ) → length (H x) ≡ 32) → (before : List ℕ) (w : Watched) (c : MonitorCall) → IsHandedOut H w
    → KeepsInBytes H before w → IsCallOver H before c → Called H w c
called H h before w c i s (r, t, is, says, numbers, text) =
    let same : s.0 ≡ r = one_state H h s.0 r before s.1 is in
    let keeps : Keeps H r w = subst (λ (x : WatcherState). Keeps H x w) same s.2 in
    let step = says.0 w keeps in
    let follows = answer_follows H w c.handed c.verdict step.0 i step.2 in
    record {
      next = step.0;
      state = t;
      says = step.2;
      is = written_state H t c.after numbers (states_fit H t step.0 follows.watched step.1) text;
      keeps = step.1;
    }

-- the facts about calls and the leaves that are accepted after them
pub record Shown (H : List ℕ → List ℕ) (before : List ℕ) (calls : List MonitorCall) (first : Watched) : Type 0 where
  pub last : Watched
  pub hands : HandOut H first calls last
  pub stands : KeepsInBytes H (last_state before calls) last
  pub grows : (Y : List (List ℕ)) × (last.sure ≡ first.sure ++ Y)
  pub all : All (IsOfFirstLeaves H last.sure) calls
  pub read : IsNeverRefused H (last_state before calls)
  pub older : All (IsOlderOfFirstLeaves H last.sure) calls

-- a state that a log led to is never refused
never_refused : (H : List ℕ → List ℕ) → ((x : List ℕ) → length (H x) ≡ 32) → (bytes : List ℕ) (w : Watched) → IsHandedOut H w → KeepsInBytes H bytes w
    → IsNeverRefused H bytes
never_refused H h bytes w i s none = none s.0 s.1

-- an accepted head is the head of a prefix of any longer list
of_first : (H : List ℕ → List ℕ) (w : Watched) (c : MonitorCall) (k : Called H w c) (D Y : List (List ℕ)) → Follows H w c.verdict k.next → D ≡ k.next.sure ++ Y
    → IsOfFirstLeaves H D c
of_first H w c k D Y f d = λ e.
    let a = f.accepts e in (
      a.0,
      length k.next.sure,
      k.state,
      k.is,
      k.keeps.accepted ∙ a.1,
      subst (λ (l : List (List ℕ)). IsHeadOfAll H l a.0) (sym (ap (take (length k.next.sure)) d ∙ take-append_seam k.next.sure Y)) a.2,
    )

-- ---- an older head

-- the accepted head is the one that an older head's proof leads to
leads_to_accepted : (H : List ℕ → List ℕ) (accepted waiting : Option Head) (known head : Head) (p : List (List ℕ)) (v : Verdict)
    → accepted ≡ Some known → head.tree_size < known.tree_size → OlderSays H accepted waiting head p v → LeadsTo H head known p v
leads_to_accepted H None waiting known head p v e less s = absurd (is_some e)
  where
    is_some : None ≡ Some known → ⊥
    is_some e = cc
leads_to_accepted H (Some other) waiting known head p v e less (inl (larger, is, says)) =
    subst (λ (k : Head). LeadsTo H head k p v) (is.0 ∙ same_Some other known e) says
leads_to_accepted H (Some other) waiting known head p v e less (inr (none, says)) =
    let same : other ≡ known = same_Some other known e in
    absurd (omega (arith, less, none, ap (λ (k : Head). k.tree_size) same))

older_of_first : (H : List ℕ → List ℕ) → ((x : List ℕ) → length (H x) ≡ 32) → (D : List (List ℕ)) (head known : Head) (p : List (List ℕ)) → AreHashes p
    → IsHeadOfAll H D known → head.tree_size < known.tree_size → LeadsTo H head known p Consistent
    → IsHeadOfAll H (take head.tree_size D) head ⊎ CollideAmong H (IsHashedForOlder H D head known.tree_size p)
unfolding mth mth_within
older_of_first H h D head known p hashes is less (inl (none, root)) =
    inl (rw none (refl, root))
older_of_first H h D head known p hashes is less (inr accepts) =
    let n : known.tree_size ≡ length D = is.0 in
    let goes = proof_goes_back H h D p head.tree_size head.root hashes
    (subst (λ (k : ℕ). AcceptsConsistency H head.tree_size k head.root (mth_of_leaves H D) p) n
    (subst (λ (x : List ℕ). AcceptsConsistency H head.tree_size known.tree_size head.root x p) is.1 accepts)) in
    ⊎_elim
    (λ (e : head.root ≡ mth_of_leaves H (take head.tree_size D)). inl (sym (length-take-le head.tree_size D (omega (arith, less, n))), e))
    (λ (found : CollideAmong H (IsHashedForOlder H D head (length D) p)).
    inr (subst (λ (k : ℕ). CollideAmong H (IsHashedForOlder H D head k p)) (sym n) found))
    goes

-- an older head that a call found consistent, and any longer list
of_older : (H : List ℕ → List ℕ) → ((x : List ℕ) → length (H x) ≡ 32) → (w : Watched) (c : MonitorCall) (k : Called H w c) (D Y : List (List ℕ)) → IsHandedOut H w
    → D ≡ k.next.sure ++ Y → IsOlderOfFirstLeaves H D c
of_older H h w c k D Y i d = λ head known p t e v hashes is accepted less.
    let says : HandedSays H w (an_older head p) Consistent k.next =
    subst (λ (x : Handed). HandedSays H w x Consistent k.next) e (subst (λ (x : Verdict). HandedSays H w c.handed x k.next) v k.says) in
    let state : k.state ≡ t = one_state H h k.state t c.after k.is is in
    let now : w.accepted ≡ Some known =
    ap (λ (x : Watched). x.accepted) (sym says.1) ∙ sym k.keeps.accepted ∙ ap (λ (x : WatcherState). x.accepted) state ∙ accepted in
    let follows : IsHeadOfAll H w.sure known = subst (λ (o : Option Head). IsFollowing H w.sure o) now i.0 in
    let whole : D ≡ w.sure ++ Y = d ∙ ap (λ (x : Watched). x.sure ++ Y) says.1 in
    let size : known.tree_size ≡ length w.sure = follows.0 in
    let front : take known.tree_size D ≡ w.sure =
    ap (λ (n : ℕ). take n D) size ∙ ap (take (length w.sure)) whole ∙ take-append_seam w.sure Y in
    let short : take head.tree_size D ≡ take head.tree_size w.sure =
    sym (take-take head.tree_size known.tree_size D (omega (arith, less))) ∙ ap (take head.tree_size) front in
    let found = older_of_first H h w.sure head known p hashes follows less (leads_to_accepted H w.accepted w.waiting known head p Consistent now less says.0) in
    ⊎_elim
    (λ (is_first : IsHeadOfAll H (take head.tree_size w.sure) head). inl (subst (λ (l : List (List ℕ)). IsHeadOfAll H l head) (sym short) is_first))
    (λ (two : CollideAmong H (IsHashedForOlder H w.sure head known.tree_size p)).
    inr (subst (λ (l : List (List ℕ)). CollideAmong H (IsHashedForOlder H l head known.tree_size p)) (sym front) two))
    found

pub show : (H : List ℕ → List ℕ) → ((x : List ℕ) → length (H x) ≡ 32) → (before : List ℕ) (calls : List MonitorCall) (first : Watched) → IsHandedOut H first
    → KeepsInBytes H before first → AreCalls H before calls → Shown H before calls first
unfolding AreCalls HandOut
show H h before [] first i s a = record {
  last = first;
  hands = refl;
  stands = s;
  grows = ([], sym (append-nil first.sure));
  all = All-nil (IsOfFirstLeaves H first.sure);
  read = never_refused H h before first i s;
  older = All-nil (IsOlderOfFirstLeaves H first.sure);
}
show H h before (c ∷ calls) first i s a =
    let k = called H h before first c i s a.0 in
    let f = answer_follows H first c.handed c.verdict k.next i k.says in
    let rest = show H h c.after calls k.next f.watched (k.state, k.is, k.keeps) a.1 in
    record {
      last = rest.last;
      hands = (k.next, k.says, rest.hands);
      stands = rest.stands;
      grows = (f.grows.0 ++ rest.grows.0, rest.grows.1 ∙ ap (λ (x : List (List ℕ)). x ++ rest.grows.0) f.grows.1 ∙ append_assoc first.sure f.grows.0 rest.grows.0);
      all = All-cons (IsOfFirstLeaves H rest.last.sure) c calls (of_first H first c k rest.last.sure rest.grows.0 f rest.grows.1) rest.all;
      read = rest.read;
      older = All-cons (IsOlderOfFirstLeaves H rest.last.sure) c calls (of_older H h first c k rest.last.sure rest.grows.0 i rest.grows.1) rest.older;
    }

pub calls_agree_from : CallsAgreeFrom
calls_agree_from H h before calls first i s a =
    let shown = show H h before calls first i s a in (shown.last, (shown.hands, shown.stands, shown.all, shown.read, shown.older))

-- ---- starting from nothing

nothing_kept : (H : List ℕ → List ℕ) → Keeps H nothing_state nothing_seen
unfolding peaks peaks_within
nothing_kept H = record {
  accepted = refl;
  waiting = refl;
  newest = refl;
  sure = record { size = refl; subtrees = refl };
  all = record { size = refl; subtrees = refl };
}

nothing_watched : (H : List ℕ → List ℕ) → IsHandedOut H nothing_seen
nothing_watched H = (refl, refl, tt, tt)

nothing_in_bytes : IsInBytes nothing_state
nothing_in_bytes = record {
  accepted = tt;
  waiting = tt;
  newest = record { accepted = omega arith; waiting = omega arith };
  sure = record { leaves = omega arith; roots = All-nil (λ (s : List ℕ). length s ≡ 32); size = omega arith };
  all = record { leaves = omega arith; roots = All-nil (λ (s : List ℕ). length s ≡ 32); size = omega arith };
}

pub first_stands : (H : List ℕ → List ℕ) (first : List ℕ) → IsMonitorBegin H first → KeepsInBytes H first nothing_seen
first_stands H first f = (
  nothing_state,
  written_state H nothing_state first nothing_in_bytes (states_fit H nothing_state nothing_seen (nothing_watched H) (nothing_kept H)) f,
  nothing_kept H,
)

pub calls_agree : CallsAgree
calls_agree H h first calls f a = calls_agree_from H h first calls nothing_seen (nothing_watched H) (first_stands H first f) a
