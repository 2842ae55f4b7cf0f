-- The data that a watcher represents after a step.
use Rattle.std.proofs.Common.{◌≡◌, ◌⊎◌, ◌∙◌, ◌≤◌, ◌-◌, ℕ, List, ◌++◌, length, map, take, Option, Some, None, Vec, Global, arith, sym, refl, ap, subst, inl, inr}
use Rattle.std.proofs.Common.{Bool, true, false, true≢false, Ok, Err, Result, IfOk}
use Rattle.std.proofs.lemmas.Option.{same_Some}
use Rattle.ct_monitor.specs.Heads.{IsHeadOfAll}
use Rattle.std.proofs.lemmas.List.{append_assoc, map-append, take-map, take_all, length-map}
use Rattle.ct_tree.specs.Stack.{Stands}
use Rattle.ct_tree.specs.Tree.{hash_leaf}
use Rattle.ct_tree.specs.declared.head.Head.{Head}
use Rattle.ct_monitor.specs.Watched.{Watched, leaves_read, waiting_or, newest_or, read_on, with_more, after_verdict, after_again, after_head, earliest_with, newest_with}
use Rattle.ct_monitor.specs.Verdicts.{IsSaid, IsGrownLaterThanBoth, KnownSay, LeavesSay, WaitingSays, EntriesSay, after_entries, is_again}
use Rattle.ct_monitor.specs.WatcherState.{WatcherState, Keeps}
use Rattle.ct_monitor.specs.declared.newest.Newest.{Newest}
use Rattle.ct_monitor.specs.declared.verdict.Verdict.{Verdict}
use Rattle.ct_monitor.specs.declared.verdict.Verdict.TheVariants.{Accepted, Pending, Again, Older, Shrunk, Fork, TimeNotLater, RootMismatch, Gap, Consistent, Inconsistent}

pub bool_cases : (b : Bool) → (b ≡ true) ⊎ (b ≡ false)
bool_cases true = inl refl
bool_cases false = inr refl

-- an immediate verdict on a head changes nothing, unless the head was handed out again
pub said_changes_nothing : (w : Watched) (known : Option Head) (newest : ℕ) (head : Head) (v : Verdict) → IsSaid known newest head v → is_again v ≡ false
    → after_head w head v ≡ w
said_changes_nothing w None newest head v s n = absurd s
said_changes_nothing w (Some known) newest head Accepted s n = absurd s
said_changes_nothing w (Some known) newest head Pending s n = absurd s
said_changes_nothing w (Some known) newest head Again s n = absurd (true≢false n)
said_changes_nothing w (Some known) newest head (Older other) s n = refl
said_changes_nothing w (Some known) newest head (Shrunk other) s n = refl
said_changes_nothing w (Some known) newest head (Fork other) s n = refl
said_changes_nothing w (Some known) newest head (TimeNotLater other) s n = refl
said_changes_nothing w (Some known) newest head (RootMismatch root) s n = absurd s
said_changes_nothing w (Some known) newest head Gap s n = absurd s
said_changes_nothing w (Some known) newest head Consistent s n = absurd s
said_changes_nothing w (Some known) newest head (Inconsistent fault) s n = absurd s

pub known_changes_nothing : (w : Watched) (head : Head) (v : Verdict) → KnownSay w.accepted w.waiting w.newest head v → is_again v ≡ false → after_head w head v ≡ w
known_changes_nothing w head v (inl s) n = said_changes_nothing w w.accepted w.newest.accepted head v s.0 n
known_changes_nothing w head v (inr s) n = said_changes_nothing w w.waiting w.newest.waiting head v s.1 n

pub is_again_Again : (v : Verdict) → is_again v ≡ true → v ≡ Again
is_again_Again Again e = refl
is_again_Again Accepted e = absurd (true≢false (sym e))
is_again_Again Pending e = absurd (true≢false (sym e))
is_again_Again (Older other) e = absurd (true≢false (sym e))
is_again_Again (Shrunk other) e = absurd (true≢false (sym e))
is_again_Again (Fork other) e = absurd (true≢false (sym e))
is_again_Again (TimeNotLater other) e = absurd (true≢false (sym e))
is_again_Again (RootMismatch root) e = absurd (true≢false (sym e))
is_again_Again Gap e = absurd (true≢false (sym e))
is_again_Again Consistent e = absurd (true≢false (sym e))
is_again_Again (Inconsistent fault) e = absurd (true≢false (sym e))

-- the verdict on the waiting head is never that a head was handed out again
pub settled_after : (H : List ℕ → List ℕ) (w : Watched) (head waiting : Head) (v : Verdict) → WaitingSays H w waiting v
    → after_verdict w (waiting_or w.waiting head) (newest_or w.waiting w.newest.waiting head) v ≡ after_head w head v
settled_after H w head waiting Accepted s = refl
settled_after H w head waiting (RootMismatch root) s = refl
settled_after H w head waiting Pending s = refl
settled_after H w head waiting Again s = absurd s
settled_after H w head waiting (Older known) s = absurd s
settled_after H w head waiting (Shrunk known) s = absurd s
settled_after H w head waiting (Fork known) s = absurd s
settled_after H w head waiting (TimeNotLater known) s = absurd s
settled_after H w head waiting Gap s = absurd s
settled_after H w head waiting Consistent s = absurd s
settled_after H w head waiting (Inconsistent fault) s = absurd s

-- the state after a known head was handed out again
abbrev pub state_again : WatcherState → Head → WatcherState
state_again s head = record s {
  accepted = earliest_with s.accepted head;
  waiting = earliest_with s.waiting head;
  newest = record { accepted = newest_with s.accepted s.newest.accepted head; waiting = newest_with s.waiting s.newest.waiting head };
}

abbrev newest_after : Option Head → Option Head → Newest → Head → Newest
newest_after accepted waiting newest head =
    record { accepted = newest_with accepted newest.accepted head; waiting = newest_with waiting newest.waiting head }

keeps_again : (H : List ℕ → List ℕ) (s : WatcherState) (w : Watched) (head : Head) → Keeps H s w → Keeps H (state_again s head) (after_again w head)
keeps_again H s w head k = record {
  accepted = ap (λ (o : Option Head). earliest_with o head) k.accepted;
  waiting = ap (λ (o : Option Head). earliest_with o head) k.waiting;
  newest = ap (λ (o : Option Head). newest_after o s.waiting s.newest head) k.accepted ∙ ap (λ (o : Option Head). newest_after w.accepted o s.newest head) k.waiting
      ∙ ap (λ (n : Newest). newest_after w.accepted w.waiting n head) k.newest;
  sure = k.sure;
  all = k.all;
}

pub again_keeps : (H : List ℕ → List ℕ) (old new : WatcherState) (head : Head) (v : Verdict) → is_again v ≡ true → new ≡ state_again old head
    → (w : Watched) → Keeps H old w → Keeps H new (after_head w head v)
again_keeps H old new head v again e w k =
    subst (λ (x : Verdict). Keeps H new (after_head w head x)) (sym (is_again_Again v again))
    (subst (λ (x : WatcherState). Keeps H x (after_again w head)) (sym e) (keeps_again H old w head k))

-- the verdict by the known heads of a state is that of the data that it keeps
pub known_of_state : (H : List ℕ → List ℕ) (s : WatcherState) (w : Watched) (head : Head) (v : Verdict) → Keeps H s w
    → KnownSay s.accepted s.waiting s.newest head v → KnownSay w.accepted w.waiting w.newest head v
known_of_state H s w head v k says =
    subst (λ (n : Newest). KnownSay w.accepted w.waiting n head v) k.newest
    (subst (λ (o : Option Head). KnownSay w.accepted o s.newest head v) k.waiting
    (subst (λ (o : Option Head). KnownSay o s.waiting s.newest head v) k.accepted says))

pub known_keeps : (H : List ℕ → List ℕ) (old : WatcherState) (head : Head) (v : Verdict) → is_again v ≡ false → (w : Watched) → Keeps H old w
    → KnownSay w.accepted w.waiting w.newest head v → Keeps H old (after_head w head v)
known_keeps H old head v other w k says = subst (Keeps H old) (sym (known_changes_nothing w head v says other)) k

abbrev bytes : Vec ℕ Global → List ℕ
bytes l = l.items

-- the leaves up to a count, if the count is the room or the number of all leaves
pub as_far_as : (leaves : List (Vec ℕ Global)) (count room : ℕ) → (count ≡ room) ⊎ ((length leaves ≤ room) × (count ≡ length leaves))
    → map bytes (take count leaves) ≡ take room (map bytes leaves)
as_far_as leaves count room (inl e) = rw e (sym (take-map bytes room leaves))
as_far_as leaves count room (inr e) =
    rw (e.1, take_all (length leaves) leaves (omega arith), take_all room (map bytes leaves) (omega (arith, e.0, length-map leaves bytes))) refl

-- the subtrees extended by T, if T is the leaves E as far as the head goes
pub stands_read_on : (H : List ℕ → List ℕ) (old : ℕ × List (List ℕ)) (D : List (List ℕ)) (head : Head) (E T : List (List ℕ)) (longer : ℕ × List (List ℕ))
    → Stands H old (map (hash_leaf H) D) → T ≡ take (head.tree_size - old.0) E → Stands H longer (map (hash_leaf H) D ++ map (hash_leaf H) T)
    → Stands H longer (map (hash_leaf H) (with_more D head E))
stands_read_on H old D head E T longer d t s =
    let size : old.0 ≡ length D = d.size ∙ length-map D (hash_leaf H) in
    let e : T ≡ take (head.tree_size - length D) E = t ∙ ap (λ n. take (head.tree_size - n) E) size in
    let joined : Stands H longer (map (hash_leaf H) (D ++ T)) = rw (map-append (hash_leaf H) D T) s in
    subst (λ (X : List (List ℕ)). Stands H longer (map (hash_leaf H) (D ++ X))) e joined

pub keeps_read_on : (H : List ℕ → List ℕ) (old : WatcherState) (w : Watched) (head : Head) (E : List (List ℕ)) (longer : ℕ × List (List ℕ)) → Keeps H old w
    → Stands H longer (map (hash_leaf H) (with_more (leaves_read w) head E))
    → Keeps H (record old { all = longer }) (read_on w head E)
keeps_read_on H old w head E longer k s =
    let T = take (head.tree_size - length (leaves_read w)) E in
    record {
      accepted = k.accepted;
      waiting = k.waiting;
      newest = k.newest;
      sure = k.sure;
      all = subst (λ (X : List (List ℕ)). Stands H longer (map (hash_leaf H) X)) (append_assoc w.sure w.ahead T) s;
    }

-- the data after entries, if the entries began at the right index
after_read : (H : List ℕ → List ℕ) (w : Watched) (head : Head) (E : List (List ℕ)) (v : Verdict) → WaitingSays H (read_on w head E) head v
    → after_verdict (read_on w head E) head w.newest.waiting v ≡ after_entries w (Some head) E v
after_read H w head E Accepted s = refl
after_read H w head E (RootMismatch root) s = refl
after_read H w head E Pending s = refl
after_read H w head E Again s = absurd s
after_read H w head E (Older known) s = absurd s
after_read H w head E (Shrunk known) s = absurd s
after_read H w head E (Fork known) s = absurd s
after_read H w head E (TimeNotLater known) s = absurd s
after_read H w head E Gap s = absurd s
after_read H w head E Consistent s = absurd s
after_read H w head E (Inconsistent fault) s = absurd s

pub entries_say : {F : Type 0} (H : List ℕ → List ℕ) (old : WatcherState) (head : Head) (start : ℕ) (E : List (List ℕ))
    (longer : ℕ × List (List ℕ)) (r : Result Verdict F)
    → old.waiting ≡ Some head → start ≡ old.all.0 → ((w : Watched) → Keeps H old w → Keeps H (record old { all = longer }) (read_on w head E))
    → IfOk r (λ v. (w : Watched) → Keeps H (record old { all = longer }) w → WaitingSays H w head v)
    → IfOk r (λ v. (w : Watched) → Keeps H old w → EntriesSay H w w.waiting start E v)
entries_say H old head start E longer (Ok v) waits starts keeps says = λ w k.
    let e : w.waiting ≡ Some head = sym k.waiting ∙ waits in
    let here : start ≡ length (leaves_read w) = starts ∙ k.all.size ∙ length-map (leaves_read w) (hash_leaf H) in
    rw e (inr (here, says (read_on w head E) (keeps w k)))
entries_say H old head start E longer (Err f) waits starts keeps says = says

pub entries_keep : {F : Type 0} (H : List ℕ → List ℕ) (old new : WatcherState) (head : Head) (E : List (List ℕ))
    (longer : ℕ × List (List ℕ)) (r : Result Verdict F)
    → old.waiting ≡ Some head → ((w : Watched) → Keeps H old w → Keeps H (record old { all = longer }) (read_on w head E))
    → IfOk r (λ v. (w : Watched) → Keeps H (record old { all = longer }) w → WaitingSays H w head v)
    → IfOk r (λ v. (w : Watched) → Keeps H (record old { all = longer }) w → Keeps H new (after_verdict w head old.newest.waiting v))
    → IfOk r (λ v. (w : Watched) → Keeps H old w → Keeps H new (after_entries w w.waiting E v))
entries_keep H old new head E longer (Ok v) waits keeps says stands = λ w k.
    let e : w.waiting ≡ Some head = sym k.waiting ∙ waits in
    let next = read_on w head E in
    let newest : old.newest.waiting ≡ w.newest.waiting = ap (λ (n : Newest). n.waiting) k.newest in
    let kept = subst (λ (n : ℕ). Keeps H new (after_verdict next head n v)) newest (stands next (keeps w k)) in
    subst (λ o. Keeps H new (after_entries w o E v)) (sym e) (subst (Keeps H new) (after_read H w head E v (says next (keeps w k))) kept)
entries_keep H old new head E longer (Err f) waits keeps says stands = says

-- entries for which a head waits, if it is accepted: its root is the root of the leaves that the subtrees represent, followed by these
-- entries
pub entries_compared : {F : Type 0} (H : List ℕ → List ℕ) (old : WatcherState) (head : Head) (E : List (List ℕ))
    (longer : ℕ × List (List ℕ)) (r : Result Verdict F)
    → old.waiting ≡ Some head
    → ((D : List (List ℕ)) → Stands H old.all (map (hash_leaf H) D) → Stands H longer (map (hash_leaf H) (with_more D head E)))
    → IfOk r (λ v. (D : List (List ℕ)) → Stands H longer (map (hash_leaf H) D) → LeavesSay H D head v)
    → IfOk r (λ v. v ≡ Accepted → (known : Head) → old.waiting ≡ Some known → (D : List (List ℕ)) → Stands H old.all (map (hash_leaf H) D)
    → IsHeadOfAll H (with_more D known E) known)
entries_compared H old head E longer (Ok v) waits stands says = λ e known is D d.
    let same : head ≡ known = same_Some head known (sym waits ∙ is) in
    let all = with_more D head E in
    subst (λ (k : Head). IsHeadOfAll H (with_more D k E) k) same (subst (LeavesSay H all head) e (says all (stands D d)))
entries_compared H old head E longer (Err f) waits stands says = says
