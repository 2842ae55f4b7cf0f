-- The parts of a state fit, if a log can have led to it.
use Rattle.std.proofs.Common.{◌≡◌, ◌∙◌, ◌+◌, ◌*◌, ◌/◌, ◌%◌, ◌^◌, ◌<◌, ◌≤◌, ◌++◌, ℕ, zero, suc, List, [], length, map, take, drop, count_ones, Option, Some, None, sym, ap, subst, arith, inl, inr}
use Rattle.std.proofs.Common.{length-append, length-drop, append-nil, ⊎_elim}
use Rattle.std.proofs.lemmas.Bool.{cases_lt}
use Rattle.std.proofs.lemmas.List.{length-map, nil_from_length}
use Rattle.std.proofs.lemmas.Nat.{ones_cat, ones_le_self, zero_from_ones}
use Rattle.ct_tree.specs.Levels.{level}
use Rattle.ct_tree.specs.Peaks.{peaks, root_of_peaks}
use Rattle.ct_tree.specs.Stack.{Stands}
use Rattle.ct_tree.specs.Tree.{hash_leaf}
use Rattle.ct_tree.specs.declared.head.Head.{Head}
use Rattle.ct_tree.proofs.Peaks.{peaks-nil, peaks-step, length_pairs, root_of_peaks-peaks}
use Rattle.ct_monitor.specs.Followed.{IsFollowing}
use Rattle.ct_monitor.specs.Watched.{Watched, leaves_read}
use Rattle.ct_monitor.specs.WatcherState.{WatcherState, Keeps}
use Rattle.ct_monitor.specs.Fitting.{AcceptedFits, AreAcceptedOf, HasSubtrees, NewestFits, WaitingFits}
use Rattle.ct_monitor.specs.declared.newest.Newest.{Newest}
use Rattle.ct_monitor.specs.CallLaws.{IsWaiting, MonitorStatesFit}

ones_small : (r : ℕ) → r < 2 → count_ones r ≡ r
ones_small zero h = omega (arith, ones_le_self 0)
ones_small (suc zero) h =
    ⊎_elim
    (λ (none : count_ones 1 < 1). let e : count_ones 1 ≡ 0 = omega arith in absurd (omega (arith, zero_from_ones 1 e)))
    (λ (some : 1 ≤ count_ones 1). omega (arith, ones_le_self 1))
    (cases_lt (count_ones 1) 1)
ones_small (suc (suc r)) h = absurd (omega (arith, h))

-- a tree has as many perfect subtrees as its number of leaves has ones in binary
pub count_at : (H : List ℕ → List ℕ) (d : ℕ) (D : List (List ℕ)) → length D ≤ d → length (peaks H D) ≡ count_ones (length D)
count_at H zero D p =
    let e : D ≡ [] = nil_from_length D (omega arith) in
    rw (e, peaks-nil H) (sym (ones_small 0 (omega arith)))
count_at H (suc d) D p =
    let half = length D / 2 in
    let low = length D % 2 in
    let E = level H (take (2 * half) D) in
    let size : length E ≡ half = length_pairs H D in
    let above : length (peaks H E) ≡ count_ones half = count_at H d E (omega (arith, size, p)) ∙ ap count_ones size in
    let below : length (drop (2 * half) D) ≡ low = omega (arith, length-drop (2 * half) D) in
    let whole : half * 2 ^ 1 + low ≡ length D = omega arith in
    let ones : count_ones (length D) ≡ count_ones half + low =
    ap count_ones (sym whole) ∙ ones_cat 1 half low (omega arith) ∙ ap (λ (n : ℕ). count_ones half + n) (ones_small low (omega arith)) in
    ap length (peaks-step H D) ∙ length-append (peaks H E) (drop (2 * half) D) ∙ omega (arith, above, below, ones)

has_subtrees : (H : List ℕ → List ℕ) (p : ℕ × List (List ℕ)) (D : List (List ℕ)) → Stands H p D → HasSubtrees p
has_subtrees H p D s = ap length s.subtrees ∙ count_at H (length D) D (omega arith) ∙ ap count_ones (sym s.size)

-- the number of leaves of a state
pub size_of : (H : List ℕ → List ℕ) (p : ℕ × List (List ℕ)) (D : List (List ℕ)) → Stands H p (map (hash_leaf H) D) → p.0 ≡ length D
size_of H p D s = s.size ∙ length-map D (hash_leaf H)

-- the subtrees of lists that are the same
same_subtrees : (H : List ℕ → List ℕ) (p q : ℕ × List (List ℕ)) (D E : List (List ℕ)) → Stands H p (map (hash_leaf H) D) → Stands H q (map (hash_leaf H) E) → D ≡ E
    → (p.0 ≡ q.0) × (p.1 ≡ q.1)
same_subtrees H p q D E s t e = (
  size_of H p D s ∙ ap length e ∙ sym (size_of H q E t),
  s.subtrees ∙ ap (λ (l : List (List ℕ)). peaks H (map (hash_leaf H) l)) e ∙ sym t.subtrees,
)

accepted_fits : (H : List ℕ → List ℕ) (accepted : Option Head) (sure : ℕ × List (List ℕ)) (D : List (List ℕ)) → IsFollowing H D accepted
    → Stands H sure (map (hash_leaf H) D) → AcceptedFits H accepted sure
accepted_fits H None sure D f s = size_of H sure D s ∙ ap length f
accepted_fits H (Some head) sure D f s = (
  f.0 ∙ sym (size_of H sure D s),
  f.1 ∙ sym (root_of_peaks-peaks H (map (hash_leaf H) D)) ∙ ap (root_of_peaks H) (sym s.subtrees),
)

none_ahead : (w : Watched) → w.ahead ≡ [] → w.sure ≡ leaves_read w
none_ahead w e = sym (ap (λ (l : List (List ℕ)). w.sure ++ l) e ∙ append-nil w.sure)

accepted_of : (H : List ℕ → List ℕ) (s : WatcherState) (w : Watched) → Keeps H s w → AreAcceptedOf s.sure s.all
accepted_of H s w k =
    let sure = size_of H s.sure w.sure k.sure in
    let all = size_of H s.all (leaves_read w) k.all in
    let both = length-append w.sure w.ahead in
    ⊎_elim
    (λ (few : s.sure.0 < s.all.0). inl few)
    (λ (many : s.all.0 ≤ s.sure.0).
    let none : w.ahead ≡ [] = nil_from_length w.ahead (omega (arith, many, sure, all, both)) in
    inr (same_subtrees H s.sure s.all w.sure (leaves_read w) k.sure k.all (none_ahead w none)))
    (cases_lt s.sure.0 s.all.0)

waiting_fits : (H : List ℕ → List ℕ) (s : WatcherState) (w : Watched) (waiting : Option Head) → IsWaiting w waiting → Keeps H s w
    → WaitingFits w.accepted w.newest.accepted waiting s.sure s.all
waiting_fits H s w None e k = same_subtrees H s.sure s.all w.sure (leaves_read w) k.sure k.all (none_ahead w e)
waiting_fits H s w (Some head) e k = (e.0, omega (arith, e.1, size_of H s.all (leaves_read w) k.all), accepted_of H s w k)

pub states_fit : MonitorStatesFit
states_fit H s w i k = record {
  sure = has_subtrees H s.sure (map (hash_leaf H) w.sure) k.sure;
  all = has_subtrees H s.all (map (hash_leaf H) (leaves_read w)) k.all;
  accepted = subst (λ (a : Option Head). AcceptedFits H a s.sure) (sym k.accepted) (accepted_fits H w.accepted s.sure w.sure i.0 k.sure);
  waiting = subst (λ (n : Newest). WaitingFits s.accepted n.accepted s.waiting s.sure s.all) (sym k.newest)
      (subst (λ (a : Option Head). WaitingFits a w.newest.accepted s.waiting s.sure s.all) (sym k.accepted)
      (subst (λ (o : Option Head). WaitingFits w.accepted w.newest.accepted o s.sure s.all) (sym k.waiting) (waiting_fits H s w w.waiting i.1 k)));
  newest = subst (λ (n : Newest). NewestFits s.accepted n.accepted × NewestFits s.waiting n.waiting) (sym k.newest)
      (subst (λ (a : Option Head). NewestFits a w.newest.accepted × NewestFits s.waiting w.newest.waiting) (sym k.accepted)
      (subst (λ (o : Option Head). NewestFits w.accepted w.newest.accepted × NewestFits o w.newest.waiting) (sym k.waiting) (i.2, i.3)));
}
