-- A start at a trusted head.
use Rattle.std.proofs.Common.{◌≡◌, ◌⊎◌, ◌∙◌, ◌*◌, ◌/◌, ◌≤◌, ◌++◌, ℕ, zero, suc, List, [], ◌∷◌, length, map, take, drop, count_ones, sym, refl, ap, subst, arith, inl, inr, ⊎_elim, append-nil}
use Rattle.std.proofs.lemmas.List.{length-map, nil_from_length}
use Rattle.std.proofs.lemmas.List.Elements.{All-nil, All-cons, All-head, All-tail, All-append, All-take, All-drop, All-weaker, All-contains_itself}
use Rattle.ct_tree.specs.Levels.{level}
use Rattle.ct_tree.specs.Peaks.{peaks, root_of_peaks}
use Rattle.ct_tree.specs.Stack.{Stands}
use Rattle.ct_tree.specs.Tree.{hash_leaf, hash_node}
use Rattle.ct_tree.specs.declared.head.Head.{Head}
use Rattle.ct_tree.proofs.Peaks.{peaks-nil, peaks-step, length_pairs, root_of_peaks-peaks}
use Rattle.std.specs.Prelude.{All, Contains}
use Rattle.ct_verify.proofs.Agreeing.{left_nodes}
use Rattle.ct_verify.specs.Hashed.{CollideAmong}
use Rattle.ct_verify.specs.Laws.{AreHashes}
use Rattle.ct_monitor.specs.Heads.{IsHeadOfAll}
use Rattle.ct_monitor.specs.WatcherState.{Keeps}
use Rattle.ct_monitor.specs.CallLaws.{KeepsInBytes}
use Rattle.ct_monitor.specs.Starts.{IsMonitorStart, StartsAreRead, CallsAgreeFromStart, IsHashedForStart, joining_strings, start_state, known_at_start}
use Rattle.ct_monitor.proofs.Apart.{written_state}
use Rattle.ct_monitor.proofs.Fits.{count_at}
use Rattle.ct_monitor.proofs.CallHistory.{show}

pub starts_are_read : StartsAreRead
starts_are_read H head subtrees bytes start =
    written_state H (start_state head subtrees) bytes start.numbers
    (record { sure = start.count; all = start.count; accepted = (refl, start.root); waiting = (refl, refl); newest = (omega arith, tt) }) start.text

abbrev Has32 : List ℕ → Type 0
Has32 x = length x ≡ 32

module _ (H : List ℕ → List ℕ) (long : (x : List ℕ) → length (H x) ≡ 32) where
  leaves_32 : (D : List (List ℕ)) → AreHashes (map (hash_leaf H) D)
  leaves_32 [] = All-nil Has32
  leaves_32 (x ∷ D) = All-cons Has32 (hash_leaf H x) (map (hash_leaf H) D) (long (0 ∷ x)) (leaves_32 D)

  level_32 : (D : List (List ℕ)) → AreHashes D → AreHashes (level H D)
  unfolding level
  level_32 [] a = a
  level_32 (x ∷ []) a = a
  level_32 (x ∷ y ∷ D) a =
      All-cons Has32 (hash_node H x y) (level H D) (long (1 ∷ x ++ y)) (level_32 D (All-tail Has32 y D (All-tail Has32 x (y ∷ D) a)))

  peaks_32 : (d : ℕ) (D : List (List ℕ)) → length D ≤ d → AreHashes D → AreHashes (peaks H D)
  peaks_32 zero D p a =
      let e : D ≡ [] = nil_from_length D (omega arith) in
      rw (e, peaks-nil H) (All-nil Has32)
  peaks_32 (suc d) D p a =
      let even = 2 * (length D / 2) in
      let E = level H (take even D) in
      let size : length E ≡ length D / 2 = length_pairs H D in
      subst AreHashes (sym (peaks-step H D))
      (All-append Has32 (peaks H E) (drop even D) (peaks_32 d E (omega (arith, size, p)) (level_32 (take even D) (All-take Has32 even D a))) (All-drop Has32 even D a))

  module _ (S : List ℕ → Type 0) where
    -- subtrees that lead to the same root are the same, if there are equally many; or two strings collide that are hashed when the subtrees
    -- are joined
    peaks_tell : (p q : List (List ℕ)) → length p ≡ length q → AreHashes p → AreHashes q → All S (joining_strings H p) → All S (joining_strings H q)
        → root_of_peaks H p ≡ root_of_peaks H q → (p ≡ q) ⊎ CollideAmong H S
    unfolding root_of_peaks joining_strings
    peaks_tell [] [] l a b f g e = inl refl
    peaks_tell [] (y ∷ q) l a b f g e = absurd (omega (arith, l))
    peaks_tell (x ∷ p) [] l a b f g e = absurd (omega (arith, l))
    peaks_tell (x ∷ []) (y ∷ []) l a b f g e = inl (ap (λ (z : List ℕ). z ∷ []) e)
    peaks_tell (x ∷ []) (y ∷ z ∷ q) l a b f g e = absurd (omega (arith, l))
    peaks_tell (x ∷ w ∷ p) (y ∷ []) l a b f g e = absurd (omega (arith, l))
    peaks_tell (x ∷ w ∷ p) (y ∷ z ∷ q) l a b f g e =
        let one : List ℕ = 1 ∷ x ++ root_of_peaks H (w ∷ p) in
        let other : List ℕ = 1 ∷ y ++ root_of_peaks H (z ∷ q) in
        ⊎_elim
        (λ (same : (x ≡ y) × (root_of_peaks H (w ∷ p) ≡ root_of_peaks H (z ∷ q))).
        ⊎_elim
        (λ (rest : w ∷ p ≡ z ∷ q). inl (ap (λ (h : List ℕ). h ∷ w ∷ p) same.0 ∙ ap (λ (t : List (List ℕ)). y ∷ t) rest))
        (λ (found : CollideAmong H S). inr found)
        (peaks_tell (w ∷ p) (z ∷ q) (omega (arith, l)) (All-tail Has32 x (w ∷ p) a) (All-tail Has32 y (z ∷ q) b)
        (All-tail S one (joining_strings H (w ∷ p)) f) (All-tail S other (joining_strings H (z ∷ q)) g) same.1))
        (λ (found : CollideAmong H S). inr found)
        (left_nodes H S x (root_of_peaks H (w ∷ p)) y (root_of_peaks H (z ∷ q)) (All-head Has32 x (w ∷ p) a ∙ sym (All-head Has32 y (z ∷ q) b))
        (All-head S one (joining_strings H (w ∷ p)) f) (All-head S other (joining_strings H (z ∷ q)) g) e)

  -- the state of a start keeps the leaves of the head
  start_keeps : (head : Head) (subtrees : List (List ℕ)) (bytes : List ℕ) (D : List (List ℕ)) → IsMonitorStart H head subtrees bytes → IsHeadOfAll H D head
      → KeepsInBytes H bytes (known_at_start head D) ⊎ CollideAmong H (IsHashedForStart H subtrees D)
  start_keeps head subtrees bytes D start is =
      let leaves = map (hash_leaf H) D in
      let S : List ℕ → Type 0 = IsHashedForStart H subtrees D in
      let own : List (List ℕ) = joining_strings H subtrees in
      let others : List (List ℕ) = joining_strings H (peaks H leaves) in
      let n : length leaves ≡ length D = length-map D (hash_leaf H) in
      let size : head.tree_size ≡ length leaves = is.0 ∙ sym n in
      let count : length subtrees ≡ length (peaks H leaves) = start.count ∙ ap count_ones size ∙ sym (count_at H (length leaves) leaves (omega arith)) in
      let root : root_of_peaks H subtrees ≡ root_of_peaks H (peaks H leaves) = sym start.root ∙ is.1 ∙ sym (root_of_peaks-peaks H leaves) in
      ⊎_elim
      (λ (same : subtrees ≡ peaks H leaves).
      let stands : Stands H (head.tree_size, subtrees) leaves = record { size = size; subtrees = same } in
      let keeps : Keeps H (start_state head subtrees) (known_at_start head D) = record {
        accepted = refl;
        waiting = refl;
        newest = refl;
        sure = stands;
        all = subst (λ (l : List (List ℕ)). Stands H (head.tree_size, subtrees) (map (hash_leaf H) l)) (sym (append-nil D)) stands;
      } in
      inl (start_state head subtrees, starts_are_read H head subtrees bytes start, keeps))
      (λ (found : CollideAmong H S). inr found)
      (peaks_tell S subtrees (peaks H leaves) count start.numbers.sure.roots (peaks_32 (length leaves) leaves (omega arith) (leaves_32 D))
      (All-weaker (Contains own) S (λ s h. inl h) own (All-contains_itself own))
      (All-weaker (Contains others) S (λ s h. inr h) others (All-contains_itself others)) root)

pub calls_agree_from_start : CallsAgreeFromStart
calls_agree_from_start H long head subtrees first calls start are D is =
    ⊎_elim
    (λ (kept : KeepsInBytes H first (known_at_start head D)).
    let shown = show H long first calls (known_at_start head D) (is, refl, omega arith, tt) kept are in
    inl (shown.last, shown.grows.0, shown.grows.1, (shown.hands, shown.stands, shown.all, shown.read, shown.older)))
    (λ (found : CollideAmong H (IsHashedForStart H subtrees D)). inr found)
    (start_keeps H long head subtrees first D start is)
