-- Proofs of the laws of many heads and receipts.
use Rattle.std.proofs.Common.{refl, subst, ◌⊎◌, inl, inr, ⊎_elim, ◌≡◌, ℕ, ◌<◌, sym, ◌∙◌, ap, arith, List, [], ◌∷◌, ◌++◌, length, take, drop, get_or}
use Rattle.std.proofs.Common.{Option, Some, None, true}
use Rattle.std.specs.Prelude.{All, Contains}
use Rattle.std.proofs.lemmas.List.Elements.{All-nil, All-cons, All-head, All-tail, All-weaker, All-contains_itself}
use Rattle.std.proofs.lemmas.List.{append_assoc, append-nil, take-append-drop}
use Rattle.std.proofs.Math.Seq.{take-append_seam}
use Rattle.ct_tree.specs.Tree.{mth_of_leaves, hash_leaf}
use Rattle.ct_tree.specs.declared.head.Head.{Head}
use Rattle.ct_monitor.specs.Heads.{IsHeadOfAll}
use Rattle.ct_verify.proofs.ListProofs.{same_lists, beginning, accepted_path_is_path}
use Rattle.ct_verify.proofs.OlderTree.{HasLog, whole_log}
use Rattle.ct_verify.proofs.Viewing.{first_of, second_of}
use Rattle.ct_verify.specs.Hashed.{CollideAmong, proof_strings}
use Rattle.ct_verify.specs.ListLaws.{IsHashedInAudit}
use Rattle.ct_verify.specs.ConsistencyEvidence.{IsAcceptedFor, IsBeginning}
use Rattle.ct_verify.specs.InclusionEvidence.{IsAccepted}
use Rattle.ct_verify.specs.Laws.{AreHashes}
use Rattle.ct_verify.specs.Verdict.{AcceptsInclusion, AcceptsConsistency}
use Rattle.ct_guard.specs.Guarded.{PassesHead, IsLater}
use Rattle.ct_guard.specs.History.{Passed, ArePassed, BeginsAll, AreBeginnings, head_strings, passed_strings, IsHashedInLists, IsHashedForPassed, PassedHeadsAgree, PassedReceiptsStand}

-- ---- beginnings
rest_of : (E D : List (List ℕ)) → IsBeginning E D → D ≡ E ++ drop (length E) D
rest_of E D e = sym (take-append-drop (length E) D) ∙ ap (λ v. v ++ drop (length E) D) (sym e)

begins_trans : (E D F : List (List ℕ)) → IsBeginning E D → IsBeginning D F → IsBeginning E F
begins_trans E D F a b =
    let y = drop (length E) D in
    let z = drop (length D) F in
    let f : F ≡ E ++ (y ++ z) = rest_of D F b ∙ ap (λ v. v ++ z) (rest_of E D a) ∙ append_assoc E y z in
    sym (ap (take (length E)) f ∙ take-append_seam E (y ++ z))

begins_itself : (E D : List (List ℕ)) → E ≡ D → IsBeginning E D
begins_itself E D e =
    let f : D ≡ E ++ [] = sym e ∙ sym (append-nil E) in
    sym (ap (take (length E)) f ∙ take-append_seam E [])

none_begins : (E D : List (List ℕ)) → length E ≡ 0 → IsBeginning E D
none_begins [] D l = refl
none_begins (e ∷ E) D l = absurd (omega (arith, l))

module _ (H : List ℕ → List ℕ) (hash_length : (x : List ℕ) → length (H x) ≡ 32) (S : List ℕ → Type 0) where
  abbrev Logged : List (List ℕ) → Type 0
  Logged D = HasLog H hash_length S D

  -- ---- two heads, one after the other
  one_root : (last head : Head) (E D : List (List ℕ)) → Logged E → Logged D → IsHeadOfAll H E last → IsHeadOfAll H D head → last.tree_size ≡ head.tree_size
      → head.root ≡ last.root → IsBeginning E D ⊎ CollideAmong H S
  one_root last head E D log_E log_D a b sizes roots =
      let e : length E ≡ length D = sym a.0 ∙ sizes ∙ b.0 in
      ⊎_elim
      (λ (same : E ≡ D). inl (begins_itself E D same))
      (λ (pair : CollideAmong H S). inr pair)
      (same_lists H hash_length S (length D) E D e refl (sym a.1 ∙ sym roots ∙ b.1) (whole_log H hash_length S E log_E) (whole_log H hash_length S D log_D))

  accepted : (last head : Head) (E D p : List (List ℕ)) → Logged E → Logged D → IsHeadOfAll H E last → IsHeadOfAll H D head → AreHashes p
      → All S (proof_strings H last.tree_size head.tree_size true last.root p)
      → AcceptsConsistency H last.tree_size head.tree_size last.root head.root p → IsBeginning E D ⊎ CollideAmong H S
  accepted last head E D p log_E log_D a b hashes strings c =
      let own : All S (proof_strings H (length E) (length D) true (mth_of_leaves H E) p) = rw (sym a.0, sym b.0, sym a.1) strings in
      beginning H hash_length S E D p hashes (rw (sym a.0, sym b.0, sym a.1, sym b.1) c) own (whole_log H hash_length S E log_E) log_D

  later : (last head : Head) (E D p : List (List ℕ)) → Logged E → Logged D → IsHeadOfAll H E last → IsHeadOfAll H D head → AreHashes p
      → All S (proof_strings H last.tree_size head.tree_size true last.root p) → IsLater H last head p → IsBeginning E D ⊎ CollideAmong H S
  later last head E D p log_E log_D a b hashes strings (inl s) = one_root last head E D log_E log_D a b s.0 s.1
  later last head E D p log_E log_D a b hashes strings (inr (inl s)) = inl (none_begins E D (sym a.0 ∙ s.0))
  later last head E D p log_E log_D a b hashes strings (inr (inr c)) = accepted last head E D p log_E log_D a b hashes strings c

  behind : (last head : Head) (E D p : List (List ℕ)) → Logged E → Logged D → IsHeadOfAll H E last → IsHeadOfAll H D head → AreHashes p
      → All S (proof_strings H last.tree_size head.tree_size true last.root p) → PassesHead H (Some last) head p → IsBeginning E D ⊎ CollideAmong H S
  behind last head E D p log_E log_D a b hashes strings (inl same) =
      one_root last head E D log_E log_D a b (sym (ap (λ h. h.tree_size) same)) (ap (λ h. h.root) same)
  behind last head E D p log_E log_D a b hashes strings (inr l) = later last head E D p log_E log_D a b hashes strings l.1

  -- ---- all heads
  begins_all : (E D : List (List ℕ)) (steps : List Passed) → IsBeginning E D → BeginsAll D steps → BeginsAll E steps
  unfolding BeginsAll
  begins_all E D [] e b = tt
  begins_all E D (s ∷ steps) e b = (begins_trans E D s.leaves e b.0, begins_all E D steps e b.1)

  joined : (s t : Passed) (steps : List Passed) → IsBeginning s.leaves t.leaves → AreBeginnings (t ∷ steps) → AreBeginnings (s ∷ t ∷ steps)
  unfolding BeginsAll AreBeginnings
  joined s t steps e b = ((e, begins_all s.leaves t.leaves steps e b.0), b)

  own_strings : (last : Head) (s : Passed) (steps : List Passed) → All S (passed_strings H (Some last) (s ∷ steps))
      → All S (proof_strings H last.tree_size s.head.tree_size true last.root s.proof)
  unfolding passed_strings
  own_strings last s steps a = first_of S (proof_strings H last.tree_size s.head.tree_size true last.root s.proof) (passed_strings H (Some s.head) steps) a

  later_strings : (last : Option Head) (s : Passed) (steps : List Passed) → All S (passed_strings H last (s ∷ steps)) → All S (passed_strings H (Some s.head) steps)
  unfolding passed_strings
  later_strings last s steps a = second_of S (head_strings H last s.head s.proof) (passed_strings H (Some s.head) steps) a

  agree : (last : Option Head) (steps : List Passed) → All S (passed_strings H last steps) → All (λ s. Logged s.leaves) steps → ArePassed H last steps
      → AreBeginnings steps ⊎ CollideAmong H S
  unfolding ArePassed BeginsAll AreBeginnings
  agree last [] strings logged a = inl tt
  agree last (s ∷ []) strings logged a = inl (tt, tt)
  agree last (s ∷ t ∷ steps) strings logged a =
      let next = a.3 in
      let rest = All-tail (λ z. Logged z.leaves) s (t ∷ steps) logged in
      let after = later_strings last s (t ∷ steps) strings in
      ⊎_elim
      (λ (e : IsBeginning s.leaves t.leaves).
      ⊎_elim
      (λ (b : AreBeginnings (t ∷ steps)). inl (joined s t steps e b))
      (λ (pair : CollideAmong H S). inr pair)
      (agree (Some s.head) (t ∷ steps) after rest next))
      (λ (pair : CollideAmong H S). inr pair)
      (behind s.head t.head s.leaves t.leaves t.proof (All-head (λ z. Logged z.leaves) s (t ∷ steps) logged) (All-head (λ z. Logged z.leaves) t steps rest)
      a.2 next.2 next.1 (own_strings s.head t steps after) next.0)

-- the strings of each list are among those of all
lists_logged : (H : List ℕ → List ℕ) (hash_length : (x : List ℕ) → length (H x) ≡ 32) (S : List ℕ → Type 0) (steps : List Passed)
    → ((x : List ℕ) → IsHashedInLists H steps x → S x) → All (λ s. HasLog H hash_length S s.leaves) steps
unfolding IsHashedInLists
lists_logged H hash_length S [] f = All-nil (λ s. HasLog H hash_length S s.leaves)
lists_logged H hash_length S (s ∷ steps) f =
    All-cons (λ s. HasLog H hash_length S s.leaves) s steps (λ n l x w. f x (inl (n, l, w))) (lists_logged H hash_length S steps (λ x w. f x (inr w)))

pub passed_heads_agree : PassedHeadsAgree
passed_heads_agree H hash_length last steps a =
    let S = IsHashedForPassed H last steps in
    let strings = passed_strings H last steps in
    agree H hash_length S last steps (All-weaker (Contains strings) S (λ s c. inl c) strings (All-contains_itself strings))
    (lists_logged H hash_length S steps (λ x w. inr w)) a

pub passed_receipts_stand : PassedReceiptsStand
passed_receipts_stand H hash_length last D b m p a r =
    ⊎_elim
    (λ z. inl (z.0, z.1))
    (λ (pair : CollideAmong H (IsHashedInAudit H D b m p)). inr pair)
    (accepted_path_is_path H hash_length D b m p (rw (sym a.0, sym a.1) r))
