-- Proof of the law of many heads, if the newest is that of a list.
use Rattle.std.proofs.Common.{subst, ◌⊎◌, inl, inr, ⊎_elim, ◌≡◌, ℕ, ◌≤◌, sym, ◌∙◌, ap, arith, List, [], ◌∷◌, length, take, Some}
use Rattle.std.specs.Prelude.{true, ◌++◌, All, Contains}
use Rattle.std.specs.declared.option.Option.{Option}
use Rattle.std.proofs.lemmas.List.{length-take-le, take-take, take_all}
use Rattle.std.proofs.lemmas.List.Elements.{All-nil, All-cons, All-head, All-weaker, All-contains_itself}
use Rattle.ct_tree.specs.Tree.{mth_of_leaves}
use Rattle.ct_tree.specs.declared.head.Head.{Head}
use Rattle.ct_monitor.specs.Heads.{IsHeadOfAll}
use Rattle.ct_verify.specs.Laws.{AreHashes}
use Rattle.ct_verify.specs.Verdict.{AcceptsConsistency}
use Rattle.ct_guard.specs.Guarded.{PassesHead, IsLater}
use Rattle.ct_verify.proofs.OlderTree.{HasLog, has_cut, whole_log, goes_back}
use Rattle.ct_verify.proofs.Viewing.{first_of, second_of}
use Rattle.ct_verify.specs.Hashed.{CollideAmong, proof_strings}
use Rattle.ct_guard.specs.History.{head_strings}
use Rattle.ct_guard.specs.NewestHead.{HeadStep, AreHeadSteps, NewestIsOf, IsHeadOfFirst, step_strings, IsHashedForHeads, HeadsGoBack}

module _ (H : List ℕ → List ℕ) (hash_length : (x : List ℕ) → length (H x) ≡ 32) (S : List ℕ → Type 0) where
  whole : (D : List (List ℕ)) (h : Head) → IsHeadOfAll H D h → IsHeadOfFirst H D h
  whole D h a = λ some. (omega (arith, a.0), a.1 ∙ ap (mth_of_leaves H) (sym (take_all h.tree_size D (omega (arith, a.0)))))

  later : (last head : Head) (D p : List (List ℕ)) → AreHashes p → All S (proof_strings H last.tree_size head.tree_size true last.root p)
      → HasLog H hash_length S D → IsHeadOfFirst H D head → IsLater H last head p → IsHeadOfFirst H D last ⊎ CollideAmong H S
  later last head D p a strings log f (inl same) =
      inl (λ some.
      let g = f (omega (arith, some, same.0)) in
      (omega (arith, same.0, g.0), sym same.1 ∙ g.1 ∙ ap (λ n. mth_of_leaves H (take n D)) (sym same.0)))
  later last head D p a strings log f (inr (inl none)) = inl (λ some. absurd (omega (arith, some, none.0)))
  later last head D p a strings log f (inr (inr accepted)) =
      let g = f (omega (arith, accepted.1)) in
      let E = take head.tree_size D in
      let n : head.tree_size ≡ length E = sym (length-take-le head.tree_size D g.0) in
      let c : AcceptsConsistency H last.tree_size (length E) last.root (mth_of_leaves H E) p =
      subst (λ r. AcceptsConsistency H last.tree_size (length E) last.root r p) g.1
      (subst (λ m. AcceptsConsistency H last.tree_size m last.root head.root p) n accepted) in
      let own : All S (proof_strings H last.tree_size (length E) true last.root p) = subst (λ m. All S (proof_strings H last.tree_size m true last.root p)) n strings in
      let l : last.tree_size ≤ head.tree_size = omega (arith, accepted.1) in
      ⊎_elim
      (λ (e : last.root ≡ mth_of_leaves H (take last.tree_size E)).
      inl (λ some. (omega (arith, l, g.0), e ∙ ap (mth_of_leaves H) (take-take last.tree_size head.tree_size D l))))
      (λ (pair : CollideAmong H S). inr pair)
      (goes_back H hash_length S p last.tree_size last.root E a c.0 (omega (arith, c.1)) c.2 own
      (whole_log H hash_length S E (has_cut H hash_length S D head.tree_size g.0 log)))

  behind : (last head : Head) (D p : List (List ℕ)) → AreHashes p → All S (proof_strings H last.tree_size head.tree_size true last.root p)
      → HasLog H hash_length S D → IsHeadOfFirst H D head → PassesHead H (Some last) head p → IsHeadOfFirst H D last ⊎ CollideAmong H S
  behind last head D p a strings log f (inl same) = inl (subst (IsHeadOfFirst H D) same f)
  behind last head D p a strings log f (inr z) = later last head D p a strings log f z.1

  own_strings : (last : Head) (s : HeadStep) (steps : List HeadStep) → All S (step_strings H (Some last) (s ∷ steps))
      → All S (proof_strings H last.tree_size s.head.tree_size true last.root s.proof)
  unfolding step_strings
  own_strings last s steps a = first_of S (proof_strings H last.tree_size s.head.tree_size true last.root s.proof) (step_strings H (Some s.head) steps) a

  later_strings : (last : Option Head) (s : HeadStep) (steps : List HeadStep) → All S (step_strings H last (s ∷ steps)) → All S (step_strings H (Some s.head) steps)
  unfolding step_strings
  later_strings last s steps a = second_of S (head_strings H last s.head s.proof) (step_strings H (Some s.head) steps) a

  back : (last : Option Head) (steps : List HeadStep) (D : List (List ℕ)) → AreHeadSteps H last steps → All S (step_strings H last steps) → HasLog H hash_length S D
      → NewestIsOf H D steps → All (λ s. IsHeadOfFirst H D s.head) steps ⊎ CollideAmong H S
  unfolding AreHeadSteps NewestIsOf
  back last [] D g strings log n = inl (All-nil (λ s. IsHeadOfFirst H D s.head))
  back last (s ∷ []) D g strings log n = inl (All-cons (λ z. IsHeadOfFirst H D z.head) s [] (whole D s.head n) (All-nil (λ z. IsHeadOfFirst H D z.head)))
  back last (s ∷ t ∷ steps) D g strings log n =
      let after = later_strings last s (t ∷ steps) strings in
      ⊎_elim
      (λ (r : All (λ z. IsHeadOfFirst H D z.head) (t ∷ steps)).
      ⊎_elim
      (λ (f : IsHeadOfFirst H D s.head). inl (All-cons (λ z. IsHeadOfFirst H D z.head) s (t ∷ steps) f r))
      (λ (pair : CollideAmong H S). inr pair)
      (behind s.head t.head D t.proof g.2.1 (own_strings s.head t steps after) log (All-head (λ z. IsHeadOfFirst H D z.head) t steps r) g.2.0))
      (λ (pair : CollideAmong H S). inr pair)
      (back (Some s.head) (t ∷ steps) D g.2 after log n)

pub heads_go_back : HeadsGoBack
heads_go_back H hash_length last steps D g n =
    let S = IsHashedForHeads H last steps D in
    let strings = step_strings H last steps in
    back H hash_length S last steps D g (All-weaker (Contains strings) S (λ s c. inl c) strings (All-contains_itself strings)) (λ n l s w. inr (n, l, w)) n
