-- The consequences of a believed claim for the list of leaves.
use Rattle.std.proofs.Common.{◌≡◌, ◌⊎◌, ◌∙◌, ℕ, ◌<◌, List, [], length, get_or, subst, inl, inr, ⊎_elim}
use Rattle.ct_tree.specs.Tree.{hash_leaf, mth_of_leaves}
use Rattle.ct_tree.specs.declared.head.Head.{Head}
use Rattle.ct_verify.specs.Verdict.{AcceptsInclusion, RefusesInclusion}
use Rattle.ct_verify.specs.Evidence.{IsAudited}
use Rattle.ct_verify.proofs.ListProofs.{accepted_path_is_path}
use Rattle.ct_verify.specs.Hashed.{CollideAmong}
use Rattle.ct_verify.specs.ListLaws.{IsHashedInAudit}
use Rattle.ct_verify.specs.declared.fault.ProofFault.{ProofFault}
use Rattle.ct_verify.proofs.Equations.{path_not_refused}
use Rattle.ct_verify.proofs.Explaining.{path_holds}
use Rattle.ct_step.specs.Believed.{IsHeadOver}

module _ (H : List ℕ → List ℕ) (long : (x : List ℕ) → length (H x) ≡ 32) where
  -- a leaf that is accepted at the head of a list is the list's, or two of the strings that are hashed collide
  pub stands_there : (head : Head) (D : List (List ℕ)) (leaf signed : List ℕ) (i : ℕ) (path : List (List ℕ)) → IsHeadOver H D head
      → AcceptsInclusion H (hash_leaf H leaf) i head.tree_size path head.root → signed ≡ leaf
      → ((i < length D) × (signed ≡ get_or D i [])) ⊎ CollideAmong H (IsHashedInAudit H D leaf i path)
  stands_there head D leaf signed i path over accepted same =
      ⊎_elim
      (λ (told : IsAudited H D leaf i path). inl (told.0, same ∙ told.1))
      (λ (found : CollideAmong H (IsHashedInAudit H D leaf i path)). inr found)
      (accepted_path_is_path H long D leaf i path
      (subst (λ (root : List ℕ). AcceptsInclusion H (hash_leaf H leaf) i (length D) path root) over.1
      (subst (λ (n : ℕ). AcceptsInclusion H (hash_leaf H leaf) i n path head.root) over.0 accepted)))

  -- the verifier refuses no leaf of the list with its path
  pub never_refused : (head : Head) (D : List (List ℕ)) (leaf : List ℕ) (i : ℕ) (path : List (List ℕ)) (fault : ProofFault) → IsHeadOver H D head
      → IsAudited H D leaf i path → RefusesInclusion H (hash_leaf H leaf) i head.tree_size path head.root fault → ⊥
  never_refused head D leaf i path fault over true_claim refused =
      path_not_refused H (hash_leaf H leaf) i (length D) path (mth_of_leaves H D) fault (path_holds H long D leaf i path true_claim).0
      (subst (λ (root : List ℕ). RefusesInclusion H (hash_leaf H leaf) i (length D) path root fault) over.1
      (subst (λ (n : ℕ). RefusesInclusion H (hash_leaf H leaf) i n path head.root fault) over.0 refused))
