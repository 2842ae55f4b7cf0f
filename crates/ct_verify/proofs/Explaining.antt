-- The evidence for an audit path.
use Rattle.std.proofs.Common.{◌≡◌, ℕ, refl, subst, sym, ◌∙◌, ap, arith, List, length, map, Some, None, Ok, Err, Result, MatchResult}
use Rattle.std.proofs.lemmas.List.{length-map}
use Rattle.ct_tree.specs.Tree.{hash_leaf, mth_of_leaves}
use Rattle.ct_verify.proofs.Options.{none_some}
use Rattle.ct_verify.proofs.Defined.{accepted_not_refused}
use Rattle.ct_verify.proofs.Shown.{Shows, evid_shows, audited_none, audited_accepted}
use Rattle.ct_verify.specs.Rebuild.{rebuild}
use Rattle.ct_verify.specs.Verdict.{AcceptsInclusion}
use Rattle.ct_verify.specs.Evidence.{Collides, evid, IsAudited}
use Rattle.ct_verify.specs.Strings.{IsCollision}
use Rattle.ct_verify.specs.Laws.{PathHolds}
use Rattle.ct_verify.specs.InclusionEvidence.{IsAccepted, InclusionEvidence, InclusionFault}
use Rattle.ct_verify.specs.declared.evidence.Evidence.{Evidence}
use Rattle.ct_verify.specs.declared.evidence.Evidence.TheVariants.{Holds, Collision}
use Rattle.ct_verify.specs.declared.evidence.EvidenceFault.{EvidenceFault}
use Rattle.ct_verify.specs.declared.evidence.EvidenceFault.TheVariants.{ProofRefused, Memory}

module _ (H : List ℕ → List ℕ) (hash_length : (x : List ℕ) → length (H x) ≡ 32) where
  -- the verifier's verdict carried over to the list
  pub accepted : {V : Type 0} (f : V → List ℕ) (xs : List V) (leaf h root : List ℕ) (m : ℕ) (p : List (List ℕ)) → h ≡ hash_leaf H leaf
      → root ≡ mth_of_leaves H (map f xs)
      → AcceptsInclusion H h m (length xs) p root → IsAccepted H (map f xs) leaf m p
  accepted f xs leaf h root m p eh er a =
      let n : length (map f xs) ≡ length xs = length-map xs f in
      (omega (arith, a.0), rw n (ap (λ u. rebuild H m (length xs) u p) (sym eh) ∙ a.1 ∙ ap Some er))

  pub nothing_found : (A : Type 0) (D : List (List ℕ)) (leaf : List ℕ) (m : ℕ) (p : List (List ℕ)) → IsAccepted H D leaf m p → evid H D leaf m p ≡ None
      → InclusionEvidence {A = A} H D leaf m p Holds
  nothing_found A D leaf m p a e =
      (a, e, subst (Shows H (IsAudited H D leaf m p)) e (evid_shows H hash_length D leaf m p a.0 a.1))

  pub pair_found : {A : Type 0} → (D : List (List ℕ)) (leaf : List ℕ) (m : ℕ) (p : List (List ℕ)) (z : List ℕ × List ℕ) (e : Evidence A)
      → IsAccepted H D leaf m p
      → evid H D leaf m p ≡ Some z → IsCollision z e → InclusionEvidence H D leaf m p e
  pair_found D leaf m p z Holds a f i = absurd i
  pair_found D leaf m p z (Collision x y) a f i =
      let c : Collides H z.0 z.1 = subst (Shows H (IsAudited H D leaf m p)) f (evid_shows H hash_length D leaf m p a.0 a.1) in
      (a, rw (i.0, i.1) f, rw (i.0, i.1) c)

  -- a leaf with its PATH always has the result Holds
  pub holds : {A : Type 0} → (D : List (List ℕ)) (leaf : List ℕ) (m : ℕ) (p : List (List ℕ)) (result : Result (Evidence A) EvidenceFault)
      → MatchResult result (InclusionEvidence H D leaf m p) (InclusionFault H D leaf m p) → IsAudited H D leaf m p → result ≡ Ok Holds
  holds D leaf m p (Ok Holds) e a = refl
  holds D leaf m p (Ok (Collision x y)) e a = absurd (none_some (x.items, y.items) (sym (audited_none H hash_length D leaf m p a) ∙ e.1))
  holds D leaf m p (Err (ProofRefused v)) e a =
      absurd (accepted_not_refused H (hash_leaf H leaf) m (length D) p (mth_of_leaves H D) v (a.0, audited_accepted H hash_length D leaf m p a) e)
  holds D leaf m p (Err Memory) e a = absurd (none_some (e.1.0, e.1.1) (sym (audited_none H hash_length D leaf m p a) ∙ e.1.2))

pub path_holds : PathHolds
path_holds H hash_length D leaf m p a = ((a.0, audited_accepted H hash_length D leaf m p a), audited_none H hash_length D leaf m p a)
