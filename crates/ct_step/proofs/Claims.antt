-- The replies to the index that is claimed for a submission.
use Rattle.std.proofs.Common.{◌≡◌, ◌≢◌, ◌⊎◌, ◌∙◌, ◌<◌, ℕ, List, [], length, get_or, refl, sym, ap, subst, inl, inr, arith}
use Rattle.std.proofs.lemmas.List.{length-map}
use Rattle.sha2.specs.Sha256.{sha256}
use Rattle.ct_codec.specs.Leaf.{SignedEntry}
use Rattle.ct_codec.specs.Submitted.{Submitted, entry_of}
use Rattle.ct_codec.specs.declared.refusal.Refusal.TheVariants as refused
use Rattle.ct_step.specs.Believed.{IsHeadOver}
use Rattle.ct_step.specs.Leaves.{receipt_parts}
use Rattle.ct_step.specs.Claims.{claimed_leaf, IsBelievedAt, StopsClaim}
use Rattle.ct_step.specs.declared.claim.Claim.{Claim}
use Rattle.ct_step.specs.declared.claim.ClaimFault.{ClaimFault}
use Rattle.ct_step.specs.declared.claim.ClaimFault.TheVariants.{IndexTooLarge, ProofRefused, Refused}
use Rattle.ct_step.proofs.Believing.{stands_there}
use Rattle.ct_step.proofs.Once.{leaves_keep_identities}
use Rattle.ct_step.specs.declared.line.StateLine.{StateLine}
use Rattle.ct_step.proofs.StateLines.{state_lines_differ}
use Rattle.ct_step.specs.Entries.{tree_leaves}
use Rattle.ct_step.specs.Steps.{line_head, IsLog}
use Rattle.ct_data_tiles.specs.TileLeaf.{Tiled, leaf_of}
use Rattle.ct_tree.specs.Tree.{hash_leaf}
use Rattle.ct_tree.specs.declared.head.Head.{Head}
use Rattle.ct_verify.specs.Hashed.{CollideAmong}
use Rattle.ct_verify.specs.ListLaws.{IsHashedInAudit}
use Rattle.ct_verify.proofs.Defined.{accepted_not_refused}
use Rattle.ct_step.specs.StepAnswers.{IsClaimReplyBy}
use Rattle.ct_step.specs.StepLaws.{StandsAsClaimed, ClaimsStandThere}
use Rattle.ct_step.specs.StepWords.{stands, refuses}
use Rattle.ct_step.specs.declared.answer.StepRefusal.{StepRefusal}

-- if a claim is refused for another reason than memory, no path leads there
pub not_believed : (head : Head) (e : SignedEntry) (claim : Claim) (path : List (List ℕ)) (fault : ClaimFault) → fault ≢ Refused refused.Memory
    → StopsClaim sha256 head e claim path fault → IsBelievedAt sha256 head e claim path → ⊥
not_believed head e claim path IndexTooLarge other stops b = omega (arith, stops, b.index)
not_believed head e claim path (ProofRefused fault) other stops b =
    accepted_not_refused sha256 (hash_leaf sha256 (claimed_leaf e claim)) claim.leaf_index head.tree_size path head.root fault b.included stops.1
not_believed head e claim path (Refused refusal) other stops b = other (ap Refused stops.1)

no_refusal : (p : ℕ × ℕ × List ℕ) (r : StepRefusal) → stands p ≡ refuses r → ⊥
no_refusal p r e = cc

same_receipt : (p q : ℕ × ℕ × List ℕ) → stands p ≡ stands q → p ≡ q
same_receipt p q e = cc

within : (H : List ℕ → List ℕ) (S : List ℕ → Type 0) (E : List Tiled) (i : ℕ) (leaf : List ℕ)
    → ((i < length (tree_leaves E)) × (leaf ≡ get_or (tree_leaves E) i [])) ⊎ CollideAmong H S
    → ((i < length E) × (leaf ≡ get_or (tree_leaves E) i [])) ⊎ CollideAmong H S
within H S E i leaf (inl there) = inl (omega (arith, there.0, length-map E leaf_of), there.1)
within H S E i leaf (inr found) = inr found

told : (H : List ℕ → List ℕ) → ((x : List ℕ) → length (H x) ≡ 32) → (line : StateLine) (claim : Claim) (path : List (List ℕ)) (s : Submitted) (r : ℕ × ℕ × List ℕ) (E : List Tiled)
    → IsClaimReplyBy H line claim path s (stands r) → IsLog H E line → StandsAsClaimed H E claim path s r
told H sized line claim path s r E (inl tells) log =
    let e = entry_of s in
    let q : ℕ × ℕ × List ℕ = (claim.leaf_index, claim.timestamp, claimed_leaf e claim) in
    let same : r ≡ q = same_receipt r (receipt_parts tells.0) tells.1 ∙ tells.2.receipt in
    let over : IsHeadOver H (tree_leaves E) (line_head line) = (
      log.size ∙ sym (length-map E leaf_of),
      log.root,
      omega (arith, log.few, length-map E leaf_of),
    ) in
    subst (λ (x : ℕ × ℕ × List ℕ). StandsAsClaimed H E claim path s x) (sym same)
    (record {
      index = refl;
      moment = refl;
      signed = refl;
      identity = leaves_keep_identities claim.timestamp claim.leaf_index s;
      there = within H (IsHashedInAudit H (tree_leaves E) (claimed_leaf e claim) claim.leaf_index path) E claim.leaf_index (claimed_leaf e claim)
          (stands_there H sized (line_head line) (tree_leaves E) (claimed_leaf e claim) (claimed_leaf e claim) claim.leaf_index path over
          tells.2.believed.included refl);
    })
told H sized line claim path s r E (inr none) log = absurd (no_refusal r _ none.0)

pub claims_stand_there : ClaimsStandThere
claims_stand_there H sized line claim path s r E known (inl of) log =
    let same : of.0 ≡ line = state_lines_differ of.0 line of.1 known of.2 in
    told H sized line claim path s r E (subst (λ (l : StateLine). IsClaimReplyBy H l claim path s (stands r)) same of.3) log
claims_stand_there H sized line claim path s r E known (inr none) log = absurd (no_refusal r _ none.1)
