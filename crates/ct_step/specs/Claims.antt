-- When the index and timestamp that a store claims for a submission's identity are believed. H is any hash function on byte lists.
use Rattle.std.specs.Prelude.{◌≡◌, ℕ, ◌<◌, ◌≤◌, ◌^◌, List}
use Rattle.ct_codec.specs.Leaf.{SignedEntry, index_extension}
use Rattle.ct_codec.specs.Signed.{timestamp_text}
use Rattle.ct_codec.specs.declared.refusal.Refusal.TheVariants as refused
use Rattle.ct_tree.specs.Tree.{hash_leaf}
use Rattle.ct_tree.specs.declared.head.Head.{Head}
use Rattle.ct_verify.specs.Verdict.{AcceptsInclusion, RefusesInclusion}
use Rattle.ct_step.specs.Leaves.{indexed_leaf, receipt_parts}
use Rattle.ct_step.specs.declared.receipts.Receipt.{Receipt}
use Rattle.ct_step.specs.declared.claim.Claim.{Claim}
use Rattle.ct_step.specs.declared.claim.ClaimFault.{ClaimFault}
use Rattle.ct_step.specs.declared.claim.ClaimFault.TheVariants.{IndexTooLarge, ProofRefused, Refused}

-- the leaf at the claimed index if the claim is true: that of the entry, with the claimed timestamp and an extension that has the claimed
-- index (leaf_index, C2SP static-ct-api)
abbrev pub claimed_leaf : SignedEntry → Claim → List ℕ
claimed_leaf e claim = indexed_leaf claim.timestamp e claim.leaf_index

-- A claim for an entry is believed at a head: its index has 40 bits (`index`), and the path leads from the claimed leaf at that index to
-- the head's root (`included`).
pub record IsBelievedAt (H : List ℕ → List ℕ) (head : Head) (e : SignedEntry) (claim : Claim) (path : List (List ℕ)) : Type 0 where
  pub index : claim.leaf_index < 2 ^ 40
  pub included : AcceptsInclusion H (hash_leaf H (claimed_leaf e claim)) claim.leaf_index head.tree_size path head.root

-- A believed claim (`believed`) is answered with the receipt of the claimed leaf: its index, its timestamp, and the bytes that are signed
-- for it (`receipt`).
pub record IsAnsweredAt (H : List ℕ → List ℕ) (head : Head) (e : SignedEntry) (claim : Claim) (path : List (List ℕ)) (r : Receipt) : Type 0 where
  pub believed : IsBelievedAt H head e claim path
  pub receipt : receipt_parts r ≡ (claim.leaf_index, claim.timestamp, timestamp_text claim.timestamp e (index_extension claim.leaf_index))

-- The reason why a claim for an entry is not believed at a head:
-- - `IndexTooLarge`: no leaf can have that index.
-- - `ProofRefused`: a leaf can have the index, and the verifier refuses the path for this reason.
-- - `Refused`: a leaf can have the index, and memory could not be allocated.
abbrev pub StopsClaim : (List ℕ → List ℕ) → Head → SignedEntry → Claim → List (List ℕ) → ClaimFault → Type 0
StopsClaim H head e claim path IndexTooLarge = 2 ^ 40 ≤ claim.leaf_index
StopsClaim H head e claim path (ProofRefused fault) =
    (claim.leaf_index < 2 ^ 40) × RefusesInclusion H (hash_leaf H (claimed_leaf e claim)) claim.leaf_index head.tree_size path head.root fault
StopsClaim H head e claim path (Refused refusal) = (claim.leaf_index < 2 ^ 40) × (refusal ≡ refused.Memory)
