-- The leaves of a log in which each leaf has its own index, and the receipts for them (C2SP static-ct-api).
use Rattle.std.specs.Prelude.{◌≡◌, ℕ, suc, List, [], ◌∷◌, map}
use Rattle.ct_codec.specs.Leaf.{SignedEntry, leaf_text, index_extension}
use Rattle.ct_codec.specs.Signed.{timestamp_text}
use Rattle.ct_step.specs.declared.receipts.Receipt.{Receipt}

-- the leaf at index i of an entry e that was added at the timestamp t: its extensions have exactly the index
abbrev pub indexed_leaf : ℕ → SignedEntry → ℕ → List ℕ
indexed_leaf t e i = leaf_text t e (index_extension i)

-- the leaves of these entries, from an index on, all with the timestamp t
unfoldable pub indexed_leaves : ℕ → ℕ → List SignedEntry → List (List ℕ)
indexed_leaves t first [] = []
indexed_leaves t first (e ∷ entries) = indexed_leaf t e first ∷ indexed_leaves t (suc first) entries

-- the receipts for these entries, from an index on, all with the timestamp t: each has the leaf index, the timestamp, and the bytes that
-- are signed for a certificate timestamp whose extension has that index (RFC 6962, section 3.2)
unfoldable pub receipts_from : ℕ → ℕ → List SignedEntry → List (ℕ × ℕ × List ℕ)
receipts_from t first [] = []
receipts_from t first (e ∷ entries) = (first, t, timestamp_text t e (index_extension first)) ∷ receipts_from t (suc first) entries

-- a receipt's leaf index, its timestamp, and the bytes to be signed
abbrev pub receipt_parts : Receipt → ℕ × ℕ × List ℕ
receipt_parts r = (r.leaf_index, r.timestamp, r.signed.items)

-- the bytes that are signed for the receipts of entries are their leaves, in order
abbrev pub ReceiptsAreLeaves : Type 0
ReceiptsAreLeaves = (t first : ℕ) (entries : List SignedEntry) → map (λ r. r.2) (receipts_from t first entries) ≡ indexed_leaves t first entries
