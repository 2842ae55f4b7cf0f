-- The codes and the bytes that a call of the guard returns and writes. H is any hash function on byte lists. The library's is SHA-256.
use Rattle.std.specs.Prelude.{◌≡◌, ◌⊎◌, ◌+◌, ◌<◌, ◌≤◌, ◌^◌, ℕ, List, [], length, Some}
use Rattle.ct_codec.specs.Signed.{tree_head_text}
use Rattle.ct_guard.specs.Guarded.{PassesHead, StopsHead, PassesReceipt, StopsReceipt}
use Rattle.ct_guard.specs.declared.refusal.HeadRefusal.{HeadRefusal}
use Rattle.ct_guard.specs.declared.refusal.ReceiptRefusal.{ReceiptRefusal}
use Rattle.ct_guard.specs.StepReceipts.{PassesReceipts, StopsReceipts}
use Rattle.ct_tree.specs.declared.head.Head.{Head}
use Rattle.ct_verify.specs.Laws.{AreHashes}
use Rattle.libwagtenib.specs.Codes.{head_code, receipt_code}
use Rattle.libwagtenib.specs.declared.head.TreeHead.{TreeHead}

-- the head that a caller in C hands in
abbrev pub head_of_c : TreeHead → Head
head_of_c h = record { tree_size = h.tree_size; timestamp = h.timestamp; root = h.root }

-- The bytes are the TreeHeadSignature of this head (RFC 6962, section 3.5), whose numbers have 64 bits and whose root has 32 bytes.
pub record IsStateOf (head : Head) (bytes : List ℕ) : Type 0 where
  pub size : head.tree_size < 2 ^ 64
  pub timestamp : head.timestamp < 2 ^ 64
  pub root : length head.root ≡ 32
  pub text : bytes ≡ tree_head_text head.timestamp head.tree_size head.root

-- the bytes are the TreeHeadSignature of no head
abbrev pub IsOfNoHead : List ℕ → Type 0
IsOfNoHead bytes = (head : Head) → IsStateOf head bytes → ⊥

-- the head of the empty tree, at any time: no leaves, and the hash of no bytes as its root (RFC 6962, section 2.1)
abbrev pub IsEmptyHead : (List ℕ → List ℕ) → Head → Type 0
IsEmptyHead H head = (head.tree_size ≡ 0) × (head.root ≡ H [])

-- a head may be the first that is signed: it is that of the empty tree, or the one with leaves that the operator named
abbrev pub MayBeFirst : (List ℕ → List ℕ) → Head → Head → Type 0
MayBeFirst H head named = IsEmptyHead H head ⊎ ((0 < head.tree_size) × (head ≡ named))

-- 0: the head may be the first, and its TreeHeadSignature is written. 40: it may not, and nothing is written.
abbrev pub GuardsFirstHead : (List ℕ → List ℕ) → ℕ → Head → Head → List ℕ → List ℕ → Type 0
GuardsFirstHead H code head named before after =
    ((code ≡ 0) × MayBeFirst H head named × IsStateOf head after)
    ⊎ ((code ≡ 40) × (MayBeFirst H head named → ⊥) × (after ≡ before))

-- a head may be signed after the last one: its timestamp is at most so many milliseconds beyond the last one's, and the guard lets it through by this
-- proof, whose elements have 32 bytes
abbrev pub MayFollow : (List ℕ → List ℕ) → Head → Head → List (List ℕ) → ℕ → Type 0
MayFollow H last head proof ahead =
    (head.timestamp ≤ last.timestamp + ahead) × PassesHead H (Some last) head proof × AreHashes proof

-- the number of the first reason why a head may not be signed after the last one: 35 and its timestamp is further beyond the last one's; or it is not, and the
-- guard stops the head for another reason
abbrev pub MayNotFollow : (List ℕ → List ℕ) → Head → Head → List (List ℕ) → ℕ → ℕ → Type 0
MayNotFollow H last head proof ahead code =
    ((code ≡ 35) × (last.timestamp + ahead < head.timestamp))
    ⊎ ((head.timestamp ≤ last.timestamp + ahead) × ((r : HeadRefusal) × (code ≡ head_code r) × StopsHead H (Some last) head proof r))

-- 36: the bytes that were handed in as the last TreeHeadSignature are none. 0: they are that of a head after which this one may be signed, and this one's
-- TreeHeadSignature is written. Otherwise the number of the first reason why it may not be signed. Nothing is written but at 0.
abbrev pub GuardsHead : (List ℕ → List ℕ) → ℕ → List ℕ → Head → List (List ℕ) → ℕ → List ℕ → List ℕ → Type 0
GuardsHead H code state head proof ahead before after =
    ((code ≡ 36) × IsOfNoHead state × (after ≡ before))
    ⊎ ((last : Head) × IsStateOf last state
    × (((code ≡ 0) × MayFollow H last head proof ahead × IsStateOf head after)
    ⊎ (MayNotFollow H last head proof ahead code × (after ≡ before))))

-- 36: the bytes that were handed in as the last TreeHeadSignature are none. 0: they are that of a head whose tree has this leaf at this index by this path, and
-- the leaf is not later. Otherwise the number of the first reason why no receipt of it may be signed.
abbrev pub GuardsReceipt : (List ℕ → List ℕ) → ℕ → List ℕ → List ℕ → ℕ → List (List ℕ) → Type 0
GuardsReceipt H code state leaf index path =
    ((code ≡ 36) × IsOfNoHead state)
    ⊎ ((last : Head) × IsStateOf last state
    × (((code ≡ 0) × PassesReceipt H (Some last) leaf index path)
    ⊎ ((r : ReceiptRefusal) × (code ≡ receipt_code r) × StopsReceipt H (Some last) leaf index path r)))

-- 0: the last head's tree ends with the leaves E, from this index on, by these roots of the subtrees before, and each leaf may have a receipt. Otherwise the number of the
-- first reason why not.
abbrev pub JudgesReceipts : (List ℕ → List ℕ) → ℕ → Head → ℕ → List (List ℕ) → List (List ℕ) → Type 0
JudgesReceipts H code last first subtrees E =
    ((code ≡ 0) × PassesReceipts H (Some last) first subtrees E × AreHashes subtrees)
    ⊎ ((r : ReceiptRefusal) × (code ≡ receipt_code r) × StopsReceipts H (Some last) first subtrees E r)

-- 36: the bytes that were handed in as the last TreeHeadSignature are none. Otherwise the receipts are judged after its head, or memory was refused (8).
abbrev pub GuardsReceipts : (List ℕ → List ℕ) → ℕ → List ℕ → ℕ → List (List ℕ) → List (List ℕ) → Type 0
GuardsReceipts H code state first subtrees E =
    ((code ≡ 36) × IsOfNoHead state)
    ⊎ ((last : Head) × IsStateOf last state
    × (JudgesReceipts H code last first subtrees E ⊎ (code ≡ 8)))

-- 0: the head is the one that was accepted, or it is later and its tree contains that one's by this proof, whose elements have 32 bytes. Otherwise the number of
-- the reason why not.
abbrev pub AcceptsHead : (List ℕ → List ℕ) → ℕ → Head → Head → List (List ℕ) → Type 0
AcceptsHead H code accepted head proof =
    ((code ≡ 0) × PassesHead H (Some accepted) head proof × AreHashes proof)
    ⊎ ((r : HeadRefusal) × (code ≡ head_code r) × StopsHead H (Some accepted) head proof r)

-- a head is the one that was seen before, or a later one with as many leaves or more
abbrev pub IsAtOrAfter : Head → Head → Type 0
IsAtOrAfter seen head = (head ≡ seen) ⊎ ((seen.tree_size ≤ head.tree_size) × (seen.timestamp < head.timestamp))

-- 36: a state that was handed in is no TreeHeadSignature. 0: the state's head is written, and it is not before that of the state that was seen. 37: it is before it.
-- Nothing is written but at 0.
abbrev pub ReadsGuardState : ℕ → List ℕ → List ℕ → TreeHead → TreeHead → Type 0
ReadsGuardState code seen state before after =
    ((code ≡ 36) × (IsOfNoHead state ⊎ IsOfNoHead seen) × (after ≡ before))
    ⊎ ((head old : Head) × IsStateOf head state × IsStateOf old seen
    × (((code ≡ 0) × IsAtOrAfter old head × (head_of_c after ≡ head))
    ⊎ ((code ≡ 37) × (IsAtOrAfter old head → ⊥) × (after ≡ before))))
