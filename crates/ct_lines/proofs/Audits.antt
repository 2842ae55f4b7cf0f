-- The basis of an audit: the head of a size, the log's own leaf and path, and the verdict on them.
use Rattle.std.proofs.Common.{◌≡◌, ◌<◌, ◌≤◌, ℕ, List, [], length, map, take, Option, Some, None, true, false, cond}
use Rattle.std.proofs.Common.{refl, sym, ap, ◌∙◌, subst, arith, rules}
use Rattle.std.specs.Prelude.{not, IfSome, is_some, slice_get}
use Rattle.std.specs.List.{Contains}
use Rattle.std.proofs.lemmas.List.{length-map, length-take-le, get_or-map}
use Rattle.std.proofs.lemmas.List.Elements.{All-contains}
use Rattle.std.proofs.lemmas.Option.{slice_get_within, get_or_from_slice_get}
use Rattle.sha2.specs.Sha256.{sha256}
use Rattle.ct_tree.specs.Tree.{hash_leaf, mth_of_leaves, path}
use Rattle.ct_tree.specs.declared.head.Head.{Head}
use Rattle.ct_verify.specs.Evidence.{evid, IsAudited}
use Rattle.ct_core.specs.Tree.{sha256_leaf, path_of, tree_hash}
use Rattle.ct_core.specs.Leaf.{Entry, leaf_at}
use Rattle.ct_core.specs.Settlement.{Log, Lawful, IsHeadOf}
use Rattle.ct_core.specs.Answers.{is_size, first_leaves, answer, text_of, entry_found}
use Rattle.ct_codec.specs.declared.refusal.Refusal.TheVariants.{UnknownSize}
use Rattle.ct_core.specs.declared.query.Query.TheVariants.{EntryAndProof}
use Rattle.ct_core.specs.Replies.{EntryBytes, an_entry, proof_holds, proof_refused, refused}
use Rattle.ct_lines.specs.Asked.{audit}
use Rattle.ct_lines.specs.Verdicts.{is_accepted, verdict_on, verdict, audit_answer}

-- the head of a size, from the result of the look-up
pub head_found : (log : Log) (n : ℕ) (o : Option Head) → Lawful log → IfSome o (λ h. Contains log.heads h × (h.tree_size ≡ n)) → is_some o ≡ is_size log n
    → IfSome o (λ h. (is_size log n ≡ true) × (n ≤ length log.entries) × (h.tree_size ≡ n) × (h.root ≡ mth_of_leaves sha256 (first_leaves log n)))
unfolding tree_hash sha256_leaf
head_found log n None lawful found size = search rules
head_found log n (Some h) lawful found size =
    let is = All-contains (IsHeadOf log.entries) log.heads h lawful.true_heads found.0 in (
      sym size,
      subst (λ (k : ℕ). k ≤ length log.entries) found.1 is.within,
      found.1,
      is.root ∙ ap (λ (k : ℕ). mth_of_leaves sha256 (first_leaves log k)) found.1,
    )

pub head_none : (log : Log) (n : ℕ) (o : Option Head) → is_some o ≡ is_size log n → o ≡ None → is_size log n ≡ false
head_none log n o size e = sym size ∙ ap is_some e

-- the log's own leaf and path at an index below a published size
pub own_audited : (log : Log) (m n : ℕ) (t : EntryBytes) (v : List (List ℕ)) → is_size log n ≡ true → m < n → an_entry t v ≡ answer log (EntryAndProof m n)
    → IsAudited sha256 (first_leaves log n) t.leaf_input m v
unfolding path_of sha256_leaf
own_audited log m n t v sized below e =
    let shown : an_entry t v ≡ entry_found log m n (slice_get (take n log.entries) m) =
    e ∙ ap (λ b. cond (not b) (refused UnknownSize) (entry_found log m n (slice_get (take n log.entries) m))) sized in
    go (slice_get (take n log.entries) m) refl shown
  where
    go : (o : Option Entry) → slice_get (take n log.entries) m ≡ o → an_entry t v ≡ entry_found log m n o
        → IsAudited sha256 (first_leaves log n) t.leaf_input m v
    go None at s = cc
    go (Some x) at s =
        let text : t ≡ text_of x = cc in
        let way : v ≡ path sha256 m (map (hash_leaf sha256) (first_leaves log n)) = cc in
        let leaf : Entry → List ℕ = λ y. leaf_at y.submission y.timestamp in
        let within : m < length (take n log.entries) = slice_get_within (take n log.entries) m x at in
        let count : length (first_leaves log n) ≡ length (take n log.entries) = length-map (take n log.entries) leaf in (
          omega (arith, within, count),
          ap (λ (z : EntryBytes). z.leaf_input) text ∙ sym (ap leaf (get_or_from_slice_get (take n log.entries) m x x at))
              ∙ sym (get_or-map leaf (take n log.entries) m x [] within),
          way,
        )

-- the verdict on the log's own leaf and path
pub own_holds : (D : List (List ℕ)) (leaf : List ℕ) (m : ℕ) (p : List (List ℕ)) → is_accepted D leaf m p ≡ true → evid sha256 D leaf m p ≡ None
    → verdict D leaf m p ≡ proof_holds
unfolding verdict
own_holds D leaf m p e none = ap (λ t. cond t (verdict_on (evid sha256 D leaf m p)) proof_refused) e ∙ ap verdict_on none

pub not_accepted : (D : List (List ℕ)) (leaf : List ℕ) (m : ℕ) (p : List (List ℕ)) → is_accepted D leaf m p ≡ false → verdict D leaf m p ≡ proof_refused
unfolding verdict
not_accepted D leaf m p e = ap (λ t. cond t (verdict_on (evid sha256 D leaf m p)) proof_refused) e

-- the complete answer to an audit against a published size

pub size_known : (log : Log) (leaf : List ℕ) (m n : ℕ) (p : List (List ℕ)) → is_size log n ≡ true
    → audit_answer log (audit leaf m n p) ≡ verdict (first_leaves log n) leaf m p
size_known log leaf m n p e = ap (λ t. cond (not t) (refused UnknownSize) (verdict (first_leaves log n) leaf m p)) e

pub leaves_counted : (log : Log) (n : ℕ) → n ≤ length log.entries → length (first_leaves log n) ≡ n
leaves_counted log n within =
    length-map (take n log.entries) (λ (e : Entry). leaf_at e.submission e.timestamp) ∙ length-take-le n log.entries within
