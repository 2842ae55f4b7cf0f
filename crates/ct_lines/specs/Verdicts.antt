-- The verdict on a proof of inclusion (an audit path of RFC 6962, section 2.1.1, checked as by RFC 9162, section 2.1.3.2), against the
-- leaves D of a tree.
use Rattle.std.specs.Prelude.{ℕ, List, length, Option, Some, None, Bool, false, not, ◌&&◌, nat_lt, if◌then◌else◌}
use Rattle.std.specs.Global.{Global}
use Rattle.std.specs.Str.{bytes_eq}
use Rattle.sha2.specs.Sha256.{sha256}
use Rattle.ct_codec.specs.declared.refusal.Refusal.TheVariants.{UnknownSize}
use Rattle.ct_tree.specs.Tree.{hash_leaf, mth_of_leaves}
use Rattle.ct_verify.specs.Rebuild.{rebuild}
use Rattle.ct_verify.specs.Evidence.{evid}
use Rattle.ct_verify.specs.declared.evidence.Evidence.{Evidence}
use Rattle.ct_verify.specs.declared.evidence.Evidence.TheVariants.{Holds, Collision}
use Rattle.ct_core.specs.Settlement.{Log}
use Rattle.ct_core.specs.Answers.{is_size, first_leaves}
use Rattle.ct_core.specs.Replies.{Answer, proof_holds, proof_refused, a_collision, refused}
use Rattle.ct_lines.specs.Asked.{AuditAsked, audit}

-- whether a root was rebuilt and is this one
abbrev pub is_root : Option (List ℕ) → List ℕ → Bool
is_root None root = false
is_root (Some r) root = bytes_eq r root

-- whether the path p leads from the leaf at index m to MTH(D)
abbrev pub is_accepted : List (List ℕ) → List ℕ → ℕ → List (List ℕ) → Bool
is_accepted D leaf m p = nat_lt m (length D) && is_root (rebuild sha256 m (length D) (hash_leaf sha256 leaf) p) (mth_of_leaves sha256 D)

-- the verdict on an accepted path: it holds, or two different strings with one hash, from the path and from the list
abbrev pub verdict_on : Option (List ℕ × List ℕ) → Answer
verdict_on None = proof_holds
verdict_on (Some strings) = a_collision strings.0 strings.1

-- the verdict on the path p of the leaf at index m, against the leaves: it holds, it is refused, or two strings that collide
unfoldable pub verdict : List (List ℕ) → List ℕ → ℕ → List (List ℕ) → Answer
verdict D leaf m p = if is_accepted D leaf m p then verdict_on (evid sha256 D leaf m p) else proof_refused

-- the answer for evidence
abbrev pub evidence_answer : Evidence Global → Answer
evidence_answer Holds = proof_holds
evidence_answer (Collision left right) = a_collision left.items right.items

-- unknown-size if no published head has that size; otherwise the verdict against the first leaves of that size
abbrev pub audit_answer : Log → AuditAsked → Answer
audit_answer log (audit leaf m n p) = if not (is_size log n) then refused UnknownSize else verdict (first_leaves log n) leaf m p
