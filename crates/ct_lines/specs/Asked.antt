-- The request in a line.
use Rattle.std.specs.Prelude.{◌≡◌, ℕ, List, Option, Some, None, option_map, option_and_then, if◌then◌else◌, codes}
use Rattle.std.specs.Str.{bytes_eq}
use Rattle.serde_json.specs.Data.{Data, null, boolean, number, string, array, object}
use Rattle.serde_json.specs.Find.{get, as_u64}
use Rattle.json_lines.specs.Fields.{text_at, number_at, bytes_at, bytes_list_at, hash_at, hashes_at}
use Rattle.json_lines.specs.Values.{value_of_line}
use Rattle.ct_core.specs.declared.query.Query.{Query}
use Rattle.ct_core.specs.declared.query.Query.TheVariants.{GetSth, Consistency, ProofByHash, Entries, EntryAndProof, Receipt}

-- the requester: a front by its number, the operator, or a reader of the frozen log
pub data Who : Type 0 where
  front : ℕ → Who
  operator : Who
  frozen : Who

-- a front's request; a precertificate is submitted with its issuer's key hash, its TBSCertificate and its chain
pub data FrontAsked : Type 0 where
  add_chain : List (List ℕ) → FrontAsked
  add_pre_chain : List ℕ → List ℕ → List (List ℕ) → FrontAsked
  await_size : ℕ → FrontAsked
  front_query : Query → FrontAsked

-- the operator's request; `sequence` has a front, a count and a timestamp, `publish` and `shift` (the end of a shift) a timestamp
pub data OperatorAsked : Type 0 where
  sequence : ℕ → ℕ → ℕ → OperatorAsked
  publish : ℕ → OperatorAsked
  shutdown : OperatorAsked
  shift : ℕ → OperatorAsked

-- a proof of inclusion: a leaf, its index, a tree size and an audit path
pub data AuditAsked : Type 0 where
  audit : List ℕ → ℕ → ℕ → List (List ℕ) → AuditAsked

-- the request of a reader of the frozen log
pub data FrozenAsked : Type 0 where
  frozen_query : Query → FrozenAsked
  frozen_audit : AuditAsked → FrozenAsked

-- a request and its requester
pub data Asked : Type 0 where
  by_front : ℕ → FrontAsked → Asked
  by_operator : OperatorAsked → Asked
  by_frozen : FrozenAsked → Asked

-- the requester with a name
abbrev pub who_named : List ℕ → Option Who
who_named name = if bytes_eq name (codes "operator") then Some operator else (if bytes_eq name (codes "frozen") then Some frozen else None)

-- the requester in a JSON value: a number is a front, and a string is a name
abbrev pub who_in : Data → Option Who
who_in null = None
who_in (boolean b) = None
who_in (number n) = option_map front (as_u64 n)
who_in (string name) = who_named name
who_in (array ds) = None
who_in (object ms) = None

-- the requester in a request
abbrev pub who_at : Data → Option Who
who_at d = option_and_then who_in (get (codes "who") d)

-- the query of the op get-sth-consistency
abbrev pub consistency_asked : Data → Option Query
consistency_asked d = option_and_then (λ first. option_map (λ second. Consistency first second) (number_at (codes "second") d)) (number_at (codes "first") d)

-- the query of the op get-proof-by-hash
abbrev pub proof_by_hash_asked : Data → Option Query
proof_by_hash_asked d = option_and_then (λ hash. option_map (λ size. ProofByHash hash size) (number_at (codes "tree_size") d)) (hash_at (codes "hash") d)

-- the query of the op get-entries
abbrev pub entries_asked : Data → Option Query
entries_asked d = option_and_then (λ start. option_map (λ end. Entries start end) (number_at (codes "end") d)) (number_at (codes "start") d)

-- the query of the op get-entry-and-proof
abbrev pub entry_and_proof_asked : Data → Option Query
entry_and_proof_asked d = option_and_then (λ index. option_map (λ size. EntryAndProof index size) (number_at (codes "tree_size") d))
    (number_at (codes "leaf_index") d)

-- the query of the op receipt
abbrev pub receipt_asked : Data → Option Query
receipt_asked d = option_map (λ ticket. Receipt ticket) (number_at (codes "ticket") d)

-- the query of an op
abbrev pub query_asked : List ℕ → Data → Option Query
query_asked op d =
    if bytes_eq op (codes "get-sth") then Some GetSth
    else (if bytes_eq op (codes "get-sth-consistency") then consistency_asked d
    else (if bytes_eq op (codes "get-proof-by-hash") then proof_by_hash_asked d
    else (if bytes_eq op (codes "get-entries") then entries_asked d
    else (if bytes_eq op (codes "get-entry-and-proof") then entry_and_proof_asked d
    else (if bytes_eq op (codes "receipt") then receipt_asked d else None)))))

-- f of three values, if each exists
abbrev pub with_three : {A B C D : Type 0} → (A → B → C → D) → Option A → Option B → Option C → Option D
with_three f a b c = option_and_then (λ x. option_and_then (λ y. option_map (λ z. f x y z) c) b) a

-- the certificates under `chain`, which both kinds of submission have
abbrev pub chain_at : Data → Option (List (List ℕ))
chain_at d = bytes_list_at (codes "chain") d

-- the request of the op add-chain
abbrev pub chain_asked : Data → Option FrontAsked
chain_asked d = option_map add_chain (chain_at d)

-- the request of the op add-pre-chain
abbrev pub pre_chain_asked : Data → Option FrontAsked
pre_chain_asked d = with_three add_pre_chain (hash_at (codes "issuer_key_hash") d) (bytes_at (codes "tbs") d) (chain_at d)

-- the request of a front, by its op
abbrev pub front_asks : List ℕ → Data → Option FrontAsked
front_asks op d =
    if bytes_eq op (codes "add-chain") then chain_asked d
    else (if bytes_eq op (codes "add-pre-chain") then pre_chain_asked d
    else (if bytes_eq op (codes "await-size") then option_map await_size (number_at (codes "tree_size") d)
    else option_map front_query (query_asked op d)))

-- the request of the op sequence
abbrev pub sequence_asked : Data → Option OperatorAsked
sequence_asked d = with_three sequence (number_at (codes "from") d) (number_at (codes "count") d) (number_at (codes "now") d)

-- the request of the operator, by its op
abbrev pub operator_asks : List ℕ → Data → Option OperatorAsked
operator_asks op d =
    if bytes_eq op (codes "sequence") then sequence_asked d
    else (if bytes_eq op (codes "publish") then option_map publish (number_at (codes "now") d)
    else (if bytes_eq op (codes "shutdown") then Some shutdown
    else (if bytes_eq op (codes "shift") then option_map shift (number_at (codes "now") d) else None)))

-- the request of the op audit
abbrev pub audit_asked : Data → Option AuditAsked
audit_asked d =
    option_and_then (λ leaf. option_and_then (λ index. option_and_then (λ size. option_map (λ path. audit leaf index size path)
    (hashes_at (codes "audit_path") d)) (number_at (codes "tree_size") d)) (number_at (codes "leaf_index") d)) (bytes_at (codes "leaf_input") d)

-- the request of a reader of the frozen log, by its op
abbrev pub frozen_asks : List ℕ → Data → Option FrozenAsked
frozen_asks op d =
    if bytes_eq op (codes "audit") then option_map frozen_audit (audit_asked d)
    else option_map frozen_query (query_asked op d)

-- the request, by the requester and the op
abbrev pub asked_by : Who → List ℕ → Data → Option Asked
asked_by (front n) op d = option_map (by_front n) (front_asks op d)
asked_by operator op d = option_map by_operator (operator_asks op d)
asked_by frozen op d = option_map by_frozen (frozen_asks op d)

-- the request in a JSON value
abbrev pub asked_in : Data → Option Asked
asked_in d = option_and_then (λ who. option_and_then (λ op. asked_by who op d) (text_at (codes "op") d)) (who_at d)

-- the request in a line, if it is one: a request in a JSON value of at most 1,048,576 bytes
unfoldable pub request_of : List ℕ → Option Asked
request_of line = option_and_then asked_in (value_of_line 1048576 line)

-- the line is this request
abbrev pub IsRequest : List ℕ → Asked → Type 0
IsRequest line a = request_of line ≡ Some a
