-- The text of a reply: compact JSON, keys in byte order, and the end of the line.
use Rattle.std.specs.Prelude.{ℕ, List, [], ◌∷◌, ◌++◌, map, Result, Ok, Err, codes}
use Rattle.serde_json.specs.Data.{Data, string, array, object, member, no_members}
use Rattle.serde_json.specs.View.{items_of}
use Rattle.serde_json.specs.Written.{compact_text}
use Rattle.json_lines.specs.Values.{number_data, bytes_data, hashes_data}
use Rattle.ct_codec.specs.declared.refusal.Refusal.{Refusal}
use Rattle.ct_codec.specs.declared.refusal.Refusal.TheVariants.{Memory, Full, Shutdown, FrontSpent, EmptyChain, EmptyCertificate, CertificateTooLong}
use Rattle.ct_codec.specs.declared.refusal.Refusal.TheVariants.{ChainTooLong, ClockBack, UnknownSize, BadRange, UnknownLeaf, MissingFront, BadLine, NotYet}
use Rattle.ct_codec.specs.declared.refusal.Refusal.TheVariants.{Late, Closed}
use Rattle.ct_core.specs.declared.query.Reply.{Reply}
use Rattle.ct_core.specs.Replies.{EntryBytes, Answer, a_head, a_proof, an_index, some_entries, an_entry, a_receipt, a_ticket, a_reached_size, a_settled_count}
use Rattle.ct_core.specs.Replies.{a_published_head, an_accepted_count, a_shift, proof_holds, proof_refused, a_collision, refused, shown}

-- the name of a refusal
abbrev pub refusal_name : Refusal → List ℕ
refusal_name Memory = codes "memory"
refusal_name Full = codes "full"
refusal_name Shutdown = codes "shutdown"
refusal_name FrontSpent = codes "front-spent"
refusal_name EmptyChain = codes "empty-chain"
refusal_name EmptyCertificate = codes "empty-certificate"
refusal_name CertificateTooLong = codes "certificate-too-long"
refusal_name ChainTooLong = codes "chain-too-long"
refusal_name ClockBack = codes "clock-back"
refusal_name UnknownSize = codes "unknown-size"
refusal_name BadRange = codes "bad-range"
refusal_name UnknownLeaf = codes "unknown-leaf"
refusal_name MissingFront = codes "missing-front"
refusal_name BadLine = codes "bad-line"
refusal_name NotYet = codes "not-yet"
refusal_name Late = codes "late"
refusal_name Closed = codes "closed"

-- an entry as a JSON object
abbrev pub entry_data : EntryBytes → Data
entry_data e = object (member (codes "extra_data") (bytes_data e.extra_data) (member (codes "leaf_input") (bytes_data e.leaf_input) no_members))

-- entries as a JSON array of objects
abbrev pub entries_data : List EntryBytes → Data
entries_data es = array (items_of (map entry_data es))

-- the object with one count
abbrev pub count_data : List ℕ → ℕ → Data
count_data key n = object (member key (number_data n) no_members)

-- the object with only a verdict
abbrev pub verdict_data : List ℕ → Data
verdict_data verdict = object (member (codes "verdict") (string verdict) no_members)

-- the JSON object of an answer, its keys in byte order
abbrev pub reply_data : Answer → Data
reply_data (a_head h) = object (member (codes "sha256_root_hash") (bytes_data h.root)
    (member (codes "timestamp") (number_data h.timestamp) (member (codes "tree_size") (number_data h.tree_size) no_members)))
reply_data (a_proof path) = object (member (codes "consistency") (hashes_data path) no_members)
reply_data (an_index index path) = object (member (codes "audit_path") (hashes_data path) (member (codes "leaf_index") (number_data index) no_members))
reply_data (some_entries es) = object (member (codes "entries") (entries_data es) no_members)
reply_data (an_entry e path) = object (member (codes "audit_path") (hashes_data path)
    (member (codes "extra_data") (bytes_data e.extra_data) (member (codes "leaf_input") (bytes_data e.leaf_input) no_members)))
reply_data (a_receipt index timestamp) =
    object (member (codes "extensions") (string (codes ""))
    (member (codes "leaf_index") (number_data index)
    (member (codes "sct_version") (number_data 0) (member (codes "timestamp") (number_data timestamp) no_members))))
reply_data (a_ticket n) = count_data (codes "ticket") n
reply_data (a_reached_size n) = count_data (codes "reached") n
reply_data (a_settled_count n) = count_data (codes "settled") n
reply_data (a_published_head h) = object
    (member (codes "timestamp") (number_data h.timestamp) (member (codes "tree_size") (number_data h.tree_size) no_members))
reply_data (an_accepted_count n) = count_data (codes "accepted") n
reply_data (a_shift k) = count_data (codes "shift") k
reply_data proof_holds = verdict_data (codes "holds")
reply_data proof_refused = verdict_data (codes "refused")
reply_data (a_collision left right) = object
    (member (codes "left") (bytes_data left) (member (codes "right") (bytes_data right) (member (codes "verdict") (string (codes "collision")) no_members)))
reply_data (refused e) = object (member (codes "error") (string (refusal_name e)) no_members)

-- the contents of a reply, or of the refusal in its place
abbrev pub answered : Result Reply Refusal → Answer
answered (Ok r) = shown r
answered (Err e) = refused e

-- the line of an answer: compact JSON, keys in byte order, bytes as base64 with padding, and the byte 0A (RFC 8259; RFC 4648, section 4)
abbrev pub reply_line : Answer → List ℕ
reply_line a = compact_text (reply_data a) ++ 10 ∷ []
