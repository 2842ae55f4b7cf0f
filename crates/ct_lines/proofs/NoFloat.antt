-- A reply has no float.
use Rattle.std.proofs.Common.{◌≡◌, ℕ, List, [], ◌∷◌, map, false, refl}
use Rattle.serde_json.specs.View.{items_of}
use Rattle.serde_json.specs.Written.{has_float, items_have_float}
use Rattle.ct_core.specs.Replies.{EntryBytes, Answer, a_head, a_proof, an_index, some_entries, an_entry, a_receipt, a_ticket, a_reached_size, a_settled_count}
use Rattle.ct_core.specs.Replies.{a_published_head, an_accepted_count, a_shift, proof_holds, proof_refused, a_collision, refused}
use Rattle.json_lines.specs.Values.{bytes_data}
use Rattle.ct_lines.specs.ReplyText.{entry_data, reply_data}

hashes_no_float : (hs : List (List ℕ)) → items_have_float (items_of (map bytes_data hs)) ≡ false
hashes_no_float [] = refl
hashes_no_float (h ∷ hs) = hashes_no_float hs

entries_no_float : (es : List EntryBytes) → items_have_float (items_of (map entry_data es)) ≡ false
entries_no_float [] = refl
entries_no_float (e ∷ es) = entries_no_float es

pub no_float : (a : Answer) → has_float (reply_data a) ≡ false
no_float (a_head h) = refl
no_float (a_proof path) = rw (hashes_no_float path) refl
no_float (an_index index path) = rw (hashes_no_float path) refl
no_float (some_entries es) = rw (entries_no_float es) refl
no_float (an_entry e path) = rw (hashes_no_float path) refl
no_float (a_receipt index timestamp) = refl
no_float (a_ticket n) = refl
no_float (a_reached_size n) = refl
no_float (a_settled_count n) = refl
no_float (a_published_head h) = refl
no_float (an_accepted_count n) = refl
no_float (a_shift k) = refl
no_float proof_holds = refl
no_float proof_refused = refl
no_float (a_collision left right) = refl
no_float (refused e) = refl
