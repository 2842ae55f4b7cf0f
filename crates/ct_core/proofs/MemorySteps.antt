-- A reply takes memory if a proof, a path or entries must be made for it.
use Rattle.std.proofs.Common.{◌≡◌, ℕ, ◌+◌, ◌-◌, ◌<◌, ◌≤◌, List, map, take, refl, ap, sym}
use Rattle.std.specs.Prelude.{true, min, Some, position, slice_get}
use Rattle.std.specs.Str.{bytes_eq}
use Rattle.ct_core.specs.Answers.{is_size, last_size, proof_answer, index_answer, entries_answer, entry_answer}
use Rattle.ct_core.specs.Leaf.{Entry, leaves_of}
use Rattle.ct_core.specs.Replies.{takes_memory}
use Rattle.ct_core.specs.Settlement.{Log}
use Rattle.ct_core.specs.Tree.{sha256_leaf, proof_of}
use Rattle.ct_core.proofs.AnswerSteps.{proof_shown, index_shown}
use Rattle.ct_core.proofs.EntrySteps.{window_shown, entry_at_shown}

pub proof_taken : (log : Log) (first second : ℕ) → 0 < first → first < second → is_size log first ≡ true → is_size log second ≡ true
    → takes_memory (proof_answer log first second) ≡ true
proof_taken log first second low below a b =
    let nodes : List (List ℕ) = map sha256_leaf (leaves_of log.entries) in
    sym (ap takes_memory (proof_shown nodes (proof_of first (take second nodes)) log first second refl low below a b refl))

pub index_taken : (nodes : List (List ℕ)) (log : Log) (hash : List ℕ) (n i : ℕ) → nodes ≡ map sha256_leaf (leaves_of log.entries) → is_size log n ≡ true
    → position (bytes_eq hash) (take n nodes) ≡ Some i
    → takes_memory (index_answer log hash n) ≡ true
index_taken nodes log hash n i e a at = sym (ap takes_memory (index_shown nodes log hash n (Some i) e a at))

pub entries_taken : (log : Log) (start end size count : ℕ) → size ≡ last_size log → start ≤ end → start < size
    → count ≡ min (min end (size - 1) - start) 255 + 1
    → takes_memory (entries_answer log start end) ≡ true
entries_taken log start end size count e a b n = sym (ap takes_memory (window_shown log start end size count e a b n))

pub entry_taken : (log : Log) (i n : ℕ) (e : Entry) → is_size log n ≡ true → i < n → slice_get log.entries i ≡ Some e
    → takes_memory (entry_answer log i n) ≡ true
entry_taken log i n e a h at = sym (ap takes_memory (entry_at_shown log i n e a h at))
