-- The fields of a tile leaf, or their faults, determine those of the whole leaf.
use Rattle.std.proofs.Common.{◌≡◌, ◌<◌, ◌^◌, ◌∙◌, ℕ, List, ◌++◌, length, inr, sym, ap, append_assoc}
use Rattle.ct_codec.specs.Bytes.{num, vec}
use Rattle.ct_codec.specs.Leaf.{SignedEntry, IsEntry, entry_text}
use Rattle.ct_data_tiles.specs.TileLeaf.{Tiled, beside_text, tile_leaf_text}
use Rattle.ct_data_tiles.specs.Faults.{TileLeafFaulty, FaultyBehindTimestamp, FaultyBehindEntry, FaultyBehindExtensions}
use Rattle.ct_data_tiles.specs.declared.fault.TileFault.{TileFault}

-- five parts and the rest, regrouped
pub five_parts : (a b c d e r : List ℕ) → ((a ++ (b ++ c)) ++ (d ++ e)) ++ r ≡ a ++ (b ++ (c ++ (d ++ (e ++ r))))
five_parts a b c d e r =
    append_assoc (a ++ (b ++ c)) (d ++ e) r ∙ append_assoc a (b ++ c) ((d ++ e) ++ r)
    ∙ ap (λ l. a ++ l) (append_assoc b c ((d ++ e) ++ r) ∙ ap (λ l. b ++ (c ++ l)) (append_assoc d e r))

pub text_of : (l : Tiled) (b b1 b2 b3 b4 r : List ℕ) → b ≡ num 8 l.timestamp ++ b1 → b1 ≡ entry_text l.entry ++ b2 → b2 ≡ vec 2 l.extensions ++ b3
    → b3 ≡ beside_text l.entry l.precertificate ++ b4 → b4 ≡ vec 2 l.fingerprints ++ r → b ≡ tile_leaf_text l ++ r
text_of l b b1 b2 b3 b4 r e0 e1 e2 e3 e4 =
    let E = entry_text l.entry in
    let X = vec 2 l.extensions in
    let P = beside_text l.entry l.precertificate in
    e0 ∙ ap (λ s. num 8 l.timestamp ++ s) (e1 ∙ ap (λ s. E ++ s) (e2 ∙ ap (λ s. X ++ s) (e3 ∙ ap (λ s. P ++ s) e4)))
    ∙ sym (five_parts (num 8 l.timestamp) E X P (vec 2 l.fingerprints) r)

-- the fields before a faulty one are complete and valid
pub behind_timestamp : (f : TileFault) (t : ℕ) (b r : List ℕ) → t < 2 ^ 64 → b ≡ num 8 t ++ r → FaultyBehindTimestamp f r → TileLeafFaulty f b
behind_timestamp f t b r h e v = inr (t, r, h, e, v)

pub behind_entry : (f : TileFault) (t : ℕ) (e : SignedEntry) (b r s : List ℕ) → t < 2 ^ 64 → b ≡ num 8 t ++ r → IsEntry e → r ≡ entry_text e ++ s
    → FaultyBehindEntry e f s → TileLeafFaulty f b
behind_entry f t e b r s h front fine next v = behind_timestamp f t b r h front (inr (e, s, fine, next, v))

pub behind_extensions : (f : TileFault) (t : ℕ) (e : SignedEntry) (x b r s u : List ℕ) → t < 2 ^ 64 → b ≡ num 8 t ++ r → IsEntry e
    → r ≡ entry_text e ++ s → length x < 2 ^ 16 → s ≡ vec 2 x ++ u → FaultyBehindExtensions e f u → TileLeafFaulty f b
behind_extensions f t e x b r s u h front fine next short third v = behind_entry f t e b r s h front fine next (inr (x, u, short, third, v))
