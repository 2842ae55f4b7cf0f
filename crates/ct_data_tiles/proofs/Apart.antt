-- No text of a tile leaf is the beginning of another.
use Rattle.std.proofs.Common.{◌≡◌, ◌∙◌, ℕ, List, ◌++◌, refl, sym, ap, arith}
use Rattle.ct_codec.specs.Bytes.{num, vec}
use Rattle.ct_codec.specs.Leaf.{SignedEntry, certificate, precertificate, entry_text, type_of}
use Rattle.ct_codec.proofs.Apart.{num_split, vec_split, entry_split}
use Rattle.ct_data_tiles.specs.TileLeaf.{IsBesideEntry, beside_text}
use Rattle.ct_data_tiles.specs.Laws.{TileLeavesStandApart, SignedTimestampsAreHeld}
use Rattle.ct_data_tiles.proofs.Fields.{five_parts}

beside_split : (d e : SignedEntry) (x y r s : List ℕ) → d ≡ e → IsBesideEntry d x → IsBesideEntry e y → beside_text d x ++ r ≡ beside_text e y ++ s → (x ≡ y)
    × (r ≡ s)
beside_split (certificate c) (certificate f) x y r s one h k e = (h ∙ sym k, e)
beside_split (precertificate k c) (precertificate l f) x y r s one h i e = vec_split 3 x y r s h.1 i.1 e
beside_split (certificate c) (precertificate l f) x y r s one h i e = let types = ap type_of one in absurd (omega (arith, types))
beside_split (precertificate k c) (certificate f) x y r s one h i e = let types = ap type_of one in absurd (omega (arith, types))

pub tile_leaves_stand_apart : TileLeavesStandApart
tile_leaves_stand_apart l m r s p q same =
    let E = entry_text l.entry in
    let F = entry_text m.entry in
    let X = vec 2 l.extensions in
    let Y = vec 2 m.extensions in
    let P = beside_text l.entry l.precertificate in
    let Q = beside_text m.entry m.precertificate in
    let A = vec 2 l.fingerprints in
    let B = vec 2 m.fingerprints in
    let whole = sym (five_parts (num 8 l.timestamp) E X P A r) ∙ same ∙ five_parts (num 8 m.timestamp) F Y Q B s in
    let time = num_split 8 l.timestamp m.timestamp (E ++ (X ++ (P ++ (A ++ r)))) (F ++ (Y ++ (Q ++ (B ++ s)))) p.timestamp q.timestamp whole in
    let entry = entry_split l.entry m.entry (X ++ (P ++ (A ++ r))) (Y ++ (Q ++ (B ++ s))) p.entry q.entry time.1 in
    let more = vec_split 2 l.extensions m.extensions (P ++ (A ++ r)) (Q ++ (B ++ s)) p.extensions q.extensions entry.1 in
    let beside = beside_split l.entry m.entry l.precertificate m.precertificate (A ++ r) (B ++ s) entry.0 p.precertificate q.precertificate more.1 in
    let end = vec_split 2 l.fingerprints m.fingerprints r s p.fits q.fits beside.1 in (
      record { timestamp = time.0; entry = entry.0; extensions = more.0; precertificate = beside.0; fingerprints = end.0 },
      end.1,
    )

pub signed_timestamps_are_held : SignedTimestampsAreHeld
signed_timestamps_are_held l = refl
