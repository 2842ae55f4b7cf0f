-- One fault for each input: a function on lists reads a tile leaf, and each fault and each text determine its result.
use Rattle.std.proofs.Common.{◌≡◌, ◌<◌, ◌^◌, ◌%◌, ℕ, zero, suc, List, [], ◌∷◌, ◌++◌, length, cond, nat_lt, Result, Ok, Err, inl, inr}
use Rattle.std.proofs.Common.{refl, sym, ap, ◌∙◌, arith, append_assoc}
use Rattle.std.proofs.lemmas.Bool.{lt-ltb, le-ltb}
use Rattle.ct_codec.specs.Bytes.{num, vec}
use Rattle.ct_codec.specs.Leaf.{SignedEntry, certificate, precertificate, IsEntry, entry_text, entry_fields, type_of}
use Rattle.ct_codec.specs.Faults.{IsCut, EntryFaulty}
use Rattle.ct_codec.specs.declared.fault.DecodeFault.{DecodeFault}
use Rattle.ct_codec.specs.declared.fault.DecodeFault.TheVariants.{Truncated, BadVersion, BadLeafType, BadEntryType, EmptyVector, Trailing, Memory}
use Rattle.ct_codec.proofs.Refusals.{length-num}
use Rattle.ct_codec.proofs.Verdict.{Read, bytes_at, number_at, certificate_at, entry_of, entry_at, bytes_here, bytes_short, number_here, number_short}
use Rattle.ct_codec.proofs.Verdict.{certificate_here, certificate_verdict, entry_here, entry_empty, other_entry, entry_cut, vector_cut, cut_at_last}
use Rattle.ct_data_tiles.specs.TileLeaf.{Tiled, IsTileLeaf, IsBesideEntry, AreFingerprints, beside_text, tile_leaf_text}
use Rattle.ct_data_tiles.specs.Faults.{FingerprintsFaulty, BesideFaulty, FaultyBehindExtensions, FaultyBehindEntry, EntryMissing, FaultyBehindTimestamp, TileLeafFaulty}
use Rattle.ct_data_tiles.specs.Laws.{TileLeavesHaveOneFault, TileLeafTextsHaveNoFault}
use Rattle.ct_data_tiles.specs.declared.fault.TileFault.{TileFault}
use Rattle.ct_data_tiles.specs.declared.fault.TileFault.TheVariants.{Field, PartialFingerprint}
use Rattle.ct_data_tiles.proofs.Fields.{five_parts}

-- the bytes after a field of a tile leaf, or the fault
abbrev pub TileRead : Type 0
TileRead = Result (List ℕ) TileFault

abbrev pub then_tile : TileRead → (List ℕ → TileRead) → TileRead
then_tile (Ok r) k = k r
then_tile (Err f) k = Err f

-- a field that the codec reads
abbrev pub field : Read → TileRead
field (Ok r) = Ok r
field (Err f) = Err (Field f)

-- a number of two bytes and the bytes after it, in one list
abbrev number_front : List ℕ → Read
number_front b = number_at 2 b (λ n r. Ok (n ∷ r))

abbrev fingerprints_of : ℕ → List ℕ → TileRead
fingerprints_of n r = cond (nat_lt 0 (n % 32)) (Err PartialFingerprint) (field (bytes_at n r))

abbrev fingerprints_behind : List ℕ → TileRead
fingerprints_behind [] = Err PartialFingerprint
fingerprints_behind (n ∷ r) = fingerprints_of n r

abbrev fingerprints_read : List ℕ → TileRead
fingerprints_read b = then_tile (field (number_front b)) fingerprints_behind

-- the fields after the extensions, by the type of the entry
abbrev beside_read : ℕ → List ℕ → TileRead
beside_read zero b = fingerprints_read b
beside_read (suc n) b = then_tile (field (certificate_at b)) fingerprints_read

abbrev behind_entry_read : ℕ → List ℕ → TileRead
behind_entry_read kind b = then_tile (field (number_at 2 b bytes_at)) (beside_read kind)

abbrev behind_type_read : Read → List ℕ → TileRead
behind_type_read (Ok (n ∷ r)) b = behind_entry_read n b
behind_type_read (Ok []) b = Ok b
behind_type_read (Err f) b = Ok b

abbrev behind_time_read : List ℕ → TileRead
behind_time_read b = then_tile (field (entry_at b)) (behind_type_read (number_front b))

abbrev pub tile_read : List ℕ → TileRead
tile_read b = then_tile (field (bytes_at 8 b)) behind_time_read

-- ---- the fingerprints
number_is : (n : ℕ) (r b : List ℕ) → n < 2 ^ 16 → b ≡ num 2 n ++ r → number_front b ≡ Ok (n ∷ r)
number_is n r b h e = number_here 2 n r b (λ n r. Ok (n ∷ r)) h e

fingerprints_number : (n : ℕ) (r b : List ℕ) → n < 2 ^ 16 → b ≡ num 2 n ++ r → fingerprints_read b ≡ fingerprints_of n r
fingerprints_number n r b h e = ap (λ x. then_tile (field x) fingerprints_behind) (number_is n r b h e)

whole_number : (n : ℕ) (r : List ℕ) → n % 32 ≡ 0 → fingerprints_of n r ≡ field (bytes_at n r)
whole_number n r h = rw (le-ltb 0 (n % 32) (omega (arith, h))) refl

fingerprints_here : (x r b : List ℕ) → AreFingerprints x → length x < 2 ^ 16 → b ≡ vec 2 x ++ r → fingerprints_read b ≡ Ok r
fingerprints_here x r b are h e =
    fingerprints_number (length x) (x ++ r) b h (e ∙ append_assoc (num 2 (length x)) x r)
    ∙ whole_number (length x) (x ++ r) are ∙ ap field (bytes_here (length x) x r (x ++ r) refl refl)

fingerprints_verdict : (f : TileFault) (b : List ℕ) → FingerprintsFaulty f b → fingerprints_read b ≡ Err f
fingerprints_verdict (Field Truncated) b (inl h) =
    ap (λ x. then_tile (field x) fingerprints_behind) (number_short 2 b (λ n r. Ok (n ∷ r)) h)
fingerprints_verdict (Field Truncated) b (inr v) =
    fingerprints_number v.0 v.1 b v.2 v.4 ∙ whole_number v.0 v.1 v.3 ∙ ap field (bytes_short v.0 v.1 v.5)
fingerprints_verdict (Field BadVersion) b v = absurd v
fingerprints_verdict (Field BadLeafType) b v = absurd v
fingerprints_verdict (Field BadEntryType) b v = absurd v
fingerprints_verdict (Field EmptyVector) b v = absurd v
fingerprints_verdict (Field Trailing) b v = absurd v
fingerprints_verdict (Field Memory) b v = absurd v
fingerprints_verdict PartialFingerprint b v = fingerprints_number v.0 v.1 b v.2 v.4 ∙ rw (lt-ltb 0 (v.0 % 32) v.3) refl

-- ---- the precertificate and the fields after it
beside_here : (e : SignedEntry) (p r b : List ℕ) → IsBesideEntry e p → b ≡ beside_text e p ++ r → beside_read (type_of e) b ≡ fingerprints_read r
beside_here (certificate c) p r b h e = ap fingerprints_read e
beside_here (precertificate k c) p r b h e = ap (λ x. then_tile (field x) fingerprints_read) (certificate_here p r b h e)

beside_verdict : (e : SignedEntry) (f : TileFault) (b : List ℕ) → BesideFaulty e f b → beside_read (type_of e) b ≡ Err f
beside_verdict (certificate c) (Field f) b v = absurd v
beside_verdict (certificate c) PartialFingerprint b v = absurd v
beside_verdict (precertificate k c) PartialFingerprint b v = absurd v
beside_verdict (precertificate k c) (Field f) b v = ap (λ x. then_tile (field x) fingerprints_read) (certificate_verdict f b v)

behind_extensions_verdict : (e : SignedEntry) (f : TileFault) (b : List ℕ) → FaultyBehindExtensions e f b → beside_read (type_of e) b ≡ Err f
behind_extensions_verdict e f b (inl v) = beside_verdict e f b v
behind_extensions_verdict e f b (inr v) = beside_here e v.0 v.1 b v.2 v.3 ∙ fingerprints_verdict f v.1 v.4

-- ---- the extensions and the fields after them
extensions_here : (kind : ℕ) (x r b : List ℕ) → length x < 2 ^ 16 → b ≡ vec 2 x ++ r → behind_entry_read kind b ≡ beside_read kind r
extensions_here kind x r b h e =
    ap (λ y. then_tile (field y) (beside_read kind)) (number_here 2 (length x) (x ++ r) b bytes_at h (e ∙ append_assoc (num 2 (length x)) x r)
    ∙ bytes_here (length x) x r (x ++ r) refl refl)

behind_entry_verdict : (e : SignedEntry) (f : TileFault) (b : List ℕ) → FaultyBehindEntry e f b → behind_entry_read (type_of e) b ≡ Err f
behind_entry_verdict e f b (inl v) =
    ap (λ y. then_tile (field y) (beside_read (type_of e))) (cut_at_last (number_at 2 b bytes_at) (vector_cut 2 v.1.0 [] b v.1.1 v.1.2)) ∙ ap Err (sym v.0)
behind_entry_verdict e f b (inr v) = extensions_here (type_of e) v.0 v.1 b v.2 v.3 ∙ behind_extensions_verdict e f v.1 v.4

-- ---- the entry and the fields after it
kind_is : (e : SignedEntry) (r b : List ℕ) → b ≡ entry_text e ++ r → (s : List ℕ) × (number_front b ≡ Ok (type_of e ∷ s))
kind_is (certificate c) r b e = (vec 3 c ++ r, number_is 0 (vec 3 c ++ r) b (omega arith) (e ∙ append_assoc (num 2 0) (vec 3 c) r))
kind_is (precertificate k c) r b e =
    ((k ++ vec 3 c) ++ r, number_is 1 ((k ++ vec 3 c) ++ r) b (omega arith) (e ∙ append_assoc (num 2 1) (k ++ vec 3 c) r))

entry_is : (e : SignedEntry) (r b : List ℕ) → IsEntry e → b ≡ entry_text e ++ r → behind_time_read b ≡ behind_entry_read (type_of e) r
entry_is e r b fine same =
    let kind = kind_is e r b same in
    ap (λ x. then_tile (field x) (behind_type_read (number_front b))) (entry_here e r b fine same) ∙ ap (λ x. behind_type_read x r) kind.1

entry_cut_alone : (e : SignedEntry) (b : List ℕ) → IsEntry e → IsCut (entry_fields e) b → entry_at b ≡ Err Truncated
entry_cut_alone (certificate c) b fine v = cut_at_last (entry_at b) (entry_cut (certificate c) [] b fine v)
entry_cut_alone (precertificate k c) b fine v = cut_at_last (entry_at b) (entry_cut (precertificate k c) [] b fine v)

entry_verdict : (f : DecodeFault) (b : List ℕ) → EntryFaulty f b → entry_at b ≡ Err f
entry_verdict Truncated b v = entry_cut_alone v.0 b v.1 v.2
entry_verdict BadEntryType b v = number_here 2 v.0 v.1 b entry_of v.3 v.4 ∙ other_entry v.0 v.1 v.2
entry_verdict EmptyVector b v = entry_empty v.0 v.1 b v.2 v.3
entry_verdict BadVersion b v = absurd v
entry_verdict BadLeafType b v = absurd v
entry_verdict Trailing b v = absurd v
entry_verdict Memory b v = absurd v

missing_verdict : (f : TileFault) (b : List ℕ) → EntryMissing f b → behind_time_read b ≡ Err f
missing_verdict (Field f) b v = ap (λ x. then_tile (field x) (behind_type_read (number_front b))) (entry_verdict f b v)
missing_verdict PartialFingerprint b v = absurd v

behind_time_verdict : (f : TileFault) (b : List ℕ) → FaultyBehindTimestamp f b → behind_time_read b ≡ Err f
behind_time_verdict f b (inl v) = missing_verdict f b v
behind_time_verdict f b (inr v) = entry_is v.0 v.1 b v.2 v.3 ∙ behind_entry_verdict v.0 f v.1 v.4

-- ---- the whole leaf
time_is : (t : ℕ) (r b : List ℕ) → b ≡ num 8 t ++ r → tile_read b ≡ behind_time_read r
time_is t r b e = ap (λ x. then_tile (field x) behind_time_read) (bytes_here 8 (num 8 t) r b (length-num 8 t) e)

-- each fault of a tile leaf is the one that reading finds
pub tile_leaf_verdict : (f : TileFault) (b : List ℕ) → TileLeafFaulty f b → tile_read b ≡ Err f
tile_leaf_verdict f b (inl v) = ap (λ x. then_tile (field x) behind_time_read) (bytes_short 8 b v.1) ∙ ap Err (sym v.0)
tile_leaf_verdict f b (inr v) = time_is v.0 v.1 b v.3 ∙ behind_time_verdict f v.1 v.4

-- a tile leaf is read, whatever follows it
pub tile_leaf_here : (l : Tiled) (r b : List ℕ) → IsTileLeaf l → b ≡ tile_leaf_text l ++ r → tile_read b ≡ Ok r
tile_leaf_here l r b is same =
    let E = entry_text l.entry in
    let X = vec 2 l.extensions in
    let P = beside_text l.entry l.precertificate in
    let F = vec 2 l.fingerprints in
    time_is l.timestamp (E ++ (X ++ (P ++ (F ++ r)))) b (same ∙ five_parts (num 8 l.timestamp) E X P F r)
    ∙ entry_is l.entry (X ++ (P ++ (F ++ r))) (E ++ (X ++ (P ++ (F ++ r)))) is.entry refl
    ∙ extensions_here (type_of l.entry) l.extensions (P ++ (F ++ r)) (X ++ (P ++ (F ++ r))) is.extensions refl
    ∙ beside_here l.entry l.precertificate (F ++ r) (P ++ (F ++ r)) is.precertificate refl
    ∙ fingerprints_here l.fingerprints r (F ++ r) is.fingerprints is.fits refl

same_fault : (f g : TileFault) (x : TileRead) → x ≡ Err f → x ≡ Err g → f ≡ g
same_fault f g x p q = cc

no_fault : (r : List ℕ) (f : TileFault) (x : TileRead) → x ≡ Ok r → x ≡ Err f → ⊥
no_fault r f x p q = cc

pub tile_leaves_have_one_fault : TileLeavesHaveOneFault
tile_leaves_have_one_fault f g b v w = same_fault f g (tile_read b) (tile_leaf_verdict f b v) (tile_leaf_verdict g b w)

pub tile_leaf_texts_have_no_fault : TileLeafTextsHaveNoFault
tile_leaf_texts_have_no_fault l r f is v =
    let b = tile_leaf_text l ++ r in
    no_fault r f (tile_read b) (tile_leaf_here l r b is refl) (tile_leaf_verdict f b v)
