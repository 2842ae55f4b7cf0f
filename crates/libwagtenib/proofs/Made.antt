-- Lemmas about paths and proofs that are made out of tiles, and about the reasons for which tiles give none.
use Rattle.std.proofs.Common.{◌≡◌, ◌∙◌, ◌<◌, ◌≤◌, ◌⊎◌, ◌++◌, ℕ, suc, List, [], ◌∷◌, length, map, take, drop, None, Result, Ok, Err, inl, inr, refl, sym, ap, arith, append_assoc, Vec, Global}
use Rattle.std.specs.Prelude.{MatchResult}
use Rattle.std.proofs.lemmas.List.{append-nil, map_push}
use Rattle.sha2.specs.Sha256.{sha256}
use Rattle.sha2.proofs.Facts256.{length-sha256}
use Rattle.ct_verify.specs.Laws.{AreHashes}
use Rattle.ct_verify.proofs.ListProofs.{accepted_path_is_path, accepted_proof_is_of_beginning}
use Rattle.ct_tree.specs.Tree.{mth, path, proof}
use Rattle.ct_data_tiles.specs.TileNames.{name_text}
use Rattle.ct_tiles.specs.Needed.{root_tiles, path_tiles, proof_tiles}
use Rattle.ct_tiles.specs.Handed.{contents_in, handed_fault, IsHandedFault, AreTilesOf}
use Rattle.ct_tiles.specs.declared.needed.NeededTile.{NeededTile}
use Rattle.ct_tiles.specs.declared.handed.HandedFault.{HandedFault}
use Rattle.ct_tiles.specs.declared.handed.HandedFault.TheVariants.{Missing, BadLength, Memory}
use Rattle.libwagtenib.specs.Output.{WritesOutput}
use Rattle.libwagtenib.specs.Tiles.{Reading, root_of, path_of, proof_of, HasReading, tiles_of_reading, named_tile, names_text, pieces, handed_code, WritesNames}
use Rattle.libwagtenib.specs.Tiles.{AreHanded, RefusesContents, IsRootOf, IsPathOf, IsProofOf, PathTellsLeaf, ProofTellsBeginning, ByEveryHash}

leaf_told_by : (m : ℕ) (hashes : List (List ℕ)) (H : List ℕ → List ℕ) → ((x : List ℕ) → length (H x) ≡ 32) → PathTellsLeaf m hashes H
leaf_told_by m hashes H is D leaf accepted = accepted_path_is_path H is D leaf m hashes accepted

pub leaf_told : (m : ℕ) (hashes : List (List ℕ)) → ByEveryHash (PathTellsLeaf m hashes)
leaf_told m hashes = (leaf_told_by m hashes, leaf_told_by m hashes sha256 length-sha256)

beginning_told_by : (hashes : List (List ℕ)) → AreHashes hashes → (H : List ℕ → List ℕ) → ((x : List ℕ) → length (H x) ≡ 32) → ProofTellsBeginning hashes H
beginning_told_by hashes are H is E D accepted = accepted_proof_is_of_beginning H is E D hashes are accepted

pub beginning_told : (hashes : List (List ℕ)) → AreHashes hashes → ByEveryHash (ProofTellsBeginning hashes)
beginning_told hashes are = (beginning_told_by hashes are, beginning_told_by hashes are sha256 length-sha256)

-- the number of a tile's fault is that of the first reason, or memory was refused
pub fault_refuses : (reading : Reading) (contents : List (List ℕ)) (fault : HandedFault) (code : ℕ) → HasReading reading
    → length contents ≤ length (tiles_of_reading reading) → IsHandedFault fault (tiles_of_reading reading) contents → code ≡ handed_code fault
    → RefusesContents reading contents code ⊎ (code ≡ 8)
fault_refuses reading contents (Missing tile) code is few of same = inl (inr (inr (Missing tile, is, few, of, same)))
fault_refuses reading contents (BadLength tile) code is few of same = inl (inr (inr (BadLength tile, is, few, of, same)))
fault_refuses reading contents Memory code is few of same = inr same

-- there are as many pieces as lengths
pub length-pieces : (lengths bytes : List ℕ) → length (pieces lengths bytes) ≡ length lengths
unfolding pieces
length-pieces [] bytes = refl
length-pieces (n ∷ lengths) bytes = ap suc (length-pieces lengths (drop n bytes))

-- one name more is written
pub names_more : (all text name written : List ℕ) (tile : NeededTile) (tiles more : List NeededTile) → all ≡ text ++ names_text tiles → tiles ≡ tile ∷ more
    → name ≡ name_text (named_tile tile) → written ≡ (text ++ name) ++ (10 ∷ []) → all ≡ written ++ names_text more
unfolding names_text
names_more all text name written tile tiles more before split named is =
    before ∙ ap (λ (t : List NeededTile). text ++ names_text t) split ∙ ap (λ (n : List ℕ). text ++ (n ++ (10 ∷ names_text more))) (sym named)
    ∙ sym (append_assoc text name (10 ∷ names_text more)) ∙ sym (append_assoc (text ++ name) (10 ∷ []) (names_text more))
    ∙ ap (λ (w : List ℕ). w ++ names_text more) (sym is)

-- all names are written
pub names_all : (all text : List ℕ) (tiles : List NeededTile) → all ≡ text ++ names_text tiles → length tiles ≡ 0 → text ≡ all
unfolding names_text
names_all all text [] before none = sym (before ∙ append-nil text)
names_all all text (tile ∷ tiles) before none = absurd (omega (arith, none))

-- one piece more is there
pub pieces_more : {X : Type 0} (f : X → List ℕ) (all : List (List ℕ)) (contents new : List X) (v : X) (n : ℕ) (lengths more bytes rest : List ℕ)
    → all ≡ map f contents ++ pieces lengths bytes → lengths ≡ n ∷ more → f v ≡ take n bytes → rest ≡ drop n bytes → new ≡ contents ++ (v ∷ [])
    → all ≡ map f new ++ pieces more rest
unfolding pieces
pieces_more f all contents new v n lengths more bytes rest before split first after is =
    before ∙ ap (λ (l : List ℕ). map f contents ++ pieces l bytes) split
    ∙ ap (λ (x : List ℕ). map f contents ++ (x ∷ pieces more (drop n bytes))) (sym first)
    ∙ ap (λ (r : List ℕ). map f contents ++ (f v ∷ pieces more r)) (sym after)
    ∙ sym (append_assoc (map f contents) (f v ∷ []) (pieces more rest))
    ∙ ap (λ (x : List (List ℕ)). x ++ pieces more rest) (sym (map_push f contents v))
    ∙ ap (λ c. map f c ++ pieces more rest) (sym is)

-- all pieces are there
pub pieces_all : {X : Type 0} (f : X → List ℕ) (all : List (List ℕ)) (contents : List X) (lengths bytes : List ℕ)
    → all ≡ map f contents ++ pieces lengths bytes → length lengths ≡ 0 → map f contents ≡ all
unfolding pieces
pieces_all f all contents [] bytes before none = sym (before ∙ append-nil (map f contents))
pieces_all f all contents (n ∷ lengths) bytes before none = absurd (omega (arith, none))

-- the contents that are handed over for a reading, by the number of its tiles
pub handed_for : (reading : Reading) (contents : List (List ℕ)) (count : ℕ) (r : Result (Vec (Vec ℕ Global) Global) ℕ) → HasReading reading
    → count ≡ length (tiles_of_reading reading)
    → MatchResult r (λ v. (contents_in v.items ≡ contents) × (length contents ≤ count)) (λ code. ((code ≡ 65) × (count < length contents)) ⊎ (code ≡ 8))
    → MatchResult r (λ v. (contents_in v.items ≡ contents) × (length contents ≤ length (tiles_of_reading reading)))
    (λ code. RefusesContents reading contents code ⊎ (code ≡ 8))
handed_for reading contents count (Ok v) is same given = (given.0, omega (arith, same, given.1))
handed_for reading contents count (Err code) is same (inl many) = inl (inr (inl (is, many.0, omega (arith, same, many.1))))
handed_for reading contents count (Err code) is same (inr none) = inr none

-- the names of the tiles of what a tree has are written, or memory was refused
pub names_written : (reading : Reading) (code : ℕ) (before after : List ℕ) (count_before count : ℕ) → HasReading reading
    → WritesOutput (names_text (tiles_of_reading reading)) code before after count ⊎ ((code ≡ 8) × (after ≡ before) × (count ≡ count_before))
    → WritesNames reading code before after count_before count
names_written reading code before after count_before count is (inl written) = inl (is, written)
names_written reading code before after count_before count is (inr none) = inr (inr none)

pub root_made : (n : ℕ) (contents : List (List ℕ)) (root : List ℕ) → 0 < n → length contents ≤ length (root_tiles n) → handed_fault (root_tiles n) contents ≡ None
    → IsRootOf n contents root → AreHanded (root_of n) contents × IsRootOf n contents root
root_made n contents root some few whole is = (record { is = some; count = few; whole = whole }, is)

pub path_made : (m n : ℕ) (contents hashes : List (List ℕ)) → m < n → length contents ≤ length (path_tiles m n) → handed_fault (path_tiles m n) contents ≡ None
    → ((D : List (List ℕ)) → AreTilesOf sha256 D (path_tiles m n) contents → n ≤ length D → hashes ≡ path sha256 m (take n D))
    → AreHanded (path_of m n) contents × IsPathOf m n contents hashes
path_made m n contents hashes below few whole is = (record { is = below; count = few; whole = whole }, (is, leaf_told m hashes))

pub proof_made : (m n : ℕ) (contents hashes : List (List ℕ)) → 0 < m → m < n → length contents ≤ length (proof_tiles m n) → handed_fault (proof_tiles m n) contents ≡ None
    → ((D : List (List ℕ)) → AreTilesOf sha256 D (proof_tiles m n) contents → n ≤ length D → hashes ≡ proof sha256 m (take n D)) → AreHashes hashes
    → AreHanded (proof_of m n) contents × IsProofOf m n contents hashes
proof_made m n contents hashes some below few whole is are = (record { is = (some, below); count = few; whole = whole }, (is, beginning_told hashes are))
