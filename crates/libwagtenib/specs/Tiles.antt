-- The codes, the names and the hashes that a call over tiles returns and writes (C2SP tlog-tiles; RFC 6962, section 2.1).
use Rattle.std.specs.Prelude.{◌≡◌, ◌⊎◌, ◌<◌, ◌≤◌, ◌++◌, ℕ, List, [], ◌∷◌, length, take, drop, Some, None}
use Rattle.sha2.specs.Sha256.{sha256}
use Rattle.ct_tree.specs.Tree.{mth, path, proof}
use Rattle.ct_verify.specs.ConsistencyEvidence.{IsAcceptedFor, IsBeginning}
use Rattle.ct_verify.specs.Evidence.{IsAudited}
use Rattle.ct_verify.specs.InclusionEvidence.{IsAccepted}
use Rattle.ct_verify.specs.Hashed.{CollideAmong}
use Rattle.ct_verify.specs.ListLaws.{IsHashedInAudit, IsHashedBetween}
use Rattle.ct_data_tiles.specs.TileNames.{IsTile, name_text}
use Rattle.ct_data_tiles.specs.declared.tile.Content.TheVariants.{Hashes}
use Rattle.ct_data_tiles.specs.declared.tile.Tile.{Tile}
use Rattle.ct_tiles.specs.Needed.{root_tiles, path_tiles, proof_tiles}
use Rattle.ct_tiles.specs.Handed.{handed_fault, AreTilesOf}
use Rattle.ct_tiles.specs.declared.handed.HandedFault.{HandedFault}
use Rattle.ct_tiles.specs.declared.handed.HandedFault.TheVariants.{Missing, BadLength, Memory}
use Rattle.ct_tiles.specs.declared.needed.NeededTile.{NeededTile}
use Rattle.libwagtenib.specs.Output.{WritesOutput}

-- a value that is read out of tiles: the root of the first n leaves, the audit path of the leaf m in the tree of n, or the consistency proof from m leaves to n
pub data Reading : Type 0 where
  root_of : ℕ → Reading
  path_of : ℕ → ℕ → Reading
  proof_of : ℕ → ℕ → Reading

-- a tree has such a thing: a root of at least one leaf, a path of one of its leaves, a proof from the tree of some of its leaves, but not all
abbrev pub HasReading : Reading → Type 0
HasReading (root_of n) = 0 < n
HasReading (path_of m n) = m < n
HasReading (proof_of m n) = (0 < m) × (m < n)

-- the number of the reason why a tree has no such thing; include/wagtenib.h has the same
abbrev pub range_code : Reading → ℕ
range_code (root_of n) = 64
range_code (path_of m n) = 1
range_code (proof_of m n) = 7

-- the tiles that it is made of, in order
abbrev pub tiles_of_reading : Reading → List NeededTile
tiles_of_reading (root_of n) = root_tiles n
tiles_of_reading (path_of m n) = path_tiles m n
tiles_of_reading (proof_of m n) = proof_tiles m n

-- a tile of hashes that is needed, as its name has it
abbrev pub named_tile : NeededTile → Tile
named_tile tile = record { content = Hashes tile.level; index = tile.index; width = tile.width }

-- it has a name
abbrev pub IsNamedTile : NeededTile → Type 0
IsNamedTile tile = IsTile (named_tile tile)

-- the names of tiles (C2SP tlog-tiles, "Merkle Tree"), each ended by a line feed
unfoldable pub names_text : List NeededTile → List ℕ
names_text [] = []
names_text (tile ∷ tiles) = name_text (named_tile tile) ++ 10 ∷ names_text tiles

-- The names of the tiles that it is made of are written. 0 or 9: as WritesOutput says. 64, 1 or 7: a tree has no such thing, and nothing is written. 8: an
-- allocation was refused, and nothing is written.
abbrev pub WritesNames : Reading → ℕ → List ℕ → List ℕ → ℕ → ℕ → Type 0
WritesNames reading code before after count_before count =
    (HasReading reading × WritesOutput (names_text (tiles_of_reading reading)) code before after count)
    ⊎ (((code ≡ range_code reading) × (HasReading reading → ⊥) × (after ≡ before) × (count ≡ count_before))
    ⊎ ((code ≡ 8) × (after ≡ before) × (count ≡ count_before)))

-- the pieces of these lengths that bytes begin with, one after the other; a piece is shorter if the bytes end in it
unfoldable pub pieces : List ℕ → List ℕ → List (List ℕ)
pieces [] bytes = []
pieces (n ∷ lengths) bytes = take n bytes ∷ pieces lengths (drop n bytes)

-- the number of a tile's fault; include/wagtenib.h has the same
abbrev pub handed_code : HandedFault → ℕ
handed_code (Missing tile) = 66
handed_code (BadLength tile) = 67
handed_code Memory = 8

-- these are the contents of all tiles that it is made of, each of the right length
pub record AreHanded (reading : Reading) (contents : List (List ℕ)) : Type 0 where
  pub is : HasReading reading
  pub count : length contents ≤ length (tiles_of_reading reading)
  pub whole : handed_fault (tiles_of_reading reading) contents ≡ None

-- the number of the first reason why the contents give nothing: a tree has no such thing; there are more contents than tiles; or the first tile without right
-- bytes has none (66), or has not 32 for each of its hashes (67)
abbrev pub RefusesContents : Reading → List (List ℕ) → ℕ → Type 0
RefusesContents reading contents code =
    ((code ≡ range_code reading) × (HasReading reading → ⊥))
    ⊎ ((HasReading reading × (code ≡ 65) × (length (tiles_of_reading reading) < length contents))
    ⊎ ((fault : HandedFault) × HasReading reading × (length contents ≤ length (tiles_of_reading reading))
    × (handed_fault (tiles_of_reading reading) contents ≡ Some fault) × (code ≡ handed_code fault)))

-- a leaf for which the verifier accepts this path is in its list, or two of the strings that are hashed collide
abbrev pub PathTellsLeaf : ℕ → List (List ℕ) → (List ℕ → List ℕ) → Type 0
PathTellsLeaf m hashes H = (D : List (List ℕ)) (leaf : List ℕ) → IsAccepted H D leaf m hashes → IsAudited H D leaf m hashes ⊎ CollideAmong H (IsHashedInAudit H D leaf m hashes)

-- of two lists for whose roots the verifier accepts this proof the first begins the second, or two of the strings that are hashed collide
abbrev pub ProofTellsBeginning : List (List ℕ) → (List ℕ → List ℕ) → Type 0
ProofTellsBeginning hashes H = (E : List (List ℕ)) (D : List (List ℕ)) → IsAcceptedFor H E D hashes → IsBeginning E D ⊎ CollideAmong H (IsHashedBetween H E D hashes)

-- of every hash function with digests of 32 bytes, and so of SHA-256
abbrev pub ByEveryHash : ((List ℕ → List ℕ) → Type 0) → Type 0
ByEveryHash Holds = ((H : List ℕ → List ℕ) → ((x : List ℕ) → length (H x) ≡ 32) → Holds H) × Holds sha256

-- the root out of the contents of tiles: that of the first n leaves of each list whose tiles they are
abbrev pub IsRootOf : ℕ → List (List ℕ) → List ℕ → Type 0
IsRootOf n contents root = (D : List (List ℕ)) → AreTilesOf sha256 D (root_tiles n) contents → n ≤ length D → root ≡ mth sha256 (take n D)

-- the path out of the contents of tiles: PATH(m, D[n]) of each list whose tiles they are; whatever they are, it shows a leaf
abbrev pub IsPathOf : ℕ → ℕ → List (List ℕ) → List (List ℕ) → Type 0
IsPathOf m n contents hashes =
    ((D : List (List ℕ)) → AreTilesOf sha256 D (path_tiles m n) contents → n ≤ length D → hashes ≡ path sha256 m (take n D))
    × ByEveryHash (PathTellsLeaf m hashes)

-- the proof out of the contents of tiles: PROOF(m, D[n]) of each list whose tiles they are; whatever they are, it shows a beginning
abbrev pub IsProofOf : ℕ → ℕ → List (List ℕ) → List (List ℕ) → Type 0
IsProofOf m n contents hashes =
    ((D : List (List ℕ)) → AreTilesOf sha256 D (proof_tiles m n) contents → n ≤ length D → hashes ≡ proof sha256 m (take n D))
    × ByEveryHash (ProofTellsBeginning hashes)

-- 0: the root is written, and each tile has right bytes. Otherwise nothing is written: 64 to 67, the first reason, or 8, an allocation was refused.
abbrev pub WritesRoot : ℕ → List (List ℕ) → ℕ → List ℕ → List ℕ → Type 0
WritesRoot n contents code before after =
    ((code ≡ 0) × AreHanded (root_of n) contents × IsRootOf n contents after)
    ⊎ ((RefusesContents (root_of n) contents code × (after ≡ before)) ⊎ ((code ≡ 8) × (after ≡ before)))

-- A call writes hashes for which `Is` holds. 0 or 9: as WritesOutput says, and each tile has right bytes. Otherwise nothing is written: the first
-- reason why the contents give nothing, or 8, an allocation was refused.
abbrev pub WritesMade : Reading → List (List ℕ) → (List (List ℕ) → Type 0) → ℕ → List (List ℕ) → List (List ℕ) → ℕ → ℕ → Type 0
WritesMade reading contents Is code before after count_before count =
    (AreHanded reading contents × ((hashes : List (List ℕ)) × Is hashes × WritesOutput hashes code before after count))
    ⊎ ((RefusesContents reading contents code × (after ≡ before) × (count ≡ count_before))
    ⊎ ((code ≡ 8) × (after ≡ before) × (count ≡ count_before)))
