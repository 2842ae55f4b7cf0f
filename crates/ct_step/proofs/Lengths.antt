-- There are as many hashes, and as many texts, as entries.
use Rattle.std.proofs.Common.{◌≡◌, suc, List, [], ◌∷◌, length, refl, ap, ℕ}
use Rattle.ct_data_tiles.specs.TileLeaf.{Tiled}
use Rattle.ct_step.specs.Entries.{texts_of, hashes_of}

pub length_hashes : (H : List ℕ → List ℕ) (A : List Tiled) → length (hashes_of H A) ≡ length A
length_hashes H [] = refl
length_hashes H (x ∷ A) = ap suc (length_hashes H A)

pub length_texts : (A : List Tiled) → length (texts_of A) ≡ length A
length_texts [] = refl
length_texts (x ∷ A) = ap suc (length_texts A)
