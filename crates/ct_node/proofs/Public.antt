-- Each public name except those of heads has only one content that was ever put, including the names of issuers.
use Rattle.std.proofs.Common.{subst, ◌⊎◌, inl, inr, ⊎_elim, ◌≡◌, refl, ℕ, sym, ◌∙◌, ap, arith, List, [], ◌∷◌, ◌++◌, length, take, drop}
use Rattle.std.specs.Prelude.{Result, Ok, Err, codes}
use Rattle.hex.specs.Hex.{encode_lower, decode_of, IsBytes}
use Rattle.hex.specs.declared.error.FromHexError.{FromHexError}
use Rattle.hex.proofs.HexLemmas.{decode_of-encode_lower}
use Rattle.ct_data_tiles.specs.TileLeaf.{Tiled}
use Rattle.ct_data_tiles.specs.TileNames.{name_text}
use Rattle.ct_data_tiles.specs.declared.tile.Tile.{Tile}
use Rattle.ct_verify.proofs.Agreeing.{collide_more, one_hash}
use Rattle.ct_verify.specs.Hashed.{CollideAmong}
use Rattle.ct_node.specs.Worlds.{Has, Object, World}
use Rattle.ct_step.specs.Lines.{IsHashedBySteps}
use Rattle.ct_node.specs.Logs.{StandsOf, NodesWriteOneLog, log_of_past}
use Rattle.ct_node.specs.Names.{IsTileOfEntries}
use Rattle.ct_node.specs.Public.{issuer_name, IsContentOf, IsIssuer, IsPublic, PublicNamesHaveOneContent}

-- ---- names
abbrev first_byte : List ℕ → ℕ
first_byte [] = 0
first_byte (x ∷ xs) = x

abbrev decoded : Result (List ℕ) FromHexError → List ℕ
decoded (Ok bytes) = bytes
decoded (Err e) = []

module _ (H : List ℕ → List ℕ) where
  -- no tile has an issuer's name
  no_tile : (t : Tile) (c : List ℕ) → name_text t ≡ issuer_name H c → ⊥
  no_tile t c e = let first : 116 ≡ 105 = ap first_byte e in absurd (omega (arith, first))

  -- an issuer's name determines its digest
  one_digest : ((x : List ℕ) → IsBytes (H x)) → (a b : List ℕ) → issuer_name H a ≡ issuer_name H b → H a ≡ H b
  one_digest bytes a b e =
      let digits : encode_lower (H a) ≡ encode_lower (H b) = ap (drop 7) e in
      sym (ap decoded (decode_of-encode_lower (H a) (bytes a)))
      ∙ ap (λ z. decoded (decode_of z)) digits
      ∙ ap decoded (decode_of-encode_lower (H b) (bytes b))

  -- ---- two objects with one name have one content
  module _ (bytes : (x : List ℕ) → IsBytes (H x)) (plan : Object → List ℕ × List ℕ) (w : World) (issuers : List (List ℕ × List ℕ))
      (are : (i : List ℕ × List ℕ) → Has i issuers → IsIssuer H i) (E : List Tiled)
      (tiles : (o : Object) → Has o w.objects → IsTileOfEntries H E (plan o))
      (names : (o p : Object) → Has o w.objects → Has p w.objects → (plan o).0 ≡ (plan p).0 → (plan o).1 ≡ (plan p).1) where
    abbrev IsPut : List ℕ × List ℕ → Type 0
    IsPut x = (o : Object) × Has o w.objects × (x ≡ plan o)

    put_and_issuer : (x y : List ℕ × List ℕ) → IsPut x → Has y issuers → x.0 ≡ y.0 → ⊥
    put_and_issuer x y o i e =
        let t = tiles o.0 o.1 in
        no_tile t.0 y.1 (sym t.2 ∙ sym (ap (λ (z : List ℕ × List ℕ). z.0) o.2) ∙ e ∙ are y i)

    one : (x y : List ℕ × List ℕ) → IsPublic plan w issuers x → IsPublic plan w issuers y → x.0 ≡ y.0 → (x.1 ≡ y.1) ⊎ CollideAmong H (IsContentOf issuers)
    one x y (inl o) (inl p) e =
        inl (
        ap (λ (z : List ℕ × List ℕ). z.1) o.2
        ∙ names o.0 p.0 o.1 p.1 (sym (ap (λ (z : List ℕ × List ℕ). z.0) o.2) ∙ e ∙ ap (λ (z : List ℕ × List ℕ). z.0) p.2)
        ∙ sym (ap (λ (z : List ℕ × List ℕ). z.1) p.2)
        )
    one x y (inl o) (inr j) e = absurd (put_and_issuer x y o j e)
    one x y (inr i) (inl p) e = absurd (put_and_issuer y x p i (sym e))
    one x y (inr i) (inr j) e =
        one_hash H (IsContentOf issuers) x.1 y.1 (x, i, refl) (y, j, refl) (one_digest bytes x.1 y.1 (sym (are x i) ∙ e ∙ are y j))

pub public_names_have_one_content : NodesWriteOneLog → PublicNamesHaveOneContent
public_names_have_one_content agree H bytes S line step plan known count b hs w begins leads is steps issuers are x y px py e =
    let E : List Tiled = log_of_past step known w.past in
    let T : List ℕ → Type 0 = λ s. IsContentOf issuers s ⊎ IsHashedBySteps H S E s in
    ⊎_elim
    (λ (r : (known ≡ take (length known) E) × StandsOf H line step b plan E w).
    ⊎_elim
    (λ (same : x.1 ≡ y.1). inl same)
    (λ (pair : CollideAmong H (IsContentOf issuers)). inr (collide_more H (IsContentOf issuers) T (λ s h. inl h) pair))
    (one H bytes plan w issuers are E r.1.tiles r.1.names x y px py e))
    (λ (pair : CollideAmong H (IsHashedBySteps H S E)). inr (collide_more H (IsHashedBySteps H S E) T (λ s h. inr h) pair))
    (agree H S line step plan known count b hs w begins leads is steps E refl)
