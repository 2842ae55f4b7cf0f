-- Partial tiles that are believed for the head of a list are its right edge, or two of the strings that are hashed collide. S determines
-- which strings these are.
use Rattle.std.proofs.Common.{◌≡◌, ◌⊎◌, ◌∙◌, ℕ, zero, suc, ◌*◌, ◌/◌, ◌%◌, ◌^◌, ◌<◌, ◌≤◌, List, [], ◌∷◌, ◌++◌, length, take, drop, map, All, sym, refl, ap, subst, arith, inl, inr, ⊎_elim, length-drop, length-append}
use Rattle.std.proofs.lemmas.List.{map_push, length-map}
use Rattle.std.proofs.lemmas.List.Elements.{All-nil, All-cons, All-head, All-tail, All-push, All-append, All-take, All-drop}
use Rattle.ct_tree.specs.Tree.{hash_leaf, mth}
use Rattle.ct_tiles.specs.Tiles.{chunk_roots, behind, hashes, edge, lone_root}
use Rattle.ct_tiles.proofs.EdgeRoot.{root_step, length-lone_root, root_at_top, starts_alone}
use Rattle.ct_tiles.proofs.Words.{level_has_length}
use Rattle.ct_verify.proofs.Shown.{parts}
use Rattle.ct_verify.specs.Laws.{AreHashes}
use Rattle.ct_verify.specs.Hashed.{CollideAmong}
use Rattle.ct_step.specs.EdgeStrings.{IsHashedOverTiles, IsHashedInEdge}
use Rattle.ct_step.specs.EdgeStrings.IsHashedOverTiles.{top, here, higher}
use Rattle.ct_step.specs.Believed.{tile_widths, carried_over, edge_root, BelievedEdgesTell, EdgesAreBelieved, IsHashedInEdgeOf}
use Rattle.ct_step.proofs.Roots.{has_32, root_32, roots_tell, length-lone, lone_32, lone_tells, HasAbove}

-- ---- the right edge of a list
pub carried-push : (H : List ℕ → List ℕ) (tiles : List (List (List ℕ))) (tile c : List (List ℕ))
    → carried_over H (tiles ++ tile ∷ []) c ≡ lone_root H (tile ++ carried_over H tiles c)
unfolding carried_over
carried-push H [] tile c = refl
carried-push H (t ∷ tiles) tile c = carried-push H tiles tile (lone_root H (t ++ c))

pub carried-none : (H : List ℕ → List ℕ) (c : List (List ℕ)) → carried_over H [] c ≡ c
unfolding carried_over
carried-none H c = refl

edge_widths : (H : List ℕ → List ℕ) (levels : ℕ) (D : List (List ℕ)) → map length (edge H 256 levels D) ≡ tile_widths levels (length D)
unfolding edge tile_widths
edge_widths H zero D = refl
edge_widths H (suc levels) D =
    let E = hashes H 256 levels D in
    let n : length E ≡ length D / 256 ^ levels = level_has_length H levels D in
    let w : length (behind 256 E) ≡ length D / 256 ^ levels % 256 = omega (arith, n, length-drop (256 * (length E / 256)) E) in
    map_push length (edge H 256 levels D) (behind 256 E)
    ∙ ap (λ (x : List ℕ). x ++ length (behind 256 E) ∷ []) (edge_widths H levels D)
    ∙ ap (λ (x : ℕ). tile_widths levels (length D) ++ x ∷ []) w

carried_few : (H : List ℕ → List ℕ) (levels : ℕ) (D : List (List ℕ)) → length (carried_over H (edge H 256 levels D) []) ≤ 1
unfolding edge
carried_few H zero D = omega (arith, ap length (carried-none H []))
carried_few H (suc levels) D =
    let c = carried_over H (edge H 256 levels D) [] in
    let t = behind 256 (hashes H 256 levels D) in
    omega (arith, ap length (carried-push H (edge H 256 levels D) t []), length-lone_root H (t ++ c))

carried_root : (H : List ℕ → List ℕ) (levels : ℕ) (D : List (List ℕ))
    → mth H D ≡ mth H (hashes H 256 levels D ++ carried_over H (edge H 256 levels D) [])
unfolding edge hashes
carried_root H zero D = starts_alone H D (carried_over H [] []) (carried-none H [])
carried_root H (suc levels) D =
    let E = hashes H 256 levels D in
    let c = carried_over H (edge H 256 levels D) [] in
    carried_root H levels D ∙ root_step H E c (carried_few H levels D)
    ∙ ap (λ (x : List (List ℕ)). mth H (hashes H 256 (suc levels) D ++ x)) (sym (carried-push H (edge H 256 levels D) (behind 256 E) []))

true_root : (H : List ℕ → List ℕ) (D : List (List ℕ)) → length D < 2 ^ 64 → edge_root H (edge H 256 8 D) ≡ mth H D
true_root H D h = root_at_top H D (carried_over H (edge H 256 8 D) []) h (carried_root H 8 D)

module _ (H : List ℕ → List ℕ) (long : (x : List ℕ) → length (H x) ≡ 32) where
  chunks_32 : (count : ℕ) (E : List (List ℕ)) → AreHashes E → AreHashes (chunk_roots H 256 count E)
  unfolding chunk_roots
  chunks_32 zero E a = All-nil has_32
  chunks_32 (suc count) E a =
      All-cons has_32 (mth H (take 256 E)) (chunk_roots H 256 count (drop 256 E)) (root_32 H long (take 256 E) (All-take has_32 256 E a))
      (chunks_32 count (drop 256 E) (All-drop has_32 256 E a))

  pub hashes_32 : (level : ℕ) (D : List (List ℕ)) → AreHashes D → AreHashes (hashes H 256 level D)
  unfolding hashes
  hashes_32 zero D a = a
  hashes_32 (suc level) D a = chunks_32 (length (hashes H 256 level D) / 256) (hashes H 256 level D) (hashes_32 level D a)

  pub edge_32 : (levels : ℕ) (D : List (List ℕ)) → AreHashes D → All AreHashes (edge H 256 levels D)
  unfolding edge
  edge_32 zero D a = All-nil AreHashes
  edge_32 (suc levels) D a =
      let E = hashes H 256 levels D in
      All-push AreHashes (edge H 256 levels D) (behind 256 E) (edge_32 levels D a) (All-drop has_32 (256 * (length E / 256)) E (hashes_32 levels D a))

  pub leaves_32 : (D : List (List ℕ)) → AreHashes (map (hash_leaf H) D)
  leaves_32 [] = All-nil has_32
  leaves_32 (x ∷ D) = All-cons has_32 (hash_leaf H x) (map (hash_leaf H) D) (long (0 ∷ x)) (leaves_32 D)

  -- ---- two lists of partial tiles
  same_shape : (s t : List (List ℕ)) (S T : List (List (List ℕ))) → map length (s ∷ S) ≡ map length (t ∷ T)
      → (length s ≡ length t) × (map length S ≡ map length T)
  same_shape s t S T e = (parts (length s) (length t) (map length S) (map length T) e)
    where
      parts : (m n : ℕ) (a b : List ℕ) → m ∷ a ≡ n ∷ b → (m ≡ n) × (a ≡ b)
      parts m n a b e =
          let first : m ≡ n = cc in
          let behind : a ≡ b = cc in
          (first, behind)

  length-both : (s t c d : List (List ℕ)) → length s ≡ length t → length c ≡ length d → length (s ++ c) ≡ length (t ++ d)
  length-both s t c d l m = omega (arith, length-append s c, length-append t d, l, m)

  length-carried : (S T : List (List (List ℕ))) (c d : List (List ℕ)) → map length S ≡ map length T → length c ≡ length d
      → length (carried_over H S c) ≡ length (carried_over H T d)
  unfolding carried_over
  length-carried [] [] c d shape l = l
  length-carried [] (t ∷ T) c d shape l = absurd (omega (arith, ap length shape))
  length-carried (s ∷ S) [] c d shape l = absurd (omega (arith, ap length shape))
  length-carried (s ∷ S) (t ∷ T) c d shape l =
      let q = same_shape s t S T shape in
      length-carried S T (lone_root H (s ++ c)) (lone_root H (t ++ d)) q.1 (length-lone H long (s ++ c) (t ++ d) (length-both s t c d q.0 l))

  carried_32 : (S : List (List (List ℕ))) (c : List (List ℕ)) → All AreHashes S → AreHashes c → AreHashes (carried_over H S c)
  unfolding carried_over
  carried_32 [] c a b = b
  carried_32 (s ∷ S) c a b =
      carried_32 S (lone_root H (s ++ c)) (All-tail AreHashes s S a)
      (lone_32 H long (s ++ c) (All-append has_32 s c (All-head AreHashes s S a) b))

  module _ (S : List ℕ → Type 0) where
    -- S contains the strings that are hashed over tiles
    abbrev HasOver : List (List (List ℕ)) → List (List ℕ) → Type 0
    HasOver T c = (s : List ℕ) → IsHashedOverTiles H T c s → S s

    carried_tells : (R T : List (List (List ℕ))) (c d : List (List ℕ)) → map length R ≡ map length T → length c ≡ length d
        → All AreHashes R → All AreHashes T → AreHashes c → AreHashes d → HasOver R c → HasOver T d → carried_over H R c ≡ carried_over H T d
        → ((R ≡ T) × (c ≡ d)) ⊎ CollideAmong H S
    unfolding carried_over
    carried_tells [] [] c d shape l p q a b f g e = inl (refl, e)
    carried_tells [] (t ∷ T) c d shape l p q a b f g e = absurd (omega (arith, ap length shape))
    carried_tells (r ∷ R) [] c d shape l p q a b f g e = absurd (omega (arith, ap length shape))
    carried_tells (r ∷ R) (t ∷ T) c d shape l p q a b f g e =
        let w = same_shape r t R T shape in
        let both = length-both r t c d w.0 l in
        let u = All-append has_32 r c (All-head AreHashes r R p) a in
        let v = All-append has_32 t d (All-head AreHashes t T q) b in
        ⊎_elim
        (λ (above : (R ≡ T) × (lone_root H (r ++ c) ≡ lone_root H (t ++ d))).
        ⊎_elim
        (λ (same : r ++ c ≡ t ++ d).
        let z = parts r t c d w.0 same in
        inl (ap (λ (x : List (List ℕ)). x ∷ R) z.0 ∙ ap (λ (x : List (List (List ℕ))). t ∷ x) above.0, z.1))
        (λ (found : CollideAmong H S). inr found)
        (lone_tells H long S (r ++ c) (t ++ d) both u v (λ s h. f s (here r R c s h)) (λ s h. g s (here t T d s h)) above.1))
        (λ (found : CollideAmong H S). inr found)
        (carried_tells R T (lone_root H (r ++ c)) (lone_root H (t ++ d)) w.1 (length-lone H long (r ++ c) (t ++ d) both)
        (All-tail AreHashes r R p) (All-tail AreHashes t T q) (lone_32 H long (r ++ c) u) (lone_32 H long (t ++ d) v)
        (λ s h. f s (higher r R c s h)) (λ s h. g s (higher t T d s h)) e)

    -- the strings above the hashes that the tiles carry on
    over_top : (T : List (List (List ℕ))) (c : List (List ℕ)) → HasOver T c → HasAbove H long S (carried_over H T c)
    unfolding carried_over
    over_top [] c f = λ s h. f s (top c s h)
    over_top (t ∷ T) c f = over_top T (lone_root H (t ++ c)) (λ s h. f s (higher t T c s h))

    tiles_tell : (R T : List (List (List ℕ))) → map length R ≡ map length T → All AreHashes R → All AreHashes T → HasOver R [] → HasOver T []
        → edge_root H R ≡ edge_root H T → (R ≡ T) ⊎ CollideAmong H S
    tiles_tell R T shape p q f g e =
        let none = All-nil has_32 in
        ⊎_elim
        (λ (same : carried_over H R [] ≡ carried_over H T []).
        ⊎_elim
        (λ (all : (R ≡ T) × ([] ≡ [])). inl all.0)
        (λ (found : CollideAmong H S). inr found)
        (carried_tells R T [] [] shape refl p q none none f g same))
        (λ (found : CollideAmong H S). inr found)
        (roots_tell H long S (carried_over H R []) (carried_over H T []) (length-carried R T [] [] shape refl) (carried_32 R [] p none) (carried_32 T [] q none)
        (over_top R [] f) (over_top T [] g) e)

pub believed_edges_tell : BelievedEdgesTell
believed_edges_tell H long head D tiles over believed =
    let S : List ℕ → Type 0 = λ s. IsHashedInEdge H tiles s ⊎ IsHashedInEdgeOf H D s in
    let leaves = map (hash_leaf H) D in
    let n : length leaves ≡ length D = length-map D (hash_leaf H) in
    let few : length leaves < 2 ^ 64 = omega (arith, n, over.2) in
    let size : head.tree_size ≡ length leaves = over.0 ∙ sym n in
    let shape : map length tiles ≡ map length (edge H 256 8 leaves) =
    believed.widths ∙ ap (tile_widths 8) size ∙ sym (edge_widths H 8 leaves) in
    ⊎_elim
    (λ (same : tiles ≡ edge H 256 8 leaves). inl (record { size = size; tiles = same }))
    (λ (found : CollideAmong H S). inr found)
    (tiles_tell H long S tiles (edge H 256 8 leaves) shape believed.hashes (edge_32 H long 8 leaves (leaves_32 H long D))
    (λ s h. inl h) (λ s h. inr h) (believed.root ∙ over.1 ∙ sym (true_root H leaves few)))

pub edges_are_believed : EdgesAreBelieved
edges_are_believed H long head D tiles over is =
    let leaves = map (hash_leaf H) D in
    let n : length leaves ≡ length D = length-map D (hash_leaf H) in
    let few : length leaves < 2 ^ 64 = omega (arith, n, over.2) in
    record {
      widths = ap (map length) is.tiles ∙ edge_widths H 8 leaves ∙ ap (tile_widths 8) (sym is.size);
      hashes = subst (All AreHashes) (sym is.tiles) (edge_32 H long 8 leaves (leaves_32 H long D));
      root = ap (edge_root H) is.tiles ∙ true_root H leaves few ∙ sym over.1;
    }
