-- The name of an object determines which of a log's hashes or entries are its content.
use Rattle.std.proofs.Common.{refl, subst, ◌⊎◌, inl, inr, ⊎_elim, ◌≡◌, ℕ, zero, suc, ◌+◌, ◌-◌, ◌*◌, ◌/◌, ◌<◌, ◌≤◌, sym, ◌∙◌, ap, arith, ltb-true, ltb-false, List, [], ◌∷◌, ◌++◌, length, take, drop, map}
use Rattle.std.specs.Prelude.{true, false, nat_lt, if◌then◌else◌, ◌^◌}
use Rattle.std.proofs.lemmas.List.{append_assoc, append-nil, map-append, length-drop, length-take, length-take-le, length-append, take-append-drop, take_all, drop_all}
use Rattle.ct_codec.specs.Parts.{joined}
use Rattle.ct_codec.specs.Submitted.{Submitted}
use Rattle.ct_data_tiles.specs.TileLeaf.{Tiled, tile_leaf_text, leaf_of}
use Rattle.ct_tree.specs.Tree.{hash_leaf}
use Rattle.ct_data_tiles.specs.NameAnswers.{NamesDiffer}
use Rattle.ct_data_tiles.specs.TileNames.{IsTile, IsContent, name_text}
use Rattle.ct_data_tiles.specs.declared.tile.Content.{Content}
use Rattle.ct_data_tiles.specs.declared.tile.Content.TheVariants.{Hashes, Entries}
use Rattle.ct_data_tiles.specs.declared.tile.Tile.{Tile}
use Rattle.ct_tiles.specs.Laws.{TilesStay}
use Rattle.ct_tiles.specs.Tiles.{hashes, tile}
use Rattle.ct_tiles.proofs.Cuts.{cut_width, hashes_short}
use Rattle.ct_node.specs.Worlds.{Has}
use Rattle.ct_step.proofs.Lengths.{length_hashes, length_texts}
use Rattle.ct_step.specs.Entries.{tiled_leaves, texts_of, tree_leaves, hashes_of}
use Rattle.ct_step.specs.Lines.{LineAttempt, IsStepOf}
use Rattle.ct_step.specs.Objects.{named, hash_object, entry_object, each_from, changed, level_objects, data_objects}
use Rattle.ct_step.specs.Steps.{new_entries, step_objects}
use Rattle.ct_node.specs.Names.{objects_of, tile_parts, IsTileOfEntries, StepsWriteTiles, StepsHaveOneContent}

abbrev Object : Type 0
Object = List ℕ × List ℕ

-- ---- lists
has_split : (xs ys : List Object) (o : Object) → Has o (xs ++ ys) → Has o xs ⊎ Has o ys
has_split [] ys o h = inr h
has_split (x ∷ xs) ys o (inl e) = inl (inl e)
has_split (x ∷ xs) ys o (inr h) = ⊎_elim (λ (i : Has o xs). inl (inr i)) (λ (i : Has o ys). inr i) (has_split xs ys o h)

cut_itself : (xs : List (List ℕ)) → take (length (take 256 xs)) xs ≡ take 256 xs
cut_itself xs =
    elim (nat_lt (length xs) 256) as (λ t. nat_lt (length xs) 256 ≡ t → take (length (take 256 xs)) xs ≡ take 256 xs) [
      | true ↦ λ q.
          let l : length xs < 256 = ltb-true (length xs) 256 q in
          let e : take 256 xs ≡ xs = take_all 256 xs (omega (arith, l)) in
          ap (λ (v : List (List ℕ)). take (length v) xs) e ∙ take_all (length xs) xs (omega arith) ∙ sym e
      | false ↦ λ q. ap (λ (n : ℕ). take n xs) (length-take-le 256 xs (ltb-false (length xs) 256 q))
    ] refl

-- ---- the objects that change
in_each : (object : ℕ → Object) (first count : ℕ) (o : Object) → Has o (each_from object first count) → (i : ℕ) × (i < count) × (o ≡ object (first + i))
unfolding each_from
in_each object first zero o h = absurd h
in_each object first (suc count) o h =
    ⊎_elim
    (λ (j : Has o (each_from object first count)). let r = in_each object first count o j in (r.0, omega (arith, r.1), r.2))
    (λ (j : Has o (object (first + count) ∷ [])). (count, omega arith, ⊎_elim (λ (e : o ≡ object (first + count)). e) (λ z. absurd z) j))
    (has_split (each_from object first count) (object (first + count) ∷ []) o h)

in_changed : (object : ℕ → Object) (m n : ℕ) (o : Object) → Has o (changed object m n) → (i : ℕ) × (256 * i < n) × (o ≡ object i)
in_changed object m n o h =
    elim (nat_lt m n) as (λ t. Has o (if t then each_from object (m / 256) ((n + 255) / 256 - m / 256) else []) → (i : ℕ) × (256 * i < n) × (o ≡ object i)) [
      | true ↦ λ j. let r = in_each object (m / 256) ((n + 255) / 256 - m / 256) o j in (m / 256 + r.0, omega (arith, r.1), r.2)
      | false ↦ λ j. absurd j
    ] h

module _ (H : List ℕ → List ℕ) where
  in_levels : (levels : ℕ) (D B : List (List ℕ)) (o : Object) → Has o (level_objects H levels D B)
      → (l : ℕ) × (l < levels) × (i : ℕ) × (256 * i < length (hashes H 256 l (D ++ B))) × (o ≡ hash_object H (D ++ B) l i)
  unfolding level_objects
  in_levels zero D B o h = absurd h
  in_levels (suc levels) D B o h =
      let m = length (hashes H 256 levels D) in
      let n = length (hashes H 256 levels (D ++ B)) in
      ⊎_elim
      (λ (j : Has o (level_objects H levels D B)). let r = in_levels levels D B o j in (r.0, omega (arith, r.1), r.2, r.3, r.4))
      (λ (j : Has o (changed (hash_object H (D ++ B) levels) m n)).
      let r = in_changed (hash_object H (D ++ B) levels) m n o j in (levels, omega arith, r.0, r.1, r.2))
      (has_split (level_objects H levels D B) (changed (hash_object H (D ++ B) levels) m n) o h)

  cut_one : (c : Content) (i : ℕ) (P : List (List ℕ)) (E : List Tiled) (o : Object) → IsContent c → 256 * i < length P → length P < 2 ^ 64
      → o ≡ named c i (take 256 (drop (256 * i) P))
      → ((w : ℕ) → 256 * i + w ≤ length P → take w (drop (256 * i) (tile_parts H E c)) ≡ take w (drop (256 * i) P)) → IsTileOfEntries H E o
  cut_one c i P E o is b few e stay =
      let xs = drop (256 * i) P in
      let d : length xs ≡ length P - 256 * i = length-drop (256 * i) P in
      let w = cut_width xs (omega (arith, d, b)) in
      let t : Tile = record { content = c; index = i; width = length (take 256 xs) } in
      let parts = tile_parts H E c in
      let zs = drop (256 * i) parts in
      let same : take (length (take 256 xs)) zs ≡ take (length (take 256 xs)) xs = stay (length (take 256 xs)) (omega (arith, d, b, w.2)) in
      let full : length (take (length (take 256 xs)) zs) ≡ length (take 256 xs) = ap (λ (v : List (List ℕ)). length v) (same ∙ cut_itself xs) in
      let left : length zs ≡ length parts - 256 * i = length-drop (256 * i) parts in (
        t,
        record { content = is; some = w.0; most = w.1; index = omega (arith, b, few) },
        ap (λ (z : Object). z.0) e,
        ap (λ (z : Object). z.1) e ∙ ap joined (sym (cut_itself xs) ∙ sym same),
        omega (arith, full, left, length-take (length (take 256 xs)) zs, w.0),
      )

  hashes_append : (A B : List Tiled) → hashes_of H (A ++ B) ≡ hashes_of H A ++ hashes_of H B
  hashes_append A B = ap (map (hash_leaf H)) (map-append leaf_of A B) ∙ map-append (hash_leaf H) (tree_leaves A) (tree_leaves B)

  texts_append : (A B : List Tiled) → texts_of (A ++ B) ≡ texts_of A ++ texts_of B
  texts_append A B = map-append tile_leaf_text A B

  module _ (tiles_stay : TilesStay) where
    texts_stay : (i w : ℕ) (P Q : List (List ℕ)) → 256 * i + w ≤ length P → take w (drop (256 * i) (P ++ Q)) ≡ take w (drop (256 * i) P)
    unfolding hashes
    texts_stay i w P Q b = tiles_stay H 0 i w P Q b

    step_cut : (A N M : List Tiled) (o : Object) → length (A ++ N) < 2 ^ 64 → Has o (step_objects H A N) → IsTileOfEntries H ((A ++ N) ++ M) o
    step_cut A N M o few h =
        let D = hashes_of H A in
        let B = hashes_of H N in
        let L = texts_of A in
        let T = texts_of N in
        let sum : length (A ++ N) ≡ length A + length N = length-append A N in
        let hashed : length (D ++ B) ≡ length D + length B = length-append D B in
        let written : length (L ++ T) ≡ length L + length T = length-append L T in
        ⊎_elim
        (λ (j : Has o (level_objects H 8 D B)).
        let r = in_levels 8 D B o j in
        let P = hashes H 256 r.0 (D ++ B) in
        let all : hashes_of H ((A ++ N) ++ M) ≡ (D ++ B) ++ hashes_of H M = hashes_append (A ++ N) M ∙ ap (λ v. v ++ hashes_of H M) (hashes_append A N) in
        cut_one
        (Hashes r.0)
        r.2
        P
        ((A ++ N) ++ M)
        o
        (omega (arith, r.1))
        r.3
        (omega (arith, few, sum, hashed, hashes_short H r.0 (D ++ B), length_hashes H A, length_hashes H N))
        r.4
        (λ w b. ap (λ v. tile H 256 r.0 r.2 w v) all ∙ tiles_stay H r.0 r.2 w (D ++ B) (hashes_of H M) b))
        (λ (j : Has o (data_objects L T)).
        let r = in_changed (entry_object (L ++ T)) (length L) (length (L ++ T)) o j in
        let all : texts_of ((A ++ N) ++ M) ≡ (L ++ T) ++ texts_of M = texts_append (A ++ N) M ∙ ap (λ v. v ++ texts_of M) (texts_append A N) in
        cut_one
        Entries
        r.0
        (L ++ T)
        ((A ++ N) ++ M)
        o
        tt
        r.1
        (omega (arith, few, sum, written, length_texts A, length_texts N))
        r.2
        (λ w b. ap (λ v. take w (drop (256 * r.0) v)) all ∙ texts_stay r.0 w (L ++ T) (texts_of M) b))
        (has_split (level_objects H 8 D B) (data_objects L T) o h)

    -- ---- steps of one log
    no_batch : (t f g : ℕ) (B : List (Submitted × List (List ℕ))) → tiled_leaves t f B ≡ [] → tiled_leaves t g B ≡ []
    unfolding tiled_leaves
    no_batch t f g [] e = refl
    no_batch t f g (x ∷ B) e = let n = ap (λ (v : List Tiled). length v) e in absurd (omega (arith, n))

    take_none : (k : ℕ) → take {A = Tiled} k [] ≡ []
    take_none k = take_all k [] (omega arith)

    whole : (E : List Tiled) (a : LineAttempt) → IsStepOf H E a
        → (M : List Tiled) × (E ≡ (take a.seen.tree_size E ++ new_entries (take a.seen.tree_size E) a.batch a.now) ++ M)
    whole E a s =
        let n = a.seen.tree_size in
        let k = length a.batch in
        elim (nat_lt (length E) n) as
        (λ t. nat_lt (length E) n ≡ t → (M : List Tiled) × (E ≡ (take n E ++ new_entries (take n E) a.batch a.now) ++ M)) [
          | true ↦ λ q.
              let l : length E < n = ltb-true (length E) n q in
              let none : tiled_leaves a.now n a.batch ≡ [] = s.entries ∙ ap (λ (v : List Tiled). take k v) (drop_all n E (omega (arith, l))) ∙ take_none k in
              let fresh : new_entries (take n E) a.batch a.now ≡ [] = no_batch a.now n (length (take n E)) a.batch none in (
                [],
                sym (take_all n E (omega (arith, l))) ∙ sym (append-nil (take n E)) ∙ ap (λ v. take n E ++ v) (sym fresh)
                    ∙ sym (append-nil (take n E ++ new_entries (take n E) a.batch a.now)),
              )
          | false ↦ λ q.
              let l : n ≤ length E = ltb-false (length E) n q in
              let size : length (take n E) ≡ n = length-take-le n E l in
              let fresh : new_entries (take n E) a.batch a.now ≡ take k (drop n E) = ap (λ (z : ℕ). tiled_leaves a.now z a.batch) size ∙ s.entries in (
                drop k (drop n E),
                sym (take-append-drop n E) ∙ ap (λ v. take n E ++ v) (sym (take-append-drop k (drop n E)))
                    ∙ sym (append_assoc (take n E) (take k (drop n E)) (drop k (drop n E)))
                    ∙ ap (λ v. (take n E ++ v) ++ drop k (drop n E)) (sym fresh),
              )
        ] refl

    of_log : (E : List Tiled) (a : LineAttempt) (o : Object) → IsStepOf H E a → Has o (objects_of H E a) → IsTileOfEntries H E o
    of_log E a o s h =
        let m = whole E a s in
        let A = take a.seen.tree_size E in
        let N = new_entries A a.batch a.now in
        subst (λ v. IsTileOfEntries H v o) (sym m.1) (step_cut A N m.0 o s.step.log.few h)

pub steps_write_tiles : TilesStay → StepsWriteTiles
steps_write_tiles stay H E a s o h = of_log H stay E a o s h

pub steps_have_one_content : StepsWriteTiles → NamesDiffer → StepsHaveOneContent
steps_have_one_content tiles differ H E a b s r o p ho hp e =
    let c = tiles H E a s o ho in
    let d = tiles H E b r p hp in
    let same : c.0 ≡ d.0 = differ c.0 d.0 c.1 d.1 (sym c.2 ∙ e ∙ d.2) in
    c.3 ∙ ap (λ (t : Tile). joined (take t.width (drop (256 * t.index) (tile_parts H E t.content)))) same ∙ sym d.3
