-- All objects of a step can be written.
use Rattle.std.proofs.Common.{◌≡◌, ◌∙◌, ℕ, zero, suc, ◌+◌, ◌-◌, ◌*◌, ◌/◌, ◌<◌, ◌≤◌, List, [], ◌∷◌, ◌++◌, length, take, drop, get_or, All, sym, ap, subst, arith, ⊎_elim, length-append}
use Rattle.std.proofs.lemmas.Bool.{cases_lt}
use Rattle.std.proofs.lemmas.List.{get_or_append_left, get_or_at, length-take}
use Rattle.std.proofs.lemmas.List.Elements.{All-nil, All-push, All-append, All-take, All-drop, All-get_or}
use Rattle.ct_tiles.specs.Tiles.{hashes, tile}
use Rattle.ct_data_tiles.specs.Rows.{data_tile, data_tiles_from}
use Rattle.ct_data_tiles.specs.declared.tile.Content.TheVariants.{Hashes, Entries}
use Rattle.ct_step.proofs.EdgesTell.{hashes_32}
use Rattle.ct_step.proofs.Roots.{has_32}
use Rattle.ct_step.specs.Bundle.{IsObject}
use Rattle.ct_step.proofs.Names.{short_name}
use Rattle.ct_verify.specs.Laws.{AreHashes}
use Rattle.ct_step.specs.Objects.{hash_object, entry_object, each_from, changed, level_objects, data_objects, FitsInBundle}
use Rattle.ct_step.specs.Steps.{last_tiles}
use Rattle.ct_step.proofs.Handed.{length-joined}
use Rattle.ct_step.proofs.Loops.{test-true, test-false, length-data, data-at}

each-all : (P : List ℕ × List ℕ → Type 0) (f : ℕ → List ℕ × List ℕ) (first count : ℕ) → ((i : ℕ) → i < count → P (f (first + i)))
    → All P (each_from f first count)
unfolding each_from
each-all P f first zero h = All-nil P
each-all P f first (suc count) h =
    All-push P (each_from f first count) (f (first + count)) (each-all P f first count (λ i k. h i (omega (arith, k)))) (h count (omega arith))

changed-all : (P : List ℕ × List ℕ → Type 0) (f : ℕ → List ℕ × List ℕ) (m n : ℕ)
    → ((i : ℕ) → i < (n + 255) / 256 - m / 256 → P (f (m / 256 + i))) → All P (changed f m n)
changed-all P f m n h =
    let x = each_from f (m / 256) ((n + 255) / 256 - m / 256) in
    ⊎_elim
    (λ (more : m < n). subst (All P) (sym (test-true m n x [] more)) (each-all P f (m / 256) ((n + 255) / 256 - m / 256) h))
    (λ (same : n ≤ m). subst (All P) (sym (test-false m n x [] same)) (All-nil P))
    (cases_lt m n)

module _ (H : List ℕ → List ℕ) (long : (x : List ℕ) → length (H x) ≡ 32) where
  tile-fits : (D : List (List ℕ)) → AreHashes D → (level index : ℕ) → IsObject (hash_object H D level index)
  tile-fits D a level index =
      let E = hashes H 256 level D in
      let t = tile H 256 level index 256 D in
      let each : AreHashes t = All-take has_32 256 (drop (256 * index) E) (All-drop has_32 (256 * index) E (hashes_32 H long level D a)) in
      record {
        name = short_name (record { content = Hashes level; index = index; width = length t });
        content = omega (arith, length-joined t each, length-take 256 (drop (256 * index) E));
      }

  pub levels-fit : (levels : ℕ) (D B : List (List ℕ)) → AreHashes (D ++ B) → All IsObject (level_objects H levels D B)
  unfolding level_objects
  levels-fit zero D B a = All-nil IsObject
  levels-fit (suc levels) D B a =
      All-append IsObject (level_objects H levels D B) _ (levels-fit levels D B a)
      (changed-all IsObject (hash_object H (D ++ B) levels) (length (hashes H 256 levels D)) (length (hashes H 256 levels (D ++ B)))
      (λ i h. tile-fits (D ++ B) a levels (length (hashes H 256 levels D) / 256 + i)))

pub data-fit : (L N : List (List ℕ)) → All FitsInBundle (last_tiles L N) → All IsObject (data_objects L N)
data-fit L N all =
    changed-all IsObject (entry_object (L ++ N)) (length L) (length (L ++ N))
    (λ i h. record {
      name = short_name
          (record { content = Entries; index = length L / 256 + i; width = length (take 256 (drop (256 * (length L / 256 + i)) (L ++ N))) });
      content = short i h;
    })
  where
    short : (i : ℕ) → i < (length (L ++ N) + 255) / 256 - length L / 256 → FitsInBundle (data_tile (length L / 256 + i) (L ++ N))
    short i h =
        let M = L ++ N in
        let q = length L / 256 in
        let k = length M / 256 - q in
        let full = data_tiles_from q k M in
        let last = data_tile (length M / 256) M in
        let size : length M ≡ length L + length N = length-append L N in
        let count : length full ≡ k = length-data q k M in
        let whole : length (last_tiles L N) ≡ k + 1 = length-append full (last ∷ []) ∙ ap (λ (n : ℕ). n + 1) count in
        let here : FitsInBundle (get_or (last_tiles L N) i []) = All-get_or FitsInBundle (last_tiles L N) i [] (omega (arith, h, whole, size)) all in
        ⊎_elim
        (λ (below : i < k).
        subst FitsInBundle (get_or_append_left full (last ∷ []) [] i (omega (arith, below, count)) ∙ data-at q k i M below) here)
        (λ (at : k ≤ i). let e : i ≡ k = omega (arith, at, h, size) in
        let place : length M / 256 ≡ q + i = omega (arith, e, size) in
        subst FitsInBundle (ap (λ (n : ℕ). get_or (last_tiles L N) n []) e ∙ get_or_at full last [] [] k count ∙ ap (λ (n : ℕ). data_tile n M) place) here)
        (cases_lt i k)
