-- A list of all strings that the makers of steps hash.
use Rattle.std.proofs.Common.{◌≤◌, ℕ, zero, suc, List, [], ◌∷◌, ◌++◌, length, map, take, drop, subst, sym, arith, inl, inr, All}
use Rattle.std.proofs.lemmas.List.{length-take-le, length-drop}
use Rattle.std.proofs.lemmas.List.Elements.{All-nil, All-cons, All-weaker, Contains-append_left, Contains-append_right, Contains-push}
use Rattle.std.specs.Prelude.{Contains}
use Rattle.ct_tree.proofs.Split.{split_lt, split_pos}
use Rattle.ct_tree.specs.Tree.{split, mth}
use Rattle.ct_tiles.specs.Tiles.{lone_root}
use Rattle.ct_step.specs.EdgeStrings.{IsHashedAbove, node, left, right, IsHashedOverTiles, top, here, higher}
use Rattle.ct_step.specs.Steps.{tile_hashes}
use Rattle.ct_step.specs.Lines.{HandedLineAttempt, HashedStringsAreListed, IsHashedByMaker}

module _ (H : List ℕ → List ℕ) where
  -- the strings above hashes, of which there are at most so many
  above : ℕ → List (List ℕ) → List (List ℕ)
  above zero D = []
  above (suc n) D =
      let k = split (length D) in
      ((1 ∷ mth H (take k D) ++ mth H (drop k D)) ∷ []) ++ (above n (take k D) ++ above n (drop k D))

  in_above : (n : ℕ) (D : List (List ℕ)) (s : List ℕ) → length D ≤ n → IsHashedAbove H D s → Contains (above n D) s
  unfolding above
  in_above zero D s few (node E k many e) = absurd (omega (arith, few, many))
  in_above zero D s few (left E k t many e h) = absurd (omega (arith, few, many))
  in_above zero D s few (right E k t many e h) = absurd (omega (arith, few, many))
  in_above (suc n) D s few (node E k many e) =
      let own : List ℕ = 1 ∷ mth H (take (split (length E)) E) ++ mth H (drop (split (length E)) E) in
      let rest = above n (take (split (length E)) E) ++ above n (drop (split (length E)) E) in
      subst (λ (m : ℕ). Contains (above (suc n) E) (1 ∷ mth H (take m E) ++ mth H (drop m E))) (sym e)
      (Contains-append_left (own ∷ []) rest own (Contains-push [] own))
  in_above (suc n) D s few (left E k t many e h) =
      let m = split (length E) in
      let own : List ℕ = 1 ∷ mth H (take m E) ++ mth H (drop m E) in
      let below = above n (take m E) in
      let others = above n (drop m E) in
      let short : length (take m E) ≤ n = omega (arith, few, length-take-le m E (omega (arith, split_lt (length E) many)), split_lt (length E) many) in
      Contains-append_right (own ∷ []) (below ++ others) t
      (Contains-append_left below others t (in_above n (take m E) t short (subst (λ (j : ℕ). IsHashedAbove H (take j E) t) e h)))
  in_above (suc n) D s few (right E k t many e h) =
      let m = split (length E) in
      let own : List ℕ = 1 ∷ mth H (take m E) ++ mth H (drop m E) in
      let others = above n (take m E) in
      let below = above n (drop m E) in
      let short : length (drop m E) ≤ n = omega (arith, few, length-drop m E, split_pos (length E) many, many) in
      Contains-append_right (own ∷ []) (others ++ below) t
      (Contains-append_right others below t (in_above n (drop m E) t short (subst (λ (j : ℕ). IsHashedAbove H (drop j E) t) e h)))

  -- the strings over partial tiles
  over : List (List (List ℕ)) → List (List ℕ) → List (List ℕ)
  over [] carried = above (length carried) carried
  over (tile ∷ tiles) carried = above (length (tile ++ carried)) (tile ++ carried) ++ over tiles (lone_root H (tile ++ carried))

  in_over : (tiles : List (List (List ℕ))) (carried : List (List ℕ)) (s : List ℕ) → IsHashedOverTiles H tiles carried s → Contains (over tiles carried) s
  unfolding over
  in_over tiles carried s (top c t h) = in_above (length c) c t (omega arith) h
  in_over tiles carried s (here tile rest c t h) =
      Contains-append_left (above (length (tile ++ c)) (tile ++ c)) (over rest (lone_root H (tile ++ c))) t (in_above (length (tile ++ c)) (tile ++ c) t (omega arith) h)
  in_over tiles carried s (higher tile rest c t h) =
      Contains-append_right (above (length (tile ++ c)) (tile ++ c)) (over rest (lone_root H (tile ++ c))) t (in_over rest (lone_root H (tile ++ c)) t h)

  -- the strings that the maker of a step hashes
  of_maker : HandedLineAttempt → List (List ℕ)
  of_maker b = over (map tile_hashes b.edge) [] ++ ((b.entries ∷ []) ++ (b.attempt.step.bundle.items ∷ []))

  in_maker : (b : HandedLineAttempt) (s : List ℕ) → IsHashedByMaker H b s → Contains (of_maker b) s
  unfolding of_maker
  in_maker b s (inl (inl h)) =
      Contains-append_left (over (map tile_hashes b.edge) []) ((b.entries ∷ []) ++ (b.attempt.step.bundle.items ∷ [])) s (in_over (map tile_hashes b.edge) [] s h)
  in_maker b s (inl (inr e)) =
      subst (Contains (of_maker b)) (sym e)
      (Contains-append_right (over (map tile_hashes b.edge) []) ((b.entries ∷ []) ++ (b.attempt.step.bundle.items ∷ [])) b.entries
      (Contains-append_left (b.entries ∷ []) (b.attempt.step.bundle.items ∷ []) b.entries (Contains-push [] b.entries)))
  in_maker b s (inr e) =
      let bundle = b.attempt.step.bundle.items in
      subst (Contains (of_maker b)) (sym e)
      (Contains-append_right (over (map tile_hashes b.edge) []) ((b.entries ∷ []) ++ (bundle ∷ [])) bundle
      (Contains-append_right (b.entries ∷ []) (bundle ∷ []) bundle (Contains-push [] bundle)))

  IsListed : List (List ℕ) → HandedLineAttempt → Type 0
  IsListed S b = (s : List ℕ) → IsHashedByMaker H b s → Contains S s

  listed : (attempts : List HandedLineAttempt) → (S : List (List ℕ)) × All (IsListed S) attempts
  unfolding IsListed
  listed [] = ([], All-nil (IsListed []))
  listed (b ∷ rest) =
      let own = of_maker b in
      let more = listed rest in
      let S = own ++ more.0 in (
        S,
        All-cons (IsListed S) b rest (λ s h. Contains-append_left own more.0 s (in_maker b s h))
            (All-weaker (IsListed more.0) (IsListed S) (λ c l s h. Contains-append_right own more.0 s (l s h)) rest more.1),
      )

pub hashed_strings_are_listed : HashedStringsAreListed
unfolding IsListed
hashed_strings_are_listed H attempts = listed H attempts
