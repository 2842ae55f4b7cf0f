-- The lines of an input, one by one.
use Rattle.std.proofs.Common.{◌≡◌, ◌<◌, ◌==◌, ℕ, suc, List, [], ◌∷◌, ◌++◌, length, length-append, take, slice_index, ◌+◌, ◌-◌, Bool, true, false, refl, sym, ap}
use Rattle.std.proofs.Common.{◌∙◌, arith, append_assoc, append-nil}
use Rattle.std.proofs.lemmas.Bool.{lt-ltb}
use Rattle.std.specs.Prelude.{◌&&◌, if◌then◌else◌}
use Rattle.std.specs.Io.BufRead.{drop_through, first_piece, strip_last, take_through}
use Rattle.json_lines.specs.Lines.{lines_behind, lines_of}

-- bytes with k others before the last one
strip_is : (xs : List ℕ) (k : ℕ) → length xs ≡ suc k → strip_last 10 xs ≡ (if slice_index xs k == 10 then take k xs else xs)
strip_is xs k e = ap (λ (t : Bool). stripped t (length xs - 1)) (lt-ltb 0 (length xs) (omega (arith, e))) ∙ ap (λ (n : ℕ). stripped true n) (omega (arith, e))
  where
    stripped : Bool → ℕ → List ℕ
    stripped t n = if t && (slice_index xs n == 10) then take n xs else xs

-- a byte that is not the end of a line stays
strip_more : (b : ℕ) (bs : List ℕ) → (b == 10) ≡ false → strip_last 10 (b ∷ bs) ≡ b ∷ strip_last 10 bs
strip_more b [] other = strip_is (b ∷ []) 0 refl ∙ ap (λ (t : Bool). if t then [] else b ∷ []) other
strip_more b (c ∷ bs) other =
    strip_is (b ∷ c ∷ bs) (suc (length bs)) refl ∙ go (slice_index (c ∷ bs) (length bs) == 10)
    ∙ ap (λ (l : List ℕ). b ∷ l) (sym (strip_is (c ∷ bs) (length bs) refl))
  where
    go : (t : Bool) → (if t then b ∷ take (length bs) (c ∷ bs) else b ∷ c ∷ bs) ≡ b ∷ (if t then take (length bs) (c ∷ bs) else c ∷ bs)
    go true = refl
    go false = refl

-- an input whose first line begins with `line`, which was already read: the rest of that line, and the lines after its end
cut_behind : (line bs : List ℕ) → 0 < length line + length bs → lines_behind line bs ≡ (line ++ first_piece 10 bs) ∷ lines_of (drop_through 10 bs)
cut_behind [] [] some = absurd (omega arith)
cut_behind (a ∷ line) [] some = ap (λ (l : List ℕ). l ∷ []) (sym (append-nil (a ∷ line)))
cut_behind line (b ∷ bs) some = go (cut_behind (line ++ b ∷ []) bs (omega (arith, length-append line (b ∷ [])))) (b == 10) refl
  where
    go : lines_behind (line ++ b ∷ []) bs ≡ ((line ++ b ∷ []) ++ first_piece 10 bs) ∷ lines_of (drop_through 10 bs) → (t : Bool) → (b == 10) ≡ t
        → lines_behind line (b ∷ bs) ≡ (line ++ first_piece 10 (b ∷ bs)) ∷ lines_of (drop_through 10 (b ∷ bs))
    go more true end =
        let piece : first_piece 10 (b ∷ bs) ≡ [] = ap (λ (t : Bool). strip_last 10 (if t then b ∷ [] else b ∷ take_through 10 bs)) end
        ∙ strip_is (b ∷ []) 0 refl
        ∙ ap (λ (t : Bool). if t then [] else b ∷ []) end in
        let dropped : drop_through 10 (b ∷ bs) ≡ bs = ap (λ (t : Bool). if t then bs else drop_through 10 bs) end in
        ap (λ (t : Bool). if t then line ∷ lines_of bs else lines_behind (line ++ b ∷ []) bs) end ∙ ap (λ (l : List ℕ). l ∷ lines_of bs) (sym (append-nil line))
        ∙ ap (λ (l : List ℕ). (line ++ l) ∷ lines_of bs) (sym piece) ∙ ap (λ (l : List ℕ). (line ++ first_piece 10 (b ∷ bs)) ∷ lines_of l) (sym dropped)
    go more false other =
        let piece : first_piece 10 (b ∷ bs) ≡ b ∷ first_piece 10 bs =
        ap (λ (t : Bool). strip_last 10 (if t then b ∷ [] else b ∷ take_through 10 bs)) other ∙ strip_more b (take_through 10 bs) other in
        let dropped : drop_through 10 (b ∷ bs) ≡ drop_through 10 bs = ap (λ (t : Bool). if t then bs else drop_through 10 bs) other in
        ap (λ (t : Bool). if t then line ∷ lines_of bs else lines_behind (line ++ b ∷ []) bs) other ∙ more
        ∙ ap (λ (l : List ℕ). l ∷ lines_of (drop_through 10 bs)) (append_assoc line (b ∷ []) (first_piece 10 bs))
        ∙ ap (λ (l : List ℕ). (line ++ l) ∷ lines_of (drop_through 10 bs)) (sym piece)
        ∙ ap (λ (l : List ℕ). (line ++ first_piece 10 (b ∷ bs)) ∷ lines_of l) (sym dropped)

-- the first line, and the lines after its end
pub first_line_cut : (bs : List ℕ) → 0 < length bs → lines_of bs ≡ first_piece 10 bs ∷ lines_of (drop_through 10 bs)
first_line_cut bs some = cut_behind [] bs (omega (arith, some))
