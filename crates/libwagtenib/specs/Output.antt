-- The output of a call, whose length only the call knows: the memory of the caller, and the length.
use Rattle.std.specs.Prelude.{◌≡◌, ◌⊎◌, ◌<◌, ◌++◌, ℕ, List, length, drop}

-- 0: the memory begins with the elements, the rest of it is unchanged, and the count is theirs. 9: there are more elements than the memory has room for, which
-- is unchanged, and the count is theirs.
abbrev pub WritesOutput : {A : Type 0} → List A → ℕ → List A → List A → ℕ → Type 0
WritesOutput elements code before after count =
    (count ≡ length elements)
    × (((code ≡ 0) × (after ≡ elements ++ drop (length elements) before)) ⊎ ((code ≡ 9) × (after ≡ before) × (length before < length elements)))
