-- The number of hashes in an audit path and in a consistency proof, by the recursions of RFC 6962, sections 2.1.1 and 2.1.2.
use Rattle.std.specs.Prelude.{ℕ, zero, suc, ◌-◌, Bool, false, nat_lt, if◌then◌else◌}
use Rattle.ct_tree.specs.Tree.{split}

-- the length of PATH(m, D[n]), by recursion that counts down a bound
unfoldable pub path_length_within : ℕ → ℕ → ℕ → ℕ
path_length_within zero m n = 0
path_length_within (suc depth) m n =
    if nat_lt 1 n
    then suc (if nat_lt m (split n) then path_length_within depth m (split n) else path_length_within depth (m - split n) (n - split n))
    else 0

-- the length of PATH(m, D[n]), by the same recursion on sizes (RFC 6962, section 2.1.1)
unfoldable pub path_length : ℕ → ℕ → ℕ
path_length m n = path_length_within n m n

-- the length of SUBPROOF(m, D[n], b), by recursion that counts down a bound
unfoldable pub subproof_length_within : ℕ → ℕ → ℕ → Bool → ℕ
subproof_length_within zero m n b = if b then 0 else 1
subproof_length_within (suc depth) m n b =
    if nat_lt m n
    then suc (if nat_lt (split n) m then subproof_length_within depth (m - split n) (n - split n) false else subproof_length_within depth m (split n) b)
    else (if b then 0 else 1)

-- the length of SUBPROOF(m, D[n], b), by the same recursion on sizes (RFC 6962, section 2.1.2)
unfoldable pub subproof_length : ℕ → ℕ → Bool → ℕ
subproof_length m n b = subproof_length_within n m n b
