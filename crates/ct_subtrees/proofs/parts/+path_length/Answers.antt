use Rattle.std.proofs.Common.{◌≡◌, ℕ, ◌+◌, ◌-◌, ◌<◌, ◌≤◌, sym, ◌∙◌, ap, arith}
use Rattle.ct_tree.proofs.Length.{path_length-one, path_length-left, path_length-right}
use Rattle.ct_tree.specs.Lengths.{path_length}
use Rattle.ct_tree.specs.Tree.{split}
use Rattle.ct_subtrees.proofs.parts.+path_length.Goals as goal

longer_left : (i n k r : ℕ) → 1 < n → k ≡ split n → i < k → r ≡ path_length i k → r + 1 ≡ path_length i n
longer_left i n k r h e l f =
    let g : path_length i k ≡ path_length i (split n) = ap (path_length i) e in
    omega (arith, f, g, path_length-left i n h (omega (arith, l, e)))

longer_right : (i n k r : ℕ) → 1 < n → k ≡ split n → k ≤ i → r ≡ path_length (i - k) (n - k) → r + 1 ≡ path_length i n
longer_right i n k r h e l f =
    let g : path_length (i - k) (n - k) ≡ path_length (i - split n) (n - split n) = ap (λ u. path_length (i - u) (n - u)) e in
    omega (arith, f, g, path_length-right i n h (omega (arith, l, e)))

pub returns-then-size-eq1-clause-length : goal.returns-then-size-eq1-clause-length
returns-then-size-eq1-clause-length t c =
    sym (ap (path_length c.args.index) (let e : c.args.size ≡ 1 = omega (arith, c.if-size-eq1.true) in e) ∙ path_length-one c.args.index)

pub returns-then-index-left-clause-length : goal.returns-then-index-left-clause-length
returns-then-index-left-clause-length t c =
    longer_left c.args.index c.args.size c.largest_power_below-left.result c.path_length.result (omega (arith, c.requires, c.if-size-eq1.false))
    c.largest_power_below-left.ensures.split (omega (arith, c.if-index-left.true)) c.path_length.ensures.length

pub returns-else-index-left-clause-length : goal.returns-else-index-left-clause-length
returns-else-index-left-clause-length t c =
    longer_right c.args.index c.args.size c.largest_power_below-left.result c.path_length-else-index-left.result
    (omega (arith, c.requires, c.if-size-eq1.false)) c.largest_power_below-left.ensures.split (omega (arith, c.if-index-left.false))
    c.path_length-else-index-left.ensures.length
