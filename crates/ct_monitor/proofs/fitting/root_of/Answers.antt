use Rattle.std.proofs.Common.{◌≡◌, ◌∙◌, [], List, ℕ, length, sym, refl, ap}
use Rattle.std.proofs.lemmas.Bool.{eqb-true}
use Rattle.std.proofs.lemmas.List.{nil_from_length}
use Rattle.ct_tree.specs.Peaks.{root_of_peaks}
use Rattle.ct_monitor.proofs.fitting.root_of.Goals as goal

none : (H : List ℕ → List ℕ) → H [] ≡ root_of_peaks H []
unfolding root_of_peaks
none H = refl

pub returns-then-is_empty : goal.returns-then-is_empty
returns-then-is_empty g c =
    let H = g.H.NodeHash.digest in
    let n : length c.args.subtrees.now ≡ 0 = eqb-true (length c.args.subtrees.now) 0 (sym c.is_empty.ensures ∙ c.if-is_empty.true) in
    c.no_leaves.ensures ∙ none H ∙ ap (root_of_peaks H) (sym (nil_from_length c.args.subtrees.now n))
