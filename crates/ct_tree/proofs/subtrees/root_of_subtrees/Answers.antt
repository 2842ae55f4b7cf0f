use Rattle.std.proofs.Common.{◌≡◌, length, sym, ◌∙◌, ap}
use Rattle.std.proofs.lemmas.Bool.{eqb-true}
use Rattle.ct_tree.proofs.Mth.{mth-nil}
use Rattle.ct_tree.proofs.Peaks.{root_of_peaks-peaks, peaks-some}
use Rattle.ct_tree.specs.Tree.{mth}
use Rattle.ct_tree.specs.Peaks.{root_of_peaks}
use Rattle.ct_tree.proofs.subtrees.root_of_subtrees.Goals as goal

pub returns-then-is_empty : goal.returns-then-is_empty
returns-then-is_empty g c D e =
    let H = g.H.NodeHash.digest in
    let n : length c.args.subtrees.now ≡ 0 = eqb-true (length c.args.subtrees.now) 0 (sym c.is_empty.ensures ∙ c.if-is_empty.true) in
    c.empty_root.ensures ∙ sym (mth-nil H) ∙ ap (mth H) (sym (peaks-some H D (ap length (sym e) ∙ n)))

pub returns-else-is_empty : goal.returns-else-is_empty
returns-else-is_empty g c D e =
    let H = g.H.NodeHash.digest in
    c.joined.ensures ∙ ap (root_of_peaks H) e ∙ root_of_peaks-peaks H D
