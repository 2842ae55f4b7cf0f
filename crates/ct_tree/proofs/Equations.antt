-- The equations of RFC 6962, section 2.1.
use Rattle.std.proofs.Common.{[], ◌∷◌, length, map, true, false, refl, sym, ◌∙◌, ap, arith, subst}
use Rattle.std.proofs.lemmas.List.{length-map, take-map, drop-map}
use Rattle.ct_tree.specs.Tree.{split, hash_leaf}
use Rattle.ct_tree.specs.Laws.{SplitIsLargestPowerBelow, MthOfNone, MthOfOne, MthOfMore, MthOfNoLeaves, MthOfOneLeaf, MthOfMoreLeaves, PathOfOne, PathInLeft}
use Rattle.ct_tree.specs.Laws.{PathInRight, ProofIsSubproof, SubproofOfKnown, SubproofOfUnknown, SubproofInLeft, SubproofInRight, PathHasLength}
use Rattle.ct_tree.specs.Laws.{SubproofHasLength}
use Rattle.ct_tree.proofs.Split.{IsSplit, split_is, split_unique}
use Rattle.ct_tree.proofs.Mth.{mth-nil, mth-one, mth-split_at}
use Rattle.ct_tree.proofs.Path.{path-small, path-left, path-right, length-path_at}
use Rattle.ct_tree.proofs.Subproof.{subproof-whole, subproof-left, subproof-right, length-subproof_at}

pub split_is_largest_power_below : SplitIsLargestPowerBelow
split_is_largest_power_below n k h = (
  (λ e. let s : IsSplit n k = subst (IsSplit n) (sym e) (split_is n h) in ((s.power.exponent, s.power.is), s.below, s.half)),
  (λ s. split_unique n k (split n) (record { power = record { exponent = s.0.0; is = s.0.1 }; below = s.1; half = s.2 }) (split_is n h)),
)

pub mth_of_none : MthOfNone
mth_of_none H = mth-nil H

pub mth_of_one : MthOfOne
mth_of_one H hash = mth-one H hash

pub mth_of_more : MthOfMore
mth_of_more H D k h e = mth-split_at H D k h (sym e)

pub mth_of_no_leaves : MthOfNoLeaves
mth_of_no_leaves H = mth-nil H

pub mth_of_one_leaf : MthOfOneLeaf
mth_of_one_leaf H leaf = mth-one H (hash_leaf H leaf)

pub mth_of_more_leaves : MthOfMoreLeaves
mth_of_more_leaves H leaves k h e =
    let f = hash_leaf H in
    let n = length-map leaves f in
    mth-split_at H (map f leaves) k (omega (arith, n)) (ap split n ∙ sym e)
    ∙ rw (take-map f k leaves, drop-map f k leaves) refl

pub path_of_one : PathOfOne
path_of_one H hash = path-small H 0 (hash ∷ []) (omega arith)

pub path_in_left : PathInLeft
path_in_left H m D k h e low = path-left H m k D h (sym e) low

pub path_in_right : PathInRight
path_in_right H m D k h e high = path-right H m k D h (sym e) high

pub proof_is_subproof : ProofIsSubproof
proof_is_subproof H m D z l = refl

pub subproof_of_known : SubproofOfKnown
subproof_of_known H m D z e = subproof-whole H m D true z e

pub subproof_of_unknown : SubproofOfUnknown
subproof_of_unknown H m D z e = subproof-whole H m D false z e

pub subproof_in_left : SubproofInLeft
subproof_in_left H m D b k z l e low = subproof-left H m k D b z l (sym e) low

pub subproof_in_right : SubproofInRight
subproof_in_right H m D b k l e high = subproof-right H m k D b (omega arith) l (sym e) high

pub path_has_length : PathHasLength
path_has_length H m D l = length-path_at H (length D) m D refl l

pub subproof_has_length : SubproofHasLength
subproof_has_length H m D b z l = length-subproof_at H (length D) m D b refl z l
