-- The laws of subtrees and of their proofs.
use Rattle.std.proofs.Common.{◌-◌, ◌*◌, ◌^◌, ◌<◌, ◌≤◌, refl, sym, ◌∙◌, ap, arith, subst, ⊎_elim, length, true, false}
use Rattle.std.proofs.Math.Nat.{mul_assoc}
use Rattle.std.proofs.lemmas.Bool.{cases_lt}
use Rattle.ct_tree.proofs.Split.{IsPower, split_is, split_pos, split_lt, split_half}
use Rattle.ct_verify.proofs.Options.{held}
use Rattle.ct_subtrees.specs.Roots.{subtree_roots}
use Rattle.ct_subtrees.specs.Laws.{SubtreeIsMultiple, SubtreeOfBothParts, SubtreeOfRightPart, FirstLeavesAreSubtree, LeafIsSubtree}
use Rattle.ct_subtrees.specs.Laws.{SubtreeSubproofOfKnown, SubtreeSubproofOfUnknown, SubtreeSubproofInLeft, SubtreeSubproofInRight, SubtreeSubproofInBoth, SubtreeSubproofHasLength}
use Rattle.ct_subtrees.specs.Laws.{ProofOfFirstLeaves, ProofOfOneLeaf, RootsOfFirstLeaves, RootsOfOneLeaf}
use Rattle.ct_subtrees.specs.Laws.{RootsOfKnown, RootsOfUnknown, RootsInLeft, RootsInRight, RootsInBoth, RootsDefined}
use Rattle.ct_subtrees.specs.Laws.{SubtreeProofRebuilds, SubtreeProofAccepted, SubtreeProofNotRefused, SubtreeProofOneRefusal}
use Rattle.ct_subtrees.specs.Laws.{SubtreePathEvaluates, SubtreePathNotRefused, SubtreePathOneRefusal}
use Rattle.ct_subtrees.proofs.Whole.{whole_is, part_starts, part_ends, subtree_right, subtree_both, subtree_first, lower_power}
use Rattle.ct_subtrees.proofs.Down.{roots-known, roots-given, roots-left, roots-right, roots-both}
use Rattle.ct_subtrees.proofs.Subproof.{subtree-whole, subtree-left, subtree-right, subtree-both, length-subtree}
use Rattle.ct_subtrees.proofs.Defined.{rebuilt_length, long_enough}
use Rattle.ct_subtrees.proofs.Rebuilds.{rebuilds, path_evaluates}
use Rattle.ct_subtrees.proofs.Special.{first_roots, leaf_roots, first_proof, leaf_proof}
use Rattle.ct_subtrees.proofs.OneRefusal.{accepted_not_refused, evaluated_not_refused, one_proof_refusal, one_path_refusal}

pub subtree_is_multiple : SubtreeIsMultiple
subtree_is_multiple s e j l (enough, smallest) = (
  λ (_, (i, q, is, end)).
      let below : j ≤ i = ⊎_elim
      (λ (less : i < j). absurd (omega (arith, end, smallest i less)))
      (λ (le : j ≤ i). le)
      (cases_lt i j) in
      (q * 2 ^ (i - j), is ∙ ap (λ v. q * v) (lower_power i j (2 ^ i) refl below) ∙ sym (mul_assoc q (2 ^ (i - j)) (2 ^ j))),
  λ (q, is). (l, (j, q, is, omega (arith, enough))),
)

pub subtree_of_both_parts : SubtreeOfBothParts
subtree_of_both_parts s e n k t m f before over = subtree_both s e k t (subst IsPower (sym f) (split_is n m).power) before over

pub subtree_of_right_part : SubtreeOfRightPart
subtree_of_right_part s e n k t i m f high =
    subtree_right s e k t (subst IsPower (sym f) (split_is n m).power) high (omega (arith, t.0, split_half n m, f))

pub first_leaves_are_subtree : FirstLeavesAreSubtree
first_leaves_are_subtree e l = subtree_first e l

pub leaf_is_subtree : LeafIsSubtree
leaf_is_subtree i = (omega arith, (0, i, omega arith, omega arith))

pub subproof_of_known : SubtreeSubproofOfKnown
subproof_of_known H D l = subtree-whole H 0 (length D) D true l refl refl

pub subproof_of_unknown : SubtreeSubproofOfUnknown
subproof_of_unknown H D l = subtree-whole H 0 (length D) D false l refl refl

pub subproof_in_left : SubtreeSubproofInLeft
subproof_in_left H s e D b k l m f low =
    let less : e < length D = omega (arith, split_lt (length D) m, f) in
    subtree-left H s e k D b l (omega arith) m (part_ends s e (length D) less) (sym f) low

pub subproof_in_right : SubtreeSubproofInRight
subproof_in_right H s e D b k l i m f high =
    let some : 0 < s = omega (arith, split_pos (length D) m, f) in
    subtree-right H s e k D b l i m (part_starts s e (length D) some) (sym f) high

pub subproof_in_both : SubtreeSubproofInBoth
subproof_in_both H e D b k less m f over =
    let some : 0 < k = omega (arith, split_pos (length D) m, f) in
    subtree-both H 0 e k D b (omega arith) (omega arith) m (part_ends 0 e (length D) less) (sym f) some over

pub subproof_has_length : SubtreeSubproofHasLength
subproof_has_length H s e D b l i = length-subtree H (length D) s e D b refl l i

pub proof_of_first_leaves : ProofOfFirstLeaves
proof_of_first_leaves H m D l less = first_proof H (length D) m D true refl l (omega arith)

pub proof_of_one_leaf : ProofOfOneLeaf
proof_of_one_leaf H i D l = leaf_proof H (length D) i D refl l

pub roots_of_first_leaves : RootsOfFirstLeaves
roots_of_first_leaves H m n x p l i = first_roots H m n x p l i

pub roots_of_one_leaf : RootsOfOneLeaf
roots_of_one_leaf H i n h p l = leaf_roots H i n h p l

pub roots_of_known : RootsOfKnown
roots_of_known H n r l = roots-known H 0 n n r (whole_is 0 n n refl (omega arith))

pub roots_of_unknown : RootsOfUnknown
roots_of_unknown H n r c l = roots-given H 0 n n r c (whole_is 0 n n refl (omega arith))

pub roots_in_left : RootsInLeft
roots_in_left H s e n k b r c q l m f low =
    let less : e < n = omega (arith, split_lt n m, f) in
    roots-left H s e n k b r c q (part_ends s e n less) (sym f) low

pub roots_in_right : RootsInRight
roots_in_right H s e n k b r c q l i m f high =
    let some : 0 < s = omega (arith, split_pos n m, f) in
    roots-right H s e n k b r c q (part_starts s e n some) (sym f) high l

pub roots_in_both : RootsInBoth
roots_in_both H e n k b r c q less m f over =
    let some : 0 < k = omega (arith, split_pos n m, f) in
    roots-both H 0 e n k b r c q (part_ends 0 e n less) (sym f) some over

pub roots_defined : RootsDefined
roots_defined H s e n b r p l i = (
  λ t. let x = held (subtree_roots H s e n b r p) t in rebuilt_length H s e n b r p x.0 l i x.1,
  λ f. long_enough H s e n b r p l i f,
)

pub subtree_proof_rebuilds : SubtreeProofRebuilds
subtree_proof_rebuilds H s e D t = rebuilds H (length D) s e D true refl t.0 t.1

pub subtree_proof_accepted : SubtreeProofAccepted
subtree_proof_accepted H s e D t = (t, subtree_proof_rebuilds H s e D t)

pub subtree_proof_not_refused : SubtreeProofNotRefused
subtree_proof_not_refused H s e n x y p fault a r = accepted_not_refused H s e n x y p fault a r

pub subtree_proof_one_refusal : SubtreeProofOneRefusal
subtree_proof_one_refusal H s e n x y p one other r t = one_proof_refusal H s e n x y p one other r t

pub subtree_path_evaluates : SubtreePathEvaluates
subtree_path_evaluates H i s e D w l = (w, path_evaluates H i s e D w.1 w.2 l)

pub subtree_path_not_refused : SubtreePathNotRefused
subtree_path_not_refused H i s e h p x fault a r = evaluated_not_refused H i s e h p x fault a r

pub subtree_path_one_refusal : SubtreePathOneRefusal
subtree_path_one_refusal i s e p one other r t = one_path_refusal i s e p one other r t
