-- The laws of `rebuild` and `both_roots`.
use Rattle.std.proofs.Common.{refl, sym, arith, length, true}
use Rattle.ct_verify.proofs.Options.{held}
use Rattle.ct_verify.proofs.Rebuild.{rebuild-one}
use Rattle.ct_verify.proofs.RebuildLaws.{rebuild-left, rebuild-right, both_left, both_right, both_whole_known, both_whole_given, path_rebuilds_at}
use Rattle.ct_verify.proofs.RebuildLaws.{proof_rebuilds_at}
use Rattle.ct_verify.proofs.Defined.{defined_length, path_long_enough, both_defined_length, proof_long_enough, accepted_not_refused, accepted_proof_not_refused}
use Rattle.ct_verify.specs.Rebuild.{rebuild, both_roots}
use Rattle.ct_verify.specs.Laws.{RebuildOfOne, RebuildInLeft, RebuildInRight, RebuildDefined, BothOfKnown, BothOfUnknown, BothInLeft, BothInRight, BothDefined}
use Rattle.ct_verify.specs.Laws.{PathRebuilds, PathAccepted, PathNotRefused, PathOneRefusal, ProofRebuilds, ProofAccepted, ProofNotRefused, ProofOneRefusal}
use Rattle.ct_verify.proofs.OneRefusal.{one_path_refusal, one_proof_refusal}

pub rebuild_of_one : RebuildOfOne
rebuild_of_one H m h = rebuild-one H m h

pub rebuild_in_left : RebuildInLeft
rebuild_in_left H m n k h s q l e low = rebuild-left H m n k h s q l (sym e) low

pub rebuild_in_right : RebuildInRight
rebuild_in_right H m n k h s q l e high = rebuild-right H m n k h s q l (sym e) high

pub rebuild_defined : RebuildDefined
rebuild_defined H m n h p l = (
  λ s. let x = held (rebuild H m n h p) s in defined_length H m n h x.0 p l x.1,
  λ e. path_long_enough H m n h p l e,
)

pub both_of_known : BothOfKnown
both_of_known H n r = both_whole_known H n r

pub both_of_unknown : BothOfUnknown
both_of_unknown H n r c = both_whole_given H n r c

pub both_in_left : BothInLeft
both_in_left H m n k b r s q l e low = both_left H m n k b r s q l (sym e) low

pub both_in_right : BothInRight
both_in_right H m n k b r s q l e high = both_right H m n k b r r s q l (sym e) high

pub both_defined : BothDefined
both_defined H m n b r p z w = (
  λ s. let x = held (both_roots H m n b r p) s in both_defined_length H m n b r p x.0 z w x.1,
  λ e. proof_long_enough H m n b r p z w e,
)

pub path_rebuilds : PathRebuilds
path_rebuilds H m D l = path_rebuilds_at H (length D) m D refl l

pub path_accepted : PathAccepted
path_accepted H m D l = (l, path_rebuilds H m D l)

pub path_not_refused : PathNotRefused
path_not_refused H h m n p root fault a r = accepted_not_refused H h m n p root fault a r

pub path_one_refusal : PathOneRefusal
path_one_refusal H h m n p root one other r s = one_path_refusal H h m n p root one other r s

pub proof_rebuilds : ProofRebuilds
proof_rebuilds H m D z l = proof_rebuilds_at H (length D) m D true refl z (omega arith)

pub proof_accepted : ProofAccepted
proof_accepted H m D z l = (z, l, proof_rebuilds H m D z l)

pub proof_not_refused : ProofNotRefused
proof_not_refused H m n x y p fault a r = accepted_proof_not_refused H m n x y p fault a r

pub proof_one_refusal : ProofOneRefusal
proof_one_refusal H m n x y p one other r s = one_proof_refusal H m n x y p one other r s
