use Rattle.std.proofs.Common.{inl, refl, subst, Some}
use Rattle.sha2.specs.Sha256.{sha256}
use Rattle.ct_guard.specs.Guarded.{PassesHead}
use Rattle.ct_tree.specs.declared.head.Head.{Head}
use Rattle.libwagtenib.specs.Guard.{head_of_c}
use Rattle.libwagtenib.proofs.GuardLaws.{hashes_by_type}
use Rattle.libwagtenib.proofs.guard.wagtenib_node_accept.Goals as goal

pub returns-in-Ok : goal.returns-in-Ok
returns-in-Ok c =
    let p = c.args.proof.now in
    let after = subst (λ (h : Head). PassesHead sha256 (Some h) c.head_of-2.result p) c.head_of.ensures c.in-Ok.ensures.passes in
    inl (refl, subst (λ (h : Head). PassesHead sha256 (Some (head_of_c c.args.accepted.now)) h p) c.head_of-2.ensures after, hashes_by_type p c.told-proof)
