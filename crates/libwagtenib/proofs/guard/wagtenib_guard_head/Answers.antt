use Rattle.std.proofs.Common.{inr, subst, refl}
use Rattle.sha2.specs.Sha256.{sha256}
use Rattle.ct_tree.specs.declared.head.Head.{Head}
use Rattle.libwagtenib.specs.Guard.{MayNotFollow}
use Rattle.libwagtenib.proofs.guard.wagtenib_guard_head.Goals as goal

pub returns-in-Err : goal.returns-in-Err
returns-in-Err c =
    let stops = subst (λ (h : Head). MayNotFollow sha256 c.in-Some.last h c.args.proof.now c.args.max_ahead c.in-Err.code) c.head_of-head.ensures c.in-Err.ensures in
    inr (c.in-Some.last, c.in-Some.ensures, inr (stops, refl))
