use Rattle.std.proofs.Common.{Vec, Global, ℕ, List, map, true, subst, refl, Some, None}
use Rattle.std.proofs.lemmas.Bool.{both_ways}
use Rattle.ct_verify.proofs.Extending.{answered, accepted_for, refused_for, clash_found}
use Rattle.ct_tree.specs.Tree.{mth_of_leaves}
use Rattle.ct_verify.proofs.Clashes.{along_begins}
use Rattle.ct_verify.specs.Search.{clash_strings, found_strings}
use Rattle.ct_verify.specs.Clash.{ClashAlong}
use Rattle.ct_verify.specs.ConsistencyEvidence.{ConsistencyEvidence, ConsistencyFault}
use Rattle.ct_verify.specs.declared.evidence.EvidenceFault.TheVariants.{ProofRefused, Memory}
use Rattle.ct_verify.proofs.consistency_evidence.evidence_for.Goals as goal

abbrev bytes : Vec ℕ Global → List ℕ
bytes l = l.items

pub returns-in_err-verify_consistency : goal.returns-in_err-verify_consistency
returns-in_err-verify_consistency g c =
    let H = g.H.NodeHash.digest in
    let E = map bytes c.args.old.now in
    let D = map bytes c.args.new.now in
    answered c.from_residual.result (ConsistencyEvidence H E D c.args.path.now) (ConsistencyFault H E D c.args.path.now)
    (ProofRefused c.in_err-verify_consistency.field-0.0)
    c.from_residual.ensures.0 c.from_residual.ensures.1
    (refused_for H bytes c.args.old.now c.args.new.now c.root_of_leaves-old_root.result c.root_of_leaves-new_root.result c.args.path.now
    c.in_err-verify_consistency.field-0.0
    c.root_of_leaves-old_root.ensures c.root_of_leaves-new_root.ensures c.in_err-verify_consistency.ensures)

pub returns-then-begins : goal.returns-then-begins
returns-then-begins g c = (
  accepted_for g.H.NodeHash.digest bytes c.args.old.now c.args.new.now c.root_of_leaves-old_root.result c.root_of_leaves-new_root.result c.args.path.now
      c.root_of_leaves-old_root.ensures c.root_of_leaves-new_root.ensures c.in_ok-verify_consistency.ensures,
  c.begins.ensures.0 c.if-begins.true,
)

pub returns-in_err-collision-in-Some : goal.returns-in_err-collision-in-Some
returns-in_err-collision-in-Some g c =
    let H = g.H.NodeHash.digest in
    let E = map bytes c.args.old.now in
    let D = map bytes c.args.new.now in
    answered c.from_residual-in_err-collision-in-Some.result (ConsistencyEvidence H E D c.args.path.now) (ConsistencyFault H E D c.args.path.now) Memory
    c.from_residual-in_err-collision-in-Some.ensures.0 c.from_residual-in_err-collision-in-Some.ensures.1 (
      accepted_for H bytes c.args.old.now c.args.new.now c.root_of_leaves-old_root.result c.root_of_leaves-new_root.result c.args.path.now
          c.root_of_leaves-old_root.ensures c.root_of_leaves-new_root.ensures c.in_ok-verify_consistency.ensures,
      λ b. both_ways c.begins.result c.if-begins.false (c.begins.ensures.1 b),
    )

pub returns-in_ok-collision-in-Some : goal.returns-in_ok-collision-in-Some
returns-in_ok-collision-in-Some g c =
    let H = g.H.NodeHash.digest in
    let E = map bytes c.args.old.now in
    let D = map bytes c.args.new.now in
    let a = c.in_ok-verify_consistency.ensures in
    let old = c.root_of_leaves-old_root.ensures in
    let w : ClashAlong H true c.root_of_leaves-old_root.result E D c.args.path.now (Some (clash_strings c.in-Some.clash)) =
    subst (λ o. ClashAlong H true c.root_of_leaves-old_root.result E D c.args.path.now (found_strings o)) c.in-Some.is
    (c.walk.ensures.found c.root_of_leaves-old_root.result c.root_of_leaves-new_root.result a.2) in
    clash_found H E D c.args.path.now (clash_strings c.in-Some.clash) c.in_ok-collision-in-Some.field-0
    (accepted_for H bytes c.args.old.now c.args.new.now c.root_of_leaves-old_root.result c.root_of_leaves-new_root.result c.args.path.now
    old c.root_of_leaves-new_root.ensures a)
    (λ b. both_ways c.begins.result c.if-begins.false (c.begins.ensures.1 b)) (rw old at w) c.in_ok-collision-in-Some.ensures

pub returns-in-None : goal.returns-in-None
returns-in-None g c =
    let H = g.H.NodeHash.digest in
    let E = map bytes c.args.old.now in
    let D = map bytes c.args.new.now in
    let a = c.in_ok-verify_consistency.ensures in
    let old = c.root_of_leaves-old_root.ensures in
    let new = c.root_of_leaves-new_root.ensures in
    let accepted = accepted_for H bytes c.args.old.now c.args.new.now c.root_of_leaves-old_root.result c.root_of_leaves-new_root.result
    c.args.path.now old new a in
    let w : ClashAlong H true c.root_of_leaves-old_root.result E D c.args.path.now None =
    subst (λ o. ClashAlong H true c.root_of_leaves-old_root.result E D c.args.path.now (found_strings o)) c.in-None.is
    (c.walk.ensures.found c.root_of_leaves-old_root.result c.root_of_leaves-new_root.result a.2) in
    (accepted, along_begins H g.met.H.NodeHash.length_digest true (mth_of_leaves H E) E D c.args.path.now None accepted.0 (rw old at w) refl accepted.2)
