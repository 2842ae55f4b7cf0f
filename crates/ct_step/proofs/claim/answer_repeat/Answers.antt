use Rattle.std.proofs.Common.{◌≡◌, ◌∙◌, ◌<◌, ◌^◌, ℕ, List, ap, subst, refl}
use Rattle.std.specs.Prelude.{Result, Ok, Err, IfErr}
use Rattle.ct_codec.specs.Submitted.{entry_of}
use Rattle.ct_codec.specs.declared.refusal.Refusal.TheVariants as Refusal
use Rattle.ct_codec.specs.Signed.{timestamp_text}
use Rattle.ct_tree.specs.Tree.{hash_leaf}
use Rattle.ct_verify.specs.Evidence.{IsAudited}
use Rattle.ct_verify.specs.Verdict.{AcceptsInclusion, RefusesInclusion}
use Rattle.ct_step.specs.Believed.{IsHeadOver}
use Rattle.ct_step.specs.Claims.{claimed_leaf}
use Rattle.ct_step.specs.declared.claim.ClaimFault.TheVariants.{Refused}
use Rattle.ct_step.proofs.Believing.{stands_there, never_refused}
use Rattle.ct_step.proofs.claim.answer_repeat.Goals as goal

each_err : {X E : Type 0} (P : E → Type 0) (r : Result X E) → ((e : E) → P e) → IfErr r P
each_err P (Ok x) f = tt
each_err P (Err e) f = f e

pub returns-in_err-verify_inclusion-clause-no_truth_refused : goal.returns-in_err-verify_inclusion-clause-no_truth_refused
returns-in_err-verify_inclusion-clause-no_truth_refused g c =
    let H = g.H.NodeHash.digest in
    let claim = c.args.claim in
    let head = c.args.head.now in
    let path = c.args.path.now in
    let leaf = claimed_leaf (entry_of c.args.submission.now) claim in
    let fault = c.in_err-verify_inclusion.field-0.0 in
    let hash : c.leaf_hash-hash.result ≡ hash_leaf H leaf =
    c.leaf_hash-hash.ensures ∙ ap (hash_leaf H) (c.deref.ensures.value ∙ c.in_ok-signed.ensures.text
    ∙ ap (timestamp_text claim.timestamp (entry_of c.args.submission.now)) c.index_extension-extension.ensures) in
    let refused : RefusesInclusion H (hash_leaf H leaf) claim.leaf_index head.tree_size path head.root fault =
    subst (λ (h : List ℕ). RefusesInclusion H h claim.leaf_index head.tree_size path head.root fault) hash c.in_err-verify_inclusion.ensures in
    each_err
    (λ f. (D : List (List ℕ)) → IsHeadOver H D head → claim.leaf_index < 2 ^ 40 → IsAudited H D leaf claim.leaf_index path → f ≡ Refused Refusal.Memory)
    c.from_residual-in_err-verify_inclusion.result
    (λ e D over small audited. absurd (never_refused H g.met.H.NodeHash.length_digest head D leaf claim.leaf_index path fault over audited refused))

pub returns-clause-no_lie : goal.returns-clause-no_lie
returns-clause-no_lie g c = λ D over.
    let H = g.H.NodeHash.digest in
    let claim = c.args.claim in
    let head = c.args.head.now in
    let signed = c.in_ok-signed.signed.items in
    stands_there H g.met.H.NodeHash.length_digest head D signed signed claim.leaf_index c.args.path.now over
    (subst (λ (h : List ℕ). AcceptsInclusion H h claim.leaf_index head.tree_size c.args.path.now head.root)
    (c.leaf_hash-hash.ensures ∙ ap (hash_leaf H) c.deref.ensures.value) c.in_ok-verify_inclusion.ensures) refl
