use Rattle.std.proofs.Common.{◌≡◌, ℕ, List, ap, subst, ◌∙◌}
use Rattle.sha2.specs.Sha256.{sha256}
use Rattle.ct_tree.specs.Tree.{hash_leaf}
use Rattle.ct_verify.specs.Verdict.{AcceptsInclusion, RefusesInclusion}
use Rattle.ct_promise.proofs.Promised.{kept_stands}
use Rattle.ct_promise.proofs.checking.check_promise.Goals as goal

pub returns-in-Ok-clause-stands : goal.returns-in-Ok-clause-stands
returns-in-Ok-clause-stands c =
    let leaf = c.in_ok-leaf.leaf.items in
    let h : c.leaf_hash-hash.result ≡ hash_leaf sha256 leaf = c.leaf_hash-hash.ensures ∙ ap (hash_leaf sha256) c.deref.ensures.value in
    let accepts = subst (λ (y : List ℕ). AcceptsInclusion sha256 y c.args.index c.args.size c.args.path.now c.args.root.now) h c.in-Ok.ensures in
    kept_stands c.args.certificate.now c.args.issuer.now c.args.timestamp c.args.extensions.now c.args.index c.args.size c.args.path.now c.args.root.now
    (leaf, c.in_ok-leaf.ensures.found, accepts)

pub returns-clause-checked : goal.returns-clause-checked
returns-clause-checked c =
    let leaf = c.in_ok-leaf.leaf.items in
    let h : c.leaf_hash-hash.result ≡ hash_leaf sha256 leaf = c.leaf_hash-hash.ensures ∙ ap (hash_leaf sha256) c.deref.ensures.value in (
      leaf,
      c.in_ok-leaf.ensures.found,
      subst (λ (y : List ℕ). RefusesInclusion sha256 y c.args.index c.args.size c.args.path.now c.args.root.now c.in-Err.fault) h c.in-Err.ensures,
    )
