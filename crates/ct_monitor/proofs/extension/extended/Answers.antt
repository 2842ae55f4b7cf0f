use Rattle.std.proofs.Common.{◌∙◌, Vec, ℕ, List, ◌++◌, map, arith, sym}
use Rattle.std.proofs.lemmas.Bool.{both_ways}
use Rattle.std.proofs.lemmas.List.{length-map, map-append}
use Rattle.ct_tree.specs.Tree.{hash_leaf}
use Rattle.ct_monitor.proofs.extension.extended.Goals as goal

abbrev bytes : {A : Type 0} → Vec ℕ A → List ℕ
bytes l = l.items

pub returns-then-is_same_digest-clause-stands : goal.returns-then-is_same_digest-clause-stands
returns-then-is_same_digest-clause-stands g c D few d =
    let f = hash_leaf g.H.NodeHash.digest in
    rw (map-append f D (map bytes c.args.leaves.now))
    (c.in_ok-push_leaves.ensures (map f D) (omega (arith, few, length-map D f)) (rw c.in_ok-longer.ensures d))

pub returns-then-is_same_digest-clause-root : goal.returns-then-is_same_digest-clause-root
returns-then-is_same_digest-clause-root g c D few d =
    let f = hash_leaf g.H.NodeHash.digest in
    let E = map bytes c.args.leaves.now in
    sym (c.is_same_digest.ensures.0 c.if-is_same_digest.true)
    ∙ c.root-computed.ensures (map f (D ++ E)) (rw (map-append f D E)
    (c.in_ok-push_leaves.ensures (map f D) (omega (arith, few, length-map D f)) (rw c.in_ok-longer.ensures d)))

pub returns-else-is_same_digest-clause-no_root : goal.returns-else-is_same_digest-clause-no_root
returns-else-is_same_digest-clause-no_root g c D few d e =
    let f = hash_leaf g.H.NodeHash.digest in
    let E = map bytes c.args.leaves.now in
    both_ways c.is_same_digest.result c.if-is_same_digest.false
    (c.is_same_digest.ensures.1 (c.root-computed.ensures (map f (D ++ E)) (rw (map-append f D E)
    (c.in_ok-push_leaves.ensures (map f D) (omega (arith, few, length-map D f)) (rw c.in_ok-longer.ensures d))) ∙ sym e))
