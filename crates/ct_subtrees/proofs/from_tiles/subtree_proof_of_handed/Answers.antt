use Rattle.std.proofs.Common.{◌-◌, sym, ◌∙◌, ap, subst, drop}
use Rattle.std.proofs.lemmas.Bool.{cond-true, cond-false}
use Rattle.ct_tree.specs.Lengths.{path_length}
use Rattle.ct_tiles.specs.Handed.{contents_in, AreTilesOf}
use Rattle.ct_tiles.specs.Needed.{path_tiles, proof_tiles}
use Rattle.ct_subtrees.specs.Made.{is_proof_of_end}
use Rattle.ct_subtrees.proofs.Made.{proof-of_end, proof-above}
use Rattle.ct_subtrees.proofs.from_tiles.subtree_proof_of_handed.Goals as goal

pub returns-in-Ok-clause-proof : goal.returns-in-Ok-clause-proof
returns-in-Ok-clause-proof g c = λ D t f.
    let a = c.args in
    let H = g.H.NodeHash.digest in
    let is = sym c.is_proof_of_end.ensures ∙ c.if-is_proof_of_end.true in
    let own = cond-true (is_proof_of_end a.start a.end a.n) (proof_tiles a.end a.n) (path_tiles a.start a.n) is in
    c.in-Ok.ensures.proof D (subst (λ tiles. AreTilesOf H D tiles (contents_in a.contents.now)) own t) f
    ∙ sym (proof-of_end H a.start a.end a.n D c.requires.subtree f is)

pub returns-in_ok-rest-in-Ok-path_of_handed-clause-proof : goal.returns-in_ok-rest-in-Ok-path_of_handed-clause-proof
returns-in_ok-rest-in-Ok-path_of_handed-clause-proof g c = λ D t f.
    let a = c.args in
    let H = g.H.NodeHash.digest in
    let is = sym c.is_proof_of_end.ensures ∙ c.if-is_proof_of_end.false in
    let own = cond-false (is_proof_of_end a.start a.end a.n) (proof_tiles a.end a.n) (path_tiles a.start a.n) is in
    c.in_ok-rest-in-Ok-path_of_handed.ensures
    ∙ ap (drop (path_length 0 (a.end - a.start))) (c.deref.ensures.value
    ∙ c.in-Ok-path_of_handed.ensures.path D (subst (λ tiles. AreTilesOf H D tiles (contents_in a.contents.now)) own t) f)
    ∙ proof-above H a.start a.end a.n D c.requires.subtree c.requires.below f is
