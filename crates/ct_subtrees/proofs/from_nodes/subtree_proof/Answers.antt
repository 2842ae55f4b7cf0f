use Rattle.std.proofs.Common.{◌-◌, sym, ◌∙◌, ap, drop, inl, inr}
use Rattle.ct_tree.specs.Lengths.{path_length}
use Rattle.ct_subtrees.proofs.Made.{proof-of_end, proof-above}
use Rattle.ct_subtrees.proofs.from_nodes.subtree_proof.Goals as goal

pub returns-in_ok-proof : goal.returns-in_ok-proof
returns-in_ok-proof g c = λ D s f.
    let a = c.args in
    let is = sym c.is_proof_of_end.ensures ∙ c.if-is_proof_of_end.true in
    c.in_ok-proof.ensures.hashes D (λ level i r. s level i (inl (is, r))) f
    ∙ sym (proof-of_end g.H.NodeHash.digest a.start a.end a.n D c.requires.subtree f is)

pub returns-in_ok-rest : goal.returns-in_ok-rest
returns-in_ok-rest g c = λ D s f.
    let a = c.args in
    let is = sym c.is_proof_of_end.ensures ∙ c.if-is_proof_of_end.false in
    c.in_ok-rest.ensures
    ∙ ap (drop (path_length 0 (a.end - a.start))) (c.deref.ensures.value ∙ c.in_ok-path.ensures.hashes D (λ level i r. s level i (inr (is, r))) f)
    ∙ proof-above g.H.NodeHash.digest a.start a.end a.n D c.requires.subtree c.requires.below f is
