use Rattle.std.proofs.Common.{◌≡◌, ℕ, List, [], ◌+◌, ◌-◌, ◌*◌, ◌/◌, ◌^◌, ◌<◌, ◌≤◌, length, get_or, refl, subst, sym, ◌∙◌, arith, ⊎_elim}
use Rattle.std.proofs.lemmas.Bool.{cases_lt}
use Rattle.std.proofs.lemmas.List.{get_or_read}
use Rattle.ct_tree.proofs.Raised.{subtree-zero}
use Rattle.ct_tree.proofs.Stored.{next_end, left_end, stored_of, joined_pair, stores_put, whole_end}
use Rattle.ct_tree.specs.Levels.{subtree}
use Rattle.ct_tree.proofs.levels.complete.Goals as goal

pub loop-index-init : goal.loop-index-init
loop-index-init g c =
    let H = g.H.NodeHash.digest in
    let D = c.args.leaves.now in
    let i = c.len-index.result - 1 in
    record {
      stores = c.requires;
      end = omega (arith, c.len-index.ensures, c.len.ensures, c.if-len-eq0.false);
      node = get_or_read D i c.at.result.now (omega (arith, c.len-index.ensures, c.len.ensures, c.if-len-eq0.false)) c.at.ensures []
          ∙ sym (subtree-zero H 0 i D refl);
      whole = λ j h. absurd (omega (arith, h));
    }

pub loop-index-preserved : goal.loop-index-preserved
loop-index-preserved g c =
    let H = g.H.NodeHash.digest in
    let D = c.args.leaves.now in
    let j = c.loop-index.level in
    let k = c.loop-index.index in
    let old = c.loop-index.above.items in
    let lists = c.put.new.above.items in
    let i = c.loop-index.invariant in
    let odd = c.loop-index-test.true in
    let up = next_end j k (length D) i.end odd in
    let left : c.stored-left.result ≡ subtree H j (k - 1) D =
    stored_of H c.deref.result.now old D j (k - 1) c.stored-left.result c.deref.ensures.value i.stores (left_end j k (length D) i.end odd)
    c.stored-left.ensures.leaf c.stored-left.ensures.inner in
    let node : c.node_hash-node.result ≡ subtree H (j + 1) (k / 2) D =
    joined_pair H j k D c.stored-left.result c.loop-index.node c.node_hash-node.result odd left i.node c.node_hash-node.ensures in
    let r = stores_put H lists old D j (k / 2) c.node_hash-node.result i.stores up node c.in_ok-put.ensures.others c.in_ok-put.ensures.added
    c.in_ok-put.ensures.there in
    record {
      stores = r.0;
      end = up;
      node = node;
      whole = λ l h. ⊎_elim
          (λ (b : l < j).
          subst (λ (q : List (List ℕ)). length D < (length q + 1) * 2 ^ (l + 1)) (sym (c.in_ok-put.ensures.others l (λ o. omega (arith, o, b)))) (i.whole l b))
          (λ (b : j ≤ l).
          let o : j ≡ l = omega (arith, b, h) in
          subst (λ (u : ℕ). length D < (length (get_or lists u []) + 1) * 2 ^ (u + 1)) o r.1)
          (cases_lt l j);
    }

pub returns-clause-whole : goal.returns-clause-whole
returns-clause-whole g c =
    let i = c.loop-index.invariant in
    whole_end g.H.NodeHash.digest c.loop-index.above.items c.args.leaves.now c.loop-index.level c.loop-index.index
    i.stores i.whole i.end (omega (arith, c.loop-index-test.false))
