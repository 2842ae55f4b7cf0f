use Rattle.std.proofs.Common.{◌≡◌, ◌∙◌, ◌+◌, ◌<◌, ◌^◌, ◌++◌, ℕ, List, length, map, arith, sym, refl, ap, subst}
use Rattle.std.proofs.lemmas.List.{length-map, map-append, length-append}
use Rattle.ct_codec.specs.Submitted.{entry_of}
use Rattle.ct_tree.specs.Tree.{hash_leaf}
use Rattle.ct_tiles.specs.Tiles.{rows}
use Rattle.ct_tiles.specs.Edge.{IsEdge}
use Rattle.ct_step.specs.Leaves.{indexed_leaves, receipts_from, receipt_parts}
use Rattle.ct_step.specs.declared.receipts.Receipt.{Receipt}
use Rattle.ct_step.proofs.Steps.{length-indexed, signed_hashes}
use Rattle.ct_step.proofs.growth.grow.Goals as goal

pub returns-clause-grown : goal.returns-clause-grown
returns-clause-grown g c =
    let entries = map entry_of c.args.batch.now in
    record {
      first = c.size-first.ensures;
      receipts = c.in_ok-receipts.ensures.receipts ∙ ap (λ (n : ℕ). receipts_from c.args.now n entries) c.size-first.ensures;
      size = omega (arith, c.size-first.ensures, length-map c.args.batch.now entry_of);
      timestamp = refl;
      moment = refl;
    }

pub returns-clause-growth : goal.returns-clause-growth
returns-clause-growth g c = λ D s.
    let H = g.H.NodeHash.digest in
    let leaf = hash_leaf H in
    let now = c.args.now in
    let entries = map entry_of c.args.batch.now in
    let N = indexed_leaves now (length D) entries in
    let f : c.size-first.result ≡ length D = c.size-first.ensures ∙ s.size ∙ length-map D leaf in
    let l : map receipt_parts c.in_ok-receipts.receipts.items ≡ receipts_from now (length D) entries =
    c.in_ok-receipts.ensures.receipts ∙ ap (λ (n : ℕ). receipts_from now n entries) f in
    let h : c.deref-2.result.now ≡ map leaf N =
    c.deref-2.ensures.value ∙ c.in_ok-hashes.ensures ∙ ap (λ (x : List Receipt). map (λ r. hash_leaf H r.signed.items) x) c.deref.ensures.value
    ∙ signed_hashes H now (length D) entries c.in_ok-receipts.receipts.items l in
    let count : length N ≡ length c.args.batch.now = length-indexed now (length D) entries ∙ length-map c.args.batch.now entry_of in
    let few : length (map leaf D) + length c.deref-2.result.now < 2 ^ 64 =
    omega (arith, length-map D leaf, ap length h, length-map N leaf, count, f, c.if-first-limit.false, c.if-count-limit.false) in
    let all : map leaf D ++ c.deref-2.result.now ≡ map leaf (D ++ N) = ap (λ x. map leaf D ++ x) h ∙ sym (map-append leaf D N) in
    let edge : IsEdge H c.in_ok-advance.advance.edge (map leaf (D ++ N)) = subst (IsEdge H c.in_ok-advance.advance.edge) all (c.in_ok-advance.ensures.edge (map leaf D) s few) in
    let fits : length (map leaf (D ++ N)) < 2 ^ 64 = omega (arith, ap length (sym all), length-append (map leaf D) c.deref-2.result.now, few) in
    record {
      first = f;
      receipts = l;
      rows = c.in_ok-advance.ensures.rows (map leaf D) s ∙ ap (rows H 256 8 (map leaf D)) h;
      size = omega (arith, f, length-append D N, count);
      root = c.in_ok-root.ensures (map leaf (D ++ N)) edge fits;
      timestamp = refl;
      state = edge;
      moment = refl;
    }
