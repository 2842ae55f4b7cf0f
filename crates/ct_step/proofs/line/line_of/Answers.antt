use Rattle.std.proofs.Common.{◌∙◌, All, arith}
use Rattle.std.proofs.lemmas.List.Elements.{All-from_get_or}
use Rattle.ct_step.proofs.StateLines.{whole, small, chunk}
use Rattle.ct_step.proofs.line.line_of.Goals as goal

pub returns-clause-fields : goal.returns-clause-fields
returns-clause-fields c =
    let a = c.in_ok-tree_size.ensures.cases in
    let t = c.in_ok-timestamp.ensures.cases in
    let r = c.in_ok-root.ensures.cases in
    let b = c.in_ok-bundle.ensures.cases in
    let d = c.in_ok-data_tile.ensures.cases in
    let p = c.in_ok-before.ensures.cases in
    whole c.args.bytes.now _ c.in_ok-tree_size.rest.now _ c.in_ok-timestamp.rest.now c.in_ok-root.root.now c.in_ok-root.rest.now
    c.in_ok-bundle.bundle.now c.in_ok-bundle.rest.now c.in_ok-data_tile.data_tile.now c.in_ok-data_tile.rest.now c.in_ok-before.before.now
    c.requires (c.number_of_8.ensures ∙ a.0) a.1 (c.number_of_8-2.ensures ∙ t.0) t.1 r.0 r.1 b.0 b.1 d.0 d.1 p.0

pub returns-clause-fits : goal.returns-clause-fits
returns-clause-fits c =
    let a = c.in_ok-tree_size.ensures.cases in
    let t = c.in_ok-timestamp.ensures.cases in
    let r = c.in_ok-root.ensures.cases in
    let b = c.in_ok-bundle.ensures.cases in
    let d = c.in_ok-data_tile.ensures.cases in
    let p = c.in_ok-before.ensures.cases in
    let all : All small c.args.bytes.now = All-from_get_or small c.args.bytes.now 0 (λ i within. omega (arith, c.type_inv.bytes i)) in
    let of_size = chunk 8 _ c.in_ok-tree_size.rest.now c.args.bytes.now a.0 a.1 a.2 all in
    let of_moment = chunk 8 _ c.in_ok-timestamp.rest.now c.in_ok-tree_size.rest.now t.0 t.1 t.2 of_size.1 in
    let of_root = chunk 32 c.in_ok-root.root.now c.in_ok-root.rest.now c.in_ok-timestamp.rest.now r.0 r.1 r.2 of_moment.1 in
    let of_bundle = chunk 32 c.in_ok-bundle.bundle.now c.in_ok-bundle.rest.now c.in_ok-root.rest.now b.0 b.1 b.2 of_root.1 in
    let of_tile = chunk 32 c.in_ok-data_tile.data_tile.now c.in_ok-data_tile.rest.now c.in_ok-bundle.rest.now d.0 d.1 d.2 of_bundle.1 in
    let of_before = chunk 32 c.in_ok-before.before.now _ c.in_ok-data_tile.rest.now p.0 p.1 p.2 of_tile.1 in
    record {
      size = c.number_of_8.type_inv;
      moment = c.number_of_8-2.type_inv;
      root = of_root.0;
      bundle = of_bundle.0;
      data_tile = of_tile.0;
      before = of_before.0;
    }
