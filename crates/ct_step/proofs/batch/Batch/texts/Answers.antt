use Rattle.std.proofs.Common.{◌≡◌, ◌∙◌, ◌+◌, ◌<◌, ℕ, List, length, map, get_or, arith, sym, ap}
use Rattle.std.proofs.lemmas.List.{length-map, take_all}
use Rattle.ct_codec.specs.Submitted.{Submitted}
use Rattle.ct_data_tiles.proofs.Rows.{text_in}
use Rattle.ct_step.proofs.Widths.{hashes_in}
use Rattle.ct_data_tiles.specs.TileLeaf.{tile_leaf_text}
use Rattle.ct_step.specs.Entries.{tiled_at, tiled_leaves, texts_of, AreShort}
use Rattle.ct_step.proofs.Batches.{Entry, counted, pairs-at, tiled-none, texts-step}
use Rattle.ct_step.proofs.Loops.{mapped-at}
use Rattle.ct_step.proofs.batch.Batch.texts.Goals as goal

pub loop-i-init : goal.loop-i-init
loop-i-init c = ap (map text_in) c.new-texts.ensures.items ∙ sym (tiled-none c.args.now c.args.first)

pub text_of-requires-clause-index : goal.text_of-requires-clause-index
text_of-requires-clause-index c =
    let S : List Submitted = c.self.inside.submissions.items in
    omega (
      arith,
      c.requires,
      c.loop-i-test.true,
      c.len-i-end.ensures,
      c.self.inside.submissions.ok.0,
      counted S (map hashes_in c.self.inside.chains.items) c.args.self.now c.self.view_is c.self.invariant.all,
    )

pub text_of-requires-clause-chain : goal.text_of-requires-clause-chain
text_of-requires-clause-chain c =
    let C = c.self.inside.chains.items in
    let here : c.loop-i.i < length C =
    omega (arith, c.loop-i-test.true, c.len-i-end.ensures, c.self.inside.submissions.ok.0, c.self.invariant.all, length-map C hashes_in) in
    omega (
      arith,
      ap length c.deref.ensures.value,
      mapped-at hashes_in AreShort C c.loop-i.i c.index-in-loop-i.result.now c.self.invariant.short here c.index-in-loop-i.ensures,
    )

pub loop-i-preserved : goal.loop-i-preserved
loop-i-preserved c =
    let S : List Submitted = c.self.inside.submissions.items in
    let C = c.self.inside.chains.items in
    let i = c.loop-i.i in
    let s : Submitted = c.index.result.now in
    let q = c.index-in-loop-i.result.now in
    let e : Entry = (s, hashes_in q) in
    let inside : i < length S = omega (arith, c.loop-i-test.true, c.len-i-end.ensures, c.self.inside.submissions.ok.0) in
    let at : e ≡ get_or c.args.self.now i e =
    pairs-at S C i s q inside c.self.invariant.all c.index.ensures c.index-in-loop-i.ensures
    ∙ ap (λ (v : List Entry). get_or v i e) c.self.view_is in
    texts-step c.args.now c.args.first i c.args.self.now e c.loop-i.texts.items c.push.new.self.items c.in_ok-text.text
    (omega (arith, inside, counted S (map hashes_in C) c.args.self.now c.self.view_is c.self.invariant.all)) at
    (c.in_ok-text.ensures.text ∙ ap (λ (x : List (List ℕ)). tile_leaf_text (tiled_at c.args.now (s, x) (c.args.first + i))) c.deref.ensures.value)
    c.in_ok-push.ensures.items c.loop-i.invariant

pub returns : goal.returns
returns c =
    let S : List Submitted = c.self.inside.submissions.items in
    record {
      texts = c.loop-i.invariant
          ∙ ap (λ (v : List Entry). texts_of (tiled_leaves c.args.now c.args.first v))
          (take_all c.loop-i.i c.args.self.now
          (omega (
            arith,
            c.loop-i-test.false,
            c.len-i-end.ensures,
            c.self.inside.submissions.ok.0,
            counted S (map hashes_in c.self.inside.chains.items) c.args.self.now c.self.view_is c.self.invariant.all,
          )));
      memory = tt;
    }
