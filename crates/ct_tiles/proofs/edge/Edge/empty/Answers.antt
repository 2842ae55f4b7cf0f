use Rattle.std.proofs.Common.{◌≡◌, ◌∙◌, ◌+◌, ℕ, List, [], length, map, Vec, Global, arith, sym, refl, ap}
use Rattle.std.proofs.lemmas.List.{length_push}
use Rattle.ct_tiles.specs.Tiles.{edge}
use Rattle.ct_tiles.proofs.Chunks.{edge-zero}
use Rattle.ct_tiles.proofs.Steps.{none_more}
use Rattle.ct_tiles.proofs.edge.Edge.empty.Goals as goal

abbrev bytes : Vec (List ℕ) Global → List (List ℕ)
bytes t = t.items

pub loop-level-init : goal.loop-level-init
loop-level-init c = record {
  tiles = λ H. ap (map bytes) c.new-tiles.ensures.items ∙ sym (edge-zero H []);
  count = ap length c.new-tiles.ensures.items;
}

pub loop-level-preserved : goal.loop-level-preserved
loop-level-preserved c = record {
  tiles = λ H. none_more H c.loop-level._level c.loop-level.tiles.items c.push.new.self.items c.new-none.result c.in_ok-push.ensures.items c.new-none.ensures.items (c.loop-level.invariant.tiles H);
  count = ap length c.in_ok-push.ensures.items ∙ length_push c.loop-level.tiles.items _ ∙ ap (λ n. n + 1) c.loop-level.invariant.count;
}

pub returns : goal.returns
returns c = λ H.
    let last : c.loop-level._level ≡ 8 = omega (arith, c.loop-level-test.false, c.loop-level.auto._level-end) in
    record {
      size = refl;
      tiles = c.loop-level.invariant.tiles H ∙ ap (λ (k : ℕ). edge H 256 k []) last;
    }
