use Rattle.std.proofs.Common.{◌∙◌, ◌+◌, ◌++◌, ℕ, List, length, arith, refl, ap}
use Rattle.ct_data_tiles.proofs.Rows.{text_in}
use Rattle.ct_step.specs.Objects.{entry_object, FitsInBundle}
use Rattle.ct_step.specs.Bundle.{bundled_text}
use Rattle.ct_step.proofs.Loops.{mapped-at, full-object, name_of}
use Rattle.ct_step.proofs.Written.{written-none, written-more}
use Rattle.ct_step.proofs.objects.push_full.Goals as goal

pub loop-content-init : goal.loop-content-init
loop-content-init c = record {
  index = omega arith;
  written = λ M same fits. written-none c.args.bundle.now.items c.args.bundle.now.items (entry_object M) c.args.first refl;
}

pub push_tile-requires-clause-content : goal.push_tile-requires-clause-content
push_tile-requires-clause-content c =
    omega (
      arith,
      ap length c.deref.ensures.value,
      mapped-at text_in FitsInBundle c.args.tiles.now c.loop-content.content-index c.content-item.result c.requires.short c.loop-content-test.true c.content-item.is,
    )

pub loop-content-preserved : goal.loop-content-preserved
loop-content-preserved c = record {
  index = omega (arith, c.loop-content.invariant.index);
  written = λ M same fits.
      let l = c.loop-content in
      let i = l.content-index in
      written-more c.args.bundle.now.items l.bundle.items c.push_tile.new.bundle.items (entry_object M) c.args.first i
      (name_of 256 (c.args.first + i), c.content-item.result.items)
      (l.invariant.written M same fits)
      (c.in_ok-push_tile.ensures
      ∙ ap (λ (n : ℕ). l.bundle.items ++ bundled_text (name_of 256 n, c.deref.result.now)) l.invariant.index
      ∙ ap (λ (x : List ℕ). l.bundle.items ++ bundled_text (name_of 256 (c.args.first + i), x)) c.deref.ensures.value)
      (full-object c.args.first i M c.args.tiles.now c.content-item.result same fits c.loop-content-test.true c.content-item.is);
}
