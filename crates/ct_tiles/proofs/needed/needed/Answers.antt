use Rattle.std.proofs.Common.{◌-◌, ◌+◌, ◌/◌, ◌++◌, arith, sym, ap, ◌∙◌}
use Rattle.std.proofs.lemmas.List.{append-nil, append_assoc}
use Rattle.ct_tiles.specs.Needed.{level_tiles, tiles_from}
use Rattle.ct_tiles.proofs.Levels.{tiles_step, tiles_end}
use Rattle.ct_tiles.proofs.needed.needed.Goals as goal

pub loop-level-preserved : goal.loop-level-preserved
loop-level-preserved c =
    let l = c.loop-level in
    let here = level_tiles l.level l.first l.own l.last l.size in
    let rest = tiles_from (8 - (l.level + 1)) (l.level + 1) (l.first / 256) (l.own / 256) (l.last / 256) (l.size / 256) in
    record {
      same = l.invariant.same
          ∙ ap (λ q. l.tiles.items ++ q) (tiles_step l.level l.first l.own l.last l.size (omega (arith, c.loop-level-test.true)))
          ∙ sym (append_assoc l.tiles.items here rest)
          ∙ ap (λ q. q ++ rest) (sym c.in_ok-add_level.ensures);
      few = omega (arith, c.loop-level-test.true);
      within = omega (arith, l.invariant.within);
    }

pub returns : goal.returns
returns c =
    let l = c.loop-level in
    sym (l.invariant.same
    ∙ ap (λ q. l.tiles.items ++ q) (tiles_end l.level l.first l.own l.last l.size (omega (arith, c.loop-level-test.false, l.invariant.few)))
    ∙ append-nil l.tiles.items)
