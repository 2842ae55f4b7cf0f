use Rattle.std.proofs.Common.{◌≡◌, ◌*◌, ◌∙◌, sym, arith, length}
use Rattle.ct_tiles.specs.Handed.{contents_in}
use Rattle.ct_tiles.proofs.HandedOver.{fault_none, fault_missing, fault_next, fault_bad}
use Rattle.ct_tiles.proofs.handed.fault_among.Goals as goal
use Rattle.ct_tiles.proofs.handed.fault_among.Goals.{then-size-ne0-via-then-size-ne0, then-size-ne0-via-else-size-ne0+then-size-tile}

pub returns-in_default-split_first : goal.returns-in_default-split_first
returns-in_default-split_first c =
    let l = c.loop-tile in
    let none = c.in_default-split_first.ensures.cases in
    sym (l.invariant ∙ fault_missing l.tiles.now c.in-Some.more.now c.in-Some.tile.now l.contents.now c.in-Some.ensures.cases.0 none)

pub returns-then-size-ne0 : goal.returns-then-size-ne0
returns-then-size-ne0 c =
    let l = c.loop-tile in
    let v = c.in-Some-split_first in
    let size = c.len-size.ensures in
    let other : length v.content.now.items ≡ 32 * c.in-Some.tile.now.width → ⊥ = λ same.
    elim c.then-size-ne0.branch [
      | then-size-ne0-via-then-size-ne0 w ↦ let other = w.if-size-ne0.true in omega (arith, same, size, other)
      | then-size-ne0-via-else-size-ne0+then-size-tile w ↦ let other = w.if-size-tile.true in omega (arith, same, size, other)
    ] in
    sym (l.invariant
    ∙ fault_bad l.tiles.now c.in-Some.more.now c.in-Some.tile.now c.in-Some.ensures.cases.0 l.contents.now v.rest.now v.content.now v.ensures.cases.0 other)

pub loop-tile-preserved : goal.loop-tile-preserved
loop-tile-preserved c =
    let l = c.loop-tile in
    let v = c.in-Some-split_first in
    let size = c.len-size.ensures in
    l.invariant
    ∙ fault_next l.tiles.now c.in-Some.more.now c.in-Some.tile.now c.in-Some.ensures.cases.0 l.contents.now v.rest.now v.content.now v.ensures.cases.0
    (omega (arith, size, c.if-size-ne0.false, c.if-size-tile.false))

pub returns : goal.returns
returns c =
    let l = c.loop-tile in
    sym (l.invariant ∙ fault_none l.tiles.now (contents_in l.contents.now) c.in_default.ensures.cases)
