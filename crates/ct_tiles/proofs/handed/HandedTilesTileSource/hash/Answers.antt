use Rattle.std.proofs.Common.{◌∙◌, ◌-◌, ◌*◌, sym, ap, take, drop}
use Rattle.ct_tiles.specs.Handed.{contents_in, has_hash}
use Rattle.ct_tiles.proofs.HandedOver.{hash_none, hash_missing, hash_next, hash_found}
use Rattle.ct_tiles.proofs.handed.HandedTilesTileSource.hash.Goals as goal

pub returns-in_default-split_first : goal.returns-in_default-split_first
returns-in_default-split_first c =
    let l = c.loop-tile in
    let none = c.in_default-split_first.ensures.cases in
    sym (l.invariant
    ∙ hash_missing l.tiles.now c.in-Some.more.now c.in-Some.tile.now l.contents.now c.args.level c.args.index c.in-Some.ensures.cases.0 none)

pub returns-then-has_hash : goal.returns-then-has_hash
returns-then-has_hash c =
    let l = c.loop-tile in
    let v = c.in-Some-split_first in
    let has = ap (λ x. has_hash c.in-Some.tile.now x c.args.level c.args.index) (sym c.deref.ensures.value) ∙ sym c.has_hash.ensures ∙ c.if-has_hash.true in
    let there = hash_found l.tiles.now c.in-Some.more.now c.in-Some.tile.now c.in-Some.ensures.cases.0 l.contents.now v.rest.now v.content.now c.args.level
    c.args.index v.ensures.cases.0 has in
    let place = 32 * (c.args.index - 256 * c.in-Some.tile.now.index) in
    c.hash_at.ensures ∙ ap (λ x. take 32 (drop place x)) c.deref-then-has_hash.ensures.value ∙ sym (l.invariant ∙ there)

pub loop-tile-preserved : goal.loop-tile-preserved
loop-tile-preserved c =
    let l = c.loop-tile in
    let v = c.in-Some-split_first in
    l.invariant
    ∙ hash_next l.tiles.now c.in-Some.more.now c.in-Some.tile.now c.in-Some.ensures.cases.0 l.contents.now v.rest.now v.content.now c.args.level c.args.index
    v.ensures.cases.0
    (ap (λ x. has_hash c.in-Some.tile.now x c.args.level c.args.index) (sym c.deref.ensures.value) ∙ sym c.has_hash.ensures ∙ c.if-has_hash.false)

pub returns : goal.returns
returns c =
    let l = c.loop-tile in
    sym (l.invariant ∙ hash_none l.tiles.now (contents_in l.contents.now) c.args.level c.args.index c.in_default.ensures.cases)
