use Rattle.std.proofs.Common.{◌≡◌, ◌∙◌, ◌+◌, ◌-◌, ◌/◌, [], ◌∷◌, ◌++◌, map, ap, arith}
use Rattle.std.proofs.lemmas.List.{map_push}
use Rattle.ct_step.specs.StepAnswers.{level_parts}
use Rattle.ct_step.proofs.EdgeParts.{behind_tiles, bytes_in, nothing_in_front, parts_more, parts_short, all_levels, no_edge, none_behind, some_behind, none_over, some_over}
use Rattle.ct_step.proofs.edge.edge_of.Goals as goal

pub loop-level-init : goal.loop-level-init
loop-level-init c =
    ap (λ l. behind_tiles (map bytes_in l) (level_parts 8 c.args.size (map bytes_in c.args.contents.now))) c.new-tiles.ensures.items
    ∙ nothing_in_front (level_parts 8 c.args.size (map bytes_in c.args.contents.now))

pub loop-level-preserved : goal.loop-level-preserved
loop-level-preserved c =
    let level = c.loop-level.level in
    let count = c.loop-level.count in
    let T = map bytes_in c.loop-level.tiles.items in
    let R = map bytes_in c.in-Some.behind.now in
    let p = c.in-Some.part.now in
    let more =
    parts_more (8 - level) count T (map bytes_in c.loop-level.rest.now) R p (omega (arith, c.loop-level-test.true)) c.in-Some.ensures in
    let pushed : map bytes_in c.push.new.self.items ≡ T ++ p ∷ [] =
    ap (map bytes_in) c.in_ok-push.ensures.items ∙ map_push bytes_in c.loop-level.tiles.items c.in_ok-from_slice.field-0
    ∙ ap (λ x. T ++ x ∷ []) c.in_ok-from_slice.ensures.items in
    let less : 8 - (level + 1) ≡ 8 - level - 1 = omega arith in
    ap (λ l. behind_tiles l (level_parts (8 - (level + 1)) (count / 256) R)) pushed
    ∙ ap (λ n. behind_tiles (T ++ p ∷ []) (level_parts n (count / 256) R)) less ∙ more ∙ c.loop-level.invariant

pub returns-in_default : goal.returns-in_default
returns-in_default c =
    let T = map bytes_in c.loop-level.tiles.items in
    let short =
    parts_short (8 - c.loop-level.level) c.loop-level.count T (map bytes_in c.loop-level.rest.now) (omega (arith, c.loop-level-test.true))
    c.in_default.ensures in
    no_edge c.args.size (map bytes_in c.args.contents.now) (short ∙ c.loop-level.invariant)

pub returns-then-is_empty : goal.returns-then-is_empty
returns-then-is_empty c =
    let T = map bytes_in c.loop-level.tiles.items in
    let R = map bytes_in c.loop-level.rest.now in
    let C = map bytes_in c.args.contents.now in
    let left = c.in-Some-part_of.left.now in
    let p = c.in-Some-part_of.entries.now in
    let found =
    all_levels (8 - c.loop-level.level) c.loop-level.count c.args.size T R C (omega (arith, c.loop-level-test.false)) c.loop-level.invariant in
    none_over T p left c.is_empty.result c.is_empty.ensures c.if-is_empty.true
    ∙ some_behind c.args.size T R C p (map bytes_in left) found c.in-Some-part_of.ensures

pub returns : goal.returns
returns c =
    let T = map bytes_in c.loop-level.tiles.items in
    let R = map bytes_in c.loop-level.rest.now in
    let C = map bytes_in c.args.contents.now in
    let left = c.in-Some-part_of.left.now in
    let p = c.in-Some-part_of.entries.now in
    let found =
    all_levels (8 - c.loop-level.level) c.loop-level.count c.args.size T R C (omega (arith, c.loop-level-test.false)) c.loop-level.invariant in
    some_over T p left c.is_empty.result c.is_empty.ensures c.if-is_empty.false
    ∙ some_behind c.args.size T R C p (map bytes_in left) found c.in-Some-part_of.ensures

pub returns-in_default-part_of : goal.returns-in_default-part_of
returns-in_default-part_of c =
    let T = map bytes_in c.loop-level.tiles.items in
    let R = map bytes_in c.loop-level.rest.now in
    let C = map bytes_in c.args.contents.now in
    let found =
    all_levels (8 - c.loop-level.level) c.loop-level.count c.args.size T R C (omega (arith, c.loop-level-test.false)) c.loop-level.invariant in
    none_behind c.args.size T R C found c.in_default-part_of.ensures
