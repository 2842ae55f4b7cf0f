use Rattle.std.proofs.Common.{◌≡◌, ◌++◌, [], ap, ◌∙◌, arith}
use Rattle.std.proofs.lemmas.Grind.{common_steps}
use Rattle.std.specs.Arc.{arc_value}
use Rattle.shared_table.specs.Looked.{places_in}
use Rattle.shared_table.proofs.Sides.{part_begins, part_grows, part_stays, places_in-append}
use Rattle.shared_table.proofs.table.bucket_with.Goals as goal

pub returns-then-buckets-index : goal.returns-then-buckets-index
returns-then-buckets-index c =
    part_begins c.args.buckets.now (λ p b. places_in (arc_value p).items b) c.in_ok-bucket.bucket c.args.index c.args.part.now c.if-buckets-index.true
    (λ b. ap (λ (xs : _). places_in xs b) c.in_ok-bucket.ensures)

pub returns-then-is_empty : goal.returns-then-is_empty
returns-then-is_empty c =
    let none : c.args.part.now ≡ [] = grind (arith, common_steps) in
    let same : arc_value c.in_ok-bucket-2.bucket ≡ arc_value c.index-buckets-index.result = grind (arith, common_steps) in
    part_stays c.args.buckets.now (λ p b. places_in (arc_value p).items b) c.index-buckets-index.result c.in_ok-bucket-2.bucket c.args.index c.args.part.now
    c.if-buckets-index.false c.index-buckets-index.is none (λ b. ap (λ (v : _). places_in v.items b) same)

pub returns : goal.returns
returns c =
    let old = (arc_value c.index-buckets-index.result).items in
    let all : (arc_value c.in_ok-bucket-3.bucket).items ≡ old ++ c.args.part.now = grind (arith, common_steps) in
    part_grows c.args.buckets.now (λ p b. places_in (arc_value p).items b) c.index-buckets-index.result c.in_ok-bucket-3.bucket c.args.index c.args.part.now
    c.if-buckets-index.false c.index-buckets-index.is (λ b. ap (λ (xs : _). places_in xs b) all ∙ places_in-append old c.args.part.now b)
