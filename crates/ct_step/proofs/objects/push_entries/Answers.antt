use Rattle.std.proofs.Common.{◌≡◌, ◌∙◌, ◌+◌, ◌-◌, ◌/◌, ◌%◌, ◌<◌, ℕ, List, ◌++◌, length, map, arith, sym, ap, length-append}
use Rattle.std.proofs.lemmas.Result.{on_ok_weaker}
use Rattle.ct_data_tiles.proofs.Rows.{text_in}
use Rattle.ct_step.specs.Bundle.{bundle_text, bundled_text}
use Rattle.ct_step.specs.Objects.{each_from, entry_object}
use Rattle.ct_step.proofs.Loops.{full-tiles, last-object, data-even, data-odd, some_of, name_of}
use Rattle.ct_step.proofs.Written.{written-push}
use Rattle.ct_step.proofs.objects.push_entries.Goals as goal

pub returns-then-width-eq0 : goal.returns-then-width-eq0
returns-then-width-eq0 c = λ L N s n r.
    let b = c.args.bundle.now.items in
    let M = L ++ N in
    let T = c.deref.result.now in
    let object = entry_object M in
    let all : length M ≡ length L + length N = length-append L N in
    let t = full-tiles c.args.size L N T s (ap (map text_in) c.deref.ensures.value ∙ r.full) in
    let some : 0 < length N = omega (arith, n, some_of c.args.count c.if-count-eq0.false) in
    c.in_ok-push_full.ensures M t.1 (omega (arith, t.0, s, all))
    ∙ ap (λ (x : List (List ℕ × List ℕ)). b ++ bundle_text x)
    (ap (λ (x : ℕ). each_from object (x / 256) (length T)) s
    ∙ ap (each_from object (length L / 256)) t.0
    ∙ sym (data-even L N some (omega (arith, c.if-width-eq0.true, s, n, all))))

pub returns : goal.returns
returns c = on_ok_weaker c.push_tile.result
    (λ (w : c.push_tile.new.bundle.items ≡ c.push_full.new.bundle.items
    ++ bundled_text (name_of ((c.args.size + c.args.count) % 256) ((c.args.size + c.args.count) / 256), c.deref-2.result.now)). λ L N s n r.
    let b = c.args.bundle.now.items in
    let M = L ++ N in
    let T = c.deref.result.now in
    let object = entry_object M in
    let k = length M / 256 - length L / 256 in
    let all : length M ≡ length L + length N = length-append L N in
    let t = full-tiles c.args.size L N T s (ap (map text_in) c.deref.ensures.value ∙ r.full) in
    let some : 0 < length N = omega (arith, n, some_of c.args.count c.if-count-eq0.false) in
    let odd : 0 < length M % 256 = omega (arith, some_of ((c.args.size + c.args.count) % 256) c.if-width-eq0.false, s, n, all) in
    let full : c.push_full.new.bundle.items ≡ b ++ bundle_text (each_from object (length L / 256) k) =
    c.in_ok-push_full.ensures M t.1 (omega (arith, t.0, s, all))
    ∙ ap (λ (x : List (List ℕ × List ℕ)). b ++ bundle_text x)
    (ap (λ (x : ℕ). each_from object (x / 256) (length T)) s ∙ ap (each_from object (length L / 256)) t.0) in
    written-push b c.push_full.new.bundle.items c.push_tile.new.bundle.items (each_from object (length L / 256) k) _ _ full w
    (last-object M (c.args.size + c.args.count) c.deref-2.result.now (omega (arith, s, n, all)) (c.deref-2.ensures.value ∙ r.partial))
    ∙ ap (λ (x : List (List ℕ × List ℕ)). b ++ bundle_text x) (sym (data-odd L N some odd)))
    c.push_tile.ensures
