use Rattle.std.proofs.Common.{◌∙◌, ◌++◌, ℕ, List, arith, sym, ap, get_or}
use Rattle.std.proofs.lemmas.List.{append-nil}
use Rattle.ct_tiles.specs.declared.row.Row.{Row}
use Rattle.ct_step.proofs.Widths.{rest-step}
use Rattle.ct_step.specs.Bundle.{bundle_text}
use Rattle.ct_step.specs.Objects.{level_objects, cut_level}
use Rattle.ct_step.proofs.Loops.{levels-none, levels-step, rows-eight, under}
use Rattle.ct_step.proofs.Written.{written-both}
use Rattle.ct_step.proofs.objects.push_levels.Goals as goal

pub loop-level-init : goal.loop-level-init
loop-level-init c = record {
  known = omega arith;
  written = λ H D B s t.
      sym (ap (λ (x : List (List ℕ × List ℕ)). c.args.bundle.now.items ++ bundle_text x) (levels-none H D B) ∙ append-nil c.args.bundle.now.items);
}

pub push_grown-requires-clause-known : goal.push_grown-requires-clause-known
push_grown-requires-clause-known c = omega (arith, c.loop-level.invariant.known, under c.args.size c.loop-level.level, c.requires)

pub loop-level-preserved : goal.loop-level-preserved
loop-level-preserved c =
    let l = c.loop-level in
    let r = c.index-level_rows-place.result in
    record {
      known = rest-step c.args.size l.known l.level l.invariant.known;
      written = λ H D B s t.
          written-both c.args.bundle.now.items l.bundle.items c.push_grown.new.bundle.items (level_objects H l.level D B)
          (cut_level l.level l.known r.hashes.items) (l.invariant.written H D B s t)
          (c.in_ok-push_grown.ensures
          ∙ ap (λ (x : List (List ℕ)). l.bundle.items ++ bundle_text (cut_level l.level l.known x))
          (c.deref.ensures.value ∙ ap (λ (q : Row). q.hashes.items) (sym c.index-level_rows-place.is)))
          ∙ ap (λ (x : List (List ℕ × List ℕ)). c.args.bundle.now.items ++ bundle_text x)
          (levels-step H l.level c.args.size l.known D B c.args.level_rows.now r c.loop-level-test.true s l.invariant.known t
          (c.index-level_rows-place.is ∙ ap (λ (n : ℕ). get_or c.args.level_rows.now n r) c.from-place.ensures));
    }

pub returns-then-place-level_rows : goal.returns-then-place-level_rows
returns-then-place-level_rows c = λ H D B s t.
    absurd (omega (arith, rows-eight H D B c.args.level_rows.now t, c.if-place-level_rows.true, c.loop-level-test.true, c.from-place.ensures))
