use Rattle.std.proofs.Common.{◌∙◌, ◌++◌, ℕ, List, map, arith, sym, ap}
use Rattle.ct_step.proofs.Names.{text_in}
use Rattle.ct_step.proofs.Names.{rest-step}
use Rattle.ct_data_tiles.specs.declared.tile.Content.TheVariants.{Hashes}
use Rattle.ct_step.specs.Needed.{level_names, partial_name}
use Rattle.ct_step.proofs.Names.{names-none, names-more}
use Rattle.ct_step.proofs.edge_names.needed.Goals as goal

pub loop-level-init : goal.loop-level-init
loop-level-init c = record {
  count = omega arith;
  names = ap (map text_in) c.new-names.ensures.items ∙ sym (names-none c.args.line.now.tree_size);
}

pub loop-level-preserved : goal.loop-level-preserved
loop-level-preserved c =
    let l = c.loop-level in
    let n = c.args.line.now.tree_size in
    record {
      count = rest-step n l.count l.level l.invariant.count;
      names = c.in_ok-push_partial.ensures
          ∙ ap (λ (x : List (List ℕ)). x ++ partial_name (Hashes l.level) l.count) l.invariant.names
          ∙ ap (λ (m : ℕ). level_names l.level n ++ partial_name (Hashes l.level) m) l.invariant.count
          ∙ sym (names-more l.level n);
    }
